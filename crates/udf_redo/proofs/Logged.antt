-- What stands in the side file once a log is written behind a closed gate.
use Rattle.std.proofs.Common.{◌≡◌, ◌<◌, ◌≤◌, ℕ, ◌+◌, ◌*◌, ◌/◌, ◌^◌, true, List, ◌++◌, length, drop, refl, sym, ◌∙◌, ap, subst, arith, Ok}
use Rattle.std.specs.List.{flat_map, All}
use Rattle.std.proofs.lemmas.Slice.Eq.{bytes_eq-Decides}
use Rattle.std.proofs.lemmas.Bool.{and_from, eq-eqb, le-leb, lt-ltb}
use Rattle.std.proofs.Math.Nat.{mul-le-mul_right, div-mul-le_self}
use Rattle.sha2.specs.Sha256.{sha256, digest_bytes}
use Rattle.udf_outside.specs.Stops.{put}
use Rattle.udf_redo.specs.Log.{Edit}
use Rattle.udf_blocks.specs.Planned.{Planned}
use Rattle.udf_redo.specs.declared.seal.SealedRun.{SealedRun}
use Rattle.udf_redo.specs.declared.head.LogHead.{LogHead}
use Rattle.udf_redo.specs.declared.side.SideState.TheVariants.{Closed}
use Rattle.udf_model.proofs.Sizes.{size_cases}
use Rattle.udf_redo.specs.Log.{gate, head_in, records_of, is_head, are_lawful, is_log_of, sealed_in, state_of, head_bytes, record_bytes, opened}
use Rattle.udf_redo.specs.Settled.{IsOpenLog}
use Rattle.udf_redo.specs.Sealing.{head_for, IsLoggable}
use Rattle.udf_redo.specs.Front.{IsShut}
use Rattle.udf_redo.proofs.States.{opens_state, state_closed}
use Rattle.udf_redo.proofs.Reading.{Numbers, Blocks, Fits, laid, head_back, plan_back, grammar_back, put_laid, laid_long}

module _ (head : LogHead) (edits : List Edit) (fits : Fits head) (count : head.records ≡ length edits) (blocks : Blocks head.size edits) (numbers : Numbers edits) where
  module _ (side new : List ℕ) (shut : IsShut side) (is : new ≡ put side 9 (head_bytes head ++ flat_map record_bytes edits)) where
    abbrev tail : List ℕ
    tail = drop (9 + length (head_bytes head ++ flat_map record_bytes edits)) side

    new_laid : new ≡ laid (gate side) head edits tail
    new_laid = is ∙ put_laid side head edits shut.long shut.named

    pub head_new : head_in new ≡ head
    head_new = ap (λ (l : List ℕ). head_in l) new_laid ∙ head_back (gate side) head edits tail fits

    pub records_new : records_of new ≡ edits
    records_new = ap (λ (l : List ℕ). records_of l) new_laid ∙ plan_back (gate side) head edits tail fits count blocks numbers

    pub closed_new : state_of new ≡ Ok Closed
    closed_new = ap (λ (l : List ℕ). state_of l) new_laid ∙ state_closed (laid (gate side) head edits tail) (laid_long (gate side) head edits tail) refl shut.not_open

    pub open_new : (image : List ℕ) → is_head head ≡ true → are_lawful head 0 edits ≡ true → is_log_of head image ≡ true → IsOpenLog (opened new) image
    open_new image lawful sectors of =
        let file = laid 0x4F head edits tail in
        let reads : head_in file ≡ head = head_back 0x4F head edits tail fits in
        let log : IsOpenLog file image = record {
          lawful = opens_state file (record {
            long = laid_long 0x4F head edits tail;
            named = refl;
            gated = refl;
            lawful = grammar_back 0x4F head edits tail fits count blocks numbers lawful sectors;
          });
          same_image = ap (λ (h : LogHead). is_log_of h image) reads ∙ of;
        } in
        subst (λ (l : List ℕ). IsOpenLog l image) (sym (ap (λ (l : List ℕ). opened l) new_laid)) log

length_digest : (bytes : List ℕ) → length (sha256 bytes) ≡ 32
unfolding sha256 digest_bytes
length_digest bytes = refl

module _ (plan : Planned) (blocks : ℕ) (sealed : SealedRun) (image : List ℕ) (is : IsLoggable blocks sealed plan)
    (range : blocks < 2 ^ 32) (few : length plan.blocks < 2 ^ 32) where
  abbrev head : LogHead
  head = head_for plan blocks sealed image

  pub fits_for : Fits head
  fits_for = record {
    size = omega (arith, (size_cases plan.size is.size).1);
    blocks = range;
    first = omega (arith, is.some_sealed, is.sealed_inside);
    sealed = omega (arith, is.some_sealed, is.sealed_inside);
    seal = length_digest _;
    records = few;
  }

  pub head_for_lawful : is_head head ≡ true
  unfolding is_head
  head_for_lawful =
      and_from _ _ is.size
      (and_from _ _ (lt-ltb 0 sealed.count (omega (arith, is.some_sealed)))
      (and_from _ _ (le-leb (sealed.first + sealed.count) blocks is.sealed_inside) (lt-ltb 0 (length plan.blocks) (omega (arith, is.some)))))

  pub of_for : length image / plan.size ≡ blocks → is_log_of head image ≡ true
  unfolding is_log_of sealed_in
  of_for count = and_from _ _ (eq-eqb (length image / plan.size) blocks count) ((bytes_eq-Decides head.seal head.seal).1 refl)

  pub numbers_for : All (λ edit. edit.0 < blocks) plan.blocks → Numbers plan.blocks
  numbers_for below = λ k d lt. let h = below k d lt in omega arith

-- so many blocks lie in an image of that many
pub blocks_inside : (bytes size blocks count : ℕ) → bytes / size ≡ blocks → count ≤ blocks → count * size ≤ bytes
blocks_inside bytes size blocks count is le =
    let less : count * size ≤ blocks * size = mul-le-mul_right size le in
    let within : blocks * size ≤ bytes = subst (λ (n : ℕ). n * size ≤ bytes) is (div-mul-le_self bytes size) in
    omega arith
