-- A write of one record that is torn is mended by the records as a whole.
use Rattle.std.proofs.Common.{◌≡◌, ◌<◌, ◌≤◌, ◌⊎◌, inr, ⊎_elim, ◌/◌, ◌&&◌, ◌==◌, ℕ, zero, suc, ◌+◌, ◌*◌, List, [], ◌∷◌, ◌++◌, length, get_or, take, refl, sym, ◌∙◌, ap, subst, arith, add-one, Some, slice_get}
use Rattle.std.specs.List.{All}
use Rattle.std.specs.Str.{bytes_eq}
use Rattle.std.proofs.Math.Nat.{mul-le-mul_right, suc-mul, add-mul}
use Rattle.std.proofs.lemmas.List.{take_more, take_all}
use Rattle.std.proofs.lemmas.Option.{get_or_from_slice_get, slice_get_within}
use Rattle.sha2.specs.Sha256.{sha256}
use Rattle.udf_outside.specs.Stops.{Pair, Torn, put, slice_of}
use Rattle.udf_volume_model.specs.Plans.{ClimbsFrom}
use Rattle.udf_redo.specs.Log.{Edit}
use Rattle.udf_redo.specs.declared.head.LogHead.{LogHead}
use Rattle.udf_redo.specs.Log.{head_in, records_of, is_log_of, sealed_in, seal_of}
use Rattle.udf_redo.specs.Settled.{applied, applied_to, IsOpenLog, SameElsewhere}
use Rattle.udf_redo.specs.Runs.{IsApplying}
use Rattle.udf_redo.proofs.Puts.{length-put, put_torn, torn_length, torn-put, slice-torn_before, slice-torn_after, torn_elsewhere}
use Rattle.udf_redo.proofs.States.{settled_open}
use Rattle.udf_redo.proofs.Lawful.{FitsIn, open_ascends, open_apart, open_fits}

applied-push : (size : ℕ) (edits : List Edit) (edit : Edit) (image : List ℕ) → applied size (edits ++ edit ∷ []) image ≡ put (applied size edits image) (edit.0 * size) edit.1
unfolding applied
applied-push size [] edit image = refl
applied-push size (first ∷ edits) edit image = applied-push size edits edit (put image (first.0 * size) first.1)

ascends_at : (least : ℕ) (edits : List Edit) (k : ℕ) (r : Edit) → ClimbsFrom least edits → k < length edits → least ≤ (get_or edits k r).0
ascends_at least [] k r up lt = absurd (omega arith)
ascends_at least (first ∷ edits) zero r up lt = up.0
ascends_at least (first ∷ edits) (suc k) r up lt = omega (arith, up.0, ascends_at (first.0 + 1) edits k r up.1 (omega arith))

pub applied_torn : (size end least : ℕ) (edits : List Edit) (k : ℕ) (r : Edit) (c d : List ℕ) → ClimbsFrom least edits → All (FitsIn size end) edits → end ≤ length c → k < length edits
    → Torn ((get_or edits k r).0 * size) size c d → applied size edits d ≡ applied size edits c
unfolding applied
applied_torn size end least [] k r c d up fits within lt torn = absurd (omega arith)
applied_torn size end least (first ∷ edits) zero r c d up fits within lt torn =
    let here : FitsIn size end first = fits 0 first (omega arith) in
    ap (λ (v : List ℕ). applied size edits v) (put_torn c d (first.0 * size) first.1 (subst (λ (n : ℕ). Torn (first.0 * size) n c d) (sym here.0) torn))
applied_torn size end least (first ∷ edits) (suc k) r c d up fits within lt torn =
    let s = get_or edits k r in
    let here : FitsIn size end first = fits 0 first (omega arith) in
    let rest : All (FitsIn size end) edits = λ j e less. fits (suc j) e (omega arith) in
    let at : FitsIn size end s = rest k r (omega arith) in
    let above : first.0 + 1 ≤ s.0 = ascends_at (first.0 + 1) edits k r up.1 (omega arith) in
    let apart : (first.0 + 1) * size ≤ s.0 * size = mul-le-mul_right size above in
    let step : (first.0 + 1) * size ≡ first.0 * size + size = rw add-one (suc-mul first.0 size) in
    let long : length (put c (first.0 * size) first.1) ≡ length c = length-put c (first.0 * size) first.1 (omega (arith, here.0, here.1)) in
    let after = torn-put c d (s.0 * size) size (first.0 * size) first.1 torn (omega (arith, here.0)) (omega (arith, at.1)) in
    applied_torn size end (first.0 + 1) edits k r (put c (first.0 * size) first.1) (put d (first.0 * size) first.1) up.1 rest (omega arith) (omega arith) after

-- the image so far, and one block more
pub written : (image : List ℕ) (size : ℕ) (edits : List Edit) (k : ℕ) (edit : Edit) (old new : List ℕ) → slice_get edits k ≡ Some edit → old ≡ applied size (take k edits) image
    → new ≡ put old (edit.0 * size) edit.1 → new ≡ applied size (take (k + 1) edits) image
written image size edits k edit old new got was is =
    let more : take (k + 1) edits ≡ take k edits ++ edit ∷ [] = take_more edits k edit (slice_get_within edits k edit got) ∙ ap (λ (q : Edit). take k edits ++ q ∷ []) (get_or_from_slice_get edits k edit edit got) in
    is ∙ ap (λ (v : List ℕ). put v (edit.0 * size) edit.1) was ∙ sym (applied-push size (take k edits) edit image) ∙ ap (λ (q : List Edit). applied size q image) (sym more)

pub all_written : (image : List ℕ) (size : ℕ) (edits : List Edit) (k : ℕ) (now : List ℕ) → length edits ≤ k → now ≡ applied size (take k edits) image → now ≡ applied size edits image
all_written image size edits k now le is = is ∙ ap (λ (q : List Edit). applied size q image) (take_all k edits le)

pub none_written : (image : List ℕ) (size : ℕ) (edits : List Edit) → image ≡ applied size (take 0 edits) image
unfolding applied
none_written image size edits = refl

-- the side file as it was, and an image that the recorded blocks alone part from the image
pub record IsNear (side image : List ℕ) (pair : Pair) : Type 0 where
  pub same_side : pair.1 ≡ side
  pub same_length : length pair.0 ≡ length image
  pub same_seal : sealed_in (head_in side) pair.0 ≡ sealed_in (head_in side) image
  pub same_applied : applied_to side pair.0 ≡ applied_to side image
  pub same_elsewhere : SameElsewhere (head_in side).size (records_of side) image pair.0

-- the same seal and length
same_of : (head : LogHead) (v w : List ℕ) → length v ≡ length w → sealed_in head v ≡ sealed_in head w → is_log_of head v ≡ is_log_of head w
unfolding is_log_of
same_of head v w long seals =
    ap (λ (n : ℕ). (n / head.size == head.blocks) && bytes_eq (seal_of head v) head.seal) long
    ∙ ap (λ (s : List ℕ). (length w / head.size == head.blocks) && bytes_eq s head.seal) (ap (λ (s : List ℕ). sha256 s) seals)

module _ (side image : List ℕ) (log : IsOpenLog side image) where
  abbrev head : LogHead
  head = head_in side

  abbrev edits : List Edit
  edits = records_of side

  pub near_log : (pair : Pair) → IsNear side image pair → IsOpenLog side pair.0
  near_log pair near = record { lawful = log.lawful; same_image = same_of head pair.0 image near.same_length near.same_seal ∙ log.same_image }

  pub near_applying : (pair : Pair) → IsNear side image pair → IsApplying side image pair
  near_applying pair near =
      let also : IsOpenLog pair.1 pair.0 = subst (λ (s : List ℕ). IsOpenLog s pair.0) (sym near.same_side) (near_log pair near) in
      record {
        same_length = near.same_length;
        same_head = ap (λ (s : List ℕ). head_in s) near.same_side;
        same_seal = near.same_seal;
        same_elsewhere = near.same_elsewhere;
        goes_on = inr also;
        stands_for = settled_open pair.0 pair.1 also ∙ ap (λ (s : List ℕ). applied_to s pair.0) near.same_side ∙ near.same_applied;
      }

  pub near_start : (pair : Pair) → pair.0 ≡ image → pair.1 ≡ side → IsNear side image pair
  near_start pair is also = record {
    same_side = also;
    same_length = ap length is;
    same_seal = ap (λ (v : List ℕ). sealed_in head v) is;
    same_applied = ap (λ (v : List ℕ). applied_to side v) is;
    same_elsewhere = λ i out. ap (λ (v : List ℕ). get_or v i 0) is;
  }

  seal_step : (k : ℕ) (r : Edit) (d p : List ℕ) → k < length edits → Torn ((get_or edits k r).0 * head.size) head.size d p → sealed_in head p ≡ sealed_in head d
  unfolding sealed_in
  seal_step k r d p lt torn =
      let size = head.size in
      let first = head.first in
      let n = head.sealed in
      let s = (get_or edits k r).0 in
      let behind : s < first → slice_of p (first * size) (n * size) ≡ slice_of d (first * size) (n * size) = λ below.
      let le : suc s * size ≤ first * size = mul-le-mul_right size below in
      let is : suc s * size ≡ s * size + size = suc-mul s size in
      slice-torn_after d p (s * size) size (first * size) (n * size) torn (omega (arith, le, is)) in
      let front : first + n ≤ s → slice_of p (first * size) (n * size) ≡ slice_of d (first * size) (n * size) = λ above.
      let le : (first + n) * size ≤ s * size = mul-le-mul_right size above in
      let is : (first + n) * size ≡ first * size + n * size = add-mul first n size in
      slice-torn_before d p (s * size) size (first * size) (n * size) torn (omega (arith, le, is)) in
      ⊎_elim behind front (open_apart side image log k r lt)

  -- one torn block of the log more
  pub near_step : (k : ℕ) (edit : Edit) (d p : Pair) → slice_get edits k ≡ Some edit → IsNear side image d → Torn (edit.0 * head.size) (length edit.1) d.0 p.0 → p.1 ≡ d.1 → IsNear side image p
  near_step k edit d p got near torn same =
      let lt = slice_get_within edits k edit got in
      let is : get_or edits k edit ≡ edit = get_or_from_slice_get edits k edit edit got in
      let size = head.size in
      let fits : FitsIn size (length image) edit = subst (FitsIn size (length image)) is (open_fits side image log k edit lt) in
      let at : Torn (edit.0 * size) size d.0 p.0 = subst (λ (n : ℕ). Torn (edit.0 * size) n d.0 p.0) fits.0 torn in
      let there : Torn ((get_or edits k edit).0 * size) size d.0 p.0 = subst (λ (q : Edit). Torn (q.0 * size) size d.0 p.0) (sym is) at in
      let inside : edit.0 * size + size ≤ length d.0 = omega (arith, fits.1, near.same_length) in
      record {
        same_side = same ∙ near.same_side;
        same_length = torn_length d.0 p.0 (edit.0 * size) size at inside ∙ near.same_length;
        same_seal = seal_step k edit d.0 p.0 lt there ∙ near.same_seal;
        same_applied = applied_torn size (length image) 0 edits k edit d.0 p.0 (open_ascends side image log) (open_fits side image log) (omega (arith, near.same_length)) lt there ∙ near.same_applied;
        same_elsewhere = λ i out. torn_elsewhere d.0 p.0 (edit.0 * size) size i at (subst (λ (q : Edit). (i < q.0 * size) ⊎ (q.0 * size + size ≤ i)) is (out k edit lt)) ∙ near.same_elsewhere i out;
      }
