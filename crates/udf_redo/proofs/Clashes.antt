-- In what an image differs from the one that a log was made of.
use Rattle.std.proofs.Common.{◌≡◌, ◌≢◌, ◌≤◌, ⊎_elim, ℕ, ◌+◌, ◌*◌, ◌/◌, ◌==◌, true, false, if◌then◌else◌, List, sym, ◌∙◌, ap, subst, arith, Option, Some, None, Result, Ok}
use Rattle.std.specs.Str.{bytes_eq}
use Rattle.std.proofs.lemmas.Bool.{cond-true, cond-false, cases_Bool, and_from, eq-eqb, ne_eqb, eqb-true, eqb-false}
use Rattle.std.proofs.Math.Nat.{mul-le-mul_right, div-mul-le_self}
use Rattle.udf_model.specs.Image.{blocks_in}
use Rattle.udf_redo.specs.declared.head.LogHead.{LogHead}
use Rattle.udf_redo.specs.declared.stop.Clash.{Clash}
use Rattle.udf_redo.specs.declared.stop.Clash.TheVariants.{Blocks, Seal}
use Rattle.sha2.specs.Sha256.{sha256}
use Rattle.udf_outside.specs.Stops.{slice_of}
use Rattle.udf_redo.specs.declared.side.SideState.{SideState}
use Rattle.udf_redo.specs.declared.side.SideState.TheVariants.{Open}
use Rattle.udf_redo.specs.declared.stop.RedoStop.{RedoStop}
use Rattle.udf_redo.proofs.States.{opens_from}
use Rattle.udf_redo.specs.Log.{head_in, is_log_of, sealed_in, seal_of, state_of}
use Rattle.udf_redo.specs.Settled.{clash_in, IsOpenLog}

abbrev by_seal : LogHead → List ℕ → Option Clash
by_seal head image = if bytes_eq (seal_of head image) head.seal then None else Some (Seal head.seal (seal_of head image))

pub other_count : (head : LogHead) (image : List ℕ) → blocks_in head.size image ≢ head.blocks → clash_in head image ≡ Some (Blocks head.blocks (blocks_in head.size image))
unfolding clash_in
other_count head image not =
    cond-false (blocks_in head.size image == head.blocks) (by_seal head image) (Some (Blocks head.blocks (blocks_in head.size image))) (ne_eqb (blocks_in head.size image) head.blocks not)

same_blocks : (head : LogHead) (image : List ℕ) → blocks_in head.size image ≡ head.blocks → clash_in head image ≡ by_seal head image
unfolding clash_in
same_blocks head image is =
    cond-true (blocks_in head.size image == head.blocks) (by_seal head image) (Some (Blocks head.blocks (blocks_in head.size image))) (eq-eqb (blocks_in head.size image) head.blocks is)

pub other_seal : (head : LogHead) (image : List ℕ) → blocks_in head.size image ≡ head.blocks → bytes_eq (seal_of head image) head.seal ≡ false → clash_in head image ≡ Some (Seal head.seal (seal_of head image))
other_seal head image is other = same_blocks head image is ∙ cond-false (bytes_eq (seal_of head image) head.seal) None (Some (Seal head.seal (seal_of head image))) other

pub no_clash : (head : LogHead) (image : List ℕ) → blocks_in head.size image ≡ head.blocks → bytes_eq (seal_of head image) head.seal ≡ true → clash_in head image ≡ None
no_clash head image is same = same_blocks head image is ∙ cond-true (bytes_eq (seal_of head image) head.seal) None (Some (Seal head.seal (seal_of head image))) same

-- a log without a clash is one of the image
pub is_of : (head : LogHead) (image : List ℕ) → clash_in head image ≡ None → is_log_of head image ≡ true
unfolding is_log_of
is_of head image none =
    ⊎_elim
    (λ count.
    let is = eqb-true (blocks_in head.size image) head.blocks count in
    ⊎_elim (λ seal. and_from _ _ count seal)
    (λ other. absurd (let no : Some (Seal head.seal (seal_of head image)) ≡ None = sym (other_seal head image is other) ∙ none in cc))
    (cases_Bool (bytes_eq (seal_of head image) head.seal)))
    (λ other. absurd (let no : Some (Blocks head.blocks (blocks_in head.size image)) ≡ None = sym (other_count head image (eqb-false (blocks_in head.size image) head.blocks other)) ∙ none in cc))
    (cases_Bool (blocks_in head.size image == head.blocks))

-- the sealed sectors lie in an image of the log's block count
pub sealed_inside : (head : LogHead) (bytes : ℕ) → bytes / head.size ≡ head.blocks → head.first + head.sealed ≤ head.blocks → (head.first + head.sealed) * head.size ≤ bytes
sealed_inside head bytes is le =
    let less : (head.first + head.sealed) * head.size ≤ head.blocks * head.size = mul-le-mul_right head.size le in
    let within : head.blocks * head.size ≤ bytes = subst (λ (n : ℕ). n * head.size ≤ bytes) is (div-mul-le_self bytes head.size) in
    omega arith

-- the seal that was computed is the digest of the sealed sectors
pub seal_is : (head : LogHead) (image seal : List ℕ) → seal ≡ sha256 (slice_of image (head.first * head.size) (head.sealed * head.size)) → seal ≡ seal_of head image
unfolding sealed_in
seal_is head image seal is = is

-- an open log without a clash is one of the image
pub open_without : (side image : List ℕ) (head : LogHead) → state_of side ≡ Ok (Open head) → clash_in head image ≡ None → IsOpenLog side image
open_without side image head state none =
    let same : head ≡ head_in side = (opens_from side head state).1 in
    record {
      lawful = state ∙ ap (λ (h : LogHead). let open_side : Result SideState RedoStop = Ok (Open h) in open_side) same;
      same_image = ap (λ (h : LogHead). is_log_of h image) (sym same) ∙ is_of head image none;
    }

pub state_head : (side : List ℕ) (head : LogHead) → state_of side ≡ Ok (Open head) → head_in side ≡ head
state_head side head state = sym (opens_from side head state).1
