-- A whole content, FID by FID.
use Rattle.std.specs.Prelude.{nat_eq}
use Rattle.std.proofs.Common.{IsTrue, Bool, true, false, ◌≡◌, ℕ, suc, ◌+◌, ◌<◌, ◌≤◌, Some, None, List, [], ◌∷◌, ◌++◌, length, drop, arith, sym, ◌∙◌, ap, refl, subst, length-append}
use Rattle.std.proofs.lemmas.Bool.Decides.{nat_tests}
use Rattle.std.proofs.lemmas.List.{append_cancel_left, drop_at}
use Rattle.udf_file_model.specs.Fid.{IsFid, Begins, fid_at}
use Rattle.udf_file_model.specs.Scan.{fids_from, fids_of}
use Rattle.udf_file_model.specs.Pack.{packed, IsWholeContent}
use Rattle.udf_file_model.proofs.Fids.{found_begins, is_long}
use Rattle.udf_file_model.proofs.Scanned.{at_fid, fids_anywhere, first_is}

-- behind a whole FID the rest decides
pub on_whole : (size : ℕ) (fid rest : List ℕ) → IsFid size fid → IsWholeContent size rest → IsWholeContent size (fid ++ rest)
on_whole size fid rest is whole =
    ap (λ xs. fid ++ xs) (whole ∙ ap packed (sym (fids_anywhere size (0 + length fid) 0 rest)))
    ∙ ap (λ ps. packed (fids_of ps)) (sym (at_fid size 0 fid rest is))

pub off_whole : (size : ℕ) (fid rest : List ℕ) → IsFid size fid → IsWholeContent size (fid ++ rest) → IsWholeContent size rest
off_whole size fid rest is whole =
    append_cancel_left fid rest (packed (fids_of (fids_from size (0 + length fid) 0 rest))) (whole ∙ ap (λ ps. packed (fids_of ps)) (at_fid size 0 fid rest is))
    ∙ ap packed (fids_anywhere size (0 + length fid) 0 rest)

pub none_whole : (size : ℕ) → IsWholeContent size []
unfolding fids_from
none_whole size = refl

-- where no FID begins, nothing is whole but the end
pub stuck : (size : ℕ) (bytes : List ℕ) → fid_at size bytes ≡ None → 0 < length bytes → IsWholeContent size bytes → ⊥
stuck size bytes none some whole = first_is size bytes none some whole

-- the loop's step: a FID that begins the bytes, and what is behind it
module _ (size : ℕ) (bytes fid after : List ℕ) (found : fid_at size bytes ≡ Some fid) (behind : after ≡ drop (length fid) bytes) where
  begun : Begins size bytes fid
  begun = found_begins size bytes fid found

  rest_is : after ≡ begun.rest
  rest_is = behind ∙ ap (drop (length fid)) begun.split ∙ drop_at fid begun.rest (length fid) refl

  split_is : bytes ≡ fid ++ after
  split_is = begun.split ∙ ap (λ xs. fid ++ xs) (sym rest_is)

  pub fid_room : length fid ≤ length bytes
  fid_room = omega (arith, ap length begun.split, length-append fid begun.rest)

  pub some_passed : length after < length bytes
  some_passed = omega (arith, ap length split_is, length-append fid after, is_long size fid begun.is)

  pub whole_back : IsWholeContent size after → IsWholeContent size bytes
  whole_back h = subst (IsWholeContent size) (sym split_is) (on_whole size fid after begun.is h)

  pub whole_on : IsWholeContent size bytes → IsWholeContent size after
  whole_on h = off_whole size fid after begun.is (subst (IsWholeContent size) split_is h)

pub ends : (size : ℕ) (bytes : List ℕ) (t : Bool) → fid_at size bytes ≡ None → t ≡ nat_eq (length bytes) 0
    → (IsTrue t → IsWholeContent size bytes) × (IsWholeContent size bytes → IsTrue t)
ends size [] t none is = (λ h. none_whole size, λ h. is)
ends size (byte ∷ bytes) t none is = (λ h. let e : true ≡ false = sym h ∙ is ∙ more in cc, λ h. absurd (stuck size (byte ∷ bytes) none (omega arith) h))
  where
    more : nat_eq (suc (length bytes)) 0 ≡ false
    more = grind (arith, nat_tests)
