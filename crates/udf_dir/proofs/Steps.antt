-- The search for the first FID, step by step.
use Rattle.std.proofs.Common.{◌≡◌, ℕ, ◌+◌, ◌≤◌, Some, None, List, [], ◌∷◌, length, drop, arith, sym, ◌∙◌, ap, refl, length-append, length-drop}
use Rattle.std.proofs.lemmas.List.{drop-drop, drop_all, drop_at}
use Rattle.udf_file_model.specs.Fid.{Begins, fid_at}
use Rattle.udf_file_model.specs.Scan.{fids_from}
use Rattle.udf_file_model.proofs.Fids.{found_begins}
use Rattle.udf_file_model.proofs.Scanned.{at_none, at_fid}
use Rattle.udf_dir.specs.First.{TakesFirst}

-- nothing is taken from the bytes before an offset
abbrev pub NoneBefore : ℕ → List ℕ → ℕ → Type 0
NoneBefore size bytes n = (at : ℕ) → fids_from size at 0 bytes ≡ fids_from size (at + n) 0 (drop n bytes)

pub none_before_0 : (size : ℕ) (bytes : List ℕ) → NoneBefore size bytes 0
none_before_0 size bytes at = ap (λ k. fids_from size k 0 bytes) (let e : at ≡ at + 0 = omega arith in e)

pub four_more : (size : ℕ) (bytes : List ℕ) (n : ℕ) → NoneBefore size bytes n → fid_at size (drop n bytes) ≡ None → NoneBefore size bytes (n + 4)
four_more size bytes n before none at =
    before at ∙ at_none size (at + n) (drop n bytes) none
    ∙ ap (λ xs. fids_from size (at + n + 4) 0 xs) (drop-drop 4 n bytes)
    ∙ ap (λ k. fids_from size k 0 (drop (n + 4) bytes)) (let e : at + n + 4 ≡ at + (n + 4) = omega arith in e)

pub none_at_all : (size : ℕ) (bytes : List ℕ) (n : ℕ) → NoneBefore size bytes n → length bytes ≤ n → (at : ℕ) → fids_from size at 0 bytes ≡ []
unfolding fids_from
none_at_all size bytes n before over at = before at ∙ ap (λ xs. fids_from size (at + n) 0 xs) (drop_all n bytes over)

pub first_there : (size : ℕ) (bytes fid : List ℕ) (n : ℕ) → NoneBefore size bytes n → n ≤ length bytes → fid_at size (drop n bytes) ≡ Some fid → TakesFirst size bytes (n, fid)
first_there size bytes fid n before room found = made (found_begins size (drop n bytes) fid found)
  where
    made : Begins size (drop n bytes) fid → TakesFirst size bytes (n, fid)
    made b =
        let rest : drop (n + length fid) bytes ≡ b.rest = sym (drop-drop (length fid) n bytes) ∙ ap (drop (length fid)) b.split ∙ drop_at fid b.rest (length fid) refl in
        record {
          room = omega (arith, ap length b.split, length-append fid b.rest, length-drop n bytes);
          scanned = λ at.
              before at ∙ ap (λ xs. fids_from size (at + n) 0 xs) b.split ∙ at_fid size (at + n) fid b.rest b.is
              ∙ ap (λ xs. (at + n, fid) ∷ fids_from size (at + n + length fid) 0 xs) (sym rest)
              ∙ ap (λ k. (at + n, fid) ∷ fids_from size k 0 (drop (n + length fid) bytes)) (let e : at + n + length fid ≡ at + (n + length fid) = omega arith in e);
        }
