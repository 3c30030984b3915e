-- The scan, step by step, and over packed FIDs.
use Rattle.std.proofs.Common.{◌≡◌, ℕ, zero, suc, ◌+◌, ◌-◌, ◌<◌, Option, Some, None, List, [], ◌∷◌, ◌++◌, length, drop, arith, sym, ◌∙◌, ap, refl}
use Rattle.std.specs.List.{AllByRecursion}
use Rattle.std.proofs.lemmas.List.{drop_at}
use Rattle.udf_file_model.specs.Fid.{IsFid, fid_at}
use Rattle.udf_file_model.specs.Scan.{taken, fids_from, fids, fids_of}
use Rattle.udf_file_model.specs.Pack.{packed, placed_from}
use Rattle.udf_file_model.proofs.Fids.{fid_found, found_begins, is_long}

-- bytes that are passed are dropped
pub passed_dropped : (size at n : ℕ) (bytes : List ℕ) → fids_from size at n bytes ≡ fids_from size (at + n) 0 (drop n bytes)
unfolding fids_from
passed_dropped size at zero [] = refl
passed_dropped size at (suc n) [] = refl
passed_dropped size at zero (byte ∷ bytes) = ap (λ k. fids_from size k 0 (byte ∷ bytes)) (let e : at ≡ at + 0 = omega arith in e)
passed_dropped size at (suc n) (byte ∷ bytes) =
    passed_dropped size (suc at) n bytes ∙ ap (λ k. fids_from size k 0 (drop n bytes)) (let e : suc at + n ≡ at + suc n = omega arith in e)

pub at_none : (size at : ℕ) (bytes : List ℕ) → fid_at size bytes ≡ None → fids_from size at 0 bytes ≡ fids_from size (at + 4) 0 (drop 4 bytes)
unfolding fids_from taken
at_none size at [] h = refl
at_none size at (byte ∷ bytes) h =
    ap (λ o. taken at o (λ n. fids_from size (suc at) n bytes)) h
    ∙ passed_dropped size (suc at) 3 bytes ∙ ap (λ k. fids_from size k 0 (drop 3 bytes)) (let e : suc at + 3 ≡ at + 4 = omega arith in e)

pub at_fid : (size at : ℕ) (fid rest : List ℕ) → IsFid size fid
    → fids_from size at 0 (fid ++ rest) ≡ (at, fid) ∷ fids_from size (at + length fid) 0 rest
unfolding fids_from taken
at_fid size at [] rest is = absurd (omega (arith, is_long size [] is))
at_fid size at (byte ∷ fid) rest is =
    ap (λ o. taken at o (λ n. fids_from size (suc at) n (fid ++ rest))) (fid_found size (byte ∷ fid) rest is)
    ∙ ap (λ ps. (at, byte ∷ fid) ∷ ps)
    (passed_dropped size (suc at) (suc (length fid) - 1) (fid ++ rest)
    ∙ ap (λ xs. fids_from size (suc at + (suc (length fid) - 1)) 0 xs) (drop_at fid rest (suc (length fid) - 1) (let e : length fid ≡ suc (length fid) - 1 = omega arith in e))
    ∙ ap (λ k. fids_from size k 0 rest) (let e : suc at + (suc (length fid) - 1) ≡ at + suc (length fid) = omega arith in e))

-- packed FIDs are taken one by one
pub packed_scan : (size at : ℕ) (list : List (List ℕ)) → AllByRecursion (IsFid size) list → fids_from size at 0 (packed list) ≡ placed_from at list
unfolding placed_from fids_from
packed_scan size at [] all = refl
packed_scan size at (fid ∷ list) all =
    at_fid size at fid (packed list) all.0 ∙ ap (λ ps. (at, fid) ∷ ps) (packed_scan size (at + length fid) list all.1)

pub placed_fids : (at : ℕ) (list : List (List ℕ)) → fids_of (placed_from at list) ≡ list
unfolding placed_from
placed_fids at [] = refl
placed_fids at (fid ∷ list) = ap (λ l. fid ∷ l) (placed_fids (at + length fid) list)

alike : (size at other n : ℕ) (bytes : List ℕ) → fids_of (fids_from size at n bytes) ≡ fids_of (fids_from size other n bytes)
unfolding fids_from taken
alike size at other zero [] = refl
alike size at other (suc n) [] = refl
alike size at other (suc n) (byte ∷ bytes) = alike size (suc at) (suc other) n bytes
alike size at other zero (byte ∷ bytes) = by (fid_at size (byte ∷ bytes)) (λ n. alike size (suc at) (suc other) n bytes)
  where
    by : (o : Option (List ℕ)) → ((n : ℕ) → fids_of (fids_from size (suc at) n bytes) ≡ fids_of (fids_from size (suc other) n bytes))
        → fids_of (taken at o (λ n. fids_from size (suc at) n bytes)) ≡ fids_of (taken other o (λ n. fids_from size (suc other) n bytes))
    by None rest = rest 3
    by (Some fid) rest = ap (λ l. fid ∷ l) (rest (length fid - 1))

-- which FIDs are taken does not hang on where the bytes stand
pub fids_anywhere : (size at n : ℕ) (bytes : List ℕ) → fids_of (fids_from size at n bytes) ≡ fids_of (fids_from size 0 n bytes)
fids_anywhere size at n bytes = alike size at 0 n bytes

-- all of them are whole
pub all_fids : (size at n : ℕ) (bytes : List ℕ) → AllByRecursion (IsFid size) (fids_of (fids_from size at n bytes))
unfolding fids_from taken
all_fids size at zero [] = tt
all_fids size at (suc n) [] = tt
all_fids size at (suc n) (byte ∷ bytes) = all_fids size (suc at) n bytes
all_fids size at zero (byte ∷ bytes) = by (fid_at size (byte ∷ bytes)) refl (λ n. all_fids size (suc at) n bytes)
  where
    by : (o : Option (List ℕ)) → fid_at size (byte ∷ bytes) ≡ o → ((n : ℕ) → AllByRecursion (IsFid size) (fids_of (fids_from size (suc at) n bytes)))
        → AllByRecursion (IsFid size) (fids_of (taken at o (λ n. fids_from size (suc at) n bytes)))
    by None found rest = rest 3
    by (Some fid) found rest = ((found_begins size (byte ∷ bytes) fid found).is, rest (length fid - 1))

-- where no FID begins, the bytes are no packed FIDs
pub first_is : (size : ℕ) (bytes : List ℕ) → fid_at size bytes ≡ None → 0 < length bytes → bytes ≡ packed (fids_of (fids size bytes)) → ⊥
first_is size bytes none some whole = by (fids_of (fids size bytes)) (all_fids size 0 0 bytes) whole
  where
    clash : (fid : List ℕ) → None ≡ Some fid → ⊥
    clash fid e = cc

    by : (list : List (List ℕ)) → AllByRecursion (IsFid size) list → bytes ≡ packed list → ⊥
    by [] all e = let l = ap length e in omega arith
    by (fid ∷ list) all e = clash fid (sym none ∙ ap (fid_at size) e ∙ fid_found size fid (packed list) all.0)
