-- The FIDs of a content take no more bytes than it has.
use Rattle.std.proofs.Common.{◌≡◌, ℕ, zero, suc, ◌+◌, ◌-◌, ◌≤◌, Bool, true, false, cond, ◌||◌, Option, Some, None, List, [], ◌∷◌, ◌++◌, map, length, refl, ap, ◌∙◌, arith, length-append}
use Rattle.std.specs.List.{list_any, filter, AllByRecursion}
use Rattle.std.proofs.lemmas.Bool.{false≢true}
use Rattle.udf_file_model.specs.Fid.{IsFid, fid_at, is_live, is_parent}
use Rattle.udf_file_model.specs.Pack.{packed}
use Rattle.udf_file_model.specs.Scan.{Placed, fids, fids_from, fids_of, taken}
use Rattle.udf_file_model.proofs.Fids.{found_begins, is_long, parent_not_live}
use Rattle.udf_file_model.proofs.Scanned.{all_fids}
use Rattle.udf_tree_model.specs.Frame.{parent_length}
use Rattle.udf_tree_model.specs.Link.{Link, fid_link, fid_links}
use Rattle.udf_tree_model.specs.Mended.{rooms}

-- the bytes of all FIDs
abbrev total : List Placed → ℕ
total ps = length (packed (fids_of ps))

scan_within : (size at n : ℕ) (bytes : List ℕ) → total (fids_from size at n bytes) ≤ length bytes - n
unfolding fids_from taken
scan_within size at zero [] = omega arith
scan_within size at (suc n) [] = omega arith
scan_within size at (suc n) (byte ∷ bytes) = let r = scan_within size (suc at) n bytes in omega (arith, r)
scan_within size at zero (byte ∷ bytes) = by (fid_at size (byte ∷ bytes)) refl (λ n. scan_within size (suc at) n bytes)
  where
    by : (o : Option (List ℕ)) → fid_at size (byte ∷ bytes) ≡ o → ((n : ℕ) → total (fids_from size (suc at) n bytes) ≤ length bytes - n)
        → total (taken at o (λ n. fids_from size (suc at) n bytes)) ≤ length (byte ∷ bytes) - 0
    by None e rest = omega (arith, rest 3)
    by (Some fid) e rest =
        let b = found_begins size (byte ∷ bytes) fid e in
        let long : suc (length bytes) ≡ length fid + length b.rest = ap length b.split ∙ length-append fid b.rest in
        omega (arith, rest (length fid - 1), long, is_long size fid b.is, length-append fid (packed (fids_of (fids_from size (suc at) (length fid - 1) bytes))))

-- the live ones among them
abbrev live : List Placed → List Link
live ps = map fid_link (filter (λ p. is_live p.1) ps)

live_within : (ps : List Placed) → rooms (live ps) ≤ total ps
live_within [] = omega arith
live_within (p ∷ ps) = by (is_live p.1) (live_within ps)
  where
    by : (b : Bool) → rooms (live ps) ≤ total ps → rooms (map fid_link (cond b (p ∷ filter (λ p. is_live p.1) ps) (filter (λ p. is_live p.1) ps))) ≤ length (p.1 ++ packed (fids_of ps))
    by true l = omega (arith, l, length-append p.1 (packed (fids_of ps)))
    by false l = omega (arith, l, length-append p.1 (packed (fids_of ps)))

-- beside the first parent FID
live_beside : (ps : List Placed) → list_any is_parent (fids_of ps) ≡ true → parent_length (fids_of ps) + rooms (live ps) ≤ total ps
unfolding parent_length
live_beside [] h = absurd (false≢true h)
live_beside (p ∷ ps) h = by (is_parent p.1) refl h (λ k. live_beside ps k)
  where
    other : (b : Bool) → parent_length (fids_of ps) + rooms (live ps) ≤ total ps
        → parent_length (fids_of ps) + rooms (map fid_link (cond b (p ∷ filter (λ p. is_live p.1) ps) (filter (λ p. is_live p.1) ps))) ≤ length (p.1 ++ packed (fids_of ps))
    other true l = omega (arith, l, length-append p.1 (packed (fids_of ps)))
    other false l = omega (arith, l, length-append p.1 (packed (fids_of ps)))

    by : (b : Bool) → is_parent p.1 ≡ b → (b || list_any is_parent (fids_of ps)) ≡ true
        → (list_any is_parent (fids_of ps) ≡ true → parent_length (fids_of ps) + rooms (live ps) ≤ total ps)
        → cond b (length p.1) (parent_length (fids_of ps)) + rooms (live (p ∷ ps)) ≤ length (p.1 ++ packed (fids_of ps))
    by true e k on =
        let dead : rooms (live (p ∷ ps)) ≡ rooms (live ps) =
        ap (λ b. rooms (map fid_link (cond b (p ∷ filter (λ p. is_live p.1) ps) (filter (λ p. is_live p.1) ps)))) (parent_not_live p.1 e) in
        omega (arith, dead, live_within ps, length-append p.1 (packed (fids_of ps)))
    by false e k on = other (is_live p.1) (on k)

all_within : (size : ℕ) (content : List ℕ) → length (packed (fids_of (fids size content))) ≤ length content
all_within size content = omega (arith, scan_within size 0 0 content)

-- the links of a content with a parent FID fit beside that
pub links_beside : (size : ℕ) (content : List ℕ) → list_any is_parent (fids_of (fids size content)) ≡ true
    → parent_length (fids_of (fids size content)) + rooms (fid_links size content) ≤ length content
unfolding fid_links
links_beside size content h = omega (arith, live_beside (fids size content) h, all_within size content)

-- and it has the bytes of that
pub content_long : (size : ℕ) (content : List ℕ) → list_any is_parent (fids_of (fids size content)) ≡ true → 40 ≤ length content
content_long size content h = by (fids_of (fids size content)) (all_fids size 0 0 content) h (all_within size content)
  where
    by : (list : List (List ℕ)) → AllByRecursion (IsFid size) list → list_any is_parent list ≡ true → length (packed list) ≤ length content → 40 ≤ length content
    by [] all k l = absurd (false≢true k)
    by (fid ∷ list) all k l = omega (arith, l, is_long size fid all.0, length-append fid (packed list))
