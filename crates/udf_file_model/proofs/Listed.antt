-- What the scan says of the offsets that it lists.
use Rattle.std.proofs.Common.{◌≡◌, ℕ, suc, ◌+◌, ◌*◌, ◌<◌, ◌≤◌, List, [], ◌∷◌, ◌++◌, length, drop, get_or, arith, sym, ◌∙◌, ap, subst, length-append, length-drop}
use Rattle.std.specs.Prelude.{All, AllPairs, Contains}
use Rattle.std.specs.List.{AllByRecursion}
use Rattle.std.proofs.lemmas.List.{get_or-map, length-map, take_at}
use Rattle.std.proofs.lemmas.List.Elements.{All-contains, All-map, All-weaker, recursion_from_All}
use Rattle.udf_file_model.specs.Fid.{IsFid, Begins, fid_length, fid_bytes}
use Rattle.udf_file_model.specs.Scan.{Placed, fids, offsets}
use Rattle.udf_file_model.specs.Pack.{fids_at}
use Rattle.udf_file_model.proofs.Fids.{is_long, on_length}
use Rattle.udf_file_model.proofs.Greedy.{Ordered, Stands, is_scan, ordered_from}

-- the FID that begins the bytes, by its length
pub begun_bytes : (size : ℕ) (bytes fid : List ℕ) → Begins size bytes fid → fid_bytes bytes ≡ fid
begun_bytes size bytes fid b =
    ap fid_bytes b.split
    ∙ take_at fid b.rest (fid_length (fid ++ b.rest)) (b.is.long ∙ sym (on_length fid b.rest (omega (arith, is_long size fid b.is))))

pub listed_bytes : (size at : ℕ) (content fid : List ℕ) → Contains (fids size content) (at, fid) → fid_bytes (drop at content) ≡ fid
listed_bytes size at content fid in' =
    begun_bytes size (drop at content) fid (All-contains (Stands size content) (fids size content) (at, fid) (is_scan size content).whole in').1

-- whatever holds at each offset of a scanned FID holds at each of these
pub at_offsets : (size : ℕ) (content at : List ℕ) (P : ℕ → Type 0) → ((o : ℕ) (fid : List ℕ) → Begins size (drop o content) fid → P o)
    → All (Contains (offsets (fids size content))) at → All P at
at_offsets size content at P holds all =
    All-weaker (Contains (offsets (fids size content))) P
    (λ o in'. All-contains P (offsets (fids size content)) o
    (All-map P (λ p. p.0) (fids size content) (All-weaker (Stands size content) (λ p. P p.0) (λ p s. holds p.0 p.1 s.1) (fids size content) (is_scan size content).whole)) in') at all

pub chosen_fids : (size : ℕ) (content at : List ℕ) → All (Contains (offsets (fids size content))) at → All (IsFid size) (fids_at content at)
chosen_fids size content at all =
    All-map (IsFid size) (λ o. fid_bytes (drop o content)) at
    (at_offsets size content at (λ o. IsFid size (fid_bytes (drop o content)))
    (λ o fid b. subst (IsFid size) (sym (begun_bytes size (drop o content) fid b)) b.is) all)

pub ascending : (size : ℕ) (content : List ℕ) → AllPairs (λ a b. a < b) (offsets (fids size content))
ascending size content i j d h k =
    let list : List Placed = fids size content in
    let many : length (offsets list) ≡ length list = length-map list (λ (p : Placed). p.0) in
    let e : Placed = (0, []) in
    let first : get_or (offsets list) i d ≡ (get_or list i e).0 = get_or-map (λ (p : Placed). p.0) list i e d (omega arith) in
    let second : get_or (offsets list) j d ≡ (get_or list j e).0 = get_or-map (λ (p : Placed). p.0) list j e d (omega arith) in
    let fid : Begins size (drop (get_or list i e).0 content) (get_or list i e).1 = ((is_scan size content).whole i e (omega arith)).1 in
    omega (arith, (is_scan size content).apart i j e h (omega arith), is_long size (get_or list i e).1 fid.is)

-- each FID has 40 bytes of the content
module _ (size : ℕ) (content : List ℕ) where
  room : (p : Placed) → Stands size content p → p.0 + length p.1 ≤ length content
  room p s =
      omega
      (arith, ap length s.1.split, length-append p.1 s.1.rest, length-drop p.0 content, is_long size p.1 s.1.is)

  many : (o : ℕ) (p : Placed) (ps : List Placed) → Ordered o (p ∷ ps) → AllByRecursion (Stands size content) (p ∷ ps)
      → o + 40 * suc (length ps) ≤ length content
  many o p [] r s = omega (arith, r.0, room p s.0, is_long size p.1 s.0.1.is)
  many o p (q ∷ ps) r s = omega (arith, r.0, many (p.0 + length p.1) q ps r.1 s.1, is_long size p.1 s.0.1.is)

  few_in : (ps : List Placed) → Ordered 0 ps → AllByRecursion (Stands size content) ps → 40 * length ps ≤ length content
  few_in [] r s = omega arith
  few_in (p ∷ ps) r s = omega (arith, many 0 p ps r s)

  pub few : 40 * length (fids size content) ≤ length content
  few =
      let is = is_scan size content in
      few_in (fids size content) (ordered_from 0 (fids size content) (λ k d h. omega arith) is.apart)
      (recursion_from_All (Stands size content) (fids size content) is.whole)
