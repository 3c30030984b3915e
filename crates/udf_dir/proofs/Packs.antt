-- Packing, FID by FID.
use Rattle.std.proofs.Common.{◌≡◌, ℕ, zero, suc, ◌+◌, ◌-◌, ◌<◌, ◌≤◌, List, [], ◌∷◌, ◌++◌, length, take, drop, get_or, arith, refl, sym, ◌∙◌, ap, length-append}
use Rattle.std.specs.Prelude.{All, Contains}
use Rattle.std.proofs.lemmas.List.{take_more, append_assoc, append-nil, length-map, get_or-map}
use Rattle.std.proofs.lemmas.List.{length-drop}
use Rattle.std.proofs.lemmas.List.Elements.{All-contains, All-map, All-weaker}
use Rattle.udf_file_model.specs.Fid.{fid_bytes, fid_length, Begins}
use Rattle.udf_file_model.specs.Scan.{fids, offsets}
use Rattle.udf_file_model.specs.Pack.{packed, fids_at, IsPacking}
use Rattle.udf_file_model.proofs.Fids.{is_long, on_length}
use Rattle.udf_file_model.proofs.Greedy.{Stands, is_scan}

packed_on : (xs ys : List (List ℕ)) → packed (xs ++ ys) ≡ packed xs ++ packed ys
packed_on [] ys = refl
packed_on (x ∷ xs) ys = ap (λ l. x ++ l) (packed_on xs ys) ∙ sym (append_assoc x (packed xs) (packed ys))

pub packed_more : (parent : List ℕ) (list : List (List ℕ)) (i : ℕ) → i < length list
    → packed (parent ∷ take (i + 1) list) ≡ packed (parent ∷ take i list) ++ get_or list i []
packed_more parent list i h =
    ap (λ l. packed (parent ∷ l)) (take_more list i [] h) ∙ ap (λ l. parent ++ l) (packed_on (take i list) (get_or list i [] ∷ []))
    ∙ ap (λ l. parent ++ (packed (take i list) ++ l)) (append-nil (get_or list i []))
    ∙ sym (append_assoc parent (packed (take i list)) (get_or list i []))

longer : (list : List (List ℕ)) (i j : ℕ) → i ≤ j → length (packed (take i list)) ≤ length (packed (take j list))
longer [] zero zero h = omega arith
longer [] zero (suc j) h = omega arith
longer [] (suc i) zero h = absurd (omega arith)
longer [] (suc i) (suc j) h = omega arith
longer (x ∷ list) zero j h = omega arith
longer (x ∷ list) (suc i) zero h = absurd (omega arith)
longer (x ∷ list) (suc i) (suc j) h =
    omega (arith, longer list i j (omega arith), length-append x (packed (take i list)), length-append x (packed (take j list)))

pub longer_packed : (parent : List ℕ) (list : List (List ℕ)) (i j : ℕ) → i ≤ j
    → length (packed (parent ∷ take i list)) ≤ length (packed (parent ∷ take j list))
longer_packed parent list i j h =
    omega (arith, longer list i j h, length-append parent (packed (take i list)), length-append parent (packed (take j list)))

pub fids_count : (content at : List ℕ) → length (fids_at content at) ≡ length at
fids_count content at = length-map at (λ o. fid_bytes (drop o content))

pub fid_of : (content at : List ℕ) (i : ℕ) → i < length at → get_or (fids_at content at) i [] ≡ fid_bytes (drop (get_or at i 0) content)
fid_of content at i h = get_or-map (λ o. fid_bytes (drop o content)) at i 0 [] h

-- the next FID does not fit
pub stops : (parent content at bytes fid : List ℕ) (limit i taken : ℕ) → i < length at → taken ≡ i
    → bytes ≡ packed (parent ∷ take i (fids_at content at)) → length bytes ≤ limit → fid ≡ fid_bytes (drop (get_or at i 0) content)
    → limit - length bytes < length fid → IsPacking parent (fids_at content at) limit (record { bytes = bytes; taken = taken })
stops parent content at bytes fid limit i taken within count is fits of over =
    let list : List (List ℕ) = fids_at content at in
    let next : packed (parent ∷ take (i + 1) list) ≡ bytes ++ fid =
    packed_more parent list i (omega (arith, fids_count content at)) ∙ ap (λ l. l ++ get_or list i []) (sym is)
    ∙ ap (λ l. bytes ++ l) (fid_of content at i within ∙ sym of) in
    record {
      within = omega (arith, fids_count content at);
      bytes = is ∙ ap (λ k. packed (parent ∷ take k list)) (sym count);
      fits = fits;
      most = λ more above below. omega (arith, longer_packed parent list (i + 1) more (omega arith), ap length next, length-append bytes fid);
    }

-- one more fits
pub goes_on : (parent content at bytes fid : List ℕ) (i : ℕ) → i < length at → bytes ≡ packed (parent ∷ take i (fids_at content at))
    → fid ≡ fid_bytes (drop (get_or at i 0) content) → bytes ++ fid ≡ packed (parent ∷ take (i + 1) (fids_at content at))
goes_on parent content at bytes fid i within is of =
    ap (λ l. l ++ fid) is ∙ ap (λ l. packed (parent ∷ take i (fids_at content at)) ++ l) (of ∙ sym (fid_of content at i within))
    ∙ sym (packed_more parent (fids_at content at) i (omega (arith, fids_count content at)))

-- all of them fit
pub all_taken : (parent content at bytes : List ℕ) (limit i taken : ℕ) → length at ≤ i → i ≤ length at → taken ≡ i
    → bytes ≡ packed (parent ∷ take i (fids_at content at)) → length bytes ≤ limit
    → IsPacking parent (fids_at content at) limit (record { bytes = bytes; taken = taken })
all_taken parent content at bytes limit i taken over within count is fits = record {
  within = omega (arith, fids_count content at);
  bytes = is ∙ ap (λ k. packed (parent ∷ take k (fids_at content at))) (sym count);
  fits = fits;
  most = λ more above below. absurd (omega (arith, fids_count content at));
}

-- the FID at an offset of a scan is in the content
pub room_at : (size o : ℕ) (content fid : List ℕ) → Begins size (drop o content) fid → o + fid_length (drop o content) ≤ length content
room_at size o content fid b =
    let long : fid_length (drop o content) ≡ length fid =
    ap fid_length b.split ∙ on_length fid b.rest (omega (arith, is_long size fid b.is)) ∙ sym b.is.long in
    omega (arith, long, ap length b.split, length-append fid b.rest, length-drop o content, is_long size fid b.is)

pub taken_room : (size : ℕ) (content at : List ℕ) (i : ℕ) → All (Contains (offsets (fids size content))) at → i < length at
    → get_or at i 0 + fid_length (drop (get_or at i 0) content) ≤ length content
taken_room size content at i all h =
    All-contains HasRoom (offsets (fids size content)) (get_or at i 0)
    (All-map HasRoom (λ p. p.0) (fids size content)
    (All-weaker (Stands size content) (λ p. HasRoom p.0) (λ p s. room_at size p.0 content p.1 s.1) (fids size content) (is_scan size content).whole))
    (all i 0 h)
  where
    HasRoom : ℕ → Type 0
    HasRoom o = o + fid_length (drop o content) ≤ length content
