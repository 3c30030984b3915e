-- What a lawful layout keeps apart.
use Rattle.std.proofs.Common.{◌≡◌, ℕ, ◌+◌, ◌<◌, ◌≤◌, arith, refl, sym, List, [], ◌∷◌, ◌++◌, Bool, true, false, not, ◌&&◌, ◌||◌, ap, ◌∙◌, eqb, leb, ltb, inl, inr, ◌⊎◌}
use Rattle.std.specs.List.{list_all}
use Rattle.std.proofs.lemmas.Bool.{cases_Bool, and_parts, and_from, or_cases, leb-true, leb-false, le-leb, lt-ltb, ltb-true, ltb-false, eqb-true, not-true, and_cases}
use Rattle.udf_volume_model.specs.Sequence.{Descriptor}
use Rattle.udf_volume_model.specs.Anchor.{Anchor, blocks_of}
use Rattle.udf_volume_model.specs.Areas.{Area, area_of, areas_of, integrity_areas, table_areas, covers, is_outside, partition_area}
use Rattle.udf_volume_model.specs.Layout.{is_apart, are_apart, is_inside, are_high, is_bitmap_lawful, are_lawful}
use Rattle.udf_volume_model.specs.Rules.{is_eligible}
use Rattle.udf_volume_laws.proofs.Members.{IsIn, all_at, in_back}

-- the areas beside those of the sequences
abbrev pub further_areas : ℕ → List Descriptor → List Area
further_areas size list = integrity_areas size list ++ (partition_area list ∷ table_areas size list)

-- a sector lies beside an area
abbrev pub IsBeside : ℕ → Area → Type 0
IsBeside n area = (n < area.start) ⊎ (area.start + area.count ≤ n)

pub covered : (area : Area) (n : ℕ) → area.start ≤ n → n < area.start + area.count → covers area n ≡ true
unfolding covers
covered area n l h = and_from _ _ (le-leb _ _ l) (lt-ltb _ _ h)

pub within_area : (area : Area) (n : ℕ) → covers area n ≡ true → (area.start ≤ n) × (n < area.start + area.count)
unfolding covers
within_area area n e =
    let parts = and_parts (leb area.start n) (ltb n (area.start + area.count)) e in
    (leb-true _ _ parts.0, ltb-true _ _ parts.1)

pub uncovered : (area : Area) (n : ℕ) → covers area n ≡ false → IsBeside n area
unfolding covers
uncovered area n e = by_test (and_cases (leb area.start n) (ltb n (area.start + area.count)) e) where
  by_test : (leb area.start n ≡ false) ⊎ (ltb n (area.start + area.count) ≡ false) → IsBeside n area
  by_test (inl f) = inl (leb-false _ _ f)
  by_test (inr f) = inr (ltb-false _ _ f)

-- no area of these covers a sector outside them
pub outside_at : (areas : List Area) (n : ℕ) (area : Area) → is_outside areas n ≡ true → IsIn area areas → covers area n ≡ false
unfolding is_outside
outside_at areas n area e i = not-true _ (all_at (λ a. not (covers a n)) areas area e i)

pub apart : (a b : Area) → is_apart a b ≡ true → 0 < a.count → 0 < b.count → (a.start + a.count ≤ b.start) ⊎ (b.start + b.count ≤ a.start)
unfolding is_apart
apart a b e some more = by_first (or_cases (eqb a.count 0) ((eqb b.count 0) || (leb (a.start + a.count) b.start || leb (b.start + b.count) a.start)) e) where
  by_third : (leb (a.start + a.count) b.start ≡ true) ⊎ (leb (b.start + b.count) a.start ≡ true) → (a.start + a.count ≤ b.start) ⊎ (b.start + b.count ≤ a.start)
  by_third (inl t) = inl (leb-true _ _ t)
  by_third (inr t) = inr (leb-true _ _ t)

  by_second : (eqb b.count 0 ≡ true) ⊎ ((leb (a.start + a.count) b.start || leb (b.start + b.count) a.start) ≡ true) → (a.start + a.count ≤ b.start) ⊎ (b.start + b.count ≤ a.start)
  by_second (inl t) = absurd (let z : b.count ≡ 0 = eqb-true _ _ t in omega arith)
  by_second (inr t) = by_third (or_cases _ _ t)

  by_first : (eqb a.count 0 ≡ true) ⊎ (((eqb b.count 0) || (leb (a.start + a.count) b.start || leb (b.start + b.count) a.start)) ≡ true)
      → (a.start + a.count ≤ b.start) ⊎ (b.start + b.count ≤ a.start)
  by_first (inl t) = absurd (let z : a.count ≡ 0 = eqb-true _ _ t in omega arith)
  by_first (inr t) = by_second (or_cases _ _ t)

pub apart_back : (a b : Area) → is_apart a b ≡ true → is_apart b a ≡ true
unfolding is_apart
apart_back a b = swapped (eqb a.count 0) (eqb b.count 0) (leb (a.start + a.count) b.start) (leb (b.start + b.count) a.start) where
  swapped : (p q x y : Bool) → (p || (q || (x || y))) ≡ true → (q || (p || (y || x))) ≡ true
  swapped true true x y e = refl
  swapped true false x y e = refl
  swapped false true x y e = refl
  swapped false false true true e = refl
  swapped false false true false e = refl
  swapped false false false true e = refl
  swapped false false false false e = e

-- what lies in one of two areas that are apart lies not in the other
pub not_both : (a b : Area) (n : ℕ) → is_apart a b ≡ true → covers a n ≡ true → covers b n ≡ false
not_both a b n e c = by_test (covers b n) refl where
  by_order : (a.start ≤ n) × (n < a.start + a.count) → (b.start ≤ n) × (n < b.start + b.count) → ⊥
  by_order i k = elim (apart a b e (omega (arith, i.0, i.1)) (omega (arith, k.0, k.1))) [
    | inl o ↦ omega (arith, i.0, i.1, k.0, k.1)
    | inr o ↦ omega (arith, i.0, i.1, k.0, k.1)
  ]

  by_test : (t : Bool) → covers b n ≡ t → t ≡ false
  by_test false t = refl
  by_test true t = absurd (by_order (within_area a n c) (within_area b n t))

-- what covers a sector of an area that leaves it out covers it not
pub uncovered_by : (a b : Area) (n : ℕ) → (covers a n ≡ true → covers b n ≡ false) → covers b n ≡ true → covers a n ≡ false
uncovered_by a b n h c = by_test (cases_Bool (covers a n)) where
  by_test : (covers a n ≡ true) ⊎ (covers a n ≡ false) → covers a n ≡ false
  by_test (inl t) = let f : true ≡ false = sym c ∙ h t in absurd (cc)
  by_test (inr t) = t

-- the areas behind some others are apart, and each of these from each of those
pub tail_apart : (xs ys : List Area) → are_apart (xs ++ ys) ≡ true → are_apart ys ≡ true
unfolding are_apart
tail_apart [] ys e = e
tail_apart (x ∷ xs) ys e = tail_apart xs ys (and_parts (list_all (is_apart x) (xs ++ ys)) (are_apart (xs ++ ys)) e).1

pub between : (xs ys : List Area) (a b : Area) → are_apart (xs ++ ys) ≡ true → IsIn a xs → IsIn b ys → is_apart a b ≡ true
unfolding are_apart
between [] ys a b e i j = absurd i
between (x ∷ xs) ys a b e (inl i) j =
    ap (λ c. is_apart c b) i ∙ all_at (is_apart x) (xs ++ ys) b (and_parts (list_all (is_apart x) (xs ++ ys)) (are_apart (xs ++ ys)) e).0 (in_back xs ys b j)
between (x ∷ xs) ys a b e (inr i) j = between xs ys a b (and_parts (list_all (is_apart x) (xs ++ ys)) (are_apart (xs ++ ys)) e).1 i j

-- what a lawful layout keeps apart
pub record IsSpread (size : ℕ) (anchor : Anchor) (list : List Descriptor) : Type 0 where
  pub pairwise : is_apart (area_of size anchor.main) (area_of size anchor.reserve) ≡ true
  pub main : (area : Area) → IsIn area (further_areas size list) → is_apart (area_of size anchor.main) area ≡ true
  pub reserve : (area : Area) → IsIn area (further_areas size list) → is_apart (area_of size anchor.reserve) area ≡ true
  pub partition : (area : Area) → IsIn area (table_areas size list) → is_apart (partition_area list) area ≡ true
  pub tables : are_apart (table_areas size list) ≡ true

pub all_apart : (size blocks : ℕ) (anchor : Anchor) (list : List Descriptor) → are_lawful size blocks list (areas_of size anchor list) ≡ true
    → are_apart (areas_of size anchor list) ≡ true
unfolding are_lawful
all_apart size blocks anchor list e =
    let one = and_parts (list_all (is_inside blocks) (areas_of size anchor list)) (are_apart (areas_of size anchor list) && (are_high size list && is_bitmap_lawful size list)) e in
    (and_parts (are_apart (areas_of size anchor list)) (are_high size list && is_bitmap_lawful size list) one.1).0

pub spread : (size blocks : ℕ) (anchor : Anchor) (list : List Descriptor) → are_lawful size blocks list (areas_of size anchor list) ≡ true → IsSpread size anchor list
unfolding areas_of
spread size blocks anchor list e =
    let main : Area = area_of size anchor.main in
    let reserve : Area = area_of size anchor.reserve in
    let integrity : List Area = integrity_areas size list in
    let all : are_apart (areas_of size anchor list) ≡ true = all_apart size blocks anchor list e in
    let behind : are_apart (reserve ∷ further_areas size list) ≡ true = tail_apart (main ∷ []) (reserve ∷ further_areas size list) all in
    let last : are_apart (partition_area list ∷ table_areas size list) ≡ true = tail_apart (main ∷ reserve ∷ integrity) (partition_area list ∷ table_areas size list) all in
    record {
      pairwise = between (main ∷ []) (reserve ∷ further_areas size list) main reserve all (inl refl) (inl refl);
      main = λ area i. between (main ∷ []) (reserve ∷ further_areas size list) main area all (inl refl) (inr i);
      reserve = λ area i. between (reserve ∷ []) (further_areas size list) reserve area behind (inl refl) i;
      partition = λ area i. between (partition_area list ∷ []) (table_areas size list) (partition_area list) area last (inl refl) i;
      tables = tail_apart (partition_area list ∷ []) (table_areas size list) last;
    }

pub partition_further : (size : ℕ) (list : List Descriptor) → IsIn (partition_area list) (further_areas size list)
partition_further size list = in_back (integrity_areas size list) (partition_area list ∷ table_areas size list) (partition_area list) (inl refl)

pub table_further : (size : ℕ) (list : List Descriptor) (area : Area) → IsIn area (table_areas size list) → IsIn area (further_areas size list)
table_further size list area i = in_back (integrity_areas size list) (partition_area list ∷ table_areas size list) area (inr i)

pub further_area : (size : ℕ) (anchor : Anchor) (list : List Descriptor) (area : Area) → IsIn area (further_areas size list) → IsIn area (areas_of size anchor list)
unfolding areas_of
further_area size anchor list area i = inr (inr i)

-- main and reserve are apart
pub extents_apart : (size blocks : ℕ) (anchor : Anchor) (list : List Descriptor) → are_lawful size blocks list (areas_of size anchor list) ≡ true
    → 0 < blocks_of size anchor.main → 0 < blocks_of size anchor.reserve
    → (anchor.main.start + blocks_of size anchor.main ≤ anchor.reserve.start) ⊎ (anchor.reserve.start + blocks_of size anchor.reserve ≤ anchor.main.start)
extents_apart size blocks anchor list e some more = apart _ _ (spread size blocks anchor list e).pairwise some more

pub record IsFar (a b : Area) (n : ℕ) : Type 0 where
  pub first : IsBeside n a
  pub second : IsBeside n b

pub far : (size : ℕ) (anchor : Anchor) (list : List Descriptor) (n : ℕ) → is_outside (areas_of size anchor list) n ≡ true
    → IsFar (area_of size anchor.main) (area_of size anchor.reserve) n
unfolding areas_of
far size anchor list n e = record {
  first = uncovered _ n (outside_at (areas_of size anchor list) n (area_of size anchor.main) e (inl refl));
  second = uncovered _ n (outside_at (areas_of size anchor list) n (area_of size anchor.reserve) e (inr (inl refl)));
}

-- a sector that an area covers is not eligible
pub not_eligible : (areas : List Area) (area : Area) (n : ℕ) → IsIn area areas → covers area n ≡ true → is_eligible areas n ≡ false
unfolding is_eligible
not_eligible areas area n i c = by_outside (is_outside areas n) refl (leb 256 n) where
  by_outside : (b : Bool) → is_outside areas n ≡ b → (t : Bool) → (t && b) ≡ false
  by_outside true e t = let f : covers area n ≡ false = outside_at areas n area e i in absurd (cc)
  by_outside false e true = refl
  by_outside false e false = refl
