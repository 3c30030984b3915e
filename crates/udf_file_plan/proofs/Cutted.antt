-- The blocks that the mend of an entry makes, where its list is cut.
use Rattle.std.proofs.Common.{◌≡◌, ◌<◌, ◌≤◌, ℕ, zero, suc, Bool, true, false, cond, ◌+◌, ◌-◌, ◌*◌, ◌/◌, ◌==◌, nat_lt, List, [], ◌∷◌, ◌++◌, map, length, take, drop, Option, Some, None, arith, refl, sym, ap, ◌∙◌, subst, append-nil}
use Rattle.std.specs.Prelude.{min}
use Rattle.std.proofs.lemmas.Bool.Decides.{nat_tests}
use Rattle.std.proofs.Math.Nat.{le-div_iff_mul-le}
use Rattle.std.proofs.lemmas.List.{length-take-le, length-drop, take_all}
use Rattle.udf_field.specs.declared.address.Addr.{Addr}
use Rattle.udf_file_model.specs.Content.{block_at}
use Rattle.udf_file_model.specs.Cut.{cut_pieces}
use Rattle.udf_file_model.specs.CutEntry.{left_at}
use Rattle.udf_file_model.specs.Descriptors.{Descriptor}
use Rattle.udf_file_model.specs.Entry.{Entry, is_directory}
use Rattle.udf_file_model.specs.Front.{blocks_for, nothing_yet}
use Rattle.udf_file_model.specs.Listing.{Volume, descriptors_in, descriptors_of, flat_for, is_extent, list_for, rules_for}
use Rattle.udf_file_model.specs.Pieces.{Piece, Extent, Blocks, extents_of, further, pieces, runs_of, size_of}
use Rattle.udf_file_model.proofs.CutReads.{cut_front, cut_none}
use Rattle.udf_file_model.proofs.Local.{list_embedded}
use Rattle.udf_file_model.proofs.Once.{front_fits}
use Rattle.udf_tree_model.specs.Claimed.{list_stays, mended_length, mended_list}
use Rattle.udf_tree_model.specs.Content.{mended_content}
use Rattle.udf_tree_model.specs.Frame.{Frame, entry_at, setting_of, tree_of}
use Rattle.udf_tree_model.specs.Ordinary.{is_kept_entry}
use Rattle.udf_tree_model.specs.Won.{kept_length}
use Rattle.udf_tree_model.proofs.Linking.{Distinct}
use Rattle.udf_file_mends.specs.Mends.{mended_extent, sited_extent}
use Rattle.udf_file_mends.specs.Repairable.{IsRepairable}
use Rattle.udf_file_mends.specs.Spread.{Sited, spread, spread_from}
use Rattle.udf_file_mends.proofs.Disk.{mended_distinct}
use Rattle.udf_file_mends.proofs.Fitting as fitting
use Rattle.udf_file_mends.proofs.Held as held
use Rattle.udf_file_mends.proofs.Sites.{extents_distinct}
use Rattle.udf_file_plan.specs.Chain.{chain, extents_left}
use Rattle.udf_file_plan.specs.Over.{spread_at, spread_over}
use Rattle.udf_file_plan.specs.Parts.{content_left, first_further}
use Rattle.udf_file_plan.proofs.Chained.{chain_none}
use Rattle.udf_file_plan.proofs.Chaining.{follows}
use Rattle.udf_file_plan.proofs.Leaving.{further_none, further_some}

number_is : (m n : ℕ) → (m == n) ≡ true → m ≡ n
number_is m n t = grind (arith, nat_tests)

number_not : (m n : ℕ) → (m == n) ≡ false → m ≡ n → ⊥
number_not m n t e = grind (arith, nat_tests)

-- a cut leaves no more extents
fewer : (b : ℕ) (ps : List Piece) → length (extents_of (cut_pieces b ps)) ≤ length (extents_of ps)
unfolding cut_pieces extents_of
fewer b [] = omega arith
fewer b (Extent x ∷ rest) = by (b == 0) (fewer b rest)
  where
    by : (t : Bool) → length (extents_of (cut_pieces b rest)) ≤ length (extents_of rest) → length (extents_of (cond t [] (Extent x ∷ cut_pieces b rest))) ≤ suc (length (extents_of rest))
    by true h = omega arith
    by false h = omega (arith, h)
fewer b (Blocks d ∷ rest) = by (b == 0) (nat_lt d.length b) (fewer (b - d.length) rest)
  where
    by : (t l : Bool) → length (extents_of (cut_pieces (b - d.length) rest)) ≤ length (extents_of rest)
        → length (extents_of (cond t [] (cond l (Blocks d ∷ cut_pieces (b - d.length) rest) (Blocks (record d { length = b }) ∷ [])))) ≤ length (extents_of rest)
    by true l h = omega arith
    by false true h = h
    by false false h = omega arith

abbrev nothing : List ℕ
nothing = []

drop_none : (n : ℕ) → drop n nothing ≡ nothing
drop_none zero = refl
drop_none (suc n) = refl

drop_past : (n : ℕ) (xs : List ℕ) → length xs ≤ n → drop n xs ≡ []
drop_past zero [] h = refl
drop_past zero (x ∷ xs) h = absurd (omega (arith, h))
drop_past (suc n) [] h = refl
drop_past (suc n) (x ∷ xs) h = drop_past n xs (omega (arith, h))

no_bytes : (xs : List ℕ) → length xs ≡ 0 → xs ≡ []
no_bytes [] h = refl
no_bytes (x ∷ xs) h = absurd (omega (arith, h))

no_blocks : (size : ℕ) → 0 < size → blocks_for size 0 ≡ 0
no_blocks size some = by (blocks_for size 0) refl
  where
    by : (q : ℕ) → blocks_for size 0 ≡ q → q ≡ 0
    by zero e = refl
    by (suc m) e =
        let h : 1 ≤ (0 + (size - 1)) / size = omega (arith, e) in
        absurd (omega (arith, (le-div_iff_mul-le {k = size} {x = 1} {y = 0 + (size - 1)} some).0 h, some))

less : (m n : ℕ) → nat_lt m n ≡ true → m < n
less m n h = grind (arith, nat_tests)

least : (m n : ℕ) → nat_lt m n ≡ false → n ≤ m
least m n h = grind (arith, nat_tests)

module _ (v : Volume) (some : 0 < v.size) where
  at_none : (part block : ℕ) → spread_at v part block [] ≡ []
  unfolding spread_from
  at_none part block = ap (λ k. spread_from v part block k []) (no_blocks v.size some)

  over_none : (ds : List Descriptor) → spread_over v ds [] ≡ []
  unfolding spread_over
  over_none [] = refl
  over_none (d ∷ ds) =
      ap (λ b. spread_at v d.at.part d.at.block b ++ spread_over v ds (drop d.length [])) (take_all d.length [] (omega arith))
      ∙ ap (λ z. z ++ spread_over v ds (drop d.length [])) (at_none d.at.part d.at.block)
      ∙ ap (spread_over v ds) (drop_none d.length) ∙ over_none ds

  over_nothing : (ds : List Descriptor) (c : List ℕ) → length c ≡ 0 → [] ≡ spread_over v ds c
  over_nothing ds c h = sym (ap (spread_over v ds) (no_bytes c h) ∙ over_none ds)

  -- the blocks of a cut list, and those of the list as far as the content goes
  pub over_cut : (ps : List Piece) (c : List ℕ) → spread v (runs_of (cut_pieces (length c) ps)) c ≡ spread_over v (runs_of ps) c
  unfolding cut_pieces runs_of spread spread_over
  over_cut [] c = refl
  over_cut (Extent x ∷ rest) c = by (length c == 0) refl (over_cut rest c)
    where
      by : (t : Bool) → (length c == 0) ≡ t → spread v (runs_of (cut_pieces (length c) rest)) c ≡ spread_over v (runs_of rest) c
          → spread v (runs_of (cond t [] (Extent x ∷ cut_pieces (length c) rest))) c ≡ spread_over v (runs_of rest) c
      by true h on = over_nothing (runs_of rest) c (number_is (length c) 0 h)
      by false h on = on
  over_cut (Blocks d ∷ rest) c = by (length c == 0) refl (nat_lt d.length (length c)) refl (over_cut rest (drop d.length c))
    where
      by : (t : Bool) → (length c == 0) ≡ t → (l : Bool) → nat_lt d.length (length c) ≡ l
          → spread v (runs_of (cut_pieces (length (drop d.length c)) rest)) (drop d.length c) ≡ spread_over v (runs_of rest) (drop d.length c)
          → spread v (runs_of (cond t [] (cond l (Blocks d ∷ cut_pieces (length c - d.length) rest) (Blocks (record d { length = length c }) ∷ [])))) c
          ≡ spread_at v d.at.part d.at.block (take d.length c) ++ spread_over v (runs_of rest) (drop d.length c)
      by true h l k on = over_nothing (d ∷ runs_of rest) c (number_is (length c) 0 h)
      by false h true k on =
          let long : length (take d.length c) ≡ d.length = length-take-le d.length c (let z = less d.length (length c) k in omega (arith, z)) in
          ap (λ m. spread_from v d.at.part d.at.block (blocks_for v.size m) (take d.length c) ++ spread v (runs_of (cut_pieces (length c - d.length) rest)) (drop d.length c)) (sym long)
          ∙ ap (λ m. spread_at v d.at.part d.at.block (take d.length c) ++ spread v (runs_of (cut_pieces m rest)) (drop d.length c)) (sym (length-drop d.length c))
          ∙ ap (λ z. spread_at v d.at.part d.at.block (take d.length c) ++ z) on
      by false h false k on =
          let all : length c ≤ d.length = least d.length (length c) k in
          append-nil (spread_from v d.at.part d.at.block (blocks_for v.size (length c)) (take (length c) c))
          ∙ ap (λ z. spread_from v d.at.part d.at.block (blocks_for v.size (length c)) z) (take_all (length c) c (omega arith) ∙ sym (take_all d.length c all))
          ∙ ap (λ z. spread_from v d.at.part d.at.block (blocks_for v.size (length z)) (take d.length c)) (sym (take_all d.length c all))
          ∙ sym (append-nil (spread_at v d.at.part d.at.block (take d.length c)))
          ∙ ap (λ z. spread_at v d.at.part d.at.block (take d.length c) ++ z) (over_nothing (runs_of rest) (drop d.length c) (ap length (drop_past d.length c all)))

module _ (f : Frame) (v : Volume) (ok : IsRepairable f v) (a : Addr) (e : Entry) (kept : is_kept_entry f v a ≡ true) (reads : entry_at v a ≡ Some e) (cut : list_stays f v a e ≡ false) where
  abbrev b : ℕ
  b = mended_length f v a e

  abbrev n : ℕ
  n = 2 * v.blocks

  abbrev at : Addr → List Descriptor
  at = descriptors_in v e.kind

  abbrev ps : List Piece
  ps = pieces (further at n) (descriptors_of a e)

  pub list_is : mended_list f v a e ≡ cut_pieces b (list_for v a e)
  unfolding mended_list
  list_is = ap (λ t. cond t (list_for v a e) (cut_pieces b (list_for v a e))) cut

  some : 0 < v.size
  some = held.some f v ok a e kept reads

  abbrev made : List Sited
  made = extents_left v e.kind (chain (descriptors_in v e.kind) (length (extents_of (list_for v a e))) (first_further b (descriptors_of a e)))

  nothing_left : first_further b (descriptors_of a e) ≡ None → extents_of (cut_pieces b (list_for v a e)) ≡ [] → made ≡ map (sited_extent f v a e) (extents_of (mended_list f v a e))
  nothing_left h k =
      ap (λ o. extents_left v e.kind (chain (descriptors_in v e.kind) (length (extents_of (list_for v a e))) o)) h
      ∙ ap (extents_left v e.kind) (chain_none (descriptors_in v e.kind) (length (extents_of (list_for v a e))))
      ∙ sym (ap (λ ps. map (sited_extent f v a e) (extents_of ps)) list_is ∙ ap (map (sited_extent f v a e)) k)

  empty_extents : (xs : List Piece) → xs ≡ [] → extents_of xs ≡ []
  unfolding extents_of
  empty_extents xs h = ap extents_of h

  empty_list : list_for v a e ≡ [] → made ≡ map (sited_extent f v a e) (extents_of (mended_list f v a e))
  unfolding chain extents_of cut_pieces
  empty_list h =
      ap (λ (xs : List Piece). extents_left v e.kind (chain (descriptors_in v e.kind) (length (extents_of xs)) (first_further b (descriptors_of a e)))) h
      ∙ sym (ap (λ (xs : List Piece). map (sited_extent f v a e) (extents_of xs)) (list_is ∙ ap (cut_pieces b) h))

  within : (e.kind == 3) ≡ false → b ≤ size_of (list_for v a e)
  within h = omega (arith, fitting.length_good f v ok a e kept reads, fitting.listed_length f v ok a e kept reads h)

  front_is : (e.kind == 3) ≡ false → cut_pieces b ps ≡ cut_pieces b (list_for v a e)
  unfolding list_for flat_for rules_for
  front_is h = cut_front (rules_for v a e) (is_extent v) some ps nothing_yet b (within h)

  flat_within : (e.kind == 3) ≡ false → b ≤ size_of ps
  unfolding list_for flat_for rules_for
  flat_within h = omega (arith, within h, front_fits (rules_for v a e) (is_extent v) some ps nothing_yet)

  site : Addr → Option ℕ → Sited
  site x o = (x, mended_extent e.kind x (block_at v x) o)

  plain : (e.kind == 3) ≡ false → (b ≡ 0 → ⊥) → made ≡ map (sited_extent f v a e) (extents_of (mended_list f v a e))
  unfolding site left_at
  plain h off =
      let many = length (extents_of (list_for v a e)) in
      let is : extents_of (cut_pieces b ps) ≡ extents_of (mended_list f v a e) = ap extents_of (front_is h ∙ sym list_is) in
      let positive : 0 < b = positive_is b off in
      let few : length (extents_of (cut_pieces b ps)) ≤ many = subst (λ (xs : List Piece). length (extents_of xs) ≤ many) (sym (front_is h)) (fewer b (list_for v a e)) in
      let distinct : Distinct (extents_of (cut_pieces b ps)) =
      subst (λ (xs : List Addr). Distinct xs) (sym is) (extents_distinct v.size (mended_list f v a e) (mended_distinct f v some a e)) in
      ap (λ o. extents_left v e.kind (chain at many o)) (sym (further_some b (descriptors_of a e) off))
      ∙ sym ((follows at site n (descriptors_of a e) many b).same positive (flat_within h) few distinct)
      ∙ ap (map (sited_extent f v a e)) is
    where
      positive_is : (m : ℕ) → (m ≡ 0 → ⊥) → 0 < m
      positive_is zero h = absurd (h refl)
      positive_is (suc m) h = omega arith

  pub extents_are : made ≡ map (sited_extent f v a e) (extents_of (mended_list f v a e))
  extents_are = by (b == 0) refl (e.kind == 3) refl
    where
      embedded : (e.kind == 3) ≡ true → made ≡ map (sited_extent f v a e) (extents_of (mended_list f v a e))
      embedded h = empty_list (list_embedded v a e (number_is e.kind 3 h))

      by : (t : Bool) → (b == 0) ≡ t → (k : Bool) → (e.kind == 3) ≡ k → made ≡ map (sited_extent f v a e) (extents_of (mended_list f v a e))
      by true h k g = let z = number_is b 0 h in nothing_left (sym (further_none b (descriptors_of a e) z)) (empty_extents (cut_pieces b (list_for v a e)) (cut_none b (list_for v a e) z))
      by false h true g = embedded g
      by false h false g = plain g (number_not b 0 h)

  directory_length : is_directory e ≡ true → mended_length f v a e ≡ length (mended_content f v a)
  unfolding mended_length
  directory_length h = ap (λ t. cond t (length (mended_content f v a)) (min e.information (kept_length (setting_of f v) (tree_of f v) a))) h

  abbrev given : Option (List ℕ)
  given = cond (is_directory e) (Some (mended_content f v a)) None

  pub content_is : content_left v (runs_of (list_for v a e)) given ≡ cond (is_directory e) (spread v (runs_of (mended_list f v a e)) (mended_content f v a)) []
  content_is = by (is_directory e) refl
    where
      by : (d : Bool) → is_directory e ≡ d → content_left v (runs_of (list_for v a e)) (cond d (Some (mended_content f v a)) None)
          ≡ cond d (spread v (runs_of (mended_list f v a e)) (mended_content f v a)) []
      by true h =
          sym (ap (λ ps. spread v (runs_of ps) (mended_content f v a)) (list_is ∙ ap (λ k. cut_pieces k (list_for v a e)) (directory_length h))
          ∙ over_cut v some (list_for v a e) (mended_content f v a))
      by false h = refl
