-- The best of all tables prevails.
use Rattle.std.proofs.Common.{◌≡◌, ℕ, ◌+◌, ◌<◌, ◌≤◌, arith, refl, ◌∙◌, ap, List, length, get_or, min, true, false, Option, Some, None, nat_le}
use Rattle.std.specs.Prelude.{slice_get, slice_index}
use Rattle.std.specs.List.{list_all, range_with_len}
use Rattle.std.specs.Option.{option_map}
use Rattle.std.proofs.lemmas.Bool.Decides.{nat_tests}
use Rattle.std.proofs.lemmas.Option.{slice_get_past, slice_get-get_or}
use Rattle.std.proofs.lemmas.List.Sums.{position_or_len_is, list_all-from_AllPass}
use Rattle.std.proofs.lemmas.List.Folds.{list_all_at, find_at}
use Rattle.std.proofs.lemmas.List.FromFn.{length-map-range_with_len, length-range_with_len, get_or-range_with_len}
use Rattle.udf_layer.specs.Prevailing.{Prevails}
use Rattle.udf_layer.specs.Read.{BestAt, IsBest}
use Rattle.udf_layer.specs.Fronts.{table_bytes}
use Rattle.udf_layer.specs.Tables.{map_seen}
use Rattle.udf_layer.specs.declared.maps.SparingMap.{SparingMap}
use Rattle.udf_layer.specs.declared.whole_table.WholeTable.{WholeTable}
use Rattle.udf_volume_model.specs.SparingTable.{at_most, is_highest, is_top, listed_area, listed_number, prevailing_area, prevailing_table}

at_most_true : (o : Option ℕ) (n : ℕ) → ((m : ℕ) → o ≡ Some m → m ≤ n) → at_most o n ≡ true
at_most_true None n h = refl
at_most_true (Some m) n h = let le : m ≤ n = h m refl in grind (arith, nat_tests)

not_below : (n m : ℕ) → m < n → nat_le n m ≡ false
not_below n m h = grind (arith, nat_tests)

module _ (numbers : ℕ → Option ℕ) (count : ℕ) where
  item : (k d : ℕ) → k < count → get_or (range_with_len 0 count) k d ≡ k
  item k d h = let same : 0 + k ≡ k = omega arith in get_or-range_with_len 0 count k d h ∙ same

  -- the first that passes
  first_is : (best : ℕ) → best < count → is_highest numbers count best ≡ true
      → ((k : ℕ) → k < best → is_highest numbers count k ≡ false) → prevailing_table numbers count ≡ Some best
  unfolding prevailing_table
  first_is best inside passes fails =
      let room : best < length (range_with_len 0 count) = omega (arith, length-range_with_len 0 count) in
      find_at (is_highest numbers count) (range_with_len 0 count)
      ∙ ap (slice_get (range_with_len 0 count)) (position_or_len_is (is_highest numbers count) (range_with_len 0 count) best 0 (omega arith)
      (λ k h. ap (is_highest numbers count) (item k 0 (omega arith)) ∙ fails k h)
      (λ h. ap (is_highest numbers count) (item best 0 inside) ∙ passes))
      ∙ slice_get-get_or (range_with_len 0 count) best 0 room ∙ ap (λ (n : ℕ). Some n) (item best 0 inside)

  none_is : ((k : ℕ) → k < count → is_highest numbers count k ≡ false) → prevailing_table numbers count ≡ None
  unfolding prevailing_table
  none_is fails =
      find_at (is_highest numbers count) (range_with_len 0 count)
      ∙ ap (slice_get (range_with_len 0 count)) (position_or_len_is (is_highest numbers count) (range_with_len 0 count) (length (range_with_len 0 count)) 0 (omega arith)
      (λ k h. let less : k < count = omega (arith, length-range_with_len 0 count) in ap (is_highest numbers count) (item k 0 less) ∙ fails k less)
      (λ h. absurd (omega arith)))
      ∙ slice_get_past (range_with_len 0 count) (length (range_with_len 0 count)) (omega arith)

  high : (best n : ℕ) → numbers best ≡ Some n → ((k m : ℕ) → k < count → numbers k ≡ Some m → m ≤ n) → is_highest numbers count best ≡ true
  unfolding is_highest
  high best n e highest =
      ap (is_top (λ n. list_all (λ k. at_most (numbers k) n) (range_with_len 0 count))) e
      ∙ list_all-from_AllPass (λ k. at_most (numbers k) n) (range_with_len 0 count) (λ k d h.
      let less : k < count = omega (arith, length-range_with_len 0 count) in
      ap (λ j. at_most (numbers j) n) (item k d less) ∙ at_most_true (numbers k) n (λ m f. highest k m less f))

  low : (k : ℕ) → numbers k ≡ None → is_highest numbers count k ≡ false
  unfolding is_highest
  low k e = ap (is_top (λ n. list_all (λ k. at_most (numbers k) n) (range_with_len 0 count))) e

  lower : (k m best n : ℕ) → numbers k ≡ Some m → best < count → numbers best ≡ Some n → m < n → is_highest numbers count k ≡ false
  unfolding is_highest
  lower k m best n e inside f less =
      ap (is_top (λ n. list_all (λ k. at_most (numbers k) n) (range_with_len 0 count))) e
      ∙ list_all_at (λ j. at_most (numbers j) m) (range_with_len 0 count) best 0 (omega (arith, length-range_with_len 0 count))
      (ap (λ j. at_most (numbers j) m) (item best 0 inside) ∙ ap (λ o. at_most o m) f ∙ not_below n m less)

  earlier_fails : (k best n : ℕ) (o : Option ℕ) → numbers k ≡ o → best < count → numbers best ≡ Some n → ((m : ℕ) → numbers k ≡ Some m → m < n)
      → is_highest numbers count k ≡ false
  earlier_fails k best n None e inside f less = low k e
  earlier_fails k best n (Some m) e inside f less = lower k m best n e inside f (less m e)

  pub highest_prevails : (best : ℕ) → Prevails numbers count best → prevailing_table numbers count ≡ Some best
  highest_prevails best is =
      first_is best is.within (high best is.number is.whole (λ k m h e. is.highest k h m e))
      (λ k h. earlier_fails k best is.number (numbers k) refl is.within is.whole (λ m e. is.earliest k m h e))

  best_prevails : (texts : ℕ → List ℕ) (table : WholeTable) (best : ℕ) → BestAt numbers texts count table best → prevailing_table numbers count ≡ Some best
  best_prevails texts table best is = highest_prevails best (record {
    within = is.within;
    number = table.number;
    whole = is.stands;
    highest = λ k h n e. is.highest k n h e;
    earliest = is.earliest;
  })

  pub none_prevails : ((k : ℕ) → k < count → numbers k ≡ None) → prevailing_table numbers count ≡ None
  none_prevails none = none_is (λ k h. low k (none k h))

-- what prevails by the best table of a map
abbrev pub PrevailsBy : Option (List ℕ) → Option WholeTable → Type 0
PrevailsBy area None = area ≡ None
PrevailsBy area (Some table) = (a : List ℕ) × (area ≡ Some a) × (table.bytes.items ≡ table_bytes a)

all_listed : (m : SparingMap) → m.count ≤ 4 → length (map_seen m).tables ≡ m.count
all_listed m few = omega (arith, length-map-range_with_len (slice_index m.at) 0 (min m.count 4))

pub best_area : (size : ℕ) (disk : ℕ → List ℕ) (m : SparingMap) (best : Option WholeTable) → m.count ≤ 4
    → IsBest (listed_number size disk (map_seen m)) (λ i. table_bytes (listed_area size disk (map_seen m) i)) m.count best
    → PrevailsBy (prevailing_area size disk (map_seen m)) best
unfolding prevailing_area
best_area size disk m None few none =
    ap (option_map (listed_area size disk (map_seen m)))
    (ap (prevailing_table (listed_number size disk (map_seen m))) (all_listed m few) ∙ none_prevails (listed_number size disk (map_seen m)) m.count none)
best_area size disk m (Some table) few (best, is) = (
  listed_area size disk (map_seen m) best,
  ap (option_map (listed_area size disk (map_seen m)))
      (ap (prevailing_table (listed_number size disk (map_seen m))) (all_listed m few)
      ∙ best_prevails (listed_number size disk (map_seen m)) m.count (λ i. table_bytes (listed_area size disk (map_seen m) i)) table best is),
  is.bytes,
)
