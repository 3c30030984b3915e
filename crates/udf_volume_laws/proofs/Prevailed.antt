-- The sparing table that prevails among those that a map lists, by their sectors.
use Rattle.std.proofs.Common.{◌≡◌, ℕ, zero, suc, ◌+◌, ◌<◌, ◌≤◌, arith, refl, sym, ◌∙◌, ap, List, [], length, get_or, Bool, true, false, cond, ◌&&◌, leb, eqb, Option, Some, None, codes}
use Rattle.std.specs.Prelude.{option_map}
use Rattle.std.specs.List.{list_all, find, range_with_len}
use Rattle.std.proofs.lemmas.Bool.{and_parts, leb-true, le-leb, eqb-true}
use Rattle.udf_model.specs.Tag.{is_whole, crc_length, identifier, location, id_at, is_id}
use Rattle.udf_field.specs.FieldView.{entity_is}
use Rattle.udf_volume_model.specs.Anchor.{blocks_for}
use Rattle.udf_volume_model.specs.Maps.{SparingMap}
use Rattle.udf_volume_model.specs.SparingTable.{bytes_from, table_area, table_end, is_table, table_number, sequence_number, at_most, is_top, is_highest, prevailing_table, listed_area, listed_number, prevailing_area}
use Rattle.udf_volume_laws.proofs.Members.{IsIn, all_at, all_from, in_range, range_in, at_index, index_of, find_passes, find_some, same_find, same_all}

-- what a whole table is
pub record IsWholeTable (bytes at : ℕ) (area : List ℕ) : Type 0 where
  pub tagged : is_whole area ≡ true
  pub here : location area ≡ at
  pub kind : identifier area ≡ 0
  pub named : entity_is area 16 (codes "*UDF Sparing Table") ≡ true
  pub ends : table_end area ≤ bytes
  pub room : 16 + crc_length area ≤ length area

pub whole_table : (bytes at : ℕ) (area : List ℕ) → is_table bytes at area ≡ true → IsWholeTable bytes at area
unfolding is_table id_at is_whole
whole_table bytes at area e =
    let one = and_parts (is_id 0 (id_at at area)) (entity_is area 16 (codes "*UDF Sparing Table") && leb (table_end area) bytes) e in
    let two = and_parts (entity_is area 16 (codes "*UDF Sparing Table")) (leb (table_end area) bytes) one.1 in
    by_test (is_whole area && eqb (location area) at) refl one.0 two.0 (leb-true _ _ two.1)
  where
    by_test : (b : Bool) → (is_whole area && eqb (location area) at) ≡ b → is_id 0 (cond b (Some (identifier area)) None) ≡ true
        → entity_is area 16 (codes "*UDF Sparing Table") ≡ true → table_end area ≤ bytes → IsWholeTable bytes at area
    by_test true test is named ends =
        let parts = and_parts (is_whole area) (eqb (location area) at) test in
        record {
          tagged = parts.0;
          here = eqb-true _ _ parts.1;
          kind = eqb-true _ _ is;
          named = named;
          ends = ends;
          room = leb-true _ _ (and_parts (leb (16 + crc_length area) (length area)) _ parts.0).0;
        }
    by_test false test is named ends = absurd (cc)

number_whole : (bytes at : ℕ) (area : List ℕ) (n : ℕ) → table_number bytes at area ≡ Some n → (is_table bytes at area ≡ true) × (n ≡ sequence_number area)
unfolding table_number
number_whole bytes at area n = by_test (is_table bytes at area) refl where
  by_test : (b : Bool) → is_table bytes at area ≡ b → cond b (Some (sequence_number area)) None ≡ Some n → (is_table bytes at area ≡ true) × (n ≡ sequence_number area)
  by_test true t e = (t, let is : sequence_number area ≡ n = cc in sym is)
  by_test false t e = absurd (cc)

whole_number : (bytes at : ℕ) (area : List ℕ) → is_table bytes at area ≡ true → table_number bytes at area ≡ Some (sequence_number area)
unfolding table_number
whole_number bytes at area t = ap (λ b. cond b (Some (sequence_number area)) None) t

-- the highest among some numbers
record IsHighest (numbers : ℕ → Option ℕ) (count i : ℕ) : Type 0 where
  number : ℕ
  whole : numbers i ≡ Some number
  highest : (k : ℕ) → k < count → at_most (numbers k) number ≡ true

highest_is : (numbers : ℕ → Option ℕ) (count i : ℕ) → is_highest numbers count i ≡ true → IsHighest numbers count i
unfolding is_highest
highest_is numbers count i = by_number (numbers i) refl where
  by_number : (o : Option ℕ) → numbers i ≡ o → is_top (λ n. list_all (λ k. at_most (numbers k) n) (range_with_len 0 count)) o ≡ true → IsHighest numbers count i
  by_number None e t = absurd (cc)
  by_number (Some n) e t = record {
    number = n;
    whole = e;
    highest = λ k h. all_at (λ j. at_most (numbers j) n) (range_with_len 0 count) k t (in_range count 0 k (omega arith) (omega arith));
  }

is_the_highest : (numbers : ℕ → Option ℕ) (count i n : ℕ) → numbers i ≡ Some n → ((k : ℕ) → k < count → at_most (numbers k) n ≡ true) → is_highest numbers count i ≡ true
unfolding is_highest
is_the_highest numbers count i n e h =
    ap (is_top (λ m. list_all (λ k. at_most (numbers k) m) (range_with_len 0 count))) e
    ∙ all_from (λ k. at_most (numbers k) n) (range_with_len 0 count) (λ k j. h k (omega (arith, (range_in count 0 k j).1)))

most_of : (o : Option ℕ) (m n : ℕ) → o ≡ Some m → at_most o n ≡ true → m ≤ n
most_of None m n e h = absurd (cc)
most_of (Some k) m n e h = let is : k ≡ m = cc in let le : k ≤ n = leb-true _ _ h in omega arith

-- the area of a listed table
abbrev pub area_at : ℕ → (ℕ → List ℕ) → SparingMap → ℕ → List ℕ
area_at size disk s at = table_area size disk s.bytes at

-- the table prevails: it is a whole one that is listed, and no other whole one has a higher number
pub record IsPrevailing (size : ℕ) (disk : ℕ → List ℕ) (s : SparingMap) (table : List ℕ) : Type 0 where
  pub at : ℕ
  pub listed : IsIn at s.tables
  pub is : table ≡ area_at size disk s at
  pub whole : is_table s.bytes at table ≡ true
  pub highest : (other : ℕ) → IsIn other s.tables → is_table s.bytes other (area_at size disk s other) ≡ true
      → sequence_number (area_at size disk s other) ≤ sequence_number table

module _ (size : ℕ) (disk : ℕ → List ℕ) (s : SparingMap) where
  abbrev numbers : ℕ → Option ℕ
  numbers i = listed_number size disk s i

  -- what the index that is found says
  by_index : (i : ℕ) (table : List ℕ) → IsIn i (range_with_len 0 (length s.tables)) → is_highest numbers (length s.tables) i ≡ true
      → listed_area size disk s i ≡ table → IsPrevailing size disk s table
  by_index i table inside passes is =
      let top = highest_is numbers (length s.tables) i passes in
      let here = number_whole s.bytes (get_or s.tables i 0) (listed_area size disk s i) top.number top.whole in
      let same : sequence_number table ≡ top.number = ap (λ (a : List ℕ). sequence_number a) (sym is) ∙ sym here.1 in
      record {
        at = get_or s.tables i 0;
        listed = at_index s.tables i (omega (arith, (range_in (length s.tables) 0 i inside).1));
        is = sym is;
        whole = ap (is_table s.bytes (get_or s.tables i 0)) (sym is) ∙ here.0;
        highest = λ other j w.
            let k = index_of s.tables other j in
            let told : numbers k.0 ≡ Some (sequence_number (area_at size disk s other)) =
            ap (λ (at : ℕ). table_number s.bytes at (area_at size disk s at)) k.2 ∙ whole_number s.bytes other (area_at size disk s other) w in
            omega (arith, most_of (numbers k.0) (sequence_number (area_at size disk s other)) top.number told (top.highest k.0 k.1), same);
      }

  pub prevails : (table : List ℕ) → prevailing_area size disk s ≡ Some table → IsPrevailing size disk s table
  unfolding prevailing_area prevailing_table
  prevails table = by_found (find (is_highest numbers (length s.tables)) (range_with_len 0 (length s.tables))) refl where
    by_found : (o : Option ℕ) → find (is_highest numbers (length s.tables)) (range_with_len 0 (length s.tables)) ≡ o
        → option_map (listed_area size disk s) o ≡ Some table → IsPrevailing size disk s table
    by_found None f e = absurd (cc)
    by_found (Some i) f e =
        let found = find_passes (is_highest numbers (length s.tables)) (range_with_len 0 (length s.tables)) i f in
        let is : listed_area size disk s i ≡ table = cc in
        by_index i table found.0 found.1 is

  -- where a whole one has the highest number, some table prevails
  pub some_prevails : (at : ℕ) → IsIn at s.tables → is_table s.bytes at (area_at size disk s at) ≡ true
      → ((other : ℕ) → IsIn other s.tables → is_table s.bytes other (area_at size disk s other) ≡ true
      → sequence_number (area_at size disk s other) ≤ sequence_number (area_at size disk s at))
      → (table : List ℕ) × (prevailing_area size disk s ≡ Some table)
  unfolding prevailing_area prevailing_table
  some_prevails at listed whole highest =
      let k = index_of s.tables at listed in
      let told : numbers k.0 ≡ Some (sequence_number (area_at size disk s at)) =
      ap (λ (n : ℕ). table_number s.bytes n (area_at size disk s n)) k.2 ∙ whole_number s.bytes at (area_at size disk s at) whole in
      let passes = is_the_highest numbers (length s.tables) k.0 (sequence_number (area_at size disk s at)) told by_other in
      let found = find_some (is_highest numbers (length s.tables)) (range_with_len 0 (length s.tables)) k.0 (in_range (length s.tables) 0 k.0 (omega arith) (omega (arith, k.1))) passes in
      (listed_area size disk s found.0, ap (option_map (listed_area size disk s)) found.1)
    where
      by_number : (i : ℕ) → i < length s.tables → (o : Option ℕ) → numbers i ≡ o → at_most o (sequence_number (area_at size disk s at)) ≡ true
      by_number i h None e = refl
      by_number i h (Some n) e =
          let here = number_whole s.bytes (get_or s.tables i 0) (listed_area size disk s i) n e in
          le-leb _ _ (omega (arith, here.1, highest (get_or s.tables i 0) (at_index s.tables i h) here.0))

      by_other : (i : ℕ) → i < length s.tables → at_most (numbers i) (sequence_number (area_at size disk s at)) ≡ true
      by_other i h = by_number i h (numbers i) refl

-- a table that prevails takes some blocks
pub some_blocks : (size : ℕ) (disk : ℕ → List ℕ) (s : SparingMap) (table : List ℕ) → IsPrevailing size disk s table → 0 < blocks_for size s.bytes
unfolding table_area bytes_from
some_blocks size disk s table p = by_count (blocks_for size s.bytes) refl where
  by_count : (count : ℕ) → blocks_for size s.bytes ≡ count → 0 < count
  by_count zero e =
      let none : table ≡ [] = p.is ∙ ap (bytes_from disk p.at) e in
      absurd (omega (arith, (whole_table s.bytes p.at table p.whole).room, ap length none))
  by_count (suc count) e = omega arith

-- the table that prevails is read from the areas of the listed ones alone
module _ (size : ℕ) (disk other : ℕ → List ℕ) (s : SparingMap) (same : (at : ℕ) → IsIn at s.tables → area_at size disk s at ≡ area_at size other s at) where
  same_number : (i : ℕ) → i < length s.tables → listed_number size disk s i ≡ listed_number size other s i
  same_number i h = ap (table_number s.bytes (get_or s.tables i 0)) (same (get_or s.tables i 0) (at_index s.tables i h))

  same_top : (o : Option ℕ) → is_top (λ n. list_all (λ k. at_most (listed_number size disk s k) n) (range_with_len 0 (length s.tables))) o
      ≡ is_top (λ n. list_all (λ k. at_most (listed_number size other s k) n) (range_with_len 0 (length s.tables))) o
  same_top None = refl
  same_top (Some n) = same_all (λ k. at_most (listed_number size disk s k) n) (λ k. at_most (listed_number size other s k) n) (range_with_len 0 (length s.tables))
      (λ k i. ap (λ o. at_most o n) (same_number k (omega (arith, (range_in (length s.tables) 0 k i).1))))

  same_highest : (i : ℕ) → IsIn i (range_with_len 0 (length s.tables))
      → is_highest (listed_number size disk s) (length s.tables) i ≡ is_highest (listed_number size other s) (length s.tables) i
  unfolding is_highest
  same_highest i j =
      same_top (listed_number size disk s i)
      ∙ ap (is_top (λ n. list_all (λ k. at_most (listed_number size other s k) n) (range_with_len 0 (length s.tables)))) (same_number i (omega (arith, (range_in (length s.tables) 0 i j).1)))

  same_listed : (o : Option ℕ) → find (is_highest (listed_number size other s) (length s.tables)) (range_with_len 0 (length s.tables)) ≡ o
      → option_map (listed_area size disk s) o ≡ option_map (listed_area size other s) o
  same_listed None e = refl
  same_listed (Some i) e =
      let found = find_passes (is_highest (listed_number size other s) (length s.tables)) (range_with_len 0 (length s.tables)) i e in
      ap (λ (l : List ℕ). Some l) (same (get_or s.tables i 0) (at_index s.tables i (omega (arith, (range_in (length s.tables) 0 i found.0).1))))

  pub same_prevailing : prevailing_area size disk s ≡ prevailing_area size other s
  unfolding prevailing_area prevailing_table
  same_prevailing =
      ap (option_map (listed_area size disk s))
      (same_find (is_highest (listed_number size disk s) (length s.tables)) (is_highest (listed_number size other s) (length s.tables)) (range_with_len 0 (length s.tables)) same_highest)
      ∙ same_listed (find (is_highest (listed_number size other s) (length s.tables)) (range_with_len 0 (length s.tables))) refl
