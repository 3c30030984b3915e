-- The maps of a logical volume descriptor, as the code reads them.
use Rattle.std.proofs.Common.{◌≡◌, ℕ, zero, suc, ◌+◌, ◌-◌, ◌*◌, ◌<◌, ◌≤◌, ◌==◌, arith, refl, sym, ap, ◌∙◌, List, [], ◌∷◌, length, take, drop, map, min, inl, inr, Bool, true, false, cond, ◌&&◌, nat_le, Option, Some, None}
use Rattle.std.specs.Prelude.{slice_index, option_map}
use Rattle.std.specs.List.{range_with_len}
use Rattle.std.proofs.lemmas.Bool.{and_parts, cases_lt}
use Rattle.std.proofs.lemmas.Bool.Decides.{nat_tests}
use Rattle.std.proofs.lemmas.List.{length-drop, take_all}
use Rattle.udf_model.specs.Bytes.{number_at}
use Rattle.udf_volume_model.specs.Prevailing.{number_in}
use Rattle.udf_volume_model.specs.Maps as model
use Rattle.udf_volume_model.specs.Maps.{PartitionMap, Shape, begins, kind_length, length_of, lone_shape, map_at, map_count, map_table, numbered, pair_shape, first_map, second_map, second_kind, shape_of}
use Rattle.udf_volume_model.specs.Stated.{number_by, partition_number}
use Rattle.udf_layer.specs.declared.maps.SparingMap.{SparingMap}
use Rattle.udf_volume.specs.Maps.{is_sparable, kind_of, kind_seen, sparing_in, sparing_of, sparing_stated}
use Rattle.udf_volume.specs.declared.maps.MapKind.{MapKind}
use Rattle.udf_volume.specs.declared.maps.MapKind.TheVariants as kind

same_map : (f g : ℕ → ℕ) (most a n : ℕ) → a + n ≤ most → ((i : ℕ) → i < most → f i ≡ g i) → map f (range_with_len a n) ≡ map g (range_with_len a n)
same_map f g most a zero room same = refl
same_map f g most a (suc n) room same =
    ap (λ p. p ∷ map f (range_with_len (a + 1) n)) (same a (omega arith)) ∙ ap (λ l. g a ∷ l) (same_map f g most (a + 1) n (omega arith) same)

-- four numbers of some bytes, read into an array
pub tables_are : (table : List ℕ) (many : ℕ)
    → map (slice_index (number_at 4 table 48 ∷ number_at 4 table 52 ∷ number_at 4 table 56 ∷ number_at 4 table 60 ∷ [])) (range_with_len 0 (min many 4))
    ≡ map (λ i. number_at 4 table (48 + 4 * i)) (range_with_len 0 (min many 4))
tables_are table many =
    same_map _ _ 4 0 (min many 4) (omega arith) (λ i h. each i h)
  where
    each : (i : ℕ) → i < 4 → slice_index (number_at 4 table 48 ∷ number_at 4 table 52 ∷ number_at 4 table 56 ∷ number_at 4 table 60 ∷ []) i ≡ number_at 4 table (48 + 4 * i)
    each zero h = refl
    each (suc zero) h = refl
    each (suc (suc zero)) h = refl
    each (suc (suc (suc zero))) h = refl
    each (suc (suc (suc (suc i)))) h = absurd (omega arith)

-- a map that begins some bytes lies in them
pub begins_fits : (kind bytes : ℕ) (table : List ℕ) → true ≡ begins kind bytes table → bytes ≤ length table
unfolding begins
begins_fits kind bytes table e =
    let t = and_parts (nat_le bytes (length table)) ((slice_index table 0 == kind) && (slice_index table 1 == bytes)) (sym e) in
    grind (arith, nat_tests)

pub kinds_fit : (kind : model.MapKind) (table : List ℕ) → true ≡ begins 2 64 table → kind_length kind ≤ length table
kinds_fit kind table e = by_kind kind (begins_fits 2 64 table e) where
  by_kind : (kind : model.MapKind) → 64 ≤ length table → kind_length kind ≤ length table
  by_kind model.Physical h = omega arith
  by_kind (model.Sparable m) h = h
  by_kind model.Metadata h = h
  by_kind model.Virtual h = h

module _ (table : List ℕ) where
  map_is : (first second : Bool) → first ≡ begins 1 6 table → second ≡ begins 2 64 table
      → map_at table ≡ cond first (Some (record { kind = model.Physical; number = take 2 (drop 4 table) }))
      (cond second (numbered (take 2 (drop 38 table)) (second_kind table)) None)
  unfolding map_at
  map_is first second e f =
      ap (λ b. cond b (Some (record { kind = model.Physical; number = take 2 (drop 4 table) }))
      (cond (begins 2 64 table) (numbered (take 2 (drop 38 table)) (second_kind table)) None)) (sym e)
      ∙ ap (λ b. cond first (Some (record { kind = model.Physical; number = take 2 (drop 4 table) }))
      (cond b (numbered (take 2 (drop 38 table)) (second_kind table)) None)) (sym f)

  kind_numbered : (number : List ℕ) (kind : Option model.MapKind) → kind ≡ kind_of (numbered number kind)
  kind_numbered number None = refl
  kind_numbered number (Some kind) = refl

  pub first_kind : true ≡ begins 1 6 table → Some model.Physical ≡ kind_of (map_at table)
  first_kind e = ap kind_of (sym (map_is true (begins 2 64 table) e refl))

  pub other_kind : (found : Option MapKind) → false ≡ begins 1 6 table → true ≡ begins 2 64 table
      → option_map kind_seen found ≡ second_kind table → option_map kind_seen found ≡ kind_of (map_at table)
  other_kind found e f is =
      is ∙ kind_numbered (take 2 (drop 38 table)) (second_kind table) ∙ ap kind_of (sym (map_is false true e f))

  pub no_kind : false ≡ begins 1 6 table → false ≡ begins 2 64 table → None ≡ kind_of (map_at table)
  no_kind e f = ap kind_of (sym (map_is false false e f))

  number_some : (number : List ℕ) (found : Option MapKind) (kind : Option model.MapKind) (some : MapKind) → found ≡ Some some → option_map kind_seen found ≡ kind
      → number ≡ number_by (numbered number kind)
  number_some number found kind some s is = ap (λ (o : Option model.MapKind). number_by (numbered number o)) (ap (option_map kind_seen) (sym s) ∙ is)

  pub first_number : true ≡ begins 1 6 table → take 2 (drop 4 table) ≡ number_by (map_at table)
  first_number e = ap number_by (sym (map_is true (begins 2 64 table) e refl))

  pub other_number : (found : Option MapKind) (some : MapKind) → false ≡ begins 1 6 table → true ≡ begins 2 64 table
      → option_map kind_seen found ≡ second_kind table → found ≡ Some some → take 2 (drop 38 table) ≡ number_by (map_at table)
  other_number found some e f is s =
      number_some (take 2 (drop 38 table)) found (second_kind table) some s is ∙ ap number_by (sym (map_is false true e f))

  pub no_map : false ≡ begins 1 6 table → false ≡ begins 2 64 table → [] ≡ number_by (map_at table)
  no_map e f = ap number_by (sym (map_is false false e f))

  pub no_entity : (found : Option MapKind) → false ≡ begins 1 6 table → true ≡ begins 2 64 table
      → option_map kind_seen found ≡ second_kind table → found ≡ None → [] ≡ number_by (map_at table)
  no_entity found e f is none =
      ap (λ (o : Option model.MapKind). number_by (numbered (take 2 (drop 38 table)) o)) (ap (option_map kind_seen) (sym none) ∙ is)
      ∙ ap number_by (sym (map_is false true e f))

-- the length of the map that begins some bytes
pub length_is : (kind : model.MapKind) (o : Option PartitionMap) (found : Option MapKind) (some : MapKind) → option_map kind_seen found ≡ kind_of o → found ≡ Some some
    → kind ≡ kind_seen some → kind_length kind ≡ length_of o
length_is kind None found some is s e = absurd (let t : Some (kind_seen some) ≡ None = ap (option_map kind_seen) (sym s) ∙ is in cc)
length_is kind (Some m) found some is s e =
    let t : Some (kind_seen some) ≡ Some m.kind = ap (option_map kind_seen) (sym s) ∙ is in
    ap kind_length (e ∙ (let u : kind_seen some ≡ m.kind = cc in u))

pub nothing_passed : (o : Option PartitionMap) (found : Option MapKind) (table : List ℕ) → option_map kind_seen found ≡ kind_of o → found ≡ None → table ≡ drop (length_of o) table
nothing_passed None found table is none = refl
nothing_passed (Some m) found table is none = absurd (let t : None ≡ Some m.kind = ap (option_map kind_seen) (sym none) ∙ is in cc)

-- the map table
cut : (stated : ℕ) (xs : List ℕ) → take (min stated (length xs)) xs ≡ take stated xs
cut stated xs = elim (cases_lt stated (length xs)) [
  | inl less ↦ ap (λ n. take n xs) (let e : min stated (length xs) ≡ stated = omega arith in e)
  | inr more ↦ ap (λ n. take n xs) (let e : min stated (length xs) ≡ length xs = omega arith in e)
      ∙ take_all (length xs) xs (omega arith) ∙ sym (take_all stated xs (omega arith))
]

pub table_is : (body bytes : List ℕ) (stated many : ℕ) → bytes ≡ body → stated ≡ number_in 4 body 264
    → many ≡ min stated (length (take (length bytes - 424) (drop 424 bytes))) → take many (take (length bytes - 424) (drop 424 bytes)) ≡ map_table body
unfolding map_table
table_is body bytes stated many e f g =
    let rest : List ℕ = drop 424 bytes in
    let all : take (length bytes - 424) rest ≡ rest = take_all (length bytes - 424) rest (omega (arith, length-drop 424 bytes)) in
    ap (λ n. take n (take (length bytes - 424) rest)) g
    ∙ ap (λ (l : List ℕ). take (min stated (length l)) l) all
    ∙ cut stated rest ∙ ap (λ (l : List ℕ). take stated (drop 424 l)) e ∙ ap (λ n. take n (drop 424 body)) f

pub number_is : (body table : List ℕ) → table ≡ map_table body → number_by (map_at table) ≡ partition_number body
unfolding partition_number first_map
number_is body table e = ap (λ t. number_by (map_at t)) e

-- the shape by the number of maps
module _ (body : List ℕ) where
  counted : (n : ℕ) → map_count body ≡ n → shape_of body ≡ cond (n == 1) (lone_shape (first_map body)) (cond (n == 2) (pair_shape (first_map body) (second_map body)) None)
  unfolding shape_of
  counted n e = ap (λ m. cond (m == 1) (lone_shape (first_map body)) (cond (m == 2) (pair_shape (first_map body) (second_map body)) None)) e

  pub one_map : map_count body ≡ 1 → lone_shape (first_map body) ≡ shape_of body
  one_map e = sym (counted 1 e)

  pub two_maps : map_count body ≡ 2 → pair_shape (first_map body) (second_map body) ≡ shape_of body
  two_maps e = sym (counted 2 e)

  pub other_count : (fields : List ℕ) (count : ℕ) → fields ≡ body → count ≡ number_at 4 fields 252 → false ≡ (count == 1) → false ≡ (count == 2) → None ≡ shape_of body
  unfolding map_count
  other_count fields count f is e g =
      let n : map_count body ≡ count = sym (is ∙ ap (λ l. number_at 4 l 252) f) in
      sym (counted count n
      ∙ ap (λ b. cond b (lone_shape (first_map body)) (cond (count == 2) (pair_shape (first_map body) (second_map body)) None)) (sym e)
      ∙ ap (λ b. cond b (pair_shape (first_map body) (second_map body)) None) (sym g))

-- what the first map says of sparing
module _ (body table : List ℕ) (is : table ≡ map_table body) where
  stated_as : (found : Option MapKind) → option_map kind_seen found ≡ kind_of (map_at table) → sparing_stated body ≡ sparing_of (option_map kind_seen found) table
  unfolding sparing_stated first_map
  stated_as found e = sym (ap (λ k. sparing_of k table) e ∙ ap (λ t. sparing_of (kind_of (map_at t)) t) is)

  pub sparing_found : (found : Option MapKind) (some answer : SparingMap) → option_map kind_seen found ≡ kind_of (map_at table)
      → found ≡ Some (kind.Sparable some) → answer ≡ sparing_in table → Some answer ≡ sparing_stated body
  sparing_found found some answer e f s = ap Some s ∙ sym (stated_as found e ∙ ap (λ k. sparing_of (option_map kind_seen k) table) f)

  pub no_sparing : (found : Option MapKind) → option_map kind_seen found ≡ kind_of (map_at table) → is_sparable found ≡ false → None ≡ sparing_stated body
  no_sparing found e f = sym (stated_as found e ∙ by_kind found f) where
    by_kind : (found : Option MapKind) → is_sparable found ≡ false → sparing_of (option_map kind_seen found) table ≡ None
    by_kind None f = refl
    by_kind (Some kind.Physical) f = refl
    by_kind (Some (kind.Sparable map)) f = absurd (let g : true ≡ false = f in cc)
    by_kind (Some (kind.Metadata map)) f = refl
    by_kind (Some kind.Virtual) f = refl
