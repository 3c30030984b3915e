-- The identifiers that ordinary entries are to state leave room for a next one.
use Rattle.std.proofs.Common.{◌≡◌, ℕ, zero, suc, ◌+◌, ◌<◌, ◌^◌, arith, inl, inr, refl, List, [], ◌∷◌, length, map, get_or, Bool, true, false, cond, not, ◌&&◌}
use Rattle.std.specs.Prelude.{slice_index}
use Rattle.std.specs.List.{range_with_len}
use Rattle.std.proofs.lemmas.Bool.{and_parts, false≢true, ltb-true}
use Rattle.udf_field.specs.declared.address.Addr.{Addr}
use Rattle.udf_file_model.specs.Address.{same_addr}
use Rattle.udf_file_model.specs.Listing.{Volume}
use Rattle.udf_tree_model.specs.Among.{Member}
use Rattle.udf_tree_model.specs.Counts.{free_ids, id_of, is_id_kept, is_lawful_id, keeps_id, ordinary_entries, place_among_takers, wanted_id}
use Rattle.udf_tree_model.specs.Frame.{Frame, places}
use Rattle.udf_tree_model.specs.Parent.{ordinary}
use Rattle.udf_tree_model.proofs.Members.{member_filter, member_of_map}
use Rattle.udf_rules_model.specs.Integrity.{greatest, greatest_id}

range_below : (a n x : ℕ) → Member x (range_with_len a n) → x < a + n
range_below a zero x m = absurd m
range_below a (suc n) x (inl e) = omega (arith, e)
range_below a (suc n) x (inr m) = let rest = range_below (a + 1) n x m in omega (arith, rest)

index_below : (xs : List ℕ) (k limit : ℕ) → 0 < limit → ((x : ℕ) → Member x xs → x < limit) → get_or xs k 0 < limit
index_below [] k limit some all = some
index_below (x ∷ xs) zero limit some all = all x (inl refl)
index_below (x ∷ xs) (suc k) limit some all = index_below xs k limit some (λ y m. all y (inr m))

greatest_below : (xs : List ℕ) (limit : ℕ) → 0 < limit → ((x : ℕ) → Member x xs → x < limit) → greatest xs < limit
greatest_below [] limit some all = some
greatest_below (x ∷ xs) limit some all =
    let here = all x (inl refl) in
    let rest = greatest_below xs limit some (λ y m. all y (inr m)) in
    omega (arith, here, rest)

module _ (f : Frame) (v : Volume) where
  free_below : (k : ℕ) → slice_index (free_ids f v) k < 16 + length (ordinary_entries f v)
  unfolding free_ids
  free_below k =
      index_below (free_ids f v) k (16 + length (ordinary_entries f v)) (omega arith)
      (λ x m. range_below 16 (length (ordinary_entries f v)) x (member_filter (λ id. not (is_id_kept f v id)) (range_with_len 16 (length (ordinary_entries f v))) x m).0)

  kept_below : (a : Addr) → keeps_id f v a ≡ true → id_of v a < 2 ^ 63
  unfolding keeps_id
  kept_below a h = ltb-true _ _ (and_parts _ _ (and_parts (is_lawful_id (id_of v a)) _ (and_parts (not (same_addr a f.root)) _ h).1).0).1

  is_ordinary : (a : Addr) → Member a (ordinary_entries f v) → ordinary f v a ≡ true
  unfolding ordinary_entries
  is_ordinary a m = (member_filter (ordinary f v) (places v) a m).1

  module _ (few : length (ordinary_entries f v) < 2 ^ 63) where
    wanted_below : (a : Addr) → ordinary f v a ≡ true → wanted_id f v a < 2 ^ 63 + 16
    unfolding wanted_id
    wanted_below a o =
        by (same_addr a f.root) (keeps_id f v a) refl (ordinary f v a) o
      where
        by : (r k : Bool) → keeps_id f v a ≡ k → (b : Bool) → b ≡ true
            → cond r 0 (cond (b && (not r && not k)) (slice_index (free_ids f v) (place_among_takers f v a)) (id_of v a)) < 2 ^ 63 + 16
        by true k e b h = omega arith
        by false k e false h = absurd (false≢true h)
        by false true e true h = let low = kept_below a e in omega (arith, low)
        by false false e true h = let low = free_below (place_among_takers f v a) in omega (arith, low, few)

    pub room_above : greatest_id f v + 1 < 2 ^ 64
    unfolding greatest_id
    room_above =
        let low : greatest_id f v < 2 ^ 63 + 16 = greatest_below (map (wanted_id f v) (ordinary_entries f v)) (2 ^ 63 + 16) (omega arith) each in
        omega (arith, low)
      where
        each : (id : ℕ) → Member id (map (wanted_id f v) (ordinary_entries f v)) → id < 2 ^ 63 + 16
        each id m =
            let r = member_of_map (wanted_id f v) (ordinary_entries f v) id m in
            let low = wanted_below r.0 (is_ordinary r.0 r.1) in
            omega (arith, r.2, low)
