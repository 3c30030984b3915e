-- Identifiers after the mend: each ordinary entry keeps the one that it was to have.
use Rattle.std.proofs.Common.{◌≡◌, inl, inr, refl, sym, ◌∙◌, ap, subst, List, [], ◌∷◌, map, Bool, true, false, not, cond, ◌&&◌, ◌==◌}
use Rattle.std.specs.Prelude.{slice_index}
use Rattle.std.specs.List.{list_all, list_any}
use Rattle.std.proofs.lemmas.Bool.{and_from, and_parts, eq-eqb, eqb-true, false≢true}
use Rattle.udf_field.specs.declared.address.Addr.{Addr}
use Rattle.udf_file_model.specs.Address.{same_addr}
use Rattle.udf_file_model.specs.Listing.{Volume}
use Rattle.udf_tree_model.specs.Among.{Member}
use Rattle.udf_tree_model.specs.Chosen.{is_lower}
use Rattle.udf_tree_model.specs.Counts.{free_ids, id_of, is_lawful_id, keeps_id, ordinary_entries, place_among_takers, takes_id, wanted_id}
use Rattle.udf_tree_model.specs.Frame.{Frame}
use Rattle.udf_tree_model.specs.Parent.{ordinary}
use Rattle.udf_tree_model.proofs.Members.{all_from, any_gives, contains_of}
use Rattle.udf_dues.proofs.Ascending.{not_lower_itself}
use Rattle.udf_dues.proofs.Differing.{wanted_differ}
use Rattle.udf_dues.proofs.Numbering.{are_ordinary}
use Rattle.udf_rules_model.specs.FileRules.{identifier_rule}
use Rattle.udf_rules_model.specs.Integrity.{greatest, greatest_id}
use Rattle.udf_count_laws.specs.Alike.{AreAlike, StatesWanted}
use Rattle.udf_count_laws.proofs.Counting.{ordinary_same}
use Rattle.udf_count_laws.proofs.Lawful.{wanted_lawful}

-- the root's is 0, and an entry that keeps its identifier is to have that
root_wanted : (f : Frame) (v : Volume) (a : Addr) → same_addr a f.root ≡ true → wanted_id f v a ≡ 0
unfolding wanted_id
root_wanted f v a e = ap (λ b. cond b 0 (cond (ordinary f v a && takes_id f v a) (slice_index (free_ids f v) (place_among_takers f v a)) (id_of v a))) e

own_wanted : (f : Frame) (v : Volume) (a : Addr) → same_addr a f.root ≡ false → keeps_id f v a ≡ true → wanted_id f v a ≡ id_of v a
unfolding wanted_id
own_wanted f v a e k =
    ap (λ b. cond b 0 (cond (ordinary f v a && takes_id f v a) (slice_index (free_ids f v) (place_among_takers f v a)) (id_of v a))) e
    ∙ ap (λ b. cond (ordinary f v a && (not (same_addr a f.root) && not b)) (slice_index (free_ids f v) (place_among_takers f v a)) (id_of v a)) k
    ∙ by (ordinary f v a) (not (same_addr a f.root))
  where
    by : (x y : Bool) → cond (x && (y && false)) (slice_index (free_ids f v) (place_among_takers f v a)) (id_of v a) ≡ id_of v a
    by false y = refl
    by true false = refl
    by true true = refl

module _ (f g : Frame) (v w : Volume) (alike : AreAlike f g v w) (states : StatesWanted f v w) where
  -- no entry at a lower address states it
  none_lower : (a : Addr) → Member a (ordinary_entries f v) → list_any (λ b. is_lower b a && (id_of w b == id_of w a)) (ordinary_entries f v) ≡ false
  none_lower a m = by (list_any (λ b. is_lower b a && (id_of w b == id_of w a)) (ordinary_entries f v)) refl
    where
      clash : (b : Addr) × Member b (ordinary_entries f v) × ((is_lower b a && (id_of w b == id_of w a)) ≡ true) → ⊥
      clash (b, n, e) =
          let parts : (is_lower b a ≡ true) × ((id_of w b == id_of w a) ≡ true) = and_parts (is_lower b a) (id_of w b == id_of w a) e in
          let same : wanted_id f v b ≡ wanted_id f v a = sym (states.ids b (are_ordinary f v b n)) ∙ eqb-true _ _ parts.1 ∙ states.ids a (are_ordinary f v a m) in
          let one : b ≡ a = wanted_differ f v b a (contains_of (ordinary_entries f v) b n) (contains_of (ordinary_entries f v) a m) same in
          false≢true (sym (not_lower_itself a) ∙ subst (λ (x : Addr). is_lower x a ≡ true) one parts.0)

      by : (t : Bool) → list_any (λ b. is_lower b a && (id_of w b == id_of w a)) (ordinary_entries f v) ≡ t → t ≡ false
      by false e = refl
      by true e = absurd (clash (any_gives (λ b. is_lower b a && (id_of w b == id_of w a)) (ordinary_entries f v) e))

  -- so each keeps its own
  id_kept : (a : Addr) → Member a (ordinary_entries f v) → wanted_id g w a ≡ wanted_id f v a
  unfolding wanted_id keeps_id
  id_kept a m = by (same_addr a f.root) refl
    where
      root_is : same_addr a g.root ≡ same_addr a f.root
      root_is = ap (λ (r : Addr). same_addr a r) alike.root

      lawful : same_addr a f.root ≡ false → is_lawful_id (id_of w a) ≡ true
      lawful n = ap is_lawful_id (states.ids a (are_ordinary f v a m)) ∙ wanted_lawful f v a m n

      keeps : same_addr a f.root ≡ false → keeps_id g w a ≡ true
      keeps n =
          and_from (not (same_addr a g.root)) _ (ap not (root_is ∙ n))
          (and_from (is_lawful_id (id_of w a)) _ (lawful n)
          (ap (λ xs. not (list_any (λ b. is_lower b a && (id_of w b == id_of w a)) xs)) (ordinary_same f g v w alike) ∙ ap not (none_lower a m)))

      by : (t : Bool) → same_addr a f.root ≡ t → wanted_id g w a ≡ wanted_id f v a
      by true e = root_wanted g w a (root_is ∙ e) ∙ sym (root_wanted f v a e)
      by false e = own_wanted g w a (root_is ∙ e) (keeps e) ∙ states.ids a (are_ordinary f v a m)

  pub identifiers_hold : identifier_rule g w ≡ true
  unfolding identifier_rule
  identifiers_hold =
      ap (list_all (λ a. id_of w a == wanted_id g w a)) (ordinary_same f g v w alike)
      ∙ all_from (λ a. id_of w a == wanted_id g w a) (ordinary_entries f v) (λ a m. eq-eqb _ _ (states.ids a (are_ordinary f v a m) ∙ sym (id_kept a m)))

  map_same : (xs : List Addr) → ((a : Addr) → Member a xs → Member a (ordinary_entries f v)) → map (wanted_id g w) xs ≡ map (wanted_id f v) xs
  map_same [] among = refl
  map_same (x ∷ xs) among =
      ap (λ n. n ∷ map (wanted_id g w) xs) (id_kept x (among x (inl refl))) ∙ ap (λ ns. wanted_id f v x ∷ ns) (map_same xs (λ a m. among a (inr m)))

  pub greatest_same : greatest_id g w ≡ greatest_id f v
  unfolding greatest_id
  greatest_same =
      ap (λ xs. greatest (map (wanted_id g w) xs)) (ordinary_same f g v w alike) ∙ ap greatest (map_same (ordinary_entries f v) (λ a m. m))
