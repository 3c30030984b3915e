-- The kept entries in the order of their addresses.
use Rattle.std.proofs.Common.{◌≡◌, ℕ, zero, suc, ◌<◌, List, [], ◌∷◌, length, map, Bool, true, false, cond, Option, Some, None, refl, sym, ap, ◌∙◌, inl, inr, arith}
use Rattle.std.specs.Prelude.{All, slice_get}
use Rattle.std.specs.BTreeMap.{BTreeMap, get, is_at}
use Rattle.std.specs.List.{filter}
use Rattle.std.specs.List.Sorted.{IsStrictlySortedBy}
use Rattle.std.specs.Map.{keys_of, lookup, values_of}
use Rattle.std.specs.Ordering.{is_eq}
use Rattle.std.proofs.lemmas.Bool.{false≢true}
use Rattle.std.proofs.lemmas.Option.{slice_get_within}
use Rattle.udf_field.specs.declared.address.Addr.{Addr}
use Rattle.udf_file_model.specs.Listing.{Volume}
use Rattle.udf_tree_model.specs.Among.{Member}
use Rattle.udf_tree_model.specs.Chosen.{is_lower}
use Rattle.udf_tree_model.specs.Frame.{Frame, places, setting_of, tree_of}
use Rattle.udf_tree_model.specs.Ordinary.{is_kept_entry, kept_entries}
use Rattle.udf_tree_model.proofs.Finding.{found_readable, volume_within}
use Rattle.udf_tree_model.proofs.Keeping.{kept_found}
use Rattle.udf_tree_model.proofs.Members.{member_filter, member_filtered}
use Rattle.udf_tree_model.proofs.Places.{address_same, placed_among, readable_placed}
use Rattle.udf_kept.specs.declared.entries.Entries.{Entries}
use Rattle.udf_tree.specs.declared.node.NodeId.{NodeId}
use Rattle.udf_tree.specs.Nodes.{AreSurveyed, IsNumbering, numbered}
use Rattle.udf_found.specs.Order.{addr_cmp}
use Rattle.udf_tree.specs.Ordered.{AreInOrder}
use Rattle.udf_dues.proofs.Ascending.{Ascending, ascending_filter, not_lower_itself, places_ascend}
use Rattle.udf_dues.proofs.Assigning.{same_ascending, sorted_ascend}
use Rattle.udf_kept.proofs.ByIndex.{member_at}
use Rattle.udf_tree.proofs.Enrolling.{has_kept, kept_has, kept_parts, starts}
use Rattle.udf_kept.proofs.Indexing.{order_same, same_order}
use Rattle.udf_tree.proofs.Surveying.{heads}

-- ---- a map by its entries
key_of : (es : List (Addr × NodeId)) (a : Addr) (n : NodeId) → lookup (is_at (addr_cmp a)) es ≡ Some n → Member a (keys_of es)
key_of [] a n q = cc
key_of (e ∷ es) a n q = by (key_of es a n) (is_eq (addr_cmp a e.0)) refl q
  where
    by : (lookup (is_at (addr_cmp a)) es ≡ Some n → Member a (keys_of es)) → (b : Bool) → is_eq (addr_cmp a e.0) ≡ b → cond b (Some e.1) (lookup (is_at (addr_cmp a)) es) ≡ Some n → Member a (keys_of (e ∷ es))
    by next true k h = inl (order_same a e.0 k)
    by next false k h = inr (next h)

value_of : (es : List (Addr × NodeId)) (a : Addr) → Member a (keys_of es) → (n : NodeId) × (lookup (is_at (addr_cmp a)) es ≡ Some n)
value_of [] a m = absurd m
value_of (e ∷ es) a m = by (value_of es a) (is_eq (addr_cmp a e.0)) refl m
  where
    by : (Member a (keys_of es) → (n : NodeId) × (lookup (is_at (addr_cmp a)) es ≡ Some n)) → (b : Bool) → is_eq (addr_cmp a e.0) ≡ b → Member a (keys_of (e ∷ es)) → (n : NodeId) × (cond b (Some e.1) (lookup (is_at (addr_cmp a)) es) ≡ Some n)
    by next true k h = (e.1, refl)
    by next false k (inl i) = absurd (false≢true (sym k ∙ same_order a e.0 ∙ address_same a e.0 i))
    by next false k (inr h) = next h

itself : (a : Addr) → is_eq (addr_cmp a a) ≡ true
itself a = same_order a a ∙ address_same a a refl

-- what the values name are the keys
values_name : (numbers : List Addr) (es : List (Addr × NodeId)) → Ascending (keys_of es) → ((a : Addr) (n : NodeId) → lookup (is_at (addr_cmp a)) es ≡ Some n → slice_get numbers n.0 ≡ Some a)
    → map (λ id. slice_get numbers id.0) (values_of es) ≡ map Some (keys_of es)
values_name numbers [] up f = refl
values_name numbers (e ∷ es) up f = ap (λ o. o ∷ map (λ id. slice_get numbers id.0) (values_of es)) first ∙ ap (λ os. Some e.0 ∷ os) (values_name numbers es up.1 later)
  where
    first : slice_get numbers e.1.0 ≡ Some e.0
    first = f e.0 e.1 (ap (λ b. cond b (Some e.1) (lookup (is_at (addr_cmp e.0)) es)) (itself e.0))

    later : (a : Addr) (n : NodeId) → lookup (is_at (addr_cmp a)) es ≡ Some n → slice_get numbers n.0 ≡ Some a
    later a n q = f a n (by (is_eq (addr_cmp a e.0)) refl)
      where
        by : (b : Bool) → is_eq (addr_cmp a e.0) ≡ b → cond b (Some e.1) (lookup (is_at (addr_cmp a)) es) ≡ Some n
        by false k = q
        by true k = absurd (false≢true (sym (not_lower_itself e.0) ∙ ap (is_lower e.0) (sym (order_same a e.0 k)) ∙ up.0 a (key_of es a n q)))

pub in_order_by : (numbers : List Addr) (m : BTreeMap Addr NodeId) → IsStrictlySortedBy addr_cmp (keys_of m.entries) → IsNumbering numbers (get addr_cmp m) → (order : List NodeId) → order ≡ values_of m.entries → AreInOrder numbers order
in_order_by numbers m sorted n order e = record {
  addresses = keys_of m.entries;
  named = ap (map (λ (id : NodeId). slice_get numbers id.0)) e ∙ values_name numbers m.entries (sorted_ascend (keys_of m.entries) sorted) n.there;
  ascend = sorted;
  there = λ a k. let x = value_of m.entries a k in member_at numbers x.0.0 a (n.there a x.0 x.1);
  all = λ a k. all a k (get addr_cmp m a) refl;
}
  where
    all : (a : Addr) → Member a numbers → (o : Option NodeId) → get addr_cmp m a ≡ o → Member a (keys_of m.entries)
    all a k None q = absurd (n.all a q k)
    all a k (Some x) q = key_of m.entries a x q

-- each is below how many numbers there are
pub all_within : (numbers : List Addr) (order : List NodeId) (xs : List Addr) → map (λ id. slice_get numbers id.0) order ≡ map Some xs → All (λ id. id.0 < length numbers) order
all_within numbers [] xs e k d l = absurd (omega (arith, l))
all_within numbers (id ∷ order) [] e k d l = cc
all_within numbers (id ∷ order) (x ∷ xs) e zero d l =
    slice_get_within numbers id.0 x (heads (slice_get numbers id.0) (Some x) (map (λ (n : NodeId). slice_get numbers n.0) order) (map Some xs) e).0
all_within numbers (id ∷ order) (x ∷ xs) e (suc k) d l =
    all_within numbers order xs (heads (slice_get numbers id.0) (Some x) (map (λ (n : NodeId). slice_get numbers n.0) order) (map Some xs) e).1 k d (omega (arith, l))

-- ---- the addresses of the kept entries
module _ (f : Frame) (v : Volume) (root file_set : Addr) (e : Entries) (links ids : List ℕ) (k : AreSurveyed f v root file_set e links ids) where
  placed : (a : Addr) → is_kept_entry f v a ≡ true → Member a (places v)
  placed a h =
      let own = kept_found (setting_of f v) (tree_of f v) (volume_within f v) (starts f v root file_set e links ids k) a (kept_parts f v a h).0 in
      let r = readable_placed f v a (found_readable (setting_of f v) (tree_of f v) (volume_within f v) a own) in
      placed_among v a r.0 r.1

  pub kept_in_order : (order : List NodeId) → AreInOrder (numbered e.kept.items e.held.items) order → map (λ id. slice_get (numbered e.kept.items e.held.items) id.0) order ≡ map Some (kept_entries f v)
  unfolding kept_entries
  kept_in_order order o = o.named ∙ ap (map Some) (same_ascending o.addresses (filter (is_kept_entry f v) (places v)) (sorted_ascend o.addresses o.ascend) (ascending_filter (is_kept_entry f v) (places v) (places_ascend v)) into from)
    where
      into : (a : Addr) → Member a o.addresses → Member a (filter (is_kept_entry f v) (places v))
      into a m = let h = has_kept f v root file_set e links ids k a (o.there a m) in member_filtered (is_kept_entry f v) (places v) a (placed a h) h

      from : (a : Addr) → Member a (filter (is_kept_entry f v) (places v)) → Member a o.addresses
      from a m = o.all a (kept_has f v root file_set e links ids k a (member_filter (is_kept_entry f v) (places v) a m).1)
