-- The way up from a node of a survey is at the root before it has taken as many steps as there are nodes.
use Rattle.std.proofs.Common.{◌≡◌, ◌≢◌, ℕ, zero, suc, ◌<◌, ◌≤◌, List, [], ◌∷◌, length, Bool, false, true, Some, None, arith, refl, sym, ap, ◌∙◌, subst}
use Rattle.std.specs.Prelude.{nat_lt, slice_get}
use Rattle.std.proofs.lemmas.Bool.{false≢true}
use Rattle.std.proofs.lemmas.Bool.Decides.{nat_tests}
use Rattle.std.proofs.lemmas.List.{length-map}
use Rattle.std.proofs.lemmas.Option.{same_Some}
use Rattle.udf_field.specs.declared.address.Addr.{Addr}
use Rattle.udf_file_model.specs.Address.{same_addr}
use Rattle.udf_file_model.specs.Listing.{Volume}
use Rattle.udf_tree_model.specs.Among.{Member}
use Rattle.udf_tree_model.specs.Climb.{IsDistance, climb}
use Rattle.udf_tree_model.specs.Frame.{Frame}
use Rattle.udf_tree_model.specs.Ordinary.{is_kept_entry}
use Rattle.udf_tree_model.proofs.Distances.{climb_more, climb_none, distance, steps_below, way_kept}
use Rattle.udf_tree_model.proofs.Members.{any_from, any_gives}
use Rattle.udf_tree_model.proofs.Places.{address_same, same_address}
use Rattle.udf_tree.specs.declared.node.Node.{Node}
use Rattle.udf_tree.specs.declared.node.NodeId.{NodeId}
use Rattle.udf_tree.specs.Nodes.{AreNodes, StandOnce, node_addresses}
use Rattle.udf_tree.specs.Rise.{HasClimbed, above_by}
use Rattle.udf_kept.proofs.ByIndex.{member_at}
use Rattle.udf_tree.proofs.Climbing.{above_there}

no_element : {X : Type 0} (x : X) → None ≡ Some x → ⊥
no_element x e = cc

-- an address has one number
pub once_number : (xs : List Addr) → StandOnce xs → (i j : ℕ) (a : Addr) → slice_get xs i ≡ Some a → slice_get xs j ≡ Some a → i ≡ j
once_number [] o i j a e k = absurd (no_element a e)
once_number (x ∷ xs) o zero zero a e k = refl
once_number (x ∷ xs) o zero (suc j) a e k = absurd (false≢true (sym o.0 ∙ any_from (same_addr x) xs a (member_at xs j a k) (address_same x a (same_Some x a e))))
once_number (x ∷ xs) o (suc i) zero a e k = absurd (false≢true (sym o.0 ∙ any_from (same_addr x) xs a (member_at xs i a e) (address_same x a (same_Some x a k))))
once_number (x ∷ xs) o (suc i) (suc j) a e k = ap suc (once_number xs o.1 i j a e k)

module _ (f : Frame) (v : Volume) (ns : List Node) (are : AreNodes f v ns) where
  kept_at : (i : ℕ) (a : Addr) → slice_get (node_addresses ns) i ≡ Some a → is_kept_entry f v a ≡ true
  kept_at i a e = sym (are.all a) ∙ any_from (same_addr a) (node_addresses ns) a (member_at (node_addresses ns) i a e) (address_same a a refl)

  listed : (a : Addr) → is_kept_entry f v a ≡ true → Member a (node_addresses ns)
  listed a k =
      let r = any_gives (same_addr a) (node_addresses ns) (are.all a ∙ k) in
      subst (λ (b : Addr). Member b (node_addresses ns)) (sym (same_address a r.0 r.2)) r.1

  pub climbed_begins : (a : Addr) (i : ℕ) → slice_get (node_addresses ns) i ≡ Some a → HasClimbed f v ns a i zero
  climbed_begins a i e = record { at_is = e ∙ ap Some (sym (climb_none f v a)); below = λ j l. absurd (omega (arith, l)) }

  module _ (root : NodeId) (there : slice_get (node_addresses ns) root.0 ≡ Some f.root) (a : Addr) where
    pub climbed_more : (i j : NodeId) (k : ℕ) → HasClimbed f v ns a i.0 k → (i.0 ≡ root.0 → ⊥) → j ≡ above_by i (slice_get ns i.0) → HasClimbed f v ns a j.0 (suc k)
    climbed_more i j k was other next = record { at_is = above_there f v ns are i j (climb f v k a) was.at_is next ∙ ap Some (sym (climb_more f v k a)); below = below }
      where
        here : climb f v k a ≡ f.root → ⊥
        here e = other (once_number (node_addresses ns) are.once i.0 root.0 f.root (was.at_is ∙ ap Some e) there)

        below : (m : ℕ) → m < suc k → climb f v m a ≢ f.root
        below m l e = go (nat_lt m k) refl
          where
            go : (b : Bool) → nat_lt m k ≡ b → ⊥
            go true t = let low : m < k = grind (arith, nat_tests) in was.below m low e
            go false t =
                let high : k ≤ m = grind (arith, nat_tests) in
                let same : m ≡ k = omega (arith, l, high) in
                here (subst (λ (n : ℕ). climb f v n a ≡ f.root) same e)

    pub climbed_up : (i : NodeId) (k : ℕ) → HasClimbed f v ns a i.0 k → i.0 ≡ root.0 → IsDistance f v a k
    climbed_up i k was same = record { arrives = same_Some (climb f v k a) f.root (sym was.at_is ∙ ap (slice_get (node_addresses ns)) same ∙ there); least = least }
      where
        least : (j : ℕ) → climb f v j a ≡ f.root → k ≤ j
        least j e = go (nat_lt j k) refl
          where
            go : (b : Bool) → nat_lt j k ≡ b → k ≤ j
            go true t = let low : j < k = grind (arith, nat_tests) in absurd (was.below j low e)
            go false t = grind (arith, nat_tests)

    -- as many steps as there are nodes are too many
    pub climbed_out : (id i k : ℕ) → slice_get (node_addresses ns) id ≡ Some a → HasClimbed f v ns a i k → length ns ≤ k → ⊥
    climbed_out id i k e was many =
        let kept = kept_at id a e in
        let r = distance f v a kept in
        let few = steps_below f v a r.0 r.1 (node_addresses ns) (λ n. listed (climb f v n a) (way_kept f v (kept_at root.0 f.root there) a kept n)) in
        let same = length-map ns (λ (n : Node). n.at) in
        was.below r.0 (omega (arith, few, same, many)) r.1.arrives
