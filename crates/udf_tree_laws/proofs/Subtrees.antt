-- The subtree of the root has each kept entry once: an entry stands as many generations below another as parents lead up to it.
use Rattle.std.proofs.Common.{◌≡◌, ◌≢◌, ◌⊎◌, ℕ, zero, suc, ◌+◌, ◌<◌, ◌≤◌, List, [], ◌∷◌, length, true, None, refl, sym, ap, ◌∙◌, subst, inl, inr, arith}
use Rattle.std.specs.Prelude.{◌↔◌, AllPairs, Contains}
use Rattle.std.specs.List.{flat_map}
use Rattle.udf_field.specs.declared.address.Addr.{Addr}
use Rattle.udf_file_model.specs.Listing.{Volume}
use Rattle.udf_tree_model.specs.Children.{children}
use Rattle.udf_tree_model.specs.Climb.{IsDistance, climb}
use Rattle.udf_tree_model.specs.Frame.{Frame}
use Rattle.udf_tree_model.specs.Ordinary.{is_kept_entry, kept_entries}
use Rattle.udf_tree_model.specs.Parent.{parent}
use Rattle.udf_tree_model.specs.Refused.{refusal}
use Rattle.udf_tree_model.specs.Stated.{IsFileSetPlaced}
use Rattle.udf_tree_laws.specs.Subtree.{subtree}
use Rattle.udf_tree_model.proofs.Distances.{climb_more, climb_none, distance, distance_few, distance_more, distance_none, distance_one, way_kept}
use Rattle.udf_tree_model.proofs.Linking.{Distinct}
use Rattle.udf_tree_model.proofs.Members.{Member, contains_of, member_append, member_of}
use Rattle.udf_tree_model.proofs.Places.{in_flat_map}
use Rattle.udf_tree_laws.proofs.Children.{child_gives, child_has}
use Rattle.udf_tree_laws.proofs.Once.{all_pairs, children_distinct, distinct_append}
use Rattle.udf_tree_laws.proofs.Under.{other_than}

-- ---- lists of lists
from_flat_map : {X Y : Type 0} (g : X → List Y) (xs : List X) (y : Y) → Member y (flat_map g xs) → (x : X) × Member x xs × Member y (g x)
from_flat_map g [] y m = absurd m
from_flat_map {X} {Y} g (z ∷ zs) y m = go (λ n. from_flat_map g zs y n) (member_append (g z) (flat_map g zs) y m)
  where
    go : (Member y (flat_map g zs) → (x : X) × Member x zs × Member y (g x)) → Member y (g z) ⊎ Member y (flat_map g zs) → (x : X) × Member x (z ∷ zs) × Member y (g x)
    go rest (inl n) = (z, inl refl, n)
    go rest (inr n) = let r = rest n in (r.0, inr r.1, r.2)

distinct_flat_map : {X Y : Type 0} (g : X → List Y) (xs : List X) → Distinct xs → ((x : X) → Member x xs → Distinct (g x))
    → ((x z : X) (y : Y) → Member x xs → Member z xs → Member y (g x) → Member y (g z) → x ≡ z) → Distinct (flat_map g xs)
distinct_flat_map g [] d each one = tt
distinct_flat_map {X} {Y} g (x ∷ xs) d each one =
    distinct_append (g x) (flat_map g xs) (each x (inl refl))
    (distinct_flat_map g xs d.1 (λ z m. each z (inr m)) (λ z w y m n. one z w y (inr m) (inr n)))
    apart
  where
    apart : (y : Y) → Member y (g x) → Member y (flat_map g xs) → ⊥
    apart y m n =
        let r = from_flat_map g xs y n in
        d.0 (subst (λ (z : X). Member z xs) (sym (one x r.0 y (inl refl) (inr r.1) m r.2)) r.1)

-- ---- subtrees
module _ (f : Frame) (v : Volume) (accepted : refusal f v ≡ None) (placed : IsFileSetPlaced f v) (plain : is_kept_entry f v f.file_set ≡ true → f.file_set ≡ f.root) where
  -- a child is one step farther from the root
  child_distance : (a b : Addr) (m : ℕ) → is_kept_entry f v a ≡ true → IsDistance f v a m → Member b (children f v a) → IsDistance f v b (suc m)
  child_distance a b m k x n =
      let h = child_gives f v accepted placed plain a b k n in
      distance_more f v b m (other_than b f.root h.1) (subst (λ (p : Addr). IsDistance f v p m) (sym h.2) x)

  subtree_kept : (k : ℕ) (a x : Addr) → is_kept_entry f v a ≡ true → Member x (subtree f v k a) → is_kept_entry f v x ≡ true
  unfolding subtree
  subtree_kept zero a x h m = absurd m
  subtree_kept (suc k) a x h (inl e) = ap (is_kept_entry f v) e ∙ h
  subtree_kept (suc k) a x h (inr m) =
      let r = from_flat_map (subtree f v k) (children f v a) x m in
      subtree_kept k r.0 x (child_gives f v accepted placed plain a r.0 h r.1).0 r.2

  -- from an entry of a subtree parents lead to its head
  subtree_way : (k : ℕ) (a x : Addr) (m : ℕ) → is_kept_entry f v a ≡ true → IsDistance f v a m → Member x (subtree f v k a) → (n : ℕ) × IsDistance f v x (n + m) × (climb f v n x ≡ a)
  unfolding subtree
  subtree_way zero a x m h d i = absurd i
  subtree_way (suc k) a x m h d (inl e) =
      let none : m ≡ 0 + m = omega arith in
      (0, subst (IsDistance f v x) none (subst (λ (y : Addr). IsDistance f v y m) (sym e) d), climb_none f v x ∙ e)
  subtree_way (suc k) a x m h d (inr i) =
      let r = from_flat_map (subtree f v k) (children f v a) x i in
      let c = child_gives f v accepted placed plain a r.0 h r.1 in
      let w = subtree_way k r.0 x (suc m) c.0 (child_distance a r.0 m h d r.1) r.2 in
      let e : w.0 + suc m ≡ suc w.0 + m = omega arith in
      (suc w.0, subst (IsDistance f v x) e w.1, climb_more f v w.0 x ∙ ap (parent f v) w.2 ∙ c.2)

  -- and what is so many steps below an entry is in its subtree
  subtree_has : (n k : ℕ) (a x : Addr) → is_kept_entry f v f.root ≡ true → is_kept_entry f v x ≡ true → n < k → climb f v n x ≡ a
      → ((i : ℕ) → climb f v i x ≡ f.root → n ≤ i) → Member x (subtree f v k a)
  unfolding subtree
  subtree_has n zero a x root h l e least = absurd (omega (arith, l))
  subtree_has zero (suc k) a x root h l e least = inl (sym (climb_none f v x) ∙ e)
  subtree_has (suc n) (suc k) a x root h l e least =
      let b : Addr = climb f v n x in
      let rest = subtree_has n k b x root h (omega (arith, l)) refl (λ i q. let m = least i q in omega (arith, m)) in
      let other : b ≢ f.root = λ q. let m = least n q in absurd (omega (arith, m)) in
      let child = child_has f v accepted placed plain b (way_kept f v root x h n) other in
      let above : parent f v b ≡ a = sym (climb_more f v n x) ∙ e in
      inr (in_flat_map (subtree f v k) (children f v a) b x (subst (λ (p : Addr). Member b (children f v p)) above child) rest)

  subtree_distinct : (k : ℕ) (a : Addr) (m : ℕ) → is_kept_entry f v a ≡ true → IsDistance f v a m → Distinct (subtree f v k a)
  unfolding subtree
  subtree_distinct zero a m h d = tt
  subtree_distinct (suc k) a m h d = (
    apart,
    distinct_flat_map (subtree f v k) (children f v a) (children_distinct f v a h)
        (λ b i. subtree_distinct k b (suc m) (child_gives f v accepted placed plain a b h i).0 (child_distance a b m h d i))
        one,
  )
    where
      way : (b x : Addr) → Member b (children f v a) → Member x (subtree f v k b) → (n : ℕ) × IsDistance f v x (n + suc m) × (climb f v n x ≡ b)
      way b x i j = subtree_way k b x (suc m) (child_gives f v accepted placed plain a b h i).0 (child_distance a b m h d i) j

      apart : Member a (flat_map (subtree f v k) (children f v a)) → ⊥
      apart i =
          let r = from_flat_map (subtree f v k) (children f v a) a i in
          let w = way r.0 a r.1 r.2 in
          let e = distance_one f v a m (w.0 + suc m) d w.1 in
          absurd (omega (arith, e))

      one : (b c x : Addr) → Member b (children f v a) → Member c (children f v a) → Member x (subtree f v k b) → Member x (subtree f v k c) → b ≡ c
      one b c x i j p q =
          let w = way b x i p in
          let z = way c x j q in
          let e = distance_one f v x (w.0 + suc m) (z.0 + suc m) w.1 z.1 in
          let same : w.0 ≡ z.0 = omega (arith, e) in
          sym w.2 ∙ ap (λ (n : ℕ). climb f v n x) same ∙ z.2

  pub walk_members : is_kept_entry f v f.root ≡ true → (k : ℕ) → length (kept_entries f v) ≤ k → (a : Addr) → Contains (subtree f v k f.root) a ↔ (is_kept_entry f v a ≡ true)
  walk_members root k l a = (λ m. subtree_kept k f.root a root (member_of (subtree f v k f.root) a m), there)
    where
      there : is_kept_entry f v a ≡ true → Contains (subtree f v k f.root) a
      there h =
          let r = distance f v a h in
          let few = distance_few f v accepted placed root a h r.0 r.1 in
          contains_of (subtree f v k f.root) a (subtree_has r.0 k f.root a root h (omega (arith, few, l)) r.1.arrives r.1.least)

  pub walk_once : is_kept_entry f v f.root ≡ true → (k : ℕ) → AllPairs (λ x y. x ≢ y) (subtree f v k f.root)
  walk_once root k = all_pairs (subtree f v k f.root) (subtree_distinct k f.root 0 root (distance_none f v f.root refl))
