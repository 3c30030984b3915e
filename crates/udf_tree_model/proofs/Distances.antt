-- How many steps lead from a kept entry up to the root.
use Rattle.std.proofs.Common.{◌≡◌, ◌⊎◌, ℕ, zero, suc, ◌+◌, ◌-◌, ◌≤◌, ◌<◌, List, length, None, Bool, true, false, ◌||◌, refl, sym, ap, ◌∙◌, subst, inl, inr, arith}
use Rattle.std.proofs.lemmas.Bool.{or_cases, or_left, or_right, false≢true}
use Rattle.udf_field.specs.declared.address.Addr.{Addr}
use Rattle.udf_file_model.specs.Address.{same_addr}
use Rattle.udf_file_model.specs.Listing.{Volume}
use Rattle.udf_tree_model.specs.Climb.{IsDistance, IsNearer, climb}
use Rattle.udf_tree_model.specs.Frame.{Frame, setting_of, tree_of}
use Rattle.udf_tree_model.specs.Kept.{depth}
use Rattle.udf_tree_model.specs.Ordinary.{is_kept_entry, kept_entries}
use Rattle.udf_tree_model.specs.Parent.{parent}
use Rattle.udf_tree_model.specs.Refused.{refusal}
use Rattle.udf_tree_model.specs.Stated.{IsFileSetPlaced}
use Rattle.udf_tree_model.proofs.Finding.{found_readable, volume_within}
use Rattle.udf_tree_model.proofs.Keeping.{kept_found}
use Rattle.udf_tree_model.proofs.Members.{Member, member_filtered, member_of, tally, tally_grows, tally_length}
use Rattle.udf_tree_model.proofs.Nearing.{keeping_nearer, kept_of, parent_nearer, root_parent, unstarted}
use Rattle.udf_tree_model.proofs.Places.{address_same, same_address}
use Rattle.udf_tree_model.proofs.Stating.{accepted_starts}

-- the first step leads to the parent
pub climb_first : (f : Frame) (v : Volume) (k : ℕ) (a : Addr) → climb f v (suc k) a ≡ climb f v k (parent f v a)
unfolding climb
climb_first f v zero a = refl
climb_first f v (suc k) a = ap (parent f v) (climb_first f v k a)

pub climb_none : (f : Frame) (v : Volume) (a : Addr) → climb f v zero a ≡ a
unfolding climb
climb_none f v a = refl

pub climb_more : (f : Frame) (v : Volume) (k : ℕ) (a : Addr) → climb f v (suc k) a ≡ parent f v (climb f v k a)
unfolding climb
climb_more f v k a = refl

-- ---- distances
pub distance_one : (f : Frame) (v : Volume) (a : Addr) (j k : ℕ) → IsDistance f v a j → IsDistance f v a k → j ≡ k
distance_one f v a j k x y = let l = x.least k y.arrives in let m = y.least j x.arrives in omega (arith, l, m)

pub distance_none : (f : Frame) (v : Volume) (a : Addr) → a ≡ f.root → IsDistance f v a zero
unfolding climb
distance_none f v a e = record { arrives = e; least = λ j h. omega arith }

pub distance_more : (f : Frame) (v : Volume) (a : Addr) (k : ℕ) → same_addr a f.root ≡ false → IsDistance f v (parent f v a) k → IsDistance f v a (suc k)
distance_more f v a k other x = record { arrives = climb_first f v k a ∙ x.arrives; least = least }
  where
    least : (j : ℕ) → climb f v j a ≡ f.root → suc k ≤ j
    least zero h = absurd (false≢true (sym other ∙ address_same a f.root (sym (climb_none f v a) ∙ h)))
    least (suc j) h = let l = x.least j (sym (climb_first f v j a) ∙ h) in omega (arith, l)

pub distance_less : (f : Frame) (v : Volume) (a : Addr) (k : ℕ) → IsDistance f v a (suc k) → IsDistance f v (parent f v a) k
distance_less f v a k x = record { arrives = sym (climb_first f v k a) ∙ x.arrives; least = λ j h. let l = x.least (suc j) (climb_first f v j a ∙ h) in omega (arith, l) }

pub distance_along : (f : Frame) (v : Volume) (a : Addr) (n m k : ℕ) → m + n ≡ k → IsDistance f v a k → IsDistance f v (climb f v n a) m
unfolding climb
distance_along f v a zero m k e x = subst (IsDistance f v a) (omega (arith, e)) x
distance_along f v a (suc n) m k e x = distance_less f v (climb f v n a) m (distance_along f v a n (suc m) k (omega (arith, e)) x)

-- ---- the way from a kept entry ends
-- how far the root is; where the file set stands in the volume, no farther than a start
record Comes (f : Frame) (v : Volume) (a : Addr) : Type 0 where
  pub steps : ℕ
  pub distance : IsDistance f v a steps
  pub within : IsFileSetPlaced f v → steps ≤ depth (setting_of f v) (tree_of f v) a

comes : (f : Frame) (v : Volume) (n : ℕ) (a : Addr) → is_kept_entry f v a ≡ true → depth (setting_of f v) (tree_of f v) a < n → Comes f v a
comes f v zero a k l = absurd (omega (arith, l))
comes f v (suc n) a k l = here (λ p h m. comes f v n p h m) (same_addr a f.root) refl
  where
    Rest : Type 0
    Rest = (p : Addr) → is_kept_entry f v p ≡ true → depth (setting_of f v) (tree_of f v) p < n → Comes f v p

    above : same_addr a f.root ≡ false → Rest → (parent f v a ≡ f.root) ⊎ IsNearer f v a (parent f v a) → Comes f v a
    above other rest (inl e) =
        record {
          steps = 1;
          distance = distance_more f v a zero other (distance_none f v (parent f v a) e);
          within = λ placed. let r = keeping_nearer (setting_of f v) (tree_of f v) a (kept_of f v a k).0 (unstarted f v placed a k other) in let less = r.4 in omega (arith, less);
        }
    above other rest (inr near) =
        let less = near.less in
        let r = rest (parent f v a) near.kept_is (omega (arith, less, l)) in
        record { steps = suc r.steps; distance = distance_more f v a r.steps other r.distance; within = λ placed. let m = r.within placed in omega (arith, m, less) }

    here : Rest → (b : Bool) → same_addr a f.root ≡ b → Comes f v a
    here rest true e = record { steps = zero; distance = distance_none f v a (same_address a f.root e); within = λ placed. omega arith }
    here rest false e = above e rest (parent_nearer f v a k e)

pub distance : (f : Frame) (v : Volume) (a : Addr) → is_kept_entry f v a ≡ true → (k : ℕ) × IsDistance f v a k
distance f v a k = let r = comes f v (suc (depth (setting_of f v) (tree_of f v) a)) a k (omega arith) in (r.steps, r.distance)

pub distance_within : (f : Frame) (v : Volume) → IsFileSetPlaced f v → (a : Addr) → is_kept_entry f v a ≡ true → (k : ℕ) → IsDistance f v a k → k ≤ depth (setting_of f v) (tree_of f v) a
distance_within f v placed a k n x =
    let r = comes f v (suc (depth (setting_of f v) (tree_of f v) a)) a k (omega arith) in
    let l = r.within placed in
    let same = distance_one f v a n r.steps x r.distance in
    omega (arith, l, same)

-- ---- no entry of the way is passed twice
-- the entries of the first so many steps
unfoldable passed : Frame → Volume → ℕ → Addr → Addr → Bool
passed f v zero a b = false
passed f v (suc n) a b = same_addr b (climb f v n a) || passed f v n a b

passed_gives : (f : Frame) (v : Volume) (n : ℕ) (a b : Addr) → passed f v n a b ≡ true → (i : ℕ) × (i < n) × (b ≡ climb f v i a)
unfolding passed
passed_gives f v zero a b h = absurd (false≢true h)
passed_gives f v (suc n) a b h = go (λ e. passed_gives f v n a b e) (or_cases (same_addr b (climb f v n a)) (passed f v n a b) h)
  where
    go : (passed f v n a b ≡ true → (i : ℕ) × (i < n) × (b ≡ climb f v i a)) → (same_addr b (climb f v n a) ≡ true) ⊎ (passed f v n a b ≡ true) → (i : ℕ) × (i < suc n) × (b ≡ climb f v i a)
    go rest (inl e) = (n, omega arith, same_address b (climb f v n a) e)
    go rest (inr e) = let r = rest e in let l = r.1 in (r.0, omega (arith, l), r.2)

passed_more : (f : Frame) (v : Volume) (n : ℕ) (a b : Addr) → passed f v n a b ≡ true → passed f v (suc n) a b ≡ true
unfolding passed
passed_more f v n a b h = or_right (same_addr b (climb f v n a)) (passed f v n a b) h

passed_last : (f : Frame) (v : Volume) (n : ℕ) (a : Addr) → passed f v (suc n) a (climb f v n a) ≡ true
unfolding passed
passed_last f v n a = or_left (same_addr (climb f v n a) (climb f v n a)) (passed f v n a (climb f v n a)) (address_same (climb f v n a) (climb f v n a) refl)

-- a list that has all entries of the way is longer than the way has steps
pub steps_below : (f : Frame) (v : Volume) (a : Addr) (k : ℕ) → IsDistance f v a k → (xs : List Addr) → ((n : ℕ) → Member (climb f v n a) xs) → k < length xs
steps_below f v a k x xs there = let many = count (suc k) (omega arith) in let most = tally_length (passed f v (suc k) a) xs in omega (arith, many, most)
  where
    apart : (i n : ℕ) → i < n → n ≤ k → climb f v n a ≡ climb f v i a → ⊥
    apart i n l m e =
        let far = distance_along f v a i (k - i) k (omega (arith, l, m)) x in
        let near = distance_along f v a n (k - n) k (omega (arith, l, m)) x in
        let same = distance_one f v (climb f v i a) (k - i) (k - n) far (subst (λ (b : Addr). IsDistance f v b (k - n)) e near) in
        omega (arith, l, m, same)

    count : (n : ℕ) → n ≤ suc k → n ≤ tally (passed f v n a) xs
    count zero l = omega arith
    count (suc n) l = grow (count n (omega (arith, l))) (tally_grows (passed f v n a) (passed f v (suc n) a) (passed_more f v n a) xs).1
      where
        grow : n ≤ tally (passed f v n a) xs → ((b : Addr) → Member b xs → passed f v (suc n) a b ≡ passed f v n a b) ⊎ (tally (passed f v n a) xs < tally (passed f v (suc n) a) xs)
            → suc n ≤ tally (passed f v (suc n) a) xs
        grow m (inl same) =
            let r = passed_gives f v n a (climb f v n a) (sym (same (climb f v n a) (there n)) ∙ passed_last f v n a) in
            absurd (apart r.0 n r.1 (omega (arith, l)) r.2)
        grow m (inr more) = omega (arith, m, more)

-- where the root is a kept entry, so is each entry of the way
pub way_kept : (f : Frame) (v : Volume) → is_kept_entry f v f.root ≡ true → (a : Addr) → is_kept_entry f v a ≡ true → (n : ℕ) → is_kept_entry f v (climb f v n a) ≡ true
unfolding climb
way_kept f v root a k zero = k
way_kept f v root a k (suc n) = go (way_kept f v root a k n) (same_addr (climb f v n a) f.root) refl
  where
    b : Addr
    b = climb f v n a

    at_root : parent f v b ≡ f.root → is_kept_entry f v (parent f v b) ≡ true
    at_root e = ap (is_kept_entry f v) e ∙ root

    up : (parent f v b ≡ f.root) ⊎ IsNearer f v b (parent f v b) → is_kept_entry f v (parent f v b) ≡ true
    up (inl e) = at_root e
    up (inr near) = near.kept_is

    go : is_kept_entry f v b ≡ true → (c : Bool) → same_addr b f.root ≡ c → is_kept_entry f v (parent f v b) ≡ true
    go h true e = at_root (ap (parent f v) (same_address b f.root e) ∙ root_parent f v)
    go h false e = up (parent_nearer f v b h e)

-- the kept entries of a volume that is not refused are among its places
kept_listed : (f : Frame) (v : Volume) → refusal f v ≡ None → IsFileSetPlaced f v → (a : Addr) → is_kept_entry f v a ≡ true → Member a (kept_entries f v)
unfolding kept_entries setting_of
kept_listed f v accepted placed a k =
    let s = setting_of f v in
    let t = tree_of f v in
    let there = found_readable s t (volume_within f v) a (kept_found s t (volume_within f v) (accepted_starts f v accepted placed) a (kept_of f v a k).0) in
    member_filtered (is_kept_entry f v) s.places a (member_of s.places a ((volume_within f v).among a there)) k

pub distance_few : (f : Frame) (v : Volume) → refusal f v ≡ None → IsFileSetPlaced f v → is_kept_entry f v f.root ≡ true → (a : Addr) → is_kept_entry f v a ≡ true → (k : ℕ) → IsDistance f v a k
    → k < length (kept_entries f v)
distance_few f v accepted placed root a k n x = steps_below f v a n x (kept_entries f v) (λ i. kept_listed f v accepted placed (climb f v i a) (way_kept f v root a k i))
