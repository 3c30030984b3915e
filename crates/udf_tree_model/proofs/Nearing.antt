-- A parent is the root, or a kept entry of less depth.
use Rattle.std.proofs.Common.{◌≡◌, ◌⊎◌, ℕ, zero, suc, ◌+◌, ◌≤◌, ◌<◌, length, Bool, true, false, cond, not, ◌&&◌, Option, Some, None, refl, sym, ap, ◌∙◌, subst, inl, inr, arith}
use Rattle.std.specs.Prelude.{is_some, nat_lt}
use Rattle.std.proofs.lemmas.Bool.{and_parts, and_from, or_cases, or_left, false≢true}
use Rattle.std.proofs.lemmas.Bool.Decides.{nat_tests}
use Rattle.udf_field.specs.declared.address.Addr.{Addr}
use Rattle.udf_file_model.specs.Address.{same_addr}
use Rattle.udf_file_model.specs.Listing.{Volume, is_placed}
use Rattle.udf_tree_model.specs.Climb.{IsNearer}
use Rattle.udf_tree_model.specs.Chosen.{Rank, comes_before, fitted}
use Rattle.udf_tree_model.specs.Frame.{Frame, is_address, is_holder, is_start, setting_of, tree_of}
use Rattle.udf_tree_model.specs.Kept.{depth, kept, kept_graph}
use Rattle.udf_tree_model.specs.Laws.{KeepsBy}
use Rattle.udf_tree_model.specs.Link.{Link}
use Rattle.udf_tree_model.specs.Node.{Setting, Tree}
use Rattle.udf_tree_model.specs.Stated.{IsFileSetPlaced}
use Rattle.udf_tree_model.specs.Won.{sound}
use Rattle.udf_tree_model.specs.Ordinary.{is_kept_entry}
use Rattle.udf_tree_model.specs.Parent.{keeping, keeping_over, keeping_rank, parent, parent_by}
use Rattle.udf_tree_model.specs.Rounds.{Graph, in_round, reached, round_from, round_of}
use Rattle.udf_tree_model.proofs.Choosing.{first_least, none_first}
use Rattle.udf_tree_model.proofs.Finding.{found_readable, volume_within}
use Rattle.udf_tree_model.proofs.Keeping.{edge_gives, fitted_gives, selects_sound, sound_found}
use Rattle.udf_tree_model.proofs.Members.{Member, contains_of, member_of}
use Rattle.udf_tree_model.proofs.Parents.{keeping_by, keeping_have}
use Rattle.udf_tree_model.proofs.Places.{address_same, readable_placed, same_address}
use Rattle.udf_tree_model.proofs.Reached.{first_round, round_gives, round_stays, zero_round}

-- ---- rounds
round_from_within : (g : Graph) (n k : ℕ) (a : Addr) → round_from g n k a ≤ k + n
unfolding round_from
round_from_within g zero k a = omega arith
round_from_within g (suc n) k a = go (round_from_within g n (suc k) a) (in_round g k a)
  where
    go : round_from g n (suc k) a ≤ suc k + n → (b : Bool) → cond b k (round_from g n (suc k) a) ≤ k + suc n
    go l true = omega arith
    go l false = omega (arith, l)

round_by : (g : Graph) (j k : ℕ) (a : Addr) → j ≤ k → in_round g j a ≡ true → in_round g k a ≡ true
round_by g j zero a l h = subst (λ (n : ℕ). in_round g n a ≡ true) (omega (arith, l)) h
round_by g j (suc k) a l h = go (λ m. round_stays g k a (round_by g j k a m h)) (nat_lt k j) refl
  where
    go : (j ≤ k → in_round g (suc k) a ≡ true) → (b : Bool) → nat_lt k j ≡ b → in_round g (suc k) a ≡ true
    go rest true t = let m : k < j = grind (arith, nat_tests) in subst (λ (n : ℕ). in_round g n a ≡ true) (omega (arith, l, m)) h
    go rest false t = let m : j ≤ k = grind (arith, nat_tests) in rest m

-- an edge that leads to what is reached, from an earlier round
pub record IsReachedBy (g : Graph) (a d : Addr) : Type 0 where
  pub place : Member d g.places
  pub reached_is : reached g d ≡ true
  pub earlier : round_of g d < round_of g a
  pub edge : g.edge d a ≡ true

pub reached_by : (g : Graph) (a : Addr) → reached g a ≡ true → g.start a ≡ false → (d : Addr) × IsReachedBy g a d
unfolding reached round_of
reached_by g a h no_start = go (round_of g a) refl
  where
    n : ℕ
    n = length g.places

    first : (x : Addr) → reached g x ≡ true → (in_round g (round_of g x) x ≡ true) × ((j : ℕ) → 0 ≤ j → j < round_of g x → in_round g j x ≡ false)
    first x r = first_round g n 0 x (subst (λ (m : ℕ). in_round g m x ≡ true) (omega arith) r)

    go : (m : ℕ) → round_of g a ≡ m → (d : Addr) × IsReachedBy g a d
    go zero e = absurd (false≢true (sym no_start ∙ zero_round g a (subst (λ (m : ℕ). in_round g m a ≡ true) e (first a h).0)))
    go (suc k) e = split (round_gives g k a (subst (λ (m : ℕ). in_round g m a ≡ true) e (first a h).0))
      where
        split : (in_round g k a ≡ true) ⊎ ((d : Addr) × Member d g.places × (in_round g k d ≡ true) × (g.edge d a ≡ true)) → (d : Addr) × IsReachedBy g a d
        split (inl i) = absurd (false≢true (sym ((first a h).1 k (omega arith) (omega (arith, e))) ∙ i))
        split (inr (d, m, i, edge)) =
            let within = round_from_within g n 0 a in
            let there : reached g d ≡ true = round_by g k n d (omega (arith, e, within)) i in
            (d, record { place = m; reached_is = there; earlier = low there (nat_lt k (round_of g d)) refl; edge = edge })
          where
            low : reached g d ≡ true → (b : Bool) → nat_lt k (round_of g d) ≡ b → round_of g d < round_of g a
            low there true t = let l : k < round_of g d = grind (arith, nat_tests) in absurd (false≢true (sym ((first d there).1 k (omega arith) l) ∙ i))
            low there false t = let l : round_of g d ≤ k = grind (arith, nat_tests) in omega (arith, l, e)

-- ---- the link that keeps an entry
not_lower : (x y : Rank) → comes_before x y ≡ false → y.level ≤ x.level
unfolding comes_before
not_lower x y h = go (nat_lt x.level y.level) refl
  where
    go : (b : Bool) → nat_lt x.level y.level ≡ b → y.level ≤ x.level
    go true t = absurd (false≢true (sym h ∙ or_left (nat_lt x.level y.level) _ t))
    go false t = grind (arith, nat_tests)

-- what is kept is a start, or the holder of the link that keeps it has less depth
pub keeping_nearer : (s : Setting) (t : Tree) (a : Addr) → kept s t a ≡ true → s.start a ≡ false
    → (d : Addr) × (l : Link) × KeepsBy s t a d l × (keeping s t a ≡ Some (keeping_rank s t d l)) × (depth s t d < depth s t a)
unfolding kept depth keeping keeping_rank kept_graph
keeping_nearer s t a k no_start = go (keeping s t a) refl
  where
    from : (d : Addr) × IsReachedBy (kept_graph s t) a d
    from = reached_by (kept_graph s t) a k no_start

    d : Addr
    d = from.0

    link : (l : Link) × KeepsBy s t a d l
    link = let r = edge_gives s t d a from.1.edge in (r.0, record { holder = from.1.reached_is; among = contains_of (fitted s t d) r.0 r.1; leads = r.2 })

    there : Member (keeping_rank s t d link.0) (keeping_over s t a s.places)
    there = keeping_have s t a s.places d link.0 from.1.place link.1

    go : (o : Option Rank) → keeping s t a ≡ o → (e : Addr) × (l : Link) × KeepsBy s t a e l × (keeping s t a ≡ Some (keeping_rank s t e l)) × (depth s t e < depth s t a)
    go None e = absurd (none_first (keeping_over s t a s.places) (keeping_rank s t d link.0) e there)
    go (Some x) e =
        let r = keeping_by s t a x e in
        let low = not_lower (keeping_rank s t d link.0) x (first_least (keeping_over s t a s.places) x (keeping_rank s t d link.0) e there) in
        let level = ap (λ (y : Rank). y.level) r.3 in
        let near = from.1.earlier in
        (r.0, r.1, r.2, e ∙ ap Some r.3, omega (arith, low, level, near))

-- ---- parents
pub start_is : (f : Frame) (v : Volume) (a : Addr) → (setting_of f v).start a ≡ true → (a ≡ f.root) ⊎ ((is_some f.system ≡ true) × (a ≡ f.file_set))
unfolding setting_of is_start
start_is f v a h = go (or_cases (same_addr a f.root) (is_some f.system && same_addr a f.file_set) h)
  where
    go : (same_addr a f.root ≡ true) ⊎ (is_some f.system && same_addr a f.file_set ≡ true) → (a ≡ f.root) ⊎ ((is_some f.system ≡ true) × (a ≡ f.file_set))
    go (inl e) = inl (same_address a f.root e)
    go (inr e) = let r = and_parts (is_some f.system) (same_addr a f.file_set) e in inr (r.0, same_address a f.file_set r.1)

pub kept_of : (f : Frame) (v : Volume) (a : Addr) → is_kept_entry f v a ≡ true → (kept (setting_of f v) (tree_of f v) a ≡ true) × (is_holder f v a ≡ false)
unfolding is_kept_entry
kept_of f v a h =
    let r = and_parts (kept (setting_of f v) (tree_of f v) a) (not (is_holder f v a)) h in
    (r.0, other (is_holder f v a) r.1)
  where
    other : (b : Bool) → not b ≡ true → b ≡ false
    other true e = sym e
    other false e = refl

-- the file set, where it holds a pointer and stands at a placed address, is its holder
holder_there : (f : Frame) (v : Volume) (a : Addr) → is_some f.system ≡ true → a ≡ f.file_set → is_address a ≡ true → is_placed v a ≡ true → is_holder f v a ≡ true
unfolding is_holder
holder_there f v a system here address placed =
    and_from (is_some f.system) _ system (and_from (same_addr a f.file_set) _ (address_same a f.file_set here) (and_from (is_address a) (is_placed v a) address placed))

-- an entry to which a kept link leads stands at a placed address
led_placed : (f : Frame) (v : Volume) (a d : Addr) (l : Link) → KeepsBy (setting_of f v) (tree_of f v) a d l → (is_address a ≡ true) × (is_placed v a ≡ true)
led_placed f v a d l k =
    let s = setting_of f v in
    let t = tree_of f v in
    let sound_there = selects_sound s t d l (fitted_gives s t d l (member_of (fitted s t d) l k.among)).2 in
    let found_there = sound_found s t a (subst (λ (x : Addr). sound s t x ≡ true) k.leads sound_there) in
    readable_placed f v a (found_readable s t (volume_within f v) a found_there)

-- to a kept entry that is a start no kept link leads, but to the root
unled : (f : Frame) (v : Volume) (a : Addr) → is_kept_entry f v a ≡ true → same_addr a f.root ≡ false → (setting_of f v).start a ≡ true
    → (d : Addr) (l : Link) → KeepsBy (setting_of f v) (tree_of f v) a d l → ⊥
unled f v a k other h d l by = go (start_is f v a h)
  where
    go : (a ≡ f.root) ⊎ ((is_some f.system ≡ true) × (a ≡ f.file_set)) → ⊥
    go (inl e) = false≢true (sym other ∙ address_same a f.root e)
    go (inr r) = let p = led_placed f v a d l by in false≢true (sym (kept_of f v a k).1 ∙ holder_there f v a r.0 r.1 p.0 p.1)

-- the holder of a kept link is a kept entry, but where it is the file set
holder_kept : (f : Frame) (v : Volume) (d : Addr) → kept (setting_of f v) (tree_of f v) d ≡ true → same_addr d f.file_set ≡ false → is_kept_entry f v d ≡ true
unfolding is_kept_entry is_holder
holder_kept f v d k e = and_from _ _ k (rw e (none (is_some f.system)))
  where
    none : (b : Bool) → not (b && false) ≡ true
    none true = refl
    none false = refl

pub root_parent : (f : Frame) (v : Volume) → parent f v f.root ≡ f.root
unfolding parent
root_parent f v = rw (address_same f.root f.root refl) refl

pub parent_nearer : (f : Frame) (v : Volume) (a : Addr) → is_kept_entry f v a ≡ true → same_addr a f.root ≡ false → (parent f v a ≡ f.root) ⊎ IsNearer f v a (parent f v a)
unfolding parent keeping_rank
parent_nearer f v a k other = rw other (by_start (s.start a) refl)
  where
    s : Setting
    s = setting_of f v

    t : Tree
    t = tree_of f v

    up : Option Rank → Addr
    up o = parent_by f o

    Near : Addr → Type 0
    Near p = (p ≡ f.root) ⊎ IsNearer f v a p

    by_holder : (x : Rank) → kept s t x.holder ≡ true → depth s t x.holder < depth s t a → (b : Bool) → same_addr x.holder f.file_set ≡ b → Near (cond b f.root x.holder)
    by_holder x h less true e = inl refl
    by_holder x h less false e = inr (record { kept_is = holder_kept f v x.holder h e; less = less })

    of_link : (o : Option Rank) → keeping s t a ≡ o → ((x : Rank) → o ≡ Some x → ⊥) → Near (up o)
    of_link None e none = inl refl
    of_link (Some x) e none = absurd (none x refl)

    by_start : (b : Bool) → s.start a ≡ b → Near (up (keeping s t a))
    by_start true e = of_link (keeping s t a) refl (λ x q. let r = keeping_by s t a x q in unled f v a k other e r.0 r.1 r.2)
    by_start false e =
        let r = keeping_nearer s t a (kept_of f v a k).0 e in
        subst (λ (o : Option Rank). Near (up o)) (sym r.3) (by_holder (keeping_rank s t r.0 r.1) r.2.holder r.4 (same_addr r.0 f.file_set) refl)

-- where the file set stands in the volume, a start that is a kept entry is the root
pub unstarted : (f : Frame) (v : Volume) → IsFileSetPlaced f v → (a : Addr) → is_kept_entry f v a ≡ true → same_addr a f.root ≡ false → (setting_of f v).start a ≡ false
unstarted f v placed a k other = go ((setting_of f v).start a) refl
  where
    by : (a ≡ f.root) ⊎ ((is_some f.system ≡ true) × (a ≡ f.file_set)) → ⊥
    by (inl e) = false≢true (sym other ∙ address_same a f.root e)
    by (inr r) =
        let p = placed r.0 in
        false≢true
        (sym (kept_of f v a k).1
        ∙ holder_there f v a r.0 r.1 (ap is_address r.1 ∙ p.0) (ap (is_placed v) r.1 ∙ p.1))

    go : (b : Bool) → (setting_of f v).start a ≡ b → (setting_of f v).start a ≡ false
    go false e = e
    go true e = absurd (by (start_is f v a e))
