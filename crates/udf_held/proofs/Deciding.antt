-- The claims of found entries tell who wins what.
use Rattle.std.proofs.Common.{◌≡◌, ◌⊎◌, ℕ, suc, ◌+◌, ◌<◌, ◌≤◌, List, [], ◌∷◌, ◌++◌, map, Bool, true, false, not, ◌&&◌, ◌||◌, cond, Option, Some, None, refl, sym, ap, ◌∙◌, subst, inl, inr, arith}
use Rattle.std.specs.Prelude.{All, AllPairs, ◌≢◌, nat_eq, nat_le, nat_lt, ◌==◌, is_some}
use Rattle.std.specs.List.{filter, list_all}
use Rattle.std.proofs.lemmas.Bool.{and_parts, and_from, false≢true}
use Rattle.std.proofs.lemmas.Bool.Decides.{nat_tests}
use Rattle.udf_field.specs.declared.address.Addr.{Addr}
use Rattle.udf_file_model.specs.Address.{same_addr}
use Rattle.udf_file_model.specs.Entry.{Entry}
use Rattle.udf_file_model.specs.Listing.{Volume, addresses, flat_for, is_extent, is_placed, list_for, rules_for}
use Rattle.udf_file_model.proofs.Apart.{front_apart, front_placed}
use Rattle.udf_claims.specs.Winner.{covers, number, prevails, yields_not}
use Rattle.udf_claims.specs.Winner as claims
use Rattle.udf_claims.specs.declared.run.Run.{Run}
use Rattle.udf_tree_model.specs.Among.{Member}
use Rattle.udf_tree_model.specs.Node.{Item, Node, Setting, Tree, node_at, node_or, readable, wants}
use Rattle.udf_tree_model.specs.Found.{found}
use Rattle.udf_tree_model.specs.Won.{IsFree, IsUnrivalled, IsWant, wins}
use Rattle.udf_tree_model.specs.Frame.{Frame, entry_at, holder_by, is_address, is_file_set, is_holder, node_by, setting_of, tree_of}
use Rattle.udf_tree_model.specs.Stated.{taken}
use Rattle.udf_tree_model.proofs.Members.{all_at, all_from, any_gives, any_from, contains_of, member_append, member_filtered, member_left, member_map, member_of, member_of_map, member_right}
use Rattle.udf_tree_model.proofs.Places.{readable_placed, same_address}
use Rattle.udf_tree_model.proofs.Finding.{found_readable, volume_within}
use Rattle.udf_tree_model.proofs.Stating.{entry_node, taken_is}
use Rattle.udf_tree_model.proofs.Winning.{means_wins, wins_means}
use Rattle.udf_found.specs.declared.arena.Found as arena
use Rattle.udf_volume.specs.declared.stretch.Stretch.{Stretch}
use Rattle.udf_found.specs.Seen.{spots}
use Rattle.udf_found.specs.Spot.{IsFoundList, Spot, addresses as spot_addresses}
use Rattle.udf_found.specs.Wanted.{fixed_class, fixed_owner, fixed_wants, want, wants_at, wants_over}
use Rattle.udf_volume.specs.Fixed.{stretches_over}
use Rattle.udf_volume_model.specs.FileSet.{stretch_has}
use Rattle.udf_held.specs.Winners.{TellsWinners}
use Rattle.udf_held.proofs.Wanted.{Has, address_equal, covers_gives, entry_has, entry_takes, has_more, want_covers}

all_member : {X : Type 0} (P : X → Type 0) (xs : List X) (x : X) → All P xs → Member x xs → P x
all_member P [] x h m = absurd m
all_member P (y ∷ ys) x h (inl e) = subst P (sym e) (h 0 y (omega arith))
all_member P (y ∷ ys) x h (inr m) = all_member P ys x (λ k d below. h (suc k) d (omega (arith, below))) m

-- of items that take different addresses those of one address are the same
taken_apart : (is : List Item) (i j : Item) → AllPairs (λ (x y : Addr). x ≢ y) (taken is) → Member i is → Member j is → i.takes ≡ true → j.takes ≡ true
    → i.at ≡ j.at → i ≡ j
taken_apart [] i j h m n t u e = absurd m
taken_apart (x ∷ xs) i j h m n t u e = go (λ g k l. taken_apart xs i j g k l t u e) x.takes refl h
  where
    among : (y : Item) → Member y xs → y.takes ≡ true → Member y.at (taken xs)
    among y k r = member_map (λ (z : Item). z.at) (filter (λ (z : Item). z.takes) xs) y (member_filtered (λ (z : Item). z.takes) xs y k r)

    head : (y : Addr) → AllPairs (λ (p q : Addr). p ≢ q) (y ∷ taken xs) → All (λ q. y ≢ q) (taken xs)
    head y g k d below = g 0 (suc k) d (omega arith) (omega (arith, below))

    rest : (y : Addr) → AllPairs (λ (p q : Addr). p ≢ q) (y ∷ taken xs) → AllPairs (λ (p q : Addr). p ≢ q) (taken xs)
    rest y g k l d less below = g (suc k) (suc l) d (omega (arith, less)) (omega (arith, below))

    here : (y : Item) → x.takes ≡ false → y.takes ≡ true → (y ≡ x) ⊎ Member y xs → Member y xs
    here y f r (inl k) = absurd (false≢true (sym f ∙ ap (λ (z : Item). z.takes) (sym k) ∙ r))
    here y f r (inr k) = k

    both : (AllPairs (λ (p q : Addr). p ≢ q) (taken xs) → Member i xs → Member j xs → i ≡ j) → AllPairs (λ (p q : Addr). p ≢ q) (x.at ∷ taken xs) → (i ≡ x) ⊎ Member i xs → (j ≡ x) ⊎ Member j xs → i ≡ j
    both ih g (inl k) (inl l) = k ∙ sym l
    both ih g (inl k) (inr l) = absurd (all_member (λ q. x.at ≢ q) (taken xs) j.at (head x.at g) (among j l u) (ap (λ (z : Item). z.at) (sym k) ∙ e))
    both ih g (inr k) (inl l) = absurd (all_member (λ q. x.at ≢ q) (taken xs) i.at (head x.at g) (among i k t) (ap (λ (z : Item). z.at) (sym l) ∙ sym e))
    both ih g (inr k) (inr l) = ih (rest x.at g) k l

    go : (AllPairs (λ (p q : Addr). p ≢ q) (taken xs) → Member i xs → Member j xs → i ≡ j) → (b : Bool) → x.takes ≡ b → AllPairs (λ (p q : Addr). p ≢ q) (map (λ (z : Item). z.at) (cond b (x ∷ filter (λ (z : Item). z.takes) xs) (filter (λ (z : Item). z.takes) xs))) → i ≡ j
    go ih true k g = both ih g m n
    go ih false k g = ih g (here i k t m) (here j k u n)

-- addresses of one number are the same
number_apart : (a b : Addr) → is_address a ≡ true → is_address b ≡ true → number a ≡ number b → a ≡ b
number_apart a b p q e =
    let x : a.block < 4294967296 = low a p in
    let y : b.block < 4294967296 = low b q in
    address_equal a b (omega (arith, x, y, e)) (omega (arith, x, y, e))
  where
    low : (c : Addr) → is_address c ≡ true → c.block < 4294967296
    low c h = let k = (and_parts (nat_lt c.part 65536) (nat_lt c.block 4294967296) h).1 in grind (arith, nat_tests)

number_low : (a : Addr) → is_address a ≡ true → number a < fixed_owner
number_low a h =
    let k = and_parts (nat_lt a.part 65536) (nat_lt a.block 4294967296) h in
    let x : a.part < 65536 = grind (arith, nat_tests) in
    let y : a.block < 4294967296 = grind (arith, nat_tests) in
    omega (arith, x, y)

-- the tests of a run, in words
yields_gives : (o : ℕ) (x : Addr) (c : ℕ) (r : Run) → yields_not o x c r ≡ true → covers r x ≡ true → (c ≤ r.class) × (r.owner ≢ o → c < r.class)
unfolding yields_not
yields_gives o x c r h k = go (covers r x) (nat_eq r.owner o) k refl h
  where
    go : (b e : Bool) → b ≡ true → nat_eq r.owner o ≡ e → (not b || cond e (nat_le c r.class) (nat_lt c r.class)) ≡ true → (c ≤ r.class) × (r.owner ≢ o → c < r.class)
    go false e p q w = absurd (false≢true p)
    go true true p q w = let l : c ≤ r.class = grind (arith, nat_tests) in (l, λ n. absurd (n (grind (arith, nat_tests))))
    go true false p q w = let l : c < r.class = grind (arith, nat_tests) in (omega (arith, l), λ n. l)

yields_from : (o : ℕ) (x : Addr) (c : ℕ) (r : Run) → (covers r x ≡ true → (r.owner ≡ o → c ≤ r.class) × (r.owner ≢ o → c < r.class)) → yields_not o x c r ≡ true
unfolding yields_not
yields_from o x c r h = go (covers r x) refl (nat_eq r.owner o) refl
  where
    go : (b : Bool) → covers r x ≡ b → (e : Bool) → nat_eq r.owner o ≡ e → (not b || cond e (nat_le c r.class) (nat_lt c r.class)) ≡ true
    go false p e q = refl
    go true p true q = let l : c ≤ r.class = (h p).0 (grind (arith, nat_tests)) in grind (arith, nat_tests)
    go true p false q = let l : c < r.class = (h p).1 (λ s. false≢true (sym q ∙ same r.owner o s)) in grind (arith, nat_tests)
      where
        same : (m n : ℕ) → m ≡ n → nat_eq m n ≡ true
        same m n s = grind (arith, nat_tests)

-- what a list of runs says of the wants of found entries
record Says (s : Setting) (t : Tree) (rs : List Run) : Type 0 where
  address : (a : Addr) (i : Item) → IsWant s t a i → is_address a ≡ true
  alone : (a : Addr) (i j : Item) → IsWant s t a i → IsWant s t a j → i.at ≡ j.at → i ≡ j
  stands : (a : Addr) (i : Item) → IsWant s t a i → Has rs (number a) i.at i.class
  fixed_stands : (a : Addr) (i : Item) → IsWant s t a i → s.fixed i.at ≡ true → Has rs fixed_owner i.at fixed_class
  means : (r : Run) (x : Addr) → Member r rs → covers r x ≡ true
      → ((r.owner ≡ fixed_owner) × (s.fixed x ≡ true)) ⊎ ((a : Addr) × (j : Item) × IsWant s t a j × (r.owner ≡ number a) × (j.at ≡ x) × (j.class ≡ r.class))

module _ (s : Setting) (t : Tree) (rs : List Run) (w : Says s t rs) (a : Addr) (i : Item) (is : IsWant s t a i) where
  low : number a < fixed_owner
  low = number_low a (w.address a i is)

  not_fixed_owner : fixed_owner ≢ number a
  not_fixed_owner e = let l = low in absurd (omega (arith, l, e))

  -- what wins by the definition wins by the runs
  wins_there : IsFree s i → IsUnrivalled s t a i → claims.wins rs (number a) i.at ≡ true
  unfolding claims.wins prevails
  wins_there f u =
      let h = w.stands a i is in
      any_from (λ r. nat_eq r.owner (number a) && (covers r i.at && list_all (yields_not (number a) i.at r.class) rs)) rs h.0 h.1
      (and_from (nat_eq h.0.owner (number a)) _ (same h.0.owner (number a) h.2)
      (and_from (covers h.0 i.at) _ h.3 (all_from (yields_not (number a) i.at h.0.class) rs (λ r m. yields_from (number a) i.at h.0.class r (λ c. rival h.0 r h.4 (w.means r i.at m c))))))
    where
      same : (m n : ℕ) → m ≡ n → nat_eq m n ≡ true
      same m n e = grind (arith, nat_tests)

      rival : (h r : Run) → h.class ≡ i.class
          → ((r.owner ≡ fixed_owner) × (s.fixed i.at ≡ true)) ⊎ ((b : Addr) × (j : Item) × IsWant s t b j × (r.owner ≡ number b) × (j.at ≡ i.at) × (j.class ≡ r.class))
          → (r.owner ≡ number a → h.class ≤ r.class) × (r.owner ≢ number a → h.class < r.class)
      rival h r e (inl k) = absurd (false≢true (sym f.not_fixed ∙ k.1))
      rival h r e (inr (b, j, k, o, at, c)) = (
        λ n. let l : i.class ≤ j.class = u.lowest b j k at in omega (arith, l, e, c),
        λ n. let l : i.class < j.class = u.alone b j k at (λ q. n (o ∙ ap number q)) in omega (arith, l, e, c),
      )

  -- what wins by the runs wins by the definition, where nothing bars it
  there_wins : claims.wins rs (number a) i.at ≡ true → i.barred ≡ false → IsFree s i × IsUnrivalled s t a i
  unfolding claims.wins prevails
  there_wins h free =
      let g = any_gives (λ r. nat_eq r.owner (number a) && (covers r i.at && list_all (yields_not (number a) i.at r.class) rs)) rs h in
      let p = and_parts (nat_eq g.0.owner (number a)) _ g.2 in
      let q = and_parts (covers g.0 i.at) _ p.1 in
      by_run g.0 (equal g.0.owner (number a) p.0) q.1 (w.means g.0 i.at g.1 q.0)
    where
      equal : (m n : ℕ) → nat_eq m n ≡ true → m ≡ n
      equal m n e = grind (arith, nat_tests)

      beats : (c : ℕ) → list_all (yields_not (number a) i.at c) rs ≡ true → (o k : ℕ) → Has rs o i.at k → (c ≤ k) × (o ≢ number a → c < k)
      beats c all o k (r, m, x, y, z) =
          let v = yields_gives (number a) i.at c r (all_at (yields_not (number a) i.at c) rs r all m) y in
          (omega (arith, v.0, z), λ n. let l : c < r.class = v.1 (λ e. n (sym x ∙ e)) in omega (arith, l, z))

      unrivalled : list_all (yields_not (number a) i.at i.class) rs ≡ true → IsFree s i × IsUnrivalled s t a i
      unrivalled all = (
        record { not_fixed = by_fixed (s.fixed i.at) refl; not_barred = free },
        record {
          lowest = λ b j k e. (beats i.class all (number b) j.class (at_item b j k e)).0;
          alone = λ b j k e n. (beats i.class all (number b) j.class (at_item b j k e)).1 (λ m. n (number_apart b a (w.address b j k) (w.address a i is) m));
        },
      )
        where
          at_item : (b : Addr) (j : Item) → IsWant s t b j → j.at ≡ i.at → Has rs (number b) i.at j.class
          at_item b j k e = subst (λ (x : Addr). Has rs (number b) x j.class) e (w.stands b j k)

          by_fixed : (b : Bool) → s.fixed i.at ≡ b → s.fixed i.at ≡ false
          by_fixed false e = e
          by_fixed true e = let l : i.class < fixed_class = (beats i.class all fixed_owner fixed_class (w.fixed_stands a i is e)).1 not_fixed_owner in absurd (omega (arith, l))

      by_run : (r : Run) → r.owner ≡ number a → list_all (yields_not (number a) i.at r.class) rs ≡ true
          → ((r.owner ≡ fixed_owner) × (s.fixed i.at ≡ true)) ⊎ ((b : Addr) × (j : Item) × IsWant s t b j × (r.owner ≡ number b) × (j.at ≡ i.at) × (j.class ≡ r.class))
          → IsFree s i × IsUnrivalled s t a i
      by_run r o all (inl k) = absurd (not_fixed_owner (sym k.0 ∙ o))
      by_run r o all (inr (b, j, k, n, at, c)) =
          let e : b ≡ a = number_apart b a (w.address b j k) (w.address a i is) (sym n ∙ o) in
          let mine : IsWant s t a j = subst (λ (x : Addr). IsWant s t x j) e k in
          let one : j ≡ i = w.alone a j i mine is at in
          let class : r.class ≡ i.class = sym c ∙ ap (λ (z : Item). z.class) one in
          unrivalled (subst (λ (m : ℕ). list_all (yields_not (number a) i.at m) rs ≡ true) class all)

says_wins : (s : Setting) (t : Tree) (rs : List Run) → ((a : Addr) (i : Item) → wins s t a i ≡ true → IsFree s i × IsUnrivalled s t a i)
    → Says s t rs → TellsWinners s t rs
says_wins s t rs g w = record {
  each = λ a i is. (
    λ h. let k = g a i h in (k.0.not_barred, wins_there s t rs w a i is k.0 k.1),
    λ h. means_wins s t a i (there_wins s t rs w a i is h.1 h.0),
  );
}

module _ (blocks : ℕ → ℕ) (f : Frame) (v : Volume) (some : 0 < v.size) (within : (a : Addr) → is_placed v a ≡ true → a.block < blocks a.part) (fixed : List Stretch)
    (fixed_are : (a : Addr) → f.fixed a ≡ stretches_over fixed a) (q : List arena.Found) (list : IsFoundList (setting_of f v) (tree_of f v) (spots q)) where
  abbrev s : Setting
  s = setting_of f v

  abbrev t : Tree
  t = tree_of f v

  abbrev rs : List Run
  rs = fixed_wants blocks fixed ++ wants_over blocks f v q

  stretch_gives : (xs : List Stretch) (r : Run) (x : Addr) → Member r (fixed_wants blocks xs) → covers r x ≡ true → (r.owner ≡ fixed_owner) × (stretches_over xs x ≡ true)
  unfolding stretches_over stretch_has
  stretch_gives xs r x m h =
      let k = member_of_map (λ (y : Stretch). want blocks fixed_owner fixed_class y.at y.blocks) xs r m in
      let g = covers_gives blocks fixed_owner fixed_class k.0.at x k.0.blocks (sym (ap (λ (z : Run). covers z x) k.2) ∙ h) in
      (ap (λ (z : Run). z.owner) k.2, any_from (λ (y : Stretch). (y.at.part == x.part) && (nat_le y.at.block x.block && nat_lt x.block (y.at.block + y.blocks))) xs k.0 k.1 (test k.0 x g.0 g.1 g.2))
    where
      test : (y : Stretch) (x : Addr) → y.at.part ≡ x.part → y.at.block ≤ x.block → x.block < y.at.block + y.blocks
          → ((y.at.part == x.part) && (nat_le y.at.block x.block && nat_lt x.block (y.at.block + y.blocks))) ≡ true
      test y x p l m = and_from (y.at.part == x.part) _ (grind (arith, nat_tests)) (and_from (nat_le y.at.block x.block) _ (grind (arith, nat_tests)) (grind (arith, nat_tests)))

  fixed_has : (x : Addr) → x.block < blocks x.part → stretches_over fixed x ≡ true → Has (fixed_wants blocks fixed) fixed_owner x fixed_class
  unfolding stretches_over stretch_has
  fixed_has x b h =
      let g = any_gives (λ (y : Stretch). (y.at.part == x.part) && (nat_le y.at.block x.block && nat_lt x.block (y.at.block + y.blocks))) fixed h in
      let p = and_parts (g.0.at.part == x.part) _ g.2 in
      let r = and_parts (nat_le g.0.at.block x.block) _ p.1 in (
        want blocks fixed_owner fixed_class g.0.at g.0.blocks,
        member_map (λ (y : Stretch). want blocks fixed_owner fixed_class y.at y.blocks) fixed g.0 g.1,
        refl,
        want_covers blocks fixed_owner fixed_class g.0.at x g.0.blocks (grind (arith, nat_tests)) (grind (arith, nat_tests)) (grind (arith, nat_tests)) b,
        refl,
      )

  over_has : (ns : List arena.Found) (n : arena.Found) → Member n ns → is_holder f v n.at ≡ false → (r : Run) → Member r (wants_at blocks f v n.at) → Member r (wants_over blocks f v ns)
  unfolding wants_over
  over_has [] n m o r k = absurd m
  over_has (x ∷ xs) n (inl e) o r k = member_left (cond (is_holder f v x.at) [] (wants_at blocks f v x.at)) (wants_over blocks f v xs) r (go (is_holder f v x.at) (ap (λ (y : arena.Found). is_holder f v y.at) (sym e) ∙ o) (subst (λ (y : arena.Found). Member r (wants_at blocks f v y.at)) e k))
    where
      go : (b : Bool) → b ≡ false → Member r (wants_at blocks f v x.at) → Member r (cond b [] (wants_at blocks f v x.at))
      go true z l = absurd (false≢true (sym z))
      go false z l = l
  over_has (x ∷ xs) n (inr m) o r k = member_right (cond (is_holder f v x.at) [] (wants_at blocks f v x.at)) (wants_over blocks f v xs) r (over_has xs n m o r k)

  over_gives : (ns : List arena.Found) (r : Run) → Member r (wants_over blocks f v ns) → (n : arena.Found) × Member n ns × (is_holder f v n.at ≡ false) × Member r (wants_at blocks f v n.at)
  unfolding wants_over
  over_gives [] r m = absurd m
  over_gives (x ∷ xs) r m = go (over_gives xs r) (member_append (cond (is_holder f v x.at) [] (wants_at blocks f v x.at)) (wants_over blocks f v xs) r m)
    where
      here : (b : Bool) → is_holder f v x.at ≡ b → Member r (cond b [] (wants_at blocks f v x.at)) → (is_holder f v x.at ≡ false) × Member r (wants_at blocks f v x.at)
      here true e k = absurd k
      here false e k = (e, k)

      go : (Member r (wants_over blocks f v xs) → (n : arena.Found) × Member n xs × (is_holder f v n.at ≡ false) × Member r (wants_at blocks f v n.at)) → Member r (cond (is_holder f v x.at) [] (wants_at blocks f v x.at)) ⊎ Member r (wants_over blocks f v xs)
          → (n : arena.Found) × Member n (x ∷ xs) × (is_holder f v n.at ≡ false) × Member r (wants_at blocks f v n.at)
      go ih (inl k) = let h = here (is_holder f v x.at) refl k in (x, inl refl, h.0, h.1)
      go ih (inr k) = let h = ih k in (h.0, inr h.1, h.2, h.3)

  -- the entry of a node that is not the holder's
  there_entry : (a : Addr) → is_holder f v a ≡ false → readable t a ≡ true → (e : Entry) × (entry_at v a ≡ Some e)
  unfolding readable
  there_entry a o h = go (entry_at v a) refl (sym (ap (λ (n : Option Node). is_some n) (entry_node f v a o)) ∙ h)
    where
      go : (x : Option Entry) → entry_at v a ≡ x → is_some (node_by f v a x) ≡ true → (e : Entry) × (entry_at v a ≡ Some e)
      go None e k = absurd (false≢true k)
      go (Some y) e k = (y, e)

  holder_none : (a : Addr) → is_holder f v a ≡ true → wants t a ≡ []
  unfolding wants node_at tree_of is_holder
  holder_none a h = go f.system (is_file_set f v a) h
    where
      go : (x : Option Addr) (b : Bool) → (is_some x && b) ≡ true
          → (node_or (holder_by x b (node_by f v a (entry_at v a)))).own ++ (node_or (holder_by x b (node_by f v a (entry_at v a)))).list ≡ []
      go None b k = absurd (false≢true k)
      go (Some x) false k = absurd (false≢true k)
      go (Some x) true k = refl

  wanting : (a : Addr) (i : Item) → IsWant s t a i → is_holder f v a ≡ false
  wanting a i w = go (is_holder f v a) refl
    where
      go : (b : Bool) → is_holder f v a ≡ b → is_holder f v a ≡ false
      go false e = e
      go true e = absurd (subst (λ (l : List Item). Member i l) (holder_none a e) (member_of (wants t a) i w.among))

  readable_there : (a : Addr) → found s t a ≡ true → readable t a ≡ true
  readable_there a h = found_readable s t (volume_within f v) a h

  listed : (a : Addr) → found s t a ≡ true → (n : arena.Found) × Member n q × (n.at ≡ a)
  listed a h =
      let g = any_gives (same_addr a) (spot_addresses (spots q)) (sym (list.all a) ∙ h) in
      let p = member_of_map (λ (x : Spot). x.at) (spots q) g.0 g.1 in
      let n = member_of_map (λ (n : arena.Found). record { at = n.at; level = n.level }) q p.0 p.1 in
      (n.0, n.1, sym (ap (λ (x : Spot). x.at) n.2) ∙ sym p.2 ∙ sym (same_address a g.0 g.2))

  wanted_placed : (a : Addr) (i : Item) → IsWant s t a i → i.at.block < blocks i.at.part
  unfolding list_for flat_for rules_for
  wanted_placed a i w =
      let o = wanting a i w in
      let r = readable_there a w.found_owner in
      let e = there_entry a o r in
      let m : Member i.at (taken (wants t a)) = member_map (λ (z : Item). z.at) (filter (λ (z : Item). z.takes) (wants t a)) i (member_filtered (λ (z : Item). z.takes) (wants t a) i (member_of (wants t a) i w.among) w.takes) in
      within i.at (go e.0 (subst (λ (l : List Addr). Member i.at l) (taken_is f v a e.0 e.1 o some) m))
    where
      go : (e : Entry) → Member i.at (a ∷ addresses v.size (list_for v a e)) → is_placed v i.at ≡ true
      go e (inl k) = ap (is_placed v) k ∙ (readable_placed f v a (readable_there a w.found_owner)).1
      go e (inr k) = all_member (λ y. is_placed v y ≡ true) (addresses v.size (list_for v a e)) i.at (front_placed (rules_for v a e) (is_extent v) some (flat_for v a e)) k

  said : Says s t rs
  unfolding setting_of list_for flat_for rules_for
  said = record {
    address = λ a i w. (readable_placed f v a (readable_there a w.found_owner)).0;
    alone = alone_is;
    stands = stands_is;
    fixed_stands = λ a i w h. has_more (fixed_wants blocks fixed) rs fixed_owner i.at fixed_class (λ r m. member_left (fixed_wants blocks fixed) (wants_over blocks f v q) r m) (fixed_has i.at (wanted_placed a i w) (sym (fixed_are i.at) ∙ h));
    means = means_is;
  }
    where
      alone_is : (a : Addr) (i j : Item) → IsWant s t a i → IsWant s t a j → i.at ≡ j.at → i ≡ j
      alone_is a i j w u e =
          let o = wanting a i w in
          let x = there_entry a o (readable_there a w.found_owner) in
          taken_apart (wants t a) i j
          (subst (λ (l : List Addr). AllPairs (λ (x y : Addr). x ≢ y) l) (sym (taken_is f v a x.0 x.1 o some)) (front_apart (rules_for v a x.0) (is_extent v) some (flat_for v a x.0)))
          (member_of (wants t a) i w.among) (member_of (wants t a) j u.among) w.takes u.takes e

      stands_is : (a : Addr) (i : Item) → IsWant s t a i → Has rs (number a) i.at i.class
      stands_is a i w =
          let o = wanting a i w in
          let x = there_entry a o (readable_there a w.found_owner) in
          let n = listed a w.found_owner in
          has_more (wants_at blocks f v a) rs (number a) i.at i.class
          (λ r m. member_right (fixed_wants blocks fixed) (wants_over blocks f v q) r (over_has q n.0 n.1 (ap (is_holder f v) n.2 ∙ o) r (subst (λ (y : Addr). Member r (wants_at blocks f v y)) (sym n.2) m)))
          (entry_has blocks f v a x.0 x.1 o i (member_of (wants t a) i w.among) w.takes (wanted_placed a i w))

      means_is : (r : Run) (x : Addr) → Member r rs → covers r x ≡ true
          → ((r.owner ≡ fixed_owner) × (f.fixed x ≡ true)) ⊎ ((a : Addr) × (j : Item) × IsWant s t a j × (r.owner ≡ number a) × (j.at ≡ x) × (j.class ≡ r.class))
      means_is r x m h = go (member_append (fixed_wants blocks fixed) (wants_over blocks f v q) r m)
        where
          go : Member r (fixed_wants blocks fixed) ⊎ Member r (wants_over blocks f v q)
              → ((r.owner ≡ fixed_owner) × (f.fixed x ≡ true)) ⊎ ((a : Addr) × (j : Item) × IsWant s t a j × (r.owner ≡ number a) × (j.at ≡ x) × (j.class ≡ r.class))
          go (inl k) = let g = stretch_gives fixed r x k h in inl (g.0, fixed_are x ∙ g.1)
          go (inr k) =
              let n = over_gives q r k in
              let spot : Spot = record { at = n.0.at; level = n.0.level } in
              let here : found s t n.0.at ≡ true = (list.each spot (member_map (λ (y : arena.Found). record { at = y.at; level = y.level }) q n.0 n.1)).0 in
              let e = there_entry n.0.at n.2 (readable_there n.0.at here) in
              let k2 = entry_takes blocks f v n.0.at e.0 e.1 n.2 r x n.3 h in
              inr (n.0.at, k2.0.0, record { found_owner = here; among = contains_of (wants t n.0.at) k2.0.0 k2.0.1; takes = k2.0.2 }, k2.1, k2.0.3, k2.0.4)

  pub tells : TellsWinners s t rs
  tells = says_wins s t rs (wins_means s t (volume_within f v)) said
