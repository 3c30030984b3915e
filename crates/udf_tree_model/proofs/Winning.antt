-- Who wins a block.
use Rattle.std.proofs.Common.{◌≡◌, ◌+◌, ◌≤◌, ◌<◌, List, [], ◌∷◌, Bool, true, false, not, ◌&&◌, ◌||◌, cond, refl, sym, ap, ◌∙◌, inl, inr, arith}
use Rattle.std.specs.Prelude.{nat_le, nat_lt, ◌≢◌, Contains}
use Rattle.std.specs.List.{list_all}
use Rattle.std.proofs.lemmas.Bool.{and_parts, and_from, false≢true}
use Rattle.std.proofs.lemmas.Bool.Decides.{nat_tests}
use Rattle.udf_field.specs.declared.address.Addr.{Addr}
use Rattle.udf_file_model.specs.Address.{same_addr}
use Rattle.udf_tree_model.specs.Node.{Item, Tree, Setting, node_at, wants, bytes_of, good_length}
use Rattle.udf_tree_model.specs.Found.{found}
use Rattle.udf_tree_model.specs.Won.{stands_against, beaten_by_none, wins, holds, bytes_before, kept_length, IsWant, IsFree, IsUnrivalled}
use Rattle.udf_tree_model.specs.Laws.{IsWithin, SameWant, FallAway}
use Rattle.udf_tree_model.proofs.Members.{Member, member_of, contains_of, all_at, all_from}
use Rattle.udf_tree_model.proofs.Finding.{found_readable}
use Rattle.udf_tree_model.proofs.Places.{same_address, address_same}

not_true : (b : Bool) → not b ≡ true → b ≡ false
not_true true e = absurd (false≢true e)
not_true false e = refl

pub wins_gives : (s : Setting) (t : Tree) (a : Addr) (i : Item) → wins s t a i ≡ true
    → (s.fixed i.at ≡ false) × (i.barred ≡ false)
    × ((o : Addr) (j : Item) → Member o s.places → found s t o ≡ true → Member j (wants t o) → stands_against a i o j ≡ true)
unfolding wins
wins_gives s t a i h =
    let x = and_parts (not (s.fixed i.at)) _ h in
    let y = and_parts (not i.barred) _ x.1 in
    (not_true (s.fixed i.at) x.0, not_true i.barred y.0, λ o j m f k. all_at (stands_against a i o) (wants t o) j (go o f (all_at (beaten_by_none s t a i) s.places o y.1 m)) k)
  where
    go : (o : Addr) → found s t o ≡ true → beaten_by_none s t a i o ≡ true → list_all (stands_against a i o) (wants t o) ≡ true
    go o f e = (rw f at e)

pub wins_from : (s : Setting) (t : Tree) (a : Addr) (i : Item) → s.fixed i.at ≡ false → i.barred ≡ false
    → ((o : Addr) (j : Item) → Member o s.places → found s t o ≡ true → Member j (wants t o) → stands_against a i o j ≡ true) → wins s t a i ≡ true
unfolding wins
wins_from s t a i x y h = and_from _ _ (ap not x) (and_from _ _ (ap not y) (all_from (beaten_by_none s t a i) s.places (λ o m. go o m (found s t o) refl)))
  where
    go : (o : Addr) → Member o s.places → (b : Bool) → found s t o ≡ b → (not b || list_all (stands_against a i o) (wants t o)) ≡ true
    go o m true e = all_from (stands_against a i o) (wants t o) (λ j k. h o j m e k)
    go o m false e = refl

pub against_same : (a o : Addr) (i x j y : Item) → SameWant i x → SameWant j y → stands_against a i o j ≡ stands_against a x o y
unfolding stands_against
against_same a o i x j y p q = rw (p.address, p.class, q.address, q.takes, q.class) refl

pub against_none : (a o : Addr) (i j : Item) → j.takes ≡ false → stands_against a i o j ≡ true
unfolding stands_against
against_none a o i j h = rw h refl

pub same_want : (i : Item) → SameWant i i
same_want i = record { address = refl; takes = refl; class = refl; barred = refl }

-- the tests of a want against another, in words
against_gives : (a o : Addr) (i j : Item) → stands_against a i o j ≡ true → j.takes ≡ true → j.at ≡ i.at → (i.class ≤ j.class) × (o ≢ a → i.class < j.class)
unfolding stands_against
against_gives a o i j h k e = go j.takes (same_addr j.at i.at) k (address_same j.at i.at e) (same_addr o a) refl h
  where
    go : (x y : Bool) → x ≡ true → y ≡ true → (z : Bool) → same_addr o a ≡ z → (not (x && y) || cond z (nat_le i.class j.class) (nat_lt i.class j.class)) ≡ true
        → (i.class ≤ j.class) × (o ≢ a → i.class < j.class)
    go false y p q z r w = absurd (false≢true p)
    go true false p q z r w = absurd (false≢true q)
    go true true p q true r w = let l : i.class ≤ j.class = grind (arith, nat_tests) in (l, λ n. absurd (n (same_address o a r)))
    go true true p q false r w = let l : i.class < j.class = grind (arith, nat_tests) in (omega arith, λ n. l)

against_from : (a o : Addr) (i j : Item) → (j.takes ≡ true → j.at ≡ i.at → (i.class ≤ j.class) × (o ≢ a → i.class < j.class)) → stands_against a i o j ≡ true
unfolding stands_against
against_from a o i j h = go j.takes refl (same_addr j.at i.at) refl (same_addr o a) refl
  where
    other : same_addr o a ≡ false → o ≢ a
    other r e = false≢true (sym r ∙ address_same o a e)

    go : (x : Bool) → j.takes ≡ x → (y : Bool) → same_addr j.at i.at ≡ y → (z : Bool) → same_addr o a ≡ z
        → (not (x && y) || cond z (nat_le i.class j.class) (nat_lt i.class j.class)) ≡ true
    go false p y q z r = refl
    go true p false q z r = refl
    go true p true q true r = let l : i.class ≤ j.class = (h p (same_address j.at i.at q)).0 in grind (arith, nat_tests)
    go true p true q false r = let l : i.class < j.class = (h p (same_address j.at i.at q)).1 (other r) in grind (arith, nat_tests)

pub wins_means : (s : Setting) (t : Tree) → IsWithin s t → (a : Addr) (i : Item) → wins s t a i ≡ true → IsFree s i × IsUnrivalled s t a i
wins_means s t w a i h =
    let r = wins_gives s t a i h in (
      record { not_fixed = r.0; not_barred = r.1 },
      record {
        lowest = λ o j k e. (rival r.2 o j k e).0;
        alone = λ o j k e n. (rival r.2 o j k e).1 n;
      },
    )
  where
    rival : ((o : Addr) (j : Item) → Member o s.places → found s t o ≡ true → Member j (wants t o) → stands_against a i o j ≡ true)
        → (o : Addr) (j : Item) → IsWant s t o j → j.at ≡ i.at → (i.class ≤ j.class) × (o ≢ a → i.class < j.class)
    rival all o j k e =
        let m = member_of s.places o (w.among o (found_readable s t w o k.found_owner)) in
        against_gives a o i j (all o j m k.found_owner (member_of (wants t o) j k.among)) k.takes e

pub means_wins : (s : Setting) (t : Tree) (a : Addr) (i : Item) → IsFree s i × IsUnrivalled s t a i → wins s t a i ≡ true
means_wins s t a i h = wins_from s t a i h.0.not_fixed h.0.not_barred (λ o j m f k. against_from a o i j (λ c e. rival o j f k c e))
  where
    rival : (o : Addr) (j : Item) → found s t o ≡ true → Member j (wants t o) → j.takes ≡ true → j.at ≡ i.at → (i.class ≤ j.class) × (o ≢ a → i.class < j.class)
    rival o j f k c e =
        let x : IsWant s t o j = record { found_owner = f; among = contains_of (wants t o) j k; takes = c } in
        (h.1.lowest o j x e, λ n. h.1.alone o j x e n)

-- two that win one address are one
pub one_winner : (s : Setting) (t : Tree) → IsWithin s t → (a b : Addr) (i j : Item) → IsWant s t a i → IsWant s t b j → i.at ≡ j.at
    → wins s t a i ≡ true → wins s t b j ≡ true → a ≡ b
one_winner s t w a b i j x y e h k = go (same_addr a b) refl
  where
    go : (z : Bool) → same_addr a b ≡ z → a ≡ b
    go true r = same_address a b r
    go false r =
        let apart : a ≢ b = λ q. false≢true (sym r ∙ address_same a b q) in
        let m : i.class < j.class = (wins_means s t w a i h).1.alone b j y (sym e) (λ q. apart (sym q)) in
        let n : j.class < i.class = (wins_means s t w b j k).1.alone a i x e apart in
        absurd (omega arith)

-- where competitors fall away, what was won stays won
pub stays_won : (s : Setting) (t u : Tree) → IsWithin s t → FallAway s t u → (a : Addr) (i x : Item) → SameWant i x → wins s t a x ≡ true → wins s u a i ≡ true
stays_won s t u w f a i x p h =
    let r = wins_gives s t a x h in
    wins_from s u a i (ap s.fixed p.address ∙ r.0) (p.barred ∙ r.1) (λ o j m g k. go r.2 o j g k j.takes refl)
  where
    go : ((o : Addr) (j : Item) → Member o s.places → found s t o ≡ true → Member j (wants t o) → stands_against a x o j ≡ true)
        → (o : Addr) (j : Item) → found s u o ≡ true → Member j (wants u o) → (b : Bool) → j.takes ≡ b → stands_against a i o j ≡ true
    go all o j g k false c = against_none a o i j c
    go all o j g k true c =
        let y = f.each o j (record { found_owner = g; among = contains_of (wants u o) j k; takes = c }) in
        let m = member_of s.places o (w.among o (found_readable s t w o y.2.found_owner)) in
        against_same a o i x j y.0 p y.1 ∙ all o y.0 m y.2.found_owner (member_of (wants t o) y.0 y.2.among)

pub before_whole : (p : Item → Bool) (is : List Item) → ((i : Item) → Member i is → p i ≡ true) → bytes_before p is ≡ bytes_of is
unfolding bytes_before
before_whole p [] h = refl
before_whole p (i ∷ is) h = rw (h i (inl refl)) (ap (λ r. i.bytes + r) (before_whole p is (λ j m. h j (inr m))))

before_within : (p : Item → Bool) (is : List Item) → bytes_before p is ≤ bytes_of is
unfolding bytes_before
before_within p [] = omega arith
before_within p (i ∷ is) = go (before_within p is) (p i)
  where
    go : bytes_before p is ≤ bytes_of is → (b : Bool) → cond b (i.bytes + bytes_before p is) 0 ≤ i.bytes + bytes_of is
    go rest true = omega arith
    go rest false = omega arith

pub kept_within : (s : Setting) (t : Tree) (a : Addr) → kept_length s t a ≤ good_length t a
unfolding kept_length good_length
kept_within s t a = before_within (holds s t a) (node_at t a).list

pub kept_whole : (s : Setting) (t : Tree) (a : Addr) → ((i : Item) → Contains (node_at t a).list i → i.takes ≡ true → wins s t a i ≡ true) → kept_length s t a ≡ good_length t a
unfolding kept_length good_length holds
kept_whole s t a h = before_whole (holds s t a) (node_at t a).list (λ i m. go i m i.takes refl)
  where
    go : (i : Item) → Member i (node_at t a).list → (b : Bool) → i.takes ≡ b → (not b || wins s t a i) ≡ true
    go i m true e = h i (contains_of (node_at t a).list i m) e
    go i m false e = refl
