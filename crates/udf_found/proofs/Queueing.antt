-- A queue by levels reaches what rounds reach, each address at its least round.
use Rattle.std.proofs.Common.{◌≡◌, ◌⊎◌, ℕ, zero, suc, ◌≤◌, List, [], ◌∷◌, ◌++◌, true, false, refl, sym, ap, ◌∙◌, subst, inl, inr, arith}
use Rattle.std.proofs.lemmas.Bool.{false≢true}
use Rattle.std.proofs.lemmas.List.{append_assoc, append-nil}
use Rattle.udf_field.specs.declared.address.Addr.{Addr}
use Rattle.udf_file_model.specs.Address.{same_addr}
use Rattle.udf_tree_model.specs.Among.{Member}
use Rattle.udf_tree_model.specs.Node.{Tree, Setting}
use Rattle.udf_tree_model.specs.Rounds.{Graph, in_round, Walk}
use Rattle.udf_tree_model.specs.Found.{found_graph, found, level}
use Rattle.udf_tree_model.specs.Laws.{IsWithin}
use Rattle.udf_tree_model.proofs.Members.{any_gives, any_from, member_append, member_left, member_map, member_of_map, same_bools}
use Rattle.udf_tree_model.proofs.Reached.{IsWithin as HasPlaces, round_gives, zero_round, walk_round, round_walk}
use Rattle.udf_tree_model.proofs.Places.{same_address, address_same}
use Rattle.udf_tree_model.proofs.Finding.{found_places, found_full, found_shortest}
use Rattle.udf_found.specs.Spot.{Spot, spot, addresses, knows, ComeOnce, Has, Rising, IsQueue, IsFoundList}

pub has_more : (q r : List Spot) (a : Addr) (m : ℕ) → Has q a m → Has (q ++ r) a m
has_more q r a m h = record { level = h.level; there = member_left q r _ h.there; low = h.low }

pub has_higher : (q : List Spot) (a : Addr) (m n : ℕ) → m ≤ n → Has q a m → Has q a n
has_higher q a m n l h = record { level = h.level; there = h.there; low = let k = h.low in omega arith }

pub rising_push : (q : List Spot) (y : Spot) → Rising q → ((x : Spot) → Member x q → x.level ≤ y.level) → Rising (q ++ y ∷ [])
rising_push [] y r h = (λ z m. absurd m, tt)
rising_push (x ∷ xs) y r h = (top, rising_push xs y r.1 (λ z m. h z (inr m)))
  where
    top : (z : Spot) → Member z (xs ++ y ∷ []) → x.level ≤ z.level
    top z m = go (member_append xs (y ∷ []) z m)
      where
        go : Member z xs ⊎ Member z (y ∷ []) → x.level ≤ z.level
        go (inl k) = r.0 z k
        go (inr (inl e)) = let P : Spot → Type 0 = λ w. x.level ≤ w.level in subst P (sym e) (h x (inl refl))
        go (inr (inr k)) = absurd k

-- after the first ones, the levels are at least that of the first of the rest
pub rising_rest : (done : List Spot) (x : Spot) (rest : List Spot) → Rising (done ++ x ∷ rest) → (y : Spot) → Member y (x ∷ rest) → x.level ≤ y.level
rising_rest [] x rest r y (inl e) = let P : Spot → Type 0 = λ w. x.level ≤ w.level in subst P (sym e) (omega arith)
rising_rest [] x rest r y (inr m) = r.0 y m
rising_rest (z ∷ zs) x rest r y m = rising_rest zs x rest r.1 y m

pub queue_push : (g : Graph) (done : List Spot) (x : Spot) (rest : List Spot) (a : Addr) → in_round g (suc x.level) a ≡ true → IsQueue g done (x ∷ rest) → IsQueue g done (x ∷ (rest ++ spot a (suc x.level) ∷ []))
queue_push g done x rest a h q = record {
  reached = λ y m. reach y (split y m);
  starts = λ b s. along (λ l. Has l b 0) (has_more _ new b 0 (q.starts b s));
  closed = λ y b m e. along (λ l. Has l b (suc y.level)) (has_more _ new b (suc y.level) (q.closed y b m e));
  near = λ y z m n. close y z (member_append (x ∷ rest) new z m) (split y n);
  rising = along Rising (rising_push (done ++ x ∷ rest) one q.rising (λ y m. q.near y x (inl refl) m));
}
  where
    one : Spot
    one = spot a (suc x.level)

    new : List Spot
    new = one ∷ []

    long : (done ++ x ∷ rest) ++ new ≡ done ++ (x ∷ (rest ++ new))
    long = append_assoc done (x ∷ rest) new

    along : (P : List Spot → Type 0) → P ((done ++ x ∷ rest) ++ new) → P (done ++ (x ∷ (rest ++ new)))
    along P = subst P long

    split : (y : Spot) → Member y (done ++ (x ∷ (rest ++ new))) → Member y (done ++ x ∷ rest) ⊎ Member y new
    split y m = member_append (done ++ x ∷ rest) new y (subst (λ (l : List Spot). Member y l) (sym long) m)

    reach : (y : Spot) → Member y (done ++ x ∷ rest) ⊎ Member y new → in_round g y.level y.at ≡ true
    reach y (inl m) = q.reached y m
    reach y (inr (inl e)) = let P : Spot → Type 0 = λ w. in_round g w.level w.at ≡ true in subst P (sym e) h
    reach y (inr (inr m)) = absurd m

    close : (y z : Spot) → Member z (x ∷ rest) ⊎ Member z new → Member y (done ++ x ∷ rest) ⊎ Member y new → y.level ≤ suc z.level
    close y z (inl m) (inl n) = q.near y z m n
    close y z (inl m) (inr (inl e)) = let l = rising_rest done x rest q.rising z m in let P : Spot → Type 0 = λ w. w.level ≤ suc z.level in subst P (sym e) (omega arith)
    close y z (inr (inl e)) (inl n) = let l = q.near y x (inl refl) n in let P : Spot → Type 0 = λ w. y.level ≤ suc w.level in subst P (sym e) (omega arith)
    close y z (inr (inl e)) (inr (inl f)) = let P : Spot → Type 0 = λ w. y.level ≤ suc w.level in let Q : Spot → Type 0 = λ w. w.level ≤ suc (suc x.level) in subst P (sym e) (subst Q (sym f) (omega arith))
    close y z (inl m) (inr (inr n)) = absurd n
    close y z (inr (inr m)) n = absurd m
    close y z (inr (inl e)) (inr (inr n)) = absurd n

-- the first of the rest is done
pub queue_next : (g : Graph) (done : List Spot) (x : Spot) (rest : List Spot) → ((a : Addr) → g.edge x.at a ≡ true → Has (done ++ x ∷ rest) a (suc x.level)) → IsQueue g done (x ∷ rest) → IsQueue g (done ++ x ∷ []) rest
queue_next g done x rest h q = record {
  reached = λ y m. q.reached y (back y m);
  starts = λ a s. along (λ l. Has l a 0) (q.starts a s);
  closed = λ y a m e. along (λ l. Has l a (suc y.level)) (edges y a (member_append done (x ∷ []) y m) e);
  near = λ y z m n. q.near y z (inr m) (back y n);
  rising = along Rising q.rising;
}
  where
    long : done ++ x ∷ rest ≡ (done ++ x ∷ []) ++ rest
    long = sym (append_assoc done (x ∷ []) rest)

    along : (P : List Spot → Type 0) → P (done ++ x ∷ rest) → P ((done ++ x ∷ []) ++ rest)
    along P = subst P long

    back : (y : Spot) → Member y ((done ++ x ∷ []) ++ rest) → Member y (done ++ x ∷ rest)
    back y m = subst (λ (l : List Spot). Member y l) (sym long) m

    edges : (y : Spot) (a : Addr) → Member y done ⊎ Member y (x ∷ []) → g.edge y.at a ≡ true → Has (done ++ x ∷ rest) a (suc y.level)
    edges y a (inl m) e = q.closed y a m e
    edges y a (inr (inl i)) e = let P : Spot → Type 0 = λ w. g.edge w.at a ≡ true → Has (done ++ x ∷ rest) a (suc w.level) in subst P (sym i) (h a) e
    edges y a (inr (inr m)) e = absurd m

-- each round is in it, at that level or below
pub round_has : (g : Graph) → HasPlaces g → (q : List Spot) → IsQueue g q [] → (k : ℕ) (a : Addr) → in_round g k a ≡ true → Has q a k
round_has g w q h zero a r = let P : List Spot → Type 0 = λ l. Has l a 0 in subst P (append-nil q) (h.starts a (zero_round g a r))
round_has g w q h (suc k) a r = go (λ b s. round_has g w q h k b s) (round_gives g k a r)
  where
    go : ((b : Addr) → in_round g k b ≡ true → Has q b k) → (in_round g k a ≡ true) ⊎ ((d : Addr) × Member d g.places × (in_round g k d ≡ true) × (g.edge d a ≡ true)) → Has q a (suc k)
    go ih (inl e) = has_higher q a k (suc k) (omega arith) (ih a e)
    go ih (inr d) =
        let s = ih d.0 d.2 in
        let P : List Spot → Type 0 = λ l. Has l a (suc s.level) in
        has_higher q a (suc s.level) (suc k) (let l = s.low in omega arith) (subst P (append-nil q) (h.closed (spot d.0 s.level) a s.there d.3))

not_again : (x : Spot) (xs : List Spot) (y : Spot) → knows x.at xs ≡ false → Member y xs → x.at ≡ y.at → ⊥
not_again x xs y once m e = false≢true (sym once ∙ any_from (same_addr x.at) (addresses xs) y.at (member_map (λ (z : Spot). z.at) xs y m) (address_same x.at y.at e))

-- an address stands once
pub one_each : (q : List Spot) → ComeOnce q → (x y : Spot) → Member x q → Member y q → x.at ≡ y.at → x ≡ y
one_each [] once x y m n e = absurd m
one_each (z ∷ zs) once x y (inl i) (inl j) e = i ∙ sym j
one_each (z ∷ zs) once x y (inl i) (inr n) e = absurd (not_again z zs y once.0 n (ap (λ (w : Spot). w.at) (sym i) ∙ e))
one_each (z ∷ zs) once x y (inr m) (inl j) e = absurd (not_again z zs x once.0 m (ap (λ (w : Spot). w.at) (sym j) ∙ sym e))
one_each (z ∷ zs) once x y (inr m) (inr n) e = one_each zs once.1 x y m n e

-- a queue that is done has what is found, each with its level
pub queue_done : (s : Setting) (t : Tree) → IsWithin s t → (q : List Spot) → ComeOnce q → IsQueue (found_graph s t) q [] → IsFoundList s t q
queue_done s t w q once h = record {
  each = λ x m. (is_there x m, same_level x m);
  all = λ a. same_bools _ _ (λ f. stands a f) (λ k. known a (any_gives (same_addr a) (addresses q) k));
  once = once;
  rising = subst Rising (append-nil q) h.rising;
}
  where
    reach : (x : Spot) → Member x q → in_round (found_graph s t) x.level x.at ≡ true
    reach x m = h.reached x (member_left q [] x m)

    is_there : (x : Spot) → Member x q → found s t x.at ≡ true
    is_there x m = found_full s t w x.level x.at (reach x m)

    had : (a : Addr) (k : ℕ) → Walk (found_graph s t) k a → Has q a k
    had a k x = round_has (found_graph s t) (found_places s t w) q h k a (walk_round (found_graph s t) (found_places s t w) k a x)

    stands : (a : Addr) → found s t a ≡ true → knows a q ≡ true
    stands a f =
        let k = had a (level s t a) (found_shortest s t w a f).walk in
        any_from (same_addr a) (addresses q) a (member_map (λ (x : Spot). x.at) q (spot a k.level) k.there) (address_same a a refl)

    known : (a : Addr) → (b : Addr) × Member b (addresses q) × (same_addr a b ≡ true) → found s t a ≡ true
    known a r =
        let x = member_of_map (λ (y : Spot). y.at) q r.0 r.1 in
        ap (found s t) (same_address a r.0 r.2 ∙ x.2) ∙ is_there x.0 x.1

    same_level : (x : Spot) → Member x q → x.level ≡ level s t x.at
    same_level x m =
        let r = found_shortest s t w x.at (is_there x m) in
        let k = had x.at (level s t x.at) r.walk in
        let same = one_each q once x (spot x.at k.level) m k.there refl in
        let e : x.level ≡ k.level = ap (λ (y : Spot). y.level) same in
        let j = round_walk (found_graph s t) x.level x.at (reach x m) in
        let l = r.shortest j.0 j.2 in
        let low = k.low in
        omega (arith, e, l, j.1, low)
