-- What rounds reach.
use Rattle.std.proofs.Common.{◌≡◌, eqb-true, refl, ◌+◌, false, cond, ◌⊎◌, ℕ, zero, suc, ◌≤◌, ◌<◌, List, length, Bool, true, ◌&&◌, sym, ◌∙◌, subst, inl, inr, arith}
use Rattle.std.specs.Prelude.{nat_eq}
use Rattle.std.specs.List.{list_any}
use Rattle.std.proofs.lemmas.Bool.{and_parts, and_from, or_cases, or_left, or_right, eqb-false, false≢true}
use Rattle.udf_tree_model.proofs.Members.{Member, tally, any_gives, any_from, tally_length, tally_grows, same_bools}
use Rattle.udf_field.specs.declared.address.Addr.{Addr}
use Rattle.udf_tree_model.specs.Rounds.{Graph, step, in_round, reached, round_from, round_of, IsClosed, IsLeastClosed, IsShortest, Walk}

pub step_stays : (g : Graph) (p : Addr → Bool) (a : Addr) → p a ≡ true → step g p a ≡ true
unfolding step
step_stays g p a h = or_left (p a) _ h

pub step_edge : (g : Graph) (p : Addr → Bool) (d a : Addr) → Member d g.places → p d ≡ true → g.edge d a ≡ true → step g p a ≡ true
unfolding step
step_edge g p d a m h e = or_right (p a) _ (any_from (λ x. p x && g.edge x a) g.places d m (and_from (p d) (g.edge d a) h e))

pub step_gives : (g : Graph) (p : Addr → Bool) (a : Addr) → step g p a ≡ true → (p a ≡ true) ⊎ ((d : Addr) × Member d g.places × (p d ≡ true) × (g.edge d a ≡ true))
unfolding step
step_gives g p a h = go (or_cases (p a) _ h)
  where
    go : (p a ≡ true) ⊎ (list_any (λ d. p d && g.edge d a) g.places ≡ true) → (p a ≡ true) ⊎ ((d : Addr) × Member d g.places × (p d ≡ true) × (g.edge d a ≡ true))
    go (inl e) = inl e
    go (inr e) =
        let r = any_gives (λ d. p d && g.edge d a) g.places e in
        let b = and_parts (p r.0) (g.edge r.0 a) r.2 in
        inr (r.0, r.1, b.0, b.1)

pub round_stays : (g : Graph) (k : ℕ) (a : Addr) → in_round g k a ≡ true → in_round g (suc k) a ≡ true
unfolding in_round
round_stays g k a h = step_stays g (in_round g k) a h

pub round_edge : (g : Graph) (k : ℕ) (d a : Addr) → Member d g.places → in_round g k d ≡ true → g.edge d a ≡ true → in_round g (suc k) a ≡ true
unfolding in_round
round_edge g k d a m h e = step_edge g (in_round g k) d a m h e

pub round_gives : (g : Graph) (k : ℕ) (a : Addr) → in_round g (suc k) a ≡ true → (in_round g k a ≡ true) ⊎ ((d : Addr) × Member d g.places × (in_round g k d ≡ true) × (g.edge d a ≡ true))
unfolding in_round
round_gives g k a h = step_gives g (in_round g k) a h

pub round_zero : (g : Graph) (a : Addr) → g.start a ≡ true → in_round g zero a ≡ true
unfolding in_round
round_zero g a h = h

pub zero_round : (g : Graph) (a : Addr) → in_round g zero a ≡ true → g.start a ≡ true
unfolding in_round
zero_round g a h = h

pub start_stays : (g : Graph) (n : ℕ) (a : Addr) → g.start a ≡ true → in_round g n a ≡ true
start_stays g zero a h = round_zero g a h
start_stays g (suc n) a h = round_stays g n a (start_stays g n a h)

-- the starts and the ends of edges are places
pub record IsWithin (g : Graph) : Type 0 where
  pub starts : (a : Addr) → g.start a ≡ true → Member a g.places
  pub ends : (d a : Addr) → g.edge d a ≡ true → Member a g.places

pub round_within : (g : Graph) → IsWithin g → (k : ℕ) (a : Addr) → in_round g k a ≡ true → Member a g.places
round_within g w zero a h = w.starts a (zero_round g a h)
round_within g w (suc k) a h = go (λ e. round_within g w k a e) (round_gives g k a h)
  where
    go : (in_round g k a ≡ true → Member a g.places) → (in_round g k a ≡ true) ⊎ ((d : Addr) × Member d g.places × (in_round g k d ≡ true) × (g.edge d a ≡ true)) → Member a g.places
    go ih (inl e) = ih e
    go ih (inr r) = w.ends r.0 a r.3

-- a round that the next one does not widen
abbrev pub IsFull : Graph → ℕ → Type 0
IsFull g k = (a : Addr) → in_round g (suc k) a ≡ true → in_round g k a ≡ true

pub full_edge : (g : Graph) → IsWithin g → (n : ℕ) → IsFull g n → (d a : Addr) → in_round g n d ≡ true → g.edge d a ≡ true → in_round g n a ≡ true
full_edge g w n f d a h e = f a (round_edge g n d a (round_within g w n d h) h e)

pub full_next : (g : Graph) (k : ℕ) → IsFull g k → IsFull g (suc k)
full_next g k f a h = go (round_gives g (suc k) a h)
  where
    go : (in_round g (suc k) a ≡ true) ⊎ ((d : Addr) × Member d g.places × (in_round g (suc k) d ≡ true) × (g.edge d a ≡ true)) → in_round g (suc k) a ≡ true
    go (inl e) = e
    go (inr r) = round_edge g k r.0 a r.1 (f r.0 r.2) r.3

widens : (g : Graph) → IsWithin g → (k : ℕ) → IsFull g k ⊎ (tally (in_round g k) g.places < tally (in_round g (suc k)) g.places)
widens g w k = go (tally_grows (in_round g k) (in_round g (suc k)) (round_stays g k) g.places).1
  where
    go : ((x : Addr) → Member x g.places → in_round g (suc k) x ≡ in_round g k x) ⊎ (tally (in_round g k) g.places < tally (in_round g (suc k)) g.places) → IsFull g k ⊎ (tally (in_round g k) g.places < tally (in_round g (suc k)) g.places)
    go (inl s) = inl (λ a h. sym (s a (round_within g w (suc k) a h)) ∙ h)
    go (inr l) = inr l

full_or_wide : (g : Graph) → IsWithin g → (k : ℕ) → IsFull g k ⊎ (suc k ≤ tally (in_round g (suc k)) g.places)
full_or_wide g w zero = go (widens g w zero)
  where
    go : IsFull g zero ⊎ (tally (in_round g zero) g.places < tally (in_round g 1) g.places) → IsFull g zero ⊎ (1 ≤ tally (in_round g 1) g.places)
    go (inl f) = inl f
    go (inr l) = inr (omega arith)
full_or_wide g w (suc k) = go (full_or_wide g w k) (widens g w (suc k))
  where
    go : IsFull g k ⊎ (suc k ≤ tally (in_round g (suc k)) g.places) → IsFull g (suc k) ⊎ (tally (in_round g (suc k)) g.places < tally (in_round g (suc (suc k))) g.places) → IsFull g (suc k) ⊎ (suc (suc k) ≤ tally (in_round g (suc (suc k))) g.places)
    go (inl f) _ = inl (full_next g k f)
    go (inr l) (inl f) = inl f
    go (inr l) (inr m) = inr (omega arith)

-- as many rounds as there are places reach all that is reached
pub full_at : (g : Graph) → IsWithin g → (n : ℕ) → length g.places ≤ n → IsFull g n
full_at g w n h = go (full_or_wide g w n)
  where
    go : IsFull g n ⊎ (suc n ≤ tally (in_round g (suc n)) g.places) → IsFull g n
    go (inl f) = f
    go (inr l) = let t = tally_length (in_round g (suc n)) g.places in absurd (omega arith)

-- no round has more than a full one
pub round_at_full : (g : Graph) → IsWithin g → (n : ℕ) → IsFull g n → (k : ℕ) (a : Addr) → in_round g k a ≡ true → in_round g n a ≡ true
round_at_full g w n f zero a h = start_stays g n a (zero_round g a h)
round_at_full g w n f (suc k) a h = go (λ b e. round_at_full g w n f k b e) (round_gives g k a h)
  where
    go : ((b : Addr) → in_round g k b ≡ true → in_round g n b ≡ true) → (in_round g k a ≡ true) ⊎ ((d : Addr) × Member d g.places × (in_round g k d ≡ true) × (g.edge d a ≡ true)) → in_round g n a ≡ true
    go ih (inl e) = ih a e
    go ih (inr r) = full_edge g w n f r.0 a (ih r.0 r.2) r.3

-- a walk of k edges lies in round k, and what lies there has a walk of at most k edges
pub walk_round : (g : Graph) → IsWithin g → (k : ℕ) (a : Addr) → Walk g k a → in_round g k a ≡ true
walk_round g w zero a h = round_zero g a h
walk_round g w (suc k) a h = let r = walk_round g w k h.0 h.1 in round_edge g k h.0 a (round_within g w k h.0 r) r h.2

pub round_walk : (g : Graph) (k : ℕ) (a : Addr) → in_round g k a ≡ true → (j : ℕ) × (j ≤ k) × Walk g j a
round_walk g zero a h = (0, omega arith, zero_round g a h)
round_walk g (suc k) a h = go (λ b e. round_walk g k b e) (round_gives g k a h)
  where
    go : ((b : Addr) → in_round g k b ≡ true → (j : ℕ) × (j ≤ k) × Walk g j b) → (in_round g k a ≡ true) ⊎ ((d : Addr) × Member d g.places × (in_round g k d ≡ true) × (g.edge d a ≡ true)) → (j : ℕ) × (j ≤ suc k) × Walk g j a
    go ih (inl e) = let r = ih a e in (r.0, omega (arith, r.1), r.2)
    go ih (inr d) = let r = ih d.0 d.2 in (suc r.0, omega (arith, r.1), (d.0, r.2, d.3))

-- graphs that agree on what one of them reaches have the same rounds
pub same_rounds : (g h : Graph) → g.places ≡ h.places → ((a : Addr) → g.start a ≡ h.start a) → ((k : ℕ) (d a : Addr) → in_round g k d ≡ true → g.edge d a ≡ h.edge d a) → (k : ℕ) (a : Addr) → in_round g k a ≡ in_round h k a
unfolding in_round
same_rounds g h p s e zero a = s a
same_rounds g h p s e (suc k) a = same_bools _ _ (λ r. go (same_rounds g h p s e k) (step_gives g (in_round g k) a r)) (λ r. back (same_rounds g h p s e k) (step_gives h (in_round h k) a r))
  where
    go : ((b : Addr) → in_round g k b ≡ in_round h k b) → (in_round g k a ≡ true) ⊎ ((d : Addr) × Member d g.places × (in_round g k d ≡ true) × (g.edge d a ≡ true)) → step h (in_round h k) a ≡ true
    go ih (inl i) = step_stays h (in_round h k) a (sym (ih a) ∙ i)
    go ih (inr r) = step_edge h (in_round h k) r.0 a (subst (λ (ps : List Addr). Member r.0 ps) p r.1) (sym (ih r.0) ∙ r.2) (sym (e k r.0 a r.2) ∙ r.3)

    back : ((b : Addr) → in_round g k b ≡ in_round h k b) → (in_round h k a ≡ true) ⊎ ((d : Addr) × Member d h.places × (in_round h k d ≡ true) × (h.edge d a ≡ true)) → step g (in_round g k) a ≡ true
    back ih (inl i) = step_stays g (in_round g k) a (ih a ∙ i)
    back ih (inr r) = step_edge g (in_round g k) r.0 a (subst (λ (ps : List Addr). Member r.0 ps) (sym p) r.1) (ih r.0 ∙ r.2) (e k r.0 a (ih r.0 ∙ r.2) ∙ r.3)

-- as many rounds as there are places give the least closed set
pub reached_least : (g : Graph) → IsWithin g → IsLeastClosed g (reached g)
unfolding reached
reached_least g w =
    let full = full_at g w (length g.places) (omega arith) in
    record {
      closed = record { starts = λ a h. start_stays g (length g.places) a h; edges = λ d a h e. full_edge g w (length g.places) full d a h e };
      least = λ q c a h. inside q c (length g.places) a h;
    }
  where
    inside : (q : Addr → Bool) → IsClosed g q → (k : ℕ) (a : Addr) → in_round g k a ≡ true → q a ≡ true
    inside q c zero a h = c.starts a (zero_round g a h)
    inside q c (suc k) a h = go (λ b e. inside q c k b e) (round_gives g k a h)
      where
        go : ((b : Addr) → in_round g k b ≡ true → q b ≡ true) → (in_round g k a ≡ true) ⊎ ((d : Addr) × Member d g.places × (in_round g k d ≡ true) × (g.edge d a ≡ true)) → q a ≡ true
        go ih (inl e) = ih a e
        go ih (inr r) = c.edges r.0 a (ih r.0 r.2) r.3

pub round_reached : (g : Graph) → IsWithin g → (k : ℕ) (a : Addr) → in_round g k a ≡ true → reached g a ≡ true
unfolding reached
round_reached g w k a h = round_at_full g w (length g.places) (full_at g w (length g.places) (omega arith)) k a h

later : (j k : ℕ) → k ≤ j → (j ≡ k → ⊥) → suc k ≤ j
later j k l n = omega (arith, l, n)

-- the first of n rounds from k on that has it, where the last of them does
pub first_round : (g : Graph) (n k : ℕ) (a : Addr) → in_round g (k + n) a ≡ true → (in_round g (round_from g n k a) a ≡ true) × ((j : ℕ) → k ≤ j → j < round_from g n k a → in_round g j a ≡ false)
unfolding round_from
first_round g zero k a h = (subst (λ (m : ℕ). in_round g m a ≡ true) (omega arith) h, λ j l m. absurd (omega (arith, l, m)))
first_round g (suc n) k a h = go (first_round g n (suc k) a (subst (λ (m : ℕ). in_round g m a ≡ true) (omega arith) h)) (in_round g k a) refl
  where
    go : (in_round g (round_from g n (suc k) a) a ≡ true) × ((j : ℕ) → suc k ≤ j → j < round_from g n (suc k) a → in_round g j a ≡ false)
        → (b : Bool) → in_round g k a ≡ b
        → (in_round g (cond b k (round_from g n (suc k) a)) a ≡ true) × ((j : ℕ) → k ≤ j → j < cond b k (round_from g n (suc k) a) → in_round g j a ≡ false)
    go ih true e = (e, λ j l m. absurd (omega (arith, l, m)))
    go ih false e = (ih.0, λ j l m. here j l m (nat_eq j k) refl)
      where
        here : (j : ℕ) → k ≤ j → j < round_from g n (suc k) a → (t : Bool) → nat_eq j k ≡ t → in_round g j a ≡ false
        here j l m true e' = subst (λ (i : ℕ). in_round g i a ≡ false) (sym (eqb-true j k e')) e
        here j l m false e' = ih.1 j (later j k l (eqb-false j k e')) m

pub round_shortest : (g : Graph) → IsWithin g → (a : Addr) → reached g a ≡ true → IsShortest g a (round_of g a)
unfolding reached round_of
round_shortest g w a h =
    let r = first_round g (length g.places) 0 a (subst (λ (m : ℕ). in_round g m a ≡ true) (omega arith) h) in
    let k = round_from g (length g.places) 0 a in
    let j = round_walk g k a r.0 in
    let least = λ (i : ℕ) (x : Walk g i a). below i (λ l. false≢true (sym (r.1 i (omega arith) l) ∙ walk_round g w i a x)) in
    record {
      walk = subst (λ (i : ℕ). Walk g i a) (same j.0 j.1 (least j.0 j.2)) j.2;
      shortest = least;
    }
  where
    below : (i : ℕ) → (i < round_from g (length g.places) 0 a → ⊥) → round_from g (length g.places) 0 a ≤ i
    below i n = omega (arith, n)

    same : (i : ℕ) → i ≤ round_from g (length g.places) 0 a → round_from g (length g.places) 0 a ≤ i → i ≡ round_from g (length g.places) 0 a
    same i l m = omega (arith, l, m)
