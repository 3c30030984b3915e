-- The two maps after a run more.
use Rattle.std.proofs.Common.{Bool, true, false, ◌&&◌, ◌||◌, cond, ◌≡◌, refl, sym, ap, subst, ◌∙◌, inl, inr, ℕ, ◌+◌, ◌*◌, ◌<◌, ◌≤◌, List, [], ◌∷◌, ◌++◌, Option, Some, None, is_some, nat_eq, nat_lt, nat_le, fold, arith}
use Rattle.std.specs.Prelude.{IsSome}
use Rattle.std.specs.Ordering.{nat_cmp}
use Rattle.std.specs.BTreeMap.{BTreeMap, get}
use Rattle.std.specs.List.{list_any}
use Rattle.std.proofs.lemmas.Bool.{cases_order, or_from, and_right}
use Rattle.std.proofs.lemmas.Bool.Decides.{nat_tests}
use Rattle.std.proofs.lemmas.List.Sums.{fold-append}
use Rattle.std.proofs.lemmas.List.Folds.{list_any-append}
use Rattle.udf_field.specs.declared.address.Addr.{Addr}
use Rattle.udf_claims.specs.declared.best.Best.{Best}
use Rattle.udf_claims.specs.declared.run.Run.{Run}
use Rattle.udf_claims.specs.Best.{is_owner, join, best_step, best_at}
use Rattle.udf_claims.specs.Shares.{sole_after, IsTop}
use Rattle.udf_claims.specs.Standing.{standing}
use Rattle.udf_claims.specs.Telling.{by_class, IsBest, Tells}
use Rattle.udf_claims.specs.Winner.{covers, claimed, number}
use Rattle.udf_claims.proofs.Sharing.{top_some, top_none, top_is}
use Rattle.udf_claims.proofs.Standing.{standing_none}
use Rattle.udf_claims.proofs.Winning.{by_cases, is_own, or_assoc, or_false}

-- a place of a class lies in a run of a class just where the classes are the same and the run has the address
spans : (k c p q b d n : ℕ) → b + n < 4294967296 → d < 4294967296 → p < 65536 → q < 65536
    → (nat_le (k * 281474976710656 + (p * 4294967296 + b)) (c * 281474976710656 + (q * 4294967296 + d)) && nat_lt (c * 281474976710656 + (q * 4294967296 + d)) (k * 281474976710656 + (p * 4294967296 + b) + n))
    ≡ (nat_eq c k && (nat_eq p q && (nat_le b d && nat_lt d (b + n))))
spans k c p q b d n fits small low high = elim (cases_order k c) [
  | inl e ↦ elim (cases_order p q) [
    | inl f ↦ grind (arith, nat_tests)
    | inr (inl h) ↦ let g : k * 281474976710656 + (p * 4294967296 + b) + n ≤ c * 281474976710656 + (q * 4294967296 + d) = omega arith in grind (arith, nat_tests)
    | inr (inr h) ↦ let g : c * 281474976710656 + (q * 4294967296 + d) < k * 281474976710656 + (p * 4294967296 + b) = omega arith in grind (arith, nat_tests)
  ]
  | inr (inl h) ↦ let g : k * 281474976710656 + (p * 4294967296 + b) + n ≤ c * 281474976710656 + (q * 4294967296 + d) = omega arith in grind (arith, nat_tests)
  | inr (inr h) ↦ let g : c * 281474976710656 + (q * 4294967296 + d) < k * 281474976710656 + (p * 4294967296 + b) = omega arith in grind (arith, nat_tests)
]

-- the same values, in the classes that are
best_same : (L S M T : ℕ → Option ℕ) (b : Option Best) → IsBest L S b → ((c : ℕ) → c < 256 → M c ≡ L c) → ((c : ℕ) → c < 256 → T c ≡ S c) → IsBest M T b
best_same L S M T b t l s = record {
  top = record {
    free = λ e c h. l c h ∙ t.top.free e c h;
    low = t.top.low;
    lower = λ x e c h. l c (low x e c h) ∙ t.top.lower x e c h;
    here = λ x e. let P : Option ℕ → Type 0 = λ o. IsSome o in subst P (sym (l x.class (t.top.low x e))) (t.top.here x e);
    owner = λ x e. s x.class (t.top.low x e) ∙ t.top.owner x e;
  };
  same = λ x o e f. l x.class (t.top.low x e) ∙ t.same x o e f;
}
  where
    low : (x : Best) → b ≡ Some x → (c : ℕ) → c < x.class → c < 256
    low x e c h = let k : x.class < 256 = t.top.low x e in omega arith

best_some : (L S : ℕ → Option ℕ) (class : ℕ) (owner : Option ℕ) → class < 256 → ((c : ℕ) → c < class → L c ≡ None) → IsSome (L class) → S class ≡ owner → ((o : ℕ) → owner ≡ Some o → L class ≡ Some o)
    → IsBest L S (Some (record { class = class; owner = owner }))
best_some L S class owner low lower here sole same = record {
  top = top_some L S class owner low lower here sole;
  same = λ b o e. let s : record { class = class; owner = owner } ≡ b = cc in let P : Best → Type 0 = λ b. b.owner ≡ Some o → L b.class ≡ Some o in subst P s (same o);
}

some_at : (o : Option ℕ) (n : ℕ) → o ≡ Some n → IsSome o
some_at o n e = let P : Option ℕ → Type 0 = λ p. IsSome p in subst P (sym e) refl

-- a run that holds the address, by what it leaves in its own class and in the others
best_held : (L S M T : ℕ → Option ℕ) (b : Option Best) (r : Run) → r.class < 256 → IsBest L S b → M r.class ≡ Some r.owner → T r.class ≡ sole_after r.owner (L r.class) (S r.class)
    → ((c : ℕ) → c < 256 → (c ≡ r.class → ⊥) → M c ≡ L c) → ((c : ℕ) → c < 256 → (c ≡ r.class → ⊥) → T c ≡ S c) → IsBest M T (Some (join b r))
unfolding join sole_after
best_held L S M T b r low t m u l s = go b t
  where
    fresh : ((c : ℕ) → c ≤ r.class → L c ≡ None) → IsBest M T (Some (record { class = r.class; owner = Some r.owner }))
    fresh none = best_some M T r.class (Some r.owner) low (λ c h. l c (omega arith) (λ e. omega arith) ∙ none c (omega arith)) (some_at (M r.class) r.owner m)
        (u ∙ ap (λ o. sole_after r.owner o (S r.class)) (none r.class (omega arith))) (λ o e. m ∙ e)

    nobody : (t : Bool) → cond {A = Option ℕ} t None None ≡ None
    nobody true = refl
    nobody false = refl

    alone : (w : Option ℕ) (p : Option ℕ) → ((o : ℕ) → w ≡ Some o → p ≡ Some o) → IsSome p → is_owner w r.owner ≡ false → sole_after r.owner p w ≡ None
    alone None None same h e = cc
    alone None (Some p) same h e = nobody (is_owner (Some p) r.owner)
    alone (Some w) p same h e = let f : p ≡ Some w = same w refl in ap (λ o. sole_after r.owner o (Some w)) f ∙ ap (λ t. cond t (Some w) None) e

    own : (w : Option ℕ) (p : Option ℕ) → p ≡ Some r.owner → sole_after r.owner p w ≡ w
    own w p e = ap (λ o. sole_after r.owner o w) e ∙ ap (λ t. cond t w None) (is_own (Some r.owner) r.owner refl)

    go : (b : Option Best) → IsBest L S b → IsBest M T (Some (join b r))
    go None t = fresh (λ c h. t.top.free refl c (omega arith))
    go (Some x) t = let small : x.class < 256 = t.top.low x refl in by_cases (IsBest M T) x r
        (λ h. fresh (λ c k. t.top.lower x refl c (omega arith)))
        (λ e n. best_some M T x.class None small (λ c h. l c (omega arith) (λ f. omega arith) ∙ t.top.lower x refl c h) (some_at (M x.class) r.owner (ap M (sym e) ∙ m)) (tied x t e n) (λ o f. absurd (cc)))
        (λ e f. best_some M T x.class x.owner small (λ c h. l c (omega arith) (λ g. omega arith) ∙ t.top.lower x refl c h) (some_at (M x.class) r.owner (ap M (sym e) ∙ m)) (kept x t e f) (λ o g. ap M (sym e) ∙ m ∙ sym f ∙ g))
        (λ h. best_some M T x.class x.owner small (λ c k. l c (omega arith) (λ f. omega arith) ∙ t.top.lower x refl c k)
        (let P : Option ℕ → Type 0 = λ o. IsSome o in subst P (sym (l x.class small (λ f. omega arith))) (t.top.here x refl)) (s x.class small (λ f. omega arith) ∙ t.top.owner x refl) (λ o f. l x.class small (λ g. omega arith) ∙ t.same x o refl f))
      where
        tied : (x : Best) → IsBest L S (Some x) → r.class ≡ x.class → is_owner x.owner r.owner ≡ false → T x.class ≡ None
        tied x t e n = ap T (sym e) ∙ u ∙ ap (λ c. sole_after r.owner (L c) (S c)) e ∙ ap (sole_after r.owner (L x.class)) (t.top.owner x refl) ∙ alone x.owner (L x.class) (λ o. t.same x o refl) (t.top.here x refl) n

        kept : (x : Best) → IsBest L S (Some x) → r.class ≡ x.class → x.owner ≡ Some r.owner → T x.class ≡ x.owner
        kept x t e f = ap T (sym e) ∙ u ∙ ap (λ c. sole_after r.owner (L c) (S c)) e ∙ ap (sole_after r.owner (L x.class)) (t.top.owner x refl) ∙ own x.owner (L x.class) (t.same x r.owner refl f)

-- the best after a run more
best_more : (L S M T : ℕ → Option ℕ) (b : Option Best) (a : Addr) (r : Run) → r.class < 256 → IsBest L S b → ((c : ℕ) → M c ≡ cond (nat_eq c r.class && covers r a) (Some r.owner) (L c))
    → ((c : ℕ) → T c ≡ cond (nat_eq c r.class && covers r a) (sole_after r.owner (L c) (S c)) (S c)) → IsBest M T (best_step a b r)
unfolding best_step
best_more L S M T b a r low t m u = go (covers r a) refl
  where
    off : (c : ℕ) (h : Bool) → (c ≡ r.class → ⊥) → (nat_eq c r.class && h) ≡ false
    off c h n = grind (arith, nat_tests)

    out : (c : ℕ) (h : Bool) → h ≡ false → (nat_eq c r.class && h) ≡ false
    out c h e = grind (arith, nat_tests)

    on : (h : Bool) → h ≡ true → (nat_eq r.class r.class && h) ≡ true
    on h e = grind (arith, nat_tests)

    go : (h : Bool) → covers r a ≡ h → IsBest M T (cond h (Some (join b r)) b)
    go true e = best_held L S M T b r low t (m r.class ∙ rw (on (covers r a) e) refl) (u r.class ∙ rw (on (covers r a) e) refl)
        (λ c h n. m c ∙ rw (off c (covers r a) n) refl) (λ c h n. u c ∙ rw (off c (covers r a) n) refl)
    go false e = best_same L S M T b t (λ c h. m c ∙ rw (out c (covers r a) e) refl) (λ c h. u c ∙ rw (out c (covers r a) e) refl)

-- the same values of every number
pub tells_same : (l s m t : BTreeMap ℕ (Option ℕ)) (rs : List Run) → Tells l s rs → ((q : ℕ) → standing (get nat_cmp m) None q ≡ standing (get nat_cmp l) None q) → ((q : ℕ) → standing (get nat_cmp t) None q ≡ standing (get nat_cmp s) None q) → Tells m t rs
tells_same l s m t rs tells one two = record {
  told = λ a p b. best_same (by_class l (number a)) (by_class s (number a)) (by_class m (number a)) (by_class t (number a)) (best_at a rs) (tells.told a p b)
      (λ c h. one (c * 281474976710656 + number a)) (λ c h. two (c * 281474976710656 + number a));
  last = tells.last;
}

pub tells_push : (l s m t : BTreeMap ℕ (Option ℕ)) (rs : List Run) (r : Run) (lo hi : ℕ) → Tells l s rs → r.at.block + r.blocks < 4294967296 → r.at.part < 65536 → r.class < 256
    → lo ≡ r.class * 281474976710656 + number r.at → hi ≡ lo + r.blocks
    → ((q : ℕ) → standing (get nat_cmp m) None q ≡ cond (nat_le lo q && nat_lt q hi) (Some r.owner) (standing (get nat_cmp l) None q))
    → ((q : ℕ) → standing (get nat_cmp t) None q ≡ cond (nat_le lo q && nat_lt q hi) (sole_after r.owner (standing (get nat_cmp l) None q) (standing (get nat_cmp s) None q)) (standing (get nat_cmp s) None q))
    → Tells m t (rs ++ r ∷ [])
unfolding best_at covers claimed
tells_push l s m t rs r lo hi tells fits part class low high one two = record { told = all; last = edge }
  where
    edge : (p : ℕ) → list_any (λ x. covers x (record { part = p; block = 4294967295 })) (rs ++ r ∷ []) ≡ false
    edge p = list_any-append (λ x. covers x (record { part = p; block = 4294967295 })) rs (r ∷ []) ∙ or_from (list_any (λ x. covers x (record { part = p; block = 4294967295 })) rs) (covers r (record { part = p; block = 4294967295 }) || false) (tells.last p) (or_false (covers r (record { part = p; block = 4294967295 })) ∙ past)
      where
        past : covers r (record { part = p; block = 4294967295 }) ≡ false
        past = and_right (nat_eq r.at.part p) _ (grind (arith, nat_tests))

    test : (a : Addr) → a.part < 65536 → a.block < 4294967296 → (c : ℕ) → (nat_le lo (c * 281474976710656 + number a) && nat_lt (c * 281474976710656 + number a) hi) ≡ (nat_eq c r.class && covers r a)
    test a p b c = ap (λ h. nat_le lo (c * 281474976710656 + number a) && nat_lt (c * 281474976710656 + number a) h) high
        ∙ ap (λ l. nat_le l (c * 281474976710656 + number a) && nat_lt (c * 281474976710656 + number a) (l + r.blocks)) low
        ∙ spans r.class c r.at.part a.part r.at.block a.block r.blocks fits b part p

    all : (a : Addr) → a.part < 65536 → a.block < 4294967296 → IsBest (by_class m (number a)) (by_class t (number a)) (best_at a (rs ++ r ∷ []))
    all a p b = let P : Option Best → Type 0 = IsBest (by_class m (number a)) (by_class t (number a)) in subst P (sym (fold-append (best_step a) None rs (r ∷ [])))
        (best_more (by_class l (number a)) (by_class s (number a)) (by_class m (number a)) (by_class t (number a)) (best_at a rs) a r class (tells.told a p b)
        (λ c. one (c * 281474976710656 + number a) ∙ ap (λ h. cond h (Some r.owner) (by_class l (number a) c)) (test a p b c))
        (λ c. two (c * 281474976710656 + number a) ∙ ap (λ h. cond h (sole_after r.owner (by_class l (number a) c) (by_class s (number a) c)) (by_class s (number a) c)) (test a p b c)))

pub tells_none : (l s : BTreeMap ℕ (Option ℕ)) → ((q : ℕ) → get nat_cmp l q ≡ None) → Tells l s []
unfolding best_at claimed
tells_none l s none = record {
  told = λ a p b. record { top = top_none (by_class l (number a)) (by_class s (number a)) (λ c h. standing_none (get nat_cmp l) None (c * 281474976710656 + number a) (λ q k. none q)); same = λ x o e f. absurd (cc) };
  last = λ p. refl;
}

held_step : (a : Addr) (b : Option Best) (r : Run) → is_some (best_step a b r) ≡ (is_some b || covers r a)
unfolding best_step
held_step a b r = go (covers r a) b
  where
    go : (t : Bool) (b : Option Best) → is_some (cond t (Some (join b r)) b) ≡ (is_some b || t)
    go true None = refl
    go true (Some b) = refl
    go false None = refl
    go false (Some b) = refl

held_fold : (a : Addr) (b : Option Best) (rs : List Run) → is_some (fold (best_step a) b rs) ≡ (is_some b || claimed rs a)
unfolding claimed
held_fold a b [] = sym (or_false (is_some b))
held_fold a b (r ∷ rs) = held_fold a (best_step a b r) rs ∙ ap (λ t. t || claimed rs a) (held_step a b r) ∙ sym (or_assoc (is_some b) (covers r a) (claimed rs a))

-- an address has a best just where it is claimed
pub held_is : (a : Addr) (rs : List Run) → is_some (best_at a rs) ≡ claimed rs a
unfolding best_at
held_is a rs = held_fold a None rs

pub claimed_is : (a : Addr) (rs : List Run) (b : Option Best) → best_at a rs ≡ b → claimed rs a ≡ is_some b
claimed_is a rs b e = sym (held_is a rs) ∙ ap is_some e

-- the last place of each class is nobody's
pub edges : (l s : BTreeMap ℕ (Option ℕ)) (rs : List Run) → Tells l s rs → (c : ℕ) → c < 256 → by_class l 281474976710655 c ≡ None
edges l s rs t c h = let a : Addr = record { part = 65535; block = 4294967295 } in
    (t.told a (omega arith) (omega arith)).top.free (none (best_at a rs) (held_is a rs ∙ t.last 65535)) c h
  where
    none : (b : Option Best) → is_some b ≡ false → b ≡ None
    none None e = refl
    none (Some b) e = cc

-- what the maps tell of a place is the best of its address
pub piece_best : (l s : BTreeMap ℕ (Option ℕ)) (rs : List Run) (b : Option Best) (a : Addr) → Tells l s rs → a.part < 65536 → a.block < 4294967296 → IsTop (by_class l (number a)) (by_class s (number a)) b → best_at a rs ≡ b
piece_best l s rs b a t part block top = top_is (by_class l (number a)) (by_class s (number a)) (best_at a rs) b (t.told a part block).top top
