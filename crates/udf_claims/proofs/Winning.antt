-- The best of an address tells who wins it.
use Rattle.std.proofs.Common.{◌≡◌, ℕ, ◌<◌, List, [], ◌∷◌, Bool, true, false, not, ◌&&◌, ◌||◌, cond, Option, Some, None, nat_eq, nat_lt, nat_le, refl, sym, ap, ◌∙◌, arith, fold}
use Rattle.std.specs.List.{list_any}
use Rattle.std.proofs.lemmas.Bool.Decides.{nat_tests}
use Rattle.udf_field.specs.declared.address.Addr.{Addr}
use Rattle.udf_claims.specs.declared.best.Best.{Best}
use Rattle.udf_claims.specs.declared.run.Run.{Run}
use Rattle.udf_claims.specs.Winner.{covers, yields_not, prevails, wins}
use Rattle.udf_claims.specs.Best.{is_owner, join, best_step, best_at, champion, won}

-- whether an owner's want of this class is beaten by none, by the best
unfoldable pub leads : Option Best → ℕ → ℕ → Bool
leads None owner class = true
leads (Some b) owner class = nat_lt class b.class || (nat_eq class b.class && is_owner b.owner owner)

unfoldable pub class_of : Option Best → ℕ
class_of None = 0
class_of (Some b) = b.class

and_assoc : (a b c : Bool) → (a && (b && c)) ≡ ((a && b) && c)
and_assoc true b c = refl
and_assoc false b c = refl

pub or_assoc : (a b c : Bool) → (a || (b || c)) ≡ ((a || b) || c)
or_assoc true b c = refl
or_assoc false b c = refl

and_true : (a : Bool) → (a && true) ≡ a
and_true true = refl
and_true false = refl

and_false : (a : Bool) → (a && false) ≡ false
and_false true = refl
and_false false = refl

pub or_false : (a : Bool) → (a || false) ≡ a
or_false true = refl
or_false false = refl

-- how one run more lies to the best: what it adds to the wants that lead, and to the one that has won
abbrev pub yields : ℕ → ℕ → ℕ → ℕ → Bool
yields o k o1 c1 = cond (nat_eq o1 o) (nat_le k c1) (nat_lt k c1)

abbrev pub leading : ℕ → ℕ → Bool → Bool
leading k c0 h = nat_lt k c0 || (nat_eq k c0 && h)

lower : (k o c0 c1 o1 : ℕ) (h : Bool) → c1 < c0 → leading k c1 (nat_eq o1 o) ≡ (leading k c0 h && yields o k o1 c1)
lower k o c0 c1 o1 h l = grind (arith, nat_tests)

higher : (k o c0 c1 o1 : ℕ) (h : Bool) → c0 < c1 → leading k c0 h ≡ (leading k c0 h && yields o k o1 c1)
higher k o c0 c1 o1 h l = grind (arith, nat_tests)

again : (k o c0 c1 o1 : ℕ) (h : Bool) → c1 ≡ c0 → h ≡ nat_eq o1 o → leading k c0 h ≡ (leading k c0 h && yields o k o1 c1)
again k o c0 c1 o1 h e f = grind (arith, nat_tests)

shared : (k o c0 c1 o1 : ℕ) (h : Bool) → c1 ≡ c0 → (h && nat_eq o1 o) ≡ false → leading k c0 false ≡ (leading k c0 h && yields o k o1 c1)
shared k o c0 c1 o1 h e apart = grind (arith, nat_tests)

won_lower : (o c0 c1 o1 : ℕ) (h p0 p1 : Bool) → c1 < c0
    → (nat_eq o1 o && p1) ≡ ((h && (yields o c0 o1 c1 && p0)) || (nat_eq o1 o && (leading c1 c0 h && (yields o c1 o1 c1 && p1))))
won_lower o c0 c1 o1 h p0 p1 l = grind (arith, nat_tests)

won_higher : (o c0 c1 o1 : ℕ) (h p0 p1 : Bool) → c0 < c1
    → (h && p0) ≡ ((h && (yields o c0 o1 c1 && p0)) || (nat_eq o1 o && (leading c1 c0 h && (yields o c1 o1 c1 && p1))))
won_higher o c0 c1 o1 h p0 p1 l = grind (arith, nat_tests)

won_again : (o c0 c1 o1 : ℕ) (h p0 p1 : Bool) → c1 ≡ c0 → h ≡ nat_eq o1 o → p1 ≡ p0
    → (h && p0) ≡ ((h && (yields o c0 o1 c1 && p0)) || (nat_eq o1 o && (leading c1 c0 h && (yields o c1 o1 c1 && p1))))
won_again o c0 c1 o1 h p0 p1 e f g = grind (arith, nat_tests)

won_shared : (o c0 c1 o1 : ℕ) (h p0 p1 : Bool) → c1 ≡ c0 → (h && nat_eq o1 o) ≡ false
    → (false && p0) ≡ ((h && (yields o c0 o1 c1 && p0)) || (nat_eq o1 o && (leading c1 c0 h && (yields o c1 o1 c1 && p1))))
won_shared o c0 c1 o1 h p0 p1 e apart = grind (arith, nat_tests)

won_first : (o c1 o1 : ℕ) (p1 : Bool) → (nat_eq o1 o && p1) ≡ (nat_eq o1 o && (yields o c1 o1 c1 && p1))
won_first o c1 o1 p1 = grind (arith, nat_tests)

pub owner_is : (w : Option ℕ) (o : ℕ) → is_owner w o ≡ true → w ≡ Some o
unfolding is_owner
owner_is None o e = cc
owner_is (Some n) o e = let s : n ≡ o = grind (arith, nat_tests) in ap Some s

pub is_own : (w : Option ℕ) (o : ℕ) → w ≡ Some o → is_owner w o ≡ true
unfolding is_owner
is_own None o e = cc
is_own (Some n) o e = let s : n ≡ o = cc in grind (arith, nat_tests)

-- two owners are one where both are the owner
owners : (w : Option ℕ) (n o : ℕ) → w ≡ Some n → is_owner w o ≡ nat_eq n o
unfolding is_owner
owners w n o e = ap (λ v. is_owner v o) e

apart : (w : Option ℕ) (n o : ℕ) → is_owner w n ≡ false → (is_owner w o && nat_eq n o) ≡ false
unfolding is_owner
apart None n o e = refl
apart (Some m) n o e = grind (arith, nat_tests)

-- what holds of the best after one run more, by how its class and owner lie
pub by_cases : (P : Option Best → Type 0) (b : Best) (r : Run) → (r.class < b.class → P (Some (record { class = r.class; owner = Some r.owner })))
    → (r.class ≡ b.class → is_owner b.owner r.owner ≡ false → P (Some (record { class = b.class; owner = None })))
    → (r.class ≡ b.class → b.owner ≡ Some r.owner → P (Some b)) → (b.class < r.class → P (Some b)) → P (Some (join (Some b) r))
unfolding join
by_cases P b r low tie same high = go (nat_lt r.class b.class) (nat_eq r.class b.class) (is_owner b.owner r.owner) refl refl refl
  where
    go : (s t u : Bool) → nat_lt r.class b.class ≡ s → nat_eq r.class b.class ≡ t → is_owner b.owner r.owner ≡ u
        → P (Some (cond s (record { class = r.class; owner = Some r.owner }) (cond (t && not u) (record { class = b.class; owner = None }) b)))
    go true t u e f g = low (grind (arith, nat_tests))
    go false true true e f g = same (grind (arith, nat_tests)) (owner_is b.owner r.owner g)
    go false true false e f g = tie (grind (arith, nat_tests)) g
    go false false u e f g = high (grind (arith, nat_tests))

joins : (o : ℕ) (a : Addr) (k : ℕ) (b : Option Best) (r : Run) → leads (best_step a b r) o k ≡ (leads b o k && yields_not o a k r)
unfolding best_step yields_not leads join is_owner
joins o a k b r = go (covers r a) b
  where
    at : (b : Option Best) → leads (Some (join b r)) o k ≡ (leads b o k && yields o k r.owner r.class)
    at None = grind (arith, nat_tests)
    at (Some b) = by_cases (λ c. leads c o k ≡ (leads (Some b) o k && yields o k r.owner r.class)) b r (λ l. lower k o b.class r.class r.owner (is_owner b.owner o) l)
        (λ e n. shared k o b.class r.class r.owner (is_owner b.owner o) e (apart b.owner r.owner o n)) (λ e f. again k o b.class r.class r.owner (is_owner b.owner o) e (owners b.owner r.owner o f)) (λ l. higher k o b.class r.class r.owner (is_owner b.owner o) l)

    go : (t : Bool) (b : Option Best) → leads (cond t (Some (join b r)) b) o k ≡ (leads b o k && (not t || yields o k r.owner r.class))
    go true b = at b
    go false b = sym (and_true (leads b o k))

-- the one that has won, after one run more
won_more : (o : ℕ) (a : Addr) (b : Option Best) (r : Run) (p : ℕ → Bool) → (won (best_step a b r) o && p (class_of (best_step a b r)))
    ≡ ((won b o && (yields_not o a (class_of b) r && p (class_of b))) || (nat_eq r.owner o && (covers r a && (leads b o r.class && (yields_not o a r.class r && p r.class)))))
unfolding best_step yields_not won champion class_of leads join is_owner
won_more o a b r p = go (covers r a) b
  where
    at : (b : Option Best) → (won (Some (join b r)) o && p (class_of (Some (join b r))))
        ≡ ((won b o && (yields o (class_of b) r.owner r.class && p (class_of b))) || (nat_eq r.owner o && (leads b o r.class && (yields o r.class r.owner r.class && p r.class))))
    at None = won_first o r.class r.owner (p r.class)
    at (Some b) = by_cases (λ c. (won c o && p (class_of c)) ≡ ((won (Some b) o && (yields o b.class r.owner r.class && p b.class)) || (nat_eq r.owner o && (leads (Some b) o r.class && (yields o r.class r.owner r.class && p r.class))))) b r
        (λ l. won_lower o b.class r.class r.owner (is_owner b.owner o) (p b.class) (p r.class) l) (λ e n. won_shared o b.class r.class r.owner (is_owner b.owner o) (p b.class) (p r.class) e (apart b.owner r.owner o n))
        (λ e f. won_again o b.class r.class r.owner (is_owner b.owner o) (p b.class) (p r.class) e (owners b.owner r.owner o f) (ap p e)) (λ l. won_higher o b.class r.class r.owner (is_owner b.owner o) (p b.class) (p r.class) l)

    go : (t : Bool) (b : Option Best) → (won (cond t (Some (join b r)) b) o && p (class_of (cond t (Some (join b r)) b)))
        ≡ ((won b o && ((not t || yields o (class_of b) r.owner r.class) && p (class_of b))) || (nat_eq r.owner o && (t && (leads b o r.class && ((not t || yields o r.class r.owner r.class) && p r.class)))))
    go true b = at b
    go false b = sym (ap (λ x. (won b o && p (class_of b)) || x) (and_false (nat_eq r.owner o)) ∙ or_false (won b o && p (class_of b)))

any_same : {A : Type 0} (f g : A → Bool) → ((x : A) → f x ≡ g x) → (xs : List A) → list_any f xs ≡ list_any g xs
any_same f g e [] = refl
any_same f g e (x ∷ xs) = ap (λ t. t || list_any f xs) (e x) ∙ ap (λ t. g x || t) (any_same f g e xs)

won_fold : (o : ℕ) (a : Addr) (b : Option Best) (rs : List Run) → won (fold (best_step a) b rs) o
    ≡ ((won b o && prevails rs o a (class_of b)) || list_any (λ r. nat_eq r.owner o && (covers r a && (leads b o r.class && prevails rs o a r.class))) rs)
unfolding prevails
won_fold o a b [] = sym (ap (λ t. t || false) (and_true (won b o)) ∙ or_false (won b o))
won_fold o a b (r ∷ rs) =
    won_fold o a (best_step a b r) rs
    ∙ ap (λ t. t || list_any (λ j. nat_eq j.owner o && (covers j a && (leads (best_step a b r) o j.class && prevails rs o a j.class))) rs) (won_more o a b r (prevails rs o a))
    ∙ ap (λ t. ((won b o && (yields_not o a (class_of b) r && prevails rs o a (class_of b))) || (nat_eq r.owner o && (covers r a && (leads b o r.class && (yields_not o a r.class r && prevails rs o a r.class))))) || t)
    (any_same (λ j. nat_eq j.owner o && (covers j a && (leads (best_step a b r) o j.class && prevails rs o a j.class)))
    (λ j. nat_eq j.owner o && (covers j a && (leads b o j.class && (yields_not o a j.class r && prevails rs o a j.class))))
    (λ j. ap (λ t. nat_eq j.owner o && (covers j a && t)) (ap (λ t. t && prevails rs o a j.class) (joins o a j.class b r) ∙ sym (and_assoc (leads b o j.class) (yields_not o a j.class r) (prevails rs o a j.class)))) rs)
    ∙ sym (or_assoc (won b o && (yields_not o a (class_of b) r && prevails rs o a (class_of b))) (nat_eq r.owner o && (covers r a && (leads b o r.class && (yields_not o a r.class r && prevails rs o a r.class))))
    (list_any (λ j. nat_eq j.owner o && (covers j a && (leads b o j.class && (yields_not o a j.class r && prevails rs o a j.class)))) rs))

pub won_is : (o : ℕ) (a : Addr) (rs : List Run) → won (best_at a rs) o ≡ wins rs o a
unfolding best_at wins won champion is_owner leads
won_is o a rs = won_fold o a None rs

-- who wins, by the best that was found
pub champion_wins : (o : ℕ) (a : Addr) (rs : List Run) (b : Option Best) (w : Option ℕ) → best_at a rs ≡ b → w ≡ champion b → (wins rs o a ≡ true → w ≡ Some o) × (w ≡ Some o → wins rs o a ≡ true)
unfolding won
champion_wins o a rs b w e f = (
  λ h. f ∙ owner_is (champion b) o (ap (λ x. won x o) (sym e) ∙ won_is o a rs ∙ h),
  λ h. sym (won_is o a rs) ∙ ap (λ x. won x o) e ∙ is_own (champion b) o (sym f ∙ h),
)

pub wins_is : (o : ℕ) (a : Addr) (rs : List Run) (b : Option Best) (w : Bool) → best_at a rs ≡ b → w ≡ won b o → wins rs o a ≡ w
wins_is o a rs b w e f = sym (won_is o a rs) ∙ ap (λ x. won x o) e ∙ sym f
