-- The two values of each number after one want more, and the least class that is wanted.
use Rattle.std.proofs.Common.{◌≡◌, ℕ, ◌+◌, ◌*◌, ◌<◌, ◌≤◌, Bool, true, false, ◌&&◌, cond, Option, Some, None, nat_eq, nat_lt, nat_le, refl, sym, ap, subst, ◌∙◌, inl, inr, zero, suc, arith}
use Rattle.std.specs.Prelude.{IsSome, is_some}
use Rattle.std.specs.Option.{option_eq}
use Rattle.std.proofs.lemmas.Bool.{cases_lt, cases_order}
use Rattle.std.proofs.lemmas.Bool.Decides.{nat_tests}
use Rattle.udf_claims.specs.declared.best.Best.{Best}
use Rattle.udf_claims.specs.Shares.{IsTop, sole_after}
use Rattle.udf_claims.specs.Best.{is_owner}
use Rattle.udf_claims.specs.Standing.{standing, HasNone}
use Rattle.udf_claims.proofs.Standing.{is_in, is_below, is_above, standing_same, standing_none}

module _ {X : Type 0} where
  -- values that a run changes, as far as the run was passed: one stretch more, on which what they go by is the same
  pub stretch_more : (j : X → X → X) (l s0 s1 s2 s3 : ℕ → X) (lo next end : ℕ) → lo ≤ next → next < end → ((q : ℕ) → next ≤ q → q < end → l q ≡ l next)
      → ((q : ℕ) → s1 q ≡ cond (nat_le lo q && nat_lt q next) (j (l q) (s0 q)) (s0 q)) → ((q : ℕ) → s2 q ≡ cond (nat_le next q && nat_lt q end) (j (l next) (s1 q)) (s1 q)) → ((q : ℕ) → s3 q ≡ s2 q)
      → (q : ℕ) → s3 q ≡ cond (nat_le lo q && nat_lt q end) (j (l q) (s0 q)) (s0 q)
  stretch_more j l s0 s1 s2 s3 lo next end le up same was now kept q = kept q ∙ now q ∙ elim (cases_lt q next) [
    | inl m ↦ rw (is_below next end q m) (was q ∙ elim (cases_lt q lo) [
      | inl n ↦ rw (is_below lo next q n) (rw (is_below lo end q n) refl)
      | inr n ↦ rw (is_in lo next q n m) (rw (is_in lo end q n (omega arith)) refl)
    ])
    | inr g ↦ elim (cases_lt q end) [
      | inl m ↦ rw (is_in next end q g m) (rw (is_in lo end q (omega arith) m) (ap (j (l next)) (was q ∙ rw (is_above lo next q g) refl) ∙ ap (λ x. j x (s0 q)) (sym (same q g m))))
      | inr m ↦ rw (is_above next end q m) (rw (is_above lo end q m) (was q ∙ rw (is_above lo next q g) refl))
    ]
  ]

  pub stretch_none : (lo q : ℕ) (u v : X) → v ≡ cond (nat_le lo q && nat_lt q lo) u v
  stretch_none lo q u v = elim (cases_lt q lo) [ inl l ↦ rw (is_below lo lo q l) refl | inr l ↦ rw (is_above lo lo q l) refl ]

  pub stretch_at : (lo hi q : ℕ) (u v w : X) → lo ≡ hi → w ≡ v → w ≡ cond (nat_le lo q && nat_lt q hi) u v
  stretch_at lo hi q u v w e f = f ∙ stretch_none lo q u v ∙ ap (λ h. cond (nat_le lo q && nat_lt q h) u v) e

pub same_owner : (a b : Option ℕ) → option_eq nat_eq a b ≡ true → a ≡ b
same_owner None None e = refl
same_owner None (Some y) e = cc
same_owner (Some x) None e = cc
same_owner (Some x) (Some y) e = let s : x ≡ y = grind (arith, nat_tests) in ap Some s

pub none_is : (o : Option ℕ) → is_some o ≡ false → o ≡ None
none_is None e = refl
none_is (Some x) e = cc

-- who wants a number alone after one want more, by who wanted it last
pub first_want : (o : ℕ) (last s : Option ℕ) → last ≡ None → Some o ≡ sole_after o last s
unfolding sole_after
first_want o last s e = ap (λ w. sole_after o w s) (sym e)

pub other_want : (o p : ℕ) (last s : Option ℕ) → last ≡ Some p → (p ≡ o → ⊥) → None ≡ sole_after o last s
unfolding sole_after is_owner
other_want o p last s e n = ap (λ t. cond t s None) {x = false} {y = nat_eq p o} (grind (arith, nat_tests)) ∙ ap (λ w. sole_after o w s) (sym e)

pub own_want : (o p : ℕ) (last s : Option ℕ) → last ≡ Some p → p ≡ o → s ≡ sole_after o last s
unfolding sole_after is_owner
own_want o p last s e n = ap (λ t. cond t s None) {x = true} {y = nat_eq p o} (grind (arith, nat_tests)) ∙ ap (λ w. sole_after o w s) (sym e)

pub kept_want : (t : Bool) (u v : Option ℕ) → v ≡ u → v ≡ cond t u v
kept_want true u v e = e
kept_want false u v e = refl

-- the classes between have nobody, since no key lies there and the last place of the class below has nobody
pub quiet : (f : ℕ → Option (Option ℕ)) (from class : ℕ) → ((c : ℕ) → c < 256 → standing f None (c * 281474976710656 + 281474976710655) ≡ None) → from ≤ 256
    → HasNone f (from * 281474976710656) (class * 281474976710656) → (c x : ℕ) → from ≤ c → c < class → x < 281474976710656 → standing f None (c * 281474976710656 + x) ≡ None
quiet f zero class edge low none c x l m h = standing_none f None (c * 281474976710656 + x) (λ q n. none q (omega arith) (omega arith))
quiet f (suc d) class edge low none c x l m h =
    standing_same f None (d * 281474976710656 + 281474976710655) (class * 281474976710656) (λ q n o. none q (omega arith) o) (c * 281474976710656 + x) (omega arith) (omega arith)
    ∙ edge d (omega arith)

-- so all classes below have nobody, where those did that were looked at
pub quiet_below : (f : ℕ → Option (Option ℕ)) (from class x : ℕ) → ((c : ℕ) → c < 256 → standing f None (c * 281474976710656 + 281474976710655) ≡ None) → from ≤ 256
    → HasNone f (from * 281474976710656) (class * 281474976710656) → x < 281474976710656 → ((c : ℕ) → c < from → standing f None (c * 281474976710656 + x) ≡ None)
    → (c : ℕ) → c < class → standing f None (c * 281474976710656 + x) ≡ None
quiet_below f from class x edge low none small was c h = elim (cases_lt c from) [
  | inl m ↦ was c m
  | inr m ↦ quiet f from class edge low none c x m h small
]

-- a class of which somebody has wants is the least, where the classes below have none
pub top_some : (L S : ℕ → Option ℕ) (class : ℕ) (owner : Option ℕ) → class < 256 → ((c : ℕ) → c < class → L c ≡ None) → IsSome (L class) → S class ≡ owner → IsTop L S (Some (record { class = class; owner = owner }))
top_some L S class owner low lower here sole = record {
  free = λ e c h. absurd (cc);
  low = λ b e. let s : record { class = class; owner = owner } ≡ b = cc in let P : Best → Type 0 = λ b. b.class < 256 in subst P s low;
  lower = λ b e. let s : record { class = class; owner = owner } ≡ b = cc in let P : Best → Type 0 = λ b. (c : ℕ) → c < b.class → L c ≡ None in subst P s lower;
  here = λ b e. let s : record { class = class; owner = owner } ≡ b = cc in let P : Best → Type 0 = λ b. IsSome (L b.class) in subst P s here;
  owner = λ b e. let s : record { class = class; owner = owner } ≡ b = cc in let P : Best → Type 0 = λ b. S b.class ≡ b.owner in subst P s sole;
}

pub top_none : (L S : ℕ → Option ℕ) → ((c : ℕ) → c < 256 → L c ≡ None) → IsTop L S None
top_none L S none = record {
  free = λ e. none;
  low = λ b e. absurd (cc);
  lower = λ b e. absurd (cc);
  here = λ b e. absurd (cc);
  owner = λ b e. absurd (cc);
}

clash : (o : Option ℕ) → o ≡ None → IsSome o → ⊥
clash None e h = cc
clash (Some x) e h = cc

-- there is one least class that is wanted
pub top_is : (L S : ℕ → Option ℕ) (b d : Option Best) → IsTop L S b → IsTop L S d → b ≡ d
top_is L S None None t u = refl
top_is L S None (Some y) t u = absurd (clash (L y.class) (t.free refl y.class (u.low y refl)) (u.here y refl))
top_is L S (Some x) None t u = absurd (clash (L x.class) (u.free refl x.class (t.low x refl)) (t.here x refl))
top_is L S (Some x) (Some y) t u = elim (cases_order x.class y.class) [
  | inl e ↦ let f : x.owner ≡ y.owner = sym (t.owner x refl) ∙ ap S e ∙ u.owner y refl in ap Some (both e f)
  | inr (inl l) ↦ absurd (clash (L x.class) (u.lower y refl x.class l) (t.here x refl))
  | inr (inr l) ↦ absurd (clash (L y.class) (t.lower x refl y.class l) (u.here y refl))
]
  where
    both : x.class ≡ y.class → x.owner ≡ y.owner → x ≡ y
    both e f = ap (λ (c : ℕ). record { class = c; owner = x.owner }) e ∙ ap (λ (w : Option ℕ). record { class = y.class; owner = w }) f
