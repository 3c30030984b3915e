use Rattle.std.proofs.Common.{arith, sym, ap, subst, ◌∙◌, ◌≡◌, ℕ, ◌+◌, ◌-◌, ◌*◌, ◌<◌, Option, inl, inr}
use Rattle.std.specs.Prelude.{IsSome}
use Rattle.std.specs.Ordering.{nat_cmp}
use Rattle.std.specs.BTreeMap.{get}
use Rattle.std.proofs.lemmas.Bool.{cases_lt}
use Rattle.udf_claims.specs.Telling.{by_class}
use Rattle.udf_claims.proofs.Sharing.{quiet_below, top_some, top_none, none_is}
use Rattle.udf_claims.proofs.pieces.piece_at.Goals as goal

pub returns-then-is_some-clause-top : goal.returns-then-is_some-clause-top
returns-then-is_some-clause-top c = λ q l h.
    let class : ℕ = c.in-Some.class in
    let near : q < c.change_after.result - class * 281474976710656 = omega (arith, c.change_after-then-is_some.ensures.end) in
    let small : q < 281474976710656 = omega (arith, c.change_after.ensures.end) in
    let same : by_class c.args.latest.now q class ≡ c.value_at.result = c.change_after.ensures.same (class * 281474976710656 + q) (omega arith) (omega arith) ∙ sym c.value_at.ensures in
    let P : Option ℕ → Type 0 = λ o. IsSome o in
    top_some (by_class c.args.latest.now q) (by_class c.args.sole.now q) class c.value_at-then-is_some.result c.in-Some.ensures.high
    (quiet_below (get nat_cmp c.args.latest.now) c.loop-class.next class q c.requires.edges c.loop-class.invariant.class c.in-Some.ensures.none small (λ d m. c.loop-class.invariant.quiet d q m l (omega arith)))
    (subst P (sym same) (sym c.is_some.ensures ∙ c.if-is_some.true))
    (c.change_after-then-is_some.ensures.same (class * 281474976710656 + q) (omega arith) (omega arith) ∙ sym c.value_at-then-is_some.ensures)

pub loop-class-preserved : goal.loop-class-preserved
loop-class-preserved c = record {
  class = omega (arith, c.in-Some.ensures.high);
  low = omega (arith, c.change_after.ensures.after);
  high = omega (arith, c.change_after.ensures.end);
  quiet = λ d q m l h.
      let class : ℕ = c.in-Some.class in
      let small : q < 281474976710656 = omega (arith, c.change_after.ensures.end) in
      let near : q < c.loop-class.end = omega (arith, c.change_after.ensures.end) in
      elim (cases_lt d class) [
        | inl n ↦ quiet_below (get nat_cmp c.args.latest.now) c.loop-class.next class q c.requires.edges c.loop-class.invariant.class c.in-Some.ensures.none small (λ e o. c.loop-class.invariant.quiet e q o l near) d n
        | inr n ↦ let e : d ≡ class = omega arith in ap (by_class c.args.latest.now q) e ∙ c.change_after.ensures.same (class * 281474976710656 + q) (omega arith) (omega arith) ∙ sym c.value_at.ensures
            ∙ none_is c.value_at.result (sym c.is_some.ensures ∙ c.if-is_some.false)
      ];
}

pub returns-clause-top : goal.returns-clause-top
returns-clause-top c = λ q l h. let small : q < 281474976710656 = omega arith in
    top_none (by_class c.args.latest.now q) (by_class c.args.sole.now q)
    (quiet_below (get nat_cmp c.args.latest.now) c.loop-class.next 256 q c.requires.edges c.loop-class.invariant.class c.in_default.ensures small (λ d m. c.loop-class.invariant.quiet d q m l h))
