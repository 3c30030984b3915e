use Rattle.std.proofs.Common.{arith, subst, sym, ◌∙◌, ◌≡◌, ◌+◌, ◌-◌, ◌*◌, ◌/◌, ap, set, get_or, min}
use Rattle.udf_space.specs.Stored.{Clears, kept_around}
use Rattle.udf_space.proofs.Clearing.{clears_byte, clears_nothing}
use Rattle.udf_space.proofs.stored.clear_run.Goals as goal

pub loop-i-init : goal.loop-i-init
loop-i-init c = (clears_nothing c.args.start (min (8 * (c.args.start / 8)) c.args.end) c.args.bytes.now (omega arith), λ k. omega (arith, c.type_inv.bytes k))

pub loop-i-preserved : goal.loop-i-preserved
loop-i-preserved c =
    let i = c.loop-i.i in
    let low : c.min-low.result ≡ min (c.args.start - 8 * i) 8 = omega (arith, c.min-low.ensures, c.saturating_sub.ensures) in
    let high : c.min-high.result ≡ min (c.args.end - 8 * i) 8 = omega (arith, c.min-high.ensures) in
    let is = c.clear_between.ensures ∙ ap (λ n. set c.loop-i.bytes i (kept_around (get_or c.loop-i.bytes i 0) n c.min-high.result)) low
    ∙ ap (λ n. set c.loop-i.bytes i (kept_around (get_or c.loop-i.bytes i 0) (min (c.args.start - 8 * i) 8) n)) high in
    let cleared = clears_byte c.args.start c.args.end i c.args.bytes.now c.loop-i.bytes (omega (arith, c.div_ceil-i-end.ensures))
    (omega (arith, c.div_ceil-i-end.ensures, c.requires.within, c.loop-i.invariant.0.long)) c.loop-i.invariant.0 in
    (subst (Clears c.args.start (min (8 * (i + 1)) c.args.end) c.args.bytes.now) (sym is) cleared, λ k. omega (arith, c.type_inv.bytes k))

pub returns-clause-clears : goal.returns-clause-clears
returns-clause-clears c =
    subst (λ n. Clears c.args.start n c.args.bytes.now c.loop-i.bytes)
    (let e : min (8 * c.loop-i.i) c.args.end ≡ c.args.end = omega (arith, c.div_ceil-i-end.ensures) in e) c.loop-i.invariant.0
