-- Each turn writes one character, which is a byte.
use Rattle.std.proofs.Common.{ℕ, length-set, arith, ap, refl, sym, map-id, ◌∷◌, [], ◌++◌, ◌∙◌, length}
use Rattle.std.specs.Str.{chars}
use Rattle.std.proofs.lemmas.Iterator.{YieldsList-from_chars}
use Rattle.std.proofs.lemmas.Iterator.Consumers.{YieldsList-turn, YieldsList-end}
use Rattle.std.proofs.lemmas.List.{take_more_set, length_push, take_all}
use Rattle.udf_text.proofs.Turns.{narrow_at}
use Rattle.udf_text.proofs.encode.fill_narrow.Goals as goal

pub loop-c-init : goal.loop-c-init
loop-c-init c = record { place = refl; written = take_more_set c.args.into.now 0 8 (omega arith) }

pub overflow_cast-into : goal.overflow_cast-into
overflow_cast-into c =
    let t = YieldsList-turn (YieldsList-from_chars c.args.text.now c.utf8.text cc) c.loop-c.yielded _ c.loop-c.yielded_by _ _ c.in-Some.c c.in-Some.is c.next.ensures.steps in
    omega (arith, t.1, narrow_at (chars c.args.text.now) (length c.loop-c.yielded) c.in-Some.c c.requires.0 t.0)

pub bounds-into-at : goal.bounds-into-at
bounds-into-at c =
    let t = YieldsList-turn (YieldsList-from_chars c.args.text.now c.utf8.text cc) c.loop-c.yielded _ c.loop-c.yielded_by _ _ c.in-Some.c c.in-Some.is c.next.ensures.steps in
    omega (arith, length-set {A = ℕ}, t.0)

pub loop-c-preserved : goal.loop-c-preserved
loop-c-preserved c =
    let t = YieldsList-turn (YieldsList-from_chars c.args.text.now c.utf8.text cc) c.loop-c.yielded _ c.loop-c.yielded_by _ _ c.in-Some.c c.in-Some.is c.next.ensures.steps in
    record {
      place = omega (arith, length_push c.loop-c.yielded c.in-Some.c);
      written = take_more_set c.loop-c.into c.loop-c.at c.in-Some.c (omega (arith, length-set {A = ℕ}, t.0)) ∙ ap (λ l. l ++ c.in-Some.c ∷ []) c.loop-c.invariant.written;
    }

pub returns : goal.returns
returns c =
    let end = YieldsList-end (YieldsList-from_chars c.args.text.now c.utf8.text cc) c.loop-c.yielded _ c.loop-c.yielded_by _ _ c.in-None.is c.next.ensures.steps in
    sym (take_all c.loop-c.at c.loop-c.into (omega (arith, length-set {A = ℕ}, end.1))) ∙ c.loop-c.invariant.written ∙ ap (λ l. 8 ∷ l) (sym (map-id c.loop-c.yielded) ∙ end.0)
