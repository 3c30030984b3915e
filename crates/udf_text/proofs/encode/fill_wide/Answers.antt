-- Each turn writes one character's units.
use Rattle.std.proofs.Common.{◌≡◌, ℕ, length-set, arith, ap, refl, sym, map-id, ◌∷◌, [], ◌++◌, ◌∙◌, length}
use Rattle.std.specs.Str.{chars}
use Rattle.std.proofs.lemmas.Iterator.{YieldsList-from_chars}
use Rattle.std.proofs.lemmas.Iterator.Consumers.{YieldsList-turn, YieldsList-end}
use Rattle.std.proofs.lemmas.List.{take_all, take_more_set}
use Rattle.udf_text.specs.Compressed.{wide}
use Rattle.udf_text.proofs.Fronts.{front_more}
use Rattle.udf_text.proofs.Turns.{place_more, room, wide-append}
use Rattle.udf_text.proofs.encode.fill_wide.Goals as goal

pub loop-c-init : goal.loop-c-init
unfolding wide
loop-c-init c = record { passed = refl; place = refl; written = take_more_set c.args.into.now 0 16 (omega arith) }

pub put_character-at-requires : goal.put_character-at-requires
put_character-at-requires c =
    let t = YieldsList-turn (YieldsList-from_chars c.args.text.now c.utf8.text cc) c.loop-c.yielded _ c.loop-c.yielded_by _ _ c.in-Some.c c.in-Some.is c.next.ensures.steps in
    omega (arith, length-set {A = ℕ}, room _ _ c.in-Some.c (front_more _ _ _ c.loop-c.invariant.passed t))

pub loop-c-preserved : goal.loop-c-preserved
loop-c-preserved c =
    let t = YieldsList-turn (YieldsList-from_chars c.args.text.now c.utf8.text cc) c.loop-c.yielded _ c.loop-c.yielded_by _ _ c.in-Some.c c.in-Some.is c.next.ensures.steps in
    record {
      passed = front_more _ _ _ c.loop-c.invariant.passed t;
      place = omega (arith, place_more c.loop-c.yielded c.in-Some.c);
      written = c.put_character-at.ensures.written ∙ ap (λ l. l ++ wide (c.in-Some.c ∷ [])) c.loop-c.invariant.written ∙ ap (λ l. 16 ∷ l) (sym (wide-append c.loop-c.yielded (c.in-Some.c ∷ [])));
    }

pub returns : goal.returns
returns c =
    let end = YieldsList-end (YieldsList-from_chars c.args.text.now c.utf8.text cc) c.loop-c.yielded _ c.loop-c.yielded_by _ _ c.in-None.is c.next.ensures.steps in
    let all : c.loop-c.yielded ≡ chars c.args.text.now = sym (map-id c.loop-c.yielded) ∙ end.0 in
    sym (take_all c.loop-c.at c.loop-c.into (omega (arith, length-set {A = ℕ}, ap (λ l. length (wide l)) all))) ∙ c.loop-c.invariant.written ∙ ap (λ l. 16 ∷ wide l) all
