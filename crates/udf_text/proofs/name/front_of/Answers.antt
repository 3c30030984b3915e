-- The characters passed fit, and the loop ends at the first that does not, or at the last.
use Rattle.std.proofs.Common.{◌≡◌, [], length, refl, arith, map-id, sym, ap, subst, ◌∙◌}
use Rattle.std.specs.Str.{chars, encode_utf8_all}
use Rattle.std.specs.String.{string_bytes}
use Rattle.std.proofs.lemmas.Iterator.{YieldsList-from_chars}
use Rattle.std.proofs.lemmas.Iterator.Consumers.{YieldsList-turn, YieldsList-end}
use Rattle.std.proofs.lemmas.Str.{chars_from_encodes, IsUtf8-string_bytes}
use Rattle.udf_text.specs.Front.{IsLongestFront}
use Rattle.udf_text.proofs.Fronts.{front_more, few_units, longest_before, longest_all}
use Rattle.udf_text.specs.Compressed.{encoding}
use Rattle.udf_text.proofs.Lengths.{length_none}
use Rattle.udf_text.proofs.Texts.{encodes_push}
use Rattle.udf_text.proofs.name.front_of.Goals as goal

pub loop-c-init : goal.loop-c-init
loop-c-init c = record {
  size = c.empty-size.ensures;
  passed = refl;
  pushed = c.new-front.ensures.bytes;
  fits = omega (arith, length_none [] refl);
}

pub with-size-requires : goal.with-size-requires
with-size-requires c = omega (arith, few_units c.args.text.now _ _ c.utf8.text c.loop-c.invariant.size c.loop-c.invariant.passed)

pub bytes-requires : goal.bytes-requires
bytes-requires c =
    let t = YieldsList-turn (YieldsList-from_chars c.args.text.now c.utf8.text cc) c.loop-c.yielded _ c.loop-c.yielded_by _ _ c.in-Some.c c.in-Some.is c.next.ensures.steps in
    omega (arith, few_units c.args.text.now _ _ c.utf8.text (c.with-size.ensures _ c.loop-c.invariant.size) (front_more _ _ _ c.loop-c.invariant.passed t))

pub returns-then-bytes : goal.returns-then-bytes
returns-then-bytes c =
    let t = YieldsList-turn (YieldsList-from_chars c.args.text.now c.utf8.text cc) c.loop-c.yielded _ c.loop-c.yielded_by _ _ c.in-Some.c c.in-Some.is c.next.ensures.steps in
    let next = front_more _ _ _ c.loop-c.invariant.passed t in
    let over = c.bytes.ensures _ (c.with-size.ensures _ c.loop-c.invariant.size) in
    subst (IsLongestFront (chars c.args.text.now) c.args.bytes)
    (chars_from_encodes c.loop-c.yielded (string_bytes c.loop-c.front) (IsUtf8-string_bytes c.loop-c.front) (sym c.loop-c.invariant.pushed))
    (longest_before _ _ c.in-Some.c _ c.loop-c.invariant.passed next c.loop-c.invariant.fits (omega (arith, over, c.if-bytes.true)))

pub loop-c-preserved : goal.loop-c-preserved
loop-c-preserved c =
    let t = YieldsList-turn (YieldsList-from_chars c.args.text.now c.utf8.text cc) c.loop-c.yielded _ c.loop-c.yielded_by _ _ c.in-Some.c c.in-Some.is c.next.ensures.steps in
    let size = c.with-size.ensures _ c.loop-c.invariant.size in
    let room = c.bytes.ensures _ size in
    record {
      size = size;
      passed = front_more _ _ _ c.loop-c.invariant.passed t;
      pushed = encodes_push _ _ _ c.in-Some.c c.loop-c.invariant.pushed c.in_ok-push.ensures.bytes;
      fits = omega (arith, room);
    }

pub returns : goal.returns
returns c =
    let end = YieldsList-end (YieldsList-from_chars c.args.text.now c.utf8.text cc) c.loop-c.yielded _ c.loop-c.yielded_by _ _ c.in-None.is c.next.ensures.steps in
    let all : c.loop-c.yielded ≡ chars c.args.text.now = sym (map-id c.loop-c.yielded) ∙ end.0 in
    let front = chars_from_encodes (chars c.args.text.now) (string_bytes c.loop-c.front) (IsUtf8-string_bytes c.loop-c.front) (sym (c.loop-c.invariant.pushed ∙ ap encode_utf8_all all)) in
    subst (IsLongestFront (chars c.args.text.now) c.args.bytes) front (longest_all _ _ (omega (arith, c.loop-c.invariant.fits, ap (λ l. length (encoding l)) all)))
