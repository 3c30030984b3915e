use Rattle.std.proofs.Common.{◌≡◌, ◌+◌, ℕ, length, arith, ◌∙◌, ap}
use Rattle.udf_outside.specs.Stops.{Held, bytes_of, slice_of}
use Rattle.udf_outside.specs.declared.bench.Role.TheVariants.{Side}
use Rattle.udf_redo.proofs.Finding.{head_parts, found}
use Rattle.udf_redo.proofs.record.read_record.Goals as goal

pub place-at-requires : goal.place-at-requires
place-at-requires g c = omega (arith, (head_parts c.args.head.now c.requires.lawful).small)

pub returns-clause-record : goal.returns-clause-record
returns-clause-record g c tells =
    let side = bytes_of Side (g.B.Bench.held c.args.bench.now) in
    let at = c.place-at.result in
    let four : c.read_at.new.into ≡ slice_of side at 4 = c.in_ok-read_at.ensures.bytes tells in
    let block : c.read_at-2.new.into ≡ slice_of side (at + 4) c.args.head.now.size =
    c.in_ok-read_at-2.ensures.bytes tells ∙ ap (λ (h : Held). slice_of (bytes_of Side h) (at + 4) (length c.args.block.now)) c.read_at.ensures.held
    ∙ ap (λ (n : ℕ). slice_of side (at + 4) n) c.requires.room in
    found side c.args.head.now c.args.k at c.read_u32.result c.read_at.new.into c.read_at-2.new.into c.requires.inside c.place-at.ensures four c.read_u32.ensures block
