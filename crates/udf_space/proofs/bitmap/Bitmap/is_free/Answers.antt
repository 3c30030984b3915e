use Rattle.std.proofs.Common.{◌≡◌, ◌/◌, ◌%◌, ◌<◌, arith, sym, ap, ◌∙◌, false, Some, eqb, length, get_or}
use Rattle.std.proofs.lemmas.List.{get_or_read}
use Rattle.std.proofs.lemmas.Option.{slice_get-get_or}
use Rattle.std.proofs.lemmas.Nat.Bits.{shr_and_one}
use Rattle.std.specs.Int.{bit_at}
use Rattle.udf_space.proofs.Packing.{bits_length, bits_get, bit_at_place}
use Rattle.udf_space.proofs.bitmap.Bitmap.is_free.Goals as goal

pub index-byte-requires : goal.index-byte-requires
index-byte-requires c =
    omega (arith, bits_length c.self.inside.blocks c.self.inside.bytes.items, ap length c.self.view_is, c.self.invariant.long, c.self.inside.bytes.ok.0)

pub returns : goal.returns
returns c =
    let bytes = c.self.inside.bytes.items in
    let b = c.args.block in
    let small : b < c.self.inside.blocks = omega (arith, bits_length c.self.inside.blocks bytes, ap length c.self.view_is) in
    let byte : c.index-byte.result.now ≡ get_or bytes (b / 8) 0 =
    get_or_read bytes (b / 8) c.index-byte.result.now (omega (arith, c.self.invariant.long)) c.index-byte.ensures 0 in
    slice_get-get_or c.args.self.now b false c.requires
    ∙ ap Some (ap (λ bits. get_or bits b false) (sym c.self.view_is) ∙ bits_get c.self.inside.blocks bytes b false small
    ∙ bit_at_place bytes (b / 8) (b % 8) b (omega arith) (omega arith)
    ∙ ap (λ x. eqb (bit_at x (b % 8)) 1) (sym byte) ∙ ap (λ n. eqb n 1) (sym (shr_and_one c.index-byte.result.now (b % 8))))
