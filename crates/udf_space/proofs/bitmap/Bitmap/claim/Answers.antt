use Rattle.std.proofs.Common.{◌≡◌, ◌/◌, ◌%◌, ◌<◌, arith, sym, ap, subst, ◌∙◌, false, length, set, get_or}
use Rattle.std.proofs.lemmas.List.{get_or_read}
use Rattle.udf_space.specs.Bits.{bits_of}
use Rattle.udf_space.specs.Stored.{IsStored}
use Rattle.udf_space.proofs.Packing.{bits_length}
use Rattle.udf_space.proofs.Places.{cleared, claimed_bits, claimed_stored}
use Rattle.udf_space.proofs.bitmap.Bitmap.claim.Goals as goal

pub index_mut-requires : goal.index_mut-requires
index_mut-requires c =
    omega (arith, bits_length c.self.inside.blocks c.self.inside.bytes.items, ap length c.self.view_is, c.self.invariant.long, c.self.inside.bytes.ok.0)

pub invariant_of-self : goal.invariant_of-self
invariant_of-self c =
    let bytes = c.self.inside.bytes.items in
    let b = c.args.block in
    let small : b < c.self.inside.blocks = omega (arith, bits_length c.self.inside.blocks bytes, ap length c.self.view_is) in
    let byte : c.index_mut.result.now ≡ get_or bytes (b / 8) 0 =
    get_or_read bytes (b / 8) c.index_mut.result.now (omega (arith, c.self.invariant.long)) c.index_mut.ensures.value 0 in
    subst (λ x. IsStored c.self.inside.blocks (set bytes (b / 8) (cleared x (b % 8)))) (sym byte)
    (claimed_stored c.self.inside.blocks bytes b small c.self.invariant)

pub returns : goal.returns
returns c =
    let bytes = c.self.inside.bytes.items in
    let b = c.args.block in
    let small : b < c.self.inside.blocks = omega (arith, bits_length c.self.inside.blocks bytes, ap length c.self.view_is) in
    let byte : c.index_mut.result.now ≡ get_or bytes (b / 8) 0 =
    get_or_read bytes (b / 8) c.index_mut.result.now (omega (arith, c.self.invariant.long)) c.index_mut.ensures.value 0 in
    ap (λ x. bits_of c.self.inside.blocks (set bytes (b / 8) (cleared x (b % 8)))) byte
    ∙ claimed_bits c.self.inside.blocks bytes b small c.self.invariant.long ∙ ap (λ bits. set bits b false) c.self.view_is
