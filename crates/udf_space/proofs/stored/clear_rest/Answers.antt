use Rattle.std.proofs.Common.{arith, ap, ◌∙◌, sym, subst}
use Rattle.udf_model.specs.Bytes.{IsBytes}
use Rattle.udf_space.specs.Bits.{bits_of}
use Rattle.udf_space.specs.Stored.{IsStored}
use Rattle.udf_space.proofs.Places.{rest_bits, rest_stored, full_stored}
use Rattle.udf_space.proofs.stored.clear_rest.Goals as goal

pub returns-then-used-ne0-clause-stored : goal.returns-then-used-ne0-clause-stored
returns-then-used-ne0-clause-stored c =
    subst (IsStored c.args.blocks) (sym c.keep_below.ensures)
    (rest_stored c.args.blocks c.args.bytes.now c.requires c.if-used-ne0.true
    (subst IsBytes c.keep_below.ensures (λ i. omega (arith, c.type_inv.bytes i))))

pub returns-then-used-ne0-clause-same_bits : goal.returns-then-used-ne0-clause-same_bits
returns-then-used-ne0-clause-same_bits c =
    ap (bits_of c.args.blocks) c.keep_below.ensures ∙ rest_bits c.args.blocks c.args.bytes.now c.requires c.if-used-ne0.true

pub returns-else-used-ne0-clause-stored : goal.returns-else-used-ne0-clause-stored
returns-else-used-ne0-clause-stored c = full_stored c.args.blocks c.args.bytes.now c.requires (λ i. omega (arith, c.type_inv.bytes i)) c.if-used-ne0.false
