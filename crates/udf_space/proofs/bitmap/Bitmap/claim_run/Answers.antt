use Rattle.std.proofs.Common.{arith, ap, sym, subst, ◌∙◌, ◌+◌, ◌≤◌, ◌++◌, length, take, drop, replicate, false}
use Rattle.std.proofs.lemmas.List.{with_items_is}
use Rattle.udf_space.specs.Bits.{bits_of}
use Rattle.udf_space.specs.Stored.{Clears, IsStored}
use Rattle.udf_space.proofs.Packing.{bits_length}
use Rattle.udf_space.proofs.Clearing.{run_bits, run_stored}
use Rattle.udf_space.proofs.bitmap.Bitmap.claim_run.Goals as goal

pub overflow_add-block : goal.overflow_add-block
overflow_add-block c = omega (arith, c.requires, bits_length c.self.inside.blocks c.self.inside.bytes.items, ap length c.self.view_is, c.self.ranges)

pub clear_run-requires-clause-within : goal.clear_run-requires-clause-within
clear_run-requires-clause-within c =
    omega (arith, c.requires, bits_length c.self.inside.blocks c.self.inside.bytes.items, ap length c.self.view_is, c.self.invariant.long, ap length c.deref_mut.ensures.value)

pub invariant_of-self : goal.invariant_of-self
invariant_of-self c =
    let blocks = c.self.inside.blocks in
    let items = c.self.inside.bytes.items in
    let within : c.args.block + c.args.blocks ≤ blocks = omega (arith, c.requires, bits_length blocks items, ap length c.self.view_is) in
    let clears : Clears c.args.block (c.args.block + c.args.blocks) items c.clear_run.new.bytes =
    subst (λ xs. Clears c.args.block (c.args.block + c.args.blocks) xs c.clear_run.new.bytes) c.deref_mut.ensures.value c.clear_run.ensures.clears in
    subst (IsStored blocks) (sym (with_items_is c.self.inside.bytes c.clear_run.new.bytes (omega (arith, clears.long, c.self.inside.bytes.ok.0))))
    (run_stored blocks c.args.block (c.args.block + c.args.blocks) items c.clear_run.new.bytes within c.clear_run.ensures.bytes c.self.invariant clears)

pub returns : goal.returns
returns c =
    let blocks = c.self.inside.blocks in
    let items = c.self.inside.bytes.items in
    let within : c.args.block + c.args.blocks ≤ blocks = omega (arith, c.requires, bits_length blocks items, ap length c.self.view_is) in
    let clears : Clears c.args.block (c.args.block + c.args.blocks) items c.clear_run.new.bytes =
    subst (λ xs. Clears c.args.block (c.args.block + c.args.blocks) xs c.clear_run.new.bytes) c.deref_mut.ensures.value c.clear_run.ensures.clears in
    ap (bits_of blocks) (with_items_is c.self.inside.bytes c.clear_run.new.bytes (omega (arith, clears.long, c.self.inside.bytes.ok.0)))
    ∙ run_bits blocks c.args.block c.args.blocks items c.clear_run.new.bytes within clears
    ∙ ap (λ bits. take c.args.block bits ++ replicate c.args.blocks false ++ drop (c.args.block + c.args.blocks) bits) c.self.view_is
