use Rattle.std.proofs.Common.{arith}
use Rattle.std.specs.BTreeMap.{get}
use Rattle.std.specs.Prelude.{get_or}
use Rattle.udf_field.specs.declared.address.Addr.{Addr}
use Rattle.udf_file_model.specs.Address.{addr}
use Rattle.udf_found.specs.Order.{addr_cmp}
use Rattle.udf_dues.proofs.Elements.{read_at}
use Rattle.udf_tree.proofs.Naming.{numbering_next}
use Rattle.udf_tree.proofs.numbers.numbers_of.Goals as goal

pub loop-i-preserved : goal.loop-i-preserved
loop-i-preserved c =
    let b : Addr = get_or c.args.addresses.now c.loop-i.i (addr 0 0) in
    record {
      numbers_are = numbering_next c.args.addresses.now c.loop-i.i b c.in_ok-number_at.field-0 (get addr_cmp c.loop-i.numbers) (get addr_cmp c.insert.new.self) c.loop-i-test.true
          (read_at c.args.addresses.now c.loop-i.i (addr 0 0) b c.loop-i-test.true) c.in_ok-number_at.ensures.number c.loop-i.invariant.numbers_are c.in_ok-insert.ensures.updates.0;
      few = let n = c.in_ok-number_at.ensures.few in omega (arith, n);
    }

pub returns-clause-few : goal.returns-clause-few
returns-clause-few c = let n = c.loop-i.invariant.few in let l = c.loop-i-test.false in omega (arith, n, l)
