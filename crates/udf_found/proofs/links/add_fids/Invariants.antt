use Rattle.std.specs.BTreeMap.{get}
use Rattle.std.specs.Prelude.{Option}
use Rattle.udf_field.specs.declared.address.Addr.{Addr}
use Rattle.udf_file_model.specs.Name.{canonical_cmp}
use Rattle.udf_file_model.specs.Scan.{fids}
use Rattle.udf_tree_model.specs.Link.{pointer_links}
use Rattle.udf_found.specs.Linked.{AreLines}
use Rattle.udf_found.proofs.Lines.{InScan, IsPast}
use Rattle.udf_found.proofs.links.add_fids.Given as goal

abbrev pub invariant-loop-at : goal.invariant-loop-at
invariant-loop-at l = record {
  past : IsPast (fids l.size l.content) l.at-iterator;
  told : (o : Option Addr) → AreLines (pointer_links o) l.initial.links.items → InScan o (fids l.size l.content) l.at-iterator (get canonical_cmp l.seen) l.links.items;
}
