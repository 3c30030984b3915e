use Rattle.std.proofs.Common.{◌≡◌, List, Option, Vec, Global, sym, length, subst}
use Rattle.std.specs.BTreeMap.{get}
use Rattle.udf_field.specs.declared.address.Addr.{Addr}
use Rattle.udf_dues.specs.declared.counts.Count.{Count}
use Rattle.udf_dues.specs.Counts.{AreCounts}
use Rattle.udf_dues.specs.Marks.{AreMarked, marks_below}
use Rattle.udf_dues.specs.NamedParents.{AreNamed}
use Rattle.udf_found.specs.Order.{addr_cmp}
use Rattle.udf_dues.proofs.Balancing.{are_counts}
use Rattle.udf_dues.proofs.HeldBytes.{held_bytes}
use Rattle.udf_dues.proofs.KeptParents.{directory_is, names_at}
use Rattle.udf_dues.proofs.Tallying.{from_both}
use Rattle.udf_dues.proofs.counts.counts_of.Goals as goal

pub returns : goal.returns
returns c f v root file_set size set starts held selected kept contents =
    let bytes = held_bytes f v size c.args.held.now held in
    let ps : List (Option Addr) = c.deref.result.now in
    let named : AreNamed c.args.root c.args.file_set c.args.held.now c.args.kept.now c.args.contents.now ps =
    subst (λ (qs : List (Option Addr)). AreNamed c.args.root c.args.file_set c.args.held.now c.args.kept.now c.args.contents.now qs) (sym c.deref.ensures.value) c.in_ok-parents.ensures in
    from_both c.count_all.result
    (λ (cs : Vec Count Global). length cs.items ≡ length ps)
    (λ (cs : Vec Count Global). AreMarked (marks_below (get addr_cmp c.in_ok-positions.positions) c.args.selected.now ps (length ps)) cs.items)
    (λ (cs : Vec Count Global). AreCounts f v c.args.held.now cs.items)
    (λ cs long marked.
    are_counts f v starts c.args.held.now held c.args.selected.now selected (get addr_cmp c.in_ok-positions.positions) c.in_ok-positions.ensures ps (directory_is f v starts set c.args.held.now held)
    named.len (names_at f v starts set c.args.held.now held c.args.kept.now kept size bytes c.args.contents.now contents c.args.root c.args.file_set root file_set ps named) cs.items long marked)
    c.count_all.ensures.len c.count_all.ensures.marked
