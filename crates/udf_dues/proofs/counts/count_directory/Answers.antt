use Rattle.std.proofs.Common.{◌≡◌, ◌++◌, List, Some, refl, rules}
use Rattle.std.specs.Prelude.{slice_get}
use Rattle.std.specs.BTreeMap.{get}
use Rattle.std.specs.List.{flat_map}
use Rattle.std.proofs.lemmas.Option.{slice_get_read, slice_get_past}
use Rattle.udf_kept.specs.declared.fitted.Selected.{Selected}
use Rattle.udf_dues.specs.Marks.{Mark, fid_mark, parent_marks}
use Rattle.udf_found.specs.Order.{addr_cmp}
use Rattle.udf_dues.proofs.Tallying.{directory_counted, no_entry, no_mark, no_parent}
use Rattle.udf_dues.proofs.counts.count_directory.Goals as goal

pub returns-in_default : goal.returns-in_default
returns-in_default c ms h = no_mark ms _ c.args.counts.now (no_parent (get addr_cmp c.args.positions.now) c.args.selected.now c.args.position c.args.parent c.in_default.is) h

pub returns-in_default-get : goal.returns-in_default-get
returns-in_default-get c ms h =
    no_mark ms _ c.args.counts.now
    (no_entry (get addr_cmp c.args.positions.now) c.args.selected.now c.args.position c.args.parent (slice_get_past c.args.selected.now c.args.position c.in_default-get.ensures.lookup.3)) h

pub returns : goal.returns
returns c ms h =
    let x : Selected = c.in-Some-get.entry.now in
    let there : slice_get c.args.selected.now c.args.position ≡ Some x =
    slice_get_read c.args.selected.now _ c.args.position x refl c.in-Some-get.ensures.lookup.3.0 c.in-Some-get.ensures.lookup.1 in
    let to : c.copied.result ≡ get addr_cmp c.args.positions.now c.in-Some.parent = search rules in
    let fids : List Mark = ms ++ flat_map fid_mark c.deref.result.now in
    directory_counted (get addr_cmp c.args.positions.now) c.args.selected.now c.args.position c.args.parent c.in-Some.parent x c.deref.result.now c.is_pointer-is_stream.result c.copied.result ms c.count_pointer.new.counts
    c.in-Some.is there c.deref.ensures.value c.is_pointer-is_stream.ensures to
    (c.count_pointer.ensures (fids ++ parent_marks c.is_pointer-is_stream.result c.copied.result) (c.count_parent.ensures fids (c.count_fids.ensures ms h)))
