use Rattle.std.proofs.Common.{◌+◌, ◌++◌, ℕ, List, take}
use Rattle.std.specs.List.{flat_map}
use Rattle.udf_kept.specs.declared.fitted.Fitted.{Fitted}
use Rattle.udf_dues.specs.Marks.{Mark, fid_mark}
use Rattle.udf_dues.proofs.Tallying.{fids_more, marks_joined}
use Rattle.udf_dues.proofs.counts.count_fids.Goals as goal

pub loop-link-preserved : goal.loop-link-preserved
loop-link-preserved c ms h =
    let fs : List Fitted = c.args.links.now in
    let i : ℕ = c.loop-link.link-index in
    let before : List Mark = flat_map fid_mark (take i fs) in
    marks_joined ms before _ (flat_map fid_mark (take (i + 1) fs)) c.count_fid.new.counts (fids_more fs i (record { place = 0; to = 0 }) c.loop-link-test.true)
    (c.count_fid.ensures (ms ++ before) (c.loop-link.invariant ms h))
