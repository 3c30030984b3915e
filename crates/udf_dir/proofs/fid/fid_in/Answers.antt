-- Where a FID begins, it is in the bytes.
use Rattle.std.proofs.Common.{arith, sym, ◌∙◌, ap, length}
use Rattle.udf_file_model.specs.Fid.{fid_length}
use Rattle.udf_dir.proofs.Beginning.{begins_within, begins_long, cut_length, fid_there, none_there}
use Rattle.udf_dir.proofs.fid.fid_in.Goals as goal

pub length_of-requires : goal.length_of-requires
length_of-requires c = begins_long c.args.size c.args.bytes.now (sym c.if-begins_with_fid.ensures)

pub split_at-requires : goal.split_at-requires
split_at-requires c = omega (arith, c.length_of.ensures, begins_within c.args.size c.args.bytes.now (sym c.if-begins_with_fid.ensures))

pub invariant_of-result : goal.invariant_of-result
invariant_of-result c =
    ap length c.split_at.ensures.front
    ∙ cut_length c.args.size c.args.bytes.now c.length_of.result (sym c.if-begins_with_fid.ensures) c.length_of.ensures
    ∙ ap fid_length (sym c.split_at.ensures.front)

pub returns-then-begins_with_fid : goal.returns-then-begins_with_fid
returns-then-begins_with_fid c =
    fid_there c.args.size c.args.bytes.now c.split_at.result.0.now c.length_of.result (sym c.if-begins_with_fid.ensures) c.length_of.ensures c.split_at.ensures.front

pub returns-else-begins_with_fid : goal.returns-else-begins_with_fid
returns-else-begins_with_fid c = none_there c.args.size c.args.bytes.now (sym c.if-begins_with_fid.ensures)
