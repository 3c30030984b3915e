-- Behind a FID the rest decides, and where no FID begins only the end is whole.
use Rattle.std.proofs.Common.{ℕ, List, arith, length, drop, sym, ◌∙◌, ap, refl}
use Rattle.udf_dir.proofs.Wholes.{fid_room, some_passed, whole_back, whole_on, ends}
use Rattle.udf_dir.proofs.content.is_whole.Goals as goal

pub split_at-requires : goal.split_at-requires
split_at-requires c =
    let rest = c.loop-fid.rest.now in
    let room = fid_room c.args.size rest c.in-Some.fid (drop (length c.in-Some.fid) rest) (sym c.in-Some.ensures) refl in
    omega (arith, room, ap length c.bytes.ensures)

pub loop-fid-smaller : goal.loop-fid-smaller
loop-fid-smaller c =
    some_passed c.args.size c.loop-fid.rest.now c.in-Some.fid c.split_at.result.1.now (sym c.in-Some.ensures)
    (c.split_at.ensures.back ∙ ap (λ (xs : List ℕ). drop (length xs) c.loop-fid.rest.now) c.bytes.ensures)

pub loop-fid-preserved : goal.loop-fid-preserved
loop-fid-preserved c =
    let behind = c.split_at.ensures.back ∙ ap (λ (xs : List ℕ). drop (length xs) c.loop-fid.rest.now) c.bytes.ensures in
    record {
      forth = λ h. c.loop-fid.invariant.forth
          (whole_back c.args.size c.loop-fid.rest.now c.in-Some.fid c.split_at.result.1.now (sym c.in-Some.ensures) behind h);
      back = λ h. whole_on c.args.size c.loop-fid.rest.now c.in-Some.fid c.split_at.result.1.now (sym c.in-Some.ensures) behind
          (c.loop-fid.invariant.back h);
    }

pub returns : goal.returns
returns c =
    let end = ends c.args.size c.loop-fid.rest.now c.is_empty.result (sym c.in_default.ensures) c.is_empty.ensures in
    (λ t. c.loop-fid.invariant.forth (end.0 t), λ h. end.1 (c.loop-fid.invariant.back h))
