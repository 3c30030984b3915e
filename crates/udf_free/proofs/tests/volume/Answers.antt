use Rattle.std.proofs.Common.{◌≡◌, ◌≤◌, refl, inl, arith}
use Rattle.udf_volume_model.specs.Anchor.{blocks_for, is_extent}
use Rattle.udf_free.proofs.tests.volume.Goals as goal

pub returns-clause-over : goal.returns-clause-over
unfolding is_extent blocks_for
returns-clause-over c files attached size = record {
  attached = attached;
  within = omega (arith, size);
  large = omega arith;
  bounded = record {
    sized = refl;
    counted = refl;
    base = inl refl;
    spared = refl;
    anchored = omega arith;
    main_inside = refl;
    reserve_inside = refl;
    few = omega arith;
    some = omega arith;
    short = omega arith;
    descriptors_inside = omega arith;
    primary_inside = omega arith;
    logical_inside = omega arith;
    partition_inside = omega arith;
  };
}
