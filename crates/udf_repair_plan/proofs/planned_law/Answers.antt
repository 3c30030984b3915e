use Rattle.udf_mended_image.proofs.Accepting.{given}
use Rattle.udf_repair_plan.proofs.Giving.{planned_all}
use Rattle.udf_repair_plan.proofs.planned_law.Goals as goal

pub returns : goal.returns
returns c image volume wanted plan sized bytes e alike climbs has =
    planned_all image volume (given volume.size image volume sized bytes e) wanted plan alike climbs bytes e has
