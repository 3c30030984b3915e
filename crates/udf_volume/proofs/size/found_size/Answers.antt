use Rattle.std.proofs.Common.{refl}
use Rattle.udf_volume.proofs.Sized.{no_value}
use Rattle.udf_volume.proofs.size.found_size.Goals as goal

pub returns-in_err-found-clause-reads : goal.returns-in_err-found-clause-reads
returns-in_err-found-clause-reads g c =
    let r = c.in_err-found.ensures.reads in record {
      files = r.files;
      held = r.held;
      later = r.later;
      cause = λ e. r.cause refl;
      calm = no_value _ _ c.from_residual-in_err-found.ensures.0;
    }

pub returns-clause-reads : goal.returns-clause-reads
returns-clause-reads g c =
    let r = c.in_ok-found.ensures.reads in record {
      files = r.files;
      held = r.held;
      later = r.later;
      cause = λ e. absurd (cc);
      calm = r.calm;
    }
