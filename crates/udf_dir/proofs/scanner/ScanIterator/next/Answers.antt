-- With no FID left, none is left behind the end either.
use Rattle.std.proofs.Common.{◌∙◌, sym, refl}
use Rattle.udf_file_model.specs.Scan.{fids_from}
use Rattle.udf_dir.proofs.scanner.ScanIterator.next.Goals as goal

pub returns-in_default-clause-steps : goal.returns-in_default-clause-steps
unfolding fids_from
returns-in_default-clause-steps c = (sym c.self.view_is ∙ c.in_default.ensures c.self.inside.at, refl)
