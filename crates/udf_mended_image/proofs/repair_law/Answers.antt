use Rattle.udf_mended_image.proofs.Repair.{accepted_after, alike, differs, rewrites_it, size_stays, still, twice, unbroken_after}
use Rattle.udf_mended_image.proofs.repair_law.Goals as goal

pub returns-clause-accepted : goal.returns-clause-accepted
returns-clause-accepted c = accepted_after

pub returns-clause-unbroken : goal.returns-clause-unbroken
returns-clause-unbroken c = unbroken_after

pub returns-clause-again : goal.returns-clause-again
returns-clause-again c = twice

pub returns-clause-still : goal.returns-clause-still
returns-clause-still c = still

pub returns-clause-rewrites : goal.returns-clause-rewrites
returns-clause-rewrites c = rewrites_it

pub returns-clause-differs : goal.returns-clause-differs
returns-clause-differs c = differs

pub returns-clause-alike : goal.returns-clause-alike
returns-clause-alike c = alike

pub returns-clause-size : goal.returns-clause-size
returns-clause-size c given size image sized bytes = size_stays size image sized bytes given
