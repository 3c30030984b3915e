use Rattle.udf_mended_rules.proofs.Contents as contents
use Rattle.udf_mended_rules.proofs.Rules.{list_stays_at}
use Rattle.udf_mended_rules.proofs.Settled.{directory_at}
use Rattle.udf_mended_rules.proofs.stays_law.Goals as goal

pub returns-clause-reads : goal.returns-clause-reads
returns-clause-reads c f v disk h d k = let r = directory_at f v disk h d k in contents.kept_reads f v disk h d r.0 r.1.0 r.1.1

pub returns-clause-contents : goal.returns-clause-contents
returns-clause-contents c f v disk h d k = let r = directory_at f v disk h d k in contents.stays f v disk h d r.0 r.1.0 r.1.1

pub returns-clause-lists : goal.returns-clause-lists
returns-clause-lists c = list_stays_at
