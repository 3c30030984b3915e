use Rattle.udf_volume_laws.proofs.Findings.{unbroken, broken}
use Rattle.udf_volume_laws.proofs.Order.{order}
use Rattle.udf_volume_laws.proofs.findings_law.Goals as goal

pub returns-clause-unbroken : goal.returns-clause-unbroken
returns-clause-unbroken c = unbroken

pub returns-clause-broken : goal.returns-clause-broken
returns-clause-broken c = broken

pub returns-clause-order : goal.returns-clause-order
returns-clause-order c = order
