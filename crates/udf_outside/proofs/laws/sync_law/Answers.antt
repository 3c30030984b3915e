use Rattle.udf_outside.proofs.Runs.{synced_durable, sync_other_durable, sync_comes_from, sync_keeps, sync_adds}
use Rattle.udf_outside.proofs.laws.sync_law.Goals as goal

pub returns : goal.returns
returns c = record {
  durable = λ role old new result syncs. synced_durable role old new result syncs;
  other = λ role old new result syncs durable. sync_other_durable role old new result syncs durable;
  none_new = λ role old new result pair syncs now. sync_comes_from role old new result syncs pair now;
  keeps = λ role old new result z pair syncs since. sync_keeps role old new result syncs z pair since;
  adds = λ role old new result z pair syncs since. sync_adds role old new result syncs z pair since;
}
