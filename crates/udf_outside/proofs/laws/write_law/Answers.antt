use Rattle.udf_outside.proofs.Runs.{write_comes_from, write_keeps, write_adds, write_other_durable}
use Rattle.udf_outside.proofs.laws.write_law.Goals as goal

pub returns : goal.returns
returns c = record {
  torn = λ role at bytes old new result pair within writes now. write_comes_from role at bytes old new result within writes pair now;
  keeps = λ role at bytes old new result z pair writes since. write_keeps role at bytes old new result writes z pair since;
  adds = λ role at bytes old new result z pair writes since. write_adds role at bytes old new result writes z pair since;
  durable = λ role at bytes old new result writes durable. write_other_durable role at bytes old new result writes durable;
}
