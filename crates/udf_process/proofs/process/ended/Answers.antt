use Rattle.std.proofs.Common.{rules}
use Rattle.std.specs.Prelude.{map, string_bytes}
use Rattle.udf_process.proofs.Beginning.{not_begun}
use Rattle.udf_process.proofs.process.ended.Goals as goal

-- without standard streams no file is opened
pub returns-then-is_err : goal.returns-then-is_err
returns-then-is_err c = not_begun (map (string_bytes {Z = Rattle.std.proofs.Common.Global}) c.args.words.now) c.with.result (search rules)
