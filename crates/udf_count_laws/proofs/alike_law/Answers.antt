use Rattle.std.proofs.Common.{length, ap}
use Rattle.udf_count_laws.proofs.Counting.{counts_hold, files_named_same, high_same, low_same, ordinary_directories_same, ordinary_files_same}
use Rattle.udf_count_laws.proofs.Identifying.{greatest_same, identifiers_hold}
use Rattle.udf_count_laws.proofs.alike_law.Goals as goal

pub returns-clause-low : goal.returns-clause-low
returns-clause-low c = low_same

pub returns-clause-high : goal.returns-clause-high
returns-clause-high c = high_same

pub returns-clause-counts : goal.returns-clause-counts
returns-clause-counts c = counts_hold

pub returns-clause-identifiers : goal.returns-clause-identifiers
returns-clause-identifiers c = identifiers_hold

pub returns-clause-counted : goal.returns-clause-counted
returns-clause-counted c f g v w blocks alike states free = record {
  free = free;
  id = greatest_same f g v w alike states;
  files = ap length (ordinary_files_same f g v w alike);
  named = files_named_same f g v w alike;
  directories = ap length (ordinary_directories_same f g v w alike);
}
