use Rattle.std.proofs.Common.{◌≡◌, ◌==◌, ℕ, false, arith}
use Rattle.std.proofs.lemmas.Bool.Decides.{nat_tests}
use Rattle.udf_file_model.proofs.CutList.{cut_list_is, cut_list_good}
use Rattle.udf_file_model.proofs.cut_law.Goals as goal

not_three : (k : ℕ) → (k ≡ 3 → ⊥) → (k == 3) ≡ false
not_three k h = grind (arith, nat_tests)

pub returns : goal.returns
returns c v disk a e b size bytes own kind within room cut = (
  cut_list_is v disk a e b size bytes own (not_three e.kind kind) within room cut,
  cut_list_good v disk a e b size bytes own (not_three e.kind kind) within room cut,
)
