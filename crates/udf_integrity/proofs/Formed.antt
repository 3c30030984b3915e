-- Where the counts of files stand in a descriptor of one partition.
use Rattle.std.proofs.Common.{◌≡◌, ℕ, ◌+◌, ◌*◌, List, sym, ap, ◌∙◌}
use Rattle.udf_model.specs.Bytes.{number_at}
use Rattle.udf_rules_model.specs.Integrity.{directories_in, files_in, partitions_in}

pub files_there : (block : List ℕ) (n : ℕ) → n ≡ number_at 4 block 120 → partitions_in block ≡ 1 → n ≡ files_in block
files_there block n e one = e ∙ sym (ap (λ k. number_at 4 block (80 + 8 * k + 32)) one)

pub directories_there : (block : List ℕ) (n : ℕ) → n ≡ number_at 4 block 124 → partitions_in block ≡ 1 → n ≡ directories_in block
directories_there block n e one = e ∙ sym (ap (λ k. number_at 4 block (80 + 8 * k + 36)) one)
