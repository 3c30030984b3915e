use Rattle.std.proofs.Common.{◌≡◌, take}
use Rattle.std.specs.Prelude.{count_by}
use Rattle.udf_tree.specs.Files.{is_of_file}
use Rattle.udf_tree.proofs.files.files_among.Given as goal

abbrev pub invariant-loop-link : goal.invariant-loop-link
invariant-loop-link l = l.files ≡ count_by (is_of_file l.held) (take l.link-index l.fitted)
