-- By induction on the list.
use Rattle.std.proofs.Common.{sym, ◌∙◌, ap}
use Rattle.std.proofs.lemmas.List.Elements.{All-from_recursion, recursion_from_All}
use Rattle.udf_file_model.specs.Fid.{IsFid}
use Rattle.udf_file_model.specs.Scan.{fids, fids_of}
use Rattle.udf_file_model.specs.Pack.{packed}
use Rattle.udf_file_model.proofs.Scanned.{all_fids, packed_scan, placed_fids}
use Rattle.udf_file_model.proofs.packed_law.Goals as goal

pub returns-clause-scanned : goal.returns-clause-scanned
returns-clause-scanned c = λ size list all. packed_scan size 0 list (recursion_from_All (IsFid size) list all)

pub returns-clause-whole : goal.returns-clause-whole
returns-clause-whole c =
    λ size list all.
    ap packed (sym (ap fids_of (packed_scan size 0 list (recursion_from_All (IsFid size) list all)) ∙ placed_fids 0 list))

pub returns-clause-same : goal.returns-clause-same
returns-clause-same c = placed_fids 0

pub returns-clause-only : goal.returns-clause-only
returns-clause-only c =
    λ size content whole.
    (fids_of (fids size content), All-from_recursion (IsFid size) (fids_of (fids size content)) (all_fids size 0 0 content), whole)
