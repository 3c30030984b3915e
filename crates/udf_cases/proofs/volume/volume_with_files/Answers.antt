use Rattle.std.proofs.Common.{◌≤◌, ◌<◌, [], ◌∷◌}
use Rattle.std.proofs.lemmas.List.Elements.{All-cons, All-nil}
use Rattle.udf_field.specs.declared.address.Short.{Short}
use Rattle.udf_cases.proofs.volume.volume_with_files.Goals as goal

abbrev lawful : Short → Type 0
lawful extent = (extent.kind ≤ 3) × (extent.length < 1073741824)

pub put_entry-requires-clause-lawful : goal.put_entry-requires-clause-lawful
put_entry-requires-clause-lawful c =
    All-cons lawful c.extent.result [] (search, search) (All-nil lawful)

pub put_entry-requires-2-clause-lawful : goal.put_entry-requires-2-clause-lawful
put_entry-requires-2-clause-lawful c =
    All-cons
    lawful
    c.extent-2.result
    (c.extent-3.result ∷ c.extent-4.result ∷ [])
    (search, search)
    (All-cons
    lawful
    c.extent-3.result
    (c.extent-4.result ∷ [])
    (search, search)
    (All-cons lawful c.extent-4.result [] (search, search) (All-nil lawful)))
