-- Where a cut of descriptors ends, as the code has it.
use Rattle.std.specs.Prelude.{◌≡◌, ◌≤◌, ◌<◌, ◌^◌, ℕ, Some, None, List}
use Rattle.udf_file_model.specs.Cut.{Onward, onward}
use Rattle.udf_file_model.specs.CutBody.{kept_count, last_length}
use Rattle.udf_file_model.specs.Descriptors.{Descriptor, descriptor_count}
use Rattle.udf_file_plan.specs.declared.descriptors.Cut.{Cut}
use Rattle.udf_file_plan.specs.declared.descriptors.Further.{Further}
use Rattle.udf_file_plan.specs.declared.descriptors.Cut.TheVariants as cuts

-- it goes on nowhere, and keeps so many descriptors, the last of them with this length
pub record EndsWithin (b : ℕ) (ds : List Descriptor) (count last : ℕ) : Type 0 where
  pub onward_is : onward b ds ≡ None
  pub count_is : kept_count b ds ≡ count
  pub last_is : last_length b ds ≡ last

abbrev pub CutsTo : ℕ → List Descriptor → Cut → Type 0
CutsTo b ds (cuts.Within count last) = EndsWithin b ds count last
CutsTo b ds (cuts.Beyond next left) = onward b ds ≡ Some (record { next = next; left = left })

-- so many descriptors stand in a body of so many bytes, and the length fits its field
abbrev pub FitsBody : ℕ → ℕ → Cut → Type 0
FitsBody kind bytes (cuts.Within count last) = (count ≤ descriptor_count kind bytes) × (last < 2 ^ 30)
FitsBody kind bytes (cuts.Beyond next left) = Unit {0}

abbrev pub further_seen : Further → Onward
further_seen further = record { next = further.at; left = further.left }
