-- What was read of a list so far, and by which rules.
use Rattle.std.specs.Prelude.{◌≡◌, ◌⊎◌, true, is_some, [], ◌∷◌, ◌++◌}
use Rattle.udf_field.specs.declared.address.Addr.{Addr}
use Rattle.udf_file_model.specs.Address.{Places}
use Rattle.udf_file_model.specs.Front.{Past, is_new}
use Rattle.udf_file_model.specs.Front as front
use Rattle.udf_entry.specs.RunView.{runs_seen}
use Rattle.udf_entry.specs.declared.rules.Rules.{Rules}
use Rattle.udf_entry.specs.declared.reading.Reading.{Reading}
use Rattle.udf_entry.specs.declared.body.Next.{Next}
use Rattle.udf_entry.specs.declared.body.Next.TheVariants.{Failed}

abbrev pub rules_seen : Rules → Places → front.Rules
rules_seen rules place = record {
  size = rules.size;
  own = rules.own;
  directory = rules.directory;
  information = rules.information;
  placed = λ a. is_some (place a);
}

abbrev pub past_of : Reading → Past
past_of reading = record { runs = runs_seen reading.runs.items; extents = reading.extents.items }

-- the extent fails, or it is new and was added
abbrev pub Grows : Reading → Places → Addr → Reading × Next → Type 0
Grows old place x t =
    ((t.0.extents.items ≡ old.extents.items) × (t.1 ≡ Failed))
    ⊎ ((t.0.extents.items ≡ old.extents.items ++ (x ∷ [])) × (is_new (rules_seen old.rules place) (past_of old) x ≡ true))
