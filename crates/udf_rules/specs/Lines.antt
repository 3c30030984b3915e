-- The line of a finding.
use Rattle.std.specs.Prelude.{List, ℕ, ◌++◌, flat_map, codes, decimal}
use Rattle.udf_rules.specs.declared.finding.Place.{Place}
use Rattle.udf_rules.specs.declared.finding.Place.TheVariants as place
use Rattle.udf_rules.specs.declared.finding.Finding.{Finding}

abbrev pub place_of : Place → List ℕ
place_of (place.Sector sector) = codes "-:" ++ decimal sector
place_of (place.At address) = decimal address.part ++ codes ":" ++ decimal address.block

unfoldable pub line_of : Finding → List ℕ
line_of finding =
    codes "V" ++ decimal finding.rule ++ codes " " ++ place_of finding.place
    ++ codes " " ++ decimal finding.first ++ codes " " ++ decimal finding.second ++ codes "\n"

-- the lines of findings, in order
unfoldable pub lines_of : List Finding → List ℕ
lines_of findings = flat_map line_of findings
