-- The order of findings: by rule, then by place, sectors before blocks of partitions, then by their values.
use Rattle.std.specs.Prelude.{◌≡◌, ◌⊎◌, ◌<◌, List, [], ◌∷◌}
use Rattle.udf_volume_model.specs.Rules.{Place, Sector, At, Finding}

abbrev pub IsBeforePlace : Place → Place → Type 0
IsBeforePlace (Sector m) (Sector n) = m < n
IsBeforePlace (Sector m) (At part block) = Unit {0}
IsBeforePlace (At part block) (Sector n) = ⊥
IsBeforePlace (At part block) (At other next) = (part < other) ⊎ ((part ≡ other) × (block < next))

abbrev pub IsBeforeValues : Finding → Finding → Type 0
IsBeforeValues a b = (a.first < b.first) ⊎ ((a.first ≡ b.first) × (a.second < b.second))

abbrev pub IsBefore : Finding → Finding → Type 0
IsBefore a b =
    (a.rule < b.rule)
    ⊎ ((a.rule ≡ b.rule) × (IsBeforePlace a.place b.place ⊎ ((a.place ≡ b.place) × IsBeforeValues a b)))

-- each comes before the next
abbrev pub AscendsFrom : Finding → List Finding → Type 0
AscendsFrom first [] = Unit {0}
AscendsFrom first (next ∷ rest) = IsBefore first next × AscendsFrom next rest

abbrev pub Ascends : List Finding → Type 0
Ascends [] = Unit {0}
Ascends (first ∷ rest) = AscendsFrom first rest
