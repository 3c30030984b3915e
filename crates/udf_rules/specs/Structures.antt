-- Volume structure descriptors, as the code has them.
use Rattle.std.specs.Prelude.{◌≡◌, ℕ, Bool, true, false, if◌then◌else◌, codes, List, [], ◌∷◌, drop, map, take, Option, Some, None}
use Rattle.std.specs.List.{list_any}
use Rattle.std.specs.Str.{bytes_eq}
use Rattle.udf_rules_model.specs.Recognition.{Recognition, identifiers, is_among, others}
use Rattle.udf_rules.specs.declared.structure.Edition.{Edition}
use Rattle.udf_rules.specs.declared.structure.Edition.TheVariants.{Second, Third}
use Rattle.udf_rules.specs.declared.structure.Structure.{Structure}
use Rattle.udf_rules.specs.declared.structure.Structure.TheVariants as structures
use Rattle.udf_rules.specs.declared.structure.Stage.{Stage}
use Rattle.udf_rules.specs.declared.structure.Stage.TheVariants as stages

-- the identifier in the first block of a slot (2/9.1.2)
abbrev pub name_in : List ℕ → List ℕ
name_in block = take 5 (drop 1 block)

-- what an identifier names, where it is known
abbrev pub structure_named : List ℕ → Option Structure
structure_named name =
    if bytes_eq name (codes "BEA01") then Some structures.Beginning
    else if bytes_eq name (codes "NSR02") then Some (structures.Volume Second)
    else if bytes_eq name (codes "NSR03") then Some (structures.Volume Third)
    else if bytes_eq name (codes "TEA01") then Some structures.End
    else if is_among others name then Some structures.Other
    else None

abbrev pub digit_by : Edition → ℕ
digit_by Second = 2
digit_by Third = 3

abbrev pub is_beginning : Structure → Bool
is_beginning structures.Beginning = true
is_beginning (structures.Volume edition) = false
is_beginning structures.End = false
is_beginning structures.Other = false

abbrev pub is_volume : Structure → Bool
is_volume structures.Beginning = false
is_volume (structures.Volume edition) = true
is_volume structures.End = false
is_volume structures.Other = false

abbrev pub is_end : Structure → Bool
is_end structures.Beginning = false
is_end (structures.Volume edition) = false
is_end structures.End = true
is_end structures.Other = false

abbrev pub is_other : Structure → Bool
is_other structures.Beginning = false
is_other (structures.Volume edition) = false
is_other structures.End = false
is_other structures.Other = true

-- it is what a recognition sequence has at a stage
abbrev pub is_at_stage : Stage → Structure → Bool
is_at_stage stages.Beginning x = is_beginning x
is_at_stage stages.Volume x = is_volume x
is_at_stage stages.End x = is_end x

-- what comes after the first that is at a stage
abbrev pub behind_in : Stage → List Structure → List Structure
behind_in stage [] = []
behind_in stage (x ∷ xs) = if is_at_stage stage x then xs else behind_in stage xs

abbrev pub is_sequence_of : List Structure → Bool
is_sequence_of xs = list_any is_end (behind_in stages.Volume (behind_in stages.Beginning xs))

abbrev pub digit_or : Structure → ℕ → ℕ
digit_or structures.Beginning later = later
digit_or (structures.Volume edition) later = digit_by edition
digit_or structures.End later = later
digit_or structures.Other later = later

-- the digit of the first volume, 0 without one
abbrev pub digit_in : List Structure → ℕ
digit_in [] = 0
digit_in (x ∷ xs) = digit_or x (digit_in xs)

-- they are what the identifiers of the slots name that are read
abbrev pub AreRead : Recognition → List Structure → Type 0
AreRead r xs = map Some xs ≡ map structure_named (identifiers r)
