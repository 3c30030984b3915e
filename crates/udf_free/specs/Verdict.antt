-- The verdict on the space bitmap of a base partition.
use Rattle.std.specs.Prelude.{ℕ, Bool, true, false, if◌then◌else◌, List, count_by, drop}
use Rattle.std.specs.Simd.Lanes.{zip2}
use Rattle.udf_field.specs.declared.address.Short.{Short}
use Rattle.udf_file_model.specs.Listing.{Volume}
use Rattle.udf_space.specs.Bits.{bits_of, differ}
use Rattle.udf_tree_model.specs.Frame.{Frame}
use Rattle.udf_rules_model.specs.Bitmap.{area_of, is_headed, wrong_in}
use Rattle.udf_free.specs.declared.verdict.BitmapVerdict.{BitmapVerdict}

-- by the rule
abbrev pub verdict_in : Frame → Volume → ℕ → Short → BitmapVerdict
verdict_in f v blocks extent = record { headed = is_headed blocks extent (area_of v extent); wrong = wrong_in f v blocks extent }

-- on the bytes of an extent, by the bits that are to stand there
unfoldable pub verdict_on : ℕ → Short → List Bool → List ℕ → BitmapVerdict
verdict_on blocks extent free area =
    if is_headed blocks extent area
    then record { headed = true; wrong = count_by (λ differs. differs) (zip2 differ free (bits_of blocks (drop 24 area))) }
    else record { headed = false; wrong = blocks }
