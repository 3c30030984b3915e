-- What the parent FIDs of a content tell (ECMA-167 4/8.6 and 4/14.4).
use Rattle.std.specs.Prelude.{ℕ, Bool, ◌&&◌, ◌||◌, cond, if◌then◌else◌, List, [], ◌∷◌, Option, Some, None}
use Rattle.std.specs.List.{filter, list_all}
use Rattle.std.specs.Str.{bytes_eq}
use Rattle.udf_field.specs.declared.address.Addr.{Addr}
use Rattle.udf_file_model.specs.Fid.{is_deleted, is_live, is_parent, target}
use Rattle.udf_file_model.specs.Pack.{packed}
use Rattle.udf_file_model.specs.Scan.{fids, fids_of}
use Rattle.udf_found.specs.declared.parents.Named.{Named}
use Rattle.udf_found.specs.declared.parents.Named.TheVariants.{Nothing, One, Several}

abbrev pub is_lawful_kind : List ℕ → Bool
is_lawful_kind fid = is_deleted fid || (is_live fid || is_parent fid)

-- the address that the one of some FIDs names
unfoldable pub alone : List (List ℕ) → Option Addr
alone [] = None
alone (fid ∷ []) = Some (target fid).at
alone (fid ∷ (other ∷ rest)) = None

-- FIDs stand one after another to the end of a content, each deleted, live or a parent FID
unfoldable pub is_lawful : ℕ → List ℕ → Bool
is_lawful size content = bytes_eq content (packed (fids_of (fids size content))) && list_all is_lawful_kind (fids_of (fids size content))

-- the address that the one parent FID of a lawful content names
unfoldable pub only_parent : ℕ → List ℕ → Option Addr
only_parent size content =
    if is_lawful size content then alone (filter is_parent (fids_of (fids size content))) else None

abbrev pub one_more : Named → Addr → Named
one_more Nothing at = One at
one_more (One other) at = Several
one_more Several at = Several

abbrev pub one_of : Named → Option Addr
one_of Nothing = None
one_of (One at) = Some at
one_of Several = None

-- what is named with one FID more
unfoldable pub more_named : Named → List ℕ → Named
more_named named fid = cond (is_parent fid) (one_more named (target fid).at) named
