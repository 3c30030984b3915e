-- The wanted identifiers of the ordinary entries of a volume (ECMA-167 4/14.9.18, UDF 2.3.6.7 and 3.2.1.1), in the order of addresses.
use Rattle.std.specs.Prelude.{◌≡◌, ℕ, suc, ◌<◌, ◌≤◌, Bool, true, false, not, ◌&&◌, nat_eq, if◌then◌else◌, List, [], ◌∷◌, ◌++◌, length, drop, slice_index, Option, Some, None}
use Rattle.std.specs.List.{list_any, filter, range_with_len}
use Rattle.udf_field.specs.declared.address.Addr.{Addr}
use Rattle.udf_file_model.specs.Address.{same_addr}
use Rattle.udf_file_model.specs.Listing.{Volume}
use Rattle.udf_tree_model.specs.Frame.{Frame}
use Rattle.udf_tree_model.specs.Counts.{id_of, is_lawful_id}
use Rattle.udf_dues.specs.declared.identifiers.Identity.{Identity}

-- the identifier of an entry that stays, after entries with these: the root has 0, another keeps a lawful one that none before has
abbrev pub settled_after : List ℕ → Identity → Option ℕ
settled_after before x =
    if x.is_root then Some 0
    else (if is_lawful_id x.id && not (list_any (nat_eq x.id) before) then Some x.id else None)

abbrev pub settled_from : List ℕ → List Identity → List (Option ℕ)
settled_from before [] = []
settled_from before (x ∷ xs) = settled_after before x ∷ settled_from (before ++ x.id ∷ []) xs

-- of each entry the identifier that stays, where one does
abbrev pub settled : List Identity → List (Option ℕ)
settled xs = settled_from [] xs

abbrev pub is_id : ℕ → Option ℕ → Bool
is_id n None = false
is_id n (Some id) = nat_eq n id

-- it stays with some entry
abbrev pub is_taken : List (Option ℕ) → ℕ → Bool
is_taken ids n = list_any (is_id n) ids

-- as many identifiers from 16 on as there are entries, without those that stay
unfoldable pub free_among : List (Option ℕ) → List ℕ
free_among ids = filter (λ n. not (is_taken ids n)) (range_with_len 16 (length ids))

-- those that have none get the free ones in turn
abbrev pub filled : List (Option ℕ) → List ℕ → List ℕ
filled [] free = []
filled (Some id ∷ ids) free = id ∷ filled ids free
filled (None ∷ ids) free = slice_index free 0 ∷ filled ids (drop 1 free)

-- the wanted identifiers of entries in the order of their addresses
unfoldable pub wanted_ids : List Identity → List ℕ
wanted_ids xs = filled (settled xs) (free_among (settled xs))

-- what is found at an address
abbrev pub identity : Frame → Volume → Addr → Identity
identity f v a = record { id = id_of v a; is_root = same_addr a f.root }

-- an entry's choice: the identifier that stays, or the first that is not taken from the least one to try
pub record Stays (id old new n : ℕ) : Type 0 where
  pub own : n ≡ id
  pub next : new ≡ old

pub record Takes (taken : ℕ → Bool) (old new n : ℕ) : Type 0 where
  pub low : old ≤ n
  pub free : taken n ≡ false
  pub between : (m : ℕ) → old ≤ m → m < n → taken m ≡ true
  pub next : new ≡ suc n

abbrev pub Chooses : (ℕ → Bool) → Option ℕ → ℕ → ℕ → ℕ → Type 0
Chooses taken None old new n = Takes taken old new n
Chooses taken (Some id) old new n = Stays id old new n
