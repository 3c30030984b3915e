-- The identifiers of found entries, and those that are given to addresses.
use Rattle.std.specs.Prelude.{◌≡◌, ℕ, Bool, cond, List, [], ◌∷◌, map, Option, Some, None}
use Rattle.std.specs.List.{list_any}
use Rattle.std.specs.List.Sorted.{IsStrictlySortedBy}
use Rattle.std.specs.Map.{keys_of, values_of}
use Rattle.udf_field.specs.declared.address.Addr.{Addr}
use Rattle.udf_file_model.specs.Address.{same_addr}
use Rattle.udf_tree_model.specs.Among.{Member}
use Rattle.udf_held.specs.declared.held.Held.{Held}
use Rattle.udf_dues.specs.declared.identifiers.Identity.{Identity}
use Rattle.udf_found.specs.declared.shape.Shape.{Shape}
use Rattle.udf_found.specs.Order.{addr_cmp}

-- the identifier that an entry states
abbrev pub id_in : Option Shape → ℕ
id_in None = 0
id_in (Some s) = s.id

-- what is found in an entry
abbrev pub identity_in : Addr → Held → Identity
identity_in root h = record { id = id_in h.shape; is_root = same_addr h.at root }

-- the entries whose tests, in the same order, pass
abbrev pub passed : List Held → List Bool → List Held
passed [] bs = []
passed (h ∷ hs) [] = []
passed (h ∷ hs) (b ∷ bs) = cond b (h ∷ passed hs bs) (passed hs bs)

-- the entries in the order of their addresses, with what is found in each
pub record Lists (root : Addr) (hs : List Held) (es : List (Addr × Identity)) : Type 0 where
  pub sorted : IsStrictlySortedBy addr_cmp (keys_of es)
  pub there : (a : Addr) → Member a (keys_of es) → (h : Held) × Member h hs × (h.at ≡ a)
  pub all : (h : Held) → Member h hs → Member h.at (keys_of es)
  pub values : (of : Addr → Identity) → ((h : Held) → Member h hs → identity_in root h ≡ of h.at) → values_of es ≡ map of (keys_of es)

-- what an address is given, where it is one of these
abbrev pub given_of : (Addr → ℕ) → List Addr → Addr → Option ℕ
given_of of xs a = cond (list_any (same_addr a) xs) (Some (of a)) None
