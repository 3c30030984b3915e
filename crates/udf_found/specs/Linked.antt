-- What the code keeps of links.
use Rattle.std.specs.Prelude.{◌≡◌, ℕ, ◌-◌, Bool, nat_eq, is_none, cond, List, [], ◌∷◌, ◌++◌, map, Option, Some, None}
use Rattle.std.specs.List.{filter}
use Rattle.std.specs.Str.{bytes_eq}
use Rattle.udf_field.specs.declared.address.Addr.{Addr}
use Rattle.udf_tree_model.specs.Link as model
use Rattle.udf_file_model.specs.Fid.{is_live, name}
use Rattle.udf_file_model.specs.Scan.{Placed}
use Rattle.udf_file_model.specs.Name.{Canonical, canonical_key}
use Rattle.udf_tree_model.specs.Link.{Says, Pointer, Fid, fid_link, is_pointer, name_of, room_of, target_of}
use Rattle.udf_tree_model.specs.Chosen.{first_of_names}
use Rattle.udf_found.specs.declared.link.Link.{Link}

-- a link without what it says
pub record Outline : Type 0 where
  pub place : ℕ
  pub target : Addr
  pub room : ℕ
  pub pointer : Bool

abbrev pub outline_of : model.Link → Outline
outline_of f = record { place = f.place; target = target_of f.says; room = room_of f.says; pointer = is_pointer f.says }

abbrev pub outline_seen : Link → Outline
outline_seen l = record { place = l.place; target = l.target; room = l.room; pointer = nat_eq l.place 0 }

-- no live FID before it has its name
abbrev pub is_first : Link → Bool
is_first l = is_none l.earlier

-- the identifier of a FID as it stands; a pointer has none
abbrev pub text_of : Says → List ℕ
text_of (Pointer a) = []
text_of (Fid fid) = name fid

abbrev pub ends_of : List Link → List Addr
ends_of ls = map (λ l. l.target) ls

-- the offset of the first FID of a name among some links
unfoldable pub first_with : List ℕ → List model.Link → Option ℕ
first_with n [] = None
first_with n (f ∷ fs) = cond (bytes_eq n (name_of f.says)) (Some (f.place - 1)) (first_with n fs)

-- of each link that offset among the links before it
unfoldable pub earliers_after : List model.Link → List model.Link → List (Option ℕ)
earliers_after before [] = []
earliers_after before (f ∷ fs) = first_with (name_of f.says) before ∷ earliers_after (before ++ f ∷ []) fs

abbrev pub earliers : List model.Link → List (Option ℕ)
earliers fs = earliers_after [] fs

-- a link of the definitions, where the first of its name stands there before it
pub record IsLine (f : model.Link) (earlier : Option ℕ) (l : Link) : Type 0 where
  pub outline : outline_seen l ≡ outline_of f
  pub earlier_is : l.earlier ≡ earlier
  pub name_is : l.name.items ≡ text_of f.says

-- the links of the definitions; of them those with names that no earlier one has; where the first of each name stands; and the
-- identifiers
pub record AreLinks (fs : List model.Link) (ls : List Link) : Type 0 where
  pub all : map outline_seen ls ≡ map outline_of fs
  pub named : map outline_seen (filter is_first ls) ≡ map outline_of (first_of_names [] fs)
  pub earlier : map (λ l. l.earlier) ls ≡ earliers fs
  pub names : map (λ l. l.name.items) ls ≡ map (λ f. text_of f.says) fs

-- so many links, before it is told which are the first of their names
pub record AreLines (fs : List model.Link) (ls : List Link) : Type 0 where
  pub all : map outline_seen ls ≡ map outline_of fs
  pub earlier : map (λ l. l.earlier) ls ≡ earliers fs
  pub names : map (λ l. l.name.items) ls ≡ map (λ f. text_of f.says) fs

-- and what is known of their names
pub record AreTold (known : Canonical → Option ℕ) (fs : List model.Link) (ls : List Link) : Type 0 where
  pub lines : AreLines fs ls
  pub known_is : (c : Canonical) → known c ≡ first_with (canonical_key c) fs

-- the link of a FID that is live
abbrev pub live_link : Placed → List model.Link
live_link p = cond (is_live p.1) (fid_link p ∷ []) []

-- a name more is known, at an offset, unless it was
pub record Learns (old new : Canonical → Option ℕ) (same : Canonical → Bool) (at : ℕ) : Type 0 where
  pub each : (c : Canonical) → new c ≡ cond (is_none (old c)) (cond (same c) (Some at) None) (old c)
