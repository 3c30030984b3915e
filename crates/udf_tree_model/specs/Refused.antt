-- Volumes that are refused for what their entries say.
use Rattle.std.specs.Prelude.{ℕ, Bool, true, false, not, ◌&&◌, ◌||◌, ◌==◌, Option, Some, None, if◌then◌else◌}
use Rattle.std.specs.List.{list_any}
use Rattle.udf_field.specs.declared.address.Addr.{Addr}
use Rattle.udf_model.specs.Tag.{id_at, is_id}
use Rattle.udf_file_model.specs.Entry.{Entry}
use Rattle.udf_file_model.specs.Listing.{Volume}
use Rattle.udf_tree_model.specs.Link.{target_of}
use Rattle.udf_tree_model.specs.Node.{node_at}
use Rattle.udf_tree_model.specs.Found.{found, whole_links}
use Rattle.udf_tree_model.specs.Won.{sound}
use Rattle.udf_tree_model.specs.Frame.{Frame, is_address, entry_at, places, setting_of, tree_of}

pub data Refusal : Type 0 where
  Strategy : Refusal
  ExtendedDescriptors : Refusal
  AttributeFile : Refusal
  RootDirectory : Refusal

abbrev pub is_indirect_by : Volume → Addr → Option ℕ → Bool
is_indirect_by v a None = false
is_indirect_by v a (Some sector) = is_id 259 (id_at a.block (v.disk sector))

-- ECMA-167 4/14.7: an indirect entry stands whole at the address
unfoldable pub is_indirect : Volume → Addr → Bool
is_indirect v a = is_address a && is_indirect_by v a (v.place a)

abbrev pub passes : (Entry → Bool) → Option Entry → Bool
passes test None = false
passes test (Some e) = test e

-- some found entry passes a test
unfoldable pub some_found : Frame → Volume → (Entry → Bool) → Bool
some_found f v test = list_any (λ a. found (setting_of f v) (tree_of f v) a && passes test (entry_at v a)) (places v)

-- some link of what is found leads to an indirect entry
unfoldable pub names_indirect : Frame → Volume → Bool
names_indirect f v =
    list_any (λ a. found (setting_of f v) (tree_of f v) a && list_any (λ link. is_indirect v (target_of link.says)) (whole_links (tree_of f v) a)) (places v)

-- 4/14.6.2: the strategy of an entry without a hierarchy of entries is 4
abbrev pub has_other_strategy : Entry → Bool
has_other_strategy e = not (e.strategy == 4)

-- 4/14.6.8: kind 2, extended allocation descriptors
abbrev pub has_extended_descriptors : Entry → Bool
has_extended_descriptors e = e.kind == 2

-- 4/14.9.16: an ICB of extended attributes, which names something where its length is not 0
abbrev pub has_attribute_file : Entry → Bool
has_attribute_file e = not (e.attributes.length == 0)

-- a readable entry at the root's address is a sound directory
unfoldable pub has_root : Frame → Volume → Bool
has_root f v =
    passes (λ e. true) (entry_at v f.root)
    && (sound (setting_of f v) (tree_of f v) f.root && (node_at (tree_of f v) f.root).directory)

-- the first refusal that applies
unfoldable pub refusal : Frame → Volume → Option Refusal
refusal f v =
    if some_found f v has_other_strategy || names_indirect f v then Some Strategy
    else (if some_found f v has_extended_descriptors then Some ExtendedDescriptors
    else (if some_found f v has_attribute_file then Some AttributeFile
    else (if has_root f v then None else Some RootDirectory)))
