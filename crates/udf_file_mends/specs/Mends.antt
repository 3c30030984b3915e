-- The blocks of a kept entry after its mend: its own, those of the allocation extents of its list, and those of a directory's content.
use Rattle.std.specs.Prelude.{◌≡◌, ℕ, true, if◌then◌else◌, Option, Some, None, List, [], ◌∷◌, ◌++◌, map, drop}
use Rattle.std.specs.List.{flat_map}
use Rattle.std.specs.Str.{bytes_eq}
use Rattle.udf_field.specs.declared.address.Addr.{Addr}
use Rattle.udf_file_model.specs.Content.{block_at}
use Rattle.udf_file_model.specs.CutBody.{cut_body, extent_with}
use Rattle.udf_file_model.specs.CutEntry.{left_at}
use Rattle.udf_file_model.specs.Entry.{Entry, extent_body, is_directory}
use Rattle.udf_file_model.specs.Listing.{Volume}
use Rattle.udf_file_model.specs.Pieces.{extents_of, runs_of}
use Rattle.udf_file_model.specs.Wanted.{Wanted, body_with, entry_with}
use Rattle.udf_volume_model.specs.Edits.{look}
use Rattle.udf_tree_model.specs.Claimed.{claims, list_stays, mended_length, mended_list}
use Rattle.udf_tree_model.specs.Content.{mended_content}
use Rattle.udf_tree_model.specs.Frame.{Frame, entry_at}
use Rattle.udf_tree_model.specs.Ordinary.{kept_entries}
use Rattle.udf_file_mends.specs.Spread.{Sited, spread}
use Rattle.udf_file_mends.specs.Wanted.{wanted}

-- the block of an entry that states wanted values; where nothing behind its tag changes it stays as it is
unfoldable pub mended_entry : ℕ → ℕ → Wanted → List ℕ → List ℕ
mended_entry location header w block =
    if bytes_eq (drop 16 (body_with header w block)) (drop 16 block) then block else entry_with location header w block

abbrev pub extent_cut : ℕ → Addr → ℕ → List ℕ → Option (List ℕ) → List ℕ
extent_cut kind x left block None = block
extent_cut kind x left block (Some body) =
    if bytes_eq (cut_body kind x left body) body then block else extent_with x.block (cut_body kind x left body) block

-- the block of the allocation extent at an address (ECMA-167 4/14.5) of which a cut leaves so many bytes; where it leaves all the
-- extent stays as it is
abbrev pub mended_extent : ℕ → Addr → List ℕ → Option ℕ → List ℕ
mended_extent kind x block None = block
mended_extent kind x block (Some left) = extent_cut kind x left block (extent_body x.block block)

abbrev pub sited_extent : Frame → Volume → Addr → Entry → Addr → Sited
sited_extent f v a e x = (x, mended_extent e.kind x (block_at v x) (left_at v a e (mended_length f v a e) x))

-- of a list that is cut: its allocation extents, and of a directory the mended content; where the content stays it changes nothing
unfoldable pub mended_blocks : Frame → Volume → Addr → Entry → List Sited
mended_blocks f v a e =
    map (sited_extent f v a e) (extents_of (mended_list f v a e))
    ++ (if is_directory e then spread v (runs_of (mended_list f v a e)) (mended_content f v a) else [])

abbrev pub sited_entry : Frame → Volume → Addr → Entry → Sited
sited_entry f v a e = (a, mended_entry a.block e.header (wanted f v a e (block_at v a)) (block_at v a))

abbrev pub mend_by : Frame → Volume → Addr → Option Entry → List Sited
mend_by f v a None = []
mend_by f v a (Some e) = sited_entry f v a e ∷ (if list_stays f v a e then [] else mended_blocks f v a e)

-- each structure of a kept entry as its mend makes it, whole
unfoldable pub mend_of : Frame → Volume → Addr → List Sited
mend_of f v a = mend_by f v a (entry_at v a)

abbrev pub edit_by : List ℕ → Option ℕ → List (ℕ × List ℕ)
edit_by block None = []
edit_by block (Some sector) = (sector, block) ∷ []

-- blocks at the sectors of their addresses
unfoldable pub edits_of : Volume → List Sited → List (ℕ × List ℕ)
edits_of v [] = []
edits_of v (b ∷ bs) = edit_by b.1 (v.place b.0) ++ edits_of v bs

-- the mend of a kept entry, at its sectors
unfoldable pub edits_at : Frame → Volume → Addr → List (ℕ × List ℕ)
edits_at f v a = edits_of v (mend_of f v a)

-- the mends of all kept entries
unfoldable pub file_edits : Frame → Volume → List (ℕ × List ℕ)
file_edits f v = flat_map (edits_at f v) (kept_entries f v)

-- the blocks of the volume with all of them
abbrev pub mended_disk : Frame → Volume → ℕ → List ℕ
mended_disk f v n = look n (file_edits f v) (v.disk n)

-- a disk has, at each address that the entry claims after its mend, the block that the mend makes, and else the one that was there;
-- so the data of files stay
pub record HasMendOf (f : Frame) (v : Volume) (a : Addr) (disk : ℕ → List ℕ) : Type 0 where
  pub blocks : (x : Addr) (n : ℕ) → claims f v a x ≡ true → v.place x ≡ Some n → disk n ≡ look n (edits_at f v a) (v.disk n)
