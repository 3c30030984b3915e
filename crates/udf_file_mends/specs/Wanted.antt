-- What a kept entry is to state after its mend (ECMA-167 4/14.9 and 4/14.17).
use Rattle.std.specs.Prelude.{ℕ, Bool, not, ◌&&◌, ◌==◌, if◌then◌else◌, List, take}
use Rattle.std.specs.List.{list_any}
use Rattle.udf_field.specs.declared.address.Addr.{Addr}
use Rattle.udf_model.specs.Bytes.{number_at}
use Rattle.udf_file_model.specs.Content.{block_at}
use Rattle.udf_file_model.specs.CutBody.{cut_body}
use Rattle.udf_file_model.specs.Entry.{Entry, is_directory}
use Rattle.udf_file_model.specs.Listing.{Volume}
use Rattle.udf_file_model.specs.Wanted.{Wanted, mended}
use Rattle.udf_tree_model.specs.Chosen.{selected}
use Rattle.udf_tree_model.specs.Claimed.{list_stays, mended_length}
use Rattle.udf_tree_model.specs.Content.{mended_content}
use Rattle.udf_tree_model.specs.Counts.{wanted_id, wanted_links}
use Rattle.udf_tree_model.specs.Frame.{Frame, setting_of, tree_of}
use Rattle.udf_tree_model.specs.Link.{Link, is_pointer}
use Rattle.udf_tree_model.specs.Won.{kept_links}

abbrev pub has_pointer : List Link → Bool
has_pointer links = list_any (λ l. is_pointer l.says) links

-- its pointer to a stream directory (4/14.17.20) is among its kept links, and is not selected
unfoldable pub loses_pointer : Frame → Volume → Addr → Bool
loses_pointer f v a = has_pointer (kept_links (setting_of f v) (tree_of f v) a) && not (has_pointer (selected (setting_of f v) (tree_of f v) a))

-- its body where the list does not stay: of an embedded directory the mended content, of another embedded entry so many bytes of its
-- content, else the descriptors that are left of a cut (4/14.14)
unfoldable pub cut_wanted : Frame → Volume → Addr → Entry → List ℕ
cut_wanted f v a e =
    if e.kind == 3 then (if is_directory e then mended_content f v a else take (mended_length f v a e) e.body)
    else cut_body e.kind a (mended_length f v a e) e.body

-- what the entry at an address, in this block, is to state; where its list stays, body and lengths are its own
unfoldable pub wanted : Frame → Volume → Addr → Entry → List ℕ → Wanted
wanted f v a e block = record {
  information = if list_stays f v a e then e.information else mended_length f v a e;
  object_size = if list_stays f v a e then number_at 8 block 64 else mended_length f v a e;
  links = wanted_links f v a;
  id = wanted_id f v a;
  clear = loses_pointer f v a;
  body = if list_stays f v a e then e.body else cut_wanted f v a e;
}

-- the entry after its mend
abbrev pub entry_after : Frame → Volume → Addr → Entry → Entry
entry_after f v a e = mended (wanted f v a e (block_at v a)) e
