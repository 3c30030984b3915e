-- After all mends each kept directory has its mended content, and that needs no mend.
use Rattle.std.proofs.Common.{◌≡◌, ℕ, ◌&&◌, ◌||◌, not, Bool, true, false, cond, List, ◌++◌, refl, sym, ap, ◌∙◌}
use Rattle.std.specs.Prelude.{is_some}
use Rattle.std.proofs.lemmas.Bool.{and_from, false≢true}
use Rattle.udf_field.specs.declared.address.Addr.{Addr}
use Rattle.udf_file_model.specs.Address.{same_addr}
use Rattle.udf_file_model.specs.Entry.{Entry, is_directory}
use Rattle.udf_file_model.specs.Listing.{Volume, good_length, with_disk}
use Rattle.udf_tree_model.specs.Chosen.{fitted}
use Rattle.udf_tree_model.specs.Claimed.{mended_list}
use Rattle.udf_tree_model.specs.Content.{content_by, content_holds, content_stays, fitted_bytes, kept_content, mended_content, parent_fid}
use Rattle.udf_tree_model.specs.Frame.{Frame, content_to, is_address, is_holder, is_start, node_with, setting_of, tree_of}
use Rattle.udf_tree_model.specs.Kept.{kept}
use Rattle.udf_tree_model.specs.Mended.{IsSettledAt}
use Rattle.udf_tree_model.specs.Node.{Node, Setting, Tree, bytes_of, good_length as tree_length, node_at}
use Rattle.udf_tree_model.specs.Parent.{is_stream_directory, parent}
use Rattle.udf_tree_model.specs.Won.{kept_length}
use Rattle.udf_tree_model.proofs.Stating.{length_is}
use Rattle.udf_file_mends.specs.FileSet.{frame_after}
use Rattle.udf_file_mends.specs.Repairable.{IsMendOn}
use Rattle.udf_file_mends.specs.Wanted.{entry_after}
use Rattle.udf_file_mends.proofs.Contents.{is_mended_content}
use Rattle.udf_file_mends.proofs.Held as held
use Rattle.udf_file_mends.proofs.Nodes.{entry_reads, holds_mended, list_reads}
use Rattle.udf_mended_rules.specs.AllMends.{HasAllMends}
use Rattle.udf_mended_rules.proofs.Dropped.{IsSameBut}
use Rattle.udf_mended_rules.proofs.Holder.{holder_after, is_gone, mended_tree, told_same}
use Rattle.udf_mended_rules.proofs.Keepers.{parents_same, streams_same}
use Rattle.udf_mended_rules.proofs.Settled as settled

module _ (f : Frame) (v : Volume) (disk : ℕ → List ℕ) (h : HasAllMends f v disk) (a : Addr) (e : Entry) (m : IsMendOn f v disk a e) where
  abbrev w : Volume
  w = with_disk v disk

  abbrev s : Setting
  s = setting_of f v

  abbrev t : Tree
  t = tree_of f v

  abbrev u : Tree
  u = mended_tree f v disk

  abbrev g : Frame
  g = frame_after f v

  told : IsSameBut (setting_of f v) (setting_of (frame_after f v) (with_disk v disk)) (mended_tree f v disk) (tree_of (frame_after f v) (with_disk v disk)) (is_gone f v)
  told = told_same f v disk h

  abbrev new : Entry
  new = entry_after f v a e

  pub here : kept (setting_of f v) (tree_of f v) a ≡ true
  here = settled.is_kept f v disk h a m.kept

  at : IsSettledAt s t u a
  at = (settled.is_settled f v disk h).at_each a here

  pub new_holder : is_holder (frame_after f v) (with_disk v disk) a ≡ false
  new_holder = holder_after f v disk h a ∙ ap (λ b. b && not (is_gone f v a)) (settled.no_holder f v disk h a m.kept)

  length_reads : tree_length (tree_of (frame_after f v) (with_disk v disk)) a ≡ good_length (with_disk v disk) a (entry_after f v a e)
  length_reads = length_is g w a new (entry_reads f v disk a e m) new_holder (held.some f v m.repairable a e m.kept m.entry)

  -- it keeps its whole length
  pub length_kept : kept_length (setting_of (frame_after f v) (with_disk v disk)) (tree_of (frame_after f v) (with_disk v disk)) a
      ≡ good_length (with_disk v disk) a (entry_after f v a e)
  unfolding tree_length
  length_kept =
      told.lengths a ∙ at.whole ∙ sym (ap (λ (n : Node). bytes_of n.list) (told.nodes a (settled.not_gone f v disk h a m.kept)))
      ∙ (let r = length_reads in (unfold tree_length in r))

  -- but for the root no start is an entry
  pub start_is : (setting_of f v).start a ≡ same_addr a f.root
  unfolding setting_of is_start is_holder
  start_is =
      let b = held.block f v m.repairable a e m.kept m.entry in
      either (same_addr a f.root) (is_some f.system) (same_addr a f.file_set) (is_address a) (is_some (v.place a)) b.fits (ap is_some b.place)
      (settled.no_holder f v disk h a m.kept)
    where
      either : (r c i x y : Bool) → x ≡ true → y ≡ true → (c && (i && (x && y))) ≡ false → (r || (c && i)) ≡ r
      either true c i x y p q n = refl
      either false false i x y p q n = refl
      either false true false x y p q n = refl
      either false true true true true p q n = absurd (false≢true (sym n))
      either false true true false y p q n = absurd (false≢true p)
      either false true true true false p q n = absurd (false≢true q)

  module _ (directory : is_directory e ≡ true) where
    pub kept_reads : kept_content (frame_after f v) (with_disk v disk) a ≡ mended_content f v a
    unfolding kept_content
    kept_reads =
        ap (content_by g w a) (entry_reads f v disk a e m)
        ∙ ap (λ l. content_to w new l (kept_length (setting_of g w) (tree_of g w) a)) (list_reads f v disk a e m)
        ∙ ap (content_to w new (mended_list f v a e)) length_kept
        ∙ (holds_mended f v disk a e m directory).reads

    pub is_directory_there : (node_at (tree_of f v) a).directory ≡ true
    unfolding node_with
    is_directory_there = ap (λ (n : Node). n.directory) (held.node f v m.repairable a e m.kept m.entry) ∙ directory

    pub content_whole : content_holds v.size (is_stream_directory (setting_of (frame_after f v) (with_disk v disk)) (tree_of (frame_after f v) (with_disk v disk)) a)
        (parent (frame_after f v) (with_disk v disk) a) (kept_content (frame_after f v) (with_disk v disk) a) ≡ true
    content_whole =
        ap (λ b. content_holds v.size b (parent g w a) (kept_content g w a)) (streams_same f v disk h a)
        ∙ ap (λ p. content_holds v.size (is_stream_directory s t a) p (kept_content g w a)) (parents_same f v disk h a here is_directory_there start_is)
        ∙ ap (content_holds v.size (is_stream_directory s t a) (parent f v a)) kept_reads
        ∙ (is_mended_content f v m.repairable a e m.kept m.entry directory).holds

    pub stays : content_stays (frame_after f v) (with_disk v disk) a ≡ true
    unfolding content_stays
    stays = and_from _ _ (told.targets a ∙ at.targets) (and_from _ _ (told.names a ∙ at.names) content_whole)

    pub mended_same : mended_content (frame_after f v) (with_disk v disk) a ≡ mended_content f v a
    unfolding mended_content
    mended_same = ap (λ b. cond b (kept_content g w a) (parent_fid g w a ++ fitted_bytes (fitted (setting_of g w) (tree_of g w) a))) stays ∙ kept_reads
