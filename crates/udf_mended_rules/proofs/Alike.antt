-- The volume with all mends is alike to the one before, and each entry states what was wanted of it.
use Rattle.std.proofs.Common.{◌≡◌, ◌⊎◌, ℕ, ◌&&◌, true, cond, List, refl, sym, ap, ◌∙◌, inl, inr}
use Rattle.std.specs.Prelude.{slice_index}
use Rattle.udf_field.specs.declared.address.Addr.{Addr}
use Rattle.udf_file_model.specs.Address.{same_addr}
use Rattle.udf_file_model.specs.Entry.{Entry}
use Rattle.udf_file_model.specs.Listing.{Volume, with_disk}
use Rattle.udf_tree_model.specs.Chosen.{fitted}
use Rattle.udf_tree_model.specs.Counts.{free_ids, id_by, id_of, is_kept_directory, place_among_takers, takes_id, wanted_id, wanted_links}
use Rattle.udf_tree_model.specs.Frame.{Frame, entry_at, places, setting_of, tree_of}
use Rattle.udf_tree_model.specs.Mended.{said}
use Rattle.udf_tree_model.specs.Ordinary.{is_kept_entry}
use Rattle.udf_tree_model.specs.Parent.{ordinary}
use Rattle.udf_rules_model.specs.FileRules.{count_rule, identifier_rule, links_by}
use Rattle.udf_count_laws.specs.Alike.{AreAlike, StatesWanted}
use Rattle.udf_count_laws.proofs.Counting.{counts_hold}
use Rattle.udf_count_laws.proofs.Identifying.{identifiers_hold}
use Rattle.udf_file_mends.specs.FileSet.{frame_after}
use Rattle.udf_file_mends.specs.Repairable.{IsMendOn}
use Rattle.udf_file_mends.specs.Wanted.{wanted}
use Rattle.udf_file_mends.proofs.Nodes.{entry_reads}
use Rattle.udf_mended_rules.specs.AllMends.{HasAllMends}
use Rattle.udf_mended_rules.proofs.Contents.{mended_same}
use Rattle.udf_mended_rules.proofs.Keepers.{ordinary_kept, ordinary_same, start_is_root, fitted_says, streams_same}
use Rattle.udf_mended_rules.proofs.Linked.{linked}
use Rattle.udf_mended_rules.proofs.Settled as settled

module _ (f : Frame) (v : Volume) (disk : ℕ → List ℕ) (h : HasAllMends f v disk) where
  abbrev w : Volume
  w = with_disk v disk

  abbrev g : Frame
  g = frame_after f v

  fitted_same : (a : Addr) → is_kept_directory f v a ≡ true → said (fitted (setting_of g w) (tree_of g w) a) ≡ said (fitted (setting_of f v) (tree_of f v) a)
  fitted_same a k = let r = settled.directory_at f v disk h a k in fitted_says f v disk h a (settled.is_kept f v disk h a r.1.0.kept)

  pub alike : AreAlike f (frame_after f v) v (with_disk v disk)
  alike = record {
    root = unfold frame_after in refl;
    size = refl;
    places = unfold places in refl;
    entries = settled.entries_same f v disk h;
    directories = settled.directories_same f v disk h;
    streams = streams_same f v disk h;
    ordinary = ordinary_same f v disk h;
    fitted = fitted_same;
    contents = λ a k. let r = settled.directory_at f v disk h a k in mended_same f v disk h a r.0 r.1.0 r.1.1;
  }

  links_stated : (a : Addr) → is_kept_entry f v a ≡ true → links_by (entry_at w a) ≡ wanted_links f v a
  unfolding wanted
  links_stated a k = let m = settled.mend_at f v disk h a k in ap links_by (entry_reads f v disk a m.0 m.1)

  ids_stated : (a : Addr) → ordinary f v a ≡ true → id_of w a ≡ wanted_id f v a
  ids_stated a o = by (settled.either f v disk h a (ordinary_kept f v disk h a o))
    where
      root_id : same_addr a f.root ≡ true → wanted_id f v a ≡ 0
      root_id e = unfold wanted_id in ap (λ b. cond b 0 (cond (ordinary f v a && takes_id f v a) (slice_index (free_ids f v) (place_among_takers f v a)) (id_of v a))) e

      by : ((e : Entry) × IsMendOn f v disk a e) ⊎ settled.IsPointerHolder f v disk a → id_of w a ≡ wanted_id f v a
      by (inl r) = unfold wanted in ap id_by (entry_reads f v disk a r.0 r.1)
      by (inr r) = ap id_by r.new ∙ sym (root_id (start_is_root f v disk h a o r.holder))

  pub states : StatesWanted f v (with_disk v disk)
  states = record { links = links_stated; ids = ids_stated; linked = linked f v disk h }

  pub counts : count_rule (frame_after f v) (with_disk v disk) ≡ true
  counts = counts_hold f g v w alike h.repairable.accepted h.repairable.file_set states

  pub identifiers : identifier_rule (frame_after f v) (with_disk v disk) ≡ true
  identifiers = identifiers_hold f g v w alike states
