-- A kept file that no damage touches has the bytes that it had.
use Rattle.std.proofs.Common.{◌≡◌, ℕ, ◌&&◌, ◌||◌, not, nat_le, Bool, true, false, List, refl, ap, ◌∙◌, arith, le-leb}
use Rattle.std.specs.Prelude.{min}
use Rattle.std.specs.List.{list_all}
use Rattle.std.proofs.lemmas.Bool.{and_from}
use Rattle.udf_field.specs.declared.address.Addr.{Addr}
use Rattle.udf_file_model.specs.Content.{content}
use Rattle.udf_file_model.specs.Entry.{Entry, is_directory}
use Rattle.udf_file_model.specs.Listing.{Volume, good_length, is_good_for, list_for, with_disk}
use Rattle.udf_file_model.specs.Pieces.{Piece, runs_of}
use Rattle.udf_tree_model.specs.Among.{Member}
use Rattle.udf_tree_model.specs.Claimed.{allocation_holds, list_stays}
use Rattle.udf_tree_model.specs.Content.{content_stays}
use Rattle.udf_tree_model.specs.Frame.{Frame, setting_of, tree_of}
use Rattle.udf_tree_model.specs.Node.{Item, node_at}
use Rattle.udf_tree_model.specs.Won.{holds, wins}
use Rattle.udf_tree_model.proofs.Members.{all_from}
use Rattle.udf_file_mends.specs.Repairable.{IsMendOn}
use Rattle.udf_file_mends.specs.Wanted.{entry_after}
use Rattle.udf_file_mends.proofs.Data.{file_data}
use Rattle.udf_file_mends.proofs.Nodes.{list_reads}
use Rattle.udf_file_mends.proofs.Rereads.{same_information}
use Rattle.udf_mended_rules.specs.AllMends.{HasAllMends}
use Rattle.udf_intact.specs.Entries.{IsIntactEntry, bytes_at}
use Rattle.udf_intact.proofs.Intact.{is_intact}
use Rattle.udf_intact.proofs.Owning.{wins_listed}

module _ (f : Frame) (v : Volume) (disk : ℕ → List ℕ) (h : HasAllMends f v disk) (a : Addr) (k : IsIntactEntry f v a)
    (m : IsMendOn f v disk a k.entry) (file : is_directory k.entry ≡ false) where
  abbrev e : Entry
  e = k.entry

  abbrev new : Entry
  new = entry_after f v a k.entry

  abbrev w : Volume
  w = with_disk v disk

  all_held : list_all (holds (setting_of f v) (tree_of f v) a) (node_at (tree_of f v) a).list ≡ true
  unfolding holds
  all_held = all_from (holds (setting_of f v) (tree_of f v) a) (node_at (tree_of f v) a).list (λ i n. by i n i.takes refl)
    where
      by : (i : Item) → Member i (node_at (tree_of f v) a).list → (b : Bool) → i.takes ≡ b → (not b || wins (setting_of f v) (tree_of f v) a i) ≡ true
      by i n true q = wins_listed (setting_of f v) (tree_of f v) a (is_intact f v disk h a k) i n q
      by i n false q = refl

  stays : list_stays f v a e ≡ true
  unfolding list_stays allocation_holds
  stays =
      and_from (allocation_holds f v a e) (not (is_directory e) || content_stays f v a)
      (and_from (is_good_for v a e) (list_all (holds (setting_of f v) (tree_of f v) a) (node_at (tree_of f v) a).list && nat_le e.information (good_length v a e)) k.good
      (and_from (list_all (holds (setting_of f v) (tree_of f v) a) (node_at (tree_of f v) a).list) (nat_le e.information (good_length v a e)) all_held
      (le-leb e.information (good_length v a e) k.reaches)))
      (ap (λ b. not b || content_stays f v a) file)

  pub bytes_stay : bytes_at (with_disk v disk) a (entry_after f v a k.entry) ≡ bytes_at v a k.entry
  unfolding bytes_at
  bytes_stay =
      let information = same_information f v disk a e m stays in
      ap (λ (ps : List Piece). content w new (runs_of ps) new.information) (list_reads f v disk a e m)
      ∙ file_data f v disk a e m file new.information
      ∙ ap (content v e (runs_of (list_for v a e))) (let z : min new.information new.information ≡ e.information = omega (arith, information) in z)
