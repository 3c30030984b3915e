-- A path that no damage touches leads after the mends to the entry to which it led, with the same bytes.
use Rattle.std.proofs.Common.{◌≡◌, ℕ, true, Some, List, [], ◌∷◌, refl, ap, ◌∙◌}
use Rattle.std.proofs.lemmas.Bool.{or_left}
use Rattle.udf_field.specs.declared.address.Addr.{Addr}
use Rattle.udf_file_model.specs.Address.{same_addr}
use Rattle.udf_file_model.specs.Listing.{Volume, with_disk}
use Rattle.udf_tree_model.specs.Frame.{Frame, is_start, setting_of, tree_of}
use Rattle.udf_tree_model.specs.Kept.{kept}
use Rattle.udf_tree_model.specs.Node.{Setting, Tree}
use Rattle.udf_tree_model.proofs.Finding.{volume_within}
use Rattle.udf_tree_model.proofs.Keeping.{kept_start}
use Rattle.udf_tree_model.proofs.Places.{address_same}
use Rattle.udf_tree_model.proofs.Stating.{accepted_starts}
use Rattle.udf_file_mends.specs.FileSet.{frame_after}
use Rattle.udf_file_mends.specs.Repairable.{IsMendOn}
use Rattle.udf_file_mends.specs.Wanted.{entry_after}
use Rattle.udf_file_mends.proofs.Nodes.{entry_reads}
use Rattle.udf_mended_rules.specs.AllMends.{HasAllMends}
use Rattle.udf_intact.specs.Entries.{IsIntactEntry}
use Rattle.udf_intact.specs.Paths.{IsIntactFrom, IsIntactPath, KeepsPath}
use Rattle.udf_intact.specs.Steps.{Step, goes_on, leads}
use Rattle.udf_intact.proofs.Bytes.{bytes_stay}
use Rattle.udf_intact.proofs.Stepping.{kept_entry, step_stays}

pub head_intact : (f : Frame) (v : Volume) (steps : List Step) (a : Addr) → IsIntactFrom f v steps a → IsIntactEntry f v a
head_intact f v [] a p = p
head_intact f v (step ∷ steps) a p = p.0

module _ (f : Frame) (v : Volume) (disk : ℕ → List ℕ) (h : HasAllMends f v disk) where
  abbrev w : Volume
  w = with_disk v disk

  abbrev g : Frame
  g = frame_after f v

  abbrev s : Setting
  s = setting_of f v

  abbrev t : Tree
  t = tree_of f v

  record Leads (steps : List Step) (a : Addr) : Type 0 where
    pub to : Addr
    pub old : leads f v steps a ≡ Some to
    pub new : leads (frame_after f v) (with_disk v disk) steps a ≡ Some to
    pub is_kept : kept (setting_of f v) (tree_of f v) to ≡ true
    pub intact : IsIntactEntry f v to

  leads_alike : (steps : List Step) (a : Addr) → kept s t a ≡ true → IsIntactFrom f v steps a → Leads steps a
  unfolding leads
  leads_alike [] a k p = record { to = a; old = refl; new = refl; is_kept = k; intact = p }
  leads_alike (step ∷ steps) a k p =
      let b = p.1.0 in
      let r = step_stays f v disk h step a b k p.0 (head_intact f v steps b p.1.2) p.1.1 in
      let on = leads_alike steps b r.0 p.1.2 in
      record {
        to = on.to;
        old = ap (λ o. goes_on o (leads f v steps)) p.1.1 ∙ on.old;
        new = ap (λ o. goes_on o (leads g w steps)) r.1 ∙ on.new;
        is_kept = on.is_kept;
        intact = on.intact;
      }

  root_kept : kept s t f.root ≡ true
  unfolding setting_of is_start
  root_kept =
      kept_start s t (volume_within f v) (accepted_starts f v h.repairable.accepted h.repairable.file_set) f.root
      (or_left (same_addr f.root f.root) _ (address_same f.root f.root refl))

  pub path_kept : (steps : List Step) → IsIntactPath f v steps → KeepsPath f v (frame_after f v) (with_disk v disk) steps
  unfolding frame_after
  path_kept steps p =
      let r = leads_alike steps f.root root_kept p in
      let m : IsMendOn f v disk r.to r.intact.entry =
      record { repairable = h.repairable; kept = kept_entry f v disk h r.to r.intact r.is_kept; entry = r.intact.reads; has = h.each r.to (kept_entry f v disk h r.to r.intact r.is_kept) } in
      record {
        to = r.to;
        old = r.old;
        new = r.new;
        before = r.intact.entry;
        was = r.intact.reads;
        after = entry_after f v r.to r.intact.entry;
        is = entry_reads f v disk r.to r.intact.entry m;
        same_kind = refl;
        same_bytes = bytes_stay f v disk h r.to r.intact m;
      }
