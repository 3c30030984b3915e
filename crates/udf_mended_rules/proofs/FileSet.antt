-- The descriptor of the file set stands whole in a volume that is not refused for it.
use Rattle.std.proofs.Common.{◌≡◌, ℕ, ◌&&◌, not, Bool, true, false, cond, Option, Some, None, List, refl, ap, ◌∙◌}
use Rattle.std.specs.Prelude.{◌==◌, is_some}
use Rattle.std.proofs.lemmas.Bool.{and_parts, eqb-true, false≢true}
use Rattle.udf_field.specs.declared.address.Addr.{Addr}
use Rattle.udf_model.specs.Tag.{id_at, is_id}
use Rattle.udf_file_model.specs.Address.{same_addr}
use Rattle.udf_file_model.specs.Content.{block_at, block_by}
use Rattle.udf_file_model.specs.Listing as listing
use Rattle.udf_file_model.specs.Listing.{is_placed}
use Rattle.udf_volume_model.specs.FileSet.{FileSet, FileSets, Site, has_file_set, id_by, id_of, is_clear, names_further, refusal, first_block}
use Rattle.udf_tree_model.specs.Frame.{is_address, is_file_set, is_holder}
use Rattle.udf_tree_model.proofs.Places.{same_address}
use Rattle.udf_volume.specs.declared.volume.Volume.{Volume}
use Rattle.udf_rules_model.specs.Files.{files_in, frame_in, site_in}

set_there : (v : listing.Volume) (a : Addr) → is_id 256 (id_by v.disk a.block (v.place a)) ≡ true → id_at a.block (block_at v a) ≡ Some 256
set_there v a h = by (v.place a) h
  where
    is_set : (o : Option ℕ) → is_id 256 o ≡ true → o ≡ Some 256
    is_set None k = absurd (false≢true k)
    is_set (Some n) k = ap Some (eqb-true n 256 k)

    by : (o : Option ℕ) → is_id 256 (id_by v.disk a.block o) ≡ true → id_at a.block (block_by v.disk o) ≡ Some 256
    by None k = absurd (false≢true k)
    by (Some n) k = is_set (id_at a.block (v.disk n)) k

stands : (s : Site) → refusal s ≡ None → is_id 256 (id_of s s.extent.at) ≡ true
unfolding refusal has_file_set
stands s e =
    let p = and_parts (is_clear s) (has_file_set s) (by (is_clear s && has_file_set s) (names_further (first_block s)) e) in
    (and_parts (not (s.extent.length == 0)) (is_id 256 (id_of s s.extent.at)) p.1).1
  where
    by : (b c : Bool) → cond b (cond c (Some FileSets) None) (Some FileSet) ≡ None → b ≡ true
    by true c k = refl
    by false c k = cc

-- so it does where it holds a pointer to the system stream directory
pub set_stands : (volume : Volume) (image : List ℕ) → refusal (site_in volume image) ≡ None → (a : Addr)
    → is_holder (frame_in volume image) (files_in volume image) a ≡ true → id_at a.block (block_at (files_in volume image) a) ≡ Some 256
unfolding is_holder frame_in site_in id_of
set_stands volume image e a h =
    let p = and_parts (is_some (frame_in volume image).system) (is_file_set (frame_in volume image) (files_in volume image) a) h in
    let q = and_parts (same_addr a volume.file_set.at) (is_address a && is_placed (files_in volume image) a) p.1 in
    ap (λ x. id_at x.block (block_at (files_in volume image) x)) (same_address a volume.file_set.at q.0)
    ∙ set_there (files_in volume image) volume.file_set.at (stands (site_in volume image) e)
