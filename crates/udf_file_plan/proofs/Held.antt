-- What the files of a volume tell of its file set.
use Rattle.std.proofs.Common.{◌≡◌, ℕ, ◌+◌, ◌≤◌, not, ◌&&◌, List, length, Option, Some, refl, sym, ap, ◌∙◌, subst}
use Rattle.std.specs.Prelude.{is_some}
use Rattle.udf_field.specs.declared.address.Addr.{Addr}
use Rattle.udf_model.specs.Bytes.{number_at}
use Rattle.udf_model.specs.Image.{block_of}
use Rattle.udf_model.specs.Tag.{crc_length}
use Rattle.udf_volume_model.specs.FileSet.{first_block, system_in}
use Rattle.udf_volume.specs.declared.volume.Volume.{Volume}
use Rattle.udf_rules_model.specs.Files.{files_in, frame_in, site_in}
use Rattle.udf_files.specs.Files.{AreFilesOf, places_in}
use Rattle.udf_files.specs.declared.files.Files.{Files}
use Rattle.udf_file_mends.specs.FileSet.{loses_system}
use Rattle.udf_file_plan.proofs.Clearing.{covers}
use Rattle.udf_file_plan.proofs.System.{loses_told}

pub record IsTold (volume : Volume) (image : List ℕ) (files : Files) : Type 0 where
  pub loses : (is_some files.set.system && not (is_some files.survey.system)) ≡ loses_system (frame_in volume image) (files_in volume image)
  pub place : (files_in volume image).place (frame_in volume image).file_set ≡ places_in files volume.file_set.at
  pub block : volume.file_set.at.block ≡ (frame_in volume image).file_set.block
  pub room : (s : ℕ) (now : List ℕ) → places_in files volume.file_set.at ≡ Some s → now ≡ block_of volume.size image s → 16 + number_at 2 now 10 ≤ length now

module _ (volume : Volume) (image : List ℕ) where
  file_set_is : (frame_in volume image).file_set ≡ volume.file_set.at
  unfolding frame_in
  file_set_is = refl

  system_is : (frame_in volume image).system ≡ system_in (first_block (site_in volume image))
  unfolding frame_in
  system_is = refl

  pub told_of : (files : Files) → AreFilesOf volume image files → IsTold volume image files
  told_of files are = record {
    loses = ap (λ (o : Option Addr). is_some o && not (is_some files.survey.system)) (are.set_is.system ∙ sym system_is)
        ∙ loses_told (frame_in volume image) (files_in volume image) are.set_placed files.survey are.survey_is;
    place = ap (λ a. (files_in volume image).place a) file_set_is ∙ sym (ap (λ p. p volume.file_set.at) are.places_are);
    block = sym (ap (λ (a : Addr). a.block) file_set_is);
    room = λ s now place is.
        let there = ap (λ a. (files_in volume image).place a) file_set_is ∙ sym (ap (λ p. p volume.file_set.at) are.places_are) ∙ place in
        subst (λ (b : List ℕ). 16 + crc_length b ≤ length b) (sym is)
        (covers (frame_in volume image).file_set.block 256 (block_of volume.size image s) (are.holds_set.whole s there));
  }
