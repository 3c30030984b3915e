-- What an inspection answers at a block size, by what it answers of the volume.
use Rattle.std.proofs.Common.{◌≡◌, ◌≤◌, ◌/◌, ◌||◌, ℕ, List, Bool, true, false, cond, Option, None, Result, Ok, Err, IfOk, sym, ap, ◌∙◌, subst}
use Rattle.udf_model.specs.Image.{block_of}
use Rattle.udf_outside.specs.Files.{Files, IsAttached}
use Rattle.udf_outside.specs.declared.bench.Role.TheVariants.{Image}
use Rattle.udf_layer.specs.declared.missing.Missing.{Missing}
use Rattle.udf_layer.specs.declared.missing.Missing.TheVariants.{WriteProtected}
use Rattle.udf_layer.specs.Causes.{layer_stop}
use Rattle.udf_layer.specs.declared.missing.LayerStop.{LayerStop}
use Rattle.udf_layer.specs.declared.missing.LayerStop.TheVariants as stops
use Rattle.udf_layer.specs.declared.missing.WorkStop.{WorkStop}
use Rattle.udf_layer.specs.declared.missing.WorkStop.TheVariants as work_stops
use Rattle.udf_volume.specs.Laid.{IsLaidOut}
use Rattle.udf_volume.specs.Opened.{IsBounded}
use Rattle.udf_volume.specs.Over.{IsOver}
use Rattle.udf_volume.specs.Taken.{IsLawful, Opens, opening}
use Rattle.udf_volume.specs.Writable.{is_protected}
use Rattle.udf_volume.specs.declared.opened.Opened.{Opened}
use Rattle.udf_volume.specs.declared.volume.Volume.{Volume}
use Rattle.udf_volume.proofs.Openings.{open_over}
use Rattle.udf_files.specs.declared.files.Files as found_files
use Rattle.udf_files.specs.Files.{AreFilesOf, AreOverVolume, FindsFiles}
use Rattle.udf_files.specs.Refusal.{files_refusal}
use Rattle.udf_mended_image.specs.Accepted.{by_opening, by_refusal, is_kept_from_writing, repairing}
use Rattle.udf_repair_plan.specs.Draft.{IsDraftFor, IsDraftOf}
use Rattle.udf_top.specs.Inspecting.{Inspects, InspectsVolume, IsInspectedAt, IsInspectedOver}
use Rattle.udf_top.specs.declared.udffsck.inspect.Inspected.{Inspected}
use Rattle.udf_top.proofs.Checks.{found_as}

-- files were refused, or a fault or want of memory came
pub not_found : (volume : Volume) (image : List ℕ) (e : LayerStop) → FindsFiles volume image (Err e) → InspectsVolume volume image (Err e)
not_found volume image (stops.Missing reason) is = ap (λ (o : Option Missing). by_refusal volume image o) is
not_found volume image stops.Fault is = tt
not_found volume image stops.Memory is = tt

-- a fault or want of memory came
pub stopped : (volume : Volume) (image : List ℕ) (stop : WorkStop) → InspectsVolume volume image (Err (layer_stop stop))
stopped volume image work_stops.Fault = tt
stopped volume image work_stops.Memory = tt

module _ (volume : Volume) (image : List ℕ) where
  -- what the code asks for is the protection of the volume and of its file set
  pub kept_is : (files : found_files.Files) → files.volume ≡ volume → AreFilesOf volume image files
      → (is_protected files.volume || files.set.guarded) ≡ is_kept_from_writing volume image
  kept_is files same of =
      ap (λ (v : Volume). is_protected v || files.set.guarded) same ∙ ap (λ (b : Bool). is_protected volume || b) of.set_is.guarded

  by_kept : (b : Bool) → files_refusal volume image ≡ None → is_kept_from_writing volume image ≡ b
      → by_refusal volume image (files_refusal volume image) ≡ cond b (Err WriteProtected) (Ok volume)
  by_kept b none kept = ap (λ (o : Option Missing). by_refusal volume image o) none ∙ ap (λ (c : Bool). cond c (Err WriteProtected) (Ok volume)) kept

  pub protected : files_refusal volume image ≡ None → is_kept_from_writing volume image ≡ true → by_refusal volume image (files_refusal volume image) ≡ Err WriteProtected
  protected none kept = by_kept true none kept

  pub writable : files_refusal volume image ≡ None → is_kept_from_writing volume image ≡ false → by_refusal volume image (files_refusal volume image) ≡ Ok volume
  writable none free = by_kept false none free

module _ (size : ℕ) (image : List ℕ) where
  pub not_opened : (e : LayerStop) → Opens (opening size image) (block_of size image) (Err e) → Inspects size image (Err e)
  unfolding repairing
  not_opened (stops.Missing reason) is = ap (by_opening image) is
  not_opened stops.Fault is = tt
  not_opened stops.Memory is = tt

  repairing_as : (volume : Volume) → opening size image ≡ Ok volume → repairing size image ≡ by_refusal volume image (files_refusal volume image)
  unfolding repairing
  repairing_as volume e = ap (by_opening image) e

  pub of_opened : (volume : Volume) (r : Result Inspected LayerStop) → opening size image ≡ Ok volume → InspectsVolume volume image r → IfOk r (IsInspectedOver volume) → Inspects size image r
  of_opened volume (Ok found) e is over =
      let same : found.files.volume ≡ volume = over.files.volume_is in record {
        accepted = repairing_as volume e ∙ is.accepted ∙ ap (λ (v : Volume). Ok v) (sym same);
        files = subst (λ (v : Volume). AreFilesOf v image found.files) (sym same) is.files;
        findings = is.findings ∙ sym (found_as size image volume e);
        draft = subst (λ (v : Volume). IsDraftOf v image found.draft) (sym same) is.draft;
      }
  of_opened volume (Err (stops.Missing reason)) e is over = repairing_as volume e ∙ is
  of_opened volume (Err stops.Fault) e is over = tt
  of_opened volume (Err stops.Memory) e is over = tt

-- over an image whose volume was opened
pub at_opened : (size bytes : ℕ) (files : Files) (opened : Opened) (r : Result Inspected LayerStop) → IsAttached Image files → 512 ≤ size → bytes ≡ files.image.size
    → IsLawful size (bytes / size) opened → IfOk r (IsInspectedOver opened.volume) → IfOk r (IsInspectedAt size files)
at_opened size bytes files opened (Err e) attached large is lawful over = tt
at_opened size bytes files opened (Ok found) attached large is lawful over =
    let volume = opened.volume in
    let same : found.files.volume ≡ volume = over.files.volume_is in
    let opens = open_over opened files size bytes attached large is lawful in record {
      sized = ap (λ (v : Volume). v.size) same ∙ lawful.bounded.sized;
      bounded = subst (λ (v : Volume). IsBounded size (files.image.size / size) v) (sym same) (subst (λ (n : ℕ). IsBounded size (n / size) volume) is lawful.bounded);
      over = subst (λ (v : Volume). IsOver v files) (sym same) opens.over;
      laid = subst (λ (v : Volume). IsLaidOut v) (sym same) opens.laid;
      volume = subst (λ (v : Volume). AreOverVolume v found.files) (sym same) over.files;
      draft = subst (λ (v : Volume). IsDraftFor v found.draft) (sym same) over.draft;
    }
