-- The paths of a mended image.
use Rattle.std.proofs.Common.{◌≡◌, ℕ, ◌≤◌, true, List, [], ◌∷◌, length, Option, Some, Result, Ok, Err, is_ok, refl, sym, ap, ◌∙◌, subst}
use Rattle.udf_field.specs.declared.address.Addr.{Addr}
use Rattle.udf_model.specs.Bytes.{IsBytes}
use Rattle.udf_model.specs.Image.{block_of}
use Rattle.udf_model.specs.Size.{is_size}
use Rattle.udf_model.proofs.Sizes.{large as large_size}
use Rattle.udf_file_model.specs.Listing as listing
use Rattle.udf_file_model.specs.Listing.{with_disk}
use Rattle.udf_tree_model.specs.Frame.{Frame}
use Rattle.udf_volume_model.specs.Size.{size_of}
use Rattle.udf_layer.specs.declared.missing.Missing.{Missing}
use Rattle.udf_volume.specs.Taken.{opening}
use Rattle.udf_volume.specs.declared.volume.Volume.{Volume}
use Rattle.udf_rules_model.specs.Files.{files_in, frame_in}
use Rattle.udf_file_mends.specs.FileSet.{frame_after}
use Rattle.udf_mended_image.specs.Accepted.{is_accepted, mend, mended, repairing}
use Rattle.udf_mended_image.specs.Sized.{mend_as, mend_by}
use Rattle.udf_mended_image.proofs.Accepting.{sized_by, stands}
use Rattle.udf_mended_image.proofs.Framed.{files_same, frame_same}
use Rattle.udf_mended_image.proofs.Repair.{by_mend, size_stays}
use Rattle.udf_mended_image.proofs.Stands.{Stands}
use Rattle.udf_mended_image.proofs.Unbroken.{Accepts, accepts}
use Rattle.udf_mended_image.proofs.Volume.{Reopens, reopens}
use Rattle.udf_intact.specs.Entries.{IsIntactEntry}
use Rattle.udf_intact.specs.Images.{IsIntactAs, IsIntactBy, IsIntactIn, KeepsPathAs, KeepsPathBy, KeepsPathIn, opened_by}
use Rattle.udf_intact.specs.Paths.{IsIntactFrom, IsIntactPath, KeepsPath}
use Rattle.udf_intact.specs.Steps.{Step, goes_on, leads}
use Rattle.udf_intact.proofs.Keeping.{path_kept}

-- ---- an image keeps its own paths
record Ends (f : Frame) (v : listing.Volume) (steps : List Step) (a : Addr) : Type 0 where
  pub to : Addr
  pub led : leads f v steps a ≡ Some to
  pub intact : IsIntactEntry f v to

ends : (f : Frame) (v : listing.Volume) (steps : List Step) (a : Addr) → IsIntactFrom f v steps a → Ends f v steps a
unfolding leads
ends f v [] a p = record { to = a; led = refl; intact = p }
ends f v (step ∷ steps) a p =
    let r = ends f v steps p.1.0 p.1.2 in
    record { to = r.to; led = ap (λ o. goes_on o (leads f v steps)) p.1.1 ∙ r.led; intact = r.intact }

same_path : (f : Frame) (v : listing.Volume) (steps : List Step) → IsIntactPath f v steps → KeepsPath f v f v steps
same_path f v steps p =
    let r = ends f v steps f.root p in
    record {
      to = r.to;
      old = r.led;
      new = r.led;
      before = r.intact.entry;
      was = r.intact.reads;
      after = r.intact.entry;
      is = r.intact.reads;
      same_kind = refl;
      same_bytes = λ file. refl;
    }

same_paths : (image : List ℕ) (steps : List Step) (r : Result Volume Missing) → IsIntactBy image steps r → KeepsPathBy image image steps r r
same_paths image steps (Ok volume) p = same_path (frame_in volume image) (files_in volume image) steps p
same_paths image steps (Err missing) p = absurd p

itself : (size : ℕ) (image : List ℕ) (steps : List Step) → IsIntactIn size image steps → KeepsPathIn size image image steps
itself size image steps p = same_paths image steps (opening size image) p

pub itself_as : (given : Option ℕ) (image : List ℕ) (steps : List Step) → IsIntactAs given image steps → KeepsPathAs given image image steps
itself_as given image steps p = same_paths image steps (opened_by (size_of given image) image) p

-- ---- and its mended one keeps them
module _ (image after : List ℕ) (volume : Volume) (sized : is_size volume.size ≡ true) (is : Accepts volume.size image volume) (st : Stands volume.size image after volume) where
  abbrev f : Frame
  f = frame_in volume image

  abbrev v : listing.Volume
  v = files_in volume image

  large : 512 ≤ volume.size
  large = large_size volume.size sized

  long : length after ≡ length image
  long = st.rewrites.same_length

  re : Reopens volume.size image after volume
  re = reopens volume.size image after volume large is.opens long st.read

  paths_there : (steps : List Step) → IsIntactPath f v steps → KeepsPath f v (frame_in re.found after) (files_in re.found after) steps
  paths_there steps p =
      subst (λ (x : Frame). KeepsPath f v x (files_in re.found after) steps) (sym (frame_same image after volume large long re st))
      (subst (λ (x : listing.Volume). KeepsPath f v (frame_after f v) x steps) (sym (files_same image after volume large long re st))
      (path_kept f v (block_of volume.size after) st.files steps p))

  keeps_there : (steps : List Step) → IsIntactIn volume.size image steps → KeepsPathIn volume.size image after steps
  keeps_there steps p =
      subst (λ (r : Result Volume Missing). KeepsPathBy image after steps r (opening volume.size after)) (sym is.opens)
      (subst (λ (r : Result Volume Missing). KeepsPathBy image after steps (Ok volume) r) (sym re.opens)
      (paths_there steps (subst (λ (r : Result Volume Missing). IsIntactBy image steps r) is.opens p)))

pub volume_there : (size : ℕ) (image : List ℕ) → is_accepted size image ≡ true → (volume : Volume) × (repairing size image ≡ Ok volume)
unfolding is_accepted
volume_there size image = by (repairing size image) refl
  where
    by : (r : Result Volume Missing) → repairing size image ≡ r → is_ok r ≡ true → (volume : Volume) × (repairing size image ≡ Ok volume)
    by (Ok volume) e h = (volume, e)
    by (Err reason) e h = absurd (cc)

mended_keeps : (size : ℕ) (image : List ℕ) → is_size size ≡ true → IsBytes image → is_accepted size image ≡ true
    → (steps : List Step) → IsIntactIn size image steps → KeepsPathIn size image (mended size image) steps
mended_keeps size image sized bytes a steps =
    let r = volume_there size image a in
    let k = accepts size image r.0 r.1 in
    let same : r.0.size ≡ size = sized_by size image r.0 k.opens in
    let P : ℕ → Type 0 = λ n. is_size n ≡ true → Accepts n image r.0 → Stands n image (mended size image) r.0 → IsIntactIn n image steps → KeepsPathIn n image (mended size image) steps in
    subst P same (λ s c st. keeps_there image (mended size image) r.0 s c st steps) sized k (stands size image r.0 sized bytes r.1)

-- what a repair makes of an image keeps each path that no damage touches
pub mend_keeps : (size : ℕ) (image : List ℕ) → is_size size ≡ true → IsBytes image → (steps : List Step)
    → IsIntactIn size image steps → KeepsPathIn size image (mend size image) steps
mend_keeps size image sized bytes steps p =
    by_mend size image (λ after. KeepsPathIn size image after steps) (λ accepted broken. mended_keeps size image sized bytes accepted steps p)
    (λ stays. itself size image steps p)

pub mend_keeps_as : (given : Option ℕ) (size : ℕ) (image : List ℕ) → is_size size ≡ true → IsBytes image → size_of given image ≡ Some size
    → (steps : List Step) → IsIntactAs given image steps → KeepsPathAs given image (mend_as given image) steps
mend_keeps_as given size image sized bytes e steps p =
    subst (λ (after : List ℕ). KeepsPathAs given image after steps) (sym (ap (λ o. mend_by o image) e))
    (subst (λ (o : Option ℕ). KeepsPathBy image (mend size image) steps (opened_by o image) (opened_by (size_of given (mend size image)) (mend size image))) (sym e)
    (subst (λ (o : Option ℕ). KeepsPathBy image (mend size image) steps (opening size image) (opened_by o (mend size image))) (sym (size_stays size image sized bytes given e))
    (mend_keeps size image sized bytes steps (subst (λ (o : Option ℕ). IsIntactBy image steps (opened_by o image)) e p))))
