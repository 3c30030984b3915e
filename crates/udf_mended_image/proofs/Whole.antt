-- A mended image: it is accepted, breaks no rule, and leaves where blocks stand and which block size is found.
use Rattle.std.proofs.Common.{◌≡◌, ℕ, ◌≤◌, refl, sym, ◌∙◌, ap, List, length, true, Some, Ok}
use Rattle.udf_model.specs.Bytes.{IsBytes}
use Rattle.udf_model.specs.Image.{block_of}
use Rattle.udf_model.specs.Size.{is_size}
use Rattle.udf_model.proofs.Sizes.{large as large_size}
use Rattle.udf_volume_model.specs.Areas as model
use Rattle.udf_volume_model.specs.Areas.{Area, partition_area}
use Rattle.udf_volume_model.specs.AllRules.{layout_in}
use Rattle.udf_volume_model.specs.Kept.{KeptSequence}
use Rattle.udf_volume_model.specs.Plans.{IsRewrite}
use Rattle.udf_volume_model.specs.Size.{found_size}
use Rattle.udf_volume.specs.Areas.{partition_stated, table_used}
use Rattle.udf_volume.specs.Opened.{volume_by}
use Rattle.udf_volume.specs.Taken.{opening}
use Rattle.udf_volume.specs.declared.volume.Volume.{Volume}
use Rattle.udf_volume.proofs.Described.{Describes, layout_in_is, opened_ok}
use Rattle.udf_rules_model.specs.Files.{files_in, frame_in}
use Rattle.udf_rules_model.specs.Places.{place_by, place_in, place_of}
use Rattle.udf_space_mends.specs.IntegrityMend.{CountsFit, origin_of}
use Rattle.udf_mended_image.specs.Accepted.{is_accepted, is_unbroken}
use Rattle.udf_mended_image.proofs.Filed.{file_laws}
use Rattle.udf_mended_image.proofs.Fit.{counts_fit}
use Rattle.udf_mended_image.proofs.Following.{FileLaws}
use Rattle.udf_mended_image.proofs.Sizing.{found_there}
use Rattle.udf_mended_image.proofs.Stands.{Stands}
use Rattle.udf_mended_image.proofs.Unbroken.{Accepts, accepted_there, re, unbroken_there}

-- where the blocks of an opened volume's partition stand
place_is : (size : ℕ) (image : List ℕ) (volume : Volume) → opening size image ≡ Ok volume
    → place_of size image ≡ place_by (partition_stated volume) (table_used volume (block_of size image))
unfolding place_of
place_is size image volume e =
    let d = opened_ok size image volume e in
    ap (place_in size (block_of size image)) d.1.found
    ∙ ap (λ a. place_by a (layout_in size (block_of size image) d.0).table) (area d.0 d.1)
    ∙ ap (λ (l : model.Layout). place_by (partition_stated volume) l.table) (sym (layout_in_is size image volume d.0 d.1))
  where
    area : (s : KeptSequence) → Describes size image volume s → partition_area s.list ≡ partition_stated volume
    area s d = sym (ap partition_stated d.is ∙ (unfold volume_by partition_area in refl))

pub record IsWhole (size : ℕ) (image after : List ℕ) : Type 0 where
  pub rewrites : IsRewrite size image after
  pub accepted : is_accepted size after ≡ true
  pub unbroken : is_unbroken size after ≡ true
  pub places : place_of size after ≡ place_of size image
  pub found : found_size image ≡ Some size → found_size after ≡ Some size

module _ (image after : List ℕ) (volume : Volume) (sized : is_size volume.size ≡ true) (bytes : IsBytes image) (is : Accepts volume.size image volume)
    (st : Stands volume.size image after volume) where
  large : 512 ≤ volume.size
  large = large_size volume.size sized

  long : length after ≡ length image
  long = st.rewrites.same_length

  laws : FileLaws (frame_in volume image) (files_in volume image) (block_of volume.size after)
  laws = file_laws (frame_in volume image) (files_in volume image) (block_of volume.size after) st.files

  fit : CountsFit (frame_in volume image) (files_in volume image) volume.length (origin_of (block_of volume.size image volume.pvd) (block_of volume.size image volume.lvd))
  fit = counts_fit image volume large is.opens bytes

  places_same : place_of volume.size after ≡ place_of volume.size image
  places_same =
      let r = re image after volume sized is long st laws fit in
      place_is volume.size after r.found r.opens
      ∙ ap (λ (l : model.Layout). place_by (partition_stated r.found) l.table) r.layout
      ∙ ap (λ n. place_by (record { start = n; count = r.found.length }) (table_used volume (block_of volume.size image))) r.same.start
      ∙ ap (λ n. place_by (record { start = volume.start; count = n }) (table_used volume (block_of volume.size image))) r.same.length
      ∙ sym (place_is volume.size image volume is.opens)

  pub whole : IsWhole volume.size image after
  whole = record {
    rewrites = st.rewrites;
    accepted = accepted_there image after volume sized is long st laws fit;
    unbroken = unbroken_there image after volume sized is long st laws fit;
    places = places_same;
    found = found_there image after volume sized is long st laws fit;
  }
