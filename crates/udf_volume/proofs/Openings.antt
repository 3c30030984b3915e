-- A volume that is opened with its layout.
use Rattle.std.proofs.Common.{◌≡◌, ℕ, ◌*◌, ◌/◌, ◌≤◌, arith, refl, sym, subst, ◌∙◌, ap, List, cond, Ok, Err}
use Rattle.udf_model.specs.Image.{block_of}
use Rattle.udf_outside.specs.Files.{Files, IsAttached}
use Rattle.udf_outside.specs.declared.bench.Role.TheVariants.{Image}
use Rattle.udf_layer.specs.declared.missing.Missing.{Missing}
use Rattle.udf_layer.specs.declared.missing.Missing.TheVariants as missing
use Rattle.udf_layer.specs.declared.missing.LayerStop.{LayerStop}
use Rattle.udf_layer.specs.declared.missing.LayerStop.TheVariants as stops
use Rattle.udf_layer.specs.Read.{IsTableStop}
use Rattle.udf_volume.specs.declared.volume.Volume.{Volume}
use Rattle.udf_volume.specs.declared.taken.Layout.{Layout}
use Rattle.udf_volume.specs.Areas.{layout_seen, layout_stated}
use Rattle.udf_volume.specs.Opened.{Answers, IsBounded, described}
use Rattle.udf_volume.specs.Over.{IsOver}
use Rattle.udf_volume.specs.Refusals.{IsOfDescription, IsOfVolume, RefusesDescription, RefusesVolume}
use Rattle.udf_volume.specs.declared.opened.Opened.{Opened}
use Rattle.udf_volume.specs.Taken.{IsLawful, IsOpenOver, IsOpenedOf, Lays, Opens, by_packets, is_spared_stated, opening}
use Rattle.udf_volume.proofs.Opening.{whole_blocks}

module _ (size : ℕ) (image : List ℕ) where
  abbrev disk : ℕ → List ℕ
  disk = block_of size image

  pub refused : (stop : LayerStop) → Answers (described size image) (Err stop) → Opens (opening size image) disk (Err stop)
  unfolding opening
  refused (stops.Missing reason) e = ap (by_packets disk) e
  refused stops.Fault e = tt
  refused stops.Memory e = tt

  module _ (volume : Volume) (sized : volume.size ≡ size) (is : described size image ≡ Ok volume) where
    opening_as : opening size image ≡ cond (is_spared_stated volume disk) (Ok volume) (Err missing.SparingTable)
    unfolding opening
    opening_as = ap (by_packets disk) is

    here : is_spared_stated volume (block_of volume.size image) ≡ is_spared_stated volume disk
    here = ap (λ n. is_spared_stated volume (block_of n image)) sized

    pub unspared : (stop : LayerStop) → Lays volume (block_of volume.size image) (Err stop) → Opens (opening size image) disk (Err stop)
    unspared (stops.Missing reason) (e, f) =
        opening_as ∙ ap (λ b. cond b (Ok volume) (Err missing.SparingTable)) (sym here ∙ f) ∙ ap Err (sym e)
    unspared stops.Fault e = tt
    unspared stops.Memory e = tt

    pub opened : (layout : Layout) → Lays volume (block_of volume.size image) (Ok layout)
        → (opening size image ≡ Ok volume) × (layout_seen layout ≡ layout_stated volume disk)
    opened layout (e, f) =
        (opening_as ∙ ap (λ b. cond b (Ok volume) (Err missing.SparingTable)) (sym here ∙ e), f ∙ ap (λ n. layout_stated volume (block_of n image)) sized)

-- a volume that is opened is one over the image
pub over : (volume : Volume) (files : Files) (size bytes : ℕ) → IsAttached Image files → 512 ≤ size → bytes ≡ files.image.size
    → IsBounded size (bytes / size) volume → IsOver volume files
over volume files size bytes attached large is bounded =
    record {
      attached = attached;
      within = room;
      large = (let e : volume.size ≡ size = bounded.sized in omega arith);
      bounded =
          let P : ℕ → Type 0 = λ n. IsBounded n (bytes / size) volume in
          let Q : ℕ → Type 0 = λ n. IsBounded volume.size n volume in
          subst Q (sym bounded.counted) (subst P (sym bounded.sized) bounded);
    }
  where
    room : volume.blocks * volume.size ≤ files.image.size
    room =
        let R : ℕ → Type 0 = λ n. volume.blocks * n ≤ files.image.size in
        let S : ℕ → Type 0 = λ n. n * size ≤ files.image.size in
        let T : ℕ → Type 0 = λ n. bytes / size * size ≤ n in
        subst R (sym bounded.sized) (subst S (sym bounded.counted) (subst T is (whole_blocks bytes size (bytes / size) refl)))

pub open_over : (opened : Opened) (files : Files) (size bytes : ℕ) → IsAttached Image files → 512 ≤ size → bytes ≡ files.image.size
    → IsLawful size (bytes / size) opened → IsOpenOver opened files
open_over opened files size bytes attached large is lawful = record {
  over = over opened.volume files size bytes attached large is lawful.bounded;
  laid = lawful.laid;
  taken = lawful.taken;
}

-- what was opened at a block size was opened of the image
pub of_image : (size : ℕ) (image : List ℕ) (found : Opened) → Opens (opening size image) (block_of size image) (Ok found) → found.volume.size ≡ size
    → IsOpenedOf image found
of_image size image found (e, layout) is = record {
  volume = ap (λ n. opening n image) is ∙ e;
  layout = layout ∙ sym (ap (λ n. layout_stated found.volume (block_of n image)) is);
}

of_description : (reason : Missing) → IsOfDescription reason → IsOfVolume reason
of_description missing.TooLarge e = tt
of_description missing.Anchor e = tt
of_description missing.Sequence e = tt
of_description (missing.Profile item) e = e
of_description missing.Layout e = tt
of_description missing.SparingTable e = absurd e
of_description missing.FileSet e = e
of_description missing.RootDirectory e = e
of_description missing.WriteProtected e = e

pub of_volume : (stop : LayerStop) → RefusesDescription stop → RefusesVolume stop
of_volume (stops.Missing reason) e = of_description reason e
of_volume stops.Fault e = tt
of_volume stops.Memory e = tt

pub of_table : (stop : LayerStop) → IsTableStop stop → RefusesVolume stop
of_table (stops.Missing reason) e = let P : Missing → Type 0 = λ m. IsOfVolume m in subst P (sym e) tt
of_table stops.Fault e = tt
of_table stops.Memory e = tt
