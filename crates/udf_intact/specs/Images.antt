-- The same of images: of the volume that is opened in each.
use Rattle.std.specs.Prelude.{ℕ, List, Option, Some, None, Result, Ok, Err}
use Rattle.udf_field.specs.declared.address.Addr.{Addr}
use Rattle.udf_volume_model.specs.Size.{size_of}
use Rattle.udf_layer.specs.declared.missing.Missing.{Missing}
use Rattle.udf_layer.specs.declared.missing.Missing.TheVariants.{Anchor}
use Rattle.udf_volume.specs.Taken.{opening}
use Rattle.udf_volume.specs.declared.volume.Volume.{Volume}
use Rattle.udf_rules_model.specs.Files.{files_in, frame_in}
use Rattle.udf_intact.specs.Paths.{IsIntactPath, KeepsPath}
use Rattle.udf_intact.specs.Steps.{Step, leads}

abbrev pub leads_by : List ℕ → List Step → Result Volume Missing → Option Addr
leads_by image steps (Err missing) = None
leads_by image steps (Ok volume) = leads (frame_in volume image) (files_in volume image) steps (frame_in volume image).root

-- where steps lead from the root of an image with blocks of a size
abbrev pub leads_in : ℕ → List ℕ → List Step → Option Addr
leads_in size image steps = leads_by image steps (opening size image)

abbrev pub IsIntactBy : List ℕ → List Step → Result Volume Missing → Type 0
IsIntactBy image steps (Err missing) = ⊥
IsIntactBy image steps (Ok volume) = IsIntactPath (frame_in volume image) (files_in volume image) steps

-- a path that no damage touches, in such an image
abbrev pub IsIntactIn : ℕ → List ℕ → List Step → Type 0
IsIntactIn size image steps = IsIntactBy image steps (opening size image)

abbrev pub KeepsPathBy : List ℕ → List ℕ → List Step → Result Volume Missing → Result Volume Missing → Type 0
KeepsPathBy image after steps (Ok volume) (Ok other) = KeepsPath (frame_in volume image) (files_in volume image) (frame_in other after) (files_in other after) steps
KeepsPathBy image after steps (Ok volume) (Err missing) = ⊥
KeepsPathBy image after steps (Err missing) other = ⊥

-- the path leads in another image to the entry to which it leads in this one, with the same bytes
abbrev pub KeepsPathIn : ℕ → List ℕ → List ℕ → List Step → Type 0
KeepsPathIn size image after steps = KeepsPathBy image after steps (opening size image) (opening size after)

-- the same of an image whose block size is given, or else found
abbrev pub opened_by : Option ℕ → List ℕ → Result Volume Missing
opened_by None image = Err Anchor
opened_by (Some size) image = opening size image

abbrev pub IsIntactAs : Option ℕ → List ℕ → List Step → Type 0
IsIntactAs given image steps = IsIntactBy image steps (opened_by (size_of given image) image)

abbrev pub KeepsPathAs : Option ℕ → List ℕ → List ℕ → List Step → Type 0
KeepsPathAs given image after steps = KeepsPathBy image after steps (opened_by (size_of given image) image) (opened_by (size_of given after) after)
