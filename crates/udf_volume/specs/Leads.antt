-- The descriptors by which a volume is stated, by their indexes in a list.
use Rattle.std.specs.Prelude.{◌≡◌, ◌<◌, List, [], length, Some, IfSome}
use Rattle.udf_volume_model.specs.Sequence.{Descriptor}
use Rattle.udf_volume_model.specs.Prevailing.{prevailing_index}
use Rattle.udf_volume_model.specs.Stated as stated
use Rattle.udf_volume.specs.declared.leading.Leading.{Leading}

-- they prevail, and the primary and the logical volume descriptor are there
pub record IsLeading (list : List Descriptor) (leading : Leading) : Type 0 where
  pub primary : Some leading.primary ≡ prevailing_index 1 [] list
  pub primary_inside : leading.primary < length list
  pub logical : Some leading.logical ≡ prevailing_index 6 [] list
  pub logical_inside : leading.logical < length list
  pub partition : leading.partition ≡ prevailing_index 5 (stated.partition_number (stated.logical list)) list
  pub partition_inside : IfSome leading.partition (λ i. i < length list)
  pub information : leading.information ≡ prevailing_index 4 stated.volume_information list
  pub information_inside : IfSome leading.information (λ i. i < length list)
