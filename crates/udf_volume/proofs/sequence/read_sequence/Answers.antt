use Rattle.udf_volume.proofs.Extents.{fits, in_numbers}
use Rattle.udf_volume.proofs.sequence.read_sequence.Goals as goal

pub read_descriptors-requires-clause-image : goal.read_descriptors-requires-clause-image
read_descriptors-requires-clause-image g c = record {
  attached = c.requires.over.attached;
  within = fits c.args.volume.now.size c.args.volume.now.blocks c.args.extent.length c.args.extent.start _ _ c.requires.extent c.blocks_of-count.ensures
      c.requires.over.within;
  large = c.requires.over.large;
}

pub read_descriptors-requires-clause-numbers : goal.read_descriptors-requires-clause-numbers
read_descriptors-requires-clause-numbers g c =
    in_numbers c.args.volume.now.size c.args.volume.now.blocks c.args.extent.length c.args.extent.start _ c.requires.extent c.blocks_of-count.ensures
    c.requires.over.bounded.few
