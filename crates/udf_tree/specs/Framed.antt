-- The frame in which the files of a volume are surveyed, by where its file set lies.
use Rattle.udf_volume_model.specs.FileSet.{Site, after, first_block, is_fixed, root_in, system_in}
use Rattle.udf_tree_model.specs.Frame.{Frame}

abbrev pub frame_of : Site → Frame
frame_of s = record {
  fixed = is_fixed s;
  after = after s;
  file_set = s.extent.at;
  root = root_in (first_block s);
  system = system_in (first_block s);
}
