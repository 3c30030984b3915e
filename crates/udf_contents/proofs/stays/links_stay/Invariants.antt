use Rattle.std.proofs.Common.{◌≡◌, drop}
use Rattle.std.specs.List.{list_all}
use Rattle.udf_file_model.specs.Listing.{Volume}
use Rattle.udf_tree_model.specs.Frame.{Frame, setting_of, tree_of}
use Rattle.udf_contents.specs.Stays.{Tells, link_holds}
use Rattle.udf_contents.proofs.stays.links_stay.Given as goal

abbrev pub invariant-loop-link : goal.invariant-loop-link
invariant-loop-link l = (f : Frame) (v : Volume) → Tells f v l.held l.selected
    → list_all (link_holds (setting_of f v) (tree_of f v) l.holder.at) (drop l.link-index l.holder.links.items)
    ≡ list_all (link_holds (setting_of f v) (tree_of f v) l.holder.at) l.holder.links.items
