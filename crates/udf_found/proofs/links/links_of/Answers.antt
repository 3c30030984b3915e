use Rattle.std.proofs.Common.{◌++◌, List, sym, subst}
use Rattle.udf_tree_model.specs.Frame.{stream_of}
use Rattle.udf_tree_model.specs.Link.{fid_links, pointer_links}
use Rattle.udf_found.specs.declared.link.Link.{Link}
use Rattle.udf_found.specs.Linked.{AreLinks}
use Rattle.udf_found.proofs.Lines.{are_lines, named_lines}
use Rattle.udf_found.proofs.links.links_of.Goals as goal

pub returns : goal.returns
returns c =
    subst (λ (ls : List Link). AreLinks (pointer_links (stream_of c.args.stream) ++ fid_links c.args.size c.args.content.now) ls) (sym c.shrink_to_fit.ensures.items)
    (named_lines _ _ (c.in_ok-add_fids.ensures (stream_of c.args.stream) (are_lines _ _ c.in_ok-links.ensures)))
