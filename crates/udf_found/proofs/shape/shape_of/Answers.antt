use Rattle.std.proofs.Common.{rules, ℕ, List, length, arith, sym, ap, ◌∙◌, subst}
use Rattle.udf_model.specs.Bytes.{IsBytes}
use Rattle.udf_file_model.specs.Scan.{fids, fids_of}
use Rattle.udf_tree_model.specs.Frame.{parent_length}
use Rattle.udf_found.specs.Parents.{only_parent}
use Rattle.udf_found.proofs.Told.{bytes_are, good_is, pieces_are}
use Rattle.udf_found.proofs.shape.shape_of.Goals as goal

pub returns : goal.returns
returns c v s b l k =
    let read_bytes : IsBytes c.args.block.now = search rules in
    let content_bytes : IsBytes c.args.content.now = search rules in
    record {
      directory = c.is_directory.ensures;
      links = c.links.ensures;
      information = c.info_length.ensures;
      id = c.id.ensures;
      stream = c.stream.ensures;
      embedded = c.embedded_in.ensures;
      pieces = pieces_are v c.args.at c.args.entry.now c.args.list.now _ (omega (arith, s, c.requires)) l c.in_ok-pieces_of.ensures;
      good = c.good.ensures ∙ good_is v c.args.at c.args.entry.now c.args.list.now l;
      bytes = c.good_length.ensures ∙ bytes_are v c.args.at c.args.entry.now c.args.list.now l;
      content = ap length k;
      parent_bytes = c.parent_fids.ensures.bytes ∙ ap (λ (n : ℕ). parent_length (fids_of (fids n c.args.content.now))) (sym s) ∙ ap (λ (b : List ℕ). parent_length (fids_of (fids v.size b))) k;
      block_bytes = subst IsBytes b read_bytes;
      content_bytes = subst IsBytes k content_bytes;
      parent = c.parent_fids.ensures.only ∙ ap (λ (n : ℕ). only_parent n c.args.content.now) (sym s) ∙ ap (only_parent v.size) k;
    }
