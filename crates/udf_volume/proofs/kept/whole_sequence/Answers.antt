use Rattle.std.proofs.Common.{◌≡◌, ◌∙◌, ℕ, List, ap, arith, true}
use Rattle.udf_field.specs.declared.address.Span.{Span}
use Rattle.udf_outside.specs.Sectors.{disk_of}
use Rattle.udf_volume_model.specs.Anchor.{is_extent}
use Rattle.udf_volume_model.specs.Kept.{limit_of, sequence_at}
use Rattle.udf_volume.specs.Seen.{anchor_seen, extent_seen}
use Rattle.udf_volume.proofs.Extents.{fits, in_numbers, named}
use Rattle.udf_volume.proofs.Listing.{sequence_is}
use Rattle.udf_volume.proofs.kept.whole_sequence.Goals as goal

pub read_descriptors-requires-clause-image : goal.read_descriptors-requires-clause-image
read_descriptors-requires-clause-image g c =
    let at = c.args.at in
    let lies : is_extent at.size at.blocks (extent_seen c.extent-extent.result) ≡ true =
    ap (λ (s : Span). is_extent at.size at.blocks (extent_seen s)) c.extent-extent.ensures ∙ named at.size at.blocks (anchor_seen at.anchor) c.args.which c.requires.extents in
    record {
      attached = c.requires.image.attached;
      within = fits at.size at.blocks c.extent-extent.result.length c.extent-extent.result.start _ _ lies c.blocks_of-count.ensures c.requires.image.within;
      large = c.requires.image.large;
    }

pub read_descriptors-requires-clause-numbers : goal.read_descriptors-requires-clause-numbers
read_descriptors-requires-clause-numbers g c =
    let at = c.args.at in
    let lies : is_extent at.size at.blocks (extent_seen c.extent-extent.result) ≡ true =
    ap (λ (s : Span). is_extent at.size at.blocks (extent_seen s)) c.extent-extent.ensures ∙ named at.size at.blocks (anchor_seen at.anchor) c.args.which c.requires.extents in
    in_numbers at.size at.blocks c.extent-extent.result.length c.extent-extent.result.start _ lies c.blocks_of-count.ensures (omega arith)

pub returns-clause-sequence : goal.returns-clause-sequence
returns-clause-sequence g c = λ tells.
    let at = c.args.at in
    let disk : ℕ → List ℕ = disk_of at.size (g.B.Bench.held c.args.bench.now) in
    sequence_is at.size disk c.limit.result c.extent-extent.result.length c.extent-extent.result.start c.blocks_of-count.result
    c.in_ok-list.list.descriptors.items c.in_ok-list.list.is_spoilt _ c.blocks_of-count.ensures
    (c.in_ok-list.ensures.front tells) (c.in_ok-list.ensures.spoilt tells) c.whole_list.ensures.whole
    ∙ ap (λ n. sequence_at at.size disk n (extent_seen c.extent-extent.result)) c.limit.ensures
    ∙ ap (λ (s : Span). sequence_at at.size disk (limit_of at.size (anchor_seen at.anchor)) (extent_seen s)) c.extent-extent.ensures
