use Rattle.std.proofs.Common.{◌≡◌, ◌∙◌, ap, [], slice_index}
use Rattle.std.proofs.lemmas.Option.{get_or_from_slice_get}
use Rattle.udf_model.specs.Bytes.{number_at}
use Rattle.udf_volume_model.specs.Sequence.{Descriptor}
use Rattle.udf_field.specs.FieldView.{span_at, long_at}
use Rattle.udf_volume.specs.declared.volume.Upper.TheVariants.{Absent}
use Rattle.udf_volume.specs.Led.{led_seen}
use Rattle.udf_volume.specs.Opened.{volume_by, bitmap_in, is_guarded}
use Rattle.udf_volume.proofs.Opening.{which_back}
use Rattle.udf_volume.proofs.Leads.{sector_is}
use Rattle.udf_volume.proofs.open.volume_of.Goals as goal

pub returns : goal.returns
unfolding volume_by
returns c = λ described here.
    let logical = c.fields-logical_fields.ensures.fields in
    let partition : c.fields-partition_fields.result ≡ described.body =
    c.fields-partition_fields.ensures.fields
    ∙ ap (λ (d : Descriptor). d.body) (c.index-partition.ensures ∙ get_or_from_slice_get c.args.led.now.descriptors.items c.args.at described _ here) in
    let led = led_seen c.args.led.now in
    let leading = c.requires.leading in
    λ i. record {
      size = c.args.size;
      blocks = c.args.blocks;
      anchor = c.args.led.now.place;
      main = c.args.led.now.anchor.main;
      reserve = c.args.led.now.anchor.reserve;
      kept = which_back c.args.led.now.which i;
      count = (c.len.ensures ∙ c.args.led.now.descriptors.ok.0) i;
      pvd = sector_is led 1 [] _ _ leading.primary c.sector_at.ensures i;
      lvd = sector_is led 6 [] _ _ leading.logical c.sector_at-2.ensures i;
      pd = sector_is led 5 _ _ _ c.requires.partition c.sector_at-3.ensures i;
      info = c.information_sector.ensures i;
      shape = record { base = 0; sparing = c.first_sparing.ensures i; upper = Absent };
      start = (c.u32_at.ensures ∙ ap (λ b. number_at 4 b 172) partition) i;
      length = (c.u32_at-2.ensures ∙ ap (λ b. number_at 4 b 176) partition) i;
      bitmap = (c.bitmap.ensures ∙ ap bitmap_in partition) i;
      integrity = (c.span_at.ensures ∙ ap (λ b. span_at b 416) logical) i;
      file_set = (c.long_at.ensures ∙ ap (λ b. long_at b 232) logical) i;
      revision = (c.u16_at.ensures ∙ ap (λ b. number_at 2 b 224) logical) i;
      access = (c.u32_at-3.ensures ∙ ap (λ b. number_at 4 b 168) partition) i;
      guarded = (c.is_guarded.ensures ∙ ap is_guarded (c.u8_at.ensures ∙ ap (λ b. slice_index b 226) logical)) i;
    }
