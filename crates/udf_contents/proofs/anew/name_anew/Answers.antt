use Rattle.std.proofs.Common.{List, ℕ, ap, ◌∙◌}
use Rattle.udf_model.specs.Bytes.{number_at}
use Rattle.udf_model.specs.Tag.{retagged}
use Rattle.udf_contents.proofs.Renaming.{renamed}
use Rattle.udf_contents.proofs.anew.name_anew.Goals as goal

pub returns : goal.returns
returns c =
    renamed c.args.fid.now c.args.at c.u16_at-crc_length.result c.u32_at-location.result c.retag.new.area
    (c.u16_at-crc_length.ensures ∙ ap (λ (b : List ℕ). number_at 2 b 10) c.over-fields.ensures)
    (c.u32_at-location.ensures ∙ ap (λ (b : List ℕ). number_at 4 b 12) c.over-fields.ensures)
    (c.retag.ensures.value ∙ ap (retagged c.u32_at-location.result c.u16_at-crc_length.result) c.put_address.ensures)
