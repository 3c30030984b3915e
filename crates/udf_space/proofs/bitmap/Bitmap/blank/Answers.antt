use Rattle.std.proofs.Common.{rules, arith, ap, ◌∙◌, ◌≡◌, replicate}
use Rattle.std.proofs.lemmas.List.{with_items_is}
use Rattle.udf_space.specs.Bits.{bits_of, bytes_for}
use Rattle.udf_space.proofs.Places.{blank_bits}
use Rattle.udf_space.proofs.bitmap.Bitmap.blank.Goals as goal

pub returns : goal.returns
returns c =
    let ones : c.in_ok-bytes.bytes.items ≡ replicate (bytes_for c.args.blocks) 255 = search rules in
    ap (bits_of c.args.blocks) (with_items_is c.in_ok-bytes.bytes c.clear_rest.new.bytes (omega (arith, c.clear_rest.ensures.stored.long, c.in_ok-bytes.ensures.len, c.stored_bytes.ensures)))
    ∙ c.clear_rest.ensures.same_bits ∙ ap (bits_of c.args.blocks) (c.deref_mut.ensures.value ∙ ones) ∙ blank_bits c.args.blocks
