use Rattle.std.proofs.Common.{arith, ap, sym, ◌∙◌, ◌≡◌, ℕ, ◌+◌, ◌-◌, length}
use borrow.Rule.Slice.PartMut.{put_mid}
use Rattle.udf_model.specs.Tag.{retagged}
use Rattle.udf_model.specs.Bytes.{written_at}
use Rattle.udf_space.specs.Bits.{packed}
use Rattle.udf_space.specs.Area.{encoded, headed}
use Rattle.udf_space.proofs.Packing.{bits_length, stored_packed}
use Rattle.udf_space.proofs.Encoding.{put_written}
use Rattle.udf_space.proofs.bitmap.Bitmap.encode.Goals as goal

pub slice_bounds-copy_from_slice-end : goal.slice_bounds-copy_from_slice-end
slice_bounds-copy_from_slice-end c =
    omega (arith, bits_length c.self.inside.blocks c.self.inside.bytes.items, ap length c.self.view_is, c.self.invariant.long, c.self.inside.bytes.ok.0)

pub returns : goal.returns
unfolding encoded
returns c =
    let blocks = c.self.inside.blocks in
    let items = c.self.inside.bytes.items in
    let many : blocks ≡ length c.args.self.now = sym (bits_length blocks items) ∙ ap length c.self.view_is in
    let bits : items ≡ packed c.args.self.now = sym (stored_packed blocks items c.self.invariant) ∙ ap packed c.self.view_is in
    let m : ℕ = c.len-end.result in
    let copied : c.copy_from_slice.new.self ≡ items = c.copy_from_slice.ensures.after ∙ c.deref.ensures.value in
    c.retag.ensures.value ∙ ap (retagged c.args.location 0) (c.put_header.ensures
    ∙ ap (λ n. headed c.args.version c.args.serial n (put_mid 24 (24 + m - 24) c.args.into.now c.copy_from_slice.new.self)) many
    ∙ ap (headed c.args.version c.args.serial (length c.args.self.now)) (ap (put_mid 24 (24 + m - 24) c.args.into.now) copied
    ∙ put_written m c.args.into.now items (omega (arith, c.len-end.ensures, c.self.inside.bytes.ok.0)) ∙ ap (λ xs. written_at 24 xs c.args.into.now) bits))
