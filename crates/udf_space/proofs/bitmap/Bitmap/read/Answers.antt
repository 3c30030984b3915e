use Rattle.std.proofs.Common.{rules, arith, ap, sym, ◌∙◌, ◌≡◌, ℕ, List, Some, None, cond, true, take, drop}
use Rattle.std.proofs.lemmas.List.{with_items_is, take-take}
use Rattle.udf_space.specs.Bits.{bits_of, bytes_for}
use Rattle.udf_space.specs.Area.{bitmap_in, is_bitmap}
use Rattle.udf_space.proofs.Places.{own_bits}
use Rattle.udf_space.proofs.bitmap.Bitmap.read.Goals as goal

pub returns : goal.returns
unfolding bitmap_in
returns c =
    let n = c.args.blocks in
    let front : List ℕ = drop 24 c.args.area.now in
    let lawful : is_bitmap n c.args.area.now ≡ true = search rules in
    let items : c.in_ok-bytes.bytes.items ≡ take (bytes_for n) front = search rules in
    let whole : bits_of n (take (bytes_for n) front) ≡ bits_of n front = own_bits n (take (bytes_for n) front) front (take-take (bytes_for n) (bytes_for n) front (omega arith)) in
    ap Some (ap (bits_of n) (with_items_is c.in_ok-bytes.bytes c.clear_rest.new.bytes (omega (arith, c.clear_rest.ensures.stored.long, c.in_ok-bytes.ensures.len, c.stored_bytes-end.ensures)))
    ∙ c.clear_rest.ensures.same_bits ∙ ap (bits_of n) (c.deref_mut.ensures.value ∙ items) ∙ whole)
    ∙ sym (ap (λ b. cond b (Some (bits_of n front)) None) lawful)
