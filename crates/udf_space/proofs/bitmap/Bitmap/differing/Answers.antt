use Rattle.std.proofs.Common.{arith, ap, subst, sym, ◌∙◌, ◌≡◌, ◌+◌, ◌<◌, List, ℕ, length, take, sum_by, count_ones, Bool}
use Rattle.std.specs.Int.Bits.{bit_xor}
use Rattle.std.specs.List.{count_by}
use Rattle.std.specs.Simd.Lanes.{zip2}
use Rattle.std.proofs.lemmas.List.{get_or_read}
use Rattle.udf_space.specs.Bits.{bits_of, differ}
use Rattle.udf_space.specs.Stored.{IsStored}
use Rattle.udf_space.proofs.Packing.{bits_length}
use Rattle.udf_space.proofs.Differing.{all_differing, few_differing, more_differing}
use Rattle.udf_space.proofs.bitmap.Bitmap.differing.Goals as goal

-- as many blocks
as_many : (m n : ℕ) (a b : List ℕ) (xs ys : List Bool) → bits_of m a ≡ xs → bits_of n b ≡ ys → length xs ≡ length ys → n ≡ m
as_many m n a b xs ys e f same = omega (arith, bits_length m a, bits_length n b, ap length e, ap length f)

pub index-requires-in-loop-i : goal.index-requires-in-loop-i
index-requires-in-loop-i c =
    let same = as_many c.self.inside.blocks c.other.inside.blocks _ _ _ _ c.self.view_is c.other.view_is c.requires in
    omega (arith, same, c.self.invariant.long, c.other.invariant.long, c.self.inside.bytes.ok.0, c.other.inside.bytes.ok.0)

pub overflow_add-total : goal.overflow_add-total
overflow_add-total c =
    let same = as_many c.self.inside.blocks c.other.inside.blocks _ _ _ _ c.self.view_is c.other.view_is c.requires in
    let two : IsStored c.self.inside.blocks c.other.inside.bytes.items = subst (λ n. IsStored n c.other.inside.bytes.items) same c.other.invariant in
    let within : c.loop-i.i < length c.self.inside.bytes.items = omega (arith, c.self.inside.bytes.ok.0) in
    let most = few_differing c.self.inside.blocks c.self.inside.bytes.items c.other.inside.bytes.items c.loop-i.i c.index.result.now c.index-in-loop-i.result.now c.self.invariant two within
    (get_or_read c.self.inside.bytes.items c.loop-i.i c.index.result.now within c.index.ensures 0) (get_or_read c.other.inside.bytes.items c.loop-i.i c.index-in-loop-i.result.now (omega (arith, two.long, c.self.invariant.long)) c.index-in-loop-i.ensures 0) in
    omega (arith, c.loop-i.invariant, most)

pub loop-i-preserved : goal.loop-i-preserved
loop-i-preserved c =
    let same = as_many c.self.inside.blocks c.other.inside.blocks _ _ _ _ c.self.view_is c.other.view_is c.requires in
    let many : length c.self.inside.bytes.items ≡ length c.other.inside.bytes.items = omega (arith, same, c.self.invariant.long, c.other.invariant.long) in
    let within : c.loop-i.i < length c.self.inside.bytes.items = omega (arith, c.self.inside.bytes.ok.0) in
    ap (λ n. n + count_ones (bit_xor c.index.result.now c.index-in-loop-i.result.now)) c.loop-i.invariant
    ∙ more_differing c.self.inside.bytes.items c.other.inside.bytes.items c.loop-i.i c.index.result.now c.index-in-loop-i.result.now many within
    (get_or_read c.self.inside.bytes.items c.loop-i.i c.index.result.now within c.index.ensures 0) (get_or_read c.other.inside.bytes.items c.loop-i.i c.index-in-loop-i.result.now (omega arith) c.index-in-loop-i.ensures 0)

pub returns : goal.returns
returns c =
    let same = as_many c.self.inside.blocks c.other.inside.blocks _ _ _ _ c.self.view_is c.other.view_is c.requires in
    let one = c.self.inside.bytes.items in
    let other = c.other.inside.bytes.items in
    let two : IsStored c.self.inside.blocks other = subst (λ n. IsStored n other) same c.other.invariant in
    let end : c.loop-i.i ≡ length one = omega (arith, c.self.inside.bytes.ok.0) in
    c.loop-i.invariant ∙ ap (λ n. sum_by count_ones (take n (zip2 bit_xor one other))) end ∙ all_differing c.self.inside.blocks one other c.self.invariant two
    ∙ ap (λ bits. count_by (λ differs. differs) (zip2 differ bits (bits_of c.self.inside.blocks other))) c.self.view_is
    ∙ ap (λ bits. count_by (λ differs. differs) (zip2 differ c.args.self.now bits)) (ap (λ n. bits_of n other) (sym same) ∙ c.other.view_is)
