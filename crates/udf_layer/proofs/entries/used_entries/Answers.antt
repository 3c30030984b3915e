-- One entry more.
use Rattle.std.proofs.Common.{◌≡◌, ℕ, List, ◌++◌, ◌∷◌, [], length, map, sym, ◌∙◌, ap, subst, arith}
use Rattle.std.specs.List.{range_with_len}
use Rattle.std.proofs.lemmas.List.FromFn.{map-range_with_len_more, length-map-range_with_len}
use Rattle.udf_model.specs.Bytes.{number_at}
use Rattle.udf_layer.proofs.Used.{used_few}
use Rattle.udf_layer.proofs.entries.used_entries.Goals as goal
use Rattle.udf_volume_model.specs.SparingTable.{entries, entry_at, firsts, used_pairs}

pub loop-i-init : goal.loop-i-init
unfolding used_pairs firsts
loop-i-init c = record { packet = c.new-used.ensures.packet; pairs = c.new-used.ensures.pairs }

pub with_entry-requires : goal.with_entry-requires
with_entry-requires c =
    let so_far : List (ℕ × ℕ) = map (entry_at c.args.table.now) (range_with_len 0 c.loop-i.i) in
    record { few = omega (arith, ap (λ (l : List (ℕ × ℕ)). length l) c.loop-i.invariant.pairs, used_few c.args.packet c.args.blocks so_far, length-map-range_with_len (entry_at c.args.table.now) 0 c.loop-i.i) }

pub loop-i-preserved : goal.loop-i-preserved
loop-i-preserved c =
    let so_far : List (ℕ × ℕ) = map (entry_at c.args.table.now) (range_with_len 0 c.loop-i.i) in
    let P : ℕ → Type 0 = λ n. c.loop-i.used.pairs ≡ used_pairs n c.args.blocks so_far → c.in_ok-used.used.pairs ≡ used_pairs n c.args.blocks (so_far ++ c.entry.result ∷ []) in
    record {
      packet = c.in_ok-used.ensures.packet ∙ c.loop-i.invariant.packet;
      pairs = subst P c.loop-i.invariant.packet (c.in_ok-used.ensures.pairs so_far) c.loop-i.invariant.pairs
          ∙ ap (used_pairs c.args.packet c.args.blocks)
          (ap (λ (p : ℕ × ℕ). so_far ++ p ∷ []) c.entry.ensures ∙ sym (map-range_with_len_more (entry_at c.args.table.now) 0 c.loop-i.i c.loop-i.i (omega arith)));
    }

pub returns-clause-pairs : goal.returns-clause-pairs
unfolding entries
returns-clause-pairs c =
    let whole : c.loop-i.i ≡ c.u16_at-i-end.result = omega arith in
    c.loop-i.invariant.pairs
    ∙ ap (λ n. used_pairs c.args.packet c.args.blocks (map (entry_at c.args.table.now) (range_with_len 0 n)))
    (whole ∙ c.u16_at-i-end.ensures ∙ ap (λ (b : List ℕ). number_at 2 b 48) c.over.ensures)
