use Rattle.std.proofs.Common.{◌≡◌, ◌∙◌, ap, sym, subst, ℕ, List, length, min, false}
use Rattle.udf_outside.specs.Stops.{slice_of, put}
use Rattle.udf_outside.specs.declared.memory.range.Range.{Range}
use Rattle.udf_outside.specs.Ranges.{covers}
use Rattle.udf_outside.specs.Refill.{Refills, is_spared}
use Rattle.udf_outside.specs.Tracked.{Tracked}
use Rattle.udf_outside.specs.Undo.{part_bytes}
use Rattle.udf_outside.proofs.Refilling.{refills_spared}
use Rattle.udf_outside.proofs.memory.file.MemFile.refilled.Goals as goal

pub returns : goal.returns
returns c =
    let old = c.self.inside.bytes in
    let filled = c.fill_ranges.new.left in
    let range = c.unwrap_or-range.result in
    let place : c.min-at.result ≡ min range.at (length old) = c.min-at.ensures ∙ ap (λ (n : ℕ). min range.at n) c.len.ensures in
    let kept : part_bytes c.in_ok-kept.kept ≡ slice_of old (min range.at (length old)) range.len = c.in_ok-kept.ensures ∙ ap (λ (at : ℕ). slice_of old at range.len) place in
    let left : c.put_part.new.self ≡ put filled (min range.at (length old)) (slice_of old (min range.at (length old)) range.len) =
    c.in_ok-put_part.ensures ∙ ap (λ (at : ℕ). put filled at (part_bytes c.in_ok-kept.kept)) place ∙ ap (λ (l : List ℕ). put filled (min range.at (length old)) l) kept in
    subst (λ (file : Tracked). Refills c.args.fill (covers file.ranges) (is_spared c.args.spared) file.bytes c.put_part.new.self) c.self.view_is
    (subst (λ (new : List ℕ). Refills c.args.fill (covers c.self.inside.ranges.items) (is_spared c.args.spared) old new) (sym left)
    (refills_spared c.args.fill (covers c.self.inside.ranges.items) old filled c.args.spared range c.unwrap_or-range.ensures
    (subst (λ (l : List Range). Refills c.args.fill (covers l) (λ i. false) old filled) c.deref.ensures.value c.in_ok-fill_ranges.ensures)))
