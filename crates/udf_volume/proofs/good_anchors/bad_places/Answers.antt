use Rattle.std.proofs.Common.{◌≡◌, ◌+◌, ◌<◌, ◌∙◌, ℕ, List, true, false, not, length, take, get_or, rules, sym, ap, subst}
use Rattle.std.proofs.lemmas.List.{append-nil}
use Rattle.udf_outside.specs.Sectors.{disk_of}
use Rattle.udf_volume_model.specs.Rules.{is_good}
use Rattle.udf_volume.specs.Areas.{anchor_stated}
use Rattle.udf_volume.specs.Verdicts.{IsPart}
use Rattle.udf_volume.proofs.Parts.{part_passed, part_pushed, filter_next}
use Rattle.udf_volume.proofs.good_anchors.bad_places.Goals as goal

pub loop-place-preserved-then-is_good : goal.loop-place-preserved-then-is_good
loop-place-preserved-then-is_good g c =
    let lt : c.loop-place.place-index < length c.args.places.now = search rules in
    record {
      files = c.in_ok-read_block.ensures.reads.files ∙ c.loop-place.invariant.files;
      held = c.in_ok-read_block.ensures.reads.held ∙ c.loop-place.invariant.held;
      calm = c.in_ok-read_block.ensures.reads.calm ∙ c.loop-place.invariant.calm;
      part = part_passed c.loop-place.bad.items c.args.places.now c.loop-place.place-index lt c.loop-place.invariant.part;
      bad = λ tells.
          let v = c.args.volume.now in
          let place : ℕ = get_or c.args.places.now c.loop-place.place-index 0 in
          let disk : ℕ → List ℕ = disk_of v.size (g.B.Bench.held c.args.bench.now) in
          let read : c.read_block.new.into ≡ disk place =
          c.in_ok-read_block.ensures.block tells ∙ ap (λ h. disk_of v.size h place) c.loop-place.invariant.held in
          let good : not (is_good (anchor_stated v) place (disk place)) ≡ false =
          ap (λ b. not (is_good (anchor_stated v) place b)) (sym read) ∙ ap not (sym c.if-is_good.ensures) in
          sym (append-nil c.loop-place.bad.items)
          ∙ filter_next (λ n. not (is_good (anchor_stated v) n (disk n))) c.loop-place.bad.items c.args.places.now c.loop-place.place-index false lt good
          (c.loop-place.invariant.bad tells);
    }

pub loop-place-preserved : goal.loop-place-preserved
loop-place-preserved g c =
    let lt : c.loop-place.place-index < length c.args.places.now = search rules in
    record {
      files = c.in_ok-read_block.ensures.reads.files ∙ c.loop-place.invariant.files;
      held = c.in_ok-read_block.ensures.reads.held ∙ c.loop-place.invariant.held;
      calm = c.in_ok-read_block.ensures.reads.calm ∙ c.loop-place.invariant.calm;
      part =
          let P : List ℕ → Type 0 = λ l. IsPart l (take (c.loop-place.place-index + 1) c.args.places.now) in
          subst P (sym c.in_ok-push.ensures.items)
          (part_pushed c.loop-place.bad.items c.args.places.now c.loop-place.place-index lt c.loop-place.invariant.part);
      bad = λ tells.
          let v = c.args.volume.now in
          let place : ℕ = get_or c.args.places.now c.loop-place.place-index 0 in
          let disk : ℕ → List ℕ = disk_of v.size (g.B.Bench.held c.args.bench.now) in
          let read : c.read_block.new.into ≡ disk place =
          c.in_ok-read_block.ensures.block tells ∙ ap (λ h. disk_of v.size h place) c.loop-place.invariant.held in
          let bad : not (is_good (anchor_stated v) place (disk place)) ≡ true =
          ap (λ b. not (is_good (anchor_stated v) place b)) (sym read) ∙ ap not (sym c.if-is_good.ensures) in
          c.in_ok-push.ensures.items
          ∙ filter_next (λ n. not (is_good (anchor_stated v) n (disk n))) c.loop-place.bad.items c.args.places.now c.loop-place.place-index true lt bad
          (c.loop-place.invariant.bad tells);
    }
