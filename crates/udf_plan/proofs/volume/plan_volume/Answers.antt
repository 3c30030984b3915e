use Rattle.std.proofs.Common.{◌≡◌, ◌++◌, [], ℕ, List, true, is_ok, subst, ap, ◌∙◌}
use Rattle.udf_model.specs.Image.{block_of}
use Rattle.udf_outside.specs.Stops.{Held, bytes_of}
use Rattle.udf_outside.specs.Sectors.{disk_of}
use Rattle.udf_outside.specs.declared.bench.Role.TheVariants.{Image}
use Rattle.udf_volume_model.specs.Edits.{look}
use Rattle.udf_volume_model.specs.Opened.{is_opened, volume_mended, plan_of}
use Rattle.udf_volume_model.specs.Plans.{planned}
use Rattle.udf_volume_model.specs.SparingRule.{copies_of}
use Rattle.udf_volume.specs.Areas.{sparing_seen}
use Rattle.udf_volume.proofs.Openable.{opened_is}
use Rattle.udf_volume.proofs.Described.{opened_ok}
use Rattle.udf_blocks.specs.PlanFor.{IsPlanFor}
use Rattle.udf_wanted.specs.Wanted.{LookAlike, changed}
use Rattle.udf_plan.specs.Stated.{sequence_stated, anchors_stated}
use Rattle.udf_wanted.proofs.Looking.{both}
use Rattle.udf_plan.proofs.Exact.{exact, ok_both}
use Rattle.udf_plan.proofs.volume.plan_volume.Goals as goal

pub returns-clause-plan : goal.returns-clause-plan
returns-clause-plan g c = λ tells opened.
    let v = c.args.opened.now.volume in
    let image : List ℕ = bytes_of Image (g.B.Bench.held c.args.bench.now) in
    let o = opened_ok v.size image v opened.volume in
    let is : is_opened v.size image ≡ true = opened_is v.size image ∙ ap is_ok opened.volume in
    let tables : List ℕ → List (ℕ × List ℕ) = λ bytes. copies_of v.size (block_of v.size bytes) (sparing_seen v) in
    let once : g.B.Bench.held c.put_sequence.new.bench ≡ g.B.Bench.held c.args.bench.now = c.in_ok-put_sequence.ensures.reads.held in
    let twice : g.B.Bench.held c.put_anchors.new.bench ≡ g.B.Bench.held c.args.bench.now = c.in_ok-put_anchors.ensures.reads.held ∙ once in
    let thrice : g.B.Bench.held c.put_tables.new.bench ≡ g.B.Bench.held c.args.bench.now = c.in_ok-put_tables.ensures.reads.held ∙ twice in
    let first : LookAlike c.put_sequence.new.wanted ([] ++ sequence_stated v image) =
    subst (λ (base : List (ℕ × List ℕ)). LookAlike c.put_sequence.new.wanted (base ++ sequence_stated v image)) c.new-wanted.ensures
    (c.in_ok-put_sequence.ensures.put tells) in
    let second : LookAlike c.put_anchors.new.wanted (c.put_sequence.new.wanted ++ anchors_stated c.args.opened.now image) =
    subst (λ (h : Held). LookAlike c.put_anchors.new.wanted (c.put_sequence.new.wanted ++ anchors_stated c.args.opened.now (bytes_of Image h))) once
    (c.in_ok-put_anchors.ensures.put tells) in
    let third : LookAlike c.put_tables.new.wanted (c.put_anchors.new.wanted ++ tables image) =
    subst (λ (h : Held). LookAlike c.put_tables.new.wanted (c.put_anchors.new.wanted ++ tables (bytes_of Image h))) twice
    (c.in_ok-put_tables.ensures.put tells) in
    ok_both c.plan_wanted.result
    (λ plan. (n : ℕ) → planned n plan.blocks ≡ changed (disk_of v.size (g.B.Bench.held c.put_tables.new.bench) n)
    (look n c.put_tables.new.wanted (disk_of v.size (g.B.Bench.held c.put_tables.new.bench) n)))
    (IsPlanFor v) (λ plan. plan.blocks ≡ plan_of v.size image (volume_mended v.size image))
    (λ plan has for. exact v.size image c.args.opened.now o.0 o.1 opened.layout c.requires.over.over.large is c.put_tables.new.wanted plan.blocks
    (both [] c.put_sequence.new.wanted c.put_tables.new.wanted (sequence_stated v image) (anchors_stated c.args.opened.now image ++ tables image) first
    (both c.put_sequence.new.wanted c.put_anchors.new.wanted c.put_tables.new.wanted (anchors_stated c.args.opened.now image) (tables image) second third)) for.lawful.ascends
    (subst (λ (h : Held). (n : ℕ) → planned n plan.blocks ≡ changed (disk_of v.size h n) (look n c.put_tables.new.wanted (disk_of v.size h n))) thrice has))
    (c.plan_wanted.ensures.plan tells) c.plan_wanted.ensures.lawful
