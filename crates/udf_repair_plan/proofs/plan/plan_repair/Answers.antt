use Rattle.std.proofs.Common.{◌≡◌, ◌++◌, ℕ, List, sym, subst, ◌∙◌}
use Rattle.udf_model.specs.Image.{block_of}
use Rattle.udf_outside.specs.Files.{Files}
use Rattle.udf_outside.specs.Sectors.{disk_of}
use Rattle.udf_outside.specs.Stops.{Held, bytes_of}
use Rattle.udf_outside.specs.declared.bench.Role.TheVariants.{Image}
use Rattle.udf_volume_model.specs.Edits.{look}
use Rattle.udf_volume_model.specs.Opened.{plan_of, volume_mended}
use Rattle.udf_volume_model.specs.Plans.{planned}
use Rattle.udf_volume.specs.Over.{IsOver}
use Rattle.udf_file_mends.specs.FileSet.{file_set_edits}
use Rattle.udf_file_mends.specs.Mends.{file_edits}
use Rattle.udf_space_mends.specs.BitmapMend.{bitmap_edits}
use Rattle.udf_space_mends.specs.IntegrityMend.{integrity_edits, origin_of}
use Rattle.udf_space_mends.specs.SlotMend.{recognition_edits}
use Rattle.udf_rules_model.specs.Files.{files_in, frame_in}
use Rattle.udf_rules_model.specs.Findings.{recognition_of}
use Rattle.udf_files.specs.Files.{AreFilesOf}
use Rattle.udf_mended_image.specs.Accepted.{mended}
use Rattle.udf_mended_image.proofs.Accepting.{given}
use Rattle.udf_mended_image.proofs.Given.{ok}
use Rattle.udf_blocks.specs.PlanFor.{IsPlanFor}
use Rattle.udf_wanted.specs.Wanted.{LookAlike, changed, differing}
use Rattle.udf_plan.proofs.Exact.{ok_both}
use Rattle.udf_repair_plan.specs.Put.{all_put}
use Rattle.udf_repair_plan.proofs.Chained.{chained}
use Rattle.udf_repair_plan.proofs.Giving.{planned_all}
use Rattle.udf_repair_plan.proofs.PlannedOver.{planned_free, planned_over}
use Rattle.udf_repair_plan.proofs.plan.plan_repair.Goals as goal

pub put_files-requires-clause-over : goal.put_files-requires-clause-over
put_files-requires-clause-over g c =
    planned_over c.args.files.now.volume c.args.files.now (g.B.Bench.files c.args.bench.now) c.requires.laid c.requires.over c.requires.size c.requires.volume

pub put_file_set-requires-clause-over : goal.put_file_set-requires-clause-over
put_file_set-requires-clause-over g c =
    let over = subst (λ (f : Files). IsOver c.args.files.now.volume f) (sym c.in_ok-put_files.ensures.reads.files) c.requires.over in
    planned_over c.args.files.now.volume c.args.files.now (g.B.Bench.files c.put_files.new.bench) c.requires.laid over c.requires.size c.requires.volume

pub put_bitmap-requires-clause-free : goal.put_bitmap-requires-clause-free
put_bitmap-requires-clause-free g c =
    planned_free c.args.files.now.volume c.args.files.now c.requires.laid c.requires.over.bounded c.requires.volume

pub returns-clause-plan : goal.returns-clause-plan
returns-clause-plan g c = λ tells bytes accepted.
    let v = c.args.files.now.volume in
    let image : List ℕ = bytes_of Image (g.B.Bench.held c.args.bench.now) in
    let is = given v.size image v c.requires.size bytes accepted in
    let disk : ℕ → List ℕ = block_of v.size image in
    let told = c.requires.files tells in
    let draft = c.requires.drafted tells in
    let once : g.B.Bench.held c.put_files.new.bench ≡ g.B.Bench.held c.args.bench.now = c.in_ok-put_files.ensures.reads.held in
    let twice : g.B.Bench.held c.put_file_set.new.bench ≡ g.B.Bench.held c.args.bench.now = c.in_ok-put_file_set.ensures.reads.held ∙ once in
    let thrice : g.B.Bench.held c.put_bitmap.new.bench ≡ g.B.Bench.held c.args.bench.now = c.in_ok-put_bitmap.ensures.reads.held ∙ twice in
    let last : g.B.Bench.held c.put_integrity.new.bench ≡ g.B.Bench.held c.args.bench.now = c.in_ok-put_integrity.ensures.reads.held ∙ thrice in
    let files : List (ℕ × List ℕ) = file_edits (frame_in v image) (files_in v image) in
    let head : Held → List (ℕ × List ℕ) = λ h. file_set_edits (frame_in v (bytes_of Image h)) (files_in v (bytes_of Image h)) in
    let map : Held → List (ℕ × List ℕ) = λ h. bitmap_edits (frame_in v (bytes_of Image h)) (files_in v (bytes_of Image h)) (disk_of v.size h v.lvd) v.length v.bitmap in
    let counts : Held → List (ℕ × List ℕ) = λ h. integrity_edits (frame_in v (bytes_of Image h)) (files_in v (bytes_of Image h)) v.length v.bitmap
    (origin_of (disk_of v.size h v.pvd) (disk_of v.size h v.lvd)) v.integrity in
    let here : AreFilesOf v (bytes_of Image (g.B.Bench.held c.put_files.new.bench)) c.args.files.now = subst (λ (h : Held). AreFilesOf v (bytes_of Image h) c.args.files.now) (sym once) told in
    let put_set : LookAlike c.put_file_set.new.wanted (c.put_files.new.wanted ++ differing disk (head (g.B.Bench.held c.args.bench.now))) =
    subst (λ (h : Held). LookAlike c.put_file_set.new.wanted (c.put_files.new.wanted ++ differing (disk_of v.size h) (head h))) once
    (c.in_ok-put_file_set.ensures.put tells here) in
    let put_map : LookAlike c.put_bitmap.new.wanted (c.put_file_set.new.wanted ++ map (g.B.Bench.held c.args.bench.now)) =
    subst (λ (h : Held). LookAlike c.put_bitmap.new.wanted (c.put_file_set.new.wanted ++ map h)) twice (c.in_ok-put_bitmap.ensures.put tells) in
    let put_counts : LookAlike c.put_integrity.new.wanted (c.put_bitmap.new.wanted ++ counts (g.B.Bench.held c.args.bench.now)) =
    subst (λ (h : Held). LookAlike c.put_integrity.new.wanted (c.put_bitmap.new.wanted ++ counts h)) thrice (c.in_ok-put_integrity.ensures.put tells) in
    let own : LookAlike c.put_plan.new.wanted (c.put_integrity.new.wanted ++ plan_of v.size image (volume_mended v.size image)) =
    subst (λ (blocks : List (ℕ × List ℕ)). LookAlike c.put_plan.new.wanted (c.put_integrity.new.wanted ++ blocks)) draft.own c.in_ok-put_plan.ensures.put in
    let alike : LookAlike c.put_plan.new.wanted (all_put v image) =
    chained c.args.draft.wanted c.put_files.new.wanted c.put_file_set.new.wanted c.put_bitmap.new.wanted c.put_integrity.new.wanted c.put_plan.new.wanted
    (recognition_edits (recognition_of v image) (disk v.pd)) (differing disk files) (differing disk (head (g.B.Bench.held c.args.bench.now))) (map (g.B.Bench.held c.args.bench.now))
    (counts (g.B.Bench.held c.args.bench.now)) (plan_of v.size image (volume_mended v.size image))
    draft.recognised (c.in_ok-put_files.ensures.put tells told (ok image v is)) put_set put_map put_counts own in
    ok_both c.plan_wanted.result
    (λ plan. (n : ℕ) → planned n plan.blocks ≡ changed (disk_of v.size (g.B.Bench.held c.put_integrity.new.bench) n)
    (look n c.put_plan.new.wanted (disk_of v.size (g.B.Bench.held c.put_integrity.new.bench) n)))
    (IsPlanFor v) (λ plan. plan.blocks ≡ plan_of v.size image (mended v.size image))
    (λ plan has for. planned_all image v is c.put_plan.new.wanted plan.blocks alike for.lawful.ascends bytes accepted
    (subst (λ (h : Held). (n : ℕ) → planned n plan.blocks ≡ changed (disk_of v.size h n) (look n c.put_plan.new.wanted (disk_of v.size h n))) last has))
    (c.plan_wanted.ensures.plan tells) c.plan_wanted.ensures.lawful
