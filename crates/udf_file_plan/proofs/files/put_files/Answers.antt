use Rattle.std.proofs.Common.{rules, ◌≡◌, ◌∙◌, sym, ap, refl, subst, arith, List, ℕ, ◌++◌, length}
use Rattle.udf_outside.specs.Stops.{Held, bytes_of}
use Rattle.udf_outside.specs.declared.bench.Role.TheVariants.{Image}
use Rattle.udf_file_model.specs.Listing as listing
use Rattle.udf_outside.specs.Sectors.{disk_of}
use Rattle.udf_file_model.specs.Listing.{volume_of}
use Rattle.udf_rules_model.specs.Files.{files_in, frame_in}
use Rattle.udf_wanted.specs.Wanted.{LookAlike, differing}
use Rattle.udf_files.specs.Files.{places_in}
use Rattle.udf_tree_model.specs.Frame.{Frame}
use Rattle.udf_tree.specs.Survey.{IsSurvey}
use Rattle.udf_file_mends.specs.Mends.{file_edits, mend_of}
use Rattle.udf_file_mends.specs.Repairable.{IsRepairable}
use Rattle.udf_file_plan.specs.Base.{PutsOf, listed}
use Rattle.udf_file_plan.proofs.Along.{entries_begin, order_ends, order_goes_on}
use Rattle.udf_file_plan.proofs.Apart.{on_disk}
use Rattle.udf_file_plan.proofs.Bodies.{written_back}
use Rattle.udf_file_plan.proofs.files.put_files.Goals as goal

pub loop-id-init : goal.loop-id-init
loop-id-init g c = record {
  put = λ tells f told ok. entries_begin f (listed c.args.files.now.volume (g.B.Bench.held c.args.bench.now) (places_in c.args.files.now)) c.args.files.now.survey c.args.wanted.now;
  writable = c.requires.writable;
  block = c.requires.room;
  room = search rules;
  files = refl;
  held = refl;
  calm = refl;
}

pub loop-id-preserved : goal.loop-id-preserved
loop-id-preserved g c =
    let same : length c.put_node.new.room ≡ c.loop-id.room.len = search rules in
    record {
      put = λ tells f told ok.
          let v : Held → listing.Volume = λ h. listed c.args.files.now.volume h (places_in c.args.files.now) in
          let x = c.args.files.now.survey in
          order_goes_on f (v (g.B.Bench.held c.args.bench.now)) x c.args.wanted.now told c.in_order-order.result.now c.in_order-order.ensures.order
          c.loop-id.wanted c.put_node.new.wanted c.loop-id.id-index _ c.loop-id-test.true (c.loop-id.invariant.put tells f told ok)
          (λ a there. subst (λ (h : Held). PutsOf (v h) c.loop-id.wanted c.put_node.new.wanted (mend_of f (v h) a)) c.loop-id.invariant.held
          (c.in_ok-put_node.ensures.put tells f a
          (subst (λ (h : Held). IsSurvey f (v h) x) (sym c.loop-id.invariant.held) told)
          (subst (λ (h : Held). IsRepairable f (v h)) (sym c.loop-id.invariant.held) ok) there));
      writable = c.in_ok-put_node.ensures.writable;
      block = c.in_ok-put_node.ensures.block ∙ c.loop-id.invariant.block;
      room = ap length (written_back c.loop-id.room.len c.put_node.new.room c.loop-id.room.items same) ∙ c.in_ok-put_node.ensures.room ∙ ap length c.deref_mut.ensures.value ∙ c.loop-id.invariant.room;
      files = c.in_ok-put_node.ensures.reads.files ∙ c.loop-id.invariant.files;
      held = c.in_ok-put_node.ensures.reads.held ∙ c.loop-id.invariant.held;
      calm = c.in_ok-put_node.ensures.reads.calm ∙ c.loop-id.invariant.calm;
    }

pub returns-clause-put : goal.returns-clause-put
returns-clause-put g c tells are ok =
    let volume = c.args.files.now.volume in
    let image : List ℕ = bytes_of Image (g.B.Bench.held c.args.bench.now) in
    let f : Frame = frame_in volume image in
    let x = c.args.files.now.survey in
    let same : listed volume (g.B.Bench.held c.args.bench.now) (places_in c.args.files.now) ≡ files_in volume image = ap (volume_of volume.size image) are.places_are in
    let told = subst (λ (v : listing.Volume). IsSurvey f v x) (sym same) are.survey_is in
    let may = subst (λ (v : listing.Volume). IsRepairable f v) (sym same) ok in
    subst (λ (v : listing.Volume). LookAlike c.loop-id.wanted (c.args.wanted.now ++ differing (disk_of volume.size (g.B.Bench.held c.args.bench.now)) (file_edits f v))) same
    (order_ends f (listed volume (g.B.Bench.held c.args.bench.now) (places_in c.args.files.now)) x c.args.wanted.now told c.in_order-order.result.now c.in_order-order.ensures.order
    c.loop-id.wanted c.loop-id.id-index (omega (arith, c.loop-id-test.false)) (c.loop-id.invariant.put tells f told may))

pub returns-clause-on : goal.returns-clause-on
returns-clause-on g c tells are ok =
    let image : List ℕ = bytes_of Image (g.B.Bench.held c.args.bench.now) in
    on_disk (frame_in c.args.files.now.volume image) (files_in c.args.files.now.volume image) ok c.loop-id.wanted c.args.wanted.now (returns-clause-put g c tells are ok)
