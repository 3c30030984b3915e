use Rattle.std.proofs.Common.{◌≡◌, ◌+◌, ◌++◌, ◌/◌, ℕ, length, arith, refl, sym, ◌∙◌, ap, subst}
use Rattle.std.specs.List.{flat_map}
use Rattle.udf_model.proofs.Sizes.{size_cases}
use Rattle.udf_outside.specs.Stops.{Held, bytes_of, put, LeavesOnly}
use Rattle.udf_outside.specs.declared.bench.Role.TheVariants.{Image, Side}
use Rattle.udf_redo.specs.declared.head.LogHead.{LogHead}
use Rattle.udf_redo.specs.Log.{head_bytes, record_bytes}
use Rattle.udf_redo.specs.Sealing.{head_for}
use Rattle.udf_redo.specs.Front.{IsShut}
use Rattle.udf_redo.specs.Runs.{IsLogging}
use Rattle.udf_redo.proofs.Logging.{quiet_logging, then_logging}
use Rattle.udf_redo.proofs.Reading.{Fits, lawful_from}
use Rattle.udf_redo.proofs.Logged.{head_new, records_new, closed_new, open_new, fits_for, head_for_lawful, of_for, numbers_for, blocks_inside}
use Rattle.udf_redo.proofs.Planning.{plan_blocks, plan_below, plan_apart}
use Rattle.udf_redo.proofs.written.write_log.Goals as goal

pub returns-in_err-block-clause-moments : goal.returns-in_err-block-clause-moments
returns-in_err-block-clause-moments g c tells =
    let start = g.B.Bench.held c.args.bench.now in
    quiet_logging start start refl (c.requires.synced tells) (c.requires.free tells)

pub returns-in_err-head-clause-moments : goal.returns-in_err-head-clause-moments
returns-in_err-head-clause-moments g c tells =
    quiet_logging (g.B.Bench.held c.args.bench.now) _ c.head_of.ensures.reads.held (c.requires.synced tells) (c.requires.free tells)

pub head_of-requires-clause-within : goal.head_of-requires-clause-within
head_of-requires-clause-within g c =
    blocks_inside _ c.args.plan.now.size c.args.blocks (c.args.sealed.first + c.args.sealed.count) c.requires.image_blocks c.requires.plan.sealed_inside

pub write_body-requires-clause-size : goal.write_body-requires-clause-size
write_body-requires-clause-size g c = omega (arith, (size_cases c.args.plan.now.size c.requires.plan.size).1, c.in_ok-head.ensures.size)

pub write_body-requires-clause-blocks : goal.write_body-requires-clause-blocks
write_body-requires-clause-blocks g c =
    plan_blocks c.args.plan.now c.in_ok-head.head.size (sym c.in_ok-head.ensures.size) c.requires.plan.lawful

pub returns-in_err-write_body-clause-moments : goal.returns-in_err-write_body-clause-moments
returns-in_err-write_body-clause-moments g c tells =
    let start = g.B.Bench.held c.args.bench.now in
    let middle = g.B.Bench.held c.make_front.new.bench in
    let first : LeavesOnly start middle (IsLogging (bytes_of Image start)) =
    subst (λ (h : Held). LeavesOnly h middle (IsLogging (bytes_of Image h))) c.head_of.ensures.reads.held (c.make_front.ensures.moments tells) in
    let image : bytes_of Image middle ≡ bytes_of Image start = c.make_front.ensures.image tells ∙ ap (λ (h : Held). bytes_of Image h) c.head_of.ensures.reads.held in
    then_logging start middle _ first image (c.in_ok-make_front.ensures.shut tells) (c.write_body.ensures.moments tells)

pub returns-clause-moments : goal.returns-clause-moments
returns-clause-moments g c tells =
    let start = g.B.Bench.held c.args.bench.now in
    let middle = g.B.Bench.held c.make_front.new.bench in
    let first : LeavesOnly start middle (IsLogging (bytes_of Image start)) =
    subst (λ (h : Held). LeavesOnly h middle (IsLogging (bytes_of Image h))) c.head_of.ensures.reads.held (c.make_front.ensures.moments tells) in
    let image : bytes_of Image middle ≡ bytes_of Image start = c.make_front.ensures.image tells ∙ ap (λ (h : Held). bytes_of Image h) c.head_of.ensures.reads.held in
    then_logging start middle _ first image (c.in_ok-make_front.ensures.shut tells) (c.write_body.ensures.moments tells)

pub returns-clause-closed : goal.returns-clause-closed
returns-clause-closed g c tells =
    let plan = c.args.plan.now in
    let edits = plan.blocks in
    let image = bytes_of Image (g.B.Bench.held c.args.bench.now) in
    let head = head_for plan c.args.blocks c.args.sealed image in
    let ranges = c.in_ok-head.ensures.numbers in
    let blocks = plan_blocks plan plan.size refl c.requires.plan.lawful in
    let below = plan_below c.args.blocks edits c.requires.plan.inside in
    let fits : Fits head = fits_for plan c.args.blocks c.args.sealed image c.requires.plan ranges.0 ranges.1 in
    let numbers = numbers_for plan c.args.blocks c.args.sealed image c.requires.plan ranges.0 ranges.1 below in
    let middle = bytes_of Side (g.B.Bench.held c.make_front.new.bench) in
    let new = bytes_of Side (g.B.Bench.held c.write_body.new.bench) in
    let same : c.in_ok-head.head ≡ head = c.in_ok-head.ensures.head tells in
    let is : new ≡ put middle 9 (head_bytes head ++ flat_map record_bytes edits) =
    c.in_ok-write_body.ensures.side tells ∙ ap (λ (h : LogHead). put middle 9 (head_bytes h ++ flat_map record_bytes edits)) same in
    let shut : IsShut middle = c.in_ok-make_front.ensures.shut tells in
    closed_new head edits fits refl blocks numbers middle new shut is

pub returns-clause-head : goal.returns-clause-head
returns-clause-head g c tells =
    let plan = c.args.plan.now in
    let edits = plan.blocks in
    let image = bytes_of Image (g.B.Bench.held c.args.bench.now) in
    let head = head_for plan c.args.blocks c.args.sealed image in
    let ranges = c.in_ok-head.ensures.numbers in
    let blocks = plan_blocks plan plan.size refl c.requires.plan.lawful in
    let below = plan_below c.args.blocks edits c.requires.plan.inside in
    let fits : Fits head = fits_for plan c.args.blocks c.args.sealed image c.requires.plan ranges.0 ranges.1 in
    let numbers = numbers_for plan c.args.blocks c.args.sealed image c.requires.plan ranges.0 ranges.1 below in
    let middle = bytes_of Side (g.B.Bench.held c.make_front.new.bench) in
    let new = bytes_of Side (g.B.Bench.held c.write_body.new.bench) in
    let same : c.in_ok-head.head ≡ head = c.in_ok-head.ensures.head tells in
    let is : new ≡ put middle 9 (head_bytes head ++ flat_map record_bytes edits) =
    c.in_ok-write_body.ensures.side tells ∙ ap (λ (h : LogHead). put middle 9 (head_bytes h ++ flat_map record_bytes edits)) same in
    let shut : IsShut middle = c.in_ok-make_front.ensures.shut tells in
    head_new head edits fits refl blocks numbers middle new shut is

pub returns-clause-records : goal.returns-clause-records
returns-clause-records g c tells =
    let plan = c.args.plan.now in
    let edits = plan.blocks in
    let image = bytes_of Image (g.B.Bench.held c.args.bench.now) in
    let head = head_for plan c.args.blocks c.args.sealed image in
    let ranges = c.in_ok-head.ensures.numbers in
    let blocks = plan_blocks plan plan.size refl c.requires.plan.lawful in
    let below = plan_below c.args.blocks edits c.requires.plan.inside in
    let fits : Fits head = fits_for plan c.args.blocks c.args.sealed image c.requires.plan ranges.0 ranges.1 in
    let numbers = numbers_for plan c.args.blocks c.args.sealed image c.requires.plan ranges.0 ranges.1 below in
    let middle = bytes_of Side (g.B.Bench.held c.make_front.new.bench) in
    let new = bytes_of Side (g.B.Bench.held c.write_body.new.bench) in
    let same : c.in_ok-head.head ≡ head = c.in_ok-head.ensures.head tells in
    let is : new ≡ put middle 9 (head_bytes head ++ flat_map record_bytes edits) =
    c.in_ok-write_body.ensures.side tells ∙ ap (λ (h : LogHead). put middle 9 (head_bytes h ++ flat_map record_bytes edits)) same in
    let shut : IsShut middle = c.in_ok-make_front.ensures.shut tells in
    records_new head edits fits refl blocks numbers middle new shut is

pub returns-clause-log : goal.returns-clause-log
returns-clause-log g c tells =
    let plan = c.args.plan.now in
    let edits = plan.blocks in
    let image = bytes_of Image (g.B.Bench.held c.args.bench.now) in
    let head = head_for plan c.args.blocks c.args.sealed image in
    let ranges = c.in_ok-head.ensures.numbers in
    let blocks = plan_blocks plan plan.size refl c.requires.plan.lawful in
    let below = plan_below c.args.blocks edits c.requires.plan.inside in
    let fits : Fits head = fits_for plan c.args.blocks c.args.sealed image c.requires.plan ranges.0 ranges.1 in
    let numbers = numbers_for plan c.args.blocks c.args.sealed image c.requires.plan ranges.0 ranges.1 below in
    let middle = bytes_of Side (g.B.Bench.held c.make_front.new.bench) in
    let new = bytes_of Side (g.B.Bench.held c.write_body.new.bench) in
    let same : c.in_ok-head.head ≡ head = c.in_ok-head.ensures.head tells in
    let is : new ≡ put middle 9 (head_bytes head ++ flat_map record_bytes edits) =
    c.in_ok-write_body.ensures.side tells ∙ ap (λ (h : LogHead). put middle 9 (head_bytes h ++ flat_map record_bytes edits)) same in
    let shut : IsShut middle = c.in_ok-make_front.ensures.shut tells in
    let lawful = head_for_lawful plan c.args.blocks c.args.sealed image c.requires.plan ranges.0 ranges.1 in
    let count : length image / plan.size ≡ c.args.blocks = ap (λ (n : ℕ). n / plan.size) (sym (g.met.B.Bench.sizes c.args.bench.now Image tells c.requires.image)) ∙ c.requires.image_blocks in
    let of = of_for plan c.args.blocks c.args.sealed image c.requires.plan ranges.0 ranges.1 count in
    let sectors = lawful_from head 0 edits c.requires.plan.lawful.ascends below (plan_apart c.args.blocks c.args.sealed plan c.requires.plan) in
    open_new head edits fits refl blocks numbers middle new shut is image lawful sectors of
