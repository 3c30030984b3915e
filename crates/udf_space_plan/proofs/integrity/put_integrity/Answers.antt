use Rattle.std.proofs.Common.{◌≡◌, ◌++◌, ℕ, List, refl, sym, ap, subst, ◌∙◌}
use Rattle.std.specs.Prelude.{Ok}
use Rattle.std.proofs.lemmas.Bool.{ne_eqb}
use Rattle.udf_file_model.specs.Address.{Places}
use Rattle.udf_file_model.specs.Listing.{Volume, volume_of}
use Rattle.udf_file_rules.specs.Right.{IsOfImage, IsRight}
use Rattle.udf_file_rules.proofs.Freed.{free_counted, is_free_count, partition_stands}
use Rattle.udf_files.specs.Files.{places_in}
use Rattle.udf_model.specs.Image.{block_of}
use Rattle.udf_outside.specs.Stops.{Held, bytes_of}
use Rattle.udf_outside.specs.declared.bench.Role.TheVariants.{Image}
use Rattle.udf_rules_model.specs.Bitmap.{free_blocks}
use Rattle.udf_rules_model.specs.Files.{files_in, frame_in}
use Rattle.udf_space_mends.specs.IntegrityMend.{integrity_edits, origin_of}
use Rattle.udf_space_plan.specs.Prevailing.{first_by}
use Rattle.udf_space_plan.proofs.Integrities.{first_is, prevailing_is, unbound}
use Rattle.udf_space_plan.proofs.Surveyed.{prevailing_free, small, some_blocks, whole}
use Rattle.udf_tree.specs.Survey.{IsSurvey}
use Rattle.udf_wanted.specs.Wanted.{LookAlike}
use Rattle.udf_space_plan.proofs.integrity.put_integrity.Goals as goal

pub put_first-requires-clause-some : goal.put_first-requires-clause-some
put_first-requires-clause-some g c =
    some_blocks c.args.files.now.volume.size c.args.files.now.volume.integrity.length c.requires.over.large c.if-volume-eq0.false

pub put_prevailing-requires-clause-small : goal.put_prevailing-requires-clause-small
put_prevailing-requires-clause-small g c = small c.args.files.now.volume.size c.requires.size

pub returns-then-volume-eq0-clause-put : goal.returns-then-volume-eq0-clause-put
returns-then-volume-eq0-clause-put g c = λ tells.
    let volume = c.args.files.now.volume in
    unbound _ _ volume.length volume.bitmap _ volume.integrity c.args.wanted.now c.if-volume-eq0.true

pub returns-in_default-clause-put : goal.returns-in_default-clause-put
returns-in_default-clause-put g c = λ tells.
    let files = c.args.files.now in
    let volume = files.volume in
    let image = bytes_of Image (g.B.Bench.held c.args.bench.now) in
    let told = c.requires.files tells in
    let f = frame_in volume image in
    let v : Volume = volume_of volume.size image (places_in files) in
    let at : v ≡ files_in volume image = ap (λ (p : Places). volume_of volume.size image p) told.places_are in
    let survey = subst (λ (w : Volume). IsSurvey f w files.survey) (sym at) told.survey_is in
    let stands = partition_stands volume files c.requires.volume in
    let r = c.right_of-right.result in
    let many : c.free_count-free.result ≡ free_blocks f v volume.length =
    c.free_count-free.ensures ∙ free_counted f v volume.length c.in_ok-free_map.free_map (c.in_ok-free_map.ensures.free f v survey stands) in
    let known : IsRight f v volume.length volume.bitmap r = c.right_of-right.ensures.right f v survey (is_free_count f v volume.length c.free_count-free.result volume.bitmap many) in
    let blocks : r.blocks ≡ volume.length = c.right_of-right.ensures.blocks in
    let is : IsRight f v r.blocks volume.bitmap r = subst (λ (n : ℕ). IsRight f v n volume.bitmap r) (sym blocks) known in
    let counted : c.free_count-free.result ≡ free_blocks f v r.blocks = many ∙ ap (free_blocks f v) (sym blocks) in
    let held : g.B.Bench.held c.prevailing_descriptor.new.bench ≡ g.B.Bench.held c.args.bench.now = c.in_ok-prevailing.ensures.reads.held in
    let disk : ℕ → List ℕ = block_of volume.size image in
    let origin = origin_of (disk volume.pvd) (disk volume.lvd) in
    let binds = ne_eqb volume.integrity.length 0 c.if-volume-eq0.false in
    let put : LookAlike c.put_first.new.wanted (c.args.wanted.now ++ first_by volume c.counts_of-counts.result origin) =
    subst (λ (h : Held). LookAlike c.put_first.new.wanted (c.args.wanted.now
    ++ first_by volume c.counts_of-counts.result (origin_of (block_of volume.size (bytes_of Image h) volume.pvd) (block_of volume.size (bytes_of Image h) volume.lvd)))) held
    (c.in_ok-put_first.ensures.put tells) in
    subst (λ (edits : List (ℕ × List ℕ)). LookAlike c.put_first.new.wanted (c.args.wanted.now ++ edits))
    (first_is f v volume.bitmap r is origin volume.integrity volume c.counts_of-counts.result c.free_count-free.result refl refl (c.counts_of-counts.ensures is.tally.room) counted binds
    (sym c.in_default.is ∙ c.in_ok-prevailing.ensures.prevails tells)
    ∙ ap (λ n. integrity_edits f v n volume.bitmap origin volume.integrity) blocks
    ∙ ap (λ (w : Volume). integrity_edits f w volume.length volume.bitmap origin volume.integrity) at) put

pub returns-clause-put : goal.returns-clause-put
returns-clause-put g c = λ tells.
    let files = c.args.files.now in
    let volume = files.volume in
    let image = bytes_of Image (g.B.Bench.held c.args.bench.now) in
    let told = c.requires.files tells in
    let f = frame_in volume image in
    let v : Volume = volume_of volume.size image (places_in files) in
    let at : v ≡ files_in volume image = ap (λ (p : Places). volume_of volume.size image p) told.places_are in
    let survey = subst (λ (w : Volume). IsSurvey f w files.survey) (sym at) told.survey_is in
    let stands = partition_stands volume files c.requires.volume in
    let r = c.right_of-right.result in
    let many : c.free_count-free.result ≡ free_blocks f v volume.length =
    c.free_count-free.ensures ∙ free_counted f v volume.length c.in_ok-free_map.free_map (c.in_ok-free_map.ensures.free f v survey stands) in
    let known : IsRight f v volume.length volume.bitmap r = c.right_of-right.ensures.right f v survey (is_free_count f v volume.length c.free_count-free.result volume.bitmap many) in
    let blocks : r.blocks ≡ volume.length = c.right_of-right.ensures.blocks in
    let is : IsRight f v r.blocks volume.bitmap r = subst (λ (n : ℕ). IsRight f v n volume.bitmap r) (sym blocks) known in
    let counted : c.free_count-free.result ≡ free_blocks f v r.blocks = many ∙ ap (free_blocks f v) (sym blocks) in
    let held : g.B.Bench.held c.prevailing_descriptor.new.bench ≡ g.B.Bench.held c.args.bench.now = c.in_ok-prevailing.ensures.reads.held in
    let disk : ℕ → List ℕ = block_of volume.size image in
    let origin = origin_of (disk volume.pvd) (disk volume.lvd) in
    let binds = ne_eqb volume.integrity.length 0 c.if-volume-eq0.false in
    let sector = c.in-Some.sector in
    let p = sym c.in-Some.is ∙ c.in_ok-prevailing.ensures.prevails tells in
    let here : IsOfImage volume (bytes_of Image (g.B.Bench.held c.prevailing_descriptor.new.bench)) v =
    record { size = refl; disk = ap (λ (h : Held). block_of volume.size (bytes_of Image h)) (sym held) } in
    subst (λ (edits : List (ℕ × List ℕ)). LookAlike c.put_prevailing.new.wanted (c.args.wanted.now ++ edits))
    (prevailing_is f v volume.bitmap r is origin volume.integrity sector binds p
    ∙ ap (λ n. integrity_edits f v n volume.bitmap origin volume.integrity) blocks
    ∙ ap (λ (w : Volume). integrity_edits f w volume.length volume.bitmap origin volume.integrity) at)
    (c.in_ok-put_prevailing.ensures.put tells f v volume.bitmap here is counted (c.in_ok-prevailing.ensures.block tells sector (ap Ok c.in-Some.is))
    (prevailing_free volume disk sector c.requires.over.bounded c.requires.laid c.requires.over.large p) (whole volume.size disk volume.integrity sector p))
