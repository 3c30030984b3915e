use Rattle.std.proofs.Common.{◌≡◌, ◌∙◌, ◌+◌, ◌<◌, ◌^◌, ◌++◌, Option, sym, ap, subst, arith, true, false}
use Rattle.udf_field.specs.declared.address.Short.{Short}
use Rattle.udf_file_mends.specs.Spread.{spread_from}
use Rattle.udf_file_model.specs.Address.{Places}
use Rattle.udf_file_model.specs.Front.{blocks_for}
use Rattle.udf_file_model.specs.Listing.{Volume, volume_of}
use Rattle.udf_file_rules.proofs.Freed.{partition_stands}
use Rattle.udf_file_rules.proofs.Spaced.{bitmap_laid}
use Rattle.udf_files.specs.Files.{places_in}
use Rattle.udf_free.proofs.Reading.{lies_within}
use Rattle.udf_model.specs.Image.{block_of}
use Rattle.udf_outside.specs.Stops.{Held, bytes_of}
use Rattle.udf_outside.specs.declared.bench.Role.TheVariants.{Image}
use Rattle.udf_partitions.proofs.Placing.{partition_low}
use Rattle.udf_rules_model.specs.Files.{files_in, frame_in}
use Rattle.udf_space_mends.specs.BitmapMend.{bitmap_edits}
use Rattle.udf_space_plan.specs.Bitmap.{bitmap_over}
use Rattle.udf_space_plan.specs.Extent.{PutsAll, placed_blocks}
use Rattle.udf_space_plan.proofs.Bitmaps.{area_is, as_stated, bitmap_put, held_by, inside_whole, none_broken, none_named}
use Rattle.udf_tree.specs.Survey.{IsSurvey}
use Rattle.udf_wanted.specs.Wanted.{LookAlike}
use Rattle.udf_space_plan.proofs.bitmap.put_bitmap.Goals as goal

pub bitmap_verdict-requires-clause-inside : goal.bitmap_verdict-requires-clause-inside
bitmap_verdict-requires-clause-inside g c = λ a s place.
    inside_whole c.args.files.now.volume (g.B.Bench.files c.args.bench.now) c.requires.over s (c.requires.free a s place)

pub bitmap_verdict-requires-clause-placed : goal.bitmap_verdict-requires-clause-placed
bitmap_verdict-requires-clause-placed g c = partition_stands c.args.files.now.volume c.args.files.now c.requires.volume

pub bitmap_verdict-requires-clause-extent : goal.bitmap_verdict-requires-clause-extent
bitmap_verdict-requires-clause-extent g c = bitmap_laid c.args.files.now.volume c.in-Some.extent c.requires.laid c.in-Some.is

pub area_with-requires-clause-placed : goal.area_with-requires-clause-placed
area_with-requires-clause-placed g c = partition_stands c.args.files.now.volume c.args.files.now c.requires.volume

pub area_with-requires-clause-extent : goal.area_with-requires-clause-extent
area_with-requires-clause-extent g c = bitmap_laid c.args.files.now.volume c.in-Some.extent c.requires.laid c.in-Some.is

pub put_extent-requires-clause-within : goal.put_extent-requires-clause-within
put_extent-requires-clause-within g c =
    let volume = c.args.files.now.volume in
    let few : volume.start + volume.length < 2 ^ 32 = partition_low volume c.requires.laid c.requires.over.bounded.few in
    omega (
      arith,
      few,
      lies_within volume.size volume.length c.in-Some.extent.length c.in-Some.extent.block (bitmap_laid volume c.in-Some.extent c.requires.laid c.in-Some.is),
    )

pub returns-in_default-clause-put : goal.returns-in_default-clause-put
returns-in_default-clause-put g c = λ tells.
    let volume = c.args.files.now.volume in
    let image = bytes_of Image (g.B.Bench.held c.args.bench.now) in
    let wanted = c.args.wanted.now in
    subst (λ (o : Option Short). LookAlike wanted (wanted ++ bitmap_edits (frame_in volume image) (files_in volume image) (block_of volume.size image volume.lvd) volume.length o))
    (sym c.in_default.is) (none_named (frame_in volume image) (files_in volume image) (block_of volume.size image volume.lvd) volume.length wanted)

pub returns-then-holds-clause-put : goal.returns-then-holds-clause-put
returns-then-holds-clause-put g c = λ tells.
    let files = c.args.files.now in
    let volume = files.volume in
    let image = bytes_of Image (g.B.Bench.held c.args.bench.now) in
    let told = c.requires.files tells in
    let f = frame_in volume image in
    let v : Volume = volume_of volume.size image (places_in files) in
    let at : v ≡ files_in volume image = ap (λ (p : Places). volume_of volume.size image p) told.places_are in
    let survey = subst (λ (w : Volume). IsSurvey f w files.survey) (sym at) told.survey_is in
    let free = c.in_ok-free.ensures.free f v survey (partition_stands volume files c.requires.volume) in
    let extent = c.in-Some.extent in
    let logical = block_of volume.size image volume.lvd in
    let wanted = c.args.wanted.now in
    as_stated f v logical volume.length extent (files_in volume image) volume.bitmap wanted wanted at c.in-Some.is
    (none_broken f v logical volume.length extent
    (held_by f v logical volume.length extent c.in_ok-verdict.verdict true (sym c.if-holds.true ∙ c.holds.ensures) (c.in_ok-verdict.ensures.verdict tells f free)) wanted)

pub returns-clause-put : goal.returns-clause-put
returns-clause-put g c = λ tells.
    let files = c.args.files.now in
    let volume = files.volume in
    let image = bytes_of Image (g.B.Bench.held c.args.bench.now) in
    let told = c.requires.files tells in
    let f = frame_in volume image in
    let v : Volume = volume_of volume.size image (places_in files) in
    let at : v ≡ files_in volume image = ap (λ (p : Places). volume_of volume.size image p) told.places_are in
    let survey = subst (λ (w : Volume). IsSurvey f w files.survey) (sym at) told.survey_is in
    let free = c.in_ok-free.ensures.free f v survey (partition_stands volume files c.requires.volume) in
    let extent = c.in-Some.extent in
    let logical = block_of volume.size image volume.lvd in
    let wanted = c.args.wanted.now in
    let next = c.put_extent.new.wanted in
    let area = c.deref.result.now in
    let first : g.B.Bench.held c.bitmap_verdict.new.bench ≡ g.B.Bench.held c.args.bench.now = c.in_ok-verdict.ensures.reads.held in
    let second : g.B.Bench.held c.area_with.new.bench ≡ g.B.Bench.held c.args.bench.now = c.in_ok-area.ensures.reads.held ∙ first in
    as_stated f v logical volume.length extent (files_in volume image) volume.bitmap wanted next at c.in-Some.is
    (bitmap_put f v logical volume.length extent area wanted next
    (held_by f v logical volume.length extent c.in_ok-verdict.verdict false (sym c.if-holds.false ∙ c.holds.ensures) (c.in_ok-verdict.ensures.verdict tells f free))
    (c.deref.ensures.value ∙ c.in_ok-area.ensures.area tells
    ∙ ap (λ (h : Held). bitmap_over volume h (places_in files) extent c.in_ok-free.free) first
    ∙ area_is f v logical volume.length extent c.in_ok-free.free free)
    (subst (λ (h : Held). PutsAll (placed_blocks volume h (places_in files)) wanted next (spread_from (placed_blocks volume h (places_in files)) 0 extent.block (blocks_for volume.size extent.length) area))
    second (c.in_ok-put_extent.ensures.put tells)))
