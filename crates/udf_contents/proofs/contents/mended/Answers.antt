use Rattle.std.proofs.Common.{◌≡◌, ℕ, List, length, arith, sym, ap, ◌∙◌}
use Rattle.udf_outside.specs.Stops.{bytes_of, Held}
use Rattle.udf_outside.specs.declared.bench.Role.TheVariants.{Image}
use Rattle.udf_file_model.specs.Listing.{Volume, listing_at, volume_of}
use Rattle.udf_field.specs.declared.address.Addr.{Addr}
use Rattle.udf_model.specs.Tag.{location}
use Rattle.udf_file_model.specs.Content.{content_by}
use Rattle.udf_file_model.specs.Entry.{entry_of}
use Rattle.udf_entry.proofs.Told.{size_bounds}
use Rattle.udf_entry.proofs.Extents.{in_image}
use Rattle.udf_contents.proofs.Rereading.{entry_lost, mended_is}
use Rattle.udf_contents.proofs.contents.mended.Goals as goal

pub returns-in_default-clause-content : goal.returns-in_default-clause-content
returns-in_default-clause-content g c tells f v hs e i o n steps =
    entry_lost f v c.args.entry.now _ o n.shaped (ap (λ (u : Volume). u.place c.args.entry.now.at) e ∙ sym c.locate.ensures ∙ c.in_default.is)

pub read_block-requires-clause-within : goal.read_block-requires-clause-within
read_block-requires-clause-within g c =
    in_image (g.B.Bench.files c.args.bench.now).image.size c.args.size c.in-Some.sector (c.requires.placed c.args.entry.now.at c.in-Some.sector (sym c.in-Some.ensures))

pub returns-clause-content : goal.returns-clause-content
returns-clause-content g c tells f v hs e i o n steps =
    let vol : ℕ → Held → Volume = λ m x. volume_of m (bytes_of Image x) (g.P.Parts.place c.args.parts.now) in
    let block : List ℕ = c.read_block.new.into in
    let a : Addr = c.args.entry.now.at in
    let whole : length block ≡ c.args.size = c.read_block.auto.into ∙ c.requires.room in
    let read = c.in_ok-read_block.ensures.reads.held in
    let same : vol (length block) (g.B.Bench.held c.read_block.new.bench) ≡ v = ap (λ (m : ℕ). vol m (g.B.Bench.held c.read_block.new.bench)) whole ∙ ap (vol c.args.size) read ∙ sym e in
    let later : vol (length block) (g.B.Bench.held c.list_of.new.bench) ≡ v = ap (vol (length block)) c.in_ok-list.ensures.reads.held ∙ same in
    mended_is f v hs c.args.entry.now c.args.fitted.now c.args.above i o n steps c.in-Some.sector block c.in_ok-list.list c.deref.result.now c.content_location-location.result
    (ap (λ (u : Volume). u.place a) e ∙ sym c.in-Some.ensures)
    (c.in_ok-read_block.ensures.block tells ∙ ap (λ (u : Volume). u.disk c.in-Some.sector) (sym e))
    (c.in_ok-list.ensures.list tells ∙ ap (λ (u : Volume). listing_at u a block) same)
    (c.deref.ensures.value ∙ c.in_ok-content.ensures.content tells ∙ ap (λ (u : Volume). content_by u c.in_ok-list.list.runs c.args.entry.now.kept (entry_of (location block) block)) later)
    c.content_location-location.ensures c.args.size c.in_ok-bytes.bytes.items (ap (λ (u : Volume). u.size) (sym e)) c.in_ok-bytes.ensures

pub content_anew-requires : goal.content_anew-requires
content_anew-requires g c =
    let low = (size_bounds c.args.size c.requires.size).0 in
    let whole : length c.read_block.new.into ≡ c.args.size = c.read_block.auto.into ∙ c.requires.room in
    omega (arith, low, whole)
