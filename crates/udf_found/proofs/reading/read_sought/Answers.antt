use Rattle.std.proofs.Common.{◌≡◌, ℕ, ◌<◌, List, Some, length, arith, refl, sym, ap, ◌∙◌, subst}
use Rattle.udf_model.specs.Tag.{id_at, is_id}
use Rattle.udf_outside.specs.Stops.{bytes_of, Held}
use Rattle.udf_outside.specs.declared.bench.Role.TheVariants.{Image}
use Rattle.udf_file_model.specs.Entry.{Entry, entry_of}
use Rattle.udf_file_model.specs.Content.{block_at, block_by}
use Rattle.udf_file_model.specs.Listing.{Volume, listing_at, volume_of}
use Rattle.udf_entry.proofs.Told.{size_bounds}
use Rattle.udf_entry.proofs.Extents.{in_image}
use Rattle.udf_tree_model.specs.Link.{Link}
use Rattle.udf_found.specs.Linked.{AreLinks}
use Rattle.udf_found.specs.Target.{linking}
use Rattle.udf_found.proofs.Told.{links_are, address_is, entry_unplaced, entry_there, indirect_there, not_indirect, reads_other, listed_there}
use Rattle.udf_found.proofs.reading.read_sought.Goals as goal

pub returns-in_default-clause-sought : goal.returns-in_default-clause-sought
returns-in_default-clause-sought g c tells =
    let none = sym c.locate.ensures ∙ c.in_default.is in
    (entry_unplaced _ c.args.at none, not_indirect _ c.args.at none)

pub read_block-requires-clause-within : goal.read_block-requires-clause-within
read_block-requires-clause-within g c =
    in_image (g.B.Bench.files c.args.bench.now).image.size c.args.size c.in-Some.sector (c.requires.placed c.args.at c.in-Some.sector (sym c.in-Some.ensures))

pub returns-in_default-read_entry-clause-sought : goal.returns-in_default-read_entry-clause-sought
returns-in_default-read_entry-clause-sought g c tells =
    let p : c.args.at.part < 65536 = omega arith in
    let b : c.args.at.block < 4294967296 = omega arith in
    let v : Volume = volume_of c.args.size (bytes_of Image (g.B.Bench.held c.args.bench.now)) (g.P.Parts.place c.args.parts.now) in
    let block = c.in_ok-read_block.ensures.block tells in
    reads_other v c.args.at (is_id 259 (id_at c.args.at.block c.read_block.new.into)) c.other_in.result
    (entry_there v c.args.at c.in-Some.sector c.read_block.new.into (address_is c.args.at p b) (sym c.in-Some.ensures) block ∙ sym c.in_default-read_entry.ensures)
    (indirect_there v c.args.at c.in-Some.sector c.read_block.new.into (address_is c.args.at p b) (sym c.in-Some.ensures) block)
    c.other_in.ensures

pub returns-clause-sought : goal.returns-clause-sought
returns-clause-sought g c tells =
    let p : c.args.at.part < 65536 = omega arith in
    let b : c.args.at.block < 4294967296 = omega arith in
    let low = (size_bounds c.args.size c.requires.size).0 in
    let e : Entry = c.in-Some-read_entry.entry in
    let vol : ℕ → Held → Volume = λ n x. volume_of n (bytes_of Image x) (g.P.Parts.place c.args.parts.now) in
    let v : Volume = vol c.args.size (g.B.Bench.held c.args.bench.now) in
    let block : List ℕ = c.read_block.new.into in
    let whole : length block ≡ c.args.size = c.read_block.auto.into ∙ c.requires.room in
    let read = c.in_ok-read_block.ensures.reads.held in
    let there : entry_of c.args.at.block block ≡ Some e = sym c.in-Some-read_entry.ensures in
    let list : c.in_ok-list.list ≡ listing_at v c.args.at block =
    c.in_ok-list.ensures.list tells
    ∙ ap (λ (n : ℕ). listing_at (vol n (g.B.Bench.held c.read_block.new.bench)) c.args.at block) whole
    ∙ ap (λ (x : Held). listing_at (vol c.args.size x) c.args.at block) read in
    let here : block ≡ block_at v c.args.at = c.in_ok-read_block.ensures.block tells ∙ sym (ap (block_by v.disk) (sym c.in-Some.ensures)) in
    let content : c.in_ok-content.content.items ≡ linking v c.args.at e =
    c.in_ok-content.ensures.content tells c.args.at e there (sym c.is_directory-directory.ensures)
    (c.in_ok-list.ensures.list tells ∙ ap (λ (x : Held). listing_at (vol (length block) x) c.args.at block) (sym c.in_ok-list.ensures.reads.held))
    ∙ ap (λ (n : ℕ). linking (vol n (g.B.Bench.held c.list_of.new.bench)) c.args.at e) whole
    ∙ ap (λ (x : Held). linking (vol c.args.size x) c.args.at e) (c.in_ok-list.ensures.reads.held ∙ read) in (
      e,
      entry_there v c.args.at c.in-Some.sector block (address_is c.args.at p b) (sym c.in-Some.ensures) (c.in_ok-read_block.ensures.block tells) ∙ there,
      (let Q : List Link → Type 0 = λ fs. AreLinks fs c.in_ok-links.links.items in subst Q (links_are v c.args.at e c.stream.result c.deref-2.result.now c.stream.ensures (c.deref-2.ensures.value ∙ content)) c.in_ok-links.ensures),
      c.in_ok-shape.ensures v refl here (listed_there v c.args.at block e c.in_ok-list.list there list) (c.deref.ensures.value ∙ content),
      c.of.ensures,
    )
