use Rattle.std.proofs.Common.{◌≡◌, ℕ, ◌<◌, List, Some, None, length, arith, sym, ap, ◌∙◌}
use Rattle.udf_outside.specs.Stops.{bytes_of, Held}
use Rattle.udf_outside.specs.declared.bench.Role.TheVariants.{Image}
use Rattle.udf_file_model.specs.Entry.{entry_of}
use Rattle.udf_file_model.specs.Listing.{Volume, listing_at, list_for, volume_of}
use Rattle.udf_tree_model.specs.Frame.{content_to}
use Rattle.udf_entry.proofs.Extents.{in_image}
use Rattle.udf_found.proofs.Told.{address_is, content_up_to, entry_there, entry_unplaced, ok_more}
use Rattle.udf_found.proofs.reading.directory_content.Goals as goal

none_some : {X : Type 0} (x : X) → None ≡ Some x → ⊥
none_some x h = cc

pub returns-in_default-clause-content : goal.returns-in_default-clause-content
returns-in_default-clause-content g c tells e there d = absurd (none_some e (sym (entry_unplaced _ c.args.at (sym c.locate.ensures ∙ c.in_default.is)) ∙ there))

pub read_block-requires-clause-within : goal.read_block-requires-clause-within
read_block-requires-clause-within g c =
    in_image (g.B.Bench.files c.args.bench.now).image.size c.args.size c.in-Some.sector (c.requires.placed c.args.at c.in-Some.sector (sym c.in-Some.ensures))

pub returns-clause-content : goal.returns-clause-content
returns-clause-content g c tells e there d =
    let p : c.args.at.part < 65536 = omega arith in
    let b : c.args.at.block < 4294967296 = omega arith in
    let vol : ℕ → Held → Volume = λ n x. volume_of n (bytes_of Image x) (g.P.Parts.place c.args.parts.now) in
    let v : Volume = vol c.args.size (g.B.Bench.held c.args.bench.now) in
    let block : List ℕ = c.read_block.new.into in
    let whole : length block ≡ c.args.size = c.read_block.auto.into ∙ c.requires.room in
    let read = c.in_ok-read_block.ensures.reads.held in
    let entry : entry_of c.args.at.block block ≡ Some e =
    sym (entry_there v c.args.at c.in-Some.sector block (address_is c.args.at p b) (sym c.in-Some.ensures) (c.in_ok-read_block.ensures.block tells)) ∙ there in
    let later : Volume = vol (length block) (g.B.Bench.held c.list_of.new.bench) in
    let list : c.in_ok-list.list ≡ listing_at later c.args.at block =
    c.in_ok-list.ensures.list tells ∙ ap (λ (x : Held). listing_at (vol (length block) x) c.args.at block) (sym c.in_ok-list.ensures.reads.held) in
    let same : later ≡ v =
    ap (λ (n : ℕ). vol n (g.B.Bench.held c.list_of.new.bench)) whole ∙ ap (λ (x : Held). vol c.args.size x) (c.in_ok-list.ensures.reads.held ∙ read) in
    ok_more c.content_of.result _ _ (λ content k.
    content_up_to later c.args.at block e c.in_ok-list.list c.args.limit content.items entry d list k ∙ ap (λ (w : Volume). content_to w e (list_for w c.args.at e) c.args.limit) same)
    (c.content_of.ensures.content tells)
