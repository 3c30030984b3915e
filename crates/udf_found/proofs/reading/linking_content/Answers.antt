use Rattle.std.proofs.Common.{rules, ◌≡◌, length, ◌∙◌, true, false}
use Rattle.udf_outside.specs.Stops.{bytes_of}
use Rattle.udf_outside.specs.declared.bench.Role.TheVariants.{Image}
use Rattle.udf_file_model.specs.Listing.{Volume, volume_of}
use Rattle.udf_found.proofs.Told.{ok_more, content_is, content_none}
use Rattle.udf_found.proofs.reading.linking_content.Goals as goal

pub returns-then-not-directory-clause-content : goal.returns-then-not-directory-clause-content
returns-then-not-directory-clause-content g c tells a e h d l =
    let off : c.args.directory ≡ false = search rules in
    content_none _ a e c.new.result.items (d ∙ off) c.new.ensures.items

pub returns-clause-content : goal.returns-clause-content
returns-clause-content g c tells a e h d l =
    let on : c.args.directory ≡ true = search rules in
    let v : Volume = volume_of (length c.args.block.now) (bytes_of Image (g.B.Bench.held c.args.bench.now)) (g.P.Parts.place c.args.parts.now) in
    ok_more c.content_of.result _ _ (λ content k.
    content_is v a c.args.block.now e c.args.list.now c.good_length.result content.items h (d ∙ on) l c.good_length.ensures
    k)
    (c.content_of.ensures.content tells)
