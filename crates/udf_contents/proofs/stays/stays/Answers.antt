use Rattle.std.proofs.Common.{Bool, ◌&&◌, sym, ap, ◌∙◌}
use Rattle.std.specs.List.{list_all}
use Rattle.udf_tree_model.specs.Frame.{setting_of, tree_of}
use Rattle.udf_contents.specs.Stays.{link_holds}
use Rattle.udf_contents.proofs.Ruling.{stays_is}
use Rattle.udf_contents.proofs.stays.stays.Goals as goal

pub returns-then-parents_stay : goal.returns-then-parents_stay
returns-then-parents_stay c f v k starts m x e shaped up =
    let i = k.held.held.each c.args.entry.now m in
    let s = setting_of f v in
    let t = tree_of f v in
    c.links_stay.ensures f v k
    ∙ ap (λ (b : Bool). b && list_all (link_holds s t c.args.entry.now.at) c.args.entry.now.links.items) (sym c.if-parents_stay.true ∙ c.parents_stay.ensures)
    ∙ stays_is f v c.args.entry.now c.is_stream_directory-is_stream.result c.args.above i (k.held.each_of c.args.entry.now m) starts e shaped up
    (c.is_stream_directory-is_stream.ensures s t c.args.held.now x e i.directory)

pub returns-else-parents_stay : goal.returns-else-parents_stay
returns-else-parents_stay c f v k starts m x e shaped up =
    let i = k.held.held.each c.args.entry.now m in
    let s = setting_of f v in
    let t = tree_of f v in
    c.if-parents_stay.false
    ∙ ap (λ (b : Bool). b && list_all (link_holds s t c.args.entry.now.at) c.args.entry.now.links.items) (sym c.if-parents_stay.false ∙ c.parents_stay.ensures)
    ∙ stays_is f v c.args.entry.now c.is_stream_directory-is_stream.result c.args.above i (k.held.each_of c.args.entry.now m) starts e shaped up
    (c.is_stream_directory-is_stream.ensures s t c.args.held.now x e i.directory)
