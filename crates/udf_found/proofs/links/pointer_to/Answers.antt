use Rattle.std.proofs.Common.{◌++◌, ◌∷◌, [], List, None, refl, ap, ◌∙◌}
use Rattle.udf_found.specs.declared.link.Link.{Link}
use Rattle.udf_found.proofs.Lines.{pointer_alone}
use Rattle.udf_found.proofs.links.pointer_to.Goals as goal

pub returns : goal.returns
returns c =
    let l : Link = record { place = 0; target = c.args.target; room = 0; earlier = None; name = c.new.result } in
    pointer_alone c.args.target l c.push.new.self.items (c.in_ok-push.ensures.items ∙ ap (λ (ls : List Link). ls ++ l ∷ []) c.new-links.ensures.items) refl refl refl refl c.new.ensures.items
