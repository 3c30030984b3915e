use Rattle.std.proofs.Common.{rules, ◌≡◌, Bool, Option, None, Some, true, sym, ap, ◌∙◌, subst}
use Rattle.std.specs.Prelude.{◌==◌, cond}
use Rattle.udf_field.specs.declared.address.Addr.{Addr}
use Rattle.udf_field.specs.declared.address.Long.{Long}
use Rattle.udf_tree_model.specs.Frame.{stream_of}
use Rattle.udf_tree_model.specs.Link.{pointer_links}
use Rattle.udf_found.specs.Linked.{AreLinks}
use Rattle.udf_found.proofs.Lines.{no_links}
use Rattle.udf_found.proofs.links.pointer_of.Goals as goal

pub returns-in_default : goal.returns-in_default
returns-in_default c =
    let P : Option Long → Type 0 = λ o. AreLinks (pointer_links (stream_of o)) c.new.result.items in
    subst P (sym c.in_default.is) (no_links c.new.result.items c.new.ensures.items)

pub returns-then-pointer-eq0 : goal.returns-then-pointer-eq0
returns-then-pointer-eq0 c =
    let empty : (c.in-Some.pointer.length == 0) ≡ true = search rules in
    let none : stream_of c.args.stream ≡ None = ap stream_of c.in-Some.is ∙ ap (λ (b : Bool). cond b None (Some c.in-Some.pointer.at)) empty in
    let P : Option Addr → Type 0 = λ o. AreLinks (pointer_links o) c.new-then-pointer-eq0.result.items in
    subst P (sym none) (no_links c.new-then-pointer-eq0.result.items c.new-then-pointer-eq0.ensures.items)
