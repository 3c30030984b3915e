use Rattle.std.proofs.Common.{Some, false, ◌≡◌, ap, ◌∙◌, sym, subst}
use Rattle.std.specs.Prelude.{slice_get}
use Rattle.std.specs.BTreeMap.{get}
use Rattle.std.specs.List.{list_any}
use Rattle.std.specs.Option.{option_copied}
use Rattle.udf_file_model.specs.Address.{same_addr}
use Rattle.udf_tree.specs.Nodes.{node_addresses}
use Rattle.udf_found.specs.Order.{addr_cmp}
use Rattle.udf_tree.specs.Survey.{View}
use Rattle.udf_tree.proofs.Enrolling.{number_none}
use Rattle.udf_tree.proofs.surveyed.Survey.find.Goals as goal

pub returns-in-Some : goal.returns-in-Some
returns-in-Some c =
    subst (λ (x : View). slice_get (node_addresses x.nodes) c.in-Some.number.now.0 ≡ Some c.args.at) c.self.view_is
    (c.self.invariant.numbering.there c.args.at c.in-Some.number.now (sym c.get.ensures.value ∙ ap option_copied c.in-Some.is))

pub returns-in-None : goal.returns-in-None
returns-in-None c =
    subst (λ (x : View). list_any (same_addr c.args.at) (node_addresses x.nodes) ≡ false) c.self.view_is
    (number_none (node_addresses c.self.inside.nodes.items) (get addr_cmp c.self.inside.numbers) c.args.at c.self.invariant.numbering (sym c.get.ensures.value ∙ ap option_copied c.in-None.is))
