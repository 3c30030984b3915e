use Rattle.std.proofs.Common.{sym, ◌∙◌}
use Rattle.udf_tree_model.specs.Frame.{setting_of, tree_of}
use Rattle.udf_tree_model.specs.Kept.{depth}
use Rattle.udf_kept.proofs.Hanging.{at_root, by_file_set, by_holder, by_none, link_missing}
use Rattle.udf_contents.proofs.parent.parent_of.Goals as goal

pub returns-then-eq : goal.returns-then-eq
returns-then-eq c f v r s k = at_root f v c.args.entry.now.at c.args.root r (sym c.eq.ensures ∙ c.if-eq.true)

pub returns-in_default : goal.returns-in_default
returns-in_default c f v r s k =
    by_none f v c.args.entry.now.at c.args.root r c.args.held.now (λ d. depth (setting_of f v) (tree_of f v) d.at) c.args.keeping.by k.by (sym c.eq.ensures ∙ c.if-eq.false) c.in_default.is

pub returns-in_default-address_at : goal.returns-in_default-address_at
returns-in_default-address_at c f v r s k =
    link_missing c.args.held.now (λ d. depth (setting_of f v) (tree_of f v) d.at) _ c.args.keeping.by c.in-Some.choice _ c.in-Some.is (sym c.address_at.ensures ∙ c.in_default-address_at.is) k.by

pub returns-then-eq-2 : goal.returns-then-eq-2
returns-then-eq-2 c f v r s k =
    by_file_set f v c.args.entry.now.at c.args.root r c.args.held.now (λ d. depth (setting_of f v) (tree_of f v) d.at) c.args.keeping.by k.by (sym c.eq.ensures ∙ c.if-eq.false)
    c.args.file_set c.in-Some.choice c.in-Some-address_at.holder s c.in-Some.is (sym c.in-Some-address_at.ensures) (sym c.eq-2.ensures ∙ c.if-eq-2.true)

pub returns-else-eq-2 : goal.returns-else-eq-2
returns-else-eq-2 c f v r s k =
    by_holder f v c.args.entry.now.at c.args.root r c.args.held.now (λ d. depth (setting_of f v) (tree_of f v) d.at) c.args.keeping.by k.by (sym c.eq.ensures ∙ c.if-eq.false)
    c.args.file_set c.in-Some.choice c.in-Some-address_at.holder s c.in-Some.is (sym c.in-Some-address_at.ensures) (sym c.eq-2.ensures ∙ c.if-eq-2.false)
