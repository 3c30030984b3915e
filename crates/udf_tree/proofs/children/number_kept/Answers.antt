use Rattle.std.proofs.Common.{List, ap, sym, ◌∙◌}
use Rattle.std.specs.BTreeMap.{get}
use Rattle.udf_held.specs.declared.held.Held.{Held}
use Rattle.udf_kept.specs.declared.keeping.Keeping.{Keeping}
use Rattle.std.specs.Prelude.{Option}
use Rattle.udf_kept.specs.Fitted.{at_of}
use Rattle.udf_tree.specs.Kindred.{first_seen}
use Rattle.udf_found.specs.Order.{addr_cmp}
use Rattle.udf_tree.proofs.Kinship.{kept_none, kept_some}
use Rattle.udf_tree.proofs.children.number_kept.Goals as goal

pub returns-in_default : goal.returns-in_default
returns-in_default c f v root file_set wanted ids k d at own those same among =
    kept_none f v root file_set c.args.entries.now wanted ids k c.args.holder d at own c.args.links.now those same among
    (ap (λ (ks : List (Option Keeping)). first_seen ks c.args.holder c.args.links.now) (sym c.deref.ensures.value) ∙ sym c.first_kept.ensures ∙ c.in_default.is)

pub returns : goal.returns
returns c f v root file_set wanted ids k d at own those same among =
    kept_some f v root file_set c.args.entries.now wanted ids k c.args.holder d at own c.args.links.now those same among
    c.in-Some.to (ap (λ (ks : List (Option Keeping)). first_seen ks c.args.holder c.args.links.now) (sym c.deref.ensures.value) ∙ sym c.first_kept.ensures ∙ c.in-Some.is) (get addr_cmp c.args.numbers.now) c.requires c.number_at.result
    (λ b there. c.number_at.ensures b (ap (λ (hs : List Held). at_of hs c.in-Some.to) c.deref-2.ensures.value ∙ there))
