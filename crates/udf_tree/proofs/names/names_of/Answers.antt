use Rattle.std.proofs.Common.{ℕ, List, sym, subst}
use Rattle.std.specs.BTreeMap.{BTreeMap}
use Rattle.udf_held.specs.declared.held.Held.{Held}
use Rattle.udf_tree.specs.Path.{HaveIndexes}
use Rattle.udf_tree.proofs.names.names_of.Goals as goal

pub returns-clause-names : goal.returns-clause-names
returns-clause-names c f v root file_set links ids k =
    c.names_by.ensures.names f v root file_set links ids k
    (subst (λ (ms : List (BTreeMap ℕ ℕ)). HaveIndexes c.args.entries.now.held.items ms) (sym c.deref-2.ensures.value)
    (subst (λ (hs : List Held). HaveIndexes hs c.in_ok-link_indexes.link_indexes.items) c.deref.ensures.value c.in_ok-link_indexes.ensures))
