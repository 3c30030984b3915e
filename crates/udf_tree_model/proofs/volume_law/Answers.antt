use Rattle.std.proofs.Common.{List, sym, subst}
use Rattle.std.specs.Prelude.{◌≢◌, AllPairs}
use Rattle.udf_field.specs.declared.address.Addr.{Addr}
use Rattle.udf_file_model.specs.Listing.{list_for, flat_for, rules_for, is_extent}
use Rattle.udf_file_model.proofs.Apart.{front_apart}
use Rattle.udf_tree_model.proofs.Stating.{is_node, taken_is, length_is, accepted_starts}
use Rattle.udf_tree_model.proofs.volume_law.Goals as goal

pub returns-clause-node : goal.returns-clause-node
returns-clause-node c = is_node

pub returns-clause-taken : goal.returns-clause-taken
returns-clause-taken c = taken_is

pub returns-clause-once : goal.returns-clause-once
unfolding list_for flat_for rules_for
returns-clause-once c f v a e there other some =
    subst (λ (l : List Addr). AllPairs (λ x y. x ≢ y) l) (sym (taken_is f v a e there other some)) (front_apart (rules_for v a e) (is_extent v) some (flat_for v a e))

pub returns-clause-length : goal.returns-clause-length
returns-clause-length c = length_is

pub returns-clause-starts : goal.returns-clause-starts
returns-clause-starts c = accepted_starts
