use Rattle.udf_file_model.specs.Listing.{list_for, flat_for, rules_for, is_extent}
use Rattle.udf_file_model.proofs.Local.{list_local, good_local, list_embedded, good_embedded}
use Rattle.udf_file_model.proofs.Whichever.{whichever_list, whichever_good}
use Rattle.udf_file_model.proofs.Apart.{front_apart, front_placed}
use Rattle.udf_file_model.proofs.list_law.Goals as goal

pub returns-clause-apart : goal.returns-clause-apart
unfolding list_for flat_for rules_for
returns-clause-apart c v a e some = front_apart (rules_for v a e) (is_extent v) some (flat_for v a e)

pub returns-clause-placed : goal.returns-clause-placed
unfolding list_for flat_for rules_for
returns-clause-placed c v a e some = front_placed (rules_for v a e) (is_extent v) some (flat_for v a e)

pub returns-clause-local : goal.returns-clause-local
returns-clause-local c v disk a e good same = (list_local v disk a e good same, good_local v disk a e good same)

pub returns-clause-embedded : goal.returns-clause-embedded
returns-clause-embedded c v a e k = (list_embedded v a e k, good_embedded v a e k)

pub returns-clause-failing : goal.returns-clause-failing
returns-clause-failing c v disk a e same = (whichever_list v disk a e same, whichever_good v disk a e same)
