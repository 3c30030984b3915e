use Rattle.udf_tree_model.proofs.Choosing.{chosen_offer, chosen_first, chosen_none}
use Rattle.udf_tree_model.proofs.chosen_law.Goals as goal

pub returns-clause-offer : goal.returns-clause-offer
returns-clause-offer c = chosen_offer

pub returns-clause-first : goal.returns-clause-first
returns-clause-first c = chosen_first

pub returns-clause-none : goal.returns-clause-none
returns-clause-none c = chosen_none
