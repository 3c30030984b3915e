use Rattle.udf_tree_model.proofs.Winning.{wins_means, means_wins, one_winner, stays_won, kept_within, kept_whole}
use Rattle.udf_tree_model.proofs.claims_law.Goals as goal

pub returns-clause-exactly : goal.returns-clause-exactly
returns-clause-exactly c = λ s t w a i. (wins_means s t w a i, means_wins s t a i)

pub returns-clause-one : goal.returns-clause-one
returns-clause-one c = one_winner

pub returns-clause-stays : goal.returns-clause-stays
returns-clause-stays c = stays_won

pub returns-clause-within : goal.returns-clause-within
returns-clause-within c = kept_within

pub returns-clause-whole : goal.returns-clause-whole
returns-clause-whole c = kept_whole
