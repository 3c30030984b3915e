-- Equal canonical names are an equivalence.
use Rattle.std.proofs.Common.{refl, sym, ◌∙◌, inl}
use Rattle.udf_file_model.proofs.Names.{same_canonical, canonical_same}
use Rattle.udf_file_model.proofs.name_law.Goals as goal

pub returns-clause-canonical : goal.returns-clause-canonical
returns-clause-canonical c = λ a b. (same_canonical a b, canonical_same a b)

pub returns-clause-itself : goal.returns-clause-itself
returns-clause-itself c = λ a. inl refl

pub returns-clause-either_way : goal.returns-clause-either_way
returns-clause-either_way c = λ a b h. canonical_same b a (sym (same_canonical a b h))

pub returns-clause-along : goal.returns-clause-along
returns-clause-along c = λ a b d g h. canonical_same a d (same_canonical a b g ∙ same_canonical b d h)
