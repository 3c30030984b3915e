-- Lists of edits that give the same blocks.
use Rattle.std.proofs.Common.{◌≡◌, ℕ, sym, ◌∙◌, ap, List, [], ◌++◌, append-nil, append_assoc}
use Rattle.udf_volume_model.specs.Edits.{look}
use Rattle.udf_volume_laws.proofs.Puts.{look_both}
use Rattle.udf_wanted.specs.Wanted.{LookAlike}

pub nothing : (edits : List (ℕ × List ℕ)) → LookAlike edits (edits ++ [])
nothing edits n block = ap (λ (e : List (ℕ × List ℕ)). look n e block) (sym (append-nil edits))

-- one mend after another
pub both : (base now next some more : List (ℕ × List ℕ)) → LookAlike now (base ++ some) → LookAlike next (now ++ more) → LookAlike next (base ++ (some ++ more))
both base now next some more first second n block =
    second n block ∙ look_both n now more block ∙ first n (look n more block)
    ∙ sym (ap (λ (e : List (ℕ × List ℕ)). look n e block) (sym (append_assoc base some more)) ∙ look_both n (base ++ some) more block)

-- the same, with what both put
pub both_are : (base now next some more whole : List (ℕ × List ℕ)) → LookAlike now (base ++ some) → LookAlike next (now ++ more) → some ++ more ≡ whole
    → LookAlike next (base ++ whole)
both_are base now next some more whole first second is n block =
    both base now next some more first second n block ∙ ap (λ (e : List (ℕ × List ℕ)). look n (base ++ e) block) is
