use Rattle.std.proofs.Common.{◌≡◌, ◌≤◌, ◌+◌, ℕ, List, length, sym, ◌∙◌, subst, arith}
use Rattle.udf_model.specs.Tag.{crc_length}
use Rattle.udf_contents.proofs.Renaming.{first_covered, first_long}
use Rattle.udf_contents.proofs.anew.parent_fid.Goals as goal

pub name_anew-requires-clause-long : goal.name_anew-requires-clause-long
name_anew-requires-clause-long c =
    let same : c.deref_mut.result.now ≡ c.in-Some.fid = c.deref_mut.ensures.value ∙ c.in_ok-bytes.ensures.items ∙ c.bytes.ensures in
    let long = first_long c.args.size c.args.content.now c.in-Some.fid c.in-Some.ensures in
    subst (λ (x : List ℕ). 30 ≤ length x) (sym same) (omega (arith, long))

pub name_anew-requires-clause-covered : goal.name_anew-requires-clause-covered
name_anew-requires-clause-covered c =
    let same : c.deref_mut.result.now ≡ c.in-Some.fid = c.deref_mut.ensures.value ∙ c.in_ok-bytes.ensures.items ∙ c.bytes.ensures in
    subst (λ (x : List ℕ). 16 + crc_length x ≤ length x) (sym same) (first_covered c.args.size c.args.content.now c.in-Some.fid c.in-Some.ensures)
