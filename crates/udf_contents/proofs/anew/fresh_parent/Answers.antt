use Rattle.std.proofs.Common.{◌≡◌, ℕ, List, length, ap, ◌∙◌, rules}
use Rattle.udf_model.specs.Bytes.{with_number}
use Rattle.udf_model.specs.Tag.{retagged}
use Rattle.udf_file_model.specs.Anew.{named_anew}
use Rattle.udf_tree_model.specs.Content.{fresh_parent}
use Rattle.udf_contents.proofs.Renaming.{whole_back}
use Rattle.udf_contents.proofs.anew.fresh_parent.Goals as goal

pub returns : goal.returns
unfolding fresh_parent
returns c =
    let n = c.in_ok-fid.fid.len in
    let first : n ≡ length c.put_fresh.new.fid = search rules in
    let second : n ≡ length c.name_anew.new.fid = search rules in
    whole_back n c.name_anew.new.fid _ second
    ∙ c.name_anew.ensures
    ∙ ap (named_anew c.args.above)
    (c.deref_mut-2.ensures.value
    ∙ whole_back n c.put_fresh.new.fid _ first
    ∙ c.put_fresh.ensures.value
    ∙ ap (λ (x : List ℕ). retagged c.args.location 24 (with_number 4 20 c.args.size x)) (c.deref_mut.ensures.value ∙ c.in_ok-fid.ensures))
