use Rattle.std.proofs.Common.{◌≡◌, true, false, rules, sym, ap, ◌∙◌}
use Rattle.std.specs.Prelude.{is_some}
use Rattle.udf_tree_model.specs.Chosen.{chosen_link}
use Rattle.udf_tree_model.specs.Frame.{setting_of, tree_of}
use Rattle.udf_kept.specs.Selects.{is_rank_at}
use Rattle.udf_kept.proofs.Hanging.{link_is}
use Rattle.udf_tree.proofs.Judging.{lawful_chosen, lawful_file, lawful_shapeless, lawful_start, lawful_unsound}
use Rattle.udf_tree.proofs.judge.is_lawful.Goals as goal

pub returns-then-not-target : goal.returns-then-not-target
returns-then-not-target c f v i o here k = lawful_file f v c.args.target.now i o c.args.holder c.args.place here c.if-not-target.true

pub returns-then-is_none : goal.returns-then-is_none
returns-then-is_none c f v i o here k =
    let none : is_some c.args.target.now.shape ≡ false = search rules in
    lawful_shapeless f v c.args.target.now i o c.args.holder c.args.place here none

pub returns-then-target : goal.returns-then-target
returns-then-target c f v i o here k =
    let some : is_some c.args.target.now.shape ≡ true = search rules in
    lawful_start f v c.args.target.now i o c.args.holder c.args.place here c.if-not-target.false some c.if-target.true

pub returns-then-not-target-2 : goal.returns-then-not-target-2
returns-then-not-target-2 c f v i o here k =
    let some : is_some c.args.target.now.shape ≡ true = search rules in
    lawful_unsound f v c.args.target.now i o c.args.holder c.args.place here c.if-not-target.false some c.if-not-target-2.true

pub returns : goal.returns
returns c f v i o here k =
    let some : is_some c.args.target.now.shape ≡ true = search rules in
    c.is_link.ensures (λ d. d.level) (chosen_link (setting_of f v) (tree_of f v) c.args.target.now.at) (k c.if-not-target.false)
    ∙ ap (is_rank_at c.args.holder c.args.place) (link_is (setting_of f v) (tree_of f v) c.args.target.now.at (sym i.start ∙ c.if-target.false))
    ∙ lawful_chosen f v c.args.target.now i o c.args.holder c.args.place here c.if-not-target.false some c.if-target.false c.if-not-target-2.false
