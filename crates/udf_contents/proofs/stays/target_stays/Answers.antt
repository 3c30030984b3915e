use Rattle.std.proofs.Common.{sym, ap, ◌∙◌}
use Rattle.udf_tree_model.specs.Chosen.{chosen_link}
use Rattle.udf_tree_model.specs.Frame.{setting_of, tree_of}
use Rattle.udf_kept.specs.Selects.{is_rank_at}
use Rattle.udf_kept.proofs.Hanging.{link_is}
use Rattle.udf_contents.proofs.Staying.{chosen_stands, file_stands, start_falls, target_broken}
use Rattle.udf_contents.proofs.stays.target_stays.Goals as goal

pub returns-then-not-is_sound_entry : goal.returns-then-not-is_sound_entry
returns-then-not-is_sound_entry c f v i o k =
    target_broken f v c.args.target.now i o c.args.holder c.args.place (sym c.is_sound_entry.ensures ∙ c.if-not-is_sound_entry.true)

pub returns-then-not-target : goal.returns-then-not-target
returns-then-not-target c f v i o k =
    file_stands f v c.args.target.now i o c.args.holder c.args.place (sym c.is_sound_entry.ensures ∙ c.if-not-is_sound_entry.false) c.if-not-target.true

pub returns-then-target : goal.returns-then-target
returns-then-target c f v i o k =
    start_falls f v c.args.target.now i o c.args.holder c.args.place (sym c.is_sound_entry.ensures ∙ c.if-not-is_sound_entry.false) c.if-not-target.false c.if-target.true

pub returns : goal.returns
returns c f v i o k =
    c.is_link.ensures (λ d. d.level) (chosen_link (setting_of f v) (tree_of f v) c.args.target.now.at) (k c.if-not-target.false)
    ∙ ap (is_rank_at c.args.holder c.args.place) (link_is (setting_of f v) (tree_of f v) c.args.target.now.at (sym i.start ∙ c.if-target.false))
    ∙ chosen_stands f v c.args.target.now i o c.args.holder c.args.place (sym c.is_sound_entry.ensures ∙ c.if-not-is_sound_entry.false) c.if-not-target.false c.if-target.false
