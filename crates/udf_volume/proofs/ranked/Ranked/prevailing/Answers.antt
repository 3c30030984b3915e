use Rattle.std.proofs.Common.{refl, sym, ◌∙◌, ap, get_or, Some}
use Rattle.std.proofs.lemmas.Option.{slice_get_read}
use Rattle.udf_volume_model.specs.Prevailing.{subject_of}
use Rattle.udf_volume.proofs.Prevail.{found}
use Rattle.udf_volume.proofs.ranked.Ranked.prevailing.Goals as goal

pub returns-in-Some : goal.returns-in-Some
returns-in-Some c =
    let index = c.in-Some.index in
    let descriptor = c.index-self-index.result in
    ap Some (sym c.index-self-index.is)
    ∙ found c.args.like.now.id (subject_of c.args.like.now) c.args.self.now index descriptor c.in-Some.ensures.index
    (slice_get_read c.args.self.now _ index descriptor refl c.in-Some.ensures.inside
    (c.index-self-index.is ∙ ap (λ list. get_or list index descriptor) c.self.view_is))
