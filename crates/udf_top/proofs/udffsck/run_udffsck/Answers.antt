use Rattle.std.proofs.Common.{◌++◌, ℕ, inl, refl, sym, ◌∙◌, ap, subst, List, Some, Ok, Err}
use Rattle.udf_outside.specs.Stops.{pair_of}
use Rattle.udf_words.specs.declared.command.Work.{Work}
use Rattle.udf_words.specs.Asked.{side_seen}
use Rattle.udf_top.specs.Texts.{text_of}
use Rattle.udf_top.specs.Endings.{HasEnded}
use Rattle.udf_top.specs.Udffsck.{HoldsFront}
use Rattle.udf_top.specs.declared.outcome.Outcome.TheVariants as outcome
use Rattle.udf_top.proofs.Safe.{unbegun}
use Rattle.udf_top.proofs.Ends.{repairs_failed}
use Rattle.udf_top.proofs.Commanded as commanded
use Rattle.udf_top.proofs.udffsck.run_udffsck.Goals as goal

pub returns-in-Err-Usage-clause-outcome : goal.returns-in-Err-Usage-clause-outcome
returns-in-Err-Usage-clause-outcome g c tells ended =
    c.say.ensures.kept ended ∙ sym (commanded.outcome_is _ (Err c.in-Err-Usage.cause) (commanded.refused_words _ _ _ c.in-Err-Usage.field-0-is c.in-Err-Usage.ensures.read) _)

pub returns-in-Err-Usage-clause-output : goal.returns-in-Err-Usage-clause-output
returns-in-Err-Usage-clause-output g c tells before told ended =
    c.say.ensures.whole before told ended ∙ ap (λ (t : List ℕ). Some (before ++ t)) (sym (commanded.output_is _ (Err c.in-Err-Usage.cause) (commanded.refused_words _ _ _ c.in-Err-Usage.field-0-is c.in-Err-Usage.ensures.read) _))

pub returns-in-Err-Usage-clause-front : goal.returns-in-Err-Usage-clause-front
returns-in-Err-Usage-clause-front g c tells before told =
    subst (λ (t : List ℕ). HoldsFront (g.O.Sink.told c.say.new.out) before t) (sym (commanded.output_is _ (Err c.in-Err-Usage.cause) (commanded.refused_words _ _ _ c.in-Err-Usage.field-0-is c.in-Err-Usage.ensures.read) _)) (c.say.ensures.front before told)

pub returns-in-Err-Usage-clause-repairs : goal.returns-in-Err-Usage-clause-repairs
returns-in-Err-Usage-clause-repairs g c tells repair e = absurd (commanded.none_asked _ (Err c.in-Err-Usage.cause) (commanded.refused_words _ _ _ c.in-Err-Usage.field-0-is c.in-Err-Usage.ensures.read) refl repair e)

pub returns-in-Check-clause-outcome : goal.returns-in-Check-clause-outcome
returns-in-Check-clause-outcome g c tells ended =
    let read = c.in-Ok.ensures.read ∙ ap (λ (w : Work). Ok (record { size = c.in-Ok.command.size; medium = c.in-Ok.command.medium.now; side = side_seen w c.in-Ok.command.medium.now })) c.in-Check.is in
    let kept = c.say-in-Check.ensures.kept ended in
    kept ∙ c.check-outcome.ensures.answers tells (subst HasEnded kept ended) ∙ sym (commanded.outcome_is _ _ read (pair_of (g.B.Bench.held c.args.bench.now)))

pub returns-in-Check-clause-output : goal.returns-in-Check-clause-output
returns-in-Check-clause-output g c tells before told ended =
    let read = c.in-Ok.ensures.read ∙ ap (λ (w : Work). Ok (record { size = c.in-Ok.command.size; medium = c.in-Ok.command.medium.now; side = side_seen w c.in-Ok.command.medium.now })) c.in-Check.is in
    let kept = c.say-in-Check.ensures.kept ended in
    c.say-in-Check.ensures.whole before told ended
    ∙ ap (λ (t : List ℕ). Some (before ++ t)) (ap (text_of _) (c.check-outcome.ensures.answers tells (subst HasEnded kept ended))
    ∙ sym (commanded.output_is _ _ read (pair_of (g.B.Bench.held c.args.bench.now))))

pub returns-in-Check-clause-front : goal.returns-in-Check-clause-front
returns-in-Check-clause-front g c tells before told =
    let read = c.in-Ok.ensures.read ∙ ap (λ (w : Work). Ok (record { size = c.in-Ok.command.size; medium = c.in-Ok.command.medium.now; side = side_seen w c.in-Ok.command.medium.now })) c.in-Check.is in
    subst (λ (t : List ℕ). HoldsFront (g.O.Sink.told c.say-in-Check.new.out) before t) (sym (commanded.output_is _ _ read (pair_of (g.B.Bench.held c.args.bench.now))))
    (commanded.front_by _ before _ _ c.check-outcome.result (c.check-outcome.ensures.answers tells) (c.say-in-Check.ensures.front before told))

pub returns-in-Check-clause-repaired : goal.returns-in-Check-clause-repaired
returns-in-Check-clause-repaired g c repair e =
    let read = c.in-Ok.ensures.read ∙ ap (λ (w : Work). Ok (record { size = c.in-Ok.command.size; medium = c.in-Ok.command.medium.now; side = side_seen w c.in-Ok.command.medium.now })) c.in-Check.is in
    absurd (commanded.none_asked _ _ read refl repair e)

pub returns-in-Check-clause-repairs : goal.returns-in-Check-clause-repairs
returns-in-Check-clause-repairs g c tells repair e =
    let read = c.in-Ok.ensures.read ∙ ap (λ (w : Work). Ok (record { size = c.in-Ok.command.size; medium = c.in-Ok.command.medium.now; side = side_seen w c.in-Ok.command.medium.now })) c.in-Check.is in
    absurd (commanded.none_asked _ _ read refl repair e)

pub returns-in-Repair-clause-outcome : goal.returns-in-Repair-clause-outcome
returns-in-Repair-clause-outcome g c tells ended =
    let read = c.in-Ok.ensures.read ∙ ap (λ (w : Work). Ok (record { size = c.in-Ok.command.size; medium = c.in-Ok.command.medium.now; side = side_seen w c.in-Ok.command.medium.now })) c.in-Repair.is in
    c.repair_beside.ensures.outcome tells ended ∙ sym (commanded.outcome_is _ _ read _)

pub returns-in-Repair-clause-output : goal.returns-in-Repair-clause-output
returns-in-Repair-clause-output g c tells before told ended =
    let read = c.in-Ok.ensures.read ∙ ap (λ (w : Work). Ok (record { size = c.in-Ok.command.size; medium = c.in-Ok.command.medium.now; side = side_seen w c.in-Ok.command.medium.now })) c.in-Repair.is in
    (c.repair_beside.ensures.said tells before told).whole ended ∙ ap (λ (t : List ℕ). Some (before ++ t)) (sym (commanded.output_is _ _ read _))

pub returns-in-Repair-clause-front : goal.returns-in-Repair-clause-front
returns-in-Repair-clause-front g c tells before told =
    let read = c.in-Ok.ensures.read ∙ ap (λ (w : Work). Ok (record { size = c.in-Ok.command.size; medium = c.in-Ok.command.medium.now; side = side_seen w c.in-Ok.command.medium.now })) c.in-Repair.is in
    subst (λ (t : List ℕ). HoldsFront (g.O.Sink.told c.repair_beside.new.out) before t) (sym (commanded.output_is _ _ read _)) (c.repair_beside.ensures.said tells before told).front

pub returns-in-Repair-clause-said : goal.returns-in-Repair-clause-said
returns-in-Repair-clause-said g c none before told ended =
    let read = c.in-Ok.ensures.read ∙ ap (λ (w : Work). Ok (record { size = c.in-Ok.command.size; medium = c.in-Ok.command.medium.now; side = side_seen w c.in-Ok.command.medium.now })) c.in-Repair.is in
    c.repair_beside.ensures.unsaid (sym (commanded.repair_is _ _ read) ∙ none) before told ended
    ∙ ap (λ (t : List ℕ). Some (before ++ t)) (sym (commanded.text_is _ _ read c.repair_beside.result))

pub returns-in-Repair-clause-repaired : goal.returns-in-Repair-clause-repaired
returns-in-Repair-clause-repaired g c repair e =
    let read = c.in-Ok.ensures.read ∙ ap (λ (w : Work). Ok (record { size = c.in-Ok.command.size; medium = c.in-Ok.command.medium.now; side = side_seen w c.in-Ok.command.medium.now })) c.in-Repair.is in
    c.repair_beside.ensures.asked repair (sym (commanded.repair_is _ _ read) ∙ e)

pub returns-in-Repair-clause-unasked : goal.returns-in-Repair-clause-unasked
returns-in-Repair-clause-unasked g c none other =
    let read = c.in-Ok.ensures.read ∙ ap (λ (w : Work). Ok (record { size = c.in-Ok.command.size; medium = c.in-Ok.command.medium.now; side = side_seen w c.in-Ok.command.medium.now })) c.in-Repair.is in
    c.repair_beside.ensures.unasked (sym (commanded.repair_is _ _ read) ∙ none)

pub returns-in-Repair-clause-held : goal.returns-in-Repair-clause-held
returns-in-Repair-clause-held g c none =
    let read = c.in-Ok.ensures.read ∙ ap (λ (w : Work). Ok (record { size = c.in-Ok.command.size; medium = c.in-Ok.command.medium.now; side = side_seen w c.in-Ok.command.medium.now })) c.in-Repair.is in
    c.repair_beside.ensures.held (sym (commanded.repair_is _ _ read) ∙ none)

pub returns-in-Repair-clause-repairs : goal.returns-in-Repair-clause-repairs
returns-in-Repair-clause-repairs g c tells repair e =
    let read = c.in-Ok.ensures.read ∙ ap (λ (w : Work). Ok (record { size = c.in-Ok.command.size; medium = c.in-Ok.command.medium.now; side = side_seen w c.in-Ok.command.medium.now })) c.in-Repair.is in
    c.repair_beside.ensures.repairs tells repair (sym (commanded.repair_is _ _ read) ∙ e)

pub returns-in-Err-Usage-clause-repaired : goal.returns-in-Err-Usage-clause-repaired
returns-in-Err-Usage-clause-repaired g c repair e = absurd (commanded.none_asked _ (Err c.in-Err-Usage.cause) (commanded.refused_words _ _ _ c.in-Err-Usage.field-0-is c.in-Err-Usage.ensures.read) refl repair e)

pub returns-in-Err-Memory-clause-repairs : goal.returns-in-Err-Memory-clause-repairs
returns-in-Err-Memory-clause-repairs g c tells repair is =
    let old = g.B.Bench.held c.args.bench.now in
    repairs_failed repair.size old old (unbegun repair.size old old (c.requires.synced tells) refl) outcome.Memory (λ ended. ended) (λ none. inl refl)
