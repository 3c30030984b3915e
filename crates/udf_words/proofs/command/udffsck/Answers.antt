use Rattle.std.proofs.lemmas.Result.{IfOk-weaker}
use Rattle.udf_words.specs.Words.{udffsck_app}
use Rattle.udf_words.proofs.Built.{added}
use Rattle.udf_words.proofs.command.udffsck.Goals as goal

pub returns : goal.returns
unfolding udffsck_app
returns c =
    let step-1 = added _ _ _ _ _ _ c.tool.ensures c.flag.ensures.rule c.flag.ensures.local c.in_ok-arg.ensures in
    let step-2 = added _ _ _ _ _ _ step-1 c.flag-2.ensures.rule c.flag-2.ensures.local c.in_ok-arg-2.ensures in
    let step-3 = added _ _ _ _ _ _ step-2 c.short_option.ensures.rule c.short_option.ensures.local c.in_ok-arg-3.ensures in
    let step-4 = added _ _ _ _ _ _ step-3 c.option.ensures.rule c.option.ensures.local c.in_ok-arg-4.ensures in
    IfOk-weaker c.arg-5.result _ _ (λ command adds. added _ _ command _ _ _ step-4 c.place.ensures.rule c.place.ensures.local adds) c.arg-5.ensures
