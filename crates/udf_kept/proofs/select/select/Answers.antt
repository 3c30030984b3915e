use Rattle.std.proofs.Common.{Vec}
use Rattle.std.specs.BTreeMap.{get}
use Rattle.std.specs.declared.alloc.Global.{Global}
use Rattle.udf_kept.specs.declared.fitted.Selected.{Selected}
use Rattle.udf_kept.specs.Fitted.{AreSelected, AreSelectedOf}
use Rattle.udf_found.specs.Order.{addr_cmp}
use Rattle.udf_kept.proofs.Choosing.{chosen_is}
use Rattle.udf_found.proofs.Told.{ok_more}
use Rattle.udf_kept.proofs.select.select.Goals as goal

pub returns : goal.returns
returns c = λ s t w h.
    ok_more c.select_all.result (λ (xs : Vec Selected Global). AreSelectedOf s t c.args.held.now c.args.held.now xs.items) (λ (xs : Vec Selected Global). AreSelected s t c.args.held.now xs.items) (λ xs e. record { each = e })
    (c.select_all.ensures s t (record { held = h; choices = chosen_is s t c.args.held.now h w (get addr_cmp c.in_ok-choices.choices) c.in_ok-choices.ensures }))
