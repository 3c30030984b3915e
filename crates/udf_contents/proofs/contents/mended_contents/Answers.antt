use Rattle.std.proofs.Common.{List, Option, sym, subst}
use Rattle.udf_field.specs.declared.address.Addr.{Addr}
use Rattle.udf_contents.specs.Stays.{AreMends, Surveys}
use Rattle.udf_contents.proofs.contents.mended_contents.Goals as goal

pub returns-clause-contents : goal.returns-clause-contents
returns-clause-contents g c tells f root file_set v is starts held selected kept =
    let k : Surveys f v c.args.root c.args.file_set c.args.held.now c.args.selected.now c.args.kept.now =
    record { root_is = root; file_set_is = file_set; tells = record { held = held; selected = selected }; kept_are = kept; sound_starts = starts } in
    c.contents_for.ensures.contents tells f v c.args.root c.args.file_set c.args.kept.now is k
    (subst (λ (ms : List (Option Addr)). AreMends f v c.args.held.now c.args.kept.now ms) (sym c.deref.ensures.value) (c.in_ok-mends.ensures f v k))
