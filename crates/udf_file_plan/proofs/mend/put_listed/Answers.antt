use Rattle.std.proofs.Common.{◌≡◌, ◌∙◌, sym, ap, arith}
use Rattle.std.specs.Prelude.{option_map}
use Rattle.udf_entry.specs.ValuesView.{wanted_of}
use Rattle.udf_entry.proofs.Told.{size_bounds}
use Rattle.udf_file_model.specs.Entry.{Entry}
use Rattle.udf_file_plan.specs.Base.{listed}
use Rattle.udf_file_plan.specs.Cuts.{further_seen}
use Rattle.udf_file_plan.specs.Parts.{body_left}
use Rattle.udf_file_plan.proofs.Leaving.{entry_there, listed_put, stated_twice}
use Rattle.udf_file_plan.proofs.Results.{ok_then}
use Rattle.udf_file_plan.proofs.mend.put_listed.Goals as goal

pub overflow_cast-len : goal.overflow_cast-len
overflow_cast-len g c =
    omega (arith, c.if-block-base_in.false, c.requires.whole, (size_bounds c.args.volume.now.size c.requires.over.size).1, c.len.ensures, c.len-2.ensures)

pub returns-clause-put : goal.returns-clause-put
returns-clause-put g c tells e reads stands fits =
    let v = listed c.args.volume.now (g.B.Bench.held c.args.bench.now) (g.P.Parts.place c.args.parts.now) in
    let same : c.in-Some.read ≡ e = stated_twice c.in-Some.read e _ c.in-Some.ensures reads in
    ok_then c.put_extents.result _ _ (c.put_extents.ensures.put tells)
    (λ more. listed_put v c.args.kept.own.at e (wanted_of c.args.kept.values.now e.body) c.args.many c.args.bytes _ c.args.wanted.now c.put_entry.new.wanted c.put_extents.new.wanted
    c.args.kept.own.sector c.args.kept.own.header c.kind-kind.result c.args.kept.block.now c.body-2.result.now c.deref.result.now (wanted_of c.with_lengths-values.result c.deref.result.now)
    (option_map further_seen c.first_further-first.result)
    c.requires.there stands (sym (ap (λ (z : Entry). z.header) (entry_there c.args.kept.own.at.block c.args.kept.own.header c.args.kept.block.now e c.requires.header reads)))
    (c.kind-kind.ensures ∙ ap (λ (z : Entry). z.kind) same) (c.body-2.ensures.body ∙ ap (λ (z : Entry). z.body) same)
    (ap (λ z. wanted_of z c.deref.result.now) c.with_lengths-values.ensures)
    (c.deref.ensures.value ∙ c.in_ok-left.ensures ∙ ap (λ b. body_left c.kind-kind.result c.args.kept.own.at b c.args.bytes (option_map (λ x. x.now) c.args.content)) (c.body.ensures.body ∙ sym c.body-2.ensures.body))
    c.first_further-first.ensures c.in_ok-put_entry.ensures.put more)
