use Rattle.std.proofs.Common.{sym, ap, subst, List, ℕ, length, Option}
use Rattle.std.specs.Prelude.{option_map}
use Rattle.udf_outside.specs.Stops.{Held}
use Rattle.udf_entry.specs.ValuesView.{wanted_of}
use Rattle.udf_file_model.specs.Listing as listing
use Rattle.udf_file_plan.specs.Base.{PutsOf, listed}
use Rattle.udf_file_plan.specs.Over.{spread_over}
use Rattle.udf_file_plan.specs.Parts.{content_left, listed_left}
use Rattle.udf_file_plan.proofs.Puts.{puts_as, puts_both}
use Rattle.udf_file_plan.proofs.Results.{ok_then}
use Rattle.udf_file_plan.proofs.mend.put_cut.Goals as goal

pub returns-in-Some-clause-put : goal.returns-in-Some-clause-put
returns-in-Some-clause-put g c tells e reads stands fits =
    let v : Held → listing.Volume = λ h. listed c.args.volume.now h (g.P.Parts.place c.args.parts.now) in
    let h : Held = g.B.Bench.held c.args.bench.now in
    let given : Option (List ℕ) = option_map (λ x. x.now) c.args.content in
    let content : List ℕ = c.in-Some.content.now in
    let runs = c.args.list.now.runs in
    let first = subst (λ (n : ℕ). PutsOf (v h) c.args.wanted.now c.put_listed.new.wanted (listed_left (v h) c.args.kept.own.at e (wanted_of c.args.kept.values.now e.body) n c.args.bytes given))
    c.extents.ensures (c.in_ok-put_listed.ensures.put tells e reads stands fits) in
    ok_then c.put_content.result _ _ (c.put_content.ensures.put tells)
    (λ more. puts_both (v h) c.args.wanted.now c.put_listed.new.wanted c.put_content.new.wanted
    (listed_left (v h) c.args.kept.own.at e (wanted_of c.args.kept.values.now e.body) (length c.args.list.now.extents) c.args.bytes given) (content_left (v h) runs given) first
    (puts_as (v h) c.put_listed.new.wanted c.put_content.new.wanted (spread_over (v h) runs content) (content_left (v h) runs given)
    (subst (λ (k : Held). PutsOf (v k) c.put_listed.new.wanted c.put_content.new.wanted (spread_over (v k) runs content)) c.in_ok-put_listed.ensures.reads.held more)
    (sym (ap (λ (o : Option _). content_left (v h) runs (option_map (λ x. x.now) o)) c.in-Some.is))))
