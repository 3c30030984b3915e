use Rattle.std.proofs.Common.{◌≡◌, List, ℕ, ap, ◌∙◌}
use Rattle.udf_outside.specs.Stops.{Held, bytes_of}
use Rattle.udf_outside.specs.declared.bench.Role.TheVariants.{Image}
use Rattle.udf_field.specs.declared.address.Span.{Span}
use Rattle.udf_volume_model.specs.Sequence.{front_of, is_spoilt}
use Rattle.udf_volume_model.specs.Kept.{whole_by}
use Rattle.udf_volume_model.specs.Rules.{agrees}
use Rattle.udf_volume.specs.Led.{listed_in}
use Rattle.udf_volume.specs.Spans.{other_span, views_in}
use Rattle.udf_volume.specs.Verdicts.{kept_list, other_list}
use Rattle.udf_volume.proofs.Judged.{compared}
use Rattle.udf_volume.proofs.agreement.sequence_verdict.Goals as goal

pub returns-clause-verdict : goal.returns-clause-verdict
returns-clause-verdict g c = λ tells.
    let v = c.args.volume.now in
    let image : List ℕ = bytes_of Image (g.B.Bench.held c.args.bench.now) in
    let kept : c.in_ok-kept.kept.descriptors.items ≡ kept_list v image =
    c.in_ok-kept.ensures.front tells ∙ ap (λ (e : Span). front_of (views_in v.size image e)) c.kept_extent.ensures in
    let others : c.in_ok-other.other.descriptors.items ≡ other_list v image =
    c.in_ok-other.ensures.front tells ∙ ap (λ (h : Held). front_of (views_in v.size (bytes_of Image h) c.other_extent.result)) c.in_ok-kept.ensures.reads.held
    ∙ ap (λ (e : Span). front_of (views_in v.size image e)) c.other_extent.ensures in
    let spoilt : c.in_ok-other.other.is_spoilt ≡ is_spoilt (views_in v.size image (other_span v)) =
    c.in_ok-other.ensures.spoilt tells ∙ ap (λ (h : Held). is_spoilt (views_in v.size (bytes_of Image h) c.other_extent.result)) c.in_ok-kept.ensures.reads.held
    ∙ ap (λ (e : Span). is_spoilt (views_in v.size image e)) c.other_extent.ensures in
    record {
      kept = kept;
      other = others;
      holds = compared v image c.deref.result.now c.in_ok-other.other.descriptors.items c.in_ok-other.other.is_spoilt c.in_ok-holds.holds
          (c.deref.ensures.value ∙ kept) others spoilt
          (c.in_ok-holds.ensures ∙ ap (λ n. agrees c.deref.result.now (whole_by n (listed_in c.in_ok-other.other))) c.limit.ensures);
    }
