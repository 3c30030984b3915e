use Rattle.std.proofs.Common.{◌≡◌, List, ◌++◌, map, sym, ap, ◌∙◌, append-nil, Bool, Option}
use Rattle.std.specs.List.{count_by}
use Rattle.udf_outside.specs.Stops.{bytes_of}
use Rattle.udf_outside.specs.declared.bench.Role.TheVariants.{Image}
use Rattle.udf_field.specs.declared.address.Short.{Short}
use Rattle.udf_file_model.specs.Listing.{volume_of}
use Rattle.udf_rules.specs.declared.finding.Finding.{Finding}
use Rattle.udf_rules.specs.Findings.{finding_of}
use Rattle.udf_rules_model.specs.Bitmap.{bitmap_findings, free_blocks}
use Rattle.udf_free.specs.Verdict.{verdict_in}
use Rattle.udf_free.specs.declared.verdict.BitmapVerdict.{BitmapVerdict}
use Rattle.udf_file_rules.specs.Space.{bitmap_report}
use Rattle.udf_file_rules.proofs.Spaced.{bitmap_laid, free_counted, none_reported, reported}
use Rattle.udf_file_rules.proofs.bitmap.check_bitmap.Goals as goal

pub returns-in_default-clause-found : goal.returns-in_default-clause-found
returns-in_default-clause-found g c = λ tells f free.
    let v = volume_of c.args.volume.now.size (bytes_of Image (g.B.Bench.held c.args.bench.now)) (g.P.Parts.place c.args.parts.now) in
    let old = c.args.findings.now in
    sym (ap (λ (o : Option Short). old ++ map finding_of (bitmap_findings f v c.args.volume.now.length o)) c.in_default.is
    ∙ ap (λ (l : List Finding). old ++ l) (none_reported f v c.args.volume.now.length) ∙ append-nil old)

pub bitmap_verdict-requires-clause-extent : goal.bitmap_verdict-requires-clause-extent
bitmap_verdict-requires-clause-extent g c = bitmap_laid c.args.volume.now c.in-Some.extent c.requires.laid c.in-Some.is

pub returns-clause-found : goal.returns-clause-found
returns-clause-found g c = λ tells f free.
    let v = volume_of c.args.volume.now.size (bytes_of Image (g.B.Bench.held c.args.bench.now)) (g.P.Parts.place c.args.parts.now) in
    let blocks = c.args.volume.now.length in
    let old = c.args.findings.now in
    let many : c.free_count.result ≡ free_blocks f v blocks =
    c.free_count.ensures ∙ ap (λ (bits : List Bool). count_by (λ b. b) bits) free ∙ free_counted f v blocks in
    c.in_ok-report_bitmap.ensures
    ∙ ap (λ (verdict : BitmapVerdict). old ++ bitmap_report verdict c.free_count.result) (c.in_ok-verdict.ensures.verdict tells f free)
    ∙ ap (λ n. old ++ bitmap_report (verdict_in f v blocks c.in-Some.extent) n) many
    ∙ ap (λ (l : List Finding). old ++ l) (reported f v blocks c.in-Some.extent)
    ∙ sym (ap (λ (o : Option Short). old ++ map finding_of (bitmap_findings f v blocks o)) c.in-Some.is)
