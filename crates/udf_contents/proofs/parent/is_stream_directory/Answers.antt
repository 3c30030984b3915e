use Rattle.std.proofs.Common.{◌∙◌, rules, ◌≡◌, true, false}
use Rattle.udf_kept.proofs.Hanging.{not_stream, pointer_none, pointer_some, stream_is}
use Rattle.udf_contents.proofs.parent.is_stream_directory.Goals as goal

pub returns-in-Some : goal.returns-in-Some
returns-in-Some c s t hs x k d =
    let on : c.args.entry.now.directory ≡ true = search rules in
    pointer_some hs (λ h. h.level) _ c.args.selected.now.chosen c.in-Some.choice c.in-Some.is (x.choice on) ∙ stream_is s t c.args.entry.now.at c.args.entry.now.directory on k d

pub returns-in-None : goal.returns-in-None
returns-in-None c s t hs x k d =
    let on : c.args.entry.now.directory ≡ true = search rules in
    pointer_none hs (λ h. h.level) _ c.args.selected.now.chosen c.in-None.is (x.choice on) ∙ stream_is s t c.args.entry.now.at c.args.entry.now.directory on k d

pub returns-then-not-entry : goal.returns-then-not-entry
returns-then-not-entry c s t hs x k d =
    let off : c.args.entry.now.directory ≡ false = search rules in
    not_stream s t c.args.entry.now.at c.args.entry.now.directory off k d
