use Rattle.std.proofs.Common.{◌≡◌, ℕ, Option, None, length, get_or, ap, ◌∙◌, arith, rules}
use Rattle.std.specs.Prelude.{is_some}
use Rattle.std.proofs.lemmas.Option.{slice_get_within}
use Rattle.udf_held.specs.declared.held.Held.{Held}
use Rattle.udf_kept.specs.declared.keeping.Keeping.{Keeping}
use Rattle.udf_dues.specs.NamedParents.{named_seen}
use Rattle.udf_dues.proofs.Tallying.{put_next}
use Rattle.udf_dues.proofs.named_parents.named_parents.Goals as goal

pub loop-position-preserved : goal.loop-position-preserved
loop-position-preserved c = record {
  len = search rules;
  each =
      put_next None c.args.held.now (λ (i : ℕ) (h : Held). named_seen c.args.root c.args.file_set c.args.held.now h (get_or c.args.kept.now i None) (is_some (get_or c.args.contents.now i None)))
      c.loop-position.position c.index-held-position.result c.loop-position.parents.items c.push.new.self.items c.named_parent.result c.index-held-position.is c.loop-position.invariant.len (search rules)
      (c.named_parent.ensures ∙ ap (λ (k : Option Keeping). named_seen c.args.root c.args.file_set c.args.held.now c.index-held-position.result k c.is_written-is_written.result) c.keeping_at-keeping.ensures
      ∙ ap (named_seen c.args.root c.args.file_set c.args.held.now c.index-held-position.result (get_or c.args.kept.now c.loop-position.position None)) c.is_written-is_written.ensures)
      c.loop-position.invariant.each;
}

pub returns : goal.returns
returns c =
    let all : c.loop-position.position ≡ length c.args.held.now = omega arith in
    record {
      len = c.loop-position.invariant.len ∙ all;
      each = λ i h e. c.loop-position.invariant.each i h (let l = slice_get_within c.args.held.now i h e in omega (arith, l, all)) e;
    }
