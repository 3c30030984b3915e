use Rattle.std.proofs.Common.{◌≡◌, ℕ, Option, length, ap, ◌∙◌, arith, rules}
use Rattle.std.specs.Prelude.{slice_get}
use Rattle.std.proofs.lemmas.Option.{slice_get_within}
use Rattle.udf_dues.specs.declared.counts.Count.{Count}
use Rattle.udf_held.specs.declared.held.Held.{Held}
use Rattle.udf_dues.specs.LinkCounts.{links_seen}
use Rattle.udf_dues.proofs.Tallying.{put_next}
use Rattle.udf_dues.proofs.link_counts.link_counts_of.Goals as goal

pub loop-i-preserved : goal.loop-i-preserved
loop-i-preserved c = record {
  len = search rules;
  each =
      put_next 0 c.args.held.now (λ (i : ℕ) (h : Held). links_seen h (slice_get c.args.counts.now i))
      c.loop-i.i c.index-held-i.result c.loop-i.links.items c.push.new.self.items c.settled_links.result c.index-held-i.is c.loop-i.invariant.len (search rules)
      (c.settled_links.ensures ∙ ap (λ (o : Option Count). links_seen c.index-held-i.result o) c.count_at.ensures)
      c.loop-i.invariant.each;
}

pub returns : goal.returns
returns c =
    let all : c.loop-i.i ≡ length c.args.held.now = omega arith in
    record { each = λ i h e. c.loop-i.invariant.each i h (let l = slice_get_within c.args.held.now i h e in omega (arith, l, all)) e }
