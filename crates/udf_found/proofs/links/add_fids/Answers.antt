use Rattle.std.proofs.Common.{rules, ◌≡◌, [], List, arith, refl, sym, ◌∙◌, subst}
use Rattle.std.specs.BTreeMap.{get}
use Rattle.udf_file_model.specs.Name.{canonical_cmp}
use Rattle.udf_file_model.specs.Scan.{Placed, fids}
use Rattle.udf_found.proofs.Lines.{IsPast, InScan, scan_begins, scan_more, scan_ends, past_more, stands_low}
use Rattle.udf_found.proofs.links.add_fids.Goals as goal

pub loop-at-init : goal.loop-at-init
loop-at-init c =
    let all : List Placed = fids c.args.size c.args.content.now in
    let whole : all ≡ c.into_iter-at-iterator.result = sym (c.into_iter-at-iterator.ensures.into_iter_gives ∙ c.scan-at-items.ensures) in
    record {
      past = subst (IsPast all) whole (record { done = []; split = refl });
      told = λ o h. let P : List Placed → Type 0 = λ left. InScan o all left (get canonical_cmp c.new-seen.result) c.args.links.now.items in
          subst P whole (scan_begins o all (get canonical_cmp c.new-seen.result) c.args.links.now.items (λ d. search rules) h);
    }

pub add_fid-requires : goal.add_fid-requires
add_fid-requires c =
    let low = stands_low c.args.size c.args.content.now c.loop-at.at-iterator c.next.new.self (c.in-Some.at, c.in-Some.fid) c.in-Some.ensures.steps c.loop-at.invariant.past in
    omega (arith, low)

pub loop-at-preserved : goal.loop-at-preserved
loop-at-preserved c =
    let all = fids c.args.size c.args.content.now in
    record {
      past = past_more all c.loop-at.at-iterator c.next.new.self (c.in-Some.at, c.in-Some.fid) c.in-Some.ensures.steps c.loop-at.invariant.past;
      told = λ o h. scan_more o all c.loop-at.at-iterator c.next.new.self (c.in-Some.at, c.in-Some.fid) (get canonical_cmp c.loop-at.seen) (get canonical_cmp c.add_fid.new.seen)
          c.loop-at.links.items c.add_fid.new.links.items c.in-Some.ensures.steps c.in_ok-add_fid.ensures (c.loop-at.invariant.told o h);
    }

pub returns : goal.returns
returns c o h = scan_ends o c.args.size c.args.content.now c.loop-at.at-iterator (get canonical_cmp c.loop-at.seen) c.loop-at.links.items c.in-None.ensures.steps.0 (c.loop-at.invariant.told o h)
