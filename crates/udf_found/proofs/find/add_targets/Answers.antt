use Rattle.std.proofs.Common.{rules, ◌≡◌, ◌+◌, ◌++◌, ◌∷◌, [], ℕ, suc, List, None, take, get_or, arith, refl, sym, ap, ◌∙◌, subst, true, false}
use Rattle.std.proofs.lemmas.List.{length-map, get_or_default, take_all, take_more}
use Rattle.udf_field.specs.declared.address.Addr.{Addr}
use Rattle.udf_outside.specs.Stops.{bytes_of, Held}
use Rattle.udf_outside.specs.declared.bench.Role.TheVariants.{Image}
use Rattle.udf_file_model.specs.Address.{addr}
use Rattle.udf_file_model.specs.Listing.{Volume, volume_of}
use Rattle.udf_tree_model.specs.Frame.{Frame, places, tree_of}
use Rattle.udf_found.specs.declared.arena.Found.{Found}
use Rattle.udf_tree_model.specs.Refused.{is_indirect}
use Rattle.udf_found.specs.Beyond.{IsBeyond}
use Rattle.udf_found.specs.Linked.{ends_of}
use Rattle.udf_found.specs.Order.{is_known}
use Rattle.udf_found.specs.Seen.{AreRead, HasHolder, IsWithin, spots}
use Rattle.udf_found.specs.Spot.{addresses, spot}
use Rattle.udf_found.specs.Visit.{Adds}
use Rattle.udf_found.proofs.Going.{level_low, arena_grows, going_begins, going_more, going_ends, targets_whole, same_node}
use Rattle.udf_found.proofs.Seeing.{found_plain, front_stays, known_found, seen_ends}
use Rattle.udf_found.proofs.Visiting.{placed_adds}
use Rattle.udf_found.proofs.find.add_targets.Goals as goal

pub loop-target-init : goal.loop-target-init
loop-target-init g c = record {
  levels = c.requires.levels;
  grows = omega arith;
  visits = λ tells f n e h. going_begins f (volume_of c.args.size (bytes_of Image (g.B.Bench.held c.args.bench.now)) (g.P.Parts.place c.args.parts.now)) c.args.next c.args.arena.now n c.requires.inside e h;
  front = refl;
  seen = λ tells f set at h. h;
  room = c.requires.room;
  files = refl;
  held = refl;
  calm = refl;
}

pub overflow_add-level : goal.overflow_add-level
overflow_add-level g c =
    let l = level_low (places (volume_of c.args.size (bytes_of Image (g.B.Bench.held c.args.bench.now)) (g.P.Parts.place c.args.parts.now))) c.args.arena.now c.args.next c.node-node.result.now c.requires.levels c.requires.inside c.node-node.ensures.node in
    omega (arith, l, c.node-node.ensures.few, c.requires.inside)

pub loop-target-preserved : goal.loop-target-preserved
loop-target-preserved g c =
    let vol : Held → Volume = λ x. volume_of c.args.size (bytes_of Image x) (g.P.Parts.place c.args.parts.now) in
    let v : Volume = vol (g.B.Bench.held c.args.bench.now) in
    let inv = c.loop-target.invariant in
    let m : Found = c.node-node.result.now in
    let items : List Addr = c.deref-target-items.result.now in
    let i : ℕ = c.loop-target.target-index in
    let a : Addr = get_or items i (addr 0 0) in
    let q : List Found = c.loop-target.arena in
    let r : List Found = c.add.new.arena in
    let up : m.level + 1 ≡ suc m.level = omega arith in
    let adds : (f : Frame) → Adds (g.B.Bench.tells × HasHolder f v q) (tree_of f v) (places v) a (suc m.level) (spots q) (spots r) = λ f.
    subst (λ (k : ℕ). Adds (g.B.Bench.tells × HasHolder f v q) (tree_of f v) (places v) a k (spots q) (spots r)) up
    (subst (λ (x : Held). Adds (g.B.Bench.tells × HasHolder f (vol x) q) (tree_of f (vol x)) (places (vol x)) a (m.level + 1) (spots q) (spots r)) inv.held (c.in_ok-seen.ensures.adds f)) in
    let some : Frame = record { fixed = λ x. false; after = addr 0 0; file_set = addr 0 0; root = addr 0 0; system = None } in
    let low = level_low (places v) c.args.arena.now c.args.next m c.requires.levels c.requires.inside c.node-node.ensures.node in
    let long = length-map q (λ (x : Found). spot x.at x.level) in
    let more = arena_grows (g.B.Bench.tells × HasHolder some v q) (tree_of some v) (places v) a (suc m.level) q r (adds some) in
    record {
      levels = placed_adds (g.B.Bench.tells × HasHolder some v q) (tree_of some v) (places v) a (suc m.level) (spots q) (spots r) (adds some) (omega (arith, low, long, inv.grows, c.requires.inside)) inv.levels;
      grows = omega (arith, inv.grows, more);
      visits = λ tells f n e h.
          let same : c.in_ok-targets.targets.items ≡ ends_of m.links.items = search rules in
          let whole = targets_whole f v c.args.next c.args.arena.now m items c.requires.inside c.node-node.ensures.node (c.deref-target-items.ensures.value ∙ same) h in
          let read : HasHolder f v q → AreRead f v q → AreRead f v r = λ k b.
          subst (λ (x : Held). HasHolder f (vol x) q → AreRead f (vol x) q → AreRead f (vol x) r) inv.held (c.in_ok-seen.ensures.read tells f) k b in
          subst (λ (y : Found). IsWithin f v c.args.next (spot y.at y.level) (take (i + 1) items) r) (sym (same_node c.args.arena.now c.args.next n m c.requires.inside e c.node-node.ensures.node))
          (going_more g.B.Bench.tells tells f v c.args.next (spot m.at m.level) items i a q r whole c.loop-target-test.true (get_or_default items i (addr 0 0) a c.loop-target-test.true) (adds f) read (inv.visits tells f m c.node-node.ensures.node h));
      front = front_stays (g.B.Bench.tells × HasHolder some v q) (tree_of some v) (places v) a (suc m.level) c.args.next (spots q) (spots r) (omega (arith, long, inv.grows, c.requires.inside)) (adds some) ∙ inv.front;
      seen = λ tells f set h b.
          let within = inv.visits tells f m c.node-node.ensures.node h in
          let more : take (i + 1) items ≡ take i items ++ a ∷ [] = take_more items i a c.loop-target-test.true ∙ ap (λ (y : Addr). take i items ++ y ∷ []) (sym (get_or_default items i (addr 0 0) a c.loop-target-test.true)) in
          let one = subst (λ (x : Held). (is_known a q ≡ true → is_indirect (vol x) a ≡ false) → (done ts : List Addr) → IsBeyond f (vol x) done ts (spots q) c.loop-target.seen
          → IsBeyond f (vol x) done (ts ++ a ∷ []) (spots r) c.in_ok-seen.seen) inv.held (c.in_ok-seen.ensures.seen tells f) in
          subst (λ (ts : List Addr). IsBeyond f v (addresses (take c.args.next (spots c.args.arena.now))) ts (spots r) c.in_ok-seen.seen) (sym more)
          (one (λ k. found_plain f v set a (known_found f v c.args.next (spot m.at m.level) (take i items) q within a k)) (addresses (take c.args.next (spots c.args.arena.now))) (take i items) (inv.seen tells f set h b));
      room = c.in_ok-seen.ensures.room ∙ inv.room;
      files = c.in_ok-seen.ensures.reads.files ∙ inv.files;
      held = c.in_ok-seen.ensures.reads.held ∙ inv.held;
      calm = c.in_ok-seen.ensures.reads.calm ∙ inv.calm;
    }

pub returns-clause-visits : goal.returns-clause-visits
returns-clause-visits g c tells f h =
    let v : Volume = volume_of c.args.size (bytes_of Image (g.B.Bench.held c.args.bench.now)) (g.P.Parts.place c.args.parts.now) in
    let m : Found = c.node-node.result.now in
    let items : List Addr = c.deref-target-items.result.now in
    let same : c.in_ok-targets.targets.items ≡ ends_of m.links.items = search rules in
    let whole = targets_whole f v c.args.next c.args.arena.now m items c.requires.inside c.node-node.ensures.node (c.deref-target-items.ensures.value ∙ same) h in
    going_ends f v c.args.next (spot m.at m.level) items c.loop-target.target-index c.loop-target.arena whole (omega (arith, c.loop-target-test.false)) (c.loop-target.invariant.visits tells f m c.node-node.ensures.node h)

pub returns-clause-seen : goal.returns-clause-seen
returns-clause-seen g c tells f set h b =
    let v : Volume = volume_of c.args.size (bytes_of Image (g.B.Bench.held c.args.bench.now)) (g.P.Parts.place c.args.parts.now) in
    let inv = c.loop-target.invariant in
    let m : Found = c.node-node.result.now in
    let items : List Addr = c.deref-target-items.result.now in
    let same : c.in_ok-targets.targets.items ≡ ends_of m.links.items = search rules in
    let whole = targets_whole f v c.args.next c.args.arena.now m items c.requires.inside c.node-node.ensures.node (c.deref-target-items.ensures.value ∙ same) h in
    let all : take c.loop-target.target-index items ≡ items = take_all c.loop-target.target-index items (omega (arith, c.loop-target-test.false)) in
    seen_ends f v c.args.next (spot m.at m.level) (take c.loop-target.target-index items) c.args.arena.now c.loop-target.arena c.loop-target.seen (all ∙ whole) inv.front
    (inv.visits tells f m c.node-node.ensures.node h) (inv.seen tells f set h b)
