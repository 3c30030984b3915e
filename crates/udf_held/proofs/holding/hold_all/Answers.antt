use Rattle.std.proofs.Common.{rules, ◌≡◌, ◌∷◌, [], List, length, refl, sym, ap, ◌∙◌, subst, arith}
use Rattle.std.specs.Vec.Iter.{into_iter_items}
use Rattle.udf_outside.specs.Stops.{bytes_of, Held as Kept}
use Rattle.udf_outside.specs.declared.bench.Role.TheVariants.{Image}
use Rattle.udf_file_model.specs.Listing.{Volume, volume_of}
use Rattle.udf_tree_model.specs.Frame.{setting_of, tree_of}
use Rattle.udf_found.specs.declared.arena.Found.{Found}
use Rattle.udf_found.specs.Seen.{AreRead, spots}
use Rattle.udf_found.specs.Spot.{IsFoundList}
use Rattle.udf_found.proofs.Beginning.{room_stays}
use Rattle.udf_held.specs.Standing.{AreStanding, IsStanding}
use Rattle.udf_found.specs.Shape.{IsShaped}
use Rattle.udf_found.specs.Linked.{AreLinks}
use Rattle.udf_held.specs.Held.{HoldsAt}
use Rattle.udf_tree_model.specs.Found.{whole_links}
use Rattle.udf_held.proofs.Holdings.{holding_begins, holding_ends, holding_more, next_held, next_stands, none_stands}
use Rattle.udf_held.proofs.holding.hold_all.Goals as goal

nothing_left : {X : Type 0} (l : List X) → length l ≡ 0 → l ≡ []
nothing_left [] h = refl
nothing_left (x ∷ xs) h = absurd (omega arith)

pub loop-node-init : goal.loop-node-init
loop-node-init g c =
    let v : Volume = volume_of c.args.size (bytes_of Image (g.B.Bench.held c.args.bench.now)) (g.P.Parts.place c.args.parts.now) in
    record {
      next = tt;
      finite = tt;
      many = let gives = c.into_iter-node-iterator.ensures.into_iter_gives in let few = ap length gives.0 in let ok = c.into_nodes-node-items.result.ok.0 in omega (arith, gives.1, few, ok);
      told = λ tells f root read standing. holding_begins f v (into_iter_items c.into_iter-node-iterator.result) c.args.standings.now c.new-held.result.items c.new-held.ensures.items standing;
      room = search rules;
      files = refl;
      held = refl;
      calm = refl;
    }

pub returns-in_default-clause-held : goal.returns-in_default-clause-held
returns-in_default-clause-held g c tells f root read listed standing =
    let v : Volume = volume_of c.args.size (bytes_of Image (g.B.Bench.held c.args.bench.now)) (g.P.Parts.place c.args.parts.now) in
    let all : into_iter_items c.into_iter-node-iterator.result ≡ c.args.arena = c.into_iter-node-iterator.ensures.into_iter_gives.0 ∙ c.into_nodes-node-items.ensures in
    let now = c.loop-node.invariant.told tells f root (subst (AreRead f v) (sym all) read) (subst (λ (ns : List Found). AreStanding (setting_of f v) (tree_of f v) ns c.args.standings.now) (sym all) standing) in
    absurd (none_stands f v (into_iter_items c.into_iter-node-iterator.result) (into_iter_items c.loop-node.node-iterator) (into_iter_items c.next.new.self) c.in-Some.node c.loop-node.left.now c.loop-node.held.items
    c.in-Some.ensures.steps.0 (search rules) now)

pub loop-node-preserved : goal.loop-node-preserved
loop-node-preserved g c =
    let v : Volume = volume_of c.args.size (bytes_of Image (g.B.Bench.held c.args.bench.now)) (g.P.Parts.place c.args.parts.now) in
    let inv = c.loop-node.invariant in
    let steps = c.in-Some.ensures.steps in
    let lent : length c.hold.new.room ≡ length c.loop-node.room.items = search rules in
    let whole : c.loop-node.room.len ≡ length c.loop-node.room.items = search rules in
    record {
      next = tt;
      finite = tt;
      many = let short = ap length steps.0 in let gone = steps.1 in let was = inv.many in omega (arith, short, gone, was);
      told = λ tells f root read standing.
          let now = inv.told tells f root read standing in
          let same : volume_of c.args.size (bytes_of Image (g.B.Bench.held c.loop-node.bench)) (g.P.Parts.place c.args.parts.now) ≡ v =
          ap (λ (x : Kept). volume_of c.args.size (bytes_of Image x) (g.P.Parts.place c.args.parts.now)) inv.held in
          let left : c.loop-node.left.now ≡ c.in-Some-split_first.standing.now ∷ c.in-Some-split_first.rest.now = search rules in
          let n : Found = c.in-Some.node in
          let among = next_held f v (into_iter_items c.into_iter-node-iterator.result) (into_iter_items c.loop-node.node-iterator) (into_iter_items c.next.new.self) n c.loop-node.left.now c.loop-node.held.items steps.0 now in
          let stands = next_stands f v (into_iter_items c.into_iter-node-iterator.result) (into_iter_items c.loop-node.node-iterator) (into_iter_items c.next.new.self) n c.loop-node.left.now c.in-Some-split_first.rest.now c.in-Some-split_first.standing.now c.loop-node.held.items steps.0 left now in
          let held = c.in_ok-hold.ensures.held tells f root (subst (λ (w : Volume). IsShaped f w n.at n.shape) (sym same) (read.shapes n among)) (subst (λ (w : Volume). AreLinks (whole_links (tree_of f w) n.at) n.links.items) (sym same) (read.each n among))
          (subst (λ (w : Volume). IsStanding (setting_of f w) (tree_of f w) n.at c.in-Some-split_first.standing.now) (sym same) stands) in
          holding_more f v (into_iter_items c.into_iter-node-iterator.result) (into_iter_items c.loop-node.node-iterator) (into_iter_items c.next.new.self) n c.loop-node.left.now c.in-Some-split_first.rest.now c.in-Some-split_first.standing.now
          c.loop-node.held.items c.push.new.self.items c.in_ok-hold.field-0 steps.0 left c.in_ok-push.ensures.items (subst (λ (w : Volume). HoldsAt f w n.at n.level c.in_ok-hold.field-0) same held) now;
      room = room_stays c.loop-node.room.len c.hold.new.room c.loop-node.room.items whole lent ∙ whole ∙ inv.room;
      files = c.in_ok-hold.ensures.reads.files ∙ inv.files;
      held = c.in_ok-hold.ensures.reads.held ∙ inv.held;
      calm = c.in_ok-hold.ensures.reads.calm ∙ inv.calm;
    }

pub returns-clause-held : goal.returns-clause-held
returns-clause-held g c tells f root read listed standing =
    let v : Volume = volume_of c.args.size (bytes_of Image (g.B.Bench.held c.args.bench.now)) (g.P.Parts.place c.args.parts.now) in
    let all : into_iter_items c.into_iter-node-iterator.result ≡ c.args.arena = c.into_iter-node-iterator.ensures.into_iter_gives.0 ∙ c.into_nodes-node-items.ensures in
    let now = c.loop-node.invariant.told tells f root (subst (AreRead f v) (sym all) read) (subst (λ (ns : List Found). AreStanding (setting_of f v) (tree_of f v) ns c.args.standings.now) (sym all) standing) in
    let many = c.loop-node.invariant.many in
    let none = c.in-None.ensures.steps in
    holding_ends f v (into_iter_items c.into_iter-node-iterator.result) (into_iter_items c.loop-node.node-iterator) c.loop-node.left.now c.loop-node.held.items
    (nothing_left (into_iter_items c.loop-node.node-iterator) (sym many ∙ none.0)) (subst (λ (ns : List Found). IsFoundList (setting_of f v) (tree_of f v) (spots ns)) (sym all) listed) now
