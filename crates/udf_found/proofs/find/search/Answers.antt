use Rattle.std.proofs.Common.{rules, ◌≡◌, ◌+◌, ◌∷◌, [], List, length, take, arith, refl, sym, ap, ◌∙◌, subst, false}
use Rattle.std.proofs.lemmas.List.{length-map, take_all}
use Rattle.udf_outside.specs.Stops.{bytes_of, Held}
use Rattle.udf_outside.specs.declared.bench.Role.TheVariants.{Image}
use Rattle.udf_file_model.specs.Address.{addr}
use Rattle.udf_file_model.specs.Listing.{Volume, volume_of}
use Rattle.udf_tree_model.specs.Frame.{Frame, places, setting_of, tree_of}
use Rattle.udf_found.specs.declared.arena.Found.{Found}
use Rattle.udf_found.specs.Begin.{HasStarts, IsHolderAlone}
use Rattle.udf_found.specs.Beyond.{HoldsFileSet, IsBeyond}
use Rattle.udf_found.specs.Seen.{HasHolder, IsAt, spots}
use Rattle.udf_found.specs.Spot.{IsFoundList, Spot, addresses, spot}
use Rattle.udf_found.specs.Visit.{IsPlaced}
use Rattle.udf_found.proofs.Beginning.{placed_few, room_stays, search_begins, search_ends}
use Rattle.udf_found.proofs.Seeing.{holder_plain, seen_first, seen_root}
use Rattle.udf_found.proofs.Visiting.{placed_adds}
use Rattle.udf_found.proofs.find.search.Goals as goal

pub loop-next-init : goal.loop-next-init
loop-next-init g c =
    let vol : Held → Volume = λ x. volume_of c.args.size (bytes_of Image x) (g.P.Parts.place c.args.parts.now) in
    let v : Volume = vol (g.B.Bench.held c.args.bench.now) in
    let e = c.in_ok-first.ensures in
    let same : vol (g.B.Bench.held c.add.new.bench) ≡ v = ap vol e.reads.held in
    let q : List Found = c.in_ok-arena.arena in
    let r : List Found = c.add.new.arena in
    let alone : (f : Frame) → HasStarts f c.args.starts → IsHolderAlone f v q = λ f s. c.in_ok-arena.ensures f v s.file_set s.system refl in
    let some : Frame = record { fixed = λ x. false; after = addr 0 0; file_set = c.args.starts.file_set; root = c.args.starts.root; system = c.args.starts.system } in
    let own : HasStarts some c.args.starts = record { file_set = refl; root = refl; system = refl } in
    let whole : c.in_ok-room.room.len ≡ c.args.size = search rules in
    let filled : length c.in_ok-room.room.items ≡ c.args.size = search rules in
    let lent : length c.add.new.room ≡ length c.in_ok-room.room.items = search rules in
    record {
      levels = subst (λ (u : Volume). IsPlaced (places u) (spots r)) (sym same)
          (placed_adds (g.B.Bench.tells × HasHolder some v q) (tree_of some v) (places v) c.args.starts.root 0 (spots q) (spots r) (e.adds some) (omega arith) (alone some own).placed);
      inside = omega arith;
      visits = λ tells f s. subst (λ (u : Volume). IsAt f u 0 r) (sym same)
          (search_begins g.B.Bench.tells tells f v c.args.starts.root q r s.root (alone f s) (e.adds f) (e.read tells f));
      seen = λ tells f s set.
          let set' : HoldsFileSet f v = subst (HoldsFileSet f) same set in
          let start = subst (IsBeyond f v [] [] (spots q)) (sym c.none-start.ensures) (seen_first f v q set' (alone f s)) in
          subst (λ (u : Volume). IsBeyond f u [] [] (spots r) c.without_links-seen.result) (sym same)
          (subst (IsBeyond f v [] [] (spots r)) (sym c.without_links-seen.ensures)
          (seen_root f v (c.args.starts.root ∷ []) (spots r) c.in_ok-first.first (e.seen tells f (holder_plain f v q set' (alone f s) c.args.starts.root) [] [] start)));
      room = room_stays c.in_ok-room.room.len c.add.new.room c.in_ok-room.room.items (whole ∙ sym filled) lent ∙ whole;
      files = refl;
      held = refl;
      calm = refl;
    }

pub loop-next-smaller : goal.loop-next-smaller
loop-next-smaller g c =
    let few = placed_few (places (volume_of c.args.size (bytes_of Image (g.B.Bench.held c.add.new.bench)) (g.P.Parts.place c.args.parts.now))) c.loop-next.arena c.loop-next.invariant.levels in
    omega (arith, few, c.loop-next-test.true, c.len.ensures)

pub loop-next-preserved : goal.loop-next-preserved
loop-next-preserved g c =
    let vol : Held → Volume = λ x. volume_of c.args.size (bytes_of Image x) (g.P.Parts.place c.args.parts.now) in
    let inv = c.loop-next.invariant in
    let e = c.in_ok-seen.ensures in
    let same : vol (g.B.Bench.held c.loop-next.bench) ≡ vol (g.B.Bench.held c.add.new.bench) = ap vol inv.held in
    let r : List Found = c.add_targets.new.arena in
    let whole : c.loop-next.room.len ≡ length c.loop-next.room.items = search rules in
    let lent : length c.add_targets.new.room ≡ length c.loop-next.room.items = search rules in
    record {
      levels = subst (λ (u : Volume). IsPlaced (places u) (spots r)) same e.levels;
      inside = omega (arith, e.grows, c.loop-next-test.true, c.len.ensures);
      visits = λ tells f s. subst (λ (u : Volume). IsAt f u (c.loop-next.next + 1) r) same
          (e.visits tells f (subst (λ (u : Volume). IsAt f u c.loop-next.next c.loop-next.arena) (sym same) (inv.visits tells f s)));
      seen = λ tells f s set.
          let here : (u : Volume) → u ≡ vol (g.B.Bench.held c.add.new.bench) → HoldsFileSet f u × (IsAt f u c.loop-next.next c.loop-next.arena × IsBeyond f u (addresses (take c.loop-next.next (spots c.loop-next.arena))) [] (spots c.loop-next.arena) c.loop-next.seen) =
          λ u k. subst (λ (u : Volume). HoldsFileSet f u × (IsAt f u c.loop-next.next c.loop-next.arena × IsBeyond f u (addresses (take c.loop-next.next (spots c.loop-next.arena))) [] (spots c.loop-next.arena) c.loop-next.seen)) (sym k) (set, (inv.visits tells f s, inv.seen tells f s set)) in
          let b = here (vol (g.B.Bench.held c.loop-next.bench)) same in
          subst (λ (u : Volume). IsBeyond f u (addresses (take (c.loop-next.next + 1) (spots r))) [] (spots r) c.in_ok-seen.seen) same (e.seen tells f b.0 b.1.0 b.1.1);
      room = room_stays c.loop-next.room.len c.add_targets.new.room c.loop-next.room.items whole lent ∙ whole ∙ inv.room;
      files = e.reads.files ∙ inv.files;
      held = e.reads.held ∙ inv.held;
      calm = e.reads.calm ∙ inv.calm;
    }

pub returns-clause-found : goal.returns-clause-found
returns-clause-found g c tells f s =
    let vol : Held → Volume = λ x. volume_of c.args.size (bytes_of Image x) (g.P.Parts.place c.args.parts.now) in
    let inv = c.loop-next.invariant in
    let same : vol (g.B.Bench.held c.add.new.bench) ≡ vol (g.B.Bench.held c.args.bench.now) = ap vol c.in_ok-first.ensures.reads.held in
    subst (λ (u : Volume). IsFoundList (setting_of f u) (tree_of f u) (spots c.loop-next.arena)) same
    (search_ends f (vol (g.B.Bench.held c.add.new.bench)) c.loop-next.next c.loop-next.arena (omega (arith, c.loop-next-test.false, c.len.ensures)) inv.levels (inv.visits tells f s))

pub returns-clause-seen : goal.returns-clause-seen
returns-clause-seen g c tells f s set =
    let vol : Held → Volume = λ x. volume_of c.args.size (bytes_of Image x) (g.P.Parts.place c.args.parts.now) in
    let inv = c.loop-next.invariant in
    let q : List Spot = spots c.loop-next.arena in
    let same : vol (g.B.Bench.held c.add.new.bench) ≡ vol (g.B.Bench.held c.args.bench.now) = ap vol c.in_ok-first.ensures.reads.held in
    let long = length-map c.loop-next.arena (λ (n : Found). spot n.at n.level) in
    let all : take c.loop-next.next q ≡ q = take_all c.loop-next.next q (omega (arith, long, c.loop-next-test.false, c.len.ensures)) in
    subst (λ (u : Volume). IsBeyond f u (addresses q) [] q c.loop-next.seen) same
    (subst (λ (l : List Spot). IsBeyond f (vol (g.B.Bench.held c.add.new.bench)) (addresses l) [] q c.loop-next.seen) all (inv.seen tells f s (subst (HoldsFileSet f) (sym same) set)))
