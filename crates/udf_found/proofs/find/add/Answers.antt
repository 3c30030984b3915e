use Rattle.std.proofs.Common.{rules, ◌≡◌, ◌<◌, ◌++◌, ◌∷◌, [], arith, Some, refl, sym, ◌∙◌, subst, false}
use Rattle.std.specs.Prelude.{IsSome}
use Rattle.udf_outside.specs.Stops.{bytes_of}
use Rattle.udf_outside.specs.declared.bench.Role.TheVariants.{Image}
use Rattle.udf_file_model.specs.Listing.{Volume, volume_of}
use Rattle.udf_entry.proofs.Told.{size_bounds}
use Rattle.udf_found.specs.declared.arena.Found.{Found}
use Rattle.udf_found.specs.Order.{is_known}
use Rattle.udf_found.specs.Beyond.{IsBeyond}
use Rattle.udf_found.specs.Read.{Reads}
use Rattle.udf_found.specs.Seen.{spots}
use Rattle.udf_found.proofs.Adding.{added, read_push}
use Rattle.udf_found.proofs.Seeing.{seen_entry}
use Rattle.udf_found.proofs.Told.{address_is}
use Rattle.udf_found.proofs.find.add.Goals as goal

pub returns-in_ok-push-in-Entry-clause-adds : goal.returns-in_ok-push-in-Entry-clause-adds
returns-in_ok-push-in-Entry-clause-adds g c f =
    let v : Volume = volume_of c.args.size (bytes_of Image (g.B.Bench.held c.args.bench.now)) (g.P.Parts.place c.args.parts.now) in
    let node : Found = record { at = c.args.at; level = c.args.level; links = c.in-Entry.links; shape = Some c.in-Entry.shape } in
    let k : is_known c.args.at c.args.arena.now ≡ false = sym c.knows.ensures ∙ c.if-knows.false in
    let p : c.args.at.part < 65536 = omega arith in
    let b : c.args.at.block < 4294967296 = omega arith in
    let there : IsSome (v.place c.args.at) = search rules in
    added g.B.Bench.tells f v c.args.at c.args.level c.args.arena.now c.push.new.self node refl refl k (address_is c.args.at p b) there
    (λ tells. let x = subst (Reads v c.args.at) c.in-Entry.is (c.in_ok-read_sought.ensures.sought tells) in (x.0, x.1))
    c.in_ok-push-in-Entry.ensures.ok

pub returns-in_ok-push-in-Entry-clause-read : goal.returns-in_ok-push-in-Entry-clause-read
returns-in_ok-push-in-Entry-clause-read g c tells f h a =
    let v : Volume = volume_of c.args.size (bytes_of Image (g.B.Bench.held c.args.bench.now)) (g.P.Parts.place c.args.parts.now) in
    let node : Found = record { at = c.args.at; level = c.args.level; links = c.in-Entry.links; shape = Some c.in-Entry.shape } in
    let k : is_known c.args.at c.args.arena.now ≡ false = sym c.knows.ensures ∙ c.if-knows.false in
    let low = (size_bounds c.args.size c.requires.size).0 in
    let x = subst (Reads v c.args.at) c.in-Entry.is (c.in_ok-read_sought.ensures.sought tells) in
    read_push f v c.args.arena.now c.push.new.self node (omega (arith, low)) k
    (x.0, x.1, x.2, (c.in-Entry.shape, refl, x.3))
    c.in_ok-push-in-Entry.ensures.ok h a

pub returns-in_ok-push-in-Entry-clause-seen : goal.returns-in_ok-push-in-Entry-clause-seen
returns-in_ok-push-in-Entry-clause-seen g c tells f plain done ts h =
    let v : Volume = volume_of c.args.size (bytes_of Image (g.B.Bench.held c.args.bench.now)) (g.P.Parts.place c.args.parts.now) in
    let node : Found = record { at = c.args.at; level = c.args.level; links = c.in-Entry.links; shape = Some c.in-Entry.shape } in
    let x = subst (Reads v c.args.at) c.in-Entry.is (c.in_ok-read_sought.ensures.sought tells) in
    subst (IsBeyond f v done (ts ++ c.args.at ∷ []) (spots c.push.new.self)) (sym c.with-in-Entry.ensures)
    (seen_entry f v done ts c.args.at x.0 c.args.arena.now c.push.new.self node c.args.beyond c.in-Entry.own x.1 x.4 refl c.in_ok-push-in-Entry.ensures.ok h)
