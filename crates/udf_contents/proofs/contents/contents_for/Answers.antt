use Rattle.std.proofs.Common.{rules, ◌≡◌, ◌≤◌, ◌∷◌, [], List, Option, length, map, take, arith, true, sym, ap, ◌∙◌, subst}
use Rattle.std.proofs.lemmas.List.{length-append, take_all}
use Rattle.udf_outside.specs.Stops.{bytes_of, Held as Disks}
use Rattle.udf_outside.specs.declared.bench.Role.TheVariants.{Image}
use Rattle.udf_file_model.specs.Listing.{Volume, volume_of}
use Rattle.udf_tree_model.specs.Chosen.{fitted}
use Rattle.udf_tree_model.specs.Frame.{setting_of, tree_of}
use Rattle.udf_kept.specs.declared.fitted.Fitted.{Fitted}
use Rattle.udf_held.specs.declared.held.Held.{Held}
use Rattle.udf_kept.specs.declared.keeping.Keeping.{Keeping}
use Rattle.udf_contents.specs.Contents.{AreContentsOf}
use Rattle.udf_kept.specs.Fitted.{step_of, step_seen}
use Rattle.udf_contents.specs.Stays.{IsMend, fitted_by, mend_by}
use Rattle.udf_found.proofs.Beginning.{room_stays}
use Rattle.udf_kept.proofs.Indexing.{member_of_get}
use Rattle.udf_contents.proofs.Mending.{contents_more, got, keeping_there, kept_long, mend_there}
use Rattle.udf_contents.proofs.Staying.{selected_at}
use Rattle.udf_contents.proofs.contents.contents_for.Goals as goal

pub loop-i-preserved : goal.loop-i-preserved
loop-i-preserved g c =
    let inv = c.loop-i.invariant in
    let e = c.in_ok-content.ensures in
    let vol : Disks → Volume = λ x. volume_of c.args.size (bytes_of Image x) (g.P.Parts.place c.args.parts.now) in
    let whole : c.loop-i.room.len ≡ length c.loop-i.room.items = search rules in
    let lent : length c.content_for.new.room ≡ length c.loop-i.room.items = search rules in
    let hs : List Held = c.args.held.now in
    let i = c.loop-i.i in
    let h : Held = c.index-held-i.result in
    let at = got hs i h c.loop-i-test.true c.index-held-i.is in
    let m = member_of_get hs i h at in
    record {
      long = let p = ap length c.in_ok-push.ensures.items in omega (arith, inv.long, p, length-append c.loop-i.contents.items (c.in_ok-content.content ∷ []));
      are = λ tells f v root file_set ks is k mends.
          let s = setting_of f v in
          let t = tree_of f v in
          let y = keeping_there s t hs hs ks i h k.kept_are.each at in
          let x = selected_at f v hs hs c.args.selected.now i h k.tells.selected.each at in
          let z = mend_there f v hs ks c.args.mends.now i h y.0 mends at y.1 in
          let mend : IsMend f v h y.0 c.above_at-mend.result = subst (IsMend f v h y.0) (sym (c.above_at-mend.ensures ∙ ap mend_by z.1)) z.2 in
          let steps : h.sound ≡ true → map (step_seen hs) c.fitted_at-fitted.result.now ≡ map step_of (fitted s t h.at) =
          λ q. ap (λ (r : List Fitted). map (step_seen hs) r) (c.fitted_at-fitted.ensures ∙ ap fitted_by x.1) ∙ x.2.of_sound q in
          contents_more f v hs ks c.loop-i.contents.items c.push.new.self.items i h y.0 c.in_ok-content.content c.loop-i-test.true c.index-held-i.is y.1 c.in_ok-push.ensures.items inv.long
          (e.content tells f v hs y.0 (is ∙ sym (ap vol inv.held)) (k.tells.held.held.each h m) (k.tells.held.each_of h m) k.sound_starts mend steps)
          (inv.are tells f v root file_set ks is k mends);
      room = room_stays c.loop-i.room.len c.content_for.new.room c.loop-i.room.items whole lent ∙ whole ∙ inv.room;
      files = e.reads.files ∙ inv.files;
      held = e.reads.held ∙ inv.held;
      calm = e.reads.calm ∙ inv.calm;
    }

pub returns-clause-contents : goal.returns-clause-contents
returns-clause-contents g c tells f v root file_set ks is k mends =
    let hs : List Held = c.args.held.now in
    let over : length hs ≤ c.loop-i.i = c.loop-i-test.false in
    let long = kept_long (setting_of f v) (tree_of f v) hs hs ks k.kept_are.each in
    record {
      each = subst (λ (r : List Held). AreContentsOf f v r ks c.loop-i.contents.items) (take_all c.loop-i.i hs over)
          (subst (λ (r : List (Option Keeping)). AreContentsOf f v (take c.loop-i.i hs) r c.loop-i.contents.items) (take_all c.loop-i.i ks (omega (arith, long, over)))
          (c.loop-i.invariant.are tells f v root file_set ks is k mends));
    }
