use Rattle.std.proofs.Common.{◌<◌, ◌∷◌, ◌++◌, [], ℕ, List, length, get_or, take, rules, refl, subst, ◌∙◌}
use Rattle.std.proofs.lemmas.List.Sums.{AllPass-from_list_all}
use Rattle.udf_model.specs.Tag.{relocated}
use Rattle.udf_outside.specs.Stops.{Held}
use Rattle.udf_outside.specs.Sectors.{disk_of}
use Rattle.udf_plan.specs.Stated.{copies_at}
use Rattle.udf_wanted.specs.Wanted.{LookAlike}
use Rattle.udf_wanted.specs.Writable.{is_free}
use Rattle.udf_wanted.proofs.Looking.{both_are}
use Rattle.udf_plan.proofs.Copying.{none_copied, one_copied}
use Rattle.udf_plan.proofs.anchors.put_at_places.Goals as goal

pub loop-place-init : goal.loop-place-init
loop-place-init g c = record {
  files = refl;
  held = refl;
  calm = refl;
  writable = c.requires.writable;
  put = λ tells. none_copied _ c.args.wanted.now;
}

pub put_copy-requires-clause-free : goal.put_copy-requires-clause-free
put_copy-requires-clause-free g c =
    AllPass-from_list_all (is_free c.args.volume.now) c.args.places.now c.requires.free c.loop-place.place-index 0
    (let lt : c.loop-place.place-index < length c.args.places.now = search rules in lt)

pub loop-place-preserved : goal.loop-place-preserved
loop-place-preserved g c =
    let lt : c.loop-place.place-index < length c.args.places.now = search rules in
    let places : List ℕ = c.args.places.now in
    let place : ℕ = get_or places c.loop-place.place-index 0 in
    record {
      files = c.in_ok-put_copy.ensures.reads.files ∙ c.loop-place.invariant.files;
      held = c.in_ok-put_copy.ensures.reads.held ∙ c.loop-place.invariant.held;
      calm = c.in_ok-put_copy.ensures.reads.calm ∙ c.loop-place.invariant.calm;
      writable = c.in_ok-put_copy.ensures.writable;
      put = λ tells.
          let block : List ℕ = disk_of c.args.volume.now.size (g.B.Bench.held c.args.bench.now) c.args.volume.now.anchor in
          both_are c.args.wanted.now c.loop-place.wanted c.put_copy.new.wanted (copies_at block (take c.loop-place.place-index places))
          ((place, relocated place block) ∷ []) _ (c.loop-place.invariant.put tells)
          (subst (λ (h : Held). LookAlike c.put_copy.new.wanted (c.loop-place.wanted
          ++ (place, relocated place (disk_of c.args.volume.now.size h c.args.volume.now.anchor)) ∷ [])) c.loop-place.invariant.held
          (c.in_ok-put_copy.ensures.put tells))
          (one_copied block places c.loop-place.place-index lt);
    }
