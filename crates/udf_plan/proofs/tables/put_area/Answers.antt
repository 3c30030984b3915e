use Rattle.std.proofs.Common.{◌≡◌, ◌+◌, ◌-◌, ◌*◌, ◌<◌, ◌≤◌, ◌∷◌, ◌++◌, [], ℕ, arith, rules, take, drop, length, length-drop, subst}
use Rattle.std.proofs.Math.Nat.{mul-le-mul_right}
use Rattle.std.proofs.lemmas.List.{length-take-le}
use Rattle.udf_volume_model.specs.SparingRule.{blocks_cut}
use Rattle.udf_wanted.specs.Wanted.{LookAlike}
use Rattle.udf_wanted.specs.Writable.{is_writable}
use Rattle.udf_wanted.proofs.Looking.{both_are}
use Rattle.udf_plan.proofs.TableCopies.{none_cut, one_cut}
use Rattle.udf_wanted.proofs.Walking.{free_inside, writable}
use Rattle.udf_plan.proofs.tables.put_area.Goals as goal

pub loop-i-init : goal.loop-i-init
loop-i-init c = record {
  writable = c.requires.writable;
  put = none_cut c.args.volume.now.size c.args.sector c.args.area.now c.args.wanted.now;
}

pub overflow_add-sector : goal.overflow_add-sector
overflow_add-sector c =
    let lt : c.loop-i.i < c.args.count = search rules in
    omega (arith, c.requires.few, free_inside c.args.volume.now (c.args.sector + c.loop-i.i) (c.requires.free c.loop-i.i lt))

pub loop-i-preserved : goal.loop-i-preserved
loop-i-preserved c =
    let lt : c.loop-i.i < c.args.count = search rules in
    let v = c.args.volume.now in
    let at : ℕ = c.args.sector + c.loop-i.i in
    let start : ℕ = c.loop-i.i * v.size in
    let cut : start + v.size - start ≡ v.size = omega arith in
    let here : start + v.size ≤ length c.args.area.now =
    omega (arith, c.requires.whole, mul-le-mul_right v.size (let l : c.loop-i.i + 1 ≤ c.args.count = omega arith in l)) in
    let long : length (take (start + v.size - start) (drop start c.args.area.now)) ≡ v.size =
    omega (arith, length-take-le (start + v.size - start) (drop start c.args.area.now) (omega (arith, length-drop start c.args.area.now))) in
    record {
      writable = c.in_ok-put.ensures.among (is_writable v) c.loop-i.invariant.writable
          (writable v (at, take (start + v.size - start) (drop start c.args.area.now)) (c.requires.free c.loop-i.i lt) long);
      put = both_are c.args.wanted.now c.loop-i.wanted c.put.new.self (blocks_cut v.size c.args.sector c.loop-i.i c.args.area.now)
          ((at, take v.size (drop start c.args.area.now)) ∷ []) _ c.loop-i.invariant.put
          (subst (λ n. LookAlike c.put.new.self (c.loop-i.wanted ++ (at, take n (drop start c.args.area.now)) ∷ [])) cut c.in_ok-put.ensures.put)
          (one_cut v.size c.args.sector c.loop-i.i c.args.area.now);
    }
