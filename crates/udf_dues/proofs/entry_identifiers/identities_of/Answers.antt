use Rattle.std.proofs.Common.{◌++◌, ◌∷◌, [], List, Bool, cond, sym, subst, take}
use Rattle.udf_held.specs.declared.held.Held.{Held}
use Rattle.udf_dues.specs.Numbered.{Lists, passed}
use Rattle.udf_dues.proofs.Sorting.{passed_more}
use Rattle.udf_dues.proofs.entry_identifiers.identities_of.Goals as goal

pub loop-position-preserved : goal.loop-position-preserved
loop-position-preserved c =
    let hs : List Held = c.args.held.now in
    let bs : List Bool = c.args.are_ordinary.now in
    let before : List Held = passed (take c.loop-position.position hs) bs in
    subst (λ (ys : List Held). Lists c.args.root ys c.list_entry.new.identities.entries) (sym (passed_more hs bs c.loop-position.position c.index-held-position.result c.loop-position-test.true c.index-held-position.is))
    (subst (λ (b : Bool). Lists c.args.root (before ++ cond b (c.index-held-position.result ∷ []) []) c.list_entry.new.identities.entries) c.passes.ensures
    (c.in_ok-list_entry.ensures before c.loop-position.invariant))
