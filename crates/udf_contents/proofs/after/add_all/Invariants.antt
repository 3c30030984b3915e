use Rattle.std.proofs.Common.{◌≡◌, ◌<◌, ◌||◌, drop}
use Rattle.udf_field.specs.declared.address.Addr.{Addr}
use Rattle.udf_file_model.specs.Listing.{Volume}
use Rattle.udf_claims.specs.Winner.{claimed}
use Rattle.udf_tree_model.specs.Frame.{Frame, setting_of, tree_of}
use Rattle.udf_contents.specs.After.{some_claims}
use Rattle.udf_found.specs.Beyond.{HoldsFileSet}
use Rattle.udf_contents.specs.Contents.{AreContents}
use Rattle.udf_held.specs.Held.{AreHeldOf}
use Rattle.udf_kept.specs.Keeping.{AreKept}
use Rattle.udf_contents.proofs.after.add_all.Given as goal

abbrev pub invariant-loop-i : goal.invariant-loop-i
invariant-loop-i g l = record {
  added : (f : Frame) (v : Volume) → v.size ≡ l.size → HoldsFileSet f v → AreHeldOf f v l.held → AreKept (setting_of f v) (tree_of f v) l.held l.kept → AreContents f v l.held l.kept l.contents
      → (x : Addr) → x.block < g.P.Parts.blocks l.parts x.part
      → (claimed l.claims x || some_claims f v (drop l.i l.held) x) ≡ (claimed l.initial.claims x || some_claims f v l.held x);
}
