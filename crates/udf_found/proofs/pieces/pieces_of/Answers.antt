use Rattle.std.proofs.Common.{◌≡◌, ◌+◌, ◌∷◌, ◌++◌, List, drop, arith, sym, ap, ◌∙◌}
use Rattle.udf_file_model.specs.Descriptors.{Descriptor}
use Rattle.udf_entry.specs.RunView.{run_seen}
use Rattle.udf_found.specs.Merged.{merged}
use Rattle.udf_found.specs.Shape.{pieces_seen}
use Rattle.udf_found.proofs.Wanting.{drop_none, drop_slice}
use Rattle.udf_found.proofs.pieces.pieces_of.Goals as goal

pub loop-i-preserved : goal.loop-i-preserved
loop-i-preserved c =
    let runs : List Descriptor = c.args.list.now.runs in
    let here : drop c.loop-i.i runs ≡ run_seen c.run-run.result ∷ drop (c.loop-i.i + 1) runs = drop_slice runs c.loop-i.i (run_seen c.run-run.result) c.run-run.ensures in
    record {
      added =
          c.in_ok-next.ensures (drop (c.loop-i.i + 1) runs)
          ∙ ap (λ (ds : List Descriptor). pieces_seen c.loop-i.pieces.items ++ merged c.loop-i.holder (drop c.loop-i.next c.args.list.now.extents) ds) (sym here)
          ∙ c.loop-i.invariant.added;
    }

pub returns : goal.returns
unfolding merged
returns c =
    c.in_ok-add_rest.ensures
    ∙ ap (λ (ds : List Descriptor). pieces_seen c.loop-i.pieces.items ++ merged c.loop-i.holder (drop c.loop-i.next c.args.list.now.extents) ds)
    (sym (drop_none c.args.list.now.runs c.loop-i.i (omega (arith, c.loop-i-test.false, c.len-i-end.ensures))))
    ∙ c.loop-i.invariant.added
