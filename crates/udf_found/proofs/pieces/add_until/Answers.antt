use Rattle.std.proofs.Common.{◌≡◌, ◌+◌, ◌∷◌, List, drop, false, arith, sym, ◌∙◌}
use Rattle.udf_field.specs.declared.address.Addr.{Addr}
use Rattle.udf_file_model.specs.Address.{same_addr}
use Rattle.udf_found.proofs.Piecing.{after_last, after_more, after_none, until_last, until_more, until_none}
use Rattle.udf_found.proofs.Wanting.{drop_slice}
use Rattle.udf_found.proofs.pieces.add_until.Goals as goal

pub loop-i-preserved : goal.loop-i-preserved
loop-i-preserved c =
    let xs : List Addr = c.args.list.now.extents in
    let here : drop c.loop-i.i xs ≡ c.extent-extent.result ∷ drop (c.loop-i.i + 1) xs = drop_slice xs c.loop-i.i c.extent-extent.result c.extent-extent.ensures in
    let other : same_addr c.args.holder c.extent-extent.result ≡ false = sym c.eq.ensures ∙ c.if-eq.false in
    record {
      added = until_more c.args.holder xs c.loop-i.i c.extent-extent.result here c.loop-i.pieces.items c.push.new.self.items c.in_ok-push.ensures.items _ other c.loop-i.invariant.added;
      left = after_more c.args.holder xs c.loop-i.i c.extent-extent.result here other ∙ c.loop-i.invariant.left;
    }

pub returns-then-eq-clause-pieces : goal.returns-then-eq-clause-pieces
returns-then-eq-clause-pieces c =
    let xs : List Addr = c.args.list.now.extents in
    let here : drop c.loop-i.i xs ≡ c.extent-extent.result ∷ drop (c.loop-i.i + 1) xs = drop_slice xs c.loop-i.i c.extent-extent.result c.extent-extent.ensures in
    until_last c.args.holder xs c.loop-i.i c.extent-extent.result here c.loop-i.pieces.items c.push.new.self.items c.in_ok-push.ensures.items _ (sym c.eq.ensures ∙ c.if-eq.true) c.loop-i.invariant.added

pub returns-then-eq-clause-next : goal.returns-then-eq-clause-next
returns-then-eq-clause-next c =
    let xs : List Addr = c.args.list.now.extents in
    let here : drop c.loop-i.i xs ≡ c.extent-extent.result ∷ drop (c.loop-i.i + 1) xs = drop_slice xs c.loop-i.i c.extent-extent.result c.extent-extent.ensures in
    after_last c.args.holder xs c.loop-i.i c.extent-extent.result here (sym c.eq.ensures ∙ c.if-eq.true) ∙ c.loop-i.invariant.left

pub returns-clause-pieces : goal.returns-clause-pieces
returns-clause-pieces c =
    until_none c.args.holder c.args.list.now.extents c.loop-i.i c.loop-i.pieces.items _ (omega (arith, c.loop-i-test.false, c.extents-i-end.ensures)) c.loop-i.invariant.added

pub returns-clause-next : goal.returns-clause-next
returns-clause-next c =
    after_none c.args.holder c.args.list.now.extents c.loop-i.i c.extents.result (omega (arith, c.loop-i-test.false, c.extents-i-end.ensures)) (omega (arith, c.extents.ensures)) ∙ c.loop-i.invariant.left
