use Rattle.std.proofs.Common.{◌≡◌, ◌+◌, ◌∷◌, List, drop, arith}
use Rattle.udf_field.specs.declared.address.Addr.{Addr}
use Rattle.udf_found.proofs.Piecing.{rest_more, rest_none}
use Rattle.udf_found.proofs.Wanting.{drop_slice}
use Rattle.udf_found.proofs.pieces.add_rest.Goals as goal

pub loop-i-preserved : goal.loop-i-preserved
loop-i-preserved c =
    let xs : List Addr = c.args.list.now.extents in
    let here : drop c.loop-i.i xs ≡ c.extent.result ∷ drop (c.loop-i.i + 1) xs = drop_slice xs c.loop-i.i c.extent.result c.extent.ensures in
    record { added = rest_more c.extent.result xs c.loop-i.i c.extent.result here c.loop-i.pieces.items c.push.new.self.items c.in_ok-push.ensures.items _ c.loop-i.invariant.added }

pub returns : goal.returns
returns c = rest_none c.args.list.now.extents c.loop-i.i c.loop-i.pieces.items _ (omega (arith, c.loop-i-test.false, c.extents-i-end.ensures)) c.loop-i.invariant.added
