use Rattle.std.proofs.Common.{◌≡◌, ◌<◌, ◌≤◌, List, None, length, get_or, refl, ap, ◌∙◌, subst}
use Rattle.udf_held.specs.declared.held.Held.{Held}
use Rattle.udf_tree.specs.Nodes.{IsNode, node_addresses, numbered}
use Rattle.udf_tree.proofs.Enrolling.{nodes_are, numbered_some, put_addresses, put_each}
use Rattle.udf_contents.proofs.Mending.{got}
use Rattle.udf_tree.proofs.Naming.{numbered_over, numbered_put}
use Rattle.udf_tree.proofs.nodes.nodes_of.Goals as goal

pub loop-i-preserved : goal.loop-i-preserved
loop-i-preserved c =
    let e = c.args.entries.now in
    let hs = e.held.items in
    let ks = e.kept.items in
    let i = c.loop-i.i in
    let h : Held = c.entry-item.result in
    let inside : i < length hs = subst (λ (xs : List Held). i < length xs) c.deref-entry-items.ensures.value c.loop-i-test.true in
    let is : h ≡ get_or hs i h = c.entry-item.is ∙ ap (λ (xs : List Held). get_or xs i h) c.deref-entry-items.ensures.value in
    let whole = numbered ks hs in
    let p = numbered_some h (get_or ks i None) c.node_at.result c.in-Some.node c.in-Some.is c.node_at.ensures.address in
    let new = put_addresses c.loop-i.nodes.items c.push.new.self.items c.in-Some.node h.at c.in_ok-push.ensures.items p.1 in
    record {
      numbered_are = numbered_put hs ks i h (get_or ks i None) (node_addresses c.loop-i.nodes.items) (node_addresses c.push.new.self.items) whole inside is refl p.0 new c.loop-i.invariant.numbered_are;
      each = λ f v k. put_each (IsNode f v whole) c.loop-i.nodes.items c.push.new.self.items c.in-Some.node c.in_ok-push.ensures.items (c.in-Some.ensures.node f v k (got hs i h inside is)) (c.loop-i.invariant.each f v k);
    }

pub returns-clause-addresses : goal.returns-clause-addresses
returns-clause-addresses c =
    let e = c.args.entries.now in
    let over : length e.held.items ≤ c.loop-i.i = subst (λ (xs : List Held). length xs ≤ c.loop-i.i) c.deref-entry-items.ensures.value c.loop-i-test.false in
    numbered_over e.held.items e.kept.items c.loop-i.i (node_addresses c.loop-i.nodes.items) (numbered e.kept.items e.held.items) over c.loop-i.invariant.numbered_are

pub returns-clause-nodes : goal.returns-clause-nodes
returns-clause-nodes c f v k =
    let e = c.args.entries.now in
    let over : length e.held.items ≤ c.loop-i.i = subst (λ (xs : List Held). length xs ≤ c.loop-i.i) c.deref-entry-items.ensures.value c.loop-i-test.false in
    nodes_are f v c.args.root c.args.file_set e c.args.links.now c.args.ids.now k c.loop-i.nodes.items
    (numbered_over e.held.items e.kept.items c.loop-i.i (node_addresses c.loop-i.nodes.items) (numbered e.kept.items e.held.items) over c.loop-i.invariant.numbered_are)
    (c.loop-i.invariant.each f v k)
