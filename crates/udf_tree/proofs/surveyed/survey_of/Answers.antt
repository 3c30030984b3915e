use Rattle.std.proofs.Common.{◌≡◌, ℕ, List, Option, Some, true, map, sym, ap, ◌∙◌, subst}
use Rattle.std.specs.Prelude.{slice_get}
use Rattle.std.specs.BTreeMap.{get}
use Rattle.udf_field.specs.declared.address.Addr.{Addr}
use Rattle.udf_tree_model.specs.Among.{Member}
use Rattle.udf_tree_model.specs.Frame.{setting_of, tree_of}
use Rattle.udf_tree_model.specs.Kept.{kept}
use Rattle.udf_held.specs.declared.held.Held.{Held}
use Rattle.udf_kept.specs.declared.keeping.Keeping.{Keeping}
use Rattle.udf_tree.specs.declared.children.Kin.{Kin}
use Rattle.udf_tree.specs.declared.node.Node.{Node}
use Rattle.udf_tree.specs.declared.node.NodeId.{NodeId}
use Rattle.udf_kept.specs.Fitted.{at_of}
use Rattle.udf_tree.specs.Judged.{entries_of, judged_links}
use Rattle.udf_tree.specs.Nodes.{AreNodes, AreSurveyed, IsNumbering, node_addresses, numbered}
use Rattle.udf_tree.specs.Notes.{AreNotes}
use Rattle.udf_found.specs.Order.{addr_cmp}
use Rattle.udf_tree.specs.Path.{texts_of}
use Rattle.udf_tree.specs.Survey.{named_by}
use Rattle.udf_tree.proofs.Descending.{children_wanted, siblings_wanted}
use Rattle.udf_tree.proofs.Enrolling.{kept_parts, root_there}
use Rattle.udf_tree.proofs.Judging.{judged_each, judged_nodes}
use Rattle.udf_tree.proofs.Measuring.{content_nodes}
use Rattle.udf_tree.proofs.Noting.{counts_wanted, indexed, stated_wanted}
use Rattle.udf_tree.proofs.Sequencing.{kept_in_order}
use Rattle.udf_tree.proofs.Stepping.{named_nodes}
use Rattle.udf_tree.proofs.Surveying.{contents_wanted, pointers_wanted}
use Rattle.udf_tree.proofs.surveyed.survey_of.Goals as goal

-- the addresses are those of the kept entries
pub notes_of-requires-clause-numbers : goal.notes_of-requires-clause-numbers
notes_of-requires-clause-numbers c =
    let e = c.args.entries.now in
    subst (λ (numbers : List Addr). IsNumbering numbers (get addr_cmp c.in_ok-numbers.numbers))
    (c.deref-3.ensures.value ∙ c.in_ok-addresses.ensures ∙ ap (λ (ks : List (Option Keeping)). numbered ks c.deref.result.now) c.deref-2.ensures.value ∙ ap (λ (hs : List Held). numbered e.kept.items hs) c.deref.ensures.value) c.in_ok-numbers.ensures.numbers

pub notes_of-requires-clause-indexes : goal.notes_of-requires-clause-indexes
notes_of-requires-clause-indexes c =
    let e = c.args.entries.now in
    ap (λ (is : List ℕ). map (at_of e.held.items) is) c.deref-8.ensures.value
    ∙ ap (λ (hs : List Held). map (at_of hs) c.in_ok-indexes.indexes.items) (sym c.deref-6.ensures.value)
    ∙ c.in_ok-indexes.ensures
    ∙ ap (λ (ks : List (Option Keeping)). map Some (numbered ks c.deref-6.result.now)) c.deref-7.ensures.value
    ∙ ap (λ (hs : List Held). map Some (numbered e.kept.items hs)) c.deref-6.ensures.value

pub invariant_of-result : goal.invariant_of-result
invariant_of-result c =
    let e = c.args.entries.now in
    let whole = numbered e.kept.items e.held.items in
    let are : c.deref-3.result.now ≡ whole =
    c.deref-3.ensures.value ∙ c.in_ok-addresses.ensures ∙ ap (λ (ks : List (Option Keeping)). numbered ks c.deref.result.now) c.deref-2.ensures.value ∙ ap (λ (hs : List Held). numbered e.kept.items hs) c.deref.ensures.value in
    indexed c.deref-6.result.now c.deref-3.result.now whole c.in_ok-nodes.nodes.items (get addr_cmp c.in_ok-numbers.numbers) c.in_ok-indexes.indexes.items c.in_ok-order.order.items c.in_ok-notes.notes
    are c.in_ok-nodes.ensures.addresses c.in_ok-numbers.ensures.numbers c.in_ok-numbers.ensures.few
    (c.in_ok-indexes.ensures ∙ ap (λ (ks : List (Option Keeping)). map Some (numbered ks c.deref-6.result.now)) c.deref-7.ensures.value ∙ ap (λ (hs : List Held). map Some (numbered e.kept.items hs)) c.deref-6.ensures.value)
    (c.in_ok-order.ensures c.deref-3.result.now c.in_ok-numbers.ensures.numbers)
    c.deref-8.result.now c.deref-8.ensures.value c.in_ok-notes.ensures.many

pub returns : goal.returns
returns c f v some surveyed counts contents taken =
    let e = c.args.entries.now in
    let hs : List Held = e.held.items in
    let numbers : List Addr = numbered e.kept.items e.held.items in
    let links : List ℕ = c.args.dues.now.links.items in
    let ids : List ℕ = c.args.dues.now.ids.items in
    let is : List ℕ = c.in_ok-indexes.indexes.items in
    let ns : List Node = c.in_ok-nodes.nodes.items in
    let notes = c.in_ok-notes.notes in
    let addresses : node_addresses ns ≡ numbers = c.in_ok-nodes.ensures.addresses in
    let nodes : AreNodes f v ns =
    c.in_ok-nodes.ensures.nodes f v
    (subst (λ (xs : List ℕ). AreSurveyed f v c.args.root c.args.file_set e xs c.deref-5.result.now) (sym c.deref-4.ensures.value)
    (subst (λ (xs : List ℕ). AreSurveyed f v c.args.root c.args.file_set e links xs) (sym c.deref-5.ensures.value) surveyed)) in
    let numbering : IsNumbering numbers (get addr_cmp c.in_ok-numbers.numbers) =
    subst (λ (xs : List Addr). IsNumbering xs (get addr_cmp c.in_ok-numbers.numbers))
    (c.deref-3.ensures.value ∙ c.in_ok-addresses.ensures ∙ ap (λ (ks : List (Option Keeping)). numbered ks c.deref.result.now) c.deref-2.ensures.value ∙ ap (λ (xs : List Held). numbered e.kept.items xs) c.deref.ensures.value) c.in_ok-numbers.ensures.numbers in
    let same : map (at_of hs) is ≡ map Some (node_addresses ns) =
    ap (λ (xs : List Held). map (at_of xs) is) (sym c.deref-6.ensures.value)
    ∙ c.in_ok-indexes.ensures
    ∙ ap (λ (ks : List (Option Keeping)). map Some (numbered ks c.deref-6.result.now)) c.deref-7.ensures.value
    ∙ ap (λ (xs : List Held). map Some (numbered e.kept.items xs)) c.deref-6.ensures.value
    ∙ ap (λ (xs : List Addr). map Some xs) (sym addresses) in
    let told : AreNotes f v e c.args.dues.now.counts.items is notes =
    (subst (λ (js : List ℕ). AreNotes f v e c.args.dues.now.counts.items js notes) c.deref-8.ensures.value (c.in_ok-notes.ensures.notes f v links ids some surveyed)) in
    let own : (n : Node) → Member n ns → kept (setting_of f v) (tree_of f v) n.at ≡ true = λ n m. (kept_parts f v n.at (nodes.each n m).kept_is).0 in
    let judged_all : entries_of notes.verdicts.items ≡ map (λ (n : Node). judged_links f v n.at) ns = judged_nodes f v hs is (entries_of notes.verdicts.items) ns told.verdicts_are.each same own in
    record {
      nodes_are = nodes;
      order_is =
          ap (λ (xs : List Addr). map (λ (id : NodeId). slice_get xs id.0) c.in_ok-order.order.items) addresses
          ∙ kept_in_order f v c.args.root c.args.file_set e links ids surveyed c.in_ok-order.order.items (c.in_ok-order.ensures numbers numbering);
      root_is = root_there f v c.args.root c.args.file_set e links ids surveyed (get addr_cmp c.in_ok-numbers.numbers) numbering c.number_of-root.result c.number_of-root.ensures ns addresses;
      contents_are = contents_wanted f v e surveyed.entries c.args.contents.items contents is ns nodes same;
      taken = taken;
      pointers_are = ap (λ (xs : List Addr). map (named_by xs) notes.pointers.items) addresses ∙ told.pointers_are ∙ pointers_wanted f v e is ns same;
      verdicts_are = judged_each f v ns (entries_of notes.verdicts.items) judged_all;
      links_are = judged_all;
      names_are = named_nodes f v hs is (texts_of notes.names.items) ns told.names_are.each same own;
      stated_are = told.stated_are ∙ stated_wanted f v e surveyed.entries is ns nodes same;
      counts_are = told.counts_are ∙ counts_wanted f v e surveyed.entries is ns nodes same c.args.dues.now.counts.items counts;
      children_are = ap (λ (xs : List Addr). map (λ (z : Kin). named_by xs z.first_child) notes.kin.items) addresses ∙ told.children_are ∙ children_wanted f v e is ns same;
      siblings_are = ap (λ (xs : List Addr). map (λ (z : Kin). named_by xs z.next_sibling) notes.kin.items) addresses ∙ told.siblings_are ∙ siblings_wanted f v e is ns same;
      kept_contents_are = content_nodes f v hs is notes.contents.items ns (node_addresses ns) told.contents_are same nodes.each;
      files_are = c.in_ok-files_named.ensures f v c.args.root c.args.file_set links ids surveyed;
      system_is = ap (λ (xs : List Addr). named_by xs c.system_of-system.result) addresses ∙ c.system_of-system.ensures f v c.args.root c.args.file_set links ids surveyed;
    }
