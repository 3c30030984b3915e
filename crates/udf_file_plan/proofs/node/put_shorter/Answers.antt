use Rattle.std.proofs.Common.{◌≡◌, ◌∙◌, ◌≤◌, sym, ap, subst, List, ℕ, ◌++◌, length, Some, Option}
use Rattle.std.specs.Prelude.{OnOk, option_map}
use Rattle.udf_outside.specs.Stops.{Held}
use Rattle.udf_model.specs.Tag.{location}
use Rattle.udf_entry.specs.ValuesView.{wanted_of}
use Rattle.udf_file_model.specs.Content.{content_by}
use Rattle.udf_file_model.specs.Entry.{descriptor_bytes, entry_of}
use Rattle.udf_file_model.specs.Listing as listing
use Rattle.udf_file_model.specs.Listing.{Listing, list_for, listing_at}
use Rattle.udf_field.specs.declared.address.Addr.{Addr}
use Rattle.udf_file_model.specs.Descriptors.{Descriptor}
use Rattle.udf_file_model.specs.Pieces.{extents_of, runs_of}
use Rattle.udf_found.proofs.Told.{listed_there}
use Rattle.udf_file_plan.specs.Base.{PutsOf, listed}
use Rattle.udf_file_plan.specs.Node.{cut_left, given_by}
use Rattle.udf_file_plan.specs.Node as node
use Rattle.udf_file_plan.specs.Parts.{body_left, bytes_or, content_left, listed_left}
use Rattle.udf_file_plan.proofs.Shorter.{stated_location, listing_runs, listing_extents}
use Rattle.udf_file_plan.proofs.node.put_shorter.Goals as goal

pub returns-clause-put : goal.returns-clause-put
returns-clause-put g c tells e reads stands fits =
    let v : Held → listing.Volume = λ h. listed c.args.volume.now h (g.P.Parts.place c.args.parts.now) in
    let h : Held = g.B.Bench.held c.args.bench.now in
    let a = c.args.kept.own.at in
    let m : Option (List ℕ) = option_map (λ x. x.now) c.args.mended in
    let once : g.B.Bench.held c.list_at.new.bench ≡ h = c.in_ok-list.ensures.reads.held in
    let twice : g.B.Bench.held c.content_for.new.bench ≡ h = c.in_ok-content.ensures.reads.held ∙ once in
    let list_is : c.in_ok-list.list ≡ listing.listing (v h) a e = listed_there (v h) a c.args.kept.block.now e c.in_ok-list.list reads (c.in_ok-list.ensures.list tells) in
    let runs_is = ap (λ (l : Listing). l.runs) list_is ∙ listing_runs (v h) a e in
    let extents_is = ap (λ (l : Listing). l.extents) list_is ∙ listing_extents (v h) a e in
    let entry_is : entry_of (location c.args.kept.block.now) c.args.kept.block.now ≡ Some e =
    ap (λ n. entry_of n c.args.kept.block.now) (stated_location a.block c.args.kept.block.now e reads) ∙ reads in
    let given_is : option_map (λ x. x.now) c.bytes_in-given.result ≡ given_by (v h) a e c.args.node.now m =
    c.bytes_in-given.ensures ∙ c.in_ok-content.ensures.content tells
    ∙ ap (λ k. node.content_by c.args.node.now m (content_by (v k) c.in_ok-list.list.runs c.args.node.now.kept_length (entry_of (location c.args.kept.block.now) c.args.kept.block.now))) once
    ∙ ap (λ o. node.content_by c.args.node.now m (content_by (v h) c.in_ok-list.list.runs c.args.node.now.kept_length o)) entry_is
    ∙ ap (λ r. node.content_by c.args.node.now m (content_by (v h) r c.args.node.now.kept_length (Some e))) runs_is in
    let bytes_is : c.bytes_or-bytes.result ≡ bytes_or c.args.bytes (given_by (v h) a e c.args.node.now m) =
    c.bytes_or-bytes.ensures ∙ ap (bytes_or c.args.bytes) (sym c.bytes_in-given.ensures ∙ given_is) in
    let w = wanted_of c.args.kept.values.now e.body in
    let T : Held → List Descriptor → List Addr → ℕ → Option (List ℕ) → Type 0 = λ k r xs b q.
    OnOk c.put_cut.result (PutsOf (v k) c.args.wanted.now c.put_cut.new.wanted (listed_left (v k) a e w (length xs) b q ++ content_left (v k) r q)) in
    let q' = option_map (λ x. x.now) c.bytes_in-given.result in
    let b' = c.bytes_or-bytes.result in
    let q : Option (List ℕ) = given_by (v h) a e c.args.node.now m in
    let fits' : length (body_left e.kind a e.body b' q') ≤ descriptor_bytes c.args.kept.own.header c.args.kept.block.now =
    subst (λ (z : List ℕ). length z ≤ descriptor_bytes c.args.kept.own.header c.args.kept.block.now)
    (sym (ap (λ z. body_left e.kind a e.body b' z) given_is ∙ ap (λ z. body_left e.kind a e.body z q) bytes_is)) fits in
    let first : T (g.B.Bench.held c.content_for.new.bench) c.in_ok-list.list.runs c.in_ok-list.list.extents b' q' =
    c.put_cut.ensures.put tells e reads (stands ∙ ap (λ k. (v k).disk c.args.kept.own.sector) (sym twice)) fits' in
    subst (λ (z : Option (List ℕ)). T h (runs_of (list_for (v h) a e)) (extents_of (list_for (v h) a e)) (bytes_or c.args.bytes q) z) given_is
    (subst (λ (z : ℕ). T h (runs_of (list_for (v h) a e)) (extents_of (list_for (v h) a e)) z q') bytes_is
    (subst (λ (z : List Addr). T h (runs_of (list_for (v h) a e)) z b' q') extents_is
    (subst (λ (z : List Descriptor). T h z c.in_ok-list.list.extents b' q') runs_is
    (subst (λ (k : Held). T k c.in_ok-list.list.runs c.in_ok-list.list.extents b' q') twice first))))
