use Rattle.std.proofs.Common.{◌≡◌, List, Option, sym, ap, ◌∙◌, subst, arith, map}
use Rattle.udf_model.specs.Size.{is_size}
use Rattle.udf_entry.proofs.Told.{size_bounds}
use Rattle.udf_tree_model.specs.Counts.{wanted_id}
use Rattle.udf_tree_model.specs.Frame.{setting_of, tree_of}
use Rattle.udf_tree_model.specs.Laws.{HasSoundStarts}
use Rattle.udf_tree_model.specs.Parent.{ordinary}
use Rattle.udf_tree_model.proofs.Stating.{accepted_starts}
use Rattle.udf_contents.specs.declared.contents.MendedContent.{MendedContent}
use Rattle.udf_dues.specs.declared.counts.Count.{Count}
use Rattle.udf_kept.specs.declared.fitted.Selected.{Selected}
use Rattle.udf_held.specs.declared.held.Held.{Held}
use Rattle.udf_kept.specs.declared.keeping.Keeping.{Keeping}
use Rattle.udf_contents.specs.Contents.{AreContents}
use Rattle.udf_dues.specs.Counts.{AreCounts}
use Rattle.udf_kept.specs.Fitted.{AreSelected}
use Rattle.udf_held.specs.Held.{AreHeldOf}
use Rattle.udf_kept.specs.Keeping.{AreKept}
use Rattle.udf_dues.specs.LinkCounts.{AreSettled}
use Rattle.udf_tree.proofs.LinkWants.{ids_wanted, settled_wanted}
use Rattle.udf_volume.specs.Fixed.{stretches_over}
use Rattle.udf_volume.specs.declared.stretch.Stretch.{Stretch}
use Rattle.udf_tree.proofs.file_survey.survey_held.Goals as goal

pub claims_after-requires : goal.claims_after-requires
claims_after-requires g c = let low = (size_bounds c.args.size c.requires).0 in omega (arith, low)

pub returns : goal.returns
returns g c f v size place is k contents =
    let e = c.args.entries.now in
    let hs : List Held = e.held.items in
    let xs : List Selected = e.selected.items in
    let ks : List (Option Keeping) = e.kept.items in
    let cs : List (Option MendedContent) = c.args.contents.items in
    let s = setting_of f v in
    let t = tree_of f v in
    let starts : HasSoundStarts s t = accepted_starts f v k.accepted k.placed in
    let held_in : (r : List Held) → r ≡ hs → AreHeldOf f v r = λ r p. subst (AreHeldOf f v) (sym p) k.entries.held in
    let selected_in : (r : List Held) (q : List Selected) → r ≡ hs → q ≡ xs → AreSelected s t r q =
    λ r q p o. subst (λ (y : List Held). AreSelected s t y q) (sym p) (subst (AreSelected s t hs) (sym o) k.entries.selected) in
    let kept_in : (r : List Held) (q : List (Option Keeping)) → r ≡ hs → q ≡ ks → AreKept s t r q =
    λ r q p o. subst (λ (y : List Held). AreKept s t y q) (sym p) (subst (AreKept s t hs) (sym o) k.entries.kept) in
    let contents_in : (r : List Held) (q : List (Option Keeping)) (z : List (Option MendedContent)) → r ≡ hs → q ≡ ks → z ≡ cs → AreContents f v r q z =
    λ r q z p o n. subst (λ (y : List Held). AreContents f v y q z) (sym p) (subst (λ (y : List (Option Keeping)). AreContents f v hs y z) (sym o) (subst (AreContents f v hs ks) (sym n) contents)) in
    let taken = c.in_ok-claims.ensures f v (λ a. is.fixed_are a ∙ ap (λ (ss : List Stretch). stretches_over ss a) (sym c.stretches.ensures)) size place k.set starts
    (held_in c.deref.result.now c.deref.ensures.value) (kept_in c.deref.result.now c.deref-2.result.now c.deref.ensures.value c.deref-2.ensures.value)
    (contents_in c.deref.result.now c.deref-2.result.now c.deref-3.result.now c.deref.ensures.value c.deref-2.ensures.value c.deref-3.ensures.value) in
    let counts : AreCounts f v c.deref-4.result.now c.in_ok-counts.counts.items =
    c.in_ok-counts.ensures f v is.root is.file_set (ap is_size size ∙ c.requires) k.set starts
    (held_in c.deref-4.result.now c.deref-4.ensures.value) (selected_in c.deref-4.result.now c.deref-5.result.now c.deref-4.ensures.value c.deref-5.ensures.value)
    (kept_in c.deref-4.result.now c.deref-6.result.now c.deref-4.ensures.value c.deref-6.ensures.value)
    (contents_in c.deref-4.result.now c.deref-6.result.now c.deref-7.result.now c.deref-4.ensures.value c.deref-6.ensures.value c.deref-7.ensures.value) in
    let counted : AreCounts f v hs c.in_ok-counts.counts.items = subst (λ (r : List Held). AreCounts f v r c.in_ok-counts.counts.items) c.deref-4.ensures.value counts in
    let settled : AreSettled hs c.in_ok-counts.counts.items c.in_ok-links.links.items =
    subst (λ (r : List Held). AreSettled r c.in_ok-counts.counts.items c.in_ok-links.links.items) c.deref-8.ensures.value
    (subst (λ (r : List Count). AreSettled c.deref-8.result.now r c.in_ok-links.links.items) c.deref-9.ensures.value c.in_ok-links.ensures) in
    let ids = c.in_ok-ids.ensures f v is.root k.set starts (held_in c.deref-10.result.now c.deref-10.ensures.value)
    (c.deref-11.ensures.value ∙ k.entries.ordinary_are ∙ ap (map (λ (h : Held). ordinary f v h.at)) (sym c.deref-10.ensures.value)) in
    let low = (size_bounds c.args.size c.requires).0 in
    c.survey_of.ensures f v (omega (arith, low, size))
    (record {
      root_is = is.root;
      file_set_is = is.file_set;
      set = k.set;
      placed = k.placed;
      accepted = k.accepted;
      entries = k.entries;
      links_are = settled_wanted f v ks hs c.in_ok-counts.counts.items c.in_ok-links.links.items k.entries.held counted settled;
      ids_are = ids_wanted f v ks hs c.in_ok-ids.ids.items (ids ∙ ap (map (λ (h : Held). wanted_id f v h.at)) c.deref-10.ensures.value);
    })
    counted contents taken
