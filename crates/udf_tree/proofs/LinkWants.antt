-- The link counts and identifiers that kept entries are to state.
use Rattle.std.proofs.Common.{◌≡◌, ℕ, zero, suc, List, [], ◌∷◌, map, get_or, Bool, true, false, ◌&&◌, refl, sym, ap, ◌∙◌, subst, Option, Some, None}
use Rattle.std.specs.Prelude.{is_some, option_map, slice_get}
use Rattle.std.proofs.lemmas.Option.{same_Some, get_or_from_slice_get, slice_get-map}
use Rattle.udf_file_model.specs.Listing.{Volume}
use Rattle.udf_tree_model.specs.Counts.{links_between, links_by, low_count, wanted_id, wanted_links}
use Rattle.udf_tree_model.specs.Frame.{Frame}
use Rattle.udf_dues.specs.declared.counts.Count.{Count}
use Rattle.udf_held.specs.declared.held.Held.{Held}
use Rattle.udf_kept.specs.declared.keeping.Keeping.{Keeping}
use Rattle.udf_found.specs.declared.shape.Shape.{Shape}
use Rattle.udf_dues.specs.Counts.{AreCounts, AreCountsOf, IsCount}
use Rattle.udf_held.specs.Held.{AreHeldOf}
use Rattle.udf_dues.specs.LinkCounts.{AreSettled, links_seen, links_shaped}
use Rattle.udf_tree.specs.Nodes.{AreWanted}
use Rattle.udf_found.specs.Shape.{IsShaped}
use Rattle.udf_kept.proofs.ByIndex.{member_at}

pub count_there : (f : Frame) (v : Volume) (hs : List Held) (cs : List Count) → AreCountsOf f v hs cs → (i : ℕ) (h : Held) → slice_get hs i ≡ Some h → is_some h.shape ≡ true
    → (c : Count) × (slice_get cs i ≡ Some c) × IsCount f v h.at c
count_there f v [] [] a i h e t = cc
count_there f v [] (c ∷ cs) a i h e t = absurd a
count_there f v (x ∷ hs) [] a i h e t = absurd a
count_there f v (x ∷ hs) (c ∷ cs) a zero h e t =
    let same : x ≡ h = same_Some x h e in
    (c, refl, subst (λ (y : Held). IsCount f v y.at c) same (a.0 (ap (λ (y : Held). is_some y.shape) same ∙ t)))
count_there f v (x ∷ hs) (c ∷ cs) a (suc i) h e t = count_there f v hs cs a.1 i h e t

links_are : (f : Frame) (v : Volume) (h : Held) (c : Count) (o : Option Shape) → IsShaped f v h.at o → is_some o ≡ true → IsCount f v h.at c → links_shaped o (Some c) ≡ wanted_links f v h.at
unfolding wanted_links
links_are f v h c None s t k = cc
links_are f v h c (Some s) (other, e, at, shape) t k =
    ap (links_between c.low c.high) shape.links
    ∙ ap (λ (low : ℕ). links_between low c.high e.links) k.low
    ∙ ap (λ (high : ℕ). links_between (low_count f v h.at) high e.links) k.high
    ∙ ap (links_by f v h.at) (sym at)

shaped_of : (a : Bool) (b : Bool) → (a && b) ≡ true → b ≡ true
shaped_of true b t = t
shaped_of false b t = cc

-- settled link counts are the wanted ones
pub settled_wanted : (f : Frame) (v : Volume) (ks : List (Option Keeping)) (hs : List Held) (cs : List Count) (xs : List ℕ) → AreHeldOf f v hs → AreCounts f v hs cs → AreSettled hs cs xs → AreWanted (wanted_links f v) ks hs xs
settled_wanted f v ks hs cs xs held counts settled = record {
  each = λ i h e t.
      let shaped : is_some h.shape ≡ true = shaped_of (is_some (get_or ks i None)) (is_some h.shape) t in
      let r = count_there f v hs cs counts.each i h e shaped in
      settled.each i h e ∙ ap (links_seen h) r.1 ∙ links_are f v h r.0 h.shape (held.each_of h (member_at hs i h e)).shape shaped r.2;
}

pub ids_wanted : (f : Frame) (v : Volume) (ks : List (Option Keeping)) (hs : List Held) (xs : List ℕ) → xs ≡ map (λ h. wanted_id f v h.at) hs → AreWanted (wanted_id f v) ks hs xs
ids_wanted f v ks hs xs are = record {
  each = λ i h e t. ap (λ (ys : List ℕ). get_or ys i 0) are ∙ get_or_from_slice_get (map (λ (k : Held). wanted_id f v k.at) hs) i (wanted_id f v h.at) 0 (slice_get-map (λ (k : Held). wanted_id f v k.at) hs i ∙ ap (option_map (λ (k : Held). wanted_id f v k.at)) e);
}
