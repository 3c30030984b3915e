-- Anchors that are put at places.
use Rattle.std.proofs.Common.{◌≡◌, ℕ, ◌^◌, ◌<◌, ◌≤◌, refl, sym, ◌∙◌, ap, List, length, Bool, true, false, cond, ◌&&◌, eqb, drop, Some, None}
use Rattle.std.proofs.lemmas.Bool.{eqb-true, and_parts, and_from}
use Rattle.std.proofs.lemmas.List.{drop-drop}
use Rattle.udf_model.specs.Bytes.{number_at}
use Rattle.udf_model.specs.Tag.{is_whole, identifier, location, id_at, is_id, relocated}
use Rattle.udf_model.proofs.Relocated.{relocated_body}
use Rattle.udf_volume_model.specs.Anchor.{Anchor, extent_at, named_by, names_extents, anchor_in}
use Rattle.udf_volume_model.specs.Rules.{same_anchor, is_good}
use Rattle.udf_volume_laws.proofs.Moved.{IsTagged, tagged_at}
use Rattle.udf_volume_laws.proofs.Same.{anchor_is, anchor_same}

-- what a whole anchor is
pub record IsAnchor (size blocks at : ℕ) (block : List ℕ) (anchor : Anchor) : Type 0 where
  pub tagged : is_id 2 (id_at at block) ≡ true
  pub within : names_extents size blocks anchor ≡ true
  pub named : named_by block ≡ anchor

pub is_anchor : (size blocks at : ℕ) (block : List ℕ) (anchor : Anchor) → anchor_in size blocks at block ≡ Some anchor → IsAnchor size blocks at block anchor
unfolding anchor_in
is_anchor size blocks at block anchor = by_test (is_id 2 (id_at at block) && names_extents size blocks (named_by block)) refl where
  by_test : (b : Bool) → (is_id 2 (id_at at block) && names_extents size blocks (named_by block)) ≡ b → cond b (Some (named_by block)) None ≡ Some anchor
      → IsAnchor size blocks at block anchor
  by_test true test e =
      let parts = and_parts (is_id 2 (id_at at block)) (names_extents size blocks (named_by block)) test in
      let is : named_by block ≡ anchor = cc in
      record { tagged = parts.0; within = ap (names_extents size blocks) (sym is) ∙ parts.1; named = is }
  by_test false test e = absurd (cc)

pub anchor_from : (size blocks at : ℕ) (block : List ℕ) (anchor : Anchor) → IsAnchor size blocks at block anchor → anchor_in size blocks at block ≡ Some anchor
unfolding anchor_in
anchor_from size blocks at block anchor a =
    let test : (is_id 2 (id_at at block) && names_extents size blocks (named_by block)) ≡ true =
    and_from _ _ a.tagged (ap (names_extents size blocks) a.named ∙ a.within) in
    ap (λ b. cond b (Some (named_by block)) None) test ∙ ap Some a.named

-- a good anchor is whole, and a whole one with these extents is good
pub good_from : (size blocks at : ℕ) (block : List ℕ) (anchor : Anchor) → IsAnchor size blocks at block anchor → is_good anchor at block ≡ true
unfolding is_good
good_from size blocks at block anchor a = and_from _ _ a.tagged (ap (λ x. same_anchor x anchor) a.named ∙ anchor_same anchor)

pub anchor_good : (size blocks at : ℕ) (block : List ℕ) (anchor : Anchor) → names_extents size blocks anchor ≡ true → is_good anchor at block ≡ true
    → IsAnchor size blocks at block anchor
unfolding is_good
anchor_good size blocks at block anchor within good =
    let parts = and_parts (is_id 2 (id_at at block)) (same_anchor (named_by block) anchor) good in
    record { tagged = parts.0; within = within; named = anchor_is _ _ parts.1 }

pub two_tagged : (at : ℕ) (block : List ℕ) → is_id 2 (id_at at block) ≡ true → IsTagged 2 block
unfolding id_at
two_tagged at block e = by_test (is_whole block && eqb (location block) at) refl e where
  by_test : (b : Bool) → (is_whole block && eqb (location block) at) ≡ b → is_id 2 (cond b (Some (identifier block)) None) ≡ true → IsTagged 2 block
  by_test true test e = record { whole = (and_parts (is_whole block) (eqb (location block) at) test).0; same = eqb-true _ _ e }
  by_test false test e = absurd (cc)

moved_named : (at : ℕ) (block : List ℕ) → 16 ≤ length block → named_by (relocated at block) ≡ named_by block
unfolding named_by extent_at number_at
moved_named at block room =
    let body : drop 16 (relocated at block) ≡ drop 16 block = relocated_body at block room in
    let at_20 : drop 20 (relocated at block) ≡ drop 20 block = sym (drop-drop 4 16 (relocated at block)) ∙ ap (drop 4) body ∙ drop-drop 4 16 block in
    let at_24 : drop 24 (relocated at block) ≡ drop 24 block = sym (drop-drop 8 16 (relocated at block)) ∙ ap (drop 8) body ∙ drop-drop 8 16 block in
    let at_28 : drop 28 (relocated at block) ≡ drop 28 block = sym (drop-drop 12 16 (relocated at block)) ∙ ap (drop 12) body ∙ drop-drop 12 16 block in
    simp (body, at_20, at_24, at_28)

pub moved_anchor : (size blocks at from : ℕ) (block : List ℕ) (anchor : Anchor) → 16 ≤ length block → at < 2 ^ 32
    → IsAnchor size blocks from block anchor → IsAnchor size blocks at (relocated at block) anchor
moved_anchor size blocks at from block anchor room fits a = record {
  tagged = ap (is_id 2) (tagged_at at 2 block room fits (two_tagged from block a.tagged));
  within = a.within;
  named = moved_named at block room ∙ a.named;
}
