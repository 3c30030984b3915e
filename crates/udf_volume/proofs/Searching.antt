-- The search over the places of anchors.
use Rattle.std.proofs.Common.{◌≡◌, ℕ, arith, length, refl, sym, ◌∙◌, ap, subst, List, [], ◌∷◌, Bool, true, Option, Some, None, ◌||◌}
use Rattle.std.specs.Prelude.{is_some}
use Rattle.udf_volume_model.specs.Anchor.{Anchor, anchor_in}
use Rattle.udf_volume_model.specs.Kept.{KeptSequence, kept_sequence_at, led_from, or_else, kept_sequence_in, has_anchor}
use Rattle.udf_volume.specs.Led.{Finds, at_least_unled_of, led_seen}
use Rattle.udf_volume.specs.declared.kept.Led.{Led}
use Rattle.udf_volume.specs.declared.kept.AnchorSearch.{AnchorSearch}
use Rattle.udf_volume.specs.declared.kept.AnchorSearch.TheVariants.{Nothing, Unled, Kept}

module _ (size blocks : ℕ) (disk : ℕ → List ℕ) where
  pub none_left : (list : List ℕ) → length list ≡ 0 → Finds (kept_sequence_in size blocks disk list) (has_anchor size blocks disk list) Nothing
  unfolding kept_sequence_in has_anchor
  none_left [] e = (refl, refl)
  none_left (place ∷ rest) e = absurd (omega arith)

  same : (volume other : Option KeptSequence) (any some : Bool) (found : AnchorSearch) → other ≡ volume → some ≡ any → Finds volume any found → Finds other some found
  same volume other any some Nothing v a (f, g) = (v ∙ f, a ∙ g)
  same volume other any some Unled v a (f, g) = (v ∙ f, a ∙ g)
  same volume other any some (Kept led) v a f = v ∙ f

  pub no_anchor : (place : ℕ) (rest block : List ℕ) (found : AnchorSearch) → block ≡ disk place → None ≡ anchor_in size blocks place block
      → Finds (kept_sequence_in size blocks disk rest) (has_anchor size blocks disk rest) found
      → Finds (kept_sequence_in size blocks disk (place ∷ rest)) (has_anchor size blocks disk (place ∷ rest)) found
  unfolding kept_sequence_in has_anchor led_from
  no_anchor place rest block found is none f =
      let e : anchor_in size blocks place (disk place) ≡ None = sym (none ∙ ap (anchor_in size blocks place) is) in
      same _ _ _ _ found
      (ap (λ a. or_else (kept_sequence_at size disk place a) (kept_sequence_in size blocks disk rest)) e)
      (ap (λ a. is_some a || has_anchor size blocks disk rest) e) f

  led_here : (place : ℕ) (block : List ℕ) (anchor : Anchor) (led : Option KeptSequence) → block ≡ disk place → Some anchor ≡ anchor_in size blocks place block
      → led ≡ kept_sequence_at size disk place (Some anchor) → led_from size blocks disk place ≡ led
  unfolding led_from
  led_here place block anchor led is some l =
      sym (l ∙ ap (kept_sequence_at size disk place) (some ∙ ap (anchor_in size blocks place) is))

  pub leads : (place : ℕ) (rest block : List ℕ) (anchor : Anchor) (led : Led) → block ≡ disk place → Some anchor ≡ anchor_in size blocks place block
      → Some (led_seen led) ≡ kept_sequence_at size disk place (Some anchor)
      → Finds (kept_sequence_in size blocks disk (place ∷ rest)) (has_anchor size blocks disk (place ∷ rest)) (Kept led)
  unfolding kept_sequence_in
  leads place rest block anchor led is some l =
      ap (λ v. or_else v (kept_sequence_in size blocks disk rest)) (led_here place block anchor _ is some l)

  raised : (volume : Option KeptSequence) (any : Bool) (found : AnchorSearch) → Finds volume any found → Finds volume true (at_least_unled_of found)
  raised volume any Nothing (f, g) = (f, refl)
  raised volume any Unled (f, g) = (f, refl)
  raised volume any (Kept led) f = f

  pub leads_not : (place : ℕ) (rest block : List ℕ) (anchor : Anchor) (found answer : AnchorSearch) → block ≡ disk place → Some anchor ≡ anchor_in size blocks place block
      → None ≡ kept_sequence_at size disk place (Some anchor)
      → Finds (kept_sequence_in size blocks disk rest) (has_anchor size blocks disk rest) found → answer ≡ at_least_unled_of found
      → Finds (kept_sequence_in size blocks disk (place ∷ rest)) (has_anchor size blocks disk (place ∷ rest)) answer
  unfolding kept_sequence_in has_anchor
  leads_not place rest block anchor found answer is some l f e =
      let here : anchor_in size blocks place (disk place) ≡ Some anchor = sym (some ∙ ap (anchor_in size blocks place) is) in
      let P : AnchorSearch → Type 0 = λ x. Finds (kept_sequence_in size blocks disk (place ∷ rest)) (has_anchor size blocks disk (place ∷ rest)) x in
      subst P (sym e)
      (same _ _ _ _ (at_least_unled_of found)
      (ap (λ v. or_else v (kept_sequence_in size blocks disk rest)) (led_here place block anchor None is some l))
      (ap (λ a. is_some a || has_anchor size blocks disk rest) here)
      (raised _ _ found f))
