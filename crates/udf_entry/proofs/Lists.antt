-- Reading a list, allocation extent by allocation extent.
use Rattle.std.proofs.Common.{◌≡◌, ℕ, suc, Bool, true, false, ◌||◌, ◌+◌, ◌-◌, ◌*◌, ◌<◌, ◌≤◌, ◌⊎◌, inl, inr, List, [], ◌∷◌, ◌++◌, Option, Some, None, arith, sym, ◌∙◌, ap, refl, subst, length}
use Rattle.std.specs.Prelude.{is_some}
use Rattle.std.specs.List.{list_any}
use Rattle.std.proofs.lemmas.List.{length-append}
use Rattle.udf_field.specs.declared.address.Addr.{Addr}
use Rattle.udf_file_model.specs.Descriptors.{descriptors}
use Rattle.udf_file_model.specs.Pieces.{Piece, Extent, pieces, further, flat}
use Rattle.udf_file_model.specs.Front.{Rules, Past, covers, stood, is_new}
use Rattle.udf_file_model.specs.Address.{same_addr}
use Rattle.udf_entry.specs.Outcome.{outcome}
use Rattle.udf_file_model.specs.Listing.{Volume, descriptors_in, is_extent}
use Rattle.udf_file_model.proofs.Standing.{new_means}
use Rattle.udf_entry.proofs.Few.{Spread, IsPlaced, spread_none, spread_more, spread_few}
use Rattle.udf_entry.specs.NextView.{outcome_next}
use Rattle.udf_entry.specs.declared.body.Next.{Next}
use Rattle.udf_entry.specs.declared.body.Next.TheVariants.{End, Failed, Onward}

abbrev pub weight : Next → ℕ
weight End = 0
weight Failed = 0
weight (Onward x) = 1

-- what an address continues, after so many extents
abbrev pub onward : Volume → ℕ → ℕ → Addr → List Piece
onward v kind many = further (descriptors_in v kind) (2 * v.blocks - many)

-- what is left gives what the whole list gives
pub record IsLeft (r : Rules) (v : Volume) (kind : ℕ) (body : List ℕ) (first past : Past) (next : Next) : Type 0 where
  pub same : outcome_next r (is_extent v) past (onward v kind (length past.extents)) next
      ≡ outcome r (is_extent v) first (flat (descriptors_in v kind) (2 * v.blocks) (descriptors kind r.own body))

module _ (r : Rules) (v : Volume) (kind : ℕ) (body : List ℕ) (first : Past) where
  pub begins : (past : Past) (next : Next) → past.extents ≡ []
      → ((k : Addr → List Piece) (whole : Addr → Bool) → outcome_next r whole past k next ≡ outcome r whole first (pieces k (descriptors kind r.own body)))
      → IsLeft r v kind body first past next
  begins past next none read =
      let few : length past.extents ≡ 0 = ap length none in
      let all : 2 * v.blocks - length past.extents ≡ 2 * v.blocks = omega (arith, few) in
      record {
        same =
            ap (λ n. outcome_next r (is_extent v) past (further (descriptors_in v kind) n) next) all
            ∙ read (further (descriptors_in v kind) (2 * v.blocks)) (is_extent v);
      }

  further_step : (n m : ℕ) (x : Addr) → n ≡ suc m → further (descriptors_in v kind) n x ≡ pieces (further (descriptors_in v kind) m) (descriptors_in v kind x)
  unfolding further
  further_step n m x e = ap (λ z. further (descriptors_in v kind) z x) e

  pub steps : (q : Rules) (w : Volume) (past after : Past) (x : Addr) (at next : Next) → IsLeft r v kind body first past at → at ≡ Onward x → q ≡ r → w ≡ v
      → ((k : Addr → List Piece) (rest : List Piece) → (after.extents ≡ past.extents ++ x ∷ [] → rest ≡ pieces k (descriptors_in w kind x))
      → outcome_next q (is_extent w) after k next ≡ outcome q (is_extent w) past (Extent x ∷ rest))
      → (after.extents ≡ past.extents ++ x ∷ [] → length past.extents + 1 ≤ 2 * v.blocks)
      → IsLeft r v kind body first after next
  steps q w past after x at next left on same_r same_v read few = record {
    same =
        sym (ap (λ z. outcome_next z (is_extent w) after (onward v kind (length after.extents)) next) same_r
        ∙ ap (λ z. outcome_next r (is_extent z) after (onward v kind (length after.extents)) next) same_v) ∙ one
        ∙ (ap (λ z. outcome z (is_extent w) past (Extent x ∷ onward v kind (length past.extents) x)) same_r
        ∙ ap (λ z. outcome r (is_extent z) past (Extent x ∷ onward v kind (length past.extents) x)) same_v)
        ∙ (sym (ap (λ z. outcome_next r (is_extent v) past (onward v kind (length past.extents)) z) on) ∙ left.same);
  }
    where
      longer : after.extents ≡ past.extents ++ x ∷ [] → onward v kind (length past.extents) x ≡ pieces (onward v kind (length after.extents)) (descriptors_in w kind x)
      longer e =
          let n : 2 * v.blocks - length past.extents ≡ suc (2 * v.blocks - length after.extents) =
          omega (arith, few e, ap length e, length-append past.extents (x ∷ [])) in
          further_step (2 * v.blocks - length past.extents) (2 * v.blocks - length after.extents) x n
          ∙ ap (λ z. pieces (onward v kind (length after.extents)) (descriptors_in z kind x)) (sym same_v)

      one : outcome_next q (is_extent w) after (onward v kind (length after.extents)) next ≡ outcome q (is_extent w) past (Extent x ∷ onward v kind (length past.extents) x)
      one = read (onward v kind (length after.extents)) (onward v kind (length past.extents) x) longer

-- what stood earlier has the extents
not_among : (size : ℕ) (own : Addr) (past : Past) (x : Addr) → stood size own past x ≡ false → list_any (same_addr x) past.extents ≡ false
unfolding stood
not_among size own past x h = middle (same_addr own x) (list_any (same_addr x) past.extents) (list_any (covers size x) past.runs) h
  where
    middle : (a b c : Bool) → (a || (b || c)) ≡ false → b ≡ false
    middle true b c h = absurd (cc)
    middle false true c h = absurd (cc)
    middle false false c h = refl

placed_by : (place : Addr → Option ℕ) (blocks : ℕ) (x : Addr) (o : Option ℕ) → place x ≡ o → is_some o ≡ true
    → ((s : ℕ) → place x ≡ Some s → (s < blocks) × (x.part < 2)) → IsPlaced place blocks x
placed_by place blocks x None e h within = absurd (cc)
placed_by place blocks x (Some s) e h within = record { sector = s; here = e; inside = (within s e).0; few = (within s e).1 }

module _ (place : Addr → Option ℕ) (blocks : ℕ) (r : Rules) (past : Past) (x : Addr) (after : List Addr) (next : Next) where
  abbrev pub Grown : Type 0
  Grown = ((after ≡ past.extents) × (next ≡ Failed)) ⊎ ((after ≡ past.extents ++ (x ∷ [])) × (is_new r past x ≡ true))

  pub stays_spread : ((a : Addr) → r.placed a ≡ is_some (place a)) → ((a b : Addr) (s : ℕ) → a.part ≡ b.part → place a ≡ Some s → place b ≡ Some s → a ≡ b)
      → ((s : ℕ) → place x ≡ Some s → (s < blocks) × (x.part < 2)) → Spread place blocks past.extents → Grown → Spread place blocks after
  stays_spread same apart within spread (inl w) = let P : List Addr → Type 0 = λ l. Spread place blocks l in subst P (sym w.0) spread
  stays_spread same apart within spread (inr w) =
      let new = new_means r past x w.1 in
      let P : List Addr → Type 0 = λ l. Spread place blocks l in
      subst P (sym w.0) (spread_more place blocks apart past.extents x spread
      (placed_by place blocks x (place x) refl (sym (same x) ∙ new.0) within)
      (not_among r.size r.own past x new.1))

  weight_most : (n : Next) → weight n ≤ 1
  weight_most End = omega arith
  weight_most Failed = omega arith
  weight_most (Onward y) = omega arith

  pub falls : (at : Next) → at ≡ Onward x → Spread place blocks after → Grown
      → weight next + (2 * blocks - length after) < weight at + (2 * blocks - length past.extents)
  falls at on spread (inl w) = omega (arith, ap weight w.1, ap weight on, ap length w.0)
  falls at on spread (inr w) =
      omega (arith, weight_most next, ap weight on, ap length w.0, length-append past.extents (x ∷ []), spread_few place blocks after spread)

  pub grown_few : Spread place blocks after → after ≡ past.extents ++ (x ∷ []) → length past.extents + 1 ≤ 2 * blocks
  grown_few spread e = omega (arith, ap length e, length-append past.extents (x ∷ []), spread_few place blocks after spread)

pub spread_empty : (place : Addr → Option ℕ) (blocks : ℕ) (xs : List Addr) → xs ≡ [] → Spread place blocks xs
spread_empty place blocks xs e = let P : List Addr → Type 0 = λ l. Spread place blocks l in subst P (sym e) (spread_none place blocks)
