-- The allocation extents of a cut list are the chain through which the cut goes, each with what is left of it there.
use Rattle.std.proofs.Common.{◌≡◌, inl, inr, ℕ, zero, suc, Bool, true, false, cond, ◌-◌, ◌<◌, ◌≤◌, ◌==◌, nat_lt, Option, Some, None, List, [], ◌∷◌, map, length, arith, refl, sym, ap, ◌∙◌, subst}
use Rattle.std.proofs.lemmas.Bool.Decides.{nat_tests}
use Rattle.udf_field.specs.declared.address.Addr.{Addr}
use Rattle.udf_file_model.specs.Address.{same_addr}
use Rattle.udf_file_model.specs.Descriptors.{Descriptor}
use Rattle.udf_file_model.specs.Pieces.{Piece, Extent, Blocks, extents_of, further, pieces, size_of}
use Rattle.udf_file_model.specs.Cut.{Onward, cut_pieces, left_in, left_on, onward}
use Rattle.udf_file_model.proofs.Trimming.{further_suc, further_zero, onward_more, onward_over, pieces_more, pieces_over, pieces_nil, same_means, size_blocks, size_extent, size_nil}
use Rattle.udf_tree_model.specs.Among.{Member}
use Rattle.udf_tree_model.proofs.Linking.{Distinct}
use Rattle.udf_tree_model.proofs.Places.{address_same}
use Rattle.udf_file_mends.specs.Spread.{Sited}
use Rattle.udf_file_plan.specs.Chain.{chain}
use Rattle.udf_file_plan.proofs.Chained.{chain_none, chain_some}

less : (m n : ℕ) → nat_lt m n ≡ true → m < n
less m n h = grind (arith, nat_tests)

is_some_number : (b : ℕ) → 0 < b → (b == 0) ≡ false
is_some_number b h = grind (arith, nat_tests)

cut_extent : (b : ℕ) (x : Addr) (rest : List Piece) → 0 < b → cut_pieces b (Extent x ∷ rest) ≡ Extent x ∷ cut_pieces b rest
unfolding cut_pieces
cut_extent b x rest h = rw (is_some_number b h) refl

cut_over : (b : ℕ) (d : Descriptor) (rest : List Piece) → 0 < b → nat_lt d.length b ≡ true → cut_pieces b (Blocks d ∷ rest) ≡ Blocks d ∷ cut_pieces (b - d.length) rest
unfolding cut_pieces
cut_over b d rest h e = rw (is_some_number b h, e) refl

cut_last : (b : ℕ) (d : Descriptor) (rest : List Piece) → 0 < b → nat_lt d.length b ≡ false → cut_pieces b (Blocks d ∷ rest) ≡ Blocks (record d { length = b }) ∷ []
unfolding cut_pieces
cut_last b d rest h e = rw (is_some_number b h, e) refl

of_extent : (x : Addr) (rest : List Piece) → extents_of (Extent x ∷ rest) ≡ x ∷ extents_of rest
unfolding extents_of
of_extent x rest = refl

of_blocks : (d : Descriptor) (rest : List Piece) → extents_of (Blocks d ∷ rest) ≡ extents_of rest
unfolding extents_of
of_blocks d rest = refl

of_last : (d : Descriptor) → extents_of (Blocks d ∷ []) ≡ []
unfolding extents_of
of_last d = refl

onward_last : (b : ℕ) (d : Descriptor) (ds : List Descriptor) → (d.kind == 3) ≡ false → nat_lt d.length b ≡ false → onward b (d ∷ ds) ≡ None
unfolding onward
onward_last b d ds e f = rw (e, f) refl

onward_nil : (b : ℕ) → onward b [] ≡ None
unfolding onward
onward_nil b = refl

left_step : (at : Addr → List Descriptor) (n b : ℕ) (ds : List Descriptor) (y : Addr) → left_in at (suc n) b ds y ≡ left_on y (onward b ds) (λ o. left_in at n o.left (at o.next) y)
unfolding left_in
left_step at n b ds y = refl

left_none : (at : Addr → List Descriptor) (b : ℕ) (ds : List Descriptor) (y : Addr) → left_in at 0 b ds y ≡ None
unfolding left_in
left_none at b ds y = refl

-- what a cut leaves depends on where it goes on
left_as : (at : Addr → List Descriptor) (n b c : ℕ) (ds es : List Descriptor) (y : Addr) → onward b ds ≡ onward c es → left_in at n b ds y ≡ left_in at n c es y
left_as at zero b c ds es y e = left_none at b ds y ∙ sym (left_none at c es y)
left_as at (suc n) b c ds es y e = left_step at n b ds y ∙ ap (λ q. left_on y q (λ o. left_in at n o.left (at o.next) y)) e ∙ sym (left_step at n c es y)

left_here : (at : Addr → List Descriptor) (n b : ℕ) (ds : List Descriptor) (o : Onward) → onward b ds ≡ Some o → left_in at (suc n) b ds o.next ≡ Some o.left
left_here at n b ds o e =
    left_step at n b ds o.next ∙ ap (λ q. left_on o.next q (λ p. left_in at n p.left (at p.next) o.next)) e
    ∙ unfold left_on in ap (λ t. cond t (Some o.left) (left_in at n o.left (at o.next) o.next)) (address_same o.next o.next refl)

apart : (x y : Addr) → (x ≡ y → ⊥) → same_addr x y ≡ false
apart x y h = by (same_addr x y) refl
  where
    by : (t : Bool) → same_addr x y ≡ t → same_addr x y ≡ false
    by true e = absurd (h (same_means x y e))
    by false e = e

left_past : (at : Addr → List Descriptor) (n b : ℕ) (ds : List Descriptor) (o : Onward) (y : Addr) → onward b ds ≡ Some o → (y ≡ o.next → ⊥)
    → left_in at (suc n) b ds y ≡ left_in at n o.left (at o.next) y
left_past at n b ds o y e off =
    left_step at n b ds y ∙ ap (λ q. left_on y q (λ o. left_in at n o.left (at o.next) y)) e
    ∙ unfold left_on in ap (λ t. cond t (Some o.left) (left_in at n o.left (at o.next) y)) (apart y o.next off)

map_agree : {X : Type 0} (f g : Addr → X) (ys : List Addr) → ((y : Addr) → Member y ys → f y ≡ g y) → map f ys ≡ map g ys
map_agree f g [] h = refl
map_agree f g (y ∷ ys) h = ap (λ z. z ∷ map f ys) (h y (inl refl)) ∙ ap (λ z. g y ∷ z) (map_agree f g ys (λ x m. h x (inr m)))

module _ (at : Addr → List Descriptor) (site : Addr → Option ℕ → Sited) where
  abbrev put : Onward → Sited
  put o = site o.next (Some o.left)

  -- the extents of a cut flat list
  abbrev cut_extents : ℕ → ℕ → List Descriptor → List Addr
  cut_extents n b ds = extents_of (cut_pieces b (pieces (further at n) ds))

  abbrev seen : ℕ → ℕ → List Descriptor → Addr → Sited
  seen n b ds y = site y (left_in at n b ds y)

  pub record Follows (n many b : ℕ) (ds : List Descriptor) : Type 0 where
    pub same : 0 < b → b ≤ size_of (pieces (further at n) ds) → length (extents_of (cut_pieces b (pieces (further at n) ds))) ≤ many
        → Distinct (extents_of (cut_pieces b (pieces (further at n) ds)))
        → map (λ y. site y (left_in at n b ds y)) (extents_of (cut_pieces b (pieces (further at n) ds))) ≡ map (λ o. site o.next (Some o.left)) (chain at many (onward b ds))

  goes_over : (n many b : ℕ) (d : Descriptor) (ds : List Descriptor) → (d.kind == 3) ≡ false → nat_lt d.length b ≡ true → Follows n many (b - d.length) ds
      → Follows n many b (d ∷ ds)
  goes_over n many b d ds e f on = record {
    same = λ some within few distinct.
        let l = less d.length b f in
        let size = ap size_of (pieces_over (further at n) d ds e) ∙ size_blocks d (pieces (further at n) ds) in
        let is : cut_extents n b (d ∷ ds) ≡ cut_extents n (b - d.length) ds =
        ap (λ p. extents_of (cut_pieces b p)) (pieces_over (further at n) d ds e) ∙ ap extents_of (cut_over b d (pieces (further at n) ds) some f)
        ∙ of_blocks d (cut_pieces (b - d.length) (pieces (further at n) ds)) in
        ap (map (seen n b (d ∷ ds))) is
        ∙ map_agree (seen n b (d ∷ ds)) (seen n (b - d.length) ds) (cut_extents n (b - d.length) ds)
        (λ y m. ap (site y) (left_as at n b (b - d.length) (d ∷ ds) ds y (onward_over b d ds e f)))
        ∙ on.same (omega (arith, l)) (omega (arith, within, size, l)) (subst (λ (ys : List Addr). length ys ≤ many) is few) (subst (λ (ys : List Addr). Distinct ys) is distinct)
        ∙ ap (λ q. map put (chain at many q)) (sym (onward_over b d ds e f));
  }

  ends_in : (n many b : ℕ) (d : Descriptor) (ds : List Descriptor) → (d.kind == 3) ≡ false → nat_lt d.length b ≡ false → Follows n many b (d ∷ ds)
  ends_in n many b d ds e f = record {
    same = λ some within few distinct.
        let is : cut_extents n b (d ∷ ds) ≡ [] =
        ap (λ p. extents_of (cut_pieces b p)) (pieces_over (further at n) d ds e) ∙ ap extents_of (cut_last b d (pieces (further at n) ds) some f) ∙ of_last (record d { length = b }) in
        ap (map (seen n b (d ∷ ds))) is ∙ sym (ap (λ q. map put (chain at many q)) (onward_last b d ds e f) ∙ ap (map put) (chain_none at many));
  }

  goes_deeper : (m many b : ℕ) (d : Descriptor) (ds : List Descriptor) → (d.kind == 3) ≡ true → ((k : ℕ) → Follows m k b (at d.at)) → Follows (suc m) many b (d ∷ ds)
  goes_deeper m many b d ds e on = record {
    same = λ some within few distinct.
        let is : cut_extents (suc m) b (d ∷ ds) ≡ d.at ∷ cut_extents m b (at d.at) =
        ap (λ p. extents_of (cut_pieces b p)) (pieces_more (further at (suc m)) d ds e) ∙ ap extents_of (cut_extent b d.at (further at (suc m) d.at) some)
        ∙ of_extent d.at (cut_pieces b (further at (suc m) d.at)) ∙ ap (λ p. d.at ∷ extents_of (cut_pieces b p)) (further_suc at m d.at) in
        let size = ap size_of (pieces_more (further at (suc m)) d ds e) ∙ size_extent d.at (further at (suc m) d.at) ∙ ap size_of (further_suc at m d.at) in
        ap (map (seen (suc m) b (d ∷ ds))) is
        ∙ by many some (omega (arith, within, size)) (subst (λ (ys : List Addr). length ys ≤ many) is few) (subst (λ (ys : List Addr). Distinct ys) is distinct);
  }
    where
      o : Onward
      o = record { next = d.at; left = b }

      goes : onward b (d ∷ ds) ≡ Some (record { next = d.at; left = b })
      goes = onward_more b d ds e

      by : (many : ℕ) → 0 < b → b ≤ size_of (pieces (further at m) (at d.at)) → length (d.at ∷ cut_extents m b (at d.at)) ≤ many → Distinct (d.at ∷ cut_extents m b (at d.at))
          → map (seen (suc m) b (d ∷ ds)) (d.at ∷ cut_extents m b (at d.at)) ≡ map put (chain at many (onward b (d ∷ ds)))
      by zero some within few distinct = absurd (omega (arith, few))
      by (suc k) some within few distinct =
          ap (λ z. site d.at z ∷ map (seen (suc m) b (d ∷ ds)) (cut_extents m b (at d.at))) (left_here at m b (d ∷ ds) (record { next = d.at; left = b }) goes)
          ∙ ap (λ z. site d.at (Some b) ∷ z) (map_agree (seen (suc m) b (d ∷ ds)) (seen m b (at d.at)) (cut_extents m b (at d.at))
          (λ y i. ap (site y) (left_past at m b (d ∷ ds) (record { next = d.at; left = b }) y goes (λ q. distinct.0 (subst (λ (z : Addr). Member z (cut_extents m b (at d.at))) q i))))
          ∙ (on k).same some within (omega (arith, few)) distinct.1)
          ∙ sym (ap (λ q. map put (chain at (suc k) q)) goes ∙ ap (map put) (chain_some at k (record { next = d.at; left = b })))

  pub follows : (n : ℕ) (ds : List Descriptor) (many b : ℕ) → Follows n many b ds
  follows n [] many b = record { same = λ some within few distinct. absurd (omega (arith, some, within, ap size_of (pieces_nil (further at n)), size_nil)) }
  follows zero (d ∷ ds) many b = by (d.kind == 3) refl (nat_lt d.length b) refl (follows zero ds many (b - d.length))
    where
      nothing : (d.kind == 3) ≡ true → Follows zero many b (d ∷ ds)
      nothing e = record {
        same = λ some within few distinct.
            absurd (omega (arith, some, within, ap size_of (pieces_more (further at zero) d ds e) ∙ size_extent d.at (further at zero d.at) ∙ ap size_of (further_zero at d.at), size_nil));
      }

      by : (k : Bool) → (d.kind == 3) ≡ k → (l : Bool) → nat_lt d.length b ≡ l → Follows zero many (b - d.length) ds → Follows zero many b (d ∷ ds)
      by true e l f on = nothing e
      by false e true f on = goes_over zero many b d ds e f on
      by false e false f on = ends_in zero many b d ds e f
  follows (suc n) (d ∷ ds) many b = by (d.kind == 3) refl (nat_lt d.length b) refl (follows (suc n) ds many (b - d.length)) (λ k. follows n (at d.at) k b)
    where
      by : (k : Bool) → (d.kind == 3) ≡ k → (l : Bool) → nat_lt d.length b ≡ l → Follows (suc n) many (b - d.length) ds → ((k : ℕ) → Follows n k b (at d.at)) → Follows (suc n) many b (d ∷ ds)
      by true e l f on deep = goes_deeper n many b d ds e deep
      by false e true f on deep = goes_over (suc n) many b d ds e f on
      by false e false f on deep = ends_in (suc n) many b d ds e f
