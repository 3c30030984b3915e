-- Names that are the same, by what tells them apart.
use Rattle.std.proofs.Common.{◌≡◌, ℕ, true, inl, inr, List, refl, sym, ◌∙◌, ap}
use Rattle.std.specs.Prelude.{Result, Ok, Err}
use Rattle.udf_text.specs.Compressed.{decoding}
use Rattle.udf_text.specs.declared.fault.TextFault.{TextFault}
use Rattle.udf_file_model.specs.Name.{IsSameName, Canonical, Characters, Undecoded, canonical_by, canonical, canonical_key, canonical_cmp}
use Rattle.std.specs.Ordering.{is_eq}
use Rattle.std.specs.Cmp.Lexicographic.{bytes_decides, texts_ties}
use Rattle.std.specs.declared.cmp.Ordering.{Ordering}
use Rattle.std.specs.declared.cmp.Ordering.TheVariants.{Less, Equal, Greater}

pub same_canonical : (a b : List ℕ) → IsSameName a b → canonical a ≡ canonical b
unfolding canonical
same_canonical a b (inl e) = ap canonical e
same_canonical a b (inr (characters, of_a, of_b)) = ap (λ r. canonical_by r a) of_a ∙ sym (ap (λ r. canonical_by r b) of_b)

pub canonical_same : (a b : List ℕ) → canonical a ≡ canonical b → IsSameName a b
unfolding canonical
canonical_same a b e = choose (decoding a) (decoding b) refl refl e
  where
    alike : (x y : List ℕ) → decoding a ≡ Ok x → decoding b ≡ Ok y → x ≡ y → IsSameName a b
    alike x y p q s = inr (x, p, q ∙ ap Ok (sym s))

    choose : (r s : Result (List ℕ) TextFault) → decoding a ≡ r → decoding b ≡ s → canonical_by r a ≡ canonical_by s b → IsSameName a b
    choose (Ok x) (Ok y) p q h = let s : x ≡ y = cc in alike x y p q s
    choose (Ok x) (Err f) p q h = cc
    choose (Err f) (Ok y) p q h = cc
    choose (Err f) (Err g) p q h = inl (cc)

same_key : (a b : Canonical) → canonical_key a ≡ canonical_key b → a ≡ b
unfolding canonical_key
same_key (Characters x) (Characters y) e = cc
same_key (Characters x) (Undecoded y) e = cc
same_key (Undecoded x) (Characters y) e = cc
same_key (Undecoded x) (Undecoded y) e = cc

-- the order tells names apart
pub equal_names : (a b : Canonical) → canonical_cmp a b ≡ Equal → a ≡ b
equal_names a b e =
    same_key a b
    ((bytes_decides (canonical_key a) (canonical_key b)).0 (texts_ties (canonical_key a) (canonical_key b) ∙ ap is_eq e))

ties : (o : Ordering) → is_eq o ≡ true → o ≡ Equal
ties Less e = cc
ties Equal e = refl
ties Greater e = cc

pub same_order : (a b : Canonical) → a ≡ b → canonical_cmp a b ≡ Equal
same_order a b e =
    ties (canonical_cmp a b)
    (sym (texts_ties (canonical_key a) (canonical_key b)) ∙ (bytes_decides (canonical_key a) (canonical_key b)).1 (ap canonical_key e))
