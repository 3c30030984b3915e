-- The order of canonical names, by how they are spelled.
use Rattle.std.proofs.Common.{◌≡◌, ℕ, List, ◌∙◌, ap}
use Rattle.std.specs.Prelude.{Some, None, Result, Ok, Err}
use Rattle.std.specs.Ordering.{nat_cmp}
use Rattle.std.specs.Result.{result_ok}
use Rattle.std.specs.Cmp.Lexicographic.{slice_cmp}
use Rattle.std.specs.declared.cmp.Ordering.TheVariants.{Less, Greater}
use Rattle.udf_text.specs.Compressed.{decoding}
use Rattle.udf_text.specs.declared.fault.TextFault.{TextFault}
use Rattle.udf_file_model.specs.Name.{Canonical, Characters, Undecoded, canonical, canonical_by, canonical_key, canonical_cmp}

module _ (x y : Canonical) (a b : List ℕ) where
  pub characters_cmp : Characters a ≡ x → Characters b ≡ y → slice_cmp nat_cmp a b ≡ canonical_cmp x y
  unfolding canonical_key
  characters_cmp p q = ap (λ z. canonical_cmp z (Characters b)) p ∙ ap (canonical_cmp x) q

  pub bytes_cmp : Undecoded a ≡ x → Undecoded b ≡ y → slice_cmp nat_cmp a b ≡ canonical_cmp x y
  unfolding canonical_key
  bytes_cmp p q = ap (λ z. canonical_cmp z (Undecoded b)) p ∙ ap (canonical_cmp x) q

  pub characters_first : Characters a ≡ x → Undecoded b ≡ y → Less ≡ canonical_cmp x y
  unfolding canonical_key
  characters_first p q = ap (λ z. canonical_cmp z (Undecoded b)) p ∙ ap (canonical_cmp x) q

  pub bytes_last : Undecoded a ≡ x → Characters b ≡ y → Greater ≡ canonical_cmp x y
  unfolding canonical_key
  bytes_last p q = ap (λ z. canonical_cmp z (Characters b)) p ∙ ap (canonical_cmp x) q

-- what decodes is its characters, and else the bytes stay
pub decodes : (bytes characters : List ℕ) → Some characters ≡ result_ok (decoding bytes) → Characters characters ≡ canonical bytes
unfolding canonical
decodes bytes characters h = by (decoding bytes) h
  where
    by : (r : Result (List ℕ) TextFault) → Some characters ≡ result_ok r → Characters characters ≡ canonical_by r bytes
    by (Ok read) e = cc
    by (Err fault) e = cc

pub decodes_not : (bytes copy : List ℕ) → None ≡ result_ok (decoding bytes) → copy ≡ bytes → Undecoded copy ≡ canonical bytes
unfolding canonical
decodes_not bytes copy h same = by (decoding bytes) h
  where
    by : (r : Result (List ℕ) TextFault) → None ≡ result_ok r → Undecoded copy ≡ canonical_by r bytes
    by (Ok read) e = cc
    by (Err fault) e = ap Undecoded same
