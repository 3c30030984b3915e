-- The bytes of a dstring.
use Rattle.std.proofs.Common.{◌≡◌, ℕ, ◌+◌, ◌-◌, ◌<◌, ◌≤◌, true, List, [], ◌∷◌, ◌++◌, length, take, drop, set, get_or, replicate, Ok, Err, refl, sym, ap, ap₂, ◌∙◌, arith, ⊎_elim, lt-ltb, le-ltb}
use Rattle.std.specs.Str.{all_scalars}
use Rattle.std.proofs.lemmas.List.{length-append, length-replicate, get_or_at, take_at, drop_at, set_at, append_assoc, replicate-append-replicate}
use Rattle.std.proofs.lemmas.Bool.{cases_lt}
use Rattle.udf_text.specs.declared.fault.TextFault.TheVariants.{BadLength}
use Rattle.udf_text.specs.Compressed.{encoding, decoding, dstring, dstring_decoding, told_length}
use Rattle.udf_text.proofs.Spelling.{encoding_read, no_length}

pub length_dstring : (size : ℕ) (cs : List ℕ) → length (encoding cs) < size → length (dstring size cs) ≡ size
unfolding dstring
length_dstring size cs fits =
    let used = length (encoding cs) in
    let zeros : List ℕ = replicate (size - 1 - length (encoding cs)) 0 in
    omega (arith, length-append (encoding cs) (zeros ++ length (encoding cs) ∷ []), length-append zeros (length (encoding cs) ∷ []), length-replicate {A = ℕ} (size - 1 - length (encoding cs)) 0)

told : (size : ℕ) (cs : List ℕ) → length (encoding cs) < size → told_length (dstring size cs) ≡ length (encoding cs)
unfolding dstring
told size cs fits =
    let zeros : List ℕ = replicate (size - 1 - length (encoding cs)) 0 in
    let last : length (encoding cs ++ zeros) ≡ length (dstring size cs) - 1 =
    omega (arith, length_dstring size cs fits, length-append (encoding cs) zeros, length-replicate {A = ℕ} (size - 1 - length (encoding cs)) 0) in
    ap (λ l. get_or l (length (dstring size cs) - 1) 0) (sym (append_assoc (encoding cs) zeros (length (encoding cs) ∷ [])))
    ∙ get_or_at (encoding cs ++ zeros) (length (encoding cs)) [] 0 (length (dstring size cs) - 1) last

pub dstring_read : (size : ℕ) (cs : List ℕ) → all_scalars cs ≡ true → length (encoding cs) < size → dstring_decoding (dstring size cs) ≡ Ok cs
unfolding dstring_decoding dstring
dstring_read size cs s fits =
    let t = told size cs fits in
    let n = length_dstring size cs fits in
    let zeros : List ℕ = replicate (size - 1 - length (encoding cs)) 0 in
    let front : take (length (encoding cs)) (dstring size cs) ≡ encoding cs = take_at (encoding cs) (zeros ++ length (encoding cs) ∷ []) (length (encoding cs)) refl in
    rw (t, n, lt-ltb (length (encoding cs)) size fits, front) (encoding_read cs s)

-- the bytes that are written, part by part
pub field_written : (size : ℕ) (cs zeroed written : List ℕ) → zeroed ≡ replicate size 0 → written ≡ encoding cs → length (encoding cs) < size
    → set (written ++ drop (length (encoding cs)) zeroed) (size - 1) (length (encoding cs)) ≡ dstring size cs
unfolding dstring
field_written size cs zeroed written z e fits =
    let used = length (encoding cs) in
    let zeros : List ℕ = replicate (size - 1 - length (encoding cs)) 0 in
    let tail : drop (length (encoding cs)) zeroed ≡ zeros ++ 0 ∷ [] =
    ap (drop (length (encoding cs))) (z ∙ ap (λ n. replicate n 0) {x = size} {y = length (encoding cs) + (size - 1 - length (encoding cs) + 1)} (omega arith)
    ∙ sym (replicate-append-replicate (length (encoding cs)) (size - 1 - length (encoding cs) + 1) 0))
    ∙ drop_at (replicate (length (encoding cs)) 0) (replicate (size - 1 - length (encoding cs) + 1) 0) (length (encoding cs)) (length-replicate {A = ℕ} (length (encoding cs)) 0)
    ∙ sym (replicate-append-replicate (size - 1 - length (encoding cs)) 1 0) in
    ap₂ (λ a b. set (a ++ b) (size - 1) (length (encoding cs))) e tail
    ∙ ap (λ l. set l (size - 1) (length (encoding cs))) (sym (append_assoc (encoding cs) zeros (0 ∷ [])))
    ∙ set_at (encoding cs ++ zeros) 0 [] (length (encoding cs)) (size - 1) (omega (arith, length-append (encoding cs) zeros, length-replicate {A = ℕ} (size - 1 - length (encoding cs)) 0))
    ∙ append_assoc (encoding cs) zeros (length (encoding cs) ∷ [])

-- the length that the last byte tells decides
pub dstring_long : (field : List ℕ) → length field ≤ told_length field → dstring_decoding field ≡ Err BadLength
unfolding dstring_decoding
dstring_long field long = rw (le-ltb (told_length field) (length field) long)

pub dstring_short : (field : List ℕ) → told_length field < length field → dstring_decoding field ≡ decoding (take (told_length field) field)
unfolding dstring_decoding
dstring_short field short = rw (lt-ltb (told_length field) (length field) short)

pub long_law : (field : List ℕ) → (dstring_decoding field ≡ Err BadLength → length field ≤ told_length field) × (length field ≤ told_length field → dstring_decoding field ≡ Err BadLength)
long_law field = (
  λ e. ⊎_elim
      (λ short. absurd (no_length (take (told_length field) field) (sym (dstring_short field short) ∙ e)))
      (λ long. long)
      (cases_lt (told_length field) (length field)),
  dstring_long field,
)
