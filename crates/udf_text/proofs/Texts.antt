-- Texts and their characters.
use Rattle.std.proofs.Common.{◌≡◌, ℕ, Bool, true, false, List, [], ◌∷◌, ◌++◌, Result, Ok, Err, IfOk, nat_eq, refl, ap, sym, subst, ◌∙◌}
use Rattle.std.specs.Char.{encode_utf8}
use Rattle.std.specs.Cmp.Lexicographic.{pointwise, same_text, other_text}
use Rattle.std.specs.Str.{chars, encode_utf8_all, IsUtf8}
use Rattle.std.specs.String.{string_bytes}
use Rattle.std.proofs.lemmas.List.{append-nil}
use Rattle.std.proofs.lemmas.Str.{encodes-append, encodes-chars}
use Rattle.std.specs.declared.string.String.{String}

-- the bytes of a text, where there is one
pub ok_is : {Z E : Type 0} (r : Result (String Z) E) (a b : List ℕ) → IfOk r (λ t. string_bytes t ≡ a) → a ≡ b → IfOk r (λ t. string_bytes t ≡ b)
ok_is (Ok t) a b h e = h ∙ e
ok_is (Err x) a b h e = tt

-- a text after one more character
pub encodes_push : (old new cs : List ℕ) (c : ℕ) → old ≡ encode_utf8_all cs → new ≡ old ++ encode_utf8 c → new ≡ encode_utf8_all (cs ++ c ∷ [])
encodes_push old new cs c e p =
    p ∙ ap (λ l. l ++ encode_utf8 c) e ∙ ap (λ l. encode_utf8_all cs ++ l) (sym (append-nil (encode_utf8 c))) ∙ sym (encodes-append cs (c ∷ []))

-- what is said of the text of an `Ok`
pub of_ok : {Z E : Type 0} (r : Result (String Z) E) (text : String Z) (xs : List ℕ) → r ≡ Ok text → IfOk r (λ t. string_bytes t ≡ xs) → string_bytes text ≡ xs
of_ok r text xs is h = subst (λ q. IfOk q (λ t. string_bytes t ≡ xs)) is h

-- texts are equal where their characters are
pub same_test : (a b : List ℕ) → IsUtf8 a → IsUtf8 b → pointwise nat_eq a b ≡ pointwise nat_eq (chars a) (chars b)
same_test a b u v = by (pointwise nat_eq a b) (pointwise nat_eq (chars a) (chars b)) refl refl
  where
    by : (p q : Bool) → p ≡ pointwise nat_eq a b → q ≡ pointwise nat_eq (chars a) (chars b) → p ≡ q
    by true true e f = refl
    by false false e f = refl
    by true false e f = absurd (other_text _ _ f (ap chars (same_text _ _ e)))
    by false true e f = absurd (other_text _ _ e (sym (encodes-chars a u) ∙ ap encode_utf8_all (same_text _ _ f) ∙ encodes-chars b v))
