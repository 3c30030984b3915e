-- Names padded with zeros, by parts, and entities by their names.
use Rattle.std.proofs.Common.{◌≡◌, ℕ, suc, ◌+◌, ◌-◌, ◌<◌, ◌≤◌, arith, refl, sym, ◌∙◌, ap, List, [], ◌∷◌, ◌++◌, length, take, drop, replicate, Bool, true, false, ◌&&◌, eqb, length-drop, IsTrue}
use Rattle.std.specs.Str.{bytes_eq}
use Rattle.std.proofs.Math.Bool.{and-false}
use Rattle.std.proofs.lemmas.List.{length-take-le}
use Rattle.std.proofs.lemmas.Slice.Eq.{bytes_eq-Decides}
use Rattle.udf_model.specs.Image.{is_zeros}
use Rattle.udf_field.specs.FieldView.{entity_is, entity_name, padded}

zeros : (bytes : List ℕ) → bytes_eq bytes (replicate (length bytes) 0) ≡ is_zeros bytes
unfolding is_zeros
zeros [] = refl
zeros (byte ∷ bytes) = ap (λ rest. eqb byte 0 && rest) (zeros bytes)

by_parts : (field name : List ℕ) → length name ≤ length field
    → bytes_eq field (padded (length field) name) ≡ (bytes_eq (take (length name) field) name && is_zeros (drop (length name) field))
unfolding padded
by_parts field [] room = ap (λ n. bytes_eq field (replicate n 0)) (let e : length field - 0 ≡ length field = omega arith in e) ∙ zeros field
by_parts [] (c ∷ name) room = absurd (omega arith)
by_parts (byte ∷ field) (c ∷ name) room =
    ap (λ n. eqb byte c && bytes_eq field (name ++ replicate n 0)) (let e : suc (length field) - suc (length name) ≡ length field - length name = omega arith in e)
    ∙ ap (λ rest. eqb byte c && rest) (by_parts field name (omega arith))
    ∙ sym (and_assoc (eqb byte c) (bytes_eq (take (length name) field) name) (is_zeros (drop (length name) field))) where
      and_assoc : (x y z : Bool) → ((x && y) && z) ≡ (x && (y && z))
      and_assoc true y z = refl
      and_assoc false y z = refl

pub too_long : (field name : List ℕ) → length field < length name → false ≡ bytes_eq field (padded (length field) name)
unfolding padded
too_long [] [] long = absurd (omega arith)
too_long [] (c ∷ name) long = refl
too_long (byte ∷ field) [] long = absurd (omega arith)
too_long (byte ∷ field) (c ∷ name) long =
    sym (ap (λ n. eqb byte c && bytes_eq field (name ++ replicate n 0)) (let e : suc (length field) - suc (length name) ≡ length field - length name = omega arith in e)
    ∙ ap (λ rest. eqb byte c && rest) (sym (too_long field name (omega arith))) ∙ and-false (eqb byte c)) where
      and_false : (x : Bool) → (x && false) ≡ false
      and_false true = refl
      and_false false = refl

pub other_front : (field name front : List ℕ) → length name ≤ length field → front ≡ take (length name) field → bytes_eq front name ≡ false
    → false ≡ bytes_eq field (padded (length field) name)
other_front field name front room is other =
    sym (by_parts field name room
    ∙ ap (λ b. b && is_zeros (drop (length name) field)) (ap (λ xs. bytes_eq xs name) (sym is) ∙ other))

pub same_front : (field name front rest : List ℕ) (r : Bool) → length name ≤ length field → front ≡ take (length name) field → rest ≡ drop (length name) field
    → bytes_eq front name ≡ true → r ≡ is_zeros rest → r ≡ bytes_eq field (padded (length field) name)
same_front field name front rest r room is left same zero =
    zero ∙ ap is_zeros left
    ∙ sym (by_parts field name room
    ∙ ap (λ b. b && is_zeros (drop (length name) field)) (ap (λ xs. bytes_eq xs name) (sym is) ∙ same))

-- the test of the bytes at the name's place is that of the entity
pub entity_value : (seen bytes name : List ℕ) (at : ℕ) (r : Bool) → seen ≡ bytes → at + 32 ≤ length bytes
    → r ≡ bytes_eq (take (at + 24 - (at + 1)) (drop (at + 1) seen)) (padded (length (take (at + 24 - (at + 1)) (drop (at + 1) seen))) name)
    → r ≡ entity_is bytes at name
unfolding entity_is entity_name
entity_value seen bytes name at r is room test =
    let own : take (at + 24 - (at + 1)) (drop (at + 1) seen) ≡ take 23 (drop (at + 1) bytes) =
    ap (λ n. take n (drop (at + 1) seen)) (let e : at + 24 - (at + 1) ≡ 23 = omega arith in e) ∙ ap (λ xs. take 23 (drop (at + 1) xs)) is in
    let long : length (take (at + 24 - (at + 1)) (drop (at + 1) seen)) ≡ 23 =
    ap length own ∙ length-take-le 23 (drop (at + 1) bytes) (omega (arith, length-drop (at + 1) bytes)) in
    test ∙ ap (λ n. bytes_eq (take (at + 24 - (at + 1)) (drop (at + 1) seen)) (padded n name)) long ∙ ap (λ xs. bytes_eq xs (padded 23 name)) own

pub entity_has_name : (seen bytes name : List ℕ) (at : ℕ) (r : Bool) → seen ≡ bytes → at + 32 ≤ length bytes
    → r ≡ bytes_eq (take (at + 24 - (at + 1)) (drop (at + 1) seen)) (padded (length (take (at + 24 - (at + 1)) (drop (at + 1) seen))) name)
    → IsTrue r → entity_name bytes at ≡ padded 23 name
unfolding entity_is
entity_has_name seen bytes name at r is room test passed =
    (bytes_eq-Decides (entity_name bytes at) (padded 23 name)).0 (sym (entity_value seen bytes name at r is room test) ∙ passed)

pub name_has_entity : (seen bytes name : List ℕ) (at : ℕ) (r : Bool) → seen ≡ bytes → at + 32 ≤ length bytes
    → r ≡ bytes_eq (take (at + 24 - (at + 1)) (drop (at + 1) seen)) (padded (length (take (at + 24 - (at + 1)) (drop (at + 1) seen))) name)
    → entity_name bytes at ≡ padded 23 name → IsTrue r
unfolding entity_is
name_has_entity seen bytes name at r is room test same =
    entity_value seen bytes name at r is room test ∙ (bytes_eq-Decides (entity_name bytes at) (padded 23 name)).1 same
