-- What a sparing table says is read from its content: the bytes behind its tag, up to the end of its entries.
use Rattle.std.proofs.Common.{◌≡◌, ℕ, zero, suc, ◌+◌, ◌-◌, ◌*◌, ◌<◌, ◌≤◌, arith, refl, sym, ◌∙◌, ap, List, ◌∷◌, take, drop, get_or, map}
use Rattle.std.specs.List.{range_with_len}
use Rattle.std.specs.Str.{bytes_eq}
use Rattle.std.proofs.lemmas.List.{get_or-take, get_or-drop, drop-drop, take-take, drop-take}
use Rattle.udf_model.specs.Bytes.{number_at}
use Rattle.udf_model.proofs.Written.{same_number}
use Rattle.udf_field.specs.FieldView.{entity_is, entity_name, padded}
use Rattle.udf_volume_model.specs.SparingTable.{entry_count, sequence_number, table_end, entry_at, entries}
use Rattle.udf_volume_model.specs.SparingRule.{table_content}

-- a byte of the content
content_byte : (area : List ℕ) (k : ℕ) → 16 ≤ k → k < table_end area → get_or (table_content area) (k - 16) 0 ≡ get_or area k 0
unfolding table_content
content_byte area k low high =
    get_or-drop 16 (take (table_end area) area) (k - 16) 0
    ∙ ap (λ n. get_or (take (table_end area) area) n 0) (let e : 16 + (k - 16) ≡ k = omega arith in e)
    ∙ get_or-take (table_end area) area k 0 high

-- a field that stands before the entries
head_byte : (a b : List ℕ) → table_content a ≡ table_content b → (k : ℕ) → 16 ≤ k → k < 56 → get_or a k 0 ≡ get_or b k 0
head_byte a b same k low high =
    sym (content_byte a k low (omega arith)) ∙ ap (λ l. get_or l (k - 16) 0) same ∙ content_byte b k low (omega arith)

pub same_count : (a b : List ℕ) → table_content a ≡ table_content b → entry_count a ≡ entry_count b
same_count a b same = same_number 2 48 a b (λ k l h. head_byte a b same k (omega arith) (omega arith))

pub same_sequence : (a b : List ℕ) → table_content a ≡ table_content b → sequence_number a ≡ sequence_number b
same_sequence a b same = same_number 4 52 a b (λ k l h. head_byte a b same k (omega arith) (omega arith))

pub same_end : (a b : List ℕ) → table_content a ≡ table_content b → table_end a ≡ table_end b
same_end a b same = ap (λ n. 56 + 8 * n) (same_count a b same)

entry_byte : (a b : List ℕ) → table_content a ≡ table_content b → (k : ℕ) → 16 ≤ k → k < table_end b → get_or a k 0 ≡ get_or b k 0
entry_byte a b same k low high =
    sym (content_byte a k low (omega (arith, same_end a b same))) ∙ ap (λ l. get_or l (k - 16) 0) same ∙ content_byte b k low high

same_map : {Y : Type 0} (f g : ℕ → Y) (start n : ℕ) → ((i : ℕ) → i < start + n → f i ≡ g i) → map f (range_with_len start n) ≡ map g (range_with_len start n)
same_map f g start zero h = refl
same_map f g start (suc n) h =
    ap (λ y. y ∷ map f (range_with_len (start + 1) n)) (h start (omega arith))
    ∙ ap (λ l. g start ∷ l) (same_map f g (start + 1) n (λ i l. h i (omega arith)))

pub same_entries : (a b : List ℕ) → table_content a ≡ table_content b → entries a ≡ entries b
unfolding entries entry_at
same_entries a b same =
    ap (λ n. map (entry_at a) (range_with_len 0 n)) (same_count a b same)
    ∙ same_map (entry_at a) (entry_at b) 0 (entry_count b) (λ i h. same_entry i (omega arith))
  where
    same_entry : (i : ℕ) → i < entry_count b → entry_at a i ≡ entry_at b i
    same_entry i h =
        ap (λ n. (n, number_at 4 a (60 + 8 * i))) (same_number 4 (56 + 8 * i) a b (λ k l m. entry_byte a b same k (omega arith) (omega arith)))
        ∙ ap (λ n. (number_at 4 b (56 + 8 * i), n)) (same_number 4 (60 + 8 * i) a b (λ k l m. entry_byte a b same k (omega arith) (omega arith)))

-- the entity's name, which stands from 17 on
name_part : (area : List ℕ) → take 23 (drop 17 area) ≡ take 23 (drop 1 (table_content area))
unfolding table_content
name_part area =
    let split : table_end area ≡ 17 + (table_end area - 17) = omega arith in
    sym (ap (take 23) (drop-drop 1 16 (take (table_end area) area))
    ∙ ap (λ n. take 23 (drop 17 (take n area))) split
    ∙ ap (take 23) (drop-take 17 (table_end area - 17) area)
    ∙ take-take 23 (table_end area - 17) (drop 17 area) (omega arith))

pub same_name : (a b : List ℕ) (name : List ℕ) → table_content a ≡ table_content b → entity_is a 16 name ≡ entity_is b 16 name
unfolding entity_is entity_name
same_name a b name same =
    ap (λ l. bytes_eq l (padded 23 name)) (name_part a ∙ ap (λ l. take 23 (drop 1 l)) same ∙ sym (name_part b))
