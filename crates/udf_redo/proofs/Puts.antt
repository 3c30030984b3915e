-- Bytes put over others.
use Rattle.std.proofs.Common.{◌≡◌, ◌<◌, ◌≤◌, ◌⊎◌, inl, inr, ℕ, ◌+◌, ◌-◌, List, ◌++◌, length, drop, get_or, take, sym, ◌∙◌, ap, arith}
use Rattle.std.proofs.lemmas.List.{same_lists, places, drop-drop, take-take, drop-take, get_or-take, get_or-drop}
use Rattle.udf_outside.specs.Stops.{Torn, put, slice_of}

pub length-put : (v : List ℕ) (at : ℕ) (b : List ℕ) → at + length b ≤ length v → length (put v at b) ≡ length v
length-put v at b within = grind (arith, places)

pub put_torn : (c d : List ℕ) (at : ℕ) (b : List ℕ) → Torn at (length b) c d → put d at b ≡ put c at b
put_torn c d at b torn = ap (λ (l : List ℕ). l ++ (b ++ drop (at + length b) d)) torn.before ∙ ap (λ (l : List ℕ). take at c ++ (b ++ l)) torn.after

pub take-put : (v : List ℕ) (n at : ℕ) (b : List ℕ) → at + length b ≤ n → n ≤ length v → take n (put v at b) ≡ put (take n v) at b
take-put v n at b le within = same_lists _ _ (grind (arith, places)) (λ k d h. grind (arith, places))

pub drop-put : (v : List ℕ) (n at : ℕ) (b : List ℕ) → at + length b ≤ n → n ≤ length v → drop n (put v at b) ≡ drop n v
drop-put v n at b le within = same_lists _ _ (grind (arith, places)) (λ k d h. grind (arith, places))

pub torn_length : (c d : List ℕ) (at n : ℕ) → Torn at n c d → at + n ≤ length c → length d ≡ length c
torn_length c d at n torn within = omega (arith, torn.no_shorter, torn.no_longer)

-- what stands before a torn range, put over alike
pub torn-put : (c d : List ℕ) (at n before : ℕ) (b : List ℕ) → Torn at n c d → before + length b ≤ at → at + n ≤ length c → Torn at n (put c before b) (put d before b)
torn-put c d at n before b torn le within =
    let same = torn_length c d at n torn within in
    let long_c : length (put c before b) ≡ length c = length-put c before b (omega arith) in
    let long_d : length (put d before b) ≡ length d = length-put d before b (omega arith) in
    record {
      before = take-put d at before b le (omega arith) ∙ ap (λ (l : List ℕ). put l before b) torn.before ∙ sym (take-put c at before b le (omega arith));
      after = drop-put d (at + n) before b (omega arith) (omega arith) ∙ torn.after ∙ sym (drop-put c (at + n) before b (omega arith) (omega arith));
      no_shorter = omega arith;
      no_longer = omega arith;
    }

-- what stands apart from a torn range
pub slice-torn_before : (c d : List ℕ) (at n from m : ℕ) → Torn at n c d → from + m ≤ at → slice_of d from m ≡ slice_of c from m
slice-torn_before c d at n from m torn le =
    let same : take (from + m) d ≡ take (from + m) c = sym (take-take (from + m) at d le) ∙ ap (λ (l : List ℕ). take (from + m) l) torn.before ∙ take-take (from + m) at c le in
    sym (drop-take from m d) ∙ ap (λ (l : List ℕ). drop from l) same ∙ drop-take from m c

pub slice-torn_after : (c d : List ℕ) (at n from m : ℕ) → Torn at n c d → at + n ≤ from → slice_of d from m ≡ slice_of c from m
slice-torn_after c d at n from m torn le =
    let k = from - (at + n) in
    let is : at + n + k ≡ from = omega arith in
    let behind : (l : List ℕ) → drop from l ≡ drop k (drop (at + n) l) = λ l. ap (λ (i : ℕ). drop i l) (sym is) ∙ sym (drop-drop k (at + n) l) in
    ap (λ (l : List ℕ). take m l) (behind d ∙ ap (λ (l : List ℕ). drop k l) torn.after ∙ sym (behind c))

-- what stands at one place apart from a torn range
pub torn_elsewhere : (c d : List ℕ) (at n i : ℕ) → Torn at n c d → (i < at) ⊎ (at + n ≤ i) → get_or d i 0 ≡ get_or c i 0
torn_elsewhere c d at n i torn (inl lt) = sym (get_or-take at d i 0 lt) ∙ ap (λ (l : List ℕ). get_or l i 0) torn.before ∙ get_or-take at c i 0 lt
torn_elsewhere c d at n i torn (inr le) =
    let k = i - (at + n) in
    let is : at + n + k ≡ i = omega arith in
    let behind : (l : List ℕ) → get_or l i 0 ≡ get_or (drop (at + n) l) k 0 = λ l. ap (λ (j : ℕ). get_or l j 0) (sym is) ∙ sym (get_or-drop (at + n) l k 0) in
    behind d ∙ ap (λ (l : List ℕ). get_or l k 0) torn.after ∙ sym (behind c)
