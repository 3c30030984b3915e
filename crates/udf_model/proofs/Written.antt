-- Bytes and numbers written over others: they are read back, and what stands apart stays.
use Rattle.std.proofs.Common.{◌≡◌, ℕ, zero, suc, ◌+◌, ◌-◌, ◌*◌, ◌^◌, ◌<◌, ◌≤◌, arith, refl, sym, ◌∙◌, ap, subst, List, ◌++◌, length, take, drop, get_or, inl, inr, ◌⊎◌, length-append, length-drop, lit<}
use Rattle.std.proofs.lemmas.List.{append_assoc, length-take-le, take_at, drop_at, drop-drop, get_or-take, get_or-drop}
use Rattle.std.specs.Int.{byte_at, bytes_low_first}
use Rattle.byteorder.specs.Endian.{little_bytes, little_number, little_from}
use Rattle.byteorder.specs.Numbers.{little_number-reads_back, length-bytes_low_first, little_from-lt}
use Rattle.udf_model.specs.Bytes.{IsBytes, number_at, written_at, with_number}
use Rattle.udf_model.proofs.Parts.{append_is_bytes, drop_is_bytes, take_is_bytes}

-- bytes written over others
pub written_length : (at : ℕ) (bytes area : List ℕ) → at + length bytes ≤ length area → length (written_at at bytes area) ≡ length area
unfolding written_at
written_length at bytes area room =
    let front : length (take at area) ≡ at = length-take-le at area (omega arith) in
    length-append (take at area) (bytes ++ drop (at + length bytes) area)
    ∙ (let e : length (take at area) + length (bytes ++ drop (at + length bytes) area) ≡ length area =
    omega (arith, length-append bytes (drop (at + length bytes) area), length-drop (at + length bytes) area) in e)

pub written_front : (at : ℕ) (bytes area : List ℕ) → at ≤ length area → take at (written_at at bytes area) ≡ take at area
unfolding written_at
written_front at bytes area room = take_at (take at area) (bytes ++ drop (at + length bytes) area) at (length-take-le at area room)

-- from the offset on stand the bytes, and then what stood after them
pub written_from : (at : ℕ) (bytes area : List ℕ) → at ≤ length area → drop at (written_at at bytes area) ≡ bytes ++ drop (at + length bytes) area
unfolding written_at
written_from at bytes area room = drop_at (take at area) (bytes ++ drop (at + length bytes) area) at (length-take-le at area room)

pub written_rest : (at n : ℕ) (bytes area : List ℕ) → length bytes ≡ n → at ≤ length area → drop (at + n) (written_at at bytes area) ≡ drop (at + n) area
written_rest at n bytes area many room =
    sym (drop-drop n at (written_at at bytes area))
    ∙ ap (drop n) (written_from at bytes area room) ∙ drop_at bytes (drop (at + length bytes) area) n many
    ∙ ap (λ k. drop (at + k) area) many

-- the bytes are there
pub written_back : (at n : ℕ) (bytes area : List ℕ) → length bytes ≡ n → at ≤ length area → take n (drop at (written_at at bytes area)) ≡ bytes
written_back at n bytes area many room =
    ap (take n) (written_from at bytes area room) ∙ take_at bytes (drop (at + length bytes) area) n many

-- a byte outside them stays
pub byte_stays : (at n i : ℕ) (bytes area : List ℕ) → length bytes ≡ n → at ≤ length area → (i < at) ⊎ (at + n ≤ i)
    → get_or (written_at at bytes area) i 0 ≡ get_or area i 0
byte_stays at n i bytes area many room (inl l) =
    sym (get_or-take at (written_at at bytes area) i 0 l)
    ∙ ap (λ xs. get_or xs i 0) (written_front at bytes area room) ∙ get_or-take at area i 0 l
byte_stays at n i bytes area many room (inr l) =
    let is : at + n + (i - (at + n)) ≡ i = omega arith in
    ap (λ k. get_or (written_at at bytes area) k 0) (sym is)
    ∙ sym (get_or-drop (at + n) (written_at at bytes area) (i - (at + n)) 0)
    ∙ ap (λ xs. get_or xs (i - (at + n)) 0) (written_rest at n bytes area many room)
    ∙ get_or-drop (at + n) area (i - (at + n)) 0 ∙ ap (λ k. get_or area k 0) is

pub written_is_bytes : (at : ℕ) (bytes area : List ℕ) → IsBytes bytes → IsBytes area → IsBytes (written_at at bytes area)
unfolding written_at
written_is_bytes at bytes area new old =
    append_is_bytes (take at area) (bytes ++ drop (at + length bytes) area) (take_is_bytes at area old)
    (append_is_bytes bytes (drop (at + length bytes) area) new (drop_is_bytes (at + length bytes) area old))

-- bytes written right after others
pub written_on : (at next : ℕ) (bytes more area : List ℕ) → next ≡ at + length bytes → next ≤ length area
    → written_at next more (written_at at bytes area) ≡ written_at at (bytes ++ more) area
unfolding written_at
written_on at next bytes more area is room =
    let begin : length (take at area ++ bytes) ≡ next =
    length-append (take at area) bytes ∙ (let e : length (take at area) + length bytes ≡ next = omega (arith, length-take-le at area (omega arith)) in e) in
    let front : take next (take at area ++ (bytes ++ drop (at + length bytes) area)) ≡ take at area ++ bytes =
    ap (take next) (sym (append_assoc (take at area) bytes (drop (at + length bytes) area)))
    ∙ take_at (take at area ++ bytes) (drop (at + length bytes) area) next begin in
    let past : drop next (take at area ++ (bytes ++ drop (at + length bytes) area)) ≡ drop next area =
    ap (drop next) (sym (append_assoc (take at area) bytes (drop (at + length bytes) area)))
    ∙ drop_at (take at area ++ bytes) (drop (at + length bytes) area) next begin
    ∙ ap (λ k. drop k area) (sym is) in
    let rest : drop (next + length more) (take at area ++ (bytes ++ drop (at + length bytes) area)) ≡ drop (at + length (bytes ++ more)) area =
    sym (drop-drop (length more) next (take at area ++ (bytes ++ drop (at + length bytes) area)))
    ∙ ap (drop (length more)) past ∙ drop-drop (length more) next area
    ∙ ap (λ k. drop k area) (let e : next + length more ≡ at + length (bytes ++ more) = omega (arith, length-append bytes more) in e) in
    ap (λ xs. xs ++ (more ++ drop (next + length more) (take at area ++ (bytes ++ drop (at + length bytes) area)))) front
    ∙ ap (λ xs. (take at area ++ bytes) ++ (more ++ xs)) rest
    ∙ append_assoc (take at area) bytes (more ++ drop (at + length (bytes ++ more)) area)
    ∙ ap (λ xs. take at area ++ xs) (sym (append_assoc bytes more (drop (at + length (bytes ++ more)) area)))

-- numbers
byte_below : (i value : ℕ) → byte_at i value < 256
byte_below zero value = omega arith
byte_below (suc i) value = omega arith

low_bytes : (i n value : ℕ) → IsBytes (bytes_low_first i n value)
low_bytes i zero value k = lit< tt
low_bytes i (suc n) value zero = byte_below i value
low_bytes i (suc n) value (suc k) = low_bytes (suc i) n value k

pub number_is_written : (n at value : ℕ) (area : List ℕ) → with_number n at value area ≡ written_at at (little_bytes n value) area
unfolding with_number written_at
number_is_written n at value area =
    ap (λ k. take at area ++ (little_bytes n value ++ drop (at + k) area)) (sym (length-bytes_low_first 0 n value))

pub number_length : (n at value : ℕ) (area : List ℕ) → at + n ≤ length area → length (with_number n at value area) ≡ length area
number_length n at value area room =
    ap length (number_is_written n at value area)
    ∙ written_length at (little_bytes n value) area (omega (arith, length-bytes_low_first 0 n value))

pub number_back : (n at value : ℕ) (area : List ℕ) → at ≤ length area → value < 256 ^ n → number_at n (with_number n at value area) at ≡ value
unfolding number_at
number_back n at value area room fits =
    ap (λ xs. little_number n (drop at xs)) (number_is_written n at value area)
    ∙ ap (little_number n) (written_from at (little_bytes n value) area room)
    ∙ little_number-reads_back n value (drop (at + length (little_bytes n value)) area) fits

pub number_front : (n at value : ℕ) (area : List ℕ) → at ≤ length area → take at (with_number n at value area) ≡ take at area
number_front n at value area room = ap (take at) (number_is_written n at value area) ∙ written_front at (little_bytes n value) area room

pub number_rest : (n at value : ℕ) (area : List ℕ) → at ≤ length area → drop (at + n) (with_number n at value area) ≡ drop (at + n) area
number_rest n at value area room =
    ap (drop (at + n)) (number_is_written n at value area)
    ∙ written_rest at n (little_bytes n value) area (length-bytes_low_first 0 n value) room

pub number_is_bytes : (n at value : ℕ) (area : List ℕ) → IsBytes area → IsBytes (with_number n at value area)
number_is_bytes n at value area old =
    subst IsBytes (sym (number_is_written n at value area)) (written_is_bytes at (little_bytes n value) area (low_bytes 0 n value) old)

same_little : (i n : ℕ) (xs ys : List ℕ) → ((k : ℕ) → i ≤ k → k < i + n → get_or xs k 0 ≡ get_or ys k 0) → little_from i n xs ≡ little_from i n ys
same_little i zero xs ys h = refl
same_little i (suc n) xs ys h =
    let first : get_or xs i 0 ≡ get_or ys i 0 = h i (omega arith) (omega arith) in
    let rest : little_from (suc i) n xs ≡ little_from (suc i) n ys = same_little (suc i) n xs ys (λ k l m. h k (omega arith) (omega arith)) in
    omega arith

-- a number is read from its bytes alone
pub same_number : (n at : ℕ) (xs ys : List ℕ) → ((k : ℕ) → at ≤ k → k < at + n → get_or xs k 0 ≡ get_or ys k 0) → number_at n xs at ≡ number_at n ys at
unfolding number_at
same_number n at xs ys h =
    same_little 0 n (drop at xs) (drop at ys) (λ k l m. get_or-drop at xs k 0 ∙ h (at + k) (omega arith) (omega arith) ∙ sym (get_or-drop at ys k 0))

-- a number apart from what is written stays
pub number_apart : (at n m from : ℕ) (bytes area : List ℕ) → length bytes ≡ n → at ≤ length area → (from + m ≤ at) ⊎ (at + n ≤ from)
    → number_at m (written_at at bytes area) from ≡ number_at m area from
number_apart at n m from bytes area many room (inl h) = same_number m from _ _ (λ k l j. byte_stays at n k bytes area many room (inl (omega arith)))
number_apart at n m from bytes area many room (inr h) = same_number m from _ _ (λ k l j. byte_stays at n k bytes area many room (inr (omega arith)))

pub number_stays : (n at value m from : ℕ) (area : List ℕ) → at ≤ length area → (from + m ≤ at) ⊎ (at + n ≤ from)
    → number_at m (with_number n at value area) from ≡ number_at m area from
number_stays n at value m from area room apart =
    ap (λ xs. number_at m xs from) (number_is_written n at value area)
    ∙ number_apart at n m from (little_bytes n value) area (length-bytes_low_first 0 n value) room apart

pub number_fits : (n at : ℕ) (area : List ℕ) → IsBytes area → number_at n area at < 256 ^ n
unfolding number_at
number_fits n at area bytes = little_from-lt 0 n (drop at area) (drop_is_bytes at area bytes)

pub one_byte : (bytes : List ℕ) (at : ℕ) → number_at 1 bytes at ≡ get_or bytes at 0
unfolding number_at
one_byte bytes at =
    (let e : get_or (drop at bytes) 0 0 + 256 * 0 ≡ get_or (drop at bytes) 0 0 = omega arith in e)
    ∙ get_or-drop at bytes 0 0 ∙ ap (λ k. get_or bytes k 0) (let e : at + 0 ≡ at = omega arith in e)
