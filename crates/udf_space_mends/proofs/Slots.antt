-- The recognition sequence after its mend.
use Rattle.std.proofs.Common.{◌≡◌, ℕ, zero, suc, ◌+◌, ◌-◌, ◌<◌, ◌≤◌, arith, refl, sym, ◌∙◌, ap, subst, inl, inr, ◌⊎◌, List, [], ◌∷◌, ◌++◌, length, map, take, drop, replicate, Bool, true, false, not, cond, ◌==◌, ◌&&◌, ◌||◌, leb, codes, length-append}
use Rattle.std.specs.List.{list_all, range_with_len, take_while}
use Rattle.std.proofs.lemmas.Bool.{and_from, and_parts, and_cases, or_cases, leb-true, eqb-true, false≢true}
use Rattle.std.proofs.lemmas.List.Folds.{list_all-append}
use Rattle.std.proofs.lemmas.List.{length-replicate, take_at}
use Rattle.std.proofs.lemmas.List.Sums.{take_while-cons}
use Rattle.udf_model.specs.Size.{is_size}
use Rattle.udf_volume_model.specs.Edits.{are_edits, is_off, look}
use Rattle.udf_volume_laws.proofs.Puts.{look_both}
use Rattle.udf_rules_model.specs.Recognition.{Recognition, binds, identifier_at, identifiers, is_among, is_clear, is_recognised, is_untaken, known, others, recognition_holds, slot_at, slot_blocks, wanted_digit}
use Rattle.udf_space_mends.specs.SlotMend.{on_disk, recognition_edits, slot_block, slot_edits, volume_name}
use Rattle.udf_space_mends.proofs.Rows.{each_in, on_row, row_fits, fit_both, row_here, row_past}

-- the blocks of a slot are at least one
some_blocks : (size : ℕ) → is_size size ≡ true → 1 ≤ slot_blocks size
unfolding is_size slot_blocks
some_blocks size e = first (or_cases (size == 512) ((size == 1024) || ((size == 2048) || (size == 4096))) e)
  where
    at : (n : ℕ) → size ≡ n → 1 ≤ slot_blocks n → 1 ≤ slot_blocks size
    at n p h = subst (λ k. 1 ≤ slot_blocks k) (sym p) h

    third : ((size == 2048) ≡ true) ⊎ ((size == 4096) ≡ true) → 1 ≤ slot_blocks size
    third (inl h) = at 2048 (eqb-true _ _ h) (omega arith)
    third (inr h) = at 4096 (eqb-true _ _ h) (omega arith)

    second : ((size == 1024) ≡ true) ⊎ (((size == 2048) || (size == 4096)) ≡ true) → 1 ≤ slot_blocks size
    second (inl h) = at 1024 (eqb-true _ _ h) (omega arith)
    second (inr h) = third (or_cases (size == 2048) (size == 4096) h)

    first : ((size == 512) ≡ true) ⊎ (((size == 1024) || ((size == 2048) || (size == 4096))) ≡ true) → 1 ≤ slot_blocks size
    first (inl h) = at 512 (eqb-true _ _ h) (omega arith)
    first (inr h) = second (or_cases (size == 1024) ((size == 2048) || (size == 4096)) h)

-- each sector of a clear slot is untaken
clear_sector : (r : Recognition) (i j : ℕ) → is_clear r i ≡ true → j < slot_blocks r.size → is_untaken r (slot_at r.size i + j) ≡ true
unfolding is_clear
clear_sector r i j e l =
    each_in (λ n. is_untaken r n) (slot_at r.size i) (slot_blocks r.size) j
    (and_parts (leb (slot_at r.size i + slot_blocks r.size) r.blocks) (list_all (λ n. is_untaken r n) (range_with_len (slot_at r.size i) (slot_blocks r.size))) e).1 l

clear_room : (r : Recognition) (i : ℕ) → is_clear r i ≡ true → slot_at r.size i + slot_blocks r.size ≤ r.blocks
unfolding is_clear
clear_room r i e =
    leb-true _ _ (and_parts (leb (slot_at r.size i + slot_blocks r.size) r.blocks) (list_all (λ n. is_untaken r n) (range_with_len (slot_at r.size i) (slot_blocks r.size))) e).0

-- what is mapped over fronts by tests that agree
fronts_same : {X : Type 0} (p q : ℕ → Bool) (f g : ℕ → X) → ((i : ℕ) → q i ≡ p i) → ((i : ℕ) → p i ≡ true → g i ≡ f i)
    → (xs : List ℕ) → map g (take_while q xs) ≡ map f (take_while p xs)
fronts_same p q f g tests values [] = refl
fronts_same p q f g tests values (x ∷ xs) =
    ap (map g) (take_while-cons q x xs) ∙ by (p x) refl (fronts_same p q f g tests values xs) ∙ sym (ap (map f) (take_while-cons p x xs))
  where
    by : (b : Bool) → p x ≡ b → map g (take_while q xs) ≡ map f (take_while p xs)
        → map g (cond (q x) (x ∷ take_while q xs) []) ≡ map f (cond (p x) (x ∷ take_while p xs) [])
    by true e rest =
        ap (λ t. map g (cond t (x ∷ take_while q xs) [])) (tests x ∙ e)
        ∙ (ap (λ y. y ∷ map g (take_while q xs)) (values x e) ∙ ap (λ ys. f x ∷ ys) rest)
        ∙ sym (ap (λ t. map f (cond t (x ∷ take_while p xs) [])) e)
    by false e rest =
        ap (λ t. map g (cond t (x ∷ take_while q xs) [])) (tests x ∙ e) ∙ sym (ap (λ t. map f (cond t (x ∷ take_while p xs) [])) e)

-- whether a slot is clear does not rest on the disk
same_clear : (r : Recognition) (disk : ℕ → List ℕ) (i : ℕ) → is_clear (on_disk r disk) i ≡ is_clear r i
unfolding is_clear
same_clear r disk i = refl

-- a disk on which each clear slot begins as it did has the rule as it was
module _ (r : Recognition) (disk : ℕ → List ℕ) (same : (i : ℕ) → is_clear r i ≡ true → disk (slot_at r.size i) ≡ r.disk (slot_at r.size i)) where
  same_name : (i : ℕ) → is_clear r i ≡ true → identifier_at (on_disk r disk) i ≡ identifier_at r i
  unfolding identifier_at
  same_name i e = ap (λ b. take 5 (drop 1 b)) (same i e)

  same_test : (t : List ℕ → Bool) (i : ℕ) → (is_clear (on_disk r disk) i && t (identifier_at (on_disk r disk) i)) ≡ (is_clear r i && t (identifier_at r i))
  same_test t i = ap (λ b. b && t (identifier_at (on_disk r disk) i)) (same_clear r disk i) ∙ by (is_clear r i) refl
    where
      by : (b : Bool) → is_clear r i ≡ b → (is_clear r i && t (identifier_at (on_disk r disk) i)) ≡ (is_clear r i && t (identifier_at r i))
      by true e = ap (λ n. is_clear r i && t n) (same_name i e)
      by false e = ap (λ b. b && t (identifier_at (on_disk r disk) i)) e ∙ sym (ap (λ b. b && t (identifier_at r i)) e)

  same_identifiers : identifiers (on_disk r disk) ≡ identifiers r
  unfolding identifiers
  same_identifiers =
      fronts_same (λ i. is_clear r i && is_among known (identifier_at r i)) (λ i. is_clear (on_disk r disk) i && is_among known (identifier_at (on_disk r disk) i))
      (identifier_at r) (identifier_at (on_disk r disk)) (same_test (is_among known))
      (λ i e. same_name i (and_parts (is_clear r i) (is_among known (identifier_at r i)) e).0) (range_with_len 0 64)

  same_binds : binds (on_disk r disk) ≡ binds r
  unfolding binds
  same_binds =
      let t : (i : ℕ) → (is_clear (on_disk r disk) i && not (is_among others (identifier_at (on_disk r disk) i))) ≡ (is_clear r i && not (is_among others (identifier_at r i)))
      = same_test (λ n. not (is_among others n)) in
      ap (λ a. a && ((is_clear (on_disk r disk) 1 && not (is_among others (identifier_at (on_disk r disk) 1))) && ((is_clear (on_disk r disk) 2 && not (is_among others (identifier_at (on_disk r disk) 2))) && true))) (t 0)
      ∙ ap (λ a. (is_clear r 0 && not (is_among others (identifier_at r 0))) && (a && ((is_clear (on_disk r disk) 2 && not (is_among others (identifier_at (on_disk r disk) 2))) && true))) (t 1)
      ∙ ap (λ a. (is_clear r 0 && not (is_among others (identifier_at r 0))) && ((is_clear r 1 && not (is_among others (identifier_at r 1))) && (a && true))) (t 2)

  same_rule : recognition_holds (on_disk r disk) ≡ recognition_holds r
  unfolding recognition_holds
  same_rule = ap (λ b. not b || is_recognised (identifiers (on_disk r disk))) same_binds ∙ ap (λ names. not (binds r) || is_recognised names) same_identifiers

-- where the rule is broken the first three slots are clear
bound : (r : Recognition) → recognition_holds r ≡ false → binds r ≡ true
unfolding recognition_holds
bound r e = by (binds r) e
  where
    by : (b : Bool) → (not b || is_recognised (identifiers r)) ≡ false → b ≡ true
    by true e = refl
    by false e = sym e

abbrev test : Recognition → ℕ → Bool
test r i = is_clear r i && not (is_among others (identifier_at r i))

three : (r : Recognition) → binds r ≡ true → (is_clear r 0 ≡ true) × ((is_clear r 1 ≡ true) × (is_clear r 2 ≡ true))
unfolding binds
three r e =
    let a : (test r 0 ≡ true) × ((test r 1 && (test r 2 && true)) ≡ true) = and_parts (test r 0) (test r 1 && (test r 2 && true)) e in
    let b : (test r 1 ≡ true) × ((test r 2 && true) ≡ true) = and_parts (test r 1) (test r 2 && true) a.1 in
    let c : (test r 2 ≡ true) × (true ≡ true) = and_parts (test r 2) true b.1 in (
      (and_parts (is_clear r 0) (not (is_among others (identifier_at r 0))) a.0).0,
      (
        (and_parts (is_clear r 1) (not (is_among others (identifier_at r 1))) b.0).0,
        (and_parts (is_clear r 2) (not (is_among others (identifier_at r 2))) c.0).0,
      ),
    )

-- the second and the third slot follow on the first
second_at : (size : ℕ) → slot_at size 1 ≡ slot_at size 0 + slot_blocks size
unfolding slot_at
second_at size = omega arith

third_at : (size : ℕ) → slot_at size 2 ≡ slot_at size 0 + slot_blocks size + slot_blocks size
unfolding slot_at
third_at size = omega arith

abbrev zeros : ℕ → List ℕ
zeros n = replicate n 0

slot_long : (size : ℕ) (name : List ℕ) → 7 ≤ size → length name ≡ 5 → (j : ℕ) → length (slot_block size name j) ≡ size
slot_long size name big five zero =
    let rest : length (zeros (size - 7)) ≡ size - 7 = length-replicate {A = ℕ} (size - 7) 0 in
    let all : length (name ++ (1 ∷ zeros (size - 7))) ≡ length name + length (1 ∷ zeros (size - 7)) = length-append name (1 ∷ zeros (size - 7)) in
    omega (arith, rest, all, five)
slot_long size name big five (suc j) = length-replicate {A = ℕ} size 0

module _ (r : Recognition) (partition : List ℕ) where
  abbrev middle : List ℕ
  middle = volume_name (wanted_digit partition)

  abbrev written : List (ℕ × List ℕ)
  written = slot_edits r 0 (codes "BEA01") ++ (slot_edits r 1 middle ++ slot_edits r 2 (codes "TEA01"))

  edits_broken : recognition_holds r ≡ false → recognition_edits r partition ≡ written
  unfolding recognition_edits
  edits_broken e = ap (λ b. cond b [] written) e

  edits_none : recognition_holds r ≡ true → recognition_edits r partition ≡ []
  unfolding recognition_edits
  edits_none e = ap (λ b. cond b [] written) e

  middle_five : length middle ≡ 5
  middle_five = by (wanted_digit partition == 2)
    where
      by : (b : Bool) → length (cond b (codes "NSR02") (codes "NSR03")) ≡ 5
      by true = refl
      by false = refl

  -- after it each of the three slots begins with its name
  module _ (disk : ℕ → List ℕ) (size_is : is_size r.size ≡ true) (clear : (is_clear r 0 ≡ true) × ((is_clear r 1 ≡ true) × (is_clear r 2 ≡ true)))
      (puts : (n : ℕ) → is_untaken r n ≡ true → disk n ≡ look n written (r.disk n)) where
    abbrev many : ℕ
    many = slot_blocks r.size

    begins : (i : ℕ) → is_clear r i ≡ true → disk (slot_at r.size i) ≡ look (slot_at r.size i) written (r.disk (slot_at r.size i))
    begins i e =
        let z : slot_at r.size i + 0 ≡ slot_at r.size i = omega arith in
        puts (slot_at r.size i) (ap (λ n. is_untaken r n) (sym z) ∙ clear_sector r i 0 e (some_blocks r.size size_is))

    -- a row of another slot does not reach it
    past_row : (i k : ℕ) (name old : List ℕ) → ((j : ℕ) → j < many → slot_at r.size i ≡ slot_at r.size k + j → ⊥)
        → look (slot_at r.size i) (slot_edits r k name) old ≡ old
    unfolding slot_edits
    past_row i k name old away =
        row_past (slot_at r.size k) (slot_block r.size name) (slot_at r.size i) 0 many old (λ j l h. away j (omega arith))

    in_row : (i : ℕ) (name old : List ℕ) → look (slot_at r.size i) (slot_edits r i name) old ≡ slot_block r.size name 0
    unfolding slot_edits
    in_row i name old =
        let z : slot_at r.size i ≡ slot_at r.size i + 0 = omega arith in
        ap (λ n. look n (slot_edits r i name) old) z ∙ row_here (slot_at r.size i) (slot_block r.size name) 0 0 many old (omega arith) (omega (arith, some_blocks r.size size_is))

    first_block : disk (slot_at r.size 0) ≡ slot_block r.size (codes "BEA01") 0
    first_block =
        begins 0 clear.0 ∙ look_both (slot_at r.size 0) (slot_edits r 0 (codes "BEA01")) (slot_edits r 1 middle ++ slot_edits r 2 (codes "TEA01")) (r.disk (slot_at r.size 0))
        ∙ in_row 0 (codes "BEA01") (look (slot_at r.size 0) (slot_edits r 1 middle ++ slot_edits r 2 (codes "TEA01")) (r.disk (slot_at r.size 0)))

    second_block : disk (slot_at r.size 1) ≡ slot_block r.size middle 0
    second_block =
        let old : List ℕ = r.disk (slot_at r.size 1) in
        begins 1 clear.1.0 ∙ look_both (slot_at r.size 1) (slot_edits r 0 (codes "BEA01")) (slot_edits r 1 middle ++ slot_edits r 2 (codes "TEA01")) (r.disk (slot_at r.size 1))
        ∙ past_row 1 0 (codes "BEA01") (look (slot_at r.size 1) (slot_edits r 1 middle ++ slot_edits r 2 (codes "TEA01")) (r.disk (slot_at r.size 1)))
        (λ j l e. omega (arith, e, second_at r.size))
        ∙ look_both (slot_at r.size 1) (slot_edits r 1 middle) (slot_edits r 2 (codes "TEA01")) (r.disk (slot_at r.size 1))
        ∙ in_row 1 middle (look (slot_at r.size 1) (slot_edits r 2 (codes "TEA01")) (r.disk (slot_at r.size 1)))

    third_block : disk (slot_at r.size 2) ≡ slot_block r.size (codes "TEA01") 0
    third_block =
        begins 2 clear.1.1 ∙ look_both (slot_at r.size 2) (slot_edits r 0 (codes "BEA01")) (slot_edits r 1 middle ++ slot_edits r 2 (codes "TEA01")) (r.disk (slot_at r.size 2))
        ∙ past_row 2 0 (codes "BEA01") (look (slot_at r.size 2) (slot_edits r 1 middle ++ slot_edits r 2 (codes "TEA01")) (r.disk (slot_at r.size 2)))
        (λ j l e. omega (arith, e, third_at r.size))
        ∙ look_both (slot_at r.size 2) (slot_edits r 1 middle) (slot_edits r 2 (codes "TEA01")) (r.disk (slot_at r.size 2))
        ∙ past_row 2 1 middle (look (slot_at r.size 2) (slot_edits r 2 (codes "TEA01")) (r.disk (slot_at r.size 2)))
        (λ j l e. omega (arith, e, third_at r.size, second_at r.size))
        ∙ in_row 2 (codes "TEA01") (r.disk (slot_at r.size 2))

    new_name : (i : ℕ) (block : List ℕ) → disk (slot_at r.size i) ≡ block → identifier_at (on_disk r disk) i ≡ take 5 (drop 1 block)
    unfolding identifier_at
    new_name i block e = ap (λ b. take 5 (drop 1 b)) e

    passes : (i : ℕ) (name : List ℕ) → is_clear r i ≡ true → identifier_at (on_disk r disk) i ≡ name → is_among known name ≡ true
        → (is_clear (on_disk r disk) i && is_among known (identifier_at (on_disk r disk) i)) ≡ true
    passes i name e f g = and_from (is_clear (on_disk r disk) i) (is_among known (identifier_at (on_disk r disk) i)) (same_clear r disk i ∙ e) (ap (is_among known) f ∙ g)

    -- so the names that are read begin with these three
    front_of : (n : ℕ) (p : ℕ → Bool) → p 0 ≡ true → p 1 ≡ true → p 2 ≡ true
        → take_while p (range_with_len 0 (suc (suc (suc n)))) ≡ 0 ∷ (1 ∷ (2 ∷ take_while p (range_with_len 3 n)))
    front_of n p a b c =
        take_while-cons p 0 (range_with_len 1 (suc (suc n))) ∙ ap (λ t. cond t (0 ∷ take_while p (range_with_len 1 (suc (suc n)))) []) a
        ∙ ap (λ xs. 0 ∷ xs) (take_while-cons p 1 (range_with_len 2 (suc n)) ∙ ap (λ t. cond t (1 ∷ take_while p (range_with_len 2 (suc n))) []) b)
        ∙ ap (λ xs. 0 ∷ (1 ∷ xs)) (take_while-cons p 2 (range_with_len 3 n) ∙ ap (λ t. cond t (2 ∷ take_while p (range_with_len 3 n)) []) c)

    abbrev new_test : ℕ → Bool
    new_test i = is_clear (on_disk r disk) i && is_among known (identifier_at (on_disk r disk) i)

    middle_known : is_among known middle ≡ true
    middle_known = by (wanted_digit partition == 2)
      where
        by : (b : Bool) → is_among known (cond b (codes "NSR02") (codes "NSR03")) ≡ true
        by true = refl
        by false = refl

    name_0 : identifier_at (on_disk r disk) 0 ≡ codes "BEA01"
    name_0 = new_name 0 (slot_block r.size (codes "BEA01") 0) first_block

    name_1 : identifier_at (on_disk r disk) 1 ≡ middle
    name_1 = new_name 1 (slot_block r.size middle 0) second_block ∙ take_at middle (1 ∷ replicate (r.size - 7) 0) 5 middle_five

    name_2 : identifier_at (on_disk r disk) 2 ≡ codes "TEA01"
    name_2 = new_name 2 (slot_block r.size (codes "TEA01") 0) third_block

    abbrev later : List (List ℕ)
    later = map (identifier_at (on_disk r disk)) (take_while new_test (range_with_len 3 61))

    names_read : identifiers (on_disk r disk) ≡ codes "BEA01" ∷ (middle ∷ (codes "TEA01" ∷ later))
    unfolding identifiers
    names_read =
        ap (map (identifier_at (on_disk r disk))) (front_of 61 new_test (passes 0 (codes "BEA01") clear.0 name_0 refl) (passes 1 middle clear.1.0 name_1 middle_known) (passes 2 (codes "TEA01") clear.1.1 name_2 refl))
        ∙ ap (λ n. n ∷ (identifier_at (on_disk r disk) 1 ∷ (identifier_at (on_disk r disk) 2 ∷ later))) name_0
        ∙ ap (λ n. codes "BEA01" ∷ (n ∷ (identifier_at (on_disk r disk) 2 ∷ later))) name_1
        ∙ ap (λ n. codes "BEA01" ∷ (middle ∷ (n ∷ later))) name_2

    recognised : is_recognised (codes "BEA01" ∷ (middle ∷ (codes "TEA01" ∷ later))) ≡ true
    unfolding is_recognised
    recognised = by (wanted_digit partition == 2)
      where
        by : (b : Bool) → is_recognised (codes "BEA01" ∷ (cond b (codes "NSR02") (codes "NSR03") ∷ (codes "TEA01" ∷ later))) ≡ true
        by true = refl
        by false = refl

    mended_holds : recognition_holds (on_disk r disk) ≡ true
    unfolding recognition_holds
    mended_holds = either (binds (on_disk r disk)) (is_recognised (identifiers (on_disk r disk))) (ap is_recognised names_read ∙ recognised)
      where
        either : (b c : Bool) → c ≡ true → (not b || c) ≡ true
        either true c e = e
        either false c e = refl

-- the rule holds after the mend
pub recognition_mended : (r : Recognition) (partition : List ℕ) (disk : ℕ → List ℕ) → is_size r.size ≡ true
    → ((n : ℕ) → is_untaken r n ≡ true → disk n ≡ look n (recognition_edits r partition) (r.disk n)) → recognition_holds (on_disk r disk) ≡ true
unfolding look
recognition_mended r partition disk size puts = by (recognition_holds r) refl
  where
    stays : recognition_holds r ≡ true → (i : ℕ) → is_clear r i ≡ true → disk (slot_at r.size i) ≡ r.disk (slot_at r.size i)
    stays h i e =
        let z : slot_at r.size i + 0 ≡ slot_at r.size i = omega arith in
        puts (slot_at r.size i) (ap (λ n. is_untaken r n) (sym z) ∙ clear_sector r i 0 e (some_blocks r.size size))
        ∙ ap (λ edits. look (slot_at r.size i) edits (r.disk (slot_at r.size i))) (edits_none r partition h)

    by : (b : Bool) → recognition_holds r ≡ b → recognition_holds (on_disk r disk) ≡ true
    by true h = same_rule r disk (stays h) ∙ h
    by false h =
        mended_holds r partition disk size (three r (bound r h))
        (λ n u. puts n u ∙ ap (λ edits. look n edits (r.disk n)) (edits_broken r partition h))

big_enough : (size : ℕ) → is_size size ≡ true → 7 ≤ size
unfolding is_size
big_enough size e = first (or_cases (size == 512) ((size == 1024) || ((size == 2048) || (size == 4096))) e)
  where
    third : ((size == 2048) ≡ true) ⊎ ((size == 4096) ≡ true) → 7 ≤ size
    third (inl h) = omega (arith, eqb-true _ _ h)
    third (inr h) = omega (arith, eqb-true _ _ h)

    second : ((size == 1024) ≡ true) ⊎ (((size == 2048) || (size == 4096)) ≡ true) → 7 ≤ size
    second (inl h) = omega (arith, eqb-true _ _ h)
    second (inr h) = third (or_cases (size == 2048) (size == 4096) h)

    first : ((size == 512) ≡ true) ⊎ (((size == 1024) || ((size == 2048) || (size == 4096))) ≡ true) → 7 ≤ size
    first (inl h) = omega (arith, eqb-true _ _ h)
    first (inr h) = second (or_cases (size == 1024) ((size == 2048) || (size == 4096)) h)

-- one slot's blocks are whole and in the image
slot_fits : (r : Recognition) (i : ℕ) (name : List ℕ) → is_size r.size ≡ true → is_clear r i ≡ true → length name ≡ 5
    → are_edits r.size r.blocks (slot_edits r i name) ≡ true
unfolding slot_edits
slot_fits r i name size clear five =
    row_fits r.size r.blocks (slot_at r.size i) (slot_block r.size name) 0 (slot_blocks r.size) (slot_long r.size name (big_enough r.size size) five)
    (omega (arith, clear_room r i clear))

slot_untaken : (r : Recognition) (i : ℕ) (name : List ℕ) (n : ℕ) → is_clear r i ≡ true → is_off n (slot_edits r i name) ≡ false → is_untaken r n ≡ true
unfolding slot_edits
slot_untaken r i name n clear off =
    on_row (λ k. is_untaken r k) (slot_at r.size i) (slot_block r.size name) n 0 (slot_blocks r.size) (λ j l. clear_sector r i j clear (omega (arith, l))) off

pub recognition_fits : (r : Recognition) (partition : List ℕ) → is_size r.size ≡ true → are_edits r.size r.blocks (recognition_edits r partition) ≡ true
unfolding are_edits
recognition_fits r partition size = by (recognition_holds r) refl
  where
    by : (b : Bool) → recognition_holds r ≡ b → are_edits r.size r.blocks (recognition_edits r partition) ≡ true
    by true h = ap (are_edits r.size r.blocks) (edits_none r partition h)
    by false h =
        let clear : (is_clear r 0 ≡ true) × ((is_clear r 1 ≡ true) × (is_clear r 2 ≡ true)) = three r (bound r h) in
        ap (are_edits r.size r.blocks) (edits_broken r partition h)
        ∙ fit_both r.size r.blocks (slot_edits r 0 (codes "BEA01")) (slot_edits r 1 (volume_name (wanted_digit partition)) ++ slot_edits r 2 (codes "TEA01"))
        (slot_fits r 0 (codes "BEA01") size clear.0 refl)
        (fit_both r.size r.blocks (slot_edits r 1 (volume_name (wanted_digit partition))) (slot_edits r 2 (codes "TEA01"))
        (slot_fits r 1 (volume_name (wanted_digit partition)) size clear.1.0 (middle_five r partition))
        (slot_fits r 2 (codes "TEA01") size clear.1.1 refl))

off_both : (n : ℕ) (xs ys : List (ℕ × List ℕ)) → is_off n (xs ++ ys) ≡ (is_off n xs && is_off n ys)
unfolding is_off
off_both n xs ys = list_all-append (λ edit. not (edit.0 == n)) xs ys

pub recognition_untaken : (r : Recognition) (partition : List ℕ) (n : ℕ) → is_size r.size ≡ true → is_off n (recognition_edits r partition) ≡ false
    → is_untaken r n ≡ true
unfolding is_off
recognition_untaken r partition n size off = by (recognition_holds r) refl
  where
    three_of : (is_clear r 0 ≡ true) × ((is_clear r 1 ≡ true) × (is_clear r 2 ≡ true))
        → (is_off n (slot_edits r 0 (codes "BEA01")) ≡ false) ⊎ (is_off n (slot_edits r 1 (volume_name (wanted_digit partition)) ++ slot_edits r 2 (codes "TEA01")) ≡ false)
        → is_untaken r n ≡ true
    three_of clear (inl e) = slot_untaken r 0 (codes "BEA01") n clear.0 e
    three_of clear (inr e) = two_of (and_cases _ _ (sym (off_both n (slot_edits r 1 (volume_name (wanted_digit partition))) (slot_edits r 2 (codes "TEA01"))) ∙ e))
      where
        two_of : (is_off n (slot_edits r 1 (volume_name (wanted_digit partition))) ≡ false) ⊎ (is_off n (slot_edits r 2 (codes "TEA01")) ≡ false) → is_untaken r n ≡ true
        two_of (inl e) = slot_untaken r 1 (volume_name (wanted_digit partition)) n clear.1.0 e
        two_of (inr e) = slot_untaken r 2 (codes "TEA01") n clear.1.1 e

    by : (b : Bool) → recognition_holds r ≡ b → is_untaken r n ≡ true
    by true h = absurd (false≢true (sym off ∙ ap (is_off n) (edits_none r partition h)))
    by false h =
        three_of (three r (bound r h))
        (and_cases _ _ (sym (off_both n (slot_edits r 0 (codes "BEA01")) (slot_edits r 1 (volume_name (wanted_digit partition)) ++ slot_edits r 2 (codes "TEA01")))
        ∙ sym (ap (is_off n) (edits_broken r partition h)) ∙ off))
