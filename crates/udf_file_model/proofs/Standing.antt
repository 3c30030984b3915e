-- What stood earlier, after one more run or extent; how many blocks are new.
use Rattle.std.proofs.Common.{◌≡◌, ℕ, zero, suc, Bool, true, false, cond, not, ◌&&◌, ◌||◌, ◌+◌, ◌-◌, ◌<◌, ◌≤◌, ◌==◌, nat_lt, nat_le, List, [], ◌∷◌, ◌++◌, arith, sym, ◌∙◌, ap, refl}
use Rattle.std.specs.List.{list_any}
use Rattle.std.proofs.lemmas.Bool.Decides.{nat_tests}
use Rattle.udf_field.specs.declared.address.Addr.{Addr}
use Rattle.udf_file_model.specs.Address.{addr, same_addr}
use Rattle.udf_file_model.specs.Descriptors.{Descriptor}
use Rattle.udf_file_model.specs.Front.{Rules, Past, is_hole, blocks_for, covers, stood, is_new, new_blocks, with_run, with_extent, nothing_yet}

any_push : {X : Type 0} (test : X → Bool) (xs : List X) (x : X) → list_any test (xs ++ x ∷ []) ≡ (list_any test xs || test x)
any_push test [] x = or_false (test x)
  where
    or_false : (b : Bool) → (b || false) ≡ (false || b)
    or_false true = refl
    or_false false = refl
any_push test (y ∷ ys) x = ap (λ b. test y || b) (any_push test ys x) ∙ sym (or_assoc (test y) (list_any test ys) (test x))
  where
    or_assoc : (a b c : Bool) → ((a || b) || c) ≡ (a || (b || c))
    or_assoc true b c = refl
    or_assoc false b c = refl

last_of : (a b c d : Bool) → (a || (b || (c || d))) ≡ ((a || (b || c)) || d)
last_of true b c d = refl
last_of false true c d = refl
last_of false false c d = refl

middle_of : (a b c d : Bool) → (a || ((b || d) || c)) ≡ ((a || (b || c)) || d)
middle_of true b c d = refl
middle_of false true c d = refl
middle_of false false true true = refl
middle_of false false true false = refl
middle_of false false false true = refl
middle_of false false false false = refl

pub stood_run : (size : ℕ) (own : Addr) (past : Past) (d : Descriptor) (a : Addr) → stood size own (with_run past d) a ≡ (stood size own past a || covers size a d)
unfolding stood
stood_run size own past d a =
    ap (λ b. same_addr own a || (list_any (same_addr a) past.extents || b)) (any_push (covers size a) past.runs d)
    ∙ last_of (same_addr own a) (list_any (same_addr a) past.extents) (list_any (covers size a) past.runs) (covers size a d)

pub stood_extent : (size : ℕ) (own : Addr) (past : Past) (x a : Addr) → stood size own (with_extent past x) a ≡ (stood size own past a || same_addr a x)
unfolding stood
stood_extent size own past x a =
    ap (λ b. same_addr own a || (b || list_any (covers size a) past.runs)) (any_push (same_addr a) past.extents x)
    ∙ middle_of (same_addr own a) (list_any (same_addr a) past.extents) (list_any (covers size a) past.runs) (same_addr a x)

pub stood_first : (size : ℕ) (own a : Addr) → stood size own nothing_yet a ≡ same_addr own a
unfolding stood
stood_first size own a = or_false (same_addr own a)
  where
    or_false : (b : Bool) → (b || (false || false)) ≡ b
    or_false true = refl
    or_false false = refl

hole_by : (b c : Bool) → b ≡ true → (not b && c) ≡ false
hole_by true c e = refl
hole_by false c e = absurd (cc)

pub stood_hole : (size : ℕ) (own : Addr) (past : Past) (d : Descriptor) (a : Addr) → is_hole d ≡ true → stood size own (with_run past d) a ≡ stood size own past a
unfolding covers
stood_hole size own past d a h =
    stood_run size own past d a
    ∙ ap (λ b. stood size own past a || b) (hole_by (is_hole d) ((d.at.part == a.part) && (nat_le d.at.block a.block && nat_lt a.block (d.at.block + blocks_for size d.length))) h)
    ∙ or_false (stood size own past a)
  where
    or_false : (b : Bool) → (b || false) ≡ b
    or_false true = refl
    or_false false = refl

-- what the tests say
pub covers_means : (size : ℕ) (a : Addr) (d : Descriptor) → covers size a d ≡ true
    → (d.at.part ≡ a.part) × (d.at.block ≤ a.block) × (a.block < d.at.block + blocks_for size d.length)
unfolding covers
covers_means size a d h = split (not (is_hole d)) (d.at.part == a.part) (nat_le d.at.block a.block) (nat_lt a.block (d.at.block + blocks_for size d.length)) refl refl refl h
  where
    split : (x y z w : Bool) → (d.at.part == a.part) ≡ y → nat_le d.at.block a.block ≡ z → nat_lt a.block (d.at.block + blocks_for size d.length) ≡ w
        → (x && (y && (z && w))) ≡ true → (d.at.part ≡ a.part) × (d.at.block ≤ a.block) × (a.block < d.at.block + blocks_for size d.length)
    split true true true true e f g h = (grind (arith, nat_tests), grind (arith, nat_tests), grind (arith, nat_tests))
    split true true true false e f g h = absurd (cc)
    split true true false w e f g h = absurd (cc)
    split true false z w e f g h = absurd (cc)
    split false y z w e f g h = absurd (cc)

pub covers_not : (size : ℕ) (a : Addr) (d : Descriptor) → is_hole d ≡ false → covers size a d ≡ false
    → d.at.part ≡ a.part → d.at.block ≤ a.block → a.block < d.at.block + blocks_for size d.length → ⊥
unfolding covers
covers_not size a d hole h p l u = split (is_hole d) (d.at.part == a.part) (nat_le d.at.block a.block) (nat_lt a.block (d.at.block + blocks_for size d.length)) hole refl refl refl h
  where
    split : (x y z w : Bool) → x ≡ false → (d.at.part == a.part) ≡ y → nat_le d.at.block a.block ≡ z → nat_lt a.block (d.at.block + blocks_for size d.length) ≡ w
        → (not x && (y && (z && w))) ≡ false → ⊥
    split true y z w c e f g h = absurd (cc)
    split false true true true c e f g h = absurd (cc)
    split false true true false c e f g h = absurd (grind (arith, nat_tests))
    split false true false w c e f g h = absurd (grind (arith, nat_tests))
    split false false z w c e f g h = absurd (grind (arith, nat_tests))

pub same_means : (a b : Addr) → same_addr a b ≡ true → (a.part ≡ b.part) × (a.block ≡ b.block)
same_means a b h = split (a.part == b.part) (a.block == b.block) refl refl h
  where
    split : (x y : Bool) → (a.part == b.part) ≡ x → (a.block == b.block) ≡ y → (x && y) ≡ true → (a.part ≡ b.part) × (a.block ≡ b.block)
    split true true e f h = (grind (arith, nat_tests), grind (arith, nat_tests))
    split true false e f h = absurd (cc)
    split false y e f h = absurd (cc)

pub same_not : (a b : Addr) → same_addr a b ≡ false → a.part ≡ b.part → a.block ≡ b.block → ⊥
same_not a b h p q = split (a.part == b.part) (a.block == b.block) refl refl h
  where
    split : (x y : Bool) → (a.part == b.part) ≡ x → (a.block == b.block) ≡ y → (x && y) ≡ false → ⊥
    split true true e f h = absurd (cc)
    split true false e f h = absurd (grind (arith, nat_tests))
    split false y e f h = absurd (grind (arith, nat_tests))

-- so many blocks from an address on are new
pub new_each : (r : Rules) (past : Past) (part block n k : ℕ) → k < new_blocks r past part block n → is_new r past (addr part (block + k)) ≡ true
unfolding new_blocks
new_each r past part block zero k h = absurd (omega arith)
new_each r past part block (suc n) k h = choose (is_new r past (addr part block)) refl k h (λ j. new_each r past part (block + 1) n j)
  where
    same : (x : ℕ) → x + 0 ≡ x
    same x = omega arith

    choose : (b : Bool) → is_new r past (addr part block) ≡ b → (k : ℕ) → k < cond b (suc (new_blocks r past part (block + 1) n)) 0
        → ((j : ℕ) → j < new_blocks r past part (block + 1) n → is_new r past (addr part (block + 1 + j)) ≡ true)
        → is_new r past (addr part (block + k)) ≡ true
    choose true e zero h on = ap (λ i. is_new r past (addr part i)) (same block) ∙ e
    choose true e (suc k) h on =
        let same : block + suc k ≡ block + 1 + k = omega arith in
        ap (λ i. is_new r past (addr part i)) same ∙ on k (omega arith)
    choose false e k h on = absurd (omega arith)

pub new_few : (r : Rules) (past : Past) (part block n : ℕ) → new_blocks r past part block n ≤ n
unfolding new_blocks
new_few r past part block zero = omega arith
new_few r past part block (suc n) = choose (is_new r past (addr part block)) (new_few r past part (block + 1) n)
  where
    choose : (b : Bool) → new_blocks r past part (block + 1) n ≤ n → cond b (suc (new_blocks r past part (block + 1) n)) 0 ≤ suc n
    choose true on = omega arith
    choose false on = omega arith

new_step : (r : Rules) (past : Past) (part block n : ℕ) (b : Bool) → is_new r past (addr part block) ≡ b
    → new_blocks r past part block (suc n) ≡ cond b (suc (new_blocks r past part (block + 1) n)) 0
unfolding new_blocks
new_step r past part block n b e = ap (λ t. cond t (suc (new_blocks r past part (block + 1) n)) 0) e

-- a walk over the blocks: i of them are new
pub record Walked (r : Rules) (past : Past) (part block n i : ℕ) : Type 0 where
  pub left : i + new_blocks r past part (block + i) (n - i) ≡ new_blocks r past part block n

pub walked_none : (r : Rules) (past : Past) (part block n : ℕ) → Walked r past part block n 0
walked_none r past part block n =
    let b : block + 0 ≡ block = omega arith in let m : n - 0 ≡ n = omega arith in
    let e : 0 + new_blocks r past part (block + 0) (n - 0) ≡ new_blocks r past part (block + 0) (n - 0) = omega arith in
    record { left = e ∙ ap (λ x. new_blocks r past part x (n - 0)) b ∙ ap (λ x. new_blocks r past part block x) m }

walked_step : (r : Rules) (past : Past) (part block n i : ℕ) (b : Bool) → i < n → is_new r past (addr part (block + i)) ≡ b
    → new_blocks r past part (block + i) (n - i) ≡ cond b (suc (new_blocks r past part (block + (i + 1)) (n - (i + 1)))) 0
walked_step r past part block n i b h e =
    let m : n - i ≡ suc (n - (i + 1)) = omega arith in
    let s : block + i + 1 ≡ block + (i + 1) = omega arith in
    ap (λ x. new_blocks r past part (block + i) x) m ∙ new_step r past part (block + i) (n - (i + 1)) b e
    ∙ ap (λ x. cond b (suc (new_blocks r past part x (n - (i + 1)))) 0) s

pub walked_more : (r : Rules) (past : Past) (part block n i : ℕ) → i < n → Walked r past part block n i
    → is_new r past (addr part (block + i)) ≡ true → Walked r past part block n (i + 1)
walked_more r past part block n i h w e =
    let s = walked_step r past part block n i true h e in record { left = omega (arith, w.left, s) }

pub walked_stop : (r : Rules) (past : Past) (part block n i : ℕ) → i < n → Walked r past part block n i
    → is_new r past (addr part (block + i)) ≡ false → i ≡ new_blocks r past part block n
walked_stop r past part block n i h w e =
    let s = walked_step r past part block n i false h e in omega (arith, w.left, s)

pub walked_all : (r : Rules) (past : Past) (part block n i : ℕ) → i ≡ n → Walked r past part block n i → i ≡ new_blocks r past part block n
unfolding new_blocks
walked_all r past part block n i e w =
    let m : n - i ≡ 0 = omega arith in
    let z = ap (λ x. new_blocks r past part (block + i) x) m in
    omega (arith, w.left, z)

-- what a new block is
pub new_means : (r : Rules) (past : Past) (a : Addr) → is_new r past a ≡ true → (r.placed a ≡ true) × (stood r.size r.own past a ≡ false)
unfolding is_new
new_means r past a h = split (r.placed a) (stood r.size r.own past a) h
  where
    split : (x y : Bool) → (x && not y) ≡ true → (x ≡ true) × (y ≡ false)
    split true false h = (refl, refl)
    split true true h = absurd (cc)
    split false y h = absurd (cc)
