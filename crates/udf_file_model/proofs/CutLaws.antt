-- What a cut of a good list leaves is good, by the information length to which it is cut.
use Rattle.std.proofs.Common.{◌≡◌, ℕ, zero, suc, Bool, true, false, cond, not, ◌&&◌, ◌||◌, ◌+◌, ◌-◌, ◌^◌, ◌<◌, ◌≤◌, ◌==◌, ◌⊎◌, nat_lt, inl, inr, List, [], ◌∷◌, ◌++◌, arith, ◌∙◌, ap, refl}
use Rattle.std.specs.List.{list_any}
use Rattle.std.proofs.lemmas.Bool.Decides.{nat_tests}
use Rattle.std.proofs.Math.Nat.{le-div_iff_mul-le, div-mul-le_self}
use Rattle.udf_field.specs.declared.address.Addr.{Addr}
use Rattle.udf_file_model.specs.Address.{addr}
use Rattle.udf_file_model.specs.Descriptors.{Descriptor}
use Rattle.udf_file_model.specs.Pieces.{Piece, Extent, Blocks, bytes_in, blocks_each}
use Rattle.udf_file_model.specs.Front.{Rules, Past, is_hole, is_part, blocks_for, is_new, new_blocks, new_in, may_come, run_passes, run_front, extent_passes, with_run, with_extent, good_front, is_good}
use Rattle.udf_file_model.specs.Cut.{cut_pieces, to_part, with_information, HasRoom}

pub both : (a b : Bool) → (a && b) ≡ true → (a ≡ true) × (b ≡ true)
both true true h = (refl, refl)
both true false h = absurd (cc)
both false b h = absurd (cc)

and_true : (a b : Bool) → a ≡ true → b ≡ true → (a && b) ≡ true
and_true true b e f = f
and_true false b e f = e

-- a list of which nothing fails is its own good front
pub good_all : (r : Rules) (whole : Addr → Bool) (past : Past) (ps : List Piece) → is_good r whole past ps ≡ true → good_front r whole past ps ≡ ps
unfolding is_good good_front
good_all r whole past [] h = refl
good_all r whole past (Extent x ∷ rest) h =
    let t = both (extent_passes r whole past x) (is_good r whole (with_extent past x) rest) h in
    ap (λ b. cond b (Extent x ∷ good_front r whole (with_extent past x) rest) []) t.0 ∙ ap (λ l. Extent x ∷ l) (good_all r whole (with_extent past x) rest t.1)
good_all r whole past (Blocks d ∷ rest) h =
    let t = both (run_passes r past d) (is_good r whole (with_run past d) rest) h in
    ap (λ b. cond b (Blocks d ∷ good_front r whole (with_run past d) rest) (blocks_each (run_front r past d))) t.0 ∙ ap (λ l. Blocks d ∷ l) (good_all r whole (with_run past d) rest t.1)

-- what a descriptor of which nothing fails says
pub record Comes (r : Rules) (past : Past) (d : Descriptor) : Type 0 where
  pub late : list_any (is_part r.size) past.runs ≡ true → r.information ≤ bytes_in past.runs
  pub small : bytes_in past.runs + d.length < 2 ^ 63
  pub kept : not (r.directory && not (d.kind == 0)) ≡ true

pub comes : (r : Rules) (past : Past) (d : Descriptor) → may_come r past d ≡ true → Comes r past d
unfolding may_come
comes r past d h =
    let t = both (not (list_any (is_part r.size) past.runs && nat_lt (bytes_in past.runs) r.information)) (nat_lt (bytes_in past.runs + d.length) (2 ^ 63) && not (r.directory && not (d.kind == 0))) h in
    let u = both (nat_lt (bytes_in past.runs + d.length) (2 ^ 63)) (not (r.directory && not (d.kind == 0))) t.1 in
    record { late = late_by (list_any (is_part r.size) past.runs) (nat_lt (bytes_in past.runs) r.information) refl t.0; small = less u.0; kept = u.1 }
  where
    less : nat_lt (bytes_in past.runs + d.length) (2 ^ 63) ≡ true → bytes_in past.runs + d.length < 2 ^ 63
    less e = grind (arith, nat_tests)

    late_by : (a b : Bool) → nat_lt (bytes_in past.runs) r.information ≡ b → not (a && b) ≡ true → a ≡ true → r.information ≤ bytes_in past.runs
    late_by true true e h f = absurd (cc)
    late_by true false e h f = grind (arith, nat_tests)
    late_by false b e h f = absurd (cc)

may_come_from : (r : Rules) (past : Past) (d : Descriptor) → Comes r past d → may_come r past d ≡ true
unfolding may_come
may_come_from r past d c =
    and_true (not (list_any (is_part r.size) past.runs && nat_lt (bytes_in past.runs) r.information)) (nat_lt (bytes_in past.runs + d.length) (2 ^ 63) && not (r.directory && not (d.kind == 0)))
    (late_by (list_any (is_part r.size) past.runs) refl) (and_true (nat_lt (bytes_in past.runs + d.length) (2 ^ 63)) (not (r.directory && not (d.kind == 0))) (less c.small) c.kept)
  where
    less : bytes_in past.runs + d.length < 2 ^ 63 → nat_lt (bytes_in past.runs + d.length) (2 ^ 63) ≡ true
    less e = grind (arith, nat_tests)

    not_less : (m n : ℕ) → n ≤ m → nat_lt m n ≡ false
    not_less m n h = grind (arith, nat_tests)

    late_by : (a : Bool) → list_any (is_part r.size) past.runs ≡ a → not (a && nat_lt (bytes_in past.runs) r.information) ≡ true
    late_by true e = ap not (not_less (bytes_in past.runs) r.information (c.late e))
    late_by false e = refl

-- fewer of so many new blocks are new
fewer_new : (r : Rules) (past : Past) (part block n m : ℕ) → m ≤ n → new_blocks r past part block n ≡ n → new_blocks r past part block m ≡ m
unfolding new_blocks
fewer_new r past part block n zero h e = refl
fewer_new r past part block zero (suc m) h e = absurd (omega arith)
fewer_new r past part block (suc n) (suc m) h e = choose (is_new r past (addr part block)) e (fewer_new r past part (block + 1) n m (omega arith))
  where
    choose : (b : Bool) → cond b (suc (new_blocks r past part (block + 1) n)) 0 ≡ suc n
        → (new_blocks r past part (block + 1) n ≡ n → new_blocks r past part (block + 1) m ≡ m) → cond b (suc (new_blocks r past part (block + 1) m)) 0 ≡ suc m
    choose true e on = ap suc (on (omega (arith, e)))
    choose false e on = absurd (omega (arith, e))

fewer_blocks : (size m n : ℕ) → 0 < size → m ≤ n → blocks_for size m ≤ blocks_for size n
fewer_blocks size m n some h =
    (le-div_iff_mul-le {k = size} {x = blocks_for size m} {y = n + (size - 1)} some).1 (omega (arith, div-mul-le_self (m + (size - 1)) size))

pub passes_by : (r : Rules) (past : Past) (d : Descriptor) → run_passes r past d ≡ true → Comes r past d × ((is_hole d ≡ true) ⊎ (new_in r past d ≡ blocks_for r.size d.length))
unfolding run_passes
passes_by r past d h =
    let t = both (may_come r past d) (is_hole d || (new_in r past d == blocks_for r.size d.length)) h in
    (comes r past d t.0, either (is_hole d) (new_in r past d == blocks_for r.size d.length) refl refl t.1)
  where
    either : (a b : Bool) → is_hole d ≡ a → (new_in r past d == blocks_for r.size d.length) ≡ b → (a || b) ≡ true
        → (is_hole d ≡ true) ⊎ (new_in r past d ≡ blocks_for r.size d.length)
    either true b e f h = inl e
    either false true e f h = inr (grind (arith, nat_tests))
    either false false e f h = absurd (cc)

pub passes_from : (r : Rules) (past : Past) (d : Descriptor) → Comes r past d → (is_hole d ≡ true) ⊎ (new_in r past d ≡ blocks_for r.size d.length) → run_passes r past d ≡ true
unfolding run_passes
passes_from r past d c how =
    and_true (may_come r past d) (is_hole d || (new_in r past d == blocks_for r.size d.length)) (may_come_from r past d c) (either how)
  where
    hole_or : (a b : Bool) → a ≡ true → (a || b) ≡ true
    hole_or true b e = refl
    hole_or false b e = absurd (cc)

    or_new : (a b : Bool) → b ≡ true → (a || b) ≡ true
    or_new true b e = refl
    or_new false b e = e

    either : (is_hole d ≡ true) ⊎ (new_in r past d ≡ blocks_for r.size d.length) → (is_hole d || (new_in r past d == blocks_for r.size d.length)) ≡ true
    either (inl e) = hole_or (is_hole d) (new_in r past d == blocks_for r.size d.length) e
    either (inr e) = or_new (is_hole d) (new_in r past d == blocks_for r.size d.length) (grind (arith, nat_tests))

-- by another information length the same blocks are new
new_by : (r : Rules) (n : ℕ) (past : Past) (part block m : ℕ) → new_blocks (with_information r n) past part block m ≡ new_blocks r past part block m
unfolding new_blocks is_new
new_by r n past part block zero = refl
new_by r n past part block (suc m) = ap (λ k. cond (is_new r past (addr part block)) (suc k) 0) (new_by r n past part (block + 1) m)

module _ (r : Rules) (whole : Addr → Bool) (some : 0 < r.size) where
  -- the first bytes of a descriptor pass
  front_passes : (n : ℕ) (past : Past) (d : Descriptor) (b : ℕ) → run_passes r past d ≡ true → b ≤ d.length
      → (list_any (is_part r.size) past.runs ≡ true → n ≤ bytes_in past.runs) → run_passes (with_information r n) past (record d { length = b }) ≡ true
  front_passes n past d b h less late =
      let p = passes_by r past d h in
      passes_from (with_information r n) past (record d { length = b })
      (record { late = late; small = omega (arith, p.0.small); kept = p.0.kept }) (how p.1)
    where
      how : (is_hole d ≡ true) ⊎ (new_in r past d ≡ blocks_for r.size d.length)
          → (is_hole d ≡ true) ⊎ (new_in (with_information r n) past (record d { length = b }) ≡ blocks_for r.size b)
      how (inl e) = inl e
      how (inr e) = inr (new_by r n past d.at.part d.at.block (blocks_for r.size b)
          ∙ fewer_new r past d.at.part d.at.block (blocks_for r.size d.length) (blocks_for r.size b) (fewer_blocks r.size b d.length some less) e)

bytes_push : (ds : List Descriptor) (d : Descriptor) → bytes_in (ds ++ d ∷ []) ≡ bytes_in ds + d.length
bytes_push [] d = omega arith
bytes_push (x ∷ ds) d = omega (arith, bytes_push ds d)

part_push : (size : ℕ) (ds : List Descriptor) (d : Descriptor) → list_any (is_part size) ds ≡ false → is_part size d ≡ false → list_any (is_part size) (ds ++ d ∷ []) ≡ false
part_push size [] d e f = both_false (is_part size d) false f refl
  where
    both_false : (a b : Bool) → a ≡ false → b ≡ false → (a || b) ≡ false
    both_false true b e f = e
    both_false false b e f = f
part_push size (x ∷ ds) d e f =
    let t = none (is_part size x) (list_any (is_part size) ds) e in
    both_false (is_part size x) (list_any (is_part size) (ds ++ d ∷ [])) t.0 (part_push size ds d t.1 f)
  where
    none : (a b : Bool) → (a || b) ≡ false → (a ≡ false) × (b ≡ false)
    none true b h = absurd (cc)
    none false b h = (refl, h)

    both_false : (a b : Bool) → a ≡ false → b ≡ false → (a || b) ≡ false
    both_false true b e f = e
    both_false false b e f = f

part_by : (size b : ℕ) (d : Descriptor) (rest : List Piece) → b ≤ to_part size (Blocks d ∷ rest) → d.length < b
    → (is_part size d ≡ false) × (b - d.length ≤ to_part size rest)
unfolding to_part
part_by size b d rest h l = choose (is_part size d) refl h
  where
    choose : (t : Bool) → is_part size d ≡ t → b ≤ cond t d.length (d.length + to_part size rest) → (is_part size d ≡ false) × (b - d.length ≤ to_part size rest)
    choose true e h = absurd (omega arith)
    choose false e h = (e, omega arith)

module _ (r : Rules) (whole : Addr → Bool) (some : 0 < r.size) (n : ℕ) where
  abbrev cut_to : Rules
  cut_to = with_information r n

  late_by : (past : Past) (d : Descriptor) (b : ℕ) (xs : List Piece) → Comes r past d → bytes_in past.runs + b ≡ n → HasRoom r past b xs
      → list_any (is_part r.size) past.runs ≡ true → n ≤ bytes_in past.runs
  late_by past d b xs c sum (inl room) e = omega (arith, c.late e)
  late_by past d b xs c sum (inr room) e = absurd (true_false (list_any (is_part r.size) past.runs) e room.0)
    where
      true_false : (t : Bool) → t ≡ true → t ≡ false → ⊥
      true_false t e f = absurd (cc)

  room_on : (past : Past) (d : Descriptor) (b : ℕ) (rest : List Piece) → d.length < b → HasRoom r past b (Blocks d ∷ rest) → HasRoom r (with_run past d) (b - d.length) rest
  room_on past d b rest l (inl room) = inl (omega (arith, bytes_push past.runs d))
  room_on past d b rest l (inr room) =
      let t = part_by r.size b d rest room.1 l in inr (part_push r.size past.runs d room.0 t.0, t.1)

  -- what a cut of a good list leaves is good
  pub cut_good : (xs : List Piece) (past : Past) (b : ℕ) → is_good r whole past xs ≡ true → bytes_in past.runs + b ≡ n → HasRoom r past b xs
      → is_good cut_to whole past (cut_pieces b xs) ≡ true
  unfolding cut_pieces is_good is_new to_part
  cut_good [] past b h sum room = refl
  cut_good (Extent x ∷ rest) past b h sum room =
      let t = both (extent_passes r whole past x) (is_good r whole (with_extent past x) rest) h in
      choose (b == 0) (and_true (extent_passes r whole past x) (is_good cut_to whole (with_extent past x) (cut_pieces b rest)) t.0 (cut_good rest (with_extent past x) b t.1 sum room))
    where
      choose : (z : Bool) → is_good cut_to whole past (Extent x ∷ cut_pieces b rest) ≡ true → is_good cut_to whole past (cond z [] (Extent x ∷ cut_pieces b rest)) ≡ true
      choose true on = refl
      choose false on = on
  cut_good (Blocks d ∷ rest) past b h sum room =
      let t = both (run_passes r past d) (is_good r whole (with_run past d) rest) h in
      let late = late_by past d b (Blocks d ∷ rest) (passes_by r past d t.0).0 sum room in
      choose (b == 0) (nat_lt d.length b) refl
      (λ l. and_true (run_passes cut_to past d) (is_good cut_to whole (with_run past d) (cut_pieces (b - d.length) rest))
      (front_passes r whole some n past d d.length t.0 (omega arith) late)
      (cut_good rest (with_run past d) (b - d.length) t.1 (omega (arith, bytes_push past.runs d)) (room_on past d b rest l room)))
      (λ l. and_true (run_passes cut_to past (record d { length = b })) true (front_passes r whole some n past d b t.0 l late) refl)
    where
      choose : (z w : Bool) → nat_lt d.length b ≡ w
          → (d.length < b → is_good cut_to whole past (Blocks d ∷ cut_pieces (b - d.length) rest) ≡ true)
          → (b ≤ d.length → is_good cut_to whole past (Blocks (record d { length = b }) ∷ []) ≡ true)
          → is_good cut_to whole past (cond z [] (cond w (Blocks d ∷ cut_pieces (b - d.length) rest) (Blocks (record d { length = b }) ∷ []))) ≡ true
      choose true w e f g = refl
      choose false true e f g = f (grind (arith, nat_tests))
      choose false false e f g = g (grind (arith, nat_tests))
