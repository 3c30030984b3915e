-- The addresses of a list are placed, and pairwise different.
use Rattle.std.proofs.Common.{◌≡◌, ℕ, zero, suc, Bool, true, false, cond, ◌||◌, ◌+◌, ◌<◌, ◌≤◌, ◌⊎◌, inl, inr, List, [], ◌∷◌, ◌++◌, map, arith, sym, ◌∙◌, ap, refl}
use Rattle.std.specs.Prelude.{All, AllPairs}
use Rattle.std.specs.List.{range_with_len}
use Rattle.udf_field.specs.declared.address.Addr.{Addr}
use Rattle.udf_file_model.specs.Address.{addr, same_addr}
use Rattle.udf_file_model.specs.Descriptors.{Descriptor}
use Rattle.udf_file_model.specs.Pieces.{Piece, Extent, Blocks}
use Rattle.udf_file_model.specs.Front.{Rules, Past, nothing_yet, with_run, with_extent, is_hole, blocks_for, covers, stood, is_new, new_in, extent_passes, run_passes, good_front, is_good}
use Rattle.udf_file_model.specs.Listing.{addresses, addresses_from}
use Rattle.udf_file_model.proofs.Standing.{stood_run, stood_extent, stood_first, covers_not, new_each, new_means}
use Rattle.udf_file_model.proofs.CutLaws.{both, passes_by}
use Rattle.udf_file_model.proofs.CutReads.{good_good}
use Rattle.udf_file_model.proofs.Trimming.{same_self}

abbrev Each : {A : Type 0} → (A → Type 0) → List A → Type 0
Each P [] = Unit {0}
Each P (x ∷ xs) = P x × Each P xs

abbrev Apart : {A : Type 0} → (A → A → Type 0) → List A → Type 0
Apart R [] = Unit {0}
Apart R (x ∷ xs) = Each (R x) xs × Apart R xs

each_append : {A : Type 0} (P : A → Type 0) (xs ys : List A) → Each P xs → Each P ys → Each P (xs ++ ys)
each_append P [] ys h g = g
each_append P (x ∷ xs) ys h g = (h.0, each_append P xs ys h.1 g)

each_more : {A : Type 0} (P Q : A → Type 0) (xs : List A) → ((x : A) → P x → Q x) → Each P xs → Each Q xs
each_more P Q [] f h = tt
each_more P Q (x ∷ xs) f h = (f x h.0, each_more P Q xs f h.1)

apart_append : {A : Type 0} (R : A → A → Type 0) (xs ys : List A) → Apart R xs → Apart R ys → Each (λ x. Each (R x) ys) xs → Apart R (xs ++ ys)
apart_append R [] ys h g c = g
apart_append R (x ∷ xs) ys h g c = (each_append (R x) xs ys h.0 c.0, apart_append R xs ys h.1 g c.1)

all_each : {A : Type 0} (P : A → Type 0) (xs : List A) → Each P xs → All P xs
all_each P [] h k d below = absurd (omega arith)
all_each P (x ∷ xs) h zero d below = h.0
all_each P (x ∷ xs) h (suc k) d below = all_each P xs h.1 k d (omega arith)

all_pairs : {A : Type 0} (R : A → A → Type 0) (xs : List A) → Apart R xs → AllPairs R xs
all_pairs R [] h i j d less below = absurd (omega arith)
all_pairs R (x ∷ xs) h zero zero d less below = absurd (omega arith)
all_pairs R (x ∷ xs) h zero (suc j) d less below = all_each (R x) xs h.0 j d (omega arith)
all_pairs R (x ∷ xs) h (suc i) zero d less below = absurd (omega arith)
all_pairs R (x ∷ xs) h (suc i) (suc j) d less below = all_pairs R xs h.1 i j d (omega arith) (omega arith)

abbrev pub IsOther : Addr → Addr → Type 0
IsOther a b = a ≡ b → ⊥

or_none : (a b : Bool) → (a || b) ≡ false → (a ≡ false) × (b ≡ false)
or_none true b h = absurd (cc)
or_none false b h = (refl, h)

true_false : (t : Bool) → t ≡ true → t ≡ false → ⊥
true_false t e f = cc

-- what an address of a list is by what came before
record IsFresh (r : Rules) (past : Past) (y : Addr) : Type 0 where
  placed : r.placed y ≡ true
  new : stood r.size r.own past y ≡ false

module _ (r : Rules) (past : Past) (at : Addr) where
  -- so many blocks from an address on
  abbrev block : ℕ → Addr
  block k = addr at.part k

  fresh_from : (n from : ℕ) → ((k : ℕ) → k < n → is_new r past (block (from + k)) ≡ true) → Each (IsFresh r past) (map (λ k. addr at.part k) (range_with_len from n))
  fresh_from zero from h = tt
  fresh_from (suc n) from h =
      let first = new_means r past (block from) (let e : from + 0 ≡ from = omega arith in ap (λ k. is_new r past (block k)) (sym e) ∙ h 0 (omega arith)) in (
        record { placed = first.0; new = first.1 },
        fresh_from n (from + 1) (λ k l. let e : from + 1 + k ≡ from + suc k = omega arith in ap (λ j. is_new r past (block j)) e ∙ h (suc k) (omega arith)),
      )

  -- all of them lie from the first on, and below the end
  record IsWithin (from n : ℕ) (y : Addr) : Type 0 where
    part : y.part ≡ at.part
    low : from ≤ y.block
    high : y.block < from + n

  within_from : (n from : ℕ) → Each (IsWithin from n) (map (λ k. addr at.part k) (range_with_len from n))
  within_from zero from = tt
  within_from (suc n) from = (
    record { part = refl; low = omega arith; high = omega arith },
    each_more (IsWithin (from + 1) n) (IsWithin from (suc n)) (map (λ k. addr at.part k) (range_with_len (from + 1) n))
        (λ y w. record { part = w.part; low = omega (arith, w.low); high = omega (arith, w.high) }) (within_from n (from + 1)),
  )

  apart_from : (n from : ℕ) → Apart IsOther (map (λ k. addr at.part k) (range_with_len from n))
  apart_from zero from = tt
  apart_from (suc n) from = (
    each_more (IsWithin (from + 1) n) (IsOther (block from)) (map (λ k. addr at.part k) (range_with_len (from + 1) n))
        (λ y w e. omega (arith, w.low, ap (λ (z : Addr). z.block) e)) (within_from n (from + 1)),
    apart_from n (from + 1),
  )

module _ (r : Rules) (whole : Addr → Bool) where
  earlier_extent : (past : Past) (x y : Addr) → IsFresh r (with_extent past x) y → IsFresh r past y × IsOther x y
  earlier_extent past x y f =
      let t = or_none (stood r.size r.own past y) (same_addr y x) (sym (stood_extent r.size r.own past x y) ∙ f.new) in (
        record { placed = f.placed; new = t.0 },
        λ e. true_false (same_addr y x) (ap (same_addr y) e ∙ same_self y) t.1,
      )

  earlier_run : (past : Past) (d : Descriptor) (y : Addr) → IsFresh r (with_run past d) y → IsFresh r past y × (covers r.size y d ≡ false)
  earlier_run past d y f =
      let t = or_none (stood r.size r.own past y) (covers r.size y d) (sym (stood_run r.size r.own past d y) ∙ f.new) in
      (record { placed = f.placed; new = t.0 }, t.1)

  record Spread (past : Past) (xs : List Addr) : Type 0 where
    fresh : Each (IsFresh r past) xs
    apart : Apart IsOther xs

  spread_good : (ps : List Piece) (past : Past) → is_good r whole past ps ≡ true → Spread past (addresses r.size ps)
  unfolding is_good
  spread_good [] past h = record { fresh = tt; apart = tt }
  spread_good (Extent x ∷ rest) past h =
      let t = both (extent_passes r whole past x) (is_good r whole (with_extent past x) rest) h in
      let u = both (is_new r past x) (whole x) t.0 in
      let n = new_means r past x u.0 in
      let on = spread_good rest (with_extent past x) t.1 in
      let xs = addresses r.size rest in
      record {
        fresh = (record { placed = n.0; new = n.1 }, each_more (IsFresh r (with_extent past x)) (IsFresh r past) xs (λ y f. (earlier_extent past x y f).0) on.fresh);
        apart = (each_more (IsFresh r (with_extent past x)) (IsOther x) xs (λ y f. (earlier_extent past x y f).1) on.fresh, on.apart);
      }
  spread_good (Blocks d ∷ rest) past h =
      let t = both (run_passes r past d) (is_good r whole (with_run past d) rest) h in
      by_hole (is_hole d) refl (passes_by r past d t.0).1 (spread_good rest (with_run past d) t.1)
    where
      xs : List Addr
      xs = addresses r.size rest

      own_blocks : List Addr
      own_blocks = addresses_from d.at (blocks_for r.size d.length)

      earlier : Spread (with_run past d) xs → Each (IsFresh r past) xs
      earlier on = each_more (IsFresh r (with_run past d)) (IsFresh r past) xs (λ y f. (earlier_run past d y f).0) on.fresh

      by_hole : (t : Bool) → is_hole d ≡ t → (is_hole d ≡ true) ⊎ (new_in r past d ≡ blocks_for r.size d.length) → Spread (with_run past d) xs
          → Spread past (cond t [] own_blocks ++ xs)
      by_hole true e how on = record { fresh = earlier on; apart = on.apart }
      by_hole false e (inl f) on = absurd (true_false (is_hole d) f e)
      by_hole false e (inr f) on =
          let within = within_from r past d.at (blocks_for r.size d.length) d.at.block in
          record {
            fresh = each_append (IsFresh r past) own_blocks xs
                (fresh_from r past d.at (blocks_for r.size d.length) d.at.block
                (λ k l. new_each r past d.at.part d.at.block (blocks_for r.size d.length) k (omega (arith, l, f)))) (earlier on);
            apart = apart_append IsOther own_blocks xs (apart_from r past d.at (blocks_for r.size d.length) d.at.block) on.apart
                (each_more (IsWithin r past d.at d.at.block (blocks_for r.size d.length)) (λ z. Each (IsOther z) xs) own_blocks
                (λ z w. each_more (IsFresh r (with_run past d)) (IsOther z) xs
                (λ y f same. covers_not r.size y d e (earlier_run past d y f).1
                (sym w.part ∙ ap (λ (q : Addr). q.part) same) (omega (arith, w.low, ap (λ (q : Addr). q.block) same)) (omega (arith, w.high, ap (λ (q : Addr). q.block) same)))
                on.fresh)
                within);
          }

  -- the addresses of the front in which nothing fails, and the entry's own block, are pairwise different
  pub front_apart : 0 < r.size → (ps : List Piece) → AllPairs IsOther (r.own ∷ addresses r.size (good_front r whole nothing_yet ps))
  front_apart some ps =
      let s = spread_good (good_front r whole nothing_yet ps) nothing_yet (good_good r whole some ps nothing_yet) in
      let xs = addresses r.size (good_front r whole nothing_yet ps) in
      all_pairs IsOther (r.own ∷ xs) (
        each_more (IsFresh r nothing_yet) (IsOther r.own) xs
            (λ y f e. true_false (same_addr r.own y) (ap (same_addr r.own) (sym e) ∙ same_self r.own) (sym (stood_first r.size r.own y) ∙ f.new)) s.fresh,
        s.apart,
      )

  -- and those of the front are placed
  pub front_placed : 0 < r.size → (ps : List Piece) → All (λ y. r.placed y ≡ true) (addresses r.size (good_front r whole nothing_yet ps))
  front_placed some ps =
      let s = spread_good (good_front r whole nothing_yet ps) nothing_yet (good_good r whole some ps nothing_yet) in
      all_each (λ y. r.placed y ≡ true) (addresses r.size (good_front r whole nothing_yet ps))
      (each_more (IsFresh r nothing_yet) (λ y. r.placed y ≡ true) (addresses r.size (good_front r whole nothing_yet ps)) (λ y f. f.placed) s.fresh)
