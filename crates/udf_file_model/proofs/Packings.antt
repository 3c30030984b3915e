-- The one packing, and its scan.
use Rattle.std.proofs.Common.{◌≡◌, ℕ, ◌<◌, ◌≤◌, ◌⊎◌, inl, inr, List, ◌∷◌, length, take, arith, sym, ◌∙◌, ap}
use Rattle.std.specs.Prelude.{All}
use Rattle.std.proofs.lemmas.Bool.{cases_lt}
use Rattle.std.proofs.lemmas.List.Elements.{All-cons, All-take, recursion_from_All}
use Rattle.udf_file_model.specs.Fid.{IsFid}
use Rattle.udf_file_model.specs.Scan.{fids}
use Rattle.udf_file_model.specs.Pack.{packed, placed_from, Packing, IsPacking}
use Rattle.udf_file_model.proofs.Scanned.{packed_scan}

module _ (parent : List ℕ) (list : List (List ℕ)) (limit : ℕ) where
  no_more : (a b : Packing) → IsPacking parent list limit a → IsPacking parent list limit b → a.taken < b.taken → ⊥
  no_more a b p q h = omega (arith, p.most b.taken h q.within, ap length q.bytes, q.fits)

  as_many : (a b : Packing) → IsPacking parent list limit a → IsPacking parent list limit b → a.taken ≡ b.taken
  as_many a b p q = by (cases_lt a.taken b.taken) (cases_lt b.taken a.taken)
    where
      by : (a.taken < b.taken) ⊎ (b.taken ≤ a.taken) → (b.taken < a.taken) ⊎ (a.taken ≤ b.taken) → a.taken ≡ b.taken
      by (inl h) k = absurd (no_more a b p q h)
      by (inr h) (inl k) = absurd (no_more b a q p k)
      by (inr h) (inr k) = omega arith

  pub one_packing : (a b : Packing) → IsPacking parent list limit a → IsPacking parent list limit b → a ≡ b
  one_packing a b p q =
      let count = as_many a b p q in
      let same : a.bytes ≡ b.bytes = p.bytes ∙ ap (λ n. packed (parent ∷ take n list)) count ∙ sym q.bytes in
      ap (λ n. let x : Packing = record { bytes = a.bytes; taken = n } in x) count
      ∙ ap (λ xs. let x : Packing = record { bytes = xs; taken = b.taken } in x) same

  pub packing_scan : (size : ℕ) (packing : Packing) → IsFid size parent → All (IsFid size) list → IsPacking parent list limit packing
      → fids size packing.bytes ≡ placed_from 0 (parent ∷ take packing.taken list)
  packing_scan size packing is all p =
      ap (fids size) p.bytes
      ∙ packed_scan size 0 (parent ∷ take packing.taken list)
      (recursion_from_All (IsFid size) (parent ∷ take packing.taken list)
      (All-cons (IsFid size) parent (take packing.taken list) is (All-take (IsFid size) packing.taken list all)))
