-- Bytes that are put over blocks, one after another.
use Rattle.std.proofs.Common.{◌≡◌, ℕ, zero, suc, ◌+◌, ◌-◌, ◌*◌, ◌≤◌, List, [], ◌∷◌, ◌++◌, take, drop, None, arith, refl, sym, ap, ◌∙◌, subst}
use Rattle.std.proofs.lemmas.List.{drop-drop}
use Rattle.udf_model.specs.Bytes.{written_at}
use Rattle.udf_file_model.specs.Address.{addr}
use Rattle.udf_file_model.specs.Content.{block_at}
use Rattle.udf_file_model.specs.Listing.{Volume}
use Rattle.udf_file_mends.specs.Spread.{Sited, spread_from}
use Rattle.udf_file_plan.specs.Base.{PutsOf}
use Rattle.udf_file_plan.proofs.Puts.{puts_none, puts_both, puts_as, puts_nowhere}

spread_none : (v : Volume) (part block : ℕ) (bytes : List ℕ) → spread_from v part block 0 bytes ≡ []
unfolding spread_from
spread_none v part block bytes = refl

spread_more : (v : Volume) (part block n : ℕ) (bytes : List ℕ)
    → spread_from v part block (suc n) bytes ≡ (addr part block, written_at 0 (take v.size bytes) (block_at v (addr part block))) ∷ spread_from v part (block + 1) n (drop v.size bytes)
unfolding spread_from
spread_more v part block n bytes = refl

-- block i of a spread
abbrev pub spread_nth : Volume → ℕ → ℕ → List ℕ → ℕ → Sited
spread_nth v part block bytes i = (addr part (block + i), written_at 0 (take v.size (drop (i * v.size) bytes)) (block_at v (addr part (block + i))))

spread_last : (v : Volume) (part block i : ℕ) (bytes : List ℕ) → spread_from v part block (suc i) bytes ≡ spread_from v part block i bytes ++ (spread_nth v part block bytes i ∷ [])
spread_last v part block zero bytes =
    spread_more v part block 0 bytes
    ∙ ap (λ z. (addr part block, written_at 0 (take v.size bytes) (block_at v (addr part block))) ∷ z) (spread_none v part (block + 1) (drop v.size bytes))
    ∙ (let e : block ≡ block + 0 = omega arith in ap (λ b. (addr part b, written_at 0 (take v.size bytes) (block_at v (addr part b))) ∷ []) e)
    ∙ (let e : drop (0 * v.size) bytes ≡ bytes = (let z : 0 * v.size ≡ 0 = omega arith in ap (λ k. drop k bytes) z) in
    ap (λ b. (addr part (block + 0), written_at 0 (take v.size b) (block_at v (addr part (block + 0)))) ∷ []) (sym e))
    ∙ ap (λ z. z ++ (spread_nth v part block bytes 0 ∷ [])) (sym (spread_none v part block bytes))
spread_last v part block (suc i) bytes =
    spread_more v part block (suc i) bytes
    ∙ ap (λ z. (addr part block, written_at 0 (take v.size bytes) (block_at v (addr part block))) ∷ z) (spread_last v part (block + 1) i (drop v.size bytes))
    ∙ (let e : block + 1 + i ≡ block + suc i = omega arith in
    ap (λ b. (addr part block, written_at 0 (take v.size bytes) (block_at v (addr part block))) ∷ (spread_from v part (block + 1) i (drop v.size bytes) ++ ((addr part b, written_at 0 (take v.size (drop (i * v.size) (drop v.size bytes))) (block_at v (addr part b))) ∷ []))) e)
    ∙ (let e : drop (i * v.size) (drop v.size bytes) ≡ drop (suc i * v.size) bytes =
    drop-drop (i * v.size) v.size bytes ∙ (let z : v.size + i * v.size ≡ suc i * v.size = omega arith in ap (λ k. drop k bytes) z) in
    ap (λ b. (addr part block, written_at 0 (take v.size bytes) (block_at v (addr part block))) ∷ (spread_from v part (block + 1) i (drop v.size bytes) ++ ((addr part (block + suc i), written_at 0 (take v.size b) (block_at v (addr part (block + suc i)))) ∷ []))) e)
    ∙ ap (λ z. z ++ (spread_nth v part block bytes (suc i) ∷ [])) (sym (spread_more v part block i bytes))

module _ (v : Volume) (part block : ℕ) (bytes : List ℕ) (base : List (ℕ × List ℕ)) where
  -- the first so many blocks were put
  abbrev pub FrontPut : List (ℕ × List ℕ) → ℕ → Type 0
  FrontPut now i = PutsOf v base now (spread_from v part block i bytes)

  pub front_begins : PutsOf v base base (spread_from v part block 0 bytes)
  front_begins = puts_as v base base [] _ (puts_none v base) (sym (spread_none v part block bytes))

  pub front_goes_on : (now after : List (ℕ × List ℕ)) (i : ℕ) → PutsOf v base now (spread_from v part block i bytes) → PutsOf v now after (spread_nth v part block bytes i ∷ [])
      → PutsOf v base after (spread_from v part block (i + 1) bytes)
  front_goes_on now after i so put =
      puts_as v base after (spread_from v part block i bytes ++ (spread_nth v part block bytes i ∷ [])) _
      (puts_both v base now after (spread_from v part block i bytes) (spread_nth v part block bytes i ∷ []) so put)
      (sym ((let e : i + 1 ≡ suc i = omega arith in ap (λ n. spread_from v part block n bytes) e) ∙ spread_last v part block i bytes))

  -- the blocks that are placed nowhere are none
  pub front_ends : (now : List (ℕ × List ℕ)) (i many : ℕ) → PutsOf v base now (spread_from v part block i bytes) → i ≤ many
      → ((k : ℕ) → i ≤ k → v.place (addr part (block + k)) ≡ None) → PutsOf v base now (spread_from v part block many bytes)
  front_ends now i many so h off = go (many - i) many (let e : many ≡ i + (many - i) = omega arith in e)
    where
      go : (n m : ℕ) → m ≡ i + n → PutsOf v base now (spread_from v part block m bytes)
      go zero m e = puts_as v base now (spread_from v part block i bytes) _ so (let z : i ≡ m = omega (arith, e) in ap (λ k. spread_from v part block k bytes) z)
      go (suc n) m e =
          let z : i + n + 1 ≡ m = omega (arith, e) in
          subst (λ (k : ℕ). PutsOf v base now (spread_from v part block k bytes)) z
          (front_goes_on now now (i + n) (go n (i + n) refl)
          (puts_nowhere v now (addr part (block + (i + n))) (written_at 0 (take v.size (drop ((i + n) * v.size) bytes)) (block_at v (addr part (block + (i + n))))) (off (i + n) (omega arith))))
