-- A terminator, byte by byte.
use Rattle.std.proofs.Common.{◌≡◌, ℕ, suc, ◌-◌, ◌≤◌, arith, sym, ◌∙◌, ap, List, ◌∷◌, get_or, replicate, cond, true, false}
use Rattle.std.proofs.Math.ListN.{set}
use Rattle.udf_model.specs.Tag.{whole_id, is_id, relocated, retagged}
use Rattle.udf_volume_model.specs.Mended.{terminator, end_block}

eight_more : (size : ℕ) → 512 ≤ size → replicate {A = ℕ} size 0 ≡ 0 ∷ 0 ∷ 0 ∷ 0 ∷ 0 ∷ 0 ∷ 0 ∷ 0 ∷ replicate (size - 8) 0
eight_more size room = ap (λ n. replicate {A = ℕ} n 0) (let e : size ≡ suc (suc (suc (suc (suc (suc (suc (suc (size - 8)))))))) = omega arith in e)

pub is_written : (size sector : ℕ) (like block : List ℕ) → 512 ≤ size
    → block ≡ retagged sector 496 (set (set (set (set (set (replicate size 0) 0 8) 2 (get_or like 2 0)) 3 (get_or like 3 0)) 6 (get_or like 6 0)) 7 (get_or like 7 0))
    → block ≡ terminator size sector like
unfolding terminator
is_written size sector like block room e =
    e ∙ ap (λ zeros. retagged sector 496 (set (set (set (set (set zeros 0 8) 2 (get_or like 2 0)) 3 (get_or like 3 0)) 6 (get_or like 6 0)) 7 (get_or like 7 0))) (eight_more size room)

-- the block that ends a copy, by what ended the list
pub moved_end : (size to : ℕ) (source like made : List ℕ) → is_id 8 (whole_id source) ≡ true → made ≡ relocated to source → made ≡ end_block size to source like
unfolding end_block
moved_end size to source like made e is = is ∙ sym (ap (λ b. cond b (relocated to source) (terminator size to like)) e)

pub new_end : (size to : ℕ) (source like made : List ℕ) → is_id 8 (whole_id source) ≡ false → made ≡ terminator size to like → made ≡ end_block size to source like
unfolding end_block
new_end size to source like made e is = is ∙ sym (ap (λ b. cond b (relocated to source) (terminator size to like)) e)
