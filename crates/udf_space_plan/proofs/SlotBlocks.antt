-- The structures of a recognition sequence, block by block.
use Rattle.std.proofs.Common.{◌≡◌, ℕ, suc, ◌+◌, ◌-◌, ◌*◌, ◌<◌, ◌≤◌, arith, refl, sym, ◌∙◌, ap, List, [], ◌∷◌, ◌++◌, length, replicate, true}
use Rattle.std.specs.Prelude.{slice_set, codes}
use Rattle.std.proofs.Math.Nat.{mul-le-mul_right}
use Rattle.std.proofs.lemmas.List.FromFn.{map-range_with_len_more}
use borrow.Rule.Slice.PartMut.{put_mid}
use Rattle.udf_rules_model.specs.Recognition.{slot_at, slot_blocks}
use Rattle.udf_space_mends.specs.SlotMend.{slot_block, volume_name}
use Rattle.udf_space_plan.specs.Runs.{is_run_free}
use Rattle.udf_space_plan.specs.Sequence.{sequence_put, slot_front, slot_put}
use Rattle.udf_space_plan.proofs.FreeRuns.{part_free, run_free}
use Rattle.udf_volume.specs.declared.volume.Volume.{Volume}
use Rattle.udf_wanted.specs.Wanted.{LookAlike}
use Rattle.udf_wanted.specs.Writable.{AreFreeFrom}
use Rattle.udf_wanted.proofs.Looking.{both, both_are, nothing}

seven_more : (size : ℕ) → 512 ≤ size → replicate {A = ℕ} size 0 ≡ 0 ∷ 0 ∷ 0 ∷ 0 ∷ 0 ∷ 0 ∷ 0 ∷ replicate (size - 7) 0
seven_more size room = ap (λ n. replicate {A = ℕ} n 0) (let e : size ≡ suc (suc (suc (suc (suc (suc (suc (size - 7))))))) = omega arith in e)

pub none_put : (size first : ℕ) (name : List ℕ) (edits : List (ℕ × List ℕ)) → LookAlike edits (edits ++ slot_front size first name 0)
unfolding slot_front
none_put size first name edits = nothing edits

pub one_put : (size first : ℕ) (name : List ℕ) (i : ℕ) → slot_front size first name i ++ (first + i, slot_block size name i) ∷ [] ≡ slot_front size first name (i + 1)
unfolding slot_front
one_put size first name i = sym (map-range_with_len_more (λ j. (first + j, slot_block size name j)) 0 i i (let z : 0 + i ≡ i = omega arith in z))

-- the first block
pub first_written : (size index : ℕ) (filled copied name : List ℕ) → filled ≡ replicate size 0 → copied ≡ name → index ≡ 0 → length name ≡ 5 → 512 ≤ size
    → slice_set (put_mid 1 5 filled copied) 6 1 ≡ slot_block size name index
first_written size index filled copied name f c z five room =
    ap (λ (x : List ℕ). slice_set (put_mid 1 5 x copied) 6 1) (f ∙ seven_more size room) ∙ ap (λ (x : List ℕ). slice_set (put_mid 1 5 (0 ∷ 0 ∷ 0 ∷ 0 ∷ 0 ∷ 0 ∷ 0 ∷ replicate (size - 7) 0) x) 6 1) c
    ∙ by_name name five ∙ ap (slot_block size name) (sym z) where
      by_name : (xs : List ℕ) → length xs ≡ 5 → slice_set (put_mid 1 5 (0 ∷ 0 ∷ 0 ∷ 0 ∷ 0 ∷ 0 ∷ 0 ∷ replicate (size - 7) 0) xs) 6 1 ≡ slot_block size xs 0
      by_name (a ∷ b ∷ d ∷ e ∷ g ∷ []) l = refl
      by_name [] l = absurd (omega arith)
      by_name (a ∷ []) l = absurd (omega arith)
      by_name (a ∷ b ∷ []) l = absurd (omega arith)
      by_name (a ∷ b ∷ d ∷ []) l = absurd (omega arith)
      by_name (a ∷ b ∷ d ∷ e ∷ []) l = absurd (omega arith)
      by_name (a ∷ b ∷ d ∷ e ∷ g ∷ h ∷ rest) l = absurd (omega arith)

-- each slot is a part of the run of all three
pub slot_free : (volume : Volume) (i first : ℕ) → i < 3 → is_run_free volume (slot_at volume.size 0) (3 * slot_blocks volume.size) ≡ true
    → first ≡ slot_at volume.size i → AreFreeFrom volume first (slot_blocks volume.size)
unfolding slot_at
slot_free volume i first few run is =
    part_free volume (slot_at volume.size 0) (3 * slot_blocks volume.size) first (slot_blocks volume.size)
    (run_free volume (slot_at volume.size 0) (3 * slot_blocks volume.size) run)
    (omega arith)
    (omega (arith, mul-le-mul_right (slot_blocks volume.size) (let l : i + 1 ≤ 3 = omega arith in l)))

pub all_put : (size digit one two three : ℕ) (begin name end : List ℕ) (w0 w1 w2 w3 : List (ℕ × List ℕ))
    → one ≡ slot_at size 0 → two ≡ slot_at size 1 → three ≡ slot_at size 2 → begin ≡ codes "BEA01" → name ≡ volume_name digit → end ≡ codes "TEA01"
    → LookAlike w1 (w0 ++ slot_front size one begin (slot_blocks size)) → LookAlike w2 (w1 ++ slot_front size two name (slot_blocks size))
    → LookAlike w3 (w2 ++ slot_front size three end (slot_blocks size)) → LookAlike w3 (w0 ++ sequence_put size digit)
unfolding sequence_put
all_put size digit one two three begin name end w0 w1 w2 w3 a b c d e f first second third =
    both_are w0 w1 w3 (slot_front size one begin (slot_blocks size)) (slot_front size two name (slot_blocks size) ++ slot_front size three end (slot_blocks size)) _ first
    (both w1 w2 w3 (slot_front size two name (slot_blocks size)) (slot_front size three end (slot_blocks size)) second third)
    (ap (λ n. slot_front size n begin (slot_blocks size) ++ (slot_front size two name (slot_blocks size) ++ slot_front size three end (slot_blocks size))) a
    ∙ ap (λ (x : List ℕ). slot_front size (slot_at size 0) x (slot_blocks size) ++ (slot_front size two name (slot_blocks size) ++ slot_front size three end (slot_blocks size))) d
    ∙ ap (λ (x : List (ℕ × List ℕ)). slot_put size 0 (codes "BEA01") ++ x)
    (ap (λ n. slot_front size n name (slot_blocks size) ++ slot_front size three end (slot_blocks size)) b
    ∙ ap (λ (x : List ℕ). slot_front size (slot_at size 1) x (slot_blocks size) ++ slot_front size three end (slot_blocks size)) e
    ∙ ap (λ (x : List (ℕ × List ℕ)). slot_put size 1 (volume_name digit) ++ x)
    (ap (λ n. slot_front size n end (slot_blocks size)) c ∙ ap (λ (x : List ℕ). slot_front size (slot_at size 2) x (slot_blocks size)) f)))
