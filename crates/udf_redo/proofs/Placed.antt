-- Records put in their order, and blocks put as edits: the same image.
use Rattle.std.proofs.Common.{◌≡◌, ◌≤◌, ℕ, ◌+◌, ◌*◌, List, [], ◌∷◌, ◌++◌, length, drop, take, refl, sym, ◌∙◌, ap, subst, arith, add-one}
use Rattle.std.specs.List.{All}
use Rattle.std.proofs.Math.Nat.{mul-le-mul_right, suc-mul}
use Rattle.std.proofs.lemmas.List.{same_lists, places}
use Rattle.udf_outside.specs.Stops.{put}
use Rattle.udf_volume_model.specs.Edits.{put_block, put_blocks}
use Rattle.udf_volume_model.specs.Plans.{ClimbsFrom}
use Rattle.udf_redo.specs.Log.{Edit}
use Rattle.udf_redo.specs.Settled.{applied}
use Rattle.udf_redo.proofs.Puts.{length-put}
use Rattle.udf_redo.proofs.Lawful.{FitsIn, first_is, rest_are}

-- one after the other behind it, or the other way round
put_comm : (v a b : List ℕ) (at to : ℕ) → at + length a ≤ to → to + length b ≤ length v → put (put v at a) to b ≡ put (put v to b) at a
put_comm v a b at to le within = same_lists _ _ (grind (arith, places)) (λ k d h. grind (arith, places))

one_block : (size : ℕ) (edit : Edit) (v : List ℕ) → length edit.1 ≡ size → put_block size edit.0 edit.1 v ≡ put v (edit.0 * size) edit.1
unfolding put_block
one_block size edit v long = ap (λ (n : ℕ). take (edit.0 * size) v ++ (edit.1 ++ drop (edit.0 * size + n) v)) (sym long)

length_blocks : (size : ℕ) (edits : List Edit) (v : List ℕ) → All (FitsIn size (length v)) edits → length (put_blocks size edits v) ≡ length v
unfolding put_blocks
length_blocks size [] v fits = refl
length_blocks size (edit ∷ edits) v fits =
    let here : FitsIn size (length v) edit = first_is (FitsIn size (length v)) edit edits fits in
    let long = length_blocks size edits v (rest_are (FitsIn size (length v)) edit edits fits) in
    ap length (one_block size edit (put_blocks size edits v) here.0) ∙ length-put (put_blocks size edits v) (edit.0 * size) edit.1 (omega (arith, here.0, here.1, long)) ∙ long

-- blocks put behind what was put before
behind : (size least : ℕ) (edits : List Edit) (v b : List ℕ) (at : ℕ) → ClimbsFrom least edits → at + length b ≤ least * size → at + length b ≤ length v → All (FitsIn size (length v)) edits
    → put_blocks size edits (put v at b) ≡ put (put_blocks size edits v) at b
unfolding put_blocks
behind size least [] v b at up below within fits = refl
behind size least (edit ∷ edits) v b at up below within fits =
    let here : FitsIn size (length v) edit = first_is (FitsIn size (length v)) edit edits fits in
    let rest = rest_are (FitsIn size (length v)) edit edits fits in
    let step : (edit.0 + 1) * size ≡ edit.0 * size + size = rw add-one (suc-mul edit.0 size) in
    let far : least * size ≤ edit.0 * size = mul-le-mul_right size up.0 in
    let so_far = put_blocks size edits v in
    let long = length_blocks size edits v rest in
    ap (λ (w : List ℕ). put_block size edit.0 edit.1 w) (behind size (edit.0 + 1) edits v b at up.1 (omega arith) within rest)
    ∙ one_block size edit (put so_far at b) here.0
    ∙ put_comm so_far b edit.1 at (edit.0 * size) (omega arith) (omega (arith, here.0, here.1, long))
    ∙ ap (λ (w : List ℕ). put w at b) (sym (one_block size edit so_far here.0))

-- ascending records of the block size that lie in the image
pub placed : (size least : ℕ) (edits : List Edit) (v : List ℕ) → ClimbsFrom least edits → All (FitsIn size (length v)) edits → applied size edits v ≡ put_blocks size edits v
unfolding applied put_blocks
placed size least [] v up fits = refl
placed size least (edit ∷ edits) v up fits =
    let here : FitsIn size (length v) edit = first_is (FitsIn size (length v)) edit edits fits in
    let rest = rest_are (FitsIn size (length v)) edit edits fits in
    let step : (edit.0 + 1) * size ≡ edit.0 * size + size = rw add-one (suc-mul edit.0 size) in
    let within : edit.0 * size + length edit.1 ≤ length v = omega (arith, here.0, here.1) in
    let after = put v (edit.0 * size) edit.1 in
    let long : length after ≡ length v = length-put v (edit.0 * size) edit.1 within in
    placed size (edit.0 + 1) edits after up.1 (subst (λ (n : ℕ). All (FitsIn size n) edits) (sym long) rest)
    ∙ behind size (edit.0 + 1) edits v edit.1 (edit.0 * size) up.1 (omega (arith, here.0)) within rest
    ∙ sym (one_block size edit (put_blocks size edits v) here.0)
