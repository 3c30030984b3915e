-- Blocks that are put at sectors.
use Rattle.std.proofs.Common.{◌≡◌, ℕ, ◌+◌, ◌-◌, ◌*◌, ◌<◌, ◌≤◌, arith, refl, sym, ◌∙◌, ap, List, [], ◌∷◌, ◌++◌, length, cond, eqb, take, drop, length-append, length-drop, append_assoc, inl, inr, ◌⊎◌, map}
use Rattle.std.proofs.Math.Nat.{mul-le-mul_right}
use Rattle.std.proofs.lemmas.Bool.{eq-eqb, ne_eqb, cases_eq, cases_order}
use Rattle.std.proofs.lemmas.List.{length-take-le, take_at, drop_at, drop-drop, take-append-le, drop-append-le, drop-take, take-take}
use Rattle.udf_model.specs.Image.{block_of}
use Rattle.udf_volume_model.specs.Edits.{look, put_block, put_blocks}
use Rattle.udf_volume_laws.proofs.Members.{IsIn}

-- no edit is at this sector
abbrev pub IsOff : ℕ → List (ℕ × List ℕ) → Type 0
IsOff n [] = Unit {0}
IsOff n (edit ∷ edits) = (n ≡ edit.0 → ⊥) × IsOff n edits

pub off : (n : ℕ) (edits : List (ℕ × List ℕ)) (block : List ℕ) → IsOff n edits → look n edits block ≡ block
unfolding look
off n [] block h = refl
off n (edit ∷ edits) block h = ap (λ b. cond b edit.1 (look n edits block)) (ne_eqb _ _ h.0) ∙ off n edits block h.1

pub off_both : (n : ℕ) (edits more : List (ℕ × List ℕ)) → IsOff n edits → IsOff n more → IsOff n (edits ++ more)
off_both n [] more h k = k
off_both n (edit ∷ edits) more h k = (h.0, off_both n edits more h.1 k)

pub look_both : (n : ℕ) (edits more : List (ℕ × List ℕ)) (block : List ℕ) → look n (edits ++ more) block ≡ look n edits (look n more block)
unfolding look
look_both n [] more block = refl
look_both n (edit ∷ edits) more block = ap (cond (eqb n edit.0) edit.1) (look_both n edits more block)

pub look_here : (n m : ℕ) (put : List ℕ) (edits : List (ℕ × List ℕ)) (block : List ℕ) → n ≡ m → look n ((m, put) ∷ edits) block ≡ put
unfolding look
look_here n m put edits block e = ap (λ b. cond b put (look n edits block)) (eq-eqb _ _ e)

pub look_past : (n m : ℕ) (put : List ℕ) (edits : List (ℕ × List ℕ)) (block : List ℕ) → (n ≡ m → ⊥) → look n ((m, put) ∷ edits) block ≡ look n edits block
unfolding look
look_past n m put edits block e = ap (λ b. cond b put (look n edits block)) (ne_eqb _ _ e)

-- an edit fits: a whole block, inside the image
abbrev pub AreWithin : ℕ → ℕ → List (ℕ × List ℕ) → Type 0
AreWithin size whole [] = Unit {0}
AreWithin size whole (edit ∷ edits) = (length edit.1 ≡ size) × (edit.0 * size + size ≤ whole) × AreWithin size whole edits

pub put_length : (size n : ℕ) (block image : List ℕ) → length block ≡ size → n * size + size ≤ length image → length (put_block size n block image) ≡ length image
unfolding put_block
put_length size n block image long room =
    let front : length (take (n * size) image) ≡ n * size = length-take-le (n * size) image (omega arith) in
    length-append (take (n * size) image) (block ++ drop (n * size + size) image)
    ∙ (let e : length (take (n * size) image) + length (block ++ drop (n * size + size) image) ≡ length image =
    omega (arith, length-append block (drop (n * size + size) image), length-drop (n * size + size) image) in e)

put_same : (size n : ℕ) (block image : List ℕ) → length block ≡ size → n * size + size ≤ length image → block_of size (put_block size n block image) n ≡ block
unfolding put_block block_of
put_same size n block image long room =
    let front : length (take (n * size) image) ≡ n * size = length-take-le (n * size) image (omega arith) in
    ap (take size) (drop_at (take (n * size) image) (block ++ drop (n * size + size) image) (n * size) front)
    ∙ take_at block (drop (n * size + size) image) size long

put_below : (size m n : ℕ) (block image : List ℕ) → m < n → n * size + size ≤ length image → block_of size (put_block size n block image) m ≡ block_of size image m
unfolding put_block block_of
put_below size m n block image below room =
    let order : (m + 1) * size ≤ n * size = mul-le-mul_right size (let l : m + 1 ≤ n = omega arith in l) in
    let front : length (take (n * size) image) ≡ n * size = length-take-le (n * size) image (omega arith) in
    let gap : ℕ = n * size - m * size in
    let is : n * size ≡ m * size + gap = omega arith in
    let rest : List ℕ = block ++ drop (n * size + size) image in
    let mid : drop (m * size) (take (n * size) image) ≡ take gap (drop (m * size) image) =
    ap (λ k. drop (m * size) (take k image)) is ∙ drop-take (m * size) gap image in
    let long : length (drop (m * size) (take (n * size) image)) ≡ gap = omega (arith, length-drop (m * size) (take (n * size) image)) in
    ap (take size) (drop-append-le (m * size) (take (n * size) image) rest (omega arith))
    ∙ take-append-le size (drop (m * size) (take (n * size) image)) rest (omega arith)
    ∙ ap (take size) mid
    ∙ take-take size gap (drop (m * size) image) (omega arith)

put_above : (size m n : ℕ) (block image : List ℕ) → n < m → length block ≡ size → n * size + size ≤ length image → block_of size (put_block size n block image) m ≡ block_of size image m
unfolding put_block block_of
put_above size m n block image above long room =
    let order : (n + 1) * size ≤ m * size = mul-le-mul_right size (let l : n + 1 ≤ m = omega arith in l) in
    let front : length (take (n * size) image) ≡ n * size = length-take-le (n * size) image (omega arith) in
    let gap : ℕ = m * size - (n * size + size) in
    let is : m * size ≡ n * size + size + gap = omega arith in
    let rest : List ℕ = drop (n * size + size) image in
    let head : List ℕ = take (n * size) image ++ block in
    let split : take (n * size) image ++ (block ++ rest) ≡ head ++ rest = sym (append_assoc (take (n * size) image) block rest) in
    let many : length head ≡ n * size + size = omega (arith, length-append (take (n * size) image) block) in
    ap (λ k. take size (drop k (take (n * size) image ++ (block ++ rest)))) is
    ∙ ap (take size) (sym (drop-drop gap (n * size + size) (take (n * size) image ++ (block ++ rest))))
    ∙ ap (λ whole. take size (drop gap (drop (n * size + size) whole))) split
    ∙ ap (λ part. take size (drop gap part)) (drop_at head rest (n * size + size) many)
    ∙ ap (take size) (drop-drop gap (n * size + size) image)
    ∙ ap (λ k. take size (drop k image)) (sym is)

pub all_length : (size : ℕ) (edits : List (ℕ × List ℕ)) (image : List ℕ) → AreWithin size (length image) edits → length (put_blocks size edits image) ≡ length image
unfolding put_blocks
all_length size [] image h = refl
all_length size (edit ∷ edits) image h =
    let rest = all_length size edits image h.2 in
    put_length size edit.0 edit.1 (put_blocks size edits image) h.0 (omega (arith, h.1)) ∙ rest

-- the law of edits: a block afterwards is the one that was put there, else the one before
pub block_after : (size : ℕ) (edits : List (ℕ × List ℕ)) (image : List ℕ) (n : ℕ) → AreWithin size (length image) edits
    → block_of size (put_blocks size edits image) n ≡ look n edits (block_of size image n)
unfolding put_blocks look
block_after size [] image n h = refl
block_after size (edit ∷ edits) image n h = by_order (cases_order n edit.0) (block_after size edits image n h.2) where
  room : edit.0 * size + size ≤ length (put_blocks size edits image)
  room = omega (arith, h.1, all_length size edits image h.2)

  by_order : (n ≡ edit.0) ⊎ ((n < edit.0) ⊎ (edit.0 < n)) → block_of size (put_blocks size edits image) n ≡ look n edits (block_of size image n)
      → block_of size (put_block size edit.0 edit.1 (put_blocks size edits image)) n ≡ look n (edit ∷ edits) (block_of size image n)
  by_order (inl e) rest =
      ap (block_of size (put_block size edit.0 edit.1 (put_blocks size edits image))) e
      ∙ put_same size edit.0 edit.1 (put_blocks size edits image) h.0 room
      ∙ sym (look_here n edit.0 edit.1 edits (block_of size image n) e)
  by_order (inr (inl l)) rest =
      put_below size n edit.0 edit.1 (put_blocks size edits image) l room
      ∙ rest ∙ sym (look_past n edit.0 edit.1 edits (block_of size image n) (λ e. omega arith))
  by_order (inr (inr l)) rest =
      put_above size n edit.0 edit.1 (put_blocks size edits image) l h.0 room
      ∙ rest ∙ sym (look_past n edit.0 edit.1 edits (block_of size image n) (λ e. omega arith))

-- the blocks of some sectors, as edits
abbrev pub chosen : (ℕ → List ℕ) → List ℕ → List (ℕ × List ℕ)
chosen block xs = map (λ n. (n, block n)) xs

pub chosen_off : (block : ℕ → List ℕ) (xs : List ℕ) (n : ℕ) → (IsIn n xs → ⊥) → IsOff n (chosen block xs)
chosen_off block [] n h = tt
chosen_off block (x ∷ xs) n h = ((λ e. h (inl e)), chosen_off block xs n (λ i. h (inr i)))

pub chosen_put : (block : ℕ → List ℕ) (xs : List ℕ) (n : ℕ) (before : List ℕ) → IsIn n xs → look n (chosen block xs) before ≡ block n
chosen_put block [] n before i = absurd i
chosen_put block (x ∷ xs) n before i = by_here (chosen_put block xs n before) (cases_eq n x) i where
  by_here : (IsIn n xs → look n (chosen block xs) before ≡ block n) → (n ≡ x) ⊎ (n ≡ x → ⊥) → IsIn n (x ∷ xs) → look n ((x, block x) ∷ chosen block xs) before ≡ block n
  by_here rest (inl here) k = look_here n x (block x) (chosen block xs) before here ∙ ap block (sym here)
  by_here rest (inr apart) (inl here) = absurd (apart here)
  by_here rest (inr apart) (inr later) = look_past n x (block x) (chosen block xs) before apart ∙ rest later

pub chosen_within : (size whole : ℕ) (block : ℕ → List ℕ) (xs : List ℕ) → ((n : ℕ) → IsIn n xs → (length (block n) ≡ size) × (n * size + size ≤ whole))
    → AreWithin size whole (chosen block xs)
chosen_within size whole block [] h = tt
chosen_within size whole block (x ∷ xs) h =
    let here = h x (inl refl) in (here.0, here.1, chosen_within size whole block xs (λ n i. h n (inr i)))
