-- Bytes that are put over blocks, one after another.
use Rattle.std.proofs.Common.{◌≡◌, ℕ, zero, suc, ◌+◌, ◌*◌, ◌≤◌, List, [], ◌∷◌, ◌++◌, length, take, drop, Some, None, arith, refl, sym, ap, ◌∙◌, subst, append-nil, append_assoc, true}
use Rattle.std.proofs.Math.Nat.{mul-le-mul_right}
use Rattle.std.proofs.lemmas.List.{drop-drop, drop_all, length-take}
use Rattle.udf_field.specs.declared.address.Addr.{Addr}
use Rattle.udf_file_mends.specs.Mends.{edit_by, edits_of}
use Rattle.udf_file_mends.specs.Spread.{Sited, spread_from}
use Rattle.udf_file_model.specs.Address.{addr}
use Rattle.udf_file_model.specs.Content.{block_at, block_by}
use Rattle.udf_file_model.specs.Listing.{Volume}
use Rattle.udf_model.specs.Bytes.{written_at}
use Rattle.udf_model.specs.Image.{block_of}
use Rattle.udf_outside.specs.Files.{Files}
use Rattle.udf_space_plan.specs.Extent.{PutsAll}
use Rattle.udf_volume.specs.Over.{IsOver}
use Rattle.udf_volume.specs.declared.volume.Volume as code
use Rattle.udf_wanted.specs.Wanted.{LookAlike}
use Rattle.udf_wanted.specs.Writable.{is_free}
use Rattle.udf_wanted.proofs.Looking.{both_are, nothing}
use Rattle.udf_wanted.proofs.Walking.{free_inside}

-- bytes that fill a block leave nothing of it
pub filled : (size : ℕ) (image bytes : List ℕ) (n : ℕ) → length bytes ≡ size → bytes ≡ written_at 0 bytes (block_of size image n)
unfolding written_at block_of
filled size image bytes n long =
    let short : length (take size (drop (n * size) image)) ≤ 0 + length bytes = omega (arith, long, length-take size (drop (n * size) image)) in
    sym (ap (λ b. bytes ++ b) (drop_all (0 + length bytes) (take size (drop (n * size) image)) short) ∙ append-nil bytes)

-- bytes over the front of a block
pub laid : (bytes block : List ℕ) → bytes ++ drop (length bytes) block ≡ written_at 0 bytes block
unfolding written_at
laid bytes block = ap (λ n. bytes ++ drop n block) (let e : length bytes ≡ 0 + length bytes = omega arith in e)

-- a sector that may be written lies in the image
pub inside : (volume : code.Volume) (files : Files) → IsOver volume files → (s : ℕ) → is_free volume s ≡ true → (s + 1) * volume.size ≤ files.image.size
inside volume files over s free =
    let l : s + 1 ≤ volume.blocks = omega (arith, free_inside volume s free) in
    omega (arith, mul-le-mul_right volume.size l, over.within)

spread_none : (v : Volume) (part block : ℕ) (bytes : List ℕ) → spread_from v part block 0 bytes ≡ []
unfolding spread_from
spread_none v part block bytes = refl

spread_more : (v : Volume) (part block n : ℕ) (bytes : List ℕ)
    → spread_from v part block (suc n) bytes ≡ (addr part block, written_at 0 (take v.size bytes) (block_at v (addr part block))) ∷ spread_from v part (block + 1) n (drop v.size bytes)
unfolding spread_from
spread_more v part block n bytes = refl

-- block i of a spread
abbrev spread_nth : Volume → ℕ → ℕ → List ℕ → ℕ → Sited
spread_nth v part block bytes i = (addr part (block + i), written_at 0 (take v.size (drop (i * v.size) bytes)) (block_at v (addr part (block + i))))

spread_last : (v : Volume) (part block i : ℕ) (bytes : List ℕ) → spread_from v part block (suc i) bytes ≡ spread_from v part block i bytes ++ (spread_nth v part block bytes i ∷ [])
spread_last v part block zero bytes =
    spread_more v part block 0 bytes
    ∙ ap (λ z. (addr part block, written_at 0 (take v.size bytes) (block_at v (addr part block))) ∷ z) (spread_none v part (block + 1) (drop v.size bytes))
    ∙ (let e : block ≡ block + 0 = omega arith in ap (λ b. (addr part b, written_at 0 (take v.size bytes) (block_at v (addr part b))) ∷ []) e)
    ∙ (let e : drop (0 * v.size) bytes ≡ bytes = (let z : 0 * v.size ≡ 0 = omega arith in ap (λ k. drop k bytes) z) in
    ap (λ b. (addr part (block + 0), written_at 0 (take v.size b) (block_at v (addr part (block + 0)))) ∷ []) (sym e))
    ∙ ap (λ z. z ++ (spread_nth v part block bytes 0 ∷ [])) (sym (spread_none v part block bytes))
spread_last v part block (suc i) bytes =
    spread_more v part block (suc i) bytes
    ∙ ap (λ z. (addr part block, written_at 0 (take v.size bytes) (block_at v (addr part block))) ∷ z) (spread_last v part (block + 1) i (drop v.size bytes))
    ∙ (let e : block + 1 + i ≡ block + suc i = omega arith in
    ap (λ b. (addr part block, written_at 0 (take v.size bytes) (block_at v (addr part block))) ∷ (spread_from v part (block + 1) i (drop v.size bytes) ++ ((addr part b, written_at 0 (take v.size (drop (i * v.size) (drop v.size bytes))) (block_at v (addr part b))) ∷ []))) e)
    ∙ (let e : drop (i * v.size) (drop v.size bytes) ≡ drop (suc i * v.size) bytes =
    drop-drop (i * v.size) v.size bytes ∙ (let z : v.size + i * v.size ≡ suc i * v.size = omega arith in ap (λ k. drop k bytes) z) in
    ap (λ b. (addr part block, written_at 0 (take v.size bytes) (block_at v (addr part block))) ∷ (spread_from v part (block + 1) i (drop v.size bytes) ++ ((addr part (block + suc i), written_at 0 (take v.size b) (block_at v (addr part (block + suc i)))) ∷ []))) e)
    ∙ ap (λ z. z ++ (spread_nth v part block bytes (suc i) ∷ [])) (sym (spread_more v part block i bytes))

edits_joined : (v : Volume) (bs cs : List Sited) → edits_of v (bs ++ cs) ≡ edits_of v bs ++ edits_of v cs
unfolding edits_of
edits_joined v [] cs = refl
edits_joined v (b ∷ bs) cs = ap (λ z. edit_by b.1 (v.place b.0) ++ z) (edits_joined v bs cs) ∙ sym (append_assoc (edit_by b.1 (v.place b.0)) (edits_of v bs) (edits_of v cs))

no_edits : (v : Volume) → edits_of v [] ≡ []
unfolding edits_of
no_edits v = refl

one_edit : (v : Volume) (x : Addr) (block : List ℕ) → edits_of v ((x, block) ∷ []) ≡ edit_by block (v.place x)
unfolding edits_of
one_edit v x block = append-nil (edit_by block (v.place x))

as_edits : (old new some other : List (ℕ × List ℕ)) → LookAlike new (old ++ some) → some ≡ other → LookAlike new (old ++ other)
as_edits old new some other put is = subst (λ (edits : List (ℕ × List ℕ)). LookAlike new (old ++ edits)) is put

module _ (v : Volume) where
  -- at an address that is placed nowhere
  pub puts_nowhere : (old : List (ℕ × List ℕ)) (x : Addr) (block : List ℕ) → v.place x ≡ None → PutsAll v old old ((x, block) ∷ [])
  puts_nowhere old x block e =
      as_edits old old [] _ (nothing old) (sym (one_edit v x block ∙ ap (edit_by block) e))

  -- at the sector of an address, by the block that stands there
  pub puts_there : (old new : List (ℕ × List ℕ)) (x : Addr) (s : ℕ) (bytes made : List ℕ) → v.place x ≡ Some s → made ≡ written_at 0 bytes (v.disk s)
      → LookAlike new (old ++ (s, made) ∷ []) → PutsAll v old new ((x, written_at 0 bytes (block_at v x)) ∷ [])
  puts_there old new x s bytes made place is put =
      as_edits old new ((s, made) ∷ []) _ put
      (ap (λ (b : List ℕ). (s, b) ∷ []) is
      ∙ sym (one_edit v x (written_at 0 bytes (block_at v x)) ∙ ap (λ o. edit_by (written_at 0 bytes (block_by v.disk o)) o) place))

  module _ (part block : ℕ) (bytes : List ℕ) (base : List (ℕ × List ℕ)) where
    pub front_begins : PutsAll v base base (spread_from v part block 0 bytes)
    front_begins = as_edits base base [] _ (nothing base) (sym (ap (edits_of v) (spread_none v part block bytes) ∙ no_edits v))

    -- one block more
    pub front_goes_on : (now after : List (ℕ × List ℕ)) (i : ℕ) (made : List ℕ) → PutsAll v base now (spread_from v part block i bytes) → made ≡ take v.size (drop (i * v.size) bytes)
        → PutsAll v now after ((addr part (block + i), written_at 0 made (block_at v (addr part (block + i)))) ∷ []) → PutsAll v base after (spread_from v part block (i + 1) bytes)
    front_goes_on now after i made so is put =
        both_are base now after (edits_of v (spread_from v part block i bytes)) (edits_of v ((addr part (block + i), written_at 0 made (block_at v (addr part (block + i)))) ∷ []))
        (edits_of v (spread_from v part block (i + 1) bytes)) so put
        (ap (λ (b : List ℕ). edits_of v (spread_from v part block i bytes) ++ edits_of v ((addr part (block + i), written_at 0 b (block_at v (addr part (block + i)))) ∷ [])) is
        ∙ sym ((let e : i + 1 ≡ suc i = omega arith in ap (λ n. edits_of v (spread_from v part block n bytes)) e)
        ∙ ap (edits_of v) (spread_last v part block i bytes) ∙ edits_joined v (spread_from v part block i bytes) (spread_nth v part block bytes i ∷ [])))
