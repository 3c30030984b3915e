-- What the mends put, by the verdicts of their rules.
use Rattle.std.proofs.Common.{◌≡◌, ℕ, zero, suc, ◌+◌, arith, ◌∙◌, ap, subst, List, [], ◌∷◌, ◌++◌, true, false, cond}
use Rattle.udf_model.specs.Image.{block_of}
use Rattle.udf_model.specs.Tag.{relocated}
use Rattle.udf_volume_model.specs.Mended.{copies, end_block}
use Rattle.udf_volume_model.specs.Edits.{look}
use Rattle.udf_volume.specs.Spans.{kept_span, other_span}
use Rattle.udf_volume.specs.Verdicts.{bad_stated, anchors_suffice, sequences_agree_in}
use Rattle.udf_volume.specs.declared.volume.Volume.{Volume}
use Rattle.udf_volume.specs.declared.opened.Opened.{Opened}
use Rattle.udf_wanted.specs.Wanted.{LookAlike}
use Rattle.udf_plan.specs.Stated.{copies_at, moved, anchors_stated, copied_stated, sequence_stated}
use Rattle.udf_wanted.proofs.Looking.{nothing, both_are}

module _ (opened : Opened) (image : List ℕ) (wanted : List (ℕ × List ℕ)) where
  pub no_anchors : true ≡ anchors_suffice opened.volume opened.layout image → LookAlike wanted (wanted ++ anchors_stated opened image)
  unfolding anchors_stated
  no_anchors e =
      subst (λ b. LookAlike wanted (wanted ++ cond b [] (copies_at (block_of opened.volume.size image opened.volume.anchor) (bad_stated opened.volume opened.layout image)))) e (nothing wanted)

module _ (volume : Volume) (image : List ℕ) (wanted : List (ℕ × List ℕ)) where
  pub no_sequence : true ≡ sequences_agree_in volume image → LookAlike wanted (wanted ++ sequence_stated volume image)
  unfolding sequence_stated
  no_sequence e = subst (λ b. LookAlike wanted (wanted ++ cond b [] (copied_stated volume image))) e (nothing wanted)

-- over the image that was judged
module _ (opened : Opened) (wanted next : List (ℕ × List ℕ)) (image now : List ℕ) where
  abbrev volume : Volume
  volume = opened.volume

  pub anchors_put : (places : List ℕ) → false ≡ anchors_suffice volume opened.layout image → now ≡ image → places ≡ bad_stated volume opened.layout image
      → LookAlike next (wanted ++ copies_at (block_of volume.size now volume.anchor) places) → LookAlike next (wanted ++ anchors_stated opened image)
  unfolding anchors_stated
  anchors_put places e same is put n block =
      put n block
      ∙ ap (λ i. put_at (copies_at (block_of volume.size i volume.anchor) places)) same
      ∙ ap (λ xs. put_at (copies_at (block_of volume.size image volume.anchor) xs)) is
      ∙ ap (λ b. put_at (cond b [] (copies_at (block_of volume.size image volume.anchor) (bad_stated volume opened.layout image)))) e where
        put_at : List (ℕ × List ℕ) → List ℕ
        put_at edits = look n (wanted ++ edits) block

module _ (volume : Volume) (wanted next : List (ℕ × List ℕ)) (image now : List ℕ) where
  pub sequence_put : false ≡ sequences_agree_in volume image → now ≡ image → LookAlike next (wanted ++ copied_stated volume now)
      → LookAlike next (wanted ++ sequence_stated volume image)
  unfolding sequence_stated
  sequence_put e same put n block =
      put n block
      ∙ ap (λ i. look n (wanted ++ copied_stated volume i) block) same
      ∙ ap (λ b. look n (wanted ++ cond b [] (copied_stated volume image)) block) e

-- the copies, and then the block that ends them
with_end : (size : ℕ) (disk : ℕ → List ℕ) (like : List ℕ) (count from to : ℕ)
    → moved disk from to count ++ (to + count, end_block size (to + count) (disk (from + count)) like) ∷ [] ≡ copies size disk like from to count
unfolding moved copies
with_end size disk like zero from to =
    let t : to + 0 ≡ to = omega arith in
    let f : from + 0 ≡ from = omega arith in
    ap (λ n. (n, end_block size n (disk (from + 0)) like) ∷ []) t ∙ ap (λ n. (to, end_block size to (disk n) like) ∷ []) f
with_end size disk like (suc count) from to =
    let t : to + suc count ≡ to + 1 + count = omega arith in
    let f : from + suc count ≡ from + 1 + count = omega arith in
    let head : List (ℕ × List ℕ) → List (ℕ × List ℕ) = λ rest. (to, relocated to (disk from)) ∷ rest in
    ap (λ n. head (moved disk (from + 1) (to + 1) count ++ (n, end_block size n (disk (from + suc count)) like) ∷ [])) t
    ∙ ap (λ n. head (moved disk (from + 1) (to + 1) count ++ (to + 1 + count, end_block size (to + 1 + count) (disk n) like) ∷ [])) f
    ∙ ap head (with_end size disk like count (from + 1) (to + 1))

pub copied_put : (volume : Volume) (wanted copied next : List (ℕ × List ℕ)) (image now : List ℕ) (from to : ℕ) (end : List ℕ)
    → from ≡ (kept_span volume).start → to ≡ (other_span volume).start → now ≡ image
    → LookAlike copied (wanted ++ moved (block_of volume.size image) from to volume.count)
    → end ≡ end_block volume.size (to + volume.count) (block_of volume.size now (from + volume.count)) (block_of volume.size now volume.lvd)
    → LookAlike next (copied ++ (to + volume.count, end) ∷ []) → LookAlike next (wanted ++ copied_stated volume image)
unfolding copied_stated
copied_put volume wanted copied next image now from to end f t same put is more =
    both_are wanted copied next (moved (block_of volume.size image) from to volume.count) ((to + volume.count, end) ∷ []) _ put more
    (ap (λ b. moved disk from to volume.count ++ (to + volume.count, b) ∷ [])
    (is ∙ ap (λ i. end_block volume.size (to + volume.count) (block_of volume.size i (from + volume.count)) (block_of volume.size i volume.lvd)) same)
    ∙ with_end volume.size disk (disk volume.lvd) volume.count from to
    ∙ ap (λ n. copies volume.size disk (disk volume.lvd) n to volume.count) f
    ∙ ap (λ n. copies volume.size disk (disk volume.lvd) (kept_span volume).start n volume.count) t) where
      disk : ℕ → List ℕ
      disk = block_of volume.size image
