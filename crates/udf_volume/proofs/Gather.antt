-- Reading a list of descriptors, block by block.
use Rattle.std.proofs.Common.{◌≡◌, ℕ, suc, ◌+◌, ◌-◌, ◌<◌, arith, sym, ◌∙◌, ap, List, [], ◌∷◌, ◌++◌, true, false, append_assoc}
use Rattle.std.proofs.lemmas.List.{append-nil}
use Rattle.udf_model.specs.Image.{block_of}
use Rattle.udf_volume_model.specs.Sequence.{Descriptor, View, End, Spoiled, Listed, view_of, views, front_of, is_spoilt}
use Rattle.udf_volume.specs.Views.{view_seen}
use Rattle.udf_volume.specs.declared.sequence.View as code
use Rattle.udf_volume.specs.declared.sequence.View.TheVariants as code_view

views_next : (disk : ℕ → List ℕ) (start count i : ℕ) → i < count
    → views disk (start + i) (count - i) ≡ view_of (disk (start + i)) ∷ views disk (start + (i + 1)) (count - (i + 1))
unfolding views
views_next disk start count i h =
    let n : count - i ≡ suc (count - (i + 1)) = omega arith in
    let s : start + i + 1 ≡ start + (i + 1) = omega arith in
    ap (λ k. views disk (start + i) k) n ∙ ap (λ k. view_of (disk (start + i)) ∷ views disk k (count - (i + 1))) s

-- the descriptors so far, and those from the block at index i on
pub record SoFar (disk : ℕ → List ℕ) (start count i : ℕ) (front : List Descriptor) : Type 0 where
  pub list : front ++ front_of (views disk (start + i) (count - i)) ≡ front_of (views disk start count)
  pub spoilt : is_spoilt (views disk (start + i) (count - i)) ≡ is_spoilt (views disk start count)

module _ (size : ℕ) (image : List ℕ) (start count : ℕ) where
  abbrev disk : ℕ → List ℕ
  disk = block_of size image

  pub begins : SoFar disk start count 0 []
  begins =
      let s : start + 0 ≡ start = omega arith in
      let n : count - 0 ≡ count = omega arith in
      record {
        list = ap (λ k. front_of (views disk k (count - 0))) s ∙ ap (λ k. front_of (views disk start k)) n;
        spoilt = ap (λ k. is_spoilt (views disk k (count - 0))) s ∙ ap (λ k. is_spoilt (views disk start k)) n;
      }

  seen : (i : ℕ) (block : List ℕ) (told : code.View) (view : View) → i < count → block ≡ disk (start + i) → view_seen told ≡ view_of block → view_seen told ≡ view
      → views disk (start + i) (count - i) ≡ view ∷ views disk (start + (i + 1)) (count - (i + 1))
  seen i block told view h is says e =
      views_next disk start count i h
      ∙ ap (λ v. v ∷ views disk (start + (i + 1)) (count - (i + 1))) (ap view_of (sym is) ∙ sym says ∙ e)

  pub ends : (i : ℕ) (front : List Descriptor) (block : List ℕ) (told : code.View) → i < count → SoFar disk start count i front
      → block ≡ disk (start + i) → view_seen told ≡ view_of block → told ≡ code_view.End
      → (front ≡ front_of (views disk start count)) × (false ≡ is_spoilt (views disk start count))
  unfolding front_of is_spoilt
  ends i front block told h so_far is tells e =
      let v = seen i block told End h is tells (ap view_seen e) in
      (sym (append-nil front) ∙ ap (λ l. front ++ front_of l) (sym v) ∙ so_far.list, ap is_spoilt (sym v) ∙ so_far.spoilt)

  pub spoils : (i : ℕ) (front : List Descriptor) (block : List ℕ) (told : code.View) → i < count → SoFar disk start count i front
      → block ≡ disk (start + i) → view_seen told ≡ view_of block → told ≡ code_view.Spoiled
      → (front ≡ front_of (views disk start count)) × (true ≡ is_spoilt (views disk start count))
  unfolding front_of is_spoilt
  spoils i front block told h so_far is tells e =
      let v = seen i block told Spoiled h is tells (ap view_seen e) in
      (sym (append-nil front) ∙ ap (λ l. front ++ front_of l) (sym v) ∙ so_far.list, ap is_spoilt (sym v) ∙ so_far.spoilt)

  pub goes_on : (i : ℕ) (front : List Descriptor) (block : List ℕ) (told : code.View) (d : Descriptor) → i < count → SoFar disk start count i front
      → block ≡ disk (start + i) → view_seen told ≡ view_of block → told ≡ code_view.Listed d
      → SoFar disk start count (i + 1) (front ++ d ∷ [])
  unfolding front_of is_spoilt
  goes_on i front block told d h so_far is tells e =
      let v = seen i block told (Listed d) h is tells (ap view_seen e) in
      record {
        list =
            append_assoc front (d ∷ []) (front_of (views disk (start + (i + 1)) (count - (i + 1))))
            ∙ ap (λ l. front ++ front_of l) (sym v) ∙ so_far.list;
        spoilt = ap is_spoilt (sym v) ∙ so_far.spoilt;
      }

  pub is_done : (i : ℕ) (front : List Descriptor) → i ≡ count → SoFar disk start count i front
      → (front ≡ front_of (views disk start count)) × (false ≡ is_spoilt (views disk start count))
  unfolding front_of is_spoilt views
  is_done i front e so_far =
      let n : count - i ≡ 0 = omega (arith, e) in
      let none : views disk (start + i) (count - i) ≡ [] = ap (λ k. views disk (start + i) k) n in
      (sym (append-nil front) ∙ ap (λ l. front ++ front_of l) (sym none) ∙ so_far.list, ap is_spoilt (sym none) ∙ so_far.spoilt)
