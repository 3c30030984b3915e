-- The list of the kept sequence is what its extent lists.
use Rattle.std.proofs.Common.{◌≡◌, ℕ, refl, sym, ◌∙◌, subst, List, [], ◌∷◌, Bool, true, false, cond, Option, Some, None}
use Rattle.udf_model.specs.Image.{block_of, blocks_in}
use Rattle.udf_volume_model.specs.Sequence.{Descriptor, View, listed, views, front_of, is_spoilt}
use Rattle.udf_volume_model.specs.Anchor.{Extent, Anchor, blocks_of, places, anchor_in}
use Rattle.udf_volume_model.specs.Kept.{KeptSequence, Main, Reserve, kept, is_complete, whole_by, limit_of, sequence_at, kept_sequence_by, kept_sequence_at, led_from, or_else, kept_sequence_in, kept_sequence_of}
use Rattle.udf_volume_model.proofs.Listed.{listed_is}

whole_listed : (limit : ℕ) (found : Option (List Descriptor)) (list : List Descriptor) → whole_by limit found ≡ Some list → found ≡ Some list
whole_listed limit None list = λ e. absurd (let none : None ≡ Some list = e in cc)
whole_listed limit (Some others) list = by_complete (is_complete limit others) where
  by_complete : (b : Bool) → cond b (Some others) None ≡ Some list → Some others ≡ Some list
  by_complete true e = e
  by_complete false e = cc

module _ (size : ℕ) (disk : ℕ → List ℕ) where
  abbrev ListsKept : KeptSequence → Type 0
  ListsKept v = listed (views disk (kept v).start (blocks_of size (kept v))) ≡ Some v.list

  at_extent : (limit : ℕ) (extent : Extent) (list : List Descriptor) → sequence_at size disk limit extent ≡ Some list
      → listed (views disk extent.start (blocks_of size extent)) ≡ Some list
  unfolding sequence_at
  at_extent limit extent list e = whole_listed limit _ list e

  by_sequences : (place : ℕ) (anchor : Anchor) (v : KeptSequence) (main reserve : Option (List Descriptor))
      → sequence_at size disk (limit_of size anchor) anchor.main ≡ main → sequence_at size disk (limit_of size anchor) anchor.reserve ≡ reserve
      → kept_sequence_by place anchor main reserve ≡ Some v → ListsKept v
  by_sequences place anchor v (Some list) reserve m r e =
      let is : record { place = place; anchor = anchor; which = Main; list = list } ≡ v = cc in
      subst ListsKept is (at_extent (limit_of size anchor) anchor.main list m)
  by_sequences place anchor v None (Some list) m r e =
      let is : record { place = place; anchor = anchor; which = Reserve; list = list } ≡ v = cc in
      subst ListsKept is (at_extent (limit_of size anchor) anchor.reserve list r)
  by_sequences place anchor v None None m r e = absurd (let none : None ≡ Some v = e in cc)

  by_anchor : (place : ℕ) (found : Option Anchor) (v : KeptSequence) → kept_sequence_at size disk place found ≡ Some v → ListsKept v
  by_anchor place None v e = absurd (let none : None ≡ Some v = e in cc)
  by_anchor place (Some anchor) v e = by_sequences place anchor v _ _ refl refl e

  by_first : (first rest : Option KeptSequence) (v : KeptSequence) → ((w : KeptSequence) → first ≡ Some w → ListsKept w) → (rest ≡ Some v → ListsKept v)
      → or_else first rest ≡ Some v → ListsKept v
  by_first None rest v here there e = there e
  by_first (Some w) rest v here there e = subst ListsKept (let is : w ≡ v = cc in is) (here w refl)

  pub lists_kept : (blocks : ℕ) (list : List ℕ) (v : KeptSequence) → kept_sequence_in size blocks disk list ≡ Some v → ListsKept v
  unfolding kept_sequence_in led_from
  lists_kept blocks [] v e = absurd (let none : None ≡ Some v = e in cc)
  lists_kept blocks (place ∷ rest) v e =
      by_first _ _ v (λ w. by_anchor place (anchor_in size blocks place (disk place)) w) (lists_kept blocks rest v) e

front_by : (list : List View) (wanted : List Descriptor) (b : Bool) → cond b None (Some (front_of list)) ≡ Some wanted → front_of list ≡ wanted
front_by list wanted true e = cc
front_by list wanted false e = cc

-- the descriptors that are read from the kept extent
pub kept_front : (size : ℕ) (image : List ℕ) (v : KeptSequence) → kept_sequence_of size image ≡ Some v
    → front_of (views (block_of size image) (kept v).start (blocks_of size (kept v))) ≡ v.list
unfolding kept_sequence_of
kept_front size image v e =
    let said = views (block_of size image) (kept v).start (blocks_of size (kept v)) in
    front_by said v.list (is_spoilt said) (sym (listed_is said) ∙ lists_kept size (block_of size image) (blocks_in size image) (places (blocks_in size image)) v e)
