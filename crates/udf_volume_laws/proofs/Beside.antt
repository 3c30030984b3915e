-- Where the edits of anchors and sequences are not, and what stands where no edit is.
use Rattle.std.proofs.Common.{◌≡◌, ℕ, ◌+◌, ◌<◌, ◌≤◌, arith, sym, ◌∙◌, ap, List, [], ◌++◌, length, Bool, true, false, cond, not, inl, inr, ◌⊎◌}
use Rattle.std.specs.List.{filter}
use Rattle.udf_model.specs.Tag.{relocated}
use Rattle.udf_volume_model.specs.Anchor.{blocks_of}
use Rattle.udf_volume_model.specs.Kept.{KeptSequence, kept, other, limit_of}
use Rattle.udf_volume_model.specs.Edits.{look}
use Rattle.udf_volume_model.specs.Rules.{ascending_places, is_eligible, is_good, eligible, bad_of, anchors_hold, sequences_hold}
use Rattle.udf_volume_model.specs.SparingRule.{table_edits}
use Rattle.udf_volume_model.specs.AllRules.{layout_in}
use Rattle.udf_volume_model.specs.Mended.{logical_block, copies, sequence_edits, anchor_edits, edits}
use Rattle.udf_volume_laws.proofs.Puts.{IsOff, off, off_both, chosen, chosen_off}
use Rattle.udf_volume_laws.proofs.Copies.{copies_below, copies_above}
use Rattle.udf_volume_laws.proofs.Members.{IsIn, kept_in, in_kept}
use Rattle.udf_volume_laws.proofs.Taken.{taken_in}

pub sequence_off : (size : ℕ) (disk : ℕ → List ℕ) (volume : KeptSequence) (n : ℕ)
    → length volume.list < limit_of size volume.anchor → limit_of size volume.anchor ≤ blocks_of size (other volume)
    → (n < (other volume).start) ⊎ ((other volume).start + blocks_of size (other volume) ≤ n) → IsOff n (sequence_edits size disk volume)
unfolding sequence_edits
sequence_off size disk volume n below limit h = by_rule (sequences_hold size disk volume) where
  by_side : (n < (other volume).start) ⊎ ((other volume).start + blocks_of size (other volume) ≤ n)
      → IsOff n (copies size disk (logical_block disk volume) (kept volume).start (other volume).start (length volume.list))
  by_side (inl l) = copies_below size disk (logical_block disk volume) (length volume.list) (kept volume).start (other volume).start n l
  by_side (inr l) = copies_above size disk (logical_block disk volume) (length volume.list) (kept volume).start (other volume).start n (omega arith)

  by_rule : (b : Bool) → IsOff n (cond b [] (copies size disk (logical_block disk volume) (kept volume).start (other volume).start (length volume.list)))
  by_rule true = tt
  by_rule false = by_side h

-- a place that is bad and eligible
pub record IsBad (size blocks : ℕ) (disk : ℕ → List ℕ) (volume : KeptSequence) (n : ℕ) : Type 0 where
  pub place : IsIn n (ascending_places blocks)
  pub ruled : is_eligible (taken_in size disk volume) n ≡ true
  pub bad : not (is_good volume.anchor n (disk n)) ≡ true

pub bad_parts : (size blocks : ℕ) (disk : ℕ → List ℕ) (volume : KeptSequence) (n : ℕ) → IsIn n (bad_of disk volume (eligible blocks (layout_in size disk volume))) → IsBad size blocks disk volume n
unfolding eligible
bad_parts size blocks disk volume n i =
    let one = kept_in (λ place. not (is_good volume.anchor place (disk place))) (filter (is_eligible (taken_in size disk volume)) (ascending_places blocks)) n i in
    let two = kept_in (is_eligible (taken_in size disk volume)) (ascending_places blocks) n one.0 in
    record { place = two.0; ruled = two.1; bad = one.1 }

pub bad_from : (size blocks : ℕ) (disk : ℕ → List ℕ) (volume : KeptSequence) (n : ℕ) → IsIn n (ascending_places blocks) → is_eligible (taken_in size disk volume) n ≡ true
    → is_good volume.anchor n (disk n) ≡ false → IsIn n (bad_of disk volume (eligible blocks (layout_in size disk volume)))
unfolding eligible
bad_from size blocks disk volume n i e bad =
    in_kept (λ place. not (is_good volume.anchor place (disk place))) (filter (is_eligible (taken_in size disk volume)) (ascending_places blocks)) n
    (in_kept (is_eligible (taken_in size disk volume)) (ascending_places blocks) n i e) (ap not bad)

pub anchors_off_edits : (size blocks : ℕ) (disk : ℕ → List ℕ) (volume : KeptSequence) (n : ℕ)
    → (is_eligible (taken_in size disk volume) n ≡ false) ⊎ (is_good volume.anchor n (disk n) ≡ true) → IsOff n (anchor_edits blocks (layout_in size disk volume) disk volume)
unfolding anchor_edits
anchors_off_edits size blocks disk volume n h = by_rule (anchors_hold blocks (layout_in size disk volume) disk volume) where
  none : (is_eligible (taken_in size disk volume) n ≡ false) ⊎ (is_good volume.anchor n (disk n) ≡ true) → IsIn n (bad_of disk volume (eligible blocks (layout_in size disk volume))) → ⊥
  none (inl e) i = let t = (bad_parts size blocks disk volume n i).ruled in let f : true ≡ false = sym t ∙ e in absurd (cc)
  none (inr good) i = let t = (bad_parts size blocks disk volume n i).bad in let f : false ≡ true = sym (ap not good) ∙ t in absurd (cc)

  by_rule : (b : Bool) → IsOff n (cond b [] (chosen (λ place. relocated place (disk volume.place)) (bad_of disk volume (eligible blocks (layout_in size disk volume)))))
  by_rule true = tt
  by_rule false = chosen_off (λ place. relocated place (disk volume.place)) (bad_of disk volume (eligible blocks (layout_in size disk volume))) n (none h)

-- what stands afterwards where nothing was put
pub untouched : (size blocks : ℕ) (disk : ℕ → List ℕ) (volume : KeptSequence) (n : ℕ)
    → IsOff n (sequence_edits size disk volume) → IsOff n (anchor_edits blocks (layout_in size disk volume) disk volume) → IsOff n (table_edits size disk volume.list)
    → look n (edits size blocks disk volume) (disk n) ≡ disk n
unfolding edits
untouched size blocks disk volume n h k l =
    off n (sequence_edits size disk volume ++ (anchor_edits blocks (layout_in size disk volume) disk volume ++ table_edits size disk volume.list)) (disk n)
    (off_both n (sequence_edits size disk volume) (anchor_edits blocks (layout_in size disk volume) disk volume ++ table_edits size disk volume.list) h
    (off_both n (anchor_edits blocks (layout_in size disk volume) disk volume) (table_edits size disk volume.list) k l))
