-- The disk after the mends: the sequences, the anchors and the tables.
use Rattle.std.proofs.Common.{◌≡◌, ℕ, ◌+◌, ◌<◌, ◌≤◌, arith, refl, sym, ◌∙◌, ap, subst, List, [], ◌++◌, length, Bool, true, false, cond, leb, Some, inl, inr, ◌⊎◌}
use Rattle.std.proofs.lemmas.Bool.{and_parts, cases_Bool}
use Rattle.udf_model.specs.Tag.{relocated}
use Rattle.udf_volume_model.specs.Sequence.{view_of}
use Rattle.udf_volume_model.specs.Anchor.{blocks_of}
use Rattle.udf_volume_model.specs.Kept.{KeptSequence, Main, kept, other, extent_of, opposite, limit_of, sequence_at, led_from}
use Rattle.udf_volume_model.specs.Areas.{Area, area_of, covers, is_outside}
use Rattle.udf_volume_model.specs.Edits.{look}
use Rattle.udf_volume_model.specs.Rules.{ascending_places, is_eligible, is_good, eligible, bad_of, anchors_hold, sequences_hold, agrees}
use Rattle.udf_volume_model.specs.SparingRule.{table_edits}
use Rattle.udf_volume_model.specs.AllRules.{layout_in}
use Rattle.udf_volume_model.specs.Mended.{logical_block, copies, sequence_edits, anchor_edits, edits}
use Rattle.udf_volume_laws.proofs.Walk.{same_walk}
use Rattle.udf_volume_laws.proofs.Puts.{IsOff, off, look_both, chosen, chosen_put}
use Rattle.udf_volume_laws.proofs.Copies.{copied}
use Rattle.udf_volume_laws.proofs.Members.{IsIn}
use Rattle.udf_volume_laws.proofs.Same.{prevailing_same}
use Rattle.udf_volume_laws.proofs.Apart.{covered, uncovered, outside_at, not_eligible, further_areas, further_area, table_further}
use Rattle.udf_volume_laws.proofs.Ascending.{places_within, ascending_within}
use Rattle.udf_volume_laws.proofs.Places.{IsAnchor, anchor_from, good_from, anchor_good, moved_anchor}
use Rattle.udf_volume_laws.proofs.Led.{IsMain, IsReserve, IsSequence, is_sequence, leads, same_sequence, walks_of, sequence_of}
use Rattle.udf_volume_laws.proofs.Pair.{kept_sequence}
use Rattle.udf_volume_laws.proofs.Taken.{IsOpened, Facts, facts, areas_in, taken_in, area_taken, outside_areas}
use Rattle.udf_volume_laws.proofs.Spares.{spares, tables_off}
use Rattle.udf_volume_laws.proofs.Beside.{sequence_off, bad_from, anchors_off_edits, untouched}

module _ (size blocks : ℕ) (disk : ℕ → List ℕ) (volume : KeptSequence) (given : IsOpened size blocks disk volume) where
  abbrev pub after : ℕ → List ℕ
  after n = look n (edits size blocks disk volume) (disk n)

  abbrev pub limit : ℕ
  limit = limit_of size volume.anchor

  known : Facts size blocks disk volume
  known = facts size blocks disk volume given

  kept_is : sequence_at size disk limit (kept volume) ≡ Some volume.list
  kept_is = kept_sequence size disk volume known.side

  pub whole : IsSequence size disk limit (kept volume) volume.list
  whole = is_sequence size disk limit (kept volume) volume.list kept_is

  -- a sector of an area is no eligible place
  pub not_eligible_in : (area : Area) (n : ℕ) → IsIn area (areas_in size volume) → covers area n ≡ true → is_eligible (taken_in size disk volume) n ≡ false
  not_eligible_in area n i c = not_eligible (taken_in size disk volume) area n (area_taken size disk volume area i) c

  -- a sector in no area beside those of the sequences is in no table
  pub off_tables : (n : ℕ) → ((area : Area) → IsIn area (further_areas size volume.list) → covers area n ≡ false) → IsOff n (table_edits size disk volume.list)
  off_tables n h =
      tables_off size blocks disk volume.list (omega (arith, given.large)) given.full (spares size blocks disk volume.anchor volume.list known.lawful known.table) n
      (λ area i. uncovered area n (h area (table_further size volume.list area i)))

  -- the kept extent stays
  pub kept_stays : (n : ℕ) → (kept volume).start ≤ n → n < (kept volume).start + blocks_of size (kept volume) → disk n ≡ after n
  kept_stays n l h =
      let c = covered (area_of size (kept volume)) n l h in
      sym (untouched size blocks disk volume n
      (sequence_off size disk volume n whole.below known.pairing.other_limit (by_side known.pairing.apart))
      (anchors_off_edits size blocks disk volume n (inl (not_eligible_in (area_of size (kept volume)) n known.pairing.kept_listed c)))
      (off_tables n (λ area i. known.pairing.kept_off area n i c))) where
        by_side : ((kept volume).start + blocks_of size (kept volume) ≤ (other volume).start) ⊎ ((other volume).start + blocks_of size (other volume) ≤ (kept volume).start)
            → (n < (other volume).start) ⊎ ((other volume).start + blocks_of size (other volume) ≤ n)
        by_side (inl e) = inl (omega arith)
        by_side (inr e) = inr (omega arith)

  pub kept_after : sequence_at size after limit (kept volume) ≡ Some volume.list
  kept_after = sym (same_sequence size disk after limit (kept volume) kept_stays) ∙ kept_is

  -- the other extent is a copy, or stays
  pub other_copied : sequences_hold size disk volume ≡ false → sequence_at size after limit (other volume) ≡ Some volume.list
  unfolding edits sequence_edits
  other_copied broken =
      sequence_of size after limit (other volume) volume.list
      (same_walk _ _ (other volume).start volume.list
      (λ n l. ap view_of (sym (look_both n (sequence_edits size disk volume) (anchor_edits blocks (layout_in size disk volume) disk volume ++ table_edits size disk volume.list) (disk n)
      ∙ ap (λ b. look n (cond b [] (copies size disk (logical_block disk volume) (kept volume).start (other volume).start (length volume.list))) (look n (anchor_edits blocks (layout_in size disk volume) disk volume ++ table_edits size disk volume.list) (disk n))) broken)))
      (copied size disk (λ n. look n (anchor_edits blocks (layout_in size disk volume) disk volume ++ table_edits size disk volume.list) (disk n)) (logical_block disk volume) volume.list (length volume.list) (kept volume).start (other volume).start
      given.large refl
      (λ n l h. let room : n < blocks = omega (arith, known.pairing.kept_room.within, known.pairing.kept_limit, whole.below) in omega (arith, given.full n room, given.large))
      (walks_of size disk limit (kept volume) volume.list kept_is known.pairing.kept_limit)))
      whole.below known.pairing.other_limit whole.complete

  other_stays : sequences_hold size disk volume ≡ true → (n : ℕ) → (other volume).start ≤ n → n < (other volume).start + blocks_of size (other volume) → disk n ≡ after n
  unfolding sequence_edits
  other_stays holds n l h =
      let none : IsOff n (sequence_edits size disk volume) =
      subst (λ (b : Bool). IsOff n (cond b [] (copies size disk (logical_block disk volume) (kept volume).start (other volume).start (length volume.list)))) (sym holds) tt in
      let c = covered (area_of size (other volume)) n l h in
      sym (untouched size blocks disk volume n none
      (anchors_off_edits size blocks disk volume n (inl (not_eligible_in (area_of size (other volume)) n known.pairing.other_listed c)))
      (off_tables n (λ area i. known.pairing.other_off area n i c)))

  -- afterwards the other sequence agrees with the kept one
  pub other_agrees : agrees volume.list (sequence_at size after limit (other volume)) ≡ true
  unfolding sequences_hold
  other_agrees = by_rule (cases_Bool (sequences_hold size disk volume)) where
    by_rule : (sequences_hold size disk volume ≡ true) ⊎ (sequences_hold size disk volume ≡ false) → agrees volume.list (sequence_at size after limit (other volume)) ≡ true
    by_rule (inl holds) = ap (agrees volume.list) (sym (same_sequence size disk after limit (other volume) (other_stays holds))) ∙ holds
    by_rule (inr broken) = ap (agrees volume.list) (other_copied broken) ∙ prevailing_same volume.list

  -- afterwards the main sequence is the kept one
  pub main_after : sequence_at size after limit volume.anchor.main ≡ Some volume.list
  unfolding sequences_hold
  main_after = by_side known.side where
    by_side : IsMain size disk volume ⊎ IsReserve size disk volume → sequence_at size after limit volume.anchor.main ≡ Some volume.list
    by_side (inl m) = ap (λ w. sequence_at size after limit (extent_of w volume.anchor)) (sym m.0) ∙ kept_after
    by_side (inr m) =
        ap (λ w. sequence_at size after limit (extent_of (opposite w) volume.anchor)) (sym m.0)
        ∙ other_copied (ap (λ w. agrees volume.list (sequence_at size disk limit (extent_of (opposite w) volume.anchor))) m.0 ∙ ap (agrees volume.list) m.1)

  pub reserve_agrees : agrees volume.list (sequence_at size after limit volume.anchor.reserve) ≡ true
  reserve_agrees = by_side known.side where
    by_side : IsMain size disk volume ⊎ IsReserve size disk volume → agrees volume.list (sequence_at size after limit volume.anchor.reserve) ≡ true
    by_side (inl m) = ap (λ w. agrees volume.list (sequence_at size after limit (extent_of (opposite w) volume.anchor))) (sym m.0) ∙ other_agrees
    by_side (inr m) =
        ap (λ w. agrees volume.list (sequence_at size after limit (extent_of w volume.anchor))) (sym m.0)
        ∙ ap (agrees volume.list) kept_after ∙ prevailing_same volume.list

  -- outside what the volume takes
  outside_off : (n : ℕ) → is_outside (taken_in size disk volume) n ≡ true → IsOff n (sequence_edits size disk volume) × IsOff n (table_edits size disk volume.list)
  outside_off n e =
      let outside = outside_areas size disk volume n e in (
        sequence_off size disk volume n whole.below known.pairing.other_limit (known.pairing.other_out n outside),
        off_tables n (λ area i. outside_at (areas_in size volume) n area outside (further_area size volume.anchor volume.list area i)),
      )

  pub good_stays : (n : ℕ) → is_outside (taken_in size disk volume) n ≡ true → is_good volume.anchor n (disk n) ≡ true → after n ≡ disk n
  good_stays n e good = untouched size blocks disk volume n (outside_off n e).0 (anchors_off_edits size blocks disk volume n (inr good)) (outside_off n e).1

  pub outside_stays : anchors_hold blocks (layout_in size disk volume) disk volume ≡ true → (n : ℕ) → is_outside (taken_in size disk volume) n ≡ true → after n ≡ disk n
  unfolding anchor_edits
  outside_stays holds n e =
      untouched size blocks disk volume n (outside_off n e).0
      (subst (λ (b : Bool). IsOff n (cond b [] (chosen (λ place. relocated place (disk volume.place)) (bad_of disk volume (eligible blocks (layout_in size disk volume)))))) (sym holds) tt)
      (outside_off n e).1

  pub outside_of : (n : ℕ) → is_eligible (taken_in size disk volume) n ≡ true → is_outside (taken_in size disk volume) n ≡ true
  unfolding is_eligible
  outside_of n e = (and_parts (leb 256 n) (is_outside (taken_in size disk volume) n) e).1

  pub put_there : anchors_hold blocks (layout_in size disk volume) disk volume ≡ false → (n : ℕ) → IsIn n (ascending_places blocks) → is_eligible (taken_in size disk volume) n ≡ true
      → is_good volume.anchor n (disk n) ≡ false → after n ≡ relocated n (disk volume.place)
  unfolding edits anchor_edits
  put_there broken n i e bad =
      look_both n (sequence_edits size disk volume) (anchor_edits blocks (layout_in size disk volume) disk volume ++ table_edits size disk volume.list) (disk n)
      ∙ off n (sequence_edits size disk volume) (look n (anchor_edits blocks (layout_in size disk volume) disk volume ++ table_edits size disk volume.list) (disk n)) (outside_off n (outside_of n e)).0
      ∙ look_both n (anchor_edits blocks (layout_in size disk volume) disk volume) (table_edits size disk volume.list) (disk n)
      ∙ ap (λ b. look n (cond b [] (chosen (λ place. relocated place (disk volume.place)) (bad_of disk volume (eligible blocks (layout_in size disk volume))))) (look n (table_edits size disk volume.list) (disk n))) broken
      ∙ chosen_put (λ place. relocated place (disk volume.place)) (bad_of disk volume (eligible blocks (layout_in size disk volume))) n (look n (table_edits size disk volume.list) (disk n)) (bad_from size blocks disk volume n i e bad)

  -- where the rule on anchors was broken, each eligible place has an anchor
  pub anchor_there : anchors_hold blocks (layout_in size disk volume) disk volume ≡ false → (n : ℕ) → IsIn n (ascending_places blocks) → is_eligible (taken_in size disk volume) n ≡ true
      → IsAnchor size blocks n (after n) volume.anchor
  anchor_there broken n i e = by_good (cases_Bool (is_good volume.anchor n (disk n))) where
    long : 16 ≤ length (disk volume.place)
    long = omega (arith, given.full volume.place (places_within blocks volume.place known.member), given.large)

    by_good : (is_good volume.anchor n (disk n) ≡ true) ⊎ (is_good volume.anchor n (disk n) ≡ false) → IsAnchor size blocks n (after n) volume.anchor
    by_good (inl good) =
        subst (λ (b : List ℕ). IsAnchor size blocks n b volume.anchor) (sym (good_stays n (outside_of n e) good))
        (anchor_good size blocks n (disk n) volume.anchor known.anchor.within good)
    by_good (inr bad) =
        subst (λ (b : List ℕ). IsAnchor size blocks n b volume.anchor) (sym (put_there broken n i e bad))
        (moved_anchor size blocks n volume.place (disk volume.place) volume.anchor long (omega (arith, ascending_within blocks n i, given.small)) known.anchor)

  place_stays : after volume.place ≡ disk volume.place
  place_stays = good_stays volume.place known.outside (good_from size blocks volume.place (disk volume.place) volume.anchor known.anchor)

  abbrev pub volume_after : ℕ → KeptSequence
  volume_after place = record { place = place; anchor = volume.anchor; which = Main; list = volume.list }

  pub leads_after : (n : ℕ) → IsAnchor size blocks n (after n) volume.anchor → led_from size blocks after n ≡ Some (volume_after n)
  leads_after n a = leads size blocks after n volume.anchor volume.list (anchor_from size blocks n (after n) volume.anchor a) main_after

  pub place_leads : led_from size blocks after volume.place ≡ Some (volume_after volume.place)
  place_leads = leads_after volume.place (subst (λ (b : List ℕ). IsAnchor size blocks volume.place b volume.anchor) (sym place_stays) known.anchor)
