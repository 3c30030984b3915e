-- The laws of the mends of a volume, on a disk.
use Rattle.std.proofs.Common.{◌≡◌, ℕ, refl, sym, ◌∙◌, ap, subst, List, [], ◌∷◌, length, Bool, true, false, cond, ◌||◌, leb, eqb, Some, inl, inr, ◌⊎◌}
use Rattle.std.proofs.lemmas.Bool.{and_parts, and_from, le-leb, or_right, eq-eqb, ne_eqb, eqb-true, cases_Bool, cases_eq}
use Rattle.std.specs.Prelude.{is_none}
use Rattle.std.specs.List.{list_all, list_any, filter}
use Rattle.udf_volume_model.specs.Anchor.{places, anchor_in}
use Rattle.udf_volume_model.specs.Kept.{KeptSequence, Main, led_from, kept_sequence_in, or_else}
use Rattle.udf_volume_model.specs.Areas.{is_outside, layout_of, packets_of}
use Rattle.udf_volume_model.specs.Layout.{are_places_lawful, is_lawful, is_passed, earlier, are_packets, is_spared}
use Rattle.udf_volume_model.specs.Opened.{is_opened_by}
use Rattle.udf_volume_model.specs.Edits.{look}
use Rattle.udf_volume_model.specs.Mended.{edits}
use Rattle.udf_volume_model.specs.Rules.{ascending_places, is_eligible, is_good, eligible, anchors_hold, sequences_hold}
use Rattle.udf_volume_model.specs.SparingRule.{tables_hold}
use Rattle.udf_volume_model.specs.AllRules.{layout_in}
use Rattle.udf_volume_laws.proofs.Members.{IsIn, all_from, any_passes, kept_in, same_filter, same_all}
use Rattle.udf_volume_laws.proofs.Ascending.{IsHigh, places_high, to_ascending}
use Rattle.udf_volume_laws.proofs.Places.{IsAnchor, good_from}
use Rattle.udf_volume_laws.proofs.Led.{passed_leads_none}
use Rattle.udf_volume_laws.proofs.Taken.{IsOpened, Facts, facts, areas_in, packets_in, taken_in, outside_areas, passed_areas, packets_beside}
use Rattle.udf_volume_laws.proofs.After.{reserve_agrees, outside_stays, anchor_there, place_leads as place_leads_of, leads_after as leads_after_of, outside_of as outside_by}
use Rattle.udf_volume_laws.proofs.Spared.{table_stays, used_stays, layout_stays, tables_after}

-- where it stood, or at an earlier place
abbrev pub StandsEarlier : ℕ → ℕ → ℕ → Type 0
StandsEarlier blocks before after = (after ≡ before) ⊎ (list_any (λ place. eqb place after) (earlier before (places blocks)) ≡ true)

-- what the laws say of a disk afterwards
pub record IsMended (size blocks : ℕ) (disk : ℕ → List ℕ) (before after : KeptSequence) (next : ℕ → List ℕ) : Type 0 where
  pub is : kept_sequence_in size blocks next (places blocks) ≡ Some after
  pub same_anchor : after.anchor ≡ before.anchor
  pub same_list : after.list ≡ before.list
  pub same_layout : layout_in size next after ≡ layout_in size disk before
  pub place : StandsEarlier blocks before.place after.place
  pub which : after.which ≡ Main
  pub opened : is_opened_by size blocks next (Some after) ≡ true
  pub anchors : anchors_hold blocks (layout_in size next after) next after ≡ true
  pub sequences : sequences_hold size next after ≡ true
  pub tables : tables_hold size next after.list ≡ true

module _ (size blocks : ℕ) (disk : ℕ → List ℕ) (volume : KeptSequence) (given : IsOpened size blocks disk volume) where
  abbrev after : ℕ → List ℕ
  after n = look n (edits size blocks disk volume) (disk n)

  abbrev pub volume_after : ℕ → KeptSequence
  volume_after place = record { place = place; anchor = volume.anchor; which = Main; list = volume.list }

  known : Facts size blocks disk volume
  known = facts size blocks disk volume given

  place_leads : led_from size blocks after volume.place ≡ Some (volume_after volume.place)
  place_leads = place_leads_of size blocks disk volume given

  leads_after : (n : ℕ) → IsAnchor size blocks n (after n) volume.anchor → led_from size blocks after n ≡ Some (volume_after n)
  leads_after n a = leads_after_of size blocks disk volume given n a

  third : (n : ℕ) → sequences_hold size after (volume_after n) ≡ true
  unfolding sequences_hold
  third n = reserve_agrees size blocks disk volume given

  -- a place before the kept one holds no whole anchor afterwards, where nothing was put at places
  passed_stays : anchors_hold blocks (layout_in size disk volume) disk volume ≡ true → (n : ℕ) → is_passed size blocks disk (taken_in size disk volume) n ≡ true
      → is_passed size blocks after (taken_in size disk volume) n ≡ true
  unfolding is_passed
  passed_stays holds n e =
      let parts = and_parts (is_outside (taken_in size disk volume) n) (is_none (anchor_in size blocks n (disk n))) e in
      and_from _ _ parts.0 (ap (λ b. is_none (anchor_in size blocks n b)) (outside_stays size blocks disk volume given holds n parts.0) ∙ parts.1)

  all_pass : anchors_hold blocks (layout_in size disk volume) disk volume ≡ true → (xs : List ℕ) → list_all (is_passed size blocks disk (taken_in size disk volume)) xs ≡ true
      → list_all (is_passed size blocks after (taken_in size disk volume)) xs ≡ true
  all_pass holds [] e = refl
  all_pass holds (x ∷ xs) e =
      let parts = and_parts (is_passed size blocks disk (taken_in size disk volume) x) (list_all (is_passed size blocks disk (taken_in size disk volume)) xs) e in
      and_from _ _ (passed_stays holds x parts.0) (all_pass holds xs parts.1)

  reached : (xs : List ℕ) → list_all (is_passed size blocks after (taken_in size disk volume)) (earlier volume.place xs) ≡ true → IsIn volume.place xs
      → kept_sequence_in size blocks after xs ≡ Some (volume_after volume.place)
  unfolding kept_sequence_in earlier
  reached [] e i = absurd i
  reached (x ∷ xs) e i = by_here (reached xs) (cases_eq x volume.place) i where
    by_here : (list_all (is_passed size blocks after (taken_in size disk volume)) (earlier volume.place xs) ≡ true → IsIn volume.place xs → kept_sequence_in size blocks after xs ≡ Some (volume_after volume.place))
        → (x ≡ volume.place) ⊎ (x ≡ volume.place → ⊥) → IsIn volume.place (x ∷ xs) → or_else (led_from size blocks after x) (kept_sequence_in size blocks after xs) ≡ Some (volume_after volume.place)
    by_here rest (inl here) j = ap (λ o. or_else o (kept_sequence_in size blocks after xs)) (ap (led_from size blocks after) here ∙ place_leads)
    by_here rest (inr apart) (inl here) = absurd (apart (sym here))
    by_here rest (inr apart) (inr later) =
        let past : list_all (is_passed size blocks after (taken_in size disk volume)) (x ∷ earlier volume.place xs) ≡ true =
        ap (λ b. list_all (is_passed size blocks after (taken_in size disk volume)) (cond b [] (x ∷ earlier volume.place xs))) (sym (ne_eqb x volume.place apart)) ∙ e in
        let parts = and_parts (is_passed size blocks after (taken_in size disk volume) x) (list_all (is_passed size blocks after (taken_in size disk volume)) (earlier volume.place xs)) past in
        ap (λ o. or_else o (kept_sequence_in size blocks after xs)) (passed_leads_none size blocks after (taken_in size disk volume) x parts.0) ∙ rest parts.1 later

  -- the volume is opened afterwards
  opens : (n : ℕ) → is_outside (taken_in size disk volume) n ≡ true → list_all (is_passed size blocks after (taken_in size disk volume)) (earlier n (places blocks)) ≡ true
      → ((m : ℕ) → IsIn m (n ∷ earlier n (places blocks)) → IsIn m (volume.place ∷ earlier volume.place (places blocks)))
      → is_opened_by size blocks after (Some (volume_after n)) ≡ true
  unfolding is_lawful are_places_lawful is_spared layout_of
  opens n e p fewer =
      let packets : are_packets blocks n (areas_in size volume) (packets_in size disk volume) ≡ true =
      packets_beside blocks volume.place n (areas_in size volume) (packets_in size disk volume) known.packets fewer in
      and_from _ _ known.profile
      (and_from _ _ (and_from _ _ known.lawful (and_from _ _ (outside_areas size disk volume n e) (passed_areas size blocks disk after volume (earlier n (places blocks)) p)))
      (and_from _ _ (table_stays size blocks disk volume given)
      (ap (λ t. are_packets blocks n (areas_in size volume) (packets_of t)) (used_stays size blocks disk volume given) ∙ packets)))

  parts_of : (m : ℕ) → IsIn m (eligible blocks (layout_in size disk volume)) → IsIn m (ascending_places blocks) × (is_eligible (taken_in size disk volume) m ≡ true)
  unfolding eligible
  parts_of m i = kept_in (is_eligible (taken_in size disk volume)) (ascending_places blocks) m i

  -- where the rule on anchors held, it holds
  second_stays : anchors_hold blocks (layout_in size disk volume) disk volume ≡ true → (n : ℕ) → anchors_hold blocks (layout_in size disk volume) after (volume_after n) ≡ true
  unfolding anchors_hold eligible
  second_stays holds n =
      let same : (m : ℕ) → IsIn m (eligible blocks (layout_in size disk volume)) → is_good volume.anchor m (after m) ≡ is_good volume.anchor m (disk m) =
      λ m i. ap (is_good volume.anchor m) (outside_stays size blocks disk volume given holds m
      (outside_by size blocks disk volume given m (parts_of m i).1)) in
      ap (λ xs. leb 2 (length xs) || list_all (λ m. is_good volume.anchor m (after m)) (eligible blocks (layout_in size disk volume)))
      (same_filter (λ m. is_good volume.anchor m (after m)) (λ m. is_good volume.anchor m (disk m)) (eligible blocks (layout_in size disk volume)) same)
      ∙ ap (λ b. leb 2 (length (filter (λ m. is_good volume.anchor m (disk m)) (eligible blocks (layout_in size disk volume)))) || b)
      (same_all (λ m. is_good volume.anchor m (after m)) (λ m. is_good volume.anchor m (disk m)) (eligible blocks (layout_in size disk volume)) same)
      ∙ holds

  -- where it was broken, all are good
  second_comes : anchors_hold blocks (layout_in size disk volume) disk volume ≡ false → (n : ℕ) → anchors_hold blocks (layout_in size disk volume) after (volume_after n) ≡ true
  unfolding anchors_hold eligible
  second_comes broken n =
      or_right _ _ (all_from (λ m. is_good volume.anchor m (after m)) (eligible blocks (layout_in size disk volume)) (λ m i.
      let parts = parts_of m i in
      good_from size blocks m (after m) volume.anchor (anchor_there size blocks disk volume given broken m parts.0 parts.1)))

  anchors_there : (n : ℕ) → anchors_hold blocks (layout_in size disk volume) after (volume_after n) ≡ true → anchors_hold blocks (layout_in size after (volume_after n)) after (volume_after n) ≡ true
  anchors_there n e = ap (λ layout. anchors_hold blocks layout after (volume_after n)) (layout_stays size blocks disk volume given n) ∙ e

  -- a place that stands earlier is one of those that the packets leave
  one_of : (n : ℕ) → StandsEarlier blocks volume.place n → IsIn n (volume.place ∷ earlier volume.place (places blocks))
  one_of n (inl same) = inl same
  one_of n (inr e) =
      let found = any_passes (λ place. eqb place n) (earlier volume.place (places blocks)) e in
      inr (subst (λ (k : ℕ). IsIn k (earlier volume.place (places blocks))) (eqb-true _ _ found.2) found.1)

  mends_kept : anchors_hold blocks (layout_in size disk volume) disk volume ≡ true → (place : ℕ) × IsMended size blocks disk volume (volume_after place) after
  mends_kept holds = (
    volume.place,
    record {
      is = reached (places blocks) (all_pass holds _ known.passed) known.member;
      same_anchor = refl;
      same_list = refl;
      same_layout = layout_stays size blocks disk volume given volume.place;
      place = inl refl;
      which = refl;
      opened = opens volume.place known.outside (all_pass holds _ known.passed) (λ m i. i);
      anchors = anchors_there volume.place (second_stays holds volume.place);
      sequences = third volume.place;
      tables = tables_after size blocks disk volume given;
    },
  )

  -- the first place leads, where the rule on anchors was broken
  first_eligible : (x : ℕ) (xs : List ℕ) → IsHigh (x ∷ xs) → IsIn volume.place (x ∷ xs) → (x ≡ volume.place → ⊥)
      → list_all (is_passed size blocks disk (taken_in size disk volume)) (earlier volume.place (x ∷ xs)) ≡ true → is_eligible (taken_in size disk volume) x ≡ true
  unfolding earlier is_passed is_eligible
  first_eligible x xs high (inl here) apart e = absurd (apart (sym here))
  first_eligible x xs high (inr later) apart e =
      let past : list_all (is_passed size blocks disk (taken_in size disk volume)) (x ∷ earlier volume.place xs) ≡ true =
      ap (λ b. list_all (is_passed size blocks disk (taken_in size disk volume)) (cond b [] (x ∷ earlier volume.place xs))) (sym (ne_eqb x volume.place apart)) ∙ e in
      let parts = and_parts (is_passed size blocks disk (taken_in size disk volume) x) (list_all (is_passed size blocks disk (taken_in size disk volume)) (earlier volume.place xs)) past in
      and_from _ _ (le-leb _ _ (high volume.place later)) (and_parts (is_outside (taken_in size disk volume) x) (is_none (anchor_in size blocks x (disk x))) parts.0).0

  mends_first : (xs : List ℕ) → places blocks ≡ xs → anchors_hold blocks (layout_in size disk volume) disk volume ≡ false → IsHigh xs → IsIn volume.place xs
      → list_all (is_passed size blocks disk (taken_in size disk volume)) (earlier volume.place xs) ≡ true
      → (place : ℕ) × IsMended size blocks disk volume (volume_after place) after
  unfolding kept_sequence_in earlier
  mends_first [] is broken high i e = absurd i
  mends_first (x ∷ xs) is broken high i e = (x, by_here (cases_eq x volume.place)) where
    none_before : list_all (is_passed size blocks after (taken_in size disk volume)) (earlier x (places blocks)) ≡ true
    none_before =
        ap (λ ys. list_all (is_passed size blocks after (taken_in size disk volume)) (earlier x ys)) is
        ∙ ap (λ b. list_all (is_passed size blocks after (taken_in size disk volume)) (cond b [] (x ∷ earlier x xs))) (eq-eqb x x refl)

    -- none is before the first
    alone : (m : ℕ) → IsIn m (x ∷ earlier x (places blocks)) → m ≡ x
    alone m (inl here) = here
    alone m (inr j) = absurd (subst (λ (ys : List ℕ). IsIn m ys) (ap (earlier x) is ∙ ap (λ (b : Bool). cond b [] (x ∷ earlier x xs)) (eq-eqb x x refl)) j)

    made : StandsEarlier blocks volume.place x → is_outside (taken_in size disk volume) x ≡ true → led_from size blocks after x ≡ Some (volume_after x)
        → IsMended size blocks disk volume (volume_after x) after
    made stands out l = record {
      is = ap (kept_sequence_in size blocks after) is ∙ ap (λ o. or_else o (kept_sequence_in size blocks after xs)) l;
      same_anchor = refl;
      same_list = refl;
      same_layout = layout_stays size blocks disk volume given x;
      place = stands;
      which = refl;
      opened = opens x out none_before (λ m i. subst (λ (k : ℕ). IsIn k (volume.place ∷ earlier volume.place (places blocks))) (sym (alone m i)) (one_of x stands));
      anchors = anchors_there x (second_comes broken x);
      sequences = third x;
      tables = tables_after size blocks disk volume given;
    }

    -- the first place is before the kept one
    first_earlier : (x ≡ volume.place → ⊥) → list_any (λ place. eqb place x) (earlier volume.place (places blocks)) ≡ true
    first_earlier apart =
        ap (λ ys. list_any (λ place. eqb place x) (earlier volume.place ys)) is
        ∙ ap (λ b. list_any (λ place. eqb place x) (cond b [] (x ∷ earlier volume.place xs))) (ne_eqb x volume.place apart)
        ∙ ap (λ b. b || list_any (λ place. eqb place x) (earlier volume.place xs)) (eq-eqb x x refl)

    by_here : (x ≡ volume.place) ⊎ (x ≡ volume.place → ⊥) → IsMended size blocks disk volume (volume_after x) after
    by_here (inl here) =
        made (inl here) (ap (is_outside (taken_in size disk volume)) here ∙ known.outside)
        (ap (led_from size blocks after) here ∙ place_leads ∙ ap (λ n. Some (volume_after n)) (sym here))
    by_here (inr apart) =
        let e1 = first_eligible x xs high i apart e in
        made (inr (first_earlier apart)) (outside_by size blocks disk volume given x e1)
        (leads_after x (anchor_there size blocks disk volume given broken x (to_ascending blocks x (subst (λ (ys : List ℕ). IsIn x ys) (sym is) (inl refl))) e1))

  -- THE LAW: afterwards the volume is the same but for where the kept anchor and sequence stand, it is opened, and the rules hold
  pub mends : (place : ℕ) × IsMended size blocks disk volume (volume_after place) after
  mends = by_rule (cases_Bool (anchors_hold blocks (layout_in size disk volume) disk volume)) where
    by_rule : (anchors_hold blocks (layout_in size disk volume) disk volume ≡ true) ⊎ (anchors_hold blocks (layout_in size disk volume) disk volume ≡ false) → (place : ℕ) × IsMended size blocks disk volume (volume_after place) after
    by_rule (inl holds) = mends_kept holds
    by_rule (inr broken) = mends_first (places blocks) refl broken (places_high blocks) known.member known.passed
