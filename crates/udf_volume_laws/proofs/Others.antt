-- Images that agree where a volume is read from.
use Rattle.std.proofs.Common.{◌≡◌, ℕ, ◌/◌, ◌≤◌, arith, sym, ◌∙◌, ap, subst, List, [], ◌∷◌, length, Bool, true, false, not, ◌&&◌, eqb, ltb, Some, inl, inr}
use Rattle.std.specs.List.{list_all, list_any}
use Rattle.std.proofs.lemmas.Bool.{and_parts, and_from, or_left, or_right, eqb-true, eq-eqb, lt-ltb, ltb-true, not-true}
use Rattle.udf_model.specs.Image.{block_of, blocks_in}
use Rattle.udf_volume_model.specs.Anchor.{places}
use Rattle.udf_volume_model.specs.Kept.{KeptSequence, kept_sequence_of}
use Rattle.udf_volume_model.specs.Areas.{Area, area_of, table_areas, covers}
use Rattle.udf_volume_model.specs.Rules.{anchors_hold, sequences_hold}
use Rattle.udf_volume_model.specs.SparingRule.{tables_hold}
use Rattle.udf_volume_model.specs.AllRules.{layout_in, rules_hold}
use Rattle.udf_volume_model.specs.Edits.{look, put_blocks, are_edits, is_off}
use Rattle.udf_volume_model.specs.Opened.{is_opened_by, is_opened, is_volume_unbroken_by, is_volume_unbroken}
use Rattle.udf_volume_model.specs.Same.{is_read, IsUnmoved}
use Rattle.udf_volume_laws.proofs.Members.{IsIn}
use Rattle.udf_volume_laws.proofs.Puts.{AreWithin, IsOff, off, all_length, block_after}
use Rattle.udf_volume_laws.proofs.Within.{block_ends}
use Rattle.udf_volume_laws.proofs.Apart.{covered}
use Rattle.udf_volume_laws.proofs.Taken.{IsOpened}
use Rattle.udf_volume_laws.proofs.Frame.{AgreeOn, frame, same_anchors, same_sequences, same_tables}
use Rattle.udf_volume_laws.proofs.Final.{held_of, block_length}

made : (size : ℕ) (image other : List ℕ) (volume : KeptSequence) → is_opened size image ≡ true → kept_sequence_of size image ≡ Some volume
    → IsOpened size (blocks_in size other) (block_of size other) volume
    → rules_hold size (blocks_in size image) (block_of size image) volume ≡ rules_hold size (blocks_in size other) (block_of size other) volume → IsUnmoved size image other
unfolding kept_sequence_of is_opened is_volume_unbroken
made size image other volume opened is a same = record {
  volume = a.is ∙ sym is;
  opened = and_from _ _ (lt-ltb _ _ a.small) (ap (is_opened_by size (blocks_in size other) (block_of size other)) a.is ∙ a.opened) ∙ sym opened;
  unbroken = ap (is_volume_unbroken_by size other) a.is ∙ sym same ∙ ap (is_volume_unbroken_by size image) (sym is);
}

same_rules : (size blocks : ℕ) (disk other : ℕ → List ℕ) (volume : KeptSequence) → IsOpened size blocks disk volume → AgreeOn size blocks disk other volume
    → rules_hold size blocks disk volume ≡ rules_hold size blocks other volume
unfolding rules_hold
same_rules size blocks disk other volume held agree =
    ap (λ b. b && (sequences_hold size disk volume && tables_hold size disk volume.list)) (same_anchors size blocks disk other volume held agree)
    ∙ ap (λ b. anchors_hold blocks (layout_in size other volume) other volume && (b && tables_hold size disk volume.list)) (same_sequences size blocks disk other volume held agree)
    ∙ ap (λ b. anchors_hold blocks (layout_in size other volume) other volume && (sequences_hold size other volume && b)) (same_tables size blocks disk other volume held agree)

named : (n : ℕ) (xs : List ℕ) → IsIn n xs → list_any (λ place. eqb place n) xs ≡ true
named n [] i = absurd i
named n (x ∷ xs) (inl e) = or_left _ _ (eq-eqb _ _ (sym e))
named n (x ∷ xs) (inr i) = or_right _ _ (named n xs i)

some_covers : (n : ℕ) (areas : List Area) (area : Area) → IsIn area areas → covers area n ≡ true → list_any (λ a. covers a n) areas ≡ true
some_covers n [] area i c = absurd i
some_covers n (first ∷ areas) area (inl e) c = or_left _ _ (ap (λ a. covers a n) (sym e) ∙ c)
some_covers n (first ∷ areas) area (inr i) c = or_right _ _ (some_covers n areas area i c)

agreed : (size blocks : ℕ) (disk other : ℕ → List ℕ) (volume : KeptSequence) → ((n : ℕ) → is_read size blocks disk volume n ≡ true → disk n ≡ other n) → AgreeOn size blocks disk other volume
unfolding is_read
agreed size blocks disk other volume h = record {
  main = λ n l k. h n (or_left (main n) _ (covered (area_of size volume.anchor.main) n l k));
  reserve = λ n l k. h n (or_right (main n) _ (or_left (reserve n) _ (covered (area_of size volume.anchor.reserve) n l k)));
  tables = λ area n i c. h n (or_right (main n) _ (or_right (reserve n) _ (or_left (tables n) _ (some_covers n (table_areas size volume.list) area i c))));
  at_places = λ n i e. h n (or_right (main n) _ (or_right (reserve n) _ (or_right (tables n) _ (and_from _ _ (named n (places blocks) i) e))));
} where
  main : ℕ → Bool
  main n = covers (area_of size volume.anchor.main) n

  reserve : ℕ → Bool
  reserve n = covers (area_of size volume.anchor.reserve) n

  tables : ℕ → Bool
  tables n = list_any (λ area. covers area n) (table_areas size volume.list)

pub unmoved : (size : ℕ) (image other : List ℕ) (volume : KeptSequence) → 512 ≤ size → is_opened size image ≡ true → kept_sequence_of size image ≡ Some volume
    → length other ≡ length image
    → ((n : ℕ) → is_read size (blocks_in size image) (block_of size image) volume n ≡ true → block_of size other n ≡ block_of size image n) → IsUnmoved size image other
unmoved size image other volume large a is long same =
    let held = held_of size image volume large a is in
    let agree = agreed size (blocks_in size image) (block_of size image) (block_of size other) volume (λ n e. sym (same n e)) in
    let count : blocks_in size other ≡ blocks_in size image = ap (λ n. n / size) long in
    let next = frame size (blocks_in size image) (block_of size image) (block_of size other) volume held agree
    (λ n l. block_length size other n (omega (arith, count))) in
    made size image other volume a is
    (subst (λ (n : ℕ). IsOpened size n (block_of size other) volume) (sym count) next)
    (same_rules size (blocks_in size image) (block_of size image) (block_of size other) volume held agree
    ∙ ap (λ n. rules_hold size n (block_of size other) volume) (sym count))

-- edits by their tests
within : (size : ℕ) (image : List ℕ) (edits : List (ℕ × List ℕ)) → are_edits size (blocks_in size image) edits ≡ true → AreWithin size (length image) edits
unfolding are_edits
within size image [] e = tt
within size image (edit ∷ edits) e =
    let parts = and_parts (eqb (length edit.1) size && ltb edit.0 (blocks_in size image)) (list_all (λ x. eqb (length x.1) size && ltb x.0 (blocks_in size image)) edits) e in
    let here = and_parts (eqb (length edit.1) size) (ltb edit.0 (blocks_in size image)) parts.0 in
    (eqb-true _ _ here.0, block_ends size (length image) edit.0 (ltb-true _ _ here.1), within size image edits parts.1)

nowhere : (n : ℕ) (edits : List (ℕ × List ℕ)) → is_off n edits ≡ true → IsOff n edits
unfolding is_off
nowhere n [] e = tt
nowhere n (edit ∷ edits) e =
    let parts = and_parts (not (eqb edit.0 n)) (list_all (λ x. not (eqb x.0 n)) edits) e in
    ((λ is. let f : eqb edit.0 n ≡ false = not-true _ parts.0 in let t : eqb edit.0 n ≡ true = eq-eqb _ _ (sym is) in absurd (cc)), nowhere n edits parts.1)

pub put_length : (size : ℕ) (image : List ℕ) (edits : List (ℕ × List ℕ)) → are_edits size (blocks_in size image) edits ≡ true → length (put_blocks size edits image) ≡ length image
put_length size image edits e = all_length size edits image (within size image edits e)

pub put_block_is : (size : ℕ) (image : List ℕ) (edits : List (ℕ × List ℕ)) (n : ℕ) → are_edits size (blocks_in size image) edits ≡ true
    → block_of size (put_blocks size edits image) n ≡ look n edits (block_of size image n)
put_block_is size image edits n e = block_after size edits image n (within size image edits e)

pub look_off : (n : ℕ) (edits : List (ℕ × List ℕ)) (block : List ℕ) → is_off n edits ≡ true → look n edits block ≡ block
look_off n edits block e = off n edits block (nowhere n edits e)

pub elsewhere : (size : ℕ) (image : List ℕ) (volume : KeptSequence) (edits : List (ℕ × List ℕ)) → 512 ≤ size → is_opened size image ≡ true → kept_sequence_of size image ≡ Some volume
    → are_edits size (blocks_in size image) edits ≡ true → ((n : ℕ) → is_read size (blocks_in size image) (block_of size image) volume n ≡ true → is_off n edits ≡ true)
    → IsUnmoved size image (put_blocks size edits image)
elsewhere size image volume edits large a is fit apart =
    unmoved size image (put_blocks size edits image) volume large a is (put_length size image edits fit)
    (λ n e. put_block_is size image edits n fit ∙ look_off n edits (block_of size image n) (apart n e))
