-- The recognition sequence as the code reads it.
use Rattle.std.proofs.Common.{◌≡◌, ℕ, zero, suc, ◌+◌, ◌/◌, ◌<◌, arith, below_more, refl, sym, ap, ◌∙◌, List, [], ◌∷◌, ◌++◌, map, Bool, true, false, cond, not, ◌&&◌, ◌||◌, Option, Some, None}
use Rattle.std.specs.Prelude.{is_some}
use Rattle.std.specs.List.{list_all, range_with_len}
use Rattle.std.proofs.lemmas.List.{map-append}
use Rattle.std.proofs.lemmas.List.FromFn.{map-range_with_len_more}
use Rattle.udf_volume_model.specs.Rules as model
use Rattle.udf_rules_model.specs.Recognition.{Recognition, binds, digit_of, identifier_at, identifiers, is_among, is_clear, is_recognised, known, others, recognition_findings, recognition_holds, slot_at, wanted_digit}
use Rattle.udf_rules_model.specs.Findings.{before_volume, recognition_of}
use Rattle.udf_model.specs.Image.{block_of}
use Rattle.udf_volume.specs.Taken.{IsOpenedOf}
use Rattle.udf_volume.specs.declared.opened.Opened.{Opened}
use Rattle.udf_rules_model.proofs.Fronts.{front_ends, front_stops}
use Rattle.udf_rules.specs.declared.finding.Place.TheVariants.{Sector}
use Rattle.udf_rules.specs.declared.structure.Structure.{Structure}
use Rattle.udf_rules.specs.Findings.{finding_of}
use Rattle.udf_rules.specs.Structures.{AreRead, digit_in, is_sequence_of, name_in, structure_named}
use Rattle.udf_rules.specs.Slots.{recognition_by}
use Rattle.udf_rules.proofs.Naming.{digit_named, named, sequence_named}

-- ---- tests of numbers from one on
module _ (p : ℕ → Bool) where
  pub one_fails : (a n i : ℕ) → i < n → p (a + i) ≡ false → false ≡ list_all p (range_with_len a n)
  one_fails a zero i l e = absurd (omega arith)
  one_fails a (suc n) zero l e =
      let same : a ≡ a + 0 = omega arith in
      sym (ap (λ b. b && list_all p (range_with_len (a + 1) n)) (ap p same ∙ e))
  one_fails a (suc n) (suc i) l e =
      let same : a + 1 + i ≡ a + suc i = omega arith in
      by (p a) (one_fails (a + 1) n i (omega arith) (ap p same ∙ e))
    where
      by : (b : Bool) → false ≡ list_all p (range_with_len (a + 1) n) → false ≡ (b && list_all p (range_with_len (a + 1) n))
      by true rest = rest
      by false rest = refl

  pub none_fails : (a n : ℕ) → ((k : ℕ) → k < n → p (a + k) ≡ true) → true ≡ list_all p (range_with_len a n)
  none_fails a zero all = refl
  none_fails a (suc n) all =
      let same : a ≡ a + 0 = omega arith in
      none_fails (a + 1) n (λ k h. let next : a + 1 + k ≡ a + suc k = omega arith in ap p next ∙ all (suc k) (omega arith))
      ∙ ap (λ b. b && list_all p (range_with_len (a + 1) n)) (sym (ap p same ∙ all 0 (omega arith)))

from_zero : (p : ℕ → Bool) (k : ℕ) (b : Bool) → p k ≡ b → p (0 + k) ≡ b
from_zero p k b e = let same : 0 + k ≡ k = omega arith in ap p same ∙ e

module _ (r : Recognition) where
  -- a slot does not unbind the rule
  abbrev pub is_needed : ℕ → Bool
  is_needed i = is_clear r i && not (is_among others (identifier_at r i))

  -- a slot is read
  abbrev pub is_read : ℕ → Bool
  is_read i = is_clear r i && is_among known (identifier_at r i)

  unclear : (b : Bool) (i : ℕ) → is_clear r i ≡ false → (is_clear r i && b) ≡ false
  unclear b i e = ap (λ c. c && b) e

  pub unbound : (i : ℕ) → i < 3 → is_needed i ≡ false → false ≡ binds r
  unfolding binds
  unbound i l e = one_fails is_needed 0 3 i l (from_zero is_needed i false e)

  pub bound : ((k : ℕ) → k < 3 → is_needed k ≡ true) → true ≡ binds r
  unfolding binds
  bound all = none_fails is_needed 0 3 (λ k h. from_zero is_needed k true (all k h))

  -- these structures stand in the first slots, which are read
  pub record AreFirst (i : ℕ) (xs : List Structure) : Type 0 where
    pub all : (k : ℕ) → k < i → is_read k ≡ true
    pub same : map Some xs ≡ map structure_named (map (identifier_at r) (range_with_len 0 i))

  pub none_first : AreFirst 0 []
  none_first = record { all = λ k h. absurd (omega arith); same = refl }

  pub one_more : (i : ℕ) (xs new : List Structure) (x : Structure) → AreFirst i xs → is_clear r i ≡ true → Some x ≡ structure_named (identifier_at r i) → new ≡ xs ++ x ∷ [] → AreFirst (i + 1) new
  one_more i xs new x so_far clear e is = record {
    all = λ k h. by_place k h;
    same =
        ap (map Some) is ∙ map-append Some xs (x ∷ [])
        ∙ ap (λ l. l ++ Some x ∷ []) so_far.same
        ∙ ap (λ o. map structure_named (map (identifier_at r) (range_with_len 0 i)) ++ o ∷ []) e
        ∙ sym (map-append structure_named (map (identifier_at r) (range_with_len 0 i)) (identifier_at r i ∷ []))
        ∙ sym (ap (map structure_named) (map-range_with_len_more (identifier_at r) 0 i i (omega arith)));
  }
    where
      here : is_read i ≡ true
      here =
          ap (λ c. c && is_among known (identifier_at r i)) clear
          ∙ sym (named (identifier_at r i)).known_is ∙ sym (ap (λ (o : Option Structure). is_some o) e)

      by_place : (k : ℕ) → k < i + 1 → is_read k ≡ true
      by_place k h = below_more (λ j. is_read j ≡ true) i so_far.all here k h

  pub stops_there : (i : ℕ) (xs : List Structure) → i < 64 → AreFirst i xs → is_read i ≡ false → AreRead r xs
  unfolding identifiers
  stops_there i xs l so_far e =
      so_far.same
      ∙ sym (ap (λ is. map structure_named (map (identifier_at r) is)) (front_stops is_read 0 64 i (λ k h. from_zero is_read k true (so_far.all k h)) l (from_zero is_read i false e)))

  pub all_read : (i : ℕ) (xs : List Structure) → i ≡ 64 → AreFirst i xs → AreRead r xs
  unfolding identifiers
  all_read i xs z so_far =
      so_far.same
      ∙ ap (λ n. map structure_named (map (identifier_at r) (range_with_len 0 n))) z
      ∙ sym (ap (λ is. map structure_named (map (identifier_at r) is)) (front_ends is_read 0 64 (λ k h. from_zero is_read k true (so_far.all k (omega (arith, z))))))

  pub unknown_there : (i : ℕ) → None ≡ structure_named (identifier_at r i) → is_read i ≡ false
  unknown_there i e =
      ap (λ b. is_clear r i && b) (sym (named (identifier_at r i)).known_is ∙ sym (ap (λ (o : Option Structure). is_some o) e)) ∙ never (is_clear r i)
    where
      never : (b : Bool) → (b && false) ≡ false
      never true = refl
      never false = refl

  name_there : (i : ℕ) (block : List ℕ) → block ≡ r.disk (slot_at r.size i) → name_in block ≡ identifier_at r i
  unfolding identifier_at
  name_there i block e = ap name_in e

  pub other_there : (i : ℕ) (block : List ℕ) (b : Bool) → is_clear r i ≡ true → block ≡ r.disk (slot_at r.size i) → b ≡ is_among others (name_in block) → is_needed i ≡ not b
  other_there i block b clear e is =
      ap (λ c. c && not (is_among others (identifier_at r i))) clear ∙ ap (λ n. not (is_among others n)) (sym (name_there i block e)) ∙ sym (ap not is)

  pub named_there : (i : ℕ) (block : List ℕ) (o : Option Structure) → block ≡ r.disk (slot_at r.size i) → o ≡ structure_named (name_in block) → o ≡ structure_named (identifier_at r i)
  named_there i block o e is = is ∙ ap structure_named (name_there i block e)

  -- ---- what is found
  module _ (partition : List ℕ) where
    abbrev found : model.Finding
    found = record { rule = 1; place = model.Sector (32768 / r.size); first = digit_of (identifiers r); second = wanted_digit partition }

    by_tests : (b s : Bool) → binds r ≡ b → is_recognised (identifiers r) ≡ s → recognition_findings r partition ≡ cond (not b || s) [] (found ∷ [])
    unfolding recognition_findings recognition_holds
    by_tests b s e f = ap (λ c. cond (not c || is_recognised (identifiers r)) [] (found ∷ [])) e ∙ ap (λ c. cond (not b || c) [] (found ∷ [])) f

    pub none_bound : binds r ≡ false → [] ≡ map finding_of (recognition_findings r partition)
    none_bound e = sym (ap (map finding_of) (by_tests false (is_recognised (identifiers r)) e refl))

    module _ (xs : List Structure) (read : AreRead r xs) where
      pub none_broken : is_sequence_of xs ≡ true → [] ≡ map finding_of (recognition_findings r partition)
      none_broken e =
          sym (ap (map finding_of) (by_tests (binds r) true refl (sym (sequence_named xs (identifiers r) read) ∙ e) ∙ ap (λ b. cond b [] (found ∷ [])) (always (not (binds r)))))
        where
          always : (b : Bool) → (b || true) ≡ true
          always true = refl
          always false = refl

      pub one_broken : (first second : ℕ) → binds r ≡ true → is_sequence_of xs ≡ false → first ≡ digit_in xs → second ≡ wanted_digit partition
          → record { rule = 1; place = Sector (32768 / r.size); first = first; second = second } ∷ [] ≡ map finding_of (recognition_findings r partition)
      one_broken first second b e f g =
          ap (λ n. record { rule = 1; place = Sector (32768 / r.size); first = n; second = second } ∷ []) (f ∙ digit_named xs (identifiers r) read)
          ∙ ap (λ n. record { rule = 1; place = Sector (32768 / r.size); first = digit_of (identifiers r); second = n } ∷ []) g
          ∙ sym (ap (map finding_of) (by_tests true false b (sym (sequence_named xs (identifiers r) read) ∙ e)))

-- the recognition sequence of an image's volume
pub recognition_is : (image : List ℕ) (opened : Opened) → IsOpenedOf image opened → recognition_of opened.volume image ≡ recognition_by opened (block_of opened.volume.size image)
unfolding recognition_of
recognition_is image opened is = sym (ap (λ l. record { size = opened.volume.size; blocks = opened.volume.blocks; disk = block_of opened.volume.size image; layout = l }) is.layout)

pub findings_are : (image : List ℕ) (opened : Opened) → IsOpenedOf image opened
    → map finding_of (recognition_findings (recognition_by opened (block_of opened.volume.size image)) (block_of opened.volume.size image opened.volume.pd)) ≡ map finding_of (before_volume opened.volume image)
unfolding before_volume
findings_are image opened is = sym (ap (λ r. map finding_of (recognition_findings r (block_of opened.volume.size image opened.volume.pd))) (recognition_is image opened is))
