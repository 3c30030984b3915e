-- What identifiers name, in the words of the definitions and in those of the code.
use Rattle.std.proofs.Common.{◌≡◌, ℕ, List, [], ◌∷◌, map, Bool, true, false, cond, ◌||◌, refl, sym, ap, ◌∙◌, subst, Option, Some, None}
use Rattle.std.specs.Prelude.{codes, is_some}
use Rattle.std.specs.List.{list_any}
use Rattle.std.specs.Str.{bytes_eq}
use Rattle.std.proofs.lemmas.Slice.Eq.{bytes_eq-Decides}
use Rattle.udf_rules_model.specs.Recognition.{begin, behind, digit_of, end, is_among, is_recognised, known, others, second_edition, volume_names}
use Rattle.udf_rules.specs.declared.structure.Stage.{Stage}
use Rattle.udf_rules.specs.declared.structure.Stage.TheVariants as stages
use Rattle.udf_rules.specs.declared.structure.Structure.{Structure}
use Rattle.udf_rules.specs.declared.structure.TheConstants.{SECOND_EDITION}
use Rattle.udf_rules.specs.Structures.{behind_in, digit_in, digit_or, is_at_stage, is_beginning, is_end, is_other, is_sequence_of, is_volume, structure_named}

pub second_is : SECOND_EDITION ≡ second_edition
second_is = refl

-- what is so of the structure, where there is one
abbrev pub of_some : (Structure → Bool) → Option Structure → Bool
of_some p None = false
of_some p (Some x) = p x

abbrev digit_of_some : Option Structure → ℕ → ℕ
digit_of_some None later = later
digit_of_some (Some x) later = digit_or x later

-- an identifier in both words
pub record IsNamed (n : List ℕ) : Type 0 where
  pub known_is : is_some (structure_named n) ≡ is_among known n
  pub other_is : of_some is_other (structure_named n) ≡ is_among others n
  pub beginning_is : of_some is_beginning (structure_named n) ≡ is_among begin n
  pub volume_is : of_some is_volume (structure_named n) ≡ is_among volume_names n
  pub end_is : of_some is_end (structure_named n) ≡ is_among end n
  pub digit_is : (later : ℕ) → digit_of_some (structure_named n) later ≡ cond (bytes_eq n (codes "NSR02")) 2 (cond (bytes_eq n (codes "NSR03")) 3 later)

module _ (n : List ℕ) where
  abbrev Is : List ℕ → Bool → Type 0
  Is name b = bytes_eq n name ≡ b

  same : (name : List ℕ) → Is name true → IsNamed name → IsNamed n
  same name e h = subst IsNamed (sym ((bytes_eq-Decides n name).0 e)) h

  unknown : Is (codes "BEA01") false → Is (codes "NSR02") false → Is (codes "NSR03") false → Is (codes "TEA01") false → Is (codes "CD001") false → Is (codes "CDW02") false
      → Is (codes "BOOT2") false → IsNamed n
  unknown a b c d e f g = record {
    known_is = simp (a, b, c, d, e, f, g);
    other_is = simp (a, b, c, d, e, f, g);
    beginning_is = simp (a, b, c, d, e, f, g);
    volume_is = simp (a, b, c, d, e, f, g);
    end_is = simp (a, b, c, d, e, f, g);
    digit_is = λ later. simp (a, b, c, d, e, f, g);
  }

  by_boot : (t : Bool) → Is (codes "BOOT2") t → Is (codes "BEA01") false → Is (codes "NSR02") false → Is (codes "NSR03") false → Is (codes "TEA01") false → Is (codes "CD001") false
      → Is (codes "CDW02") false → IsNamed n
  by_boot true e _ _ _ _ _ _ = same (codes "BOOT2") e (record { known_is = refl; other_is = refl; beginning_is = refl; volume_is = refl; end_is = refl; digit_is = λ later. refl })
  by_boot false g a b c d e f = unknown a b c d e f g

  by_disc : (t u : Bool) → Is (codes "CD001") t → Is (codes "CDW02") u → Is (codes "BEA01") false → Is (codes "NSR02") false → Is (codes "NSR03") false → Is (codes "TEA01") false → IsNamed n
  by_disc true u e _ _ _ _ _ = same (codes "CD001") e (record { known_is = refl; other_is = refl; beginning_is = refl; volume_is = refl; end_is = refl; digit_is = λ later. refl })
  by_disc false true _ f _ _ _ _ = same (codes "CDW02") f (record { known_is = refl; other_is = refl; beginning_is = refl; volume_is = refl; end_is = refl; digit_is = λ later. refl })
  by_disc false false e f a b c d = by_boot (bytes_eq n (codes "BOOT2")) refl a b c d e f

  by_all : (t u v w : Bool) → Is (codes "BEA01") t → Is (codes "NSR02") u → Is (codes "NSR03") v → Is (codes "TEA01") w → IsNamed n
  by_all true u v w e _ _ _ = same (codes "BEA01") e (record { known_is = refl; other_is = refl; beginning_is = refl; volume_is = refl; end_is = refl; digit_is = λ later. refl })
  by_all false true v w _ e _ _ = same (codes "NSR02") e (record { known_is = refl; other_is = refl; beginning_is = refl; volume_is = refl; end_is = refl; digit_is = λ later. refl })
  by_all false false true w _ _ e _ = same (codes "NSR03") e (record { known_is = refl; other_is = refl; beginning_is = refl; volume_is = refl; end_is = refl; digit_is = λ later. refl })
  by_all false false false true _ _ _ e = same (codes "TEA01") e (record { known_is = refl; other_is = refl; beginning_is = refl; volume_is = refl; end_is = refl; digit_is = λ later. refl })
  by_all false false false false a b c d = by_disc (bytes_eq n (codes "CD001")) (bytes_eq n (codes "CDW02")) refl refl a b c d

  pub named : IsNamed n
  named = by_all (bytes_eq n (codes "BEA01")) (bytes_eq n (codes "NSR02")) (bytes_eq n (codes "NSR03")) (bytes_eq n (codes "TEA01")) refl refl refl refl

pub other_named : (n : List ℕ) (x : Structure) (b : Bool) → Some x ≡ structure_named n → b ≡ is_other x → b ≡ is_among others n
other_named n x b e is = is ∙ ap (of_some is_other) e ∙ (named n).other_is

pub none_named : (n : List ℕ) → None ≡ structure_named n → false ≡ is_among others n
none_named n e = ap (of_some is_other) e ∙ (named n).other_is

-- ---- lists of them
abbrev pub AreNamed : List Structure → List (List ℕ) → Type 0
AreNamed xs ns = map Some xs ≡ map structure_named ns

first_named : (x : Structure) (xs : List Structure) (n : List ℕ) (ns : List (List ℕ)) → AreNamed (x ∷ xs) (n ∷ ns) → Some x ≡ structure_named n
first_named x xs n ns e = let h : Some x ∷ map Some xs ≡ structure_named n ∷ map structure_named ns = e in cc

rest_named : (x : Structure) (xs : List Structure) (n : List ℕ) (ns : List (List ℕ)) → AreNamed (x ∷ xs) (n ∷ ns) → AreNamed xs ns
rest_named x xs n ns e = let h : Some x ∷ map Some xs ≡ structure_named n ∷ map structure_named ns = e in cc

ends_named : (xs : List Structure) (ns : List (List ℕ)) → AreNamed xs ns → list_any is_end xs ≡ list_any (is_among end) ns
ends_named [] [] e = refl
ends_named [] (n ∷ ns) e = absurd (let h : [] ≡ structure_named n ∷ map structure_named ns = e in cc)
ends_named (x ∷ xs) [] e = absurd (let h : Some x ∷ map Some xs ≡ [] = e in cc)
ends_named (x ∷ xs) (n ∷ ns) e =
    ap (λ b. b || list_any is_end xs) (ap (of_some is_end) (first_named x xs n ns e) ∙ (named n).end_is)
    ∙ ap (λ b. is_among end n || b) (ends_named xs ns (rest_named x xs n ns e))

module _ (stage : Stage) (names : List (List ℕ)) (at : (n : List ℕ) → of_some (is_at_stage stage) (structure_named n) ≡ is_among names n) where
  behind_named : (xs : List Structure) (ns : List (List ℕ)) → AreNamed xs ns → AreNamed (behind_in stage xs) (behind names ns)
  behind_named [] [] e = refl
  behind_named [] (n ∷ ns) e = absurd (let h : [] ≡ structure_named n ∷ map structure_named ns = e in cc)
  behind_named (x ∷ xs) [] e = absurd (let h : Some x ∷ map Some xs ≡ [] = e in cc)
  behind_named (x ∷ xs) (n ∷ ns) e =
      let rest = rest_named x xs n ns e in
      by (is_at_stage stage x) (is_among names n) (ap (of_some (is_at_stage stage)) (first_named x xs n ns e) ∙ at n) rest (behind_named xs ns rest)
    where
      by : (a b : Bool) → a ≡ b → AreNamed xs ns → AreNamed (behind_in stage xs) (behind names ns) → AreNamed (cond a xs (behind_in stage xs)) (cond b ns (behind names ns))
      by true true q here later = here
      by false false q here later = later
      by true false q here later = absurd (let no : true ≡ false = q in cc)
      by false true q here later = absurd (let no : false ≡ true = q in cc)

pub sequence_named : (xs : List Structure) (ns : List (List ℕ)) → AreNamed xs ns → is_sequence_of xs ≡ is_recognised ns
unfolding is_recognised
sequence_named xs ns e =
    ends_named (behind_in stages.Volume (behind_in stages.Beginning xs)) (behind volume_names (behind begin ns))
    (behind_named stages.Volume volume_names (λ n. (named n).volume_is) (behind_in stages.Beginning xs) (behind begin ns)
    (behind_named stages.Beginning begin (λ n. (named n).beginning_is) xs ns e))

pub digit_named : (xs : List Structure) (ns : List (List ℕ)) → AreNamed xs ns → digit_in xs ≡ digit_of ns
digit_named [] [] e = refl
digit_named [] (n ∷ ns) e = absurd (let h : [] ≡ structure_named n ∷ map structure_named ns = e in cc)
digit_named (x ∷ xs) [] e = absurd (let h : Some x ∷ map Some xs ≡ [] = e in cc)
digit_named (x ∷ xs) (n ∷ ns) e =
    ap (λ o. digit_of_some o (digit_in xs)) (first_named x xs n ns e)
    ∙ (named n).digit_is (digit_in xs)
    ∙ ap (λ d. cond (bytes_eq n (codes "NSR02")) 2 (cond (bytes_eq n (codes "NSR03")) 3 d)) (digit_named xs ns (rest_named x xs n ns e))
