-- The used entries of a list, and of the list with one entry more.
use Rattle.std.proofs.Common.{◌≡◌, ℕ, ◌≤◌, ◌==◌, length, Bool, true, false, not, ◌||◌, cond, arith, refl, sym, ap, ◌∙◌, Some, is_some, Result, Ok, Err, List, [], ◌∷◌, ◌++◌}
use Rattle.std.specs.List.{list_any, find, filter}
use Rattle.std.specs.Option.{option_map}
use Rattle.std.specs.Result.{IfOk}
use Rattle.std.proofs.lemmas.Bool.Decides.{nat_tests}
use Rattle.std.proofs.lemmas.List.{append-nil}
use Rattle.std.proofs.lemmas.List.Elements.{filter-append}
use Rattle.udf_layer.specs.Indexes.{mapped_from}
use Rattle.udf_volume_model.specs.SparingTable.{firsts, is_original, used_pairs}

-- the entries of an original
abbrev of : ℕ → ℕ × ℕ → Bool
of q pair = pair.0 == q

-- the entries of other originals
abbrev others : ℕ × ℕ → ℕ × ℕ → Bool
others entry other = not (other.0 == entry.0)

filter_one : {X : Type 0} (keep : X → Bool) (x : X) → filter keep (x ∷ []) ≡ cond (keep x) (x ∷ []) []
filter_one keep x = refl

-- what is left of one more entry
unfoldable more_of : ℕ × ℕ → List (ℕ × ℕ) → List (ℕ × ℕ)
more_of entry list = cond (list_any (of entry.0) list) [] (entry ∷ [])

-- an entry of a kept original is kept
any_kept : (keep : ℕ × ℕ → Bool) (q : ℕ) (list : List (ℕ × ℕ)) → ((pair : ℕ × ℕ) → (pair.0 == q) ≡ true → keep pair ≡ true)
    → list_any (of q) (filter keep list) ≡ list_any (of q) list
any_kept keep q [] all = refl
any_kept keep q (pair ∷ list) all = by (keep pair) (pair.0 == q) refl refl (any_kept keep q list all)
  where
    by : (k b : Bool) → keep pair ≡ k → (pair.0 == q) ≡ b → list_any (of q) (filter keep list) ≡ list_any (of q) list
        → list_any (of q) (cond k (pair ∷ filter keep list) (filter keep list)) ≡ ((pair.0 == q) || list_any (of q) list)
    by true b e f h = ap (λ t. (pair.0 == q) || t) h
    by false true e f h = let k : keep pair ≡ true = all pair f in absurd (cc)
    by false false e f h = h ∙ sym (ap (λ t. t || list_any (of q) list) f)

any_firsts : (q : ℕ) (list : List (ℕ × ℕ)) → list_any (of q) (firsts list) ≡ list_any (of q) list
unfolding firsts
any_firsts q [] = refl
any_firsts q (entry ∷ list) = by (entry.0 == q) refl (any_firsts q list)
  where
    by : (b : Bool) → (entry.0 == q) ≡ b → list_any (of q) (firsts list) ≡ list_any (of q) list
        → ((entry.0 == q) || list_any (of q) (filter (others entry) (firsts list))) ≡ ((entry.0 == q) || list_any (of q) list)
    by true e h = ap (λ t. t || list_any (of q) (filter (others entry) (firsts list))) e ∙ sym (ap (λ t. t || list_any (of q) list) e)
    by false e h = ap (λ t. (entry.0 == q) || t) (any_kept (others entry) q (firsts list) (λ pair f. grind (arith, nat_tests)) ∙ h)

either : (x : Bool) → (x || true) ≡ true
either true = refl
either false = refl

push_by : (first entry : ℕ × ℕ) (a b : Bool) → (first.0 == entry.0) ≡ b
    → filter (others first) (cond a [] (entry ∷ [])) ≡ cond ((first.0 == entry.0) || a) [] (entry ∷ [])
push_by first entry true b e = sym (ap (λ t. cond t [] (entry ∷ [])) (either (first.0 == entry.0)))
push_by first entry false true e =
    let back : (entry.0 == first.0) ≡ true = grind (arith, nat_tests) in
    ap (λ t. cond (not t) (entry ∷ []) []) back ∙ sym (ap (λ t. cond (t || false) [] (entry ∷ [])) e)
push_by first entry false false e =
    let back : (entry.0 == first.0) ≡ false = grind (arith, nat_tests) in
    ap (λ t. cond (not t) (entry ∷ []) []) back ∙ sym (ap (λ t. cond (t || false) [] (entry ∷ [])) e)

firsts_push : (list : List (ℕ × ℕ)) (entry : ℕ × ℕ) → firsts (list ++ entry ∷ []) ≡ firsts list ++ more_of entry list
unfolding firsts more_of
firsts_push [] entry = refl
firsts_push (first ∷ list) entry =
    ap (λ l. first ∷ filter (others first) l) (firsts_push list entry)
    ∙ ap (λ l. first ∷ l) (filter-append (others first) (firsts list) (more_of entry list)
    ∙ ap (λ l. filter (others first) (firsts list) ++ l) (push_by first entry (list_any (of entry.0) list) (first.0 == entry.0) refl))

used_push : (packet blocks : ℕ) (list : List (ℕ × ℕ)) (entry : ℕ × ℕ)
    → used_pairs packet blocks (list ++ entry ∷ []) ≡ used_pairs packet blocks list ++ filter (λ other. is_original packet blocks other.0) (more_of entry list)
unfolding used_pairs
used_push packet blocks list entry =
    ap (filter (λ other. is_original packet blocks other.0)) (firsts_push list entry)
    ∙ filter-append (λ other. is_original packet blocks other.0) (firsts list) (more_of entry list)

any_used : (packet blocks q : ℕ) (list : List (ℕ × ℕ)) → is_original packet blocks q ≡ true
    → list_any (of q) (used_pairs packet blocks list) ≡ list_any (of q) list
unfolding used_pairs
any_used packet blocks q list is =
    any_kept (λ other. is_original packet blocks other.0) q (firsts list)
    (λ pair e. let same : pair.0 ≡ q = grind (arith, nat_tests) in ap (is_original packet blocks) same ∙ is)
    ∙ any_firsts q list

mapped_any : (pairs : List (ℕ × ℕ)) (q : ℕ) → is_some (mapped_from pairs q) ≡ list_any (of q) pairs
mapped_any [] q = refl
mapped_any (pair ∷ pairs) q = by (pair.0 == q) (mapped_any pairs q)
  where
    by : (b : Bool) → is_some (mapped_from pairs q) ≡ list_any (of q) pairs
        → is_some (option_map (λ (p : ℕ × ℕ). p.1) (cond b (Some pair) (find (of q) pairs))) ≡ (b || list_any (of q) pairs)
    by true h = refl
    by false h = h

module _ (packet blocks : ℕ) (pairs list : List (ℕ × ℕ)) (entry : ℕ × ℕ) (is : pairs ≡ used_pairs packet blocks list) where
  abbrev keeps : ℕ × ℕ → Bool
  keeps other = is_original packet blocks other.0

  had : is_original packet blocks entry.0 ≡ true → (b : Bool) → is_some (mapped_from pairs entry.0) ≡ b → list_any (of entry.0) list ≡ b
  had original b e =
      sym (any_used packet blocks entry.0 list original) ∙ ap (list_any (of entry.0)) (sym is) ∙ sym (mapped_any pairs entry.0) ∙ e

  -- an entry that is no packet of the partition is not used
  pub not_original : is_original packet blocks entry.0 ≡ false → pairs ≡ used_pairs packet blocks (list ++ entry ∷ [])
  unfolding more_of
  not_original off =
      is ∙ sym (used_push packet blocks list entry ∙ ap (λ l. used_pairs packet blocks list ++ l) (nothing (list_any (of entry.0) list)) ∙ append-nil (used_pairs packet blocks list))
    where
      nothing : (a : Bool) → filter keeps (cond a [] (entry ∷ [])) ≡ []
      nothing true = refl
      nothing false = ap (λ t. cond t (entry ∷ []) []) off

  -- nor is one whose original an earlier one has
  pub comes_again : is_original packet blocks entry.0 ≡ true → is_some (mapped_from pairs entry.0) ≡ true → pairs ≡ used_pairs packet blocks (list ++ entry ∷ [])
  unfolding more_of
  comes_again original again =
      is ∙ sym (used_push packet blocks list entry
      ∙ ap (λ t. used_pairs packet blocks list ++ filter keeps (cond t [] (entry ∷ []))) (had original true again) ∙ append-nil (used_pairs packet blocks list))

  pub is_used : is_original packet blocks entry.0 ≡ true → is_some (mapped_from pairs entry.0) ≡ false → pairs ++ entry ∷ [] ≡ used_pairs packet blocks (list ++ entry ∷ [])
  unfolding more_of
  is_used original new =
      ap (λ l. l ++ entry ∷ []) is ∙ sym (used_push packet blocks list entry
      ∙ ap (λ t. used_pairs packet blocks list ++ filter keeps (cond t [] (entry ∷ []))) (had original false new)
      ∙ ap (λ t. used_pairs packet blocks list ++ cond t (entry ∷ []) []) original)

-- no more entries are used than there are
few_kept : (keep : ℕ × ℕ → Bool) (list : List (ℕ × ℕ)) → length (filter keep list) ≤ length list
few_kept keep [] = omega arith
few_kept keep (entry ∷ list) = by (keep entry) (few_kept keep list)
  where
    by : (b : Bool) → length (filter keep list) ≤ length list → length (cond b (entry ∷ filter keep list) (filter keep list)) ≤ length (entry ∷ list)
    by true h = omega arith
    by false h = omega arith

few_firsts : (list : List (ℕ × ℕ)) → length (firsts list) ≤ length list
unfolding firsts
few_firsts [] = omega arith
few_firsts (entry ∷ list) = omega (arith, few_kept (others entry) (firsts list), few_firsts list)

pub used_few : (packet blocks : ℕ) (list : List (ℕ × ℕ)) → length (used_pairs packet blocks list) ≤ length list
unfolding used_pairs
used_few packet blocks list = omega (arith, few_kept (λ other. is_original packet blocks other.0) (firsts list), few_firsts list)

-- what holds of a table that is given holds of what follows from it
pub if_ok : {T E : Type 0} (r : Result T E) (P Q : T → Type 0) → IfOk r P → ((t : T) → P t → Q t) → IfOk r Q
if_ok (Ok t) P Q p f = f t p
if_ok (Err e) P Q p f = tt
