-- A plan that is made along wanted blocks in ascending order, from one to the next.
use Rattle.std.proofs.Common.{◌≡◌, ◌⊎◌, inl, inr, ℕ, ◌+◌, ◌*◌, ◌<◌, ◌≤◌, arith, refl, sym, ◌∙◌, ap, subst, List, [], ◌∷◌, ◌++◌, length, append-nil, append_assoc, Bool, true, false, cond, not, ltb, Some, None}
use Rattle.std.proofs.Math.Nat.{mul-le-mul_right}
use Rattle.std.specs.List.{list_all}
use Rattle.std.specs.Str.{bytes_eq}
use Rattle.std.proofs.lemmas.Bool.{and_parts, and_from, cases_eq, eq-eqb, eqb-true, ne_eqb, lt-ltb, ltb-true}
use Rattle.std.proofs.lemmas.List.Folds.{list_all-append}
use Rattle.udf_volume_model.specs.Areas.{covers}
use Rattle.udf_volume_model.specs.Edits.{look}
use Rattle.udf_volume_model.specs.Plans.{planned, ClimbsFrom}
use Rattle.udf_volume_laws.proofs.Puts.{look_here, look_past}
use Rattle.udf_volume_laws.proofs.Same.{bytes_same}
use Rattle.udf_volume.specs.declared.volume.Volume.{Volume}
use Rattle.udf_blocks.specs.Planned.{Planned, IsLawful, are_at, are_below}
use Rattle.udf_blocks.specs.PlanFor.{sealed_stated, IsPlanFor}
use Rattle.udf_wanted.specs.Wanted.{differing, changed}
use Rattle.udf_wanted.specs.Writable.{is_free, is_writable, AreWritable}

-- a block that was compared
pub nothing_added : (plan : Planned) (sector : ℕ) (now wanted : List ℕ) → bytes_eq now wanted ≡ true
    → plan ≡ record plan { blocks = plan.blocks ++ differing (λ _. now) ((sector, wanted) ∷ []) }
unfolding differing
nothing_added plan sector now wanted e =
    sym (ap (λ b. record { size = plan.size; blocks = plan.blocks ++ cond (not b) ((sector, wanted) ∷ []) [] }) e
    ∙ ap (λ (blocks : List (ℕ × List ℕ)). record { size = plan.size; blocks = blocks }) (append-nil plan.blocks))

pub one_added : (plan next : Planned) (sector : ℕ) (now wanted : List ℕ) → bytes_eq now wanted ≡ false
    → next ≡ record plan { blocks = plan.blocks ++ (sector, wanted) ∷ [] }
    → next ≡ record plan { blocks = plan.blocks ++ differing (λ _. now) ((sector, wanted) ∷ []) }
unfolding differing
one_added plan next sector now wanted e is =
    is ∙ sym (ap (λ b. record { size = plan.size; blocks = plan.blocks ++ cond (not b) ((sector, wanted) ∷ []) [] }) e)

-- one more block, or none
joined : (b : Bool) (plan : List (ℕ × List ℕ)) (edit : ℕ × List ℕ) (rest : List (ℕ × List ℕ))
    → plan ++ cond b (edit ∷ rest) rest ≡ (plan ++ cond b (edit ∷ []) []) ++ rest
joined true plan edit rest = sym (append_assoc plan (edit ∷ []) rest)
joined false plan edit rest = ap (λ p. p ++ rest) (sym (append-nil plan))

module _ (now : List ℕ) (sector : ℕ) (after : List ℕ) (plan next rest : List (ℕ × List ℕ)) (is : next ≡ plan ++ differing (λ _. now) ((sector, after) ∷ [])) where
  stepped : plan ++ cond (not (bytes_eq now after)) ((sector, after) ∷ rest) rest ≡ next ++ rest
  unfolding differing
  stepped = joined (not (bytes_eq now after)) plan (sector, after) rest ∙ ap (λ p. p ++ rest) (sym is)

  -- what stood behind the plan is put to it where it differs
  pub next_added : (disk : ℕ → List ℕ) (whole : List (ℕ × List ℕ)) → now ≡ disk sector → plan ++ differing disk ((sector, after) ∷ rest) ≡ whole
      → next ++ differing disk rest ≡ whole
  unfolding differing
  next_added disk whole same e =
      ap (λ p. p ++ differing disk rest) is
      ∙ sym (joined (not (bytes_eq now after)) plan (sector, after) (differing disk rest))
      ∙ ap (λ b. plan ++ cond (not (bytes_eq b after)) ((sector, after) ∷ differing disk rest) (differing disk rest)) same ∙ e

  pub next_all : (test : ℕ × List ℕ → Bool) → list_all test (plan ++ (sector, after) ∷ rest) ≡ true → list_all test (next ++ rest) ≡ true
  next_all test e = ap (list_all test) (sym stepped) ∙ by_test (not (bytes_eq now after)) where
    parts : (list_all test plan ≡ true) × (list_all test ((sector, after) ∷ rest) ≡ true)
    parts = and_parts (list_all test plan) (list_all test ((sector, after) ∷ rest)) (sym (list_all-append test plan ((sector, after) ∷ rest)) ∙ e)

    by_test : (b : Bool) → list_all test (plan ++ cond b ((sector, after) ∷ rest) rest) ≡ true
    by_test true = e
    by_test false = list_all-append test plan rest ∙ and_from _ _ parts.0 (and_parts (test (sector, after)) (list_all test rest) parts.1).1

  pub next_climbs : ClimbsFrom 0 (plan ++ (sector, after) ∷ rest) → ClimbsFrom 0 (next ++ rest)
  next_climbs c = subst (λ (edits : List (ℕ × List ℕ)). ClimbsFrom 0 edits) stepped (by_test (not (bytes_eq now after))) where
    lower : (low from : ℕ) (edits : List (ℕ × List ℕ)) → low ≤ from → ClimbsFrom from edits → ClimbsFrom low edits
    lower low from [] h k = tt
    lower low from (edit ∷ edits) h k = (omega (arith, k.0), k.1)

    without : (from : ℕ) (edits : List (ℕ × List ℕ)) → ClimbsFrom from (edits ++ (sector, after) ∷ rest) → ClimbsFrom from (edits ++ rest)
    without from [] k = lower from (sector + 1) rest (omega (arith, k.0)) k.1
    without from (edit ∷ edits) k = (k.0, without (edit.0 + 1) edits k.1)

    by_test : (b : Bool) → ClimbsFrom 0 (plan ++ cond b ((sector, after) ∷ rest) rest)
    by_test true = c
    by_test false = without 0 plan c

-- the plan so far is below the next block
at_least : (from sector : ℕ) (after : List ℕ) (plan rest : List (ℕ × List ℕ)) → ClimbsFrom from (plan ++ (sector, after) ∷ rest) → from ≤ sector
at_least from sector after [] rest c = c.0
at_least from sector after (edit ∷ plan) rest c = omega (arith, c.0, at_least (edit.0 + 1) sector after plan rest c.1)

pub next_above : (from sector : ℕ) (after : List ℕ) (plan rest : List (ℕ × List ℕ)) → ClimbsFrom from (plan ++ (sector, after) ∷ rest) → are_below sector plan ≡ true
unfolding are_at
next_above from sector after [] rest c = refl
next_above from sector after (edit ∷ plan) rest c =
    and_from _ _ (lt-ltb _ _ (omega (arith, at_least (edit.0 + 1) sector after plan rest c.1))) (next_above (edit.0 + 1) sector after plan rest c.1)

-- of a writable block
module _ (volume : Volume) where
  free_parts : (n : ℕ) → is_free volume n ≡ true → (n < volume.blocks) × (not (covers (sealed_stated volume) n) ≡ true)
  unfolding is_free
  free_parts n e = let parts = and_parts (ltb n volume.blocks) _ e in (ltb-true _ _ parts.0, parts.1)

  pub free_inside : (n : ℕ) → is_free volume n ≡ true → n < volume.blocks
  free_inside n e = (free_parts n e).0

  writable_parts : (edit : ℕ × List ℕ) → is_writable volume edit ≡ true → (is_free volume edit.0 ≡ true) × (length edit.1 ≡ volume.size)
  unfolding is_writable
  writable_parts edit e = let parts = and_parts (is_free volume edit.0) _ e in (parts.0, eqb-true _ _ parts.1)

  pub writable : (edit : ℕ × List ℕ) → is_free volume edit.0 ≡ true → length edit.1 ≡ volume.size → is_writable volume edit ≡ true
  unfolding is_writable
  writable edit f l = and_from _ _ f (eq-eqb _ _ l)

  -- the next block is in the image and whole
  pub next_fits : (plan rest left : List (ℕ × List ℕ)) (sector : ℕ) (after : List ℕ) → left ≡ (sector, after) ∷ rest → AreWritable volume (plan ++ left)
      → (sector < volume.blocks) × (length after ≡ volume.size)
  next_fits plan rest left sector after e all =
      let parts = and_parts (list_all (is_writable volume) plan) (list_all (is_writable volume) ((sector, after) ∷ rest))
      (sym (list_all-append (is_writable volume) plan ((sector, after) ∷ rest)) ∙ ap (λ edits. list_all (is_writable volume) (plan ++ edits)) (sym e) ∙ all) in
      let this = writable_parts (sector, after) (and_parts (is_writable volume (sector, after)) (list_all (is_writable volume) rest) parts.1).0 in
      (free_inside sector this.0, this.1)

  pub fits_image : (plan rest left : List (ℕ × List ℕ)) (sector : ℕ) (after : List ℕ) → left ≡ (sector, after) ∷ rest → AreWritable volume (plan ++ left)
      → (whole now : ℕ) → now ≡ whole → volume.blocks * volume.size ≤ whole → (sector + 1) * volume.size ≤ now
  fits_image plan rest left sector after e all whole now same h =
      omega (arith, mul-le-mul_right volume.size (let l : sector + 1 ≤ volume.blocks = omega (arith, (next_fits plan rest left sector after e all).0) in l))

  at_when : (test : ℕ → Bool) (edits : List (ℕ × List ℕ)) → AreWritable volume edits → ((n : ℕ) → is_free volume n ≡ true → test n ≡ true) → are_at test edits ≡ true
  unfolding are_at
  at_when test [] e h = refl
  at_when test (edit ∷ edits) e h =
      let parts = and_parts (is_writable volume edit) (list_all (is_writable volume) edits) e in
      and_from _ _ (h edit.0 (writable_parts edit parts.0).0) (at_when test edits parts.1 h)

  pub plan_for : (plan : Planned) → IsLawful plan → plan.size ≡ volume.size → AreWritable volume (plan.blocks ++ []) → IsPlanFor volume plan
  plan_for plan lawful size e =
      let all : AreWritable volume plan.blocks = ap (list_all (is_writable volume)) (sym (append-nil plan.blocks)) ∙ e in
      record {
        size = size;
        lawful = lawful;
        inside = at_when (λ n. ltb n volume.blocks) plan.blocks all (λ n f. lt-ltb _ _ (free_parts n f).0);
        unsealed = at_when (λ n. not (covers (sealed_stated volume) n)) plan.blocks all (λ n f. (free_parts n f).1);
      }

pub all_added : (disk : ℕ → List ℕ) (plan left whole : List (ℕ × List ℕ)) → left ≡ [] → plan ++ differing disk left ≡ whole → plan ≡ whole
unfolding differing
all_added disk plan left whole none e = sym (append-nil plan) ∙ ap (λ edits. plan ++ differing disk edits) (sym none) ∙ e

-- what is looked up in the plan is the difference
further : (disk : ℕ → List ℕ) (n from : ℕ) (wanted : List (ℕ × List ℕ)) → ClimbsFrom from wanted → n < from → planned n (differing disk wanted) ≡ None
unfolding planned differing
further disk n from [] c h = refl
further disk n from (edit ∷ wanted) c h = by_test (further disk n (edit.0 + 1) wanted c.1 (omega (arith, c.0))) (not (bytes_eq (disk edit.0) edit.1)) where
  by_test : planned n (differing disk wanted) ≡ None → (b : Bool) → planned n (cond b (edit ∷ differing disk wanted) (differing disk wanted)) ≡ None
  by_test rest true = ap (λ b. cond b (Some edit.1) (planned n (differing disk wanted))) (ne_eqb _ _ (λ e. omega (arith, c.0))) ∙ rest
  by_test rest false = rest

pub looked_up : (disk : ℕ → List ℕ) (n from : ℕ) (wanted : List (ℕ × List ℕ)) → ClimbsFrom from wanted
    → planned n (differing disk wanted) ≡ changed (disk n) (look n wanted (disk n))
unfolding planned differing look
looked_up disk n from [] c = sym (ap (λ b. cond b None (Some (disk n))) (bytes_same (disk n)))
looked_up disk n from (edit ∷ wanted) c = by_sector (cases_eq n edit.0) (looked_up disk n (edit.0 + 1) wanted c.1) where
  here : n ≡ edit.0 → (b : Bool) → bytes_eq (disk edit.0) edit.1 ≡ b → planned n (cond (not b) (edit ∷ differing disk wanted) (differing disk wanted)) ≡ cond b None (Some edit.1)
  here e true s = further disk n (edit.0 + 1) wanted c.1 (omega arith)
  here e false s = ap (λ b. cond b (Some edit.1) (planned n (differing disk wanted))) (eq-eqb _ _ e)

  there : (n ≡ edit.0 → ⊥) → (b : Bool) → planned n (cond b (edit ∷ differing disk wanted) (differing disk wanted)) ≡ planned n (differing disk wanted)
  there f true = ap (λ b. cond b (Some edit.1) (planned n (differing disk wanted))) (ne_eqb _ _ f)
  there f false = refl

  by_sector : (n ≡ edit.0) ⊎ (n ≡ edit.0 → ⊥) → planned n (differing disk wanted) ≡ changed (disk n) (look n wanted (disk n))
      → planned n (cond (not (bytes_eq (disk edit.0) edit.1)) (edit ∷ differing disk wanted) (differing disk wanted))
      ≡ changed (disk n) (look n (edit ∷ wanted) (disk n))
  by_sector (inl e) rest =
      here e (bytes_eq (disk edit.0) edit.1) refl ∙ ap (λ m. changed (disk m) edit.1) (sym e)
      ∙ ap (changed (disk n)) (sym (look_here n edit.0 edit.1 wanted (disk n) e))
  by_sector (inr f) rest =
      there f (not (bytes_eq (disk edit.0) edit.1)) ∙ rest
      ∙ ap (changed (disk n)) (sym (look_past n edit.0 edit.1 wanted (disk n) f))
