-- Blocks at addresses that are put where others stand.
use Rattle.std.proofs.Common.{◌≡◌, ℕ, List, [], ◌∷◌, ◌++◌, Bool, true, false, cond, Some, None, refl, sym, ap, ◌∙◌, subst, append_assoc}
use Rattle.std.specs.Prelude.{not}
use Rattle.std.specs.List.{filter}
use Rattle.std.specs.Str.{bytes_eq}
use Rattle.udf_field.specs.declared.address.Addr.{Addr}
use Rattle.udf_file_model.specs.Content.{block_at, block_by}
use Rattle.udf_file_model.specs.Listing.{Volume}
use Rattle.udf_file_mends.specs.Mends.{edit_by, edits_of}
use Rattle.udf_file_mends.specs.Spread.{Sited}
use Rattle.udf_wanted.specs.Wanted.{LookAlike, differing}
use Rattle.udf_wanted.proofs.Looking.{both_are, nothing}
use Rattle.udf_file_plan.specs.Base.{PutsOf}
use Rattle.udf_file_plan.proofs.Differing.{look_as, look_none}

-- one list after another
pub differing_joined : (disk : ℕ → List ℕ) (xs ys : List (ℕ × List ℕ)) → differing disk (xs ++ ys) ≡ differing disk xs ++ differing disk ys
unfolding differing
differing_joined disk [] ys = refl
differing_joined disk (x ∷ xs) ys = by (not (bytes_eq (disk x.0) x.1)) (differing_joined disk xs ys)
  where
    by : (b : Bool) → filter (λ edit. not (bytes_eq (disk edit.0) edit.1)) (xs ++ ys) ≡ filter (λ edit. not (bytes_eq (disk edit.0) edit.1)) xs ++ filter (λ edit. not (bytes_eq (disk edit.0) edit.1)) ys
        → cond b (x ∷ filter (λ edit. not (bytes_eq (disk edit.0) edit.1)) (xs ++ ys)) (filter (λ edit. not (bytes_eq (disk edit.0) edit.1)) (xs ++ ys))
        ≡ cond b (x ∷ filter (λ edit. not (bytes_eq (disk edit.0) edit.1)) xs) (filter (λ edit. not (bytes_eq (disk edit.0) edit.1)) xs) ++ filter (λ edit. not (bytes_eq (disk edit.0) edit.1)) ys
    by true h = ap (λ z. x ∷ z) h
    by false h = h

pub edits_joined : (v : Volume) (bs cs : List Sited) → edits_of v (bs ++ cs) ≡ edits_of v bs ++ edits_of v cs
unfolding edits_of
edits_joined v [] cs = refl
edits_joined v (b ∷ bs) cs = ap (λ z. edit_by b.1 (v.place b.0) ++ z) (edits_joined v bs cs) ∙ sym (append_assoc (edit_by b.1 (v.place b.0)) (edits_of v bs) (edits_of v cs))

module _ (v : Volume) where
  pub puts_none : (old : List (ℕ × List ℕ)) → PutsOf v old old []
  unfolding edits_of differing
  puts_none old = nothing old

  pub puts_both : (base now next : List (ℕ × List ℕ)) (bs cs : List Sited) → PutsOf v base now bs → PutsOf v now next cs → PutsOf v base next (bs ++ cs)
  puts_both base now next bs cs first second =
      both_are base now next (differing v.disk (edits_of v bs)) (differing v.disk (edits_of v cs)) (differing v.disk (edits_of v (bs ++ cs))) first second
      (sym (ap (differing v.disk) (edits_joined v bs cs) ∙ differing_joined v.disk (edits_of v bs) (edits_of v cs)))

  pub puts_as : (base now : List (ℕ × List ℕ)) (bs cs : List Sited) → PutsOf v base now bs → bs ≡ cs → PutsOf v base now cs
  puts_as base now bs cs put is = subst (λ (z : List Sited). PutsOf v base now z) is put

  -- at an address that is placed nowhere
  pub puts_nowhere : (old : List (ℕ × List ℕ)) (x : Addr) (block : List ℕ) → v.place x ≡ None → PutsOf v old old ((x, block) ∷ [])
  unfolding edits_of differing
  puts_nowhere old x block e = look_none old (differing v.disk (edits_of v ((x, block) ∷ []))) (sym (ap (λ o. differing v.disk (edit_by block o ++ [])) e))

  -- at the sector of an address, by the block that stands there
  pub puts_there : (old new : List (ℕ × List ℕ)) (x : Addr) (s : ℕ) (now : List ℕ) (after : List ℕ → List ℕ) → v.place x ≡ Some s → now ≡ v.disk s
      → LookAlike new (old ++ differing (λ _. now) ((s, after now) ∷ [])) → PutsOf v old new ((x, after (block_at v x)) ∷ [])
  unfolding edits_of differing
  puts_there old new x s now after place is put =
      look_as new old (differing (λ _. now) ((s, after now) ∷ [])) (differing v.disk (edits_of v ((x, after (block_at v x)) ∷ []))) put
      (ap (λ b. differing (λ _. b) ((s, after b) ∷ [])) is
      ∙ sym (ap (λ o. differing v.disk (edit_by (after (block_by v.disk o)) o ++ [])) place))
