-- What is put for the file set is its mend.
use Rattle.std.proofs.Common.{◌≡◌, ◌≤◌, ◌+◌, ℕ, Bool, true, false, cond, ◌&&◌, List, [], ◌∷◌, ◌++◌, length, Some, None, arith, refl, sym, ap, ◌∙◌, subst}
use Rattle.std.specs.Prelude.{nat_le, ◌==◌}
use Rattle.std.proofs.lemmas.Bool.{and_parts}
use Rattle.std.proofs.lemmas.Bool.Decides.{nat_tests}
use Rattle.udf_model.specs.Tag.{crc_length, id_at, identifier, is_whole, location}
use Rattle.udf_file_model.specs.Content.{block_at}
use Rattle.udf_file_model.specs.Listing.{Volume}
use Rattle.udf_tree_model.specs.Frame.{Frame}
use Rattle.udf_file_mends.specs.FileSet.{cleared_set, file_set_edits, loses_system, mended_set}
use Rattle.udf_file_mends.specs.Mends.{edits_of}
use Rattle.udf_wanted.specs.Wanted.{LookAlike, differing}
use Rattle.udf_file_plan.proofs.Differing.{look_none}
use Rattle.udf_file_plan.proofs.Puts.{puts_nowhere, puts_there}

at_most : (m n : ℕ) → nat_le m n ≡ true → m ≤ n
at_most m n h = grind (arith, nat_tests)

whole_room : (block : List ℕ) → is_whole block ≡ true → nat_le (16 + crc_length block) (length block) ≡ true
unfolding is_whole
whole_room block h = (and_parts (nat_le (16 + crc_length block) (length block)) _ h).0

-- a whole tag covers what is there
pub covers : (at id : ℕ) (block : List ℕ) → id_at at block ≡ Some id → 16 + crc_length block ≤ length block
unfolding id_at
covers at id block h = by (is_whole block && (location block == at)) refl h
  where
    by : (b : Bool) → (is_whole block && (location block == at)) ≡ b → cond b (Some (identifier block)) None ≡ Some id → 16 + crc_length block ≤ length block
    by true e k = at_most (16 + crc_length block) (length block) (whole_room block (and_parts (is_whole block) (location block == at) e).0)
    by false e k = cc

module _ (f : Frame) (v : Volume) (old : List (ℕ × List ℕ)) where
  pub nothing_lost : loses_system f v ≡ false → LookAlike old (old ++ differing v.disk (file_set_edits f v))
  unfolding file_set_edits differing
  nothing_lost h = look_none old (differing v.disk (file_set_edits f v)) (sym (ap (λ b. differing v.disk (cond b (edits_of v ((f.file_set, mended_set f v) ∷ [])) [])) h))

  edits_are : loses_system f v ≡ true → edits_of v ((f.file_set, cleared_set f.file_set.block (block_at v f.file_set)) ∷ []) ≡ file_set_edits f v
  unfolding file_set_edits
  edits_are h =
      sym (ap (λ b. cond b (edits_of v ((f.file_set, mended_set f v) ∷ [])) []) h
      ∙ ap (λ b. edits_of v ((f.file_set, cond b (cleared_set f.file_set.block (block_at v f.file_set)) (block_at v f.file_set)) ∷ [])) h)

  pub lost_nowhere : loses_system f v ≡ true → v.place f.file_set ≡ None → LookAlike old (old ++ differing v.disk (file_set_edits f v))
  lost_nowhere h e =
      subst (λ (edits : List (ℕ × List ℕ)). LookAlike old (old ++ differing v.disk edits)) (edits_are h)
      (puts_nowhere v old f.file_set (cleared_set f.file_set.block (block_at v f.file_set)) e)

  pub lost_there : (new : List (ℕ × List ℕ)) (s : ℕ) (now : List ℕ) → loses_system f v ≡ true → v.place f.file_set ≡ Some s → now ≡ v.disk s
      → LookAlike new (old ++ differing (λ _. now) ((s, cleared_set f.file_set.block now) ∷ [])) → LookAlike new (old ++ differing v.disk (file_set_edits f v))
  lost_there new s now h place is put =
      subst (λ (edits : List (ℕ × List ℕ)). LookAlike new (old ++ differing v.disk edits)) (edits_are h)
      (puts_there v old new f.file_set s now (cleared_set f.file_set.block) place is put)
