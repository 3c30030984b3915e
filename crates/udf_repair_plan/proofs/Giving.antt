-- What is put in the order of the rules, and behind it the plan of the volume's own mend, gives the blocks of the mended image.
use Rattle.std.proofs.Common.{◌≡◌, ◌⊎◌, inl, inr, ℕ, ◌≤◌, ◌<◌, refl, sym, ◌∙◌, ap, List, [], ◌∷◌, ◌++◌, Bool, true, false, cond, Some, None, Ok, is_ok}
use Rattle.std.specs.Prelude.{unwrap_or, ◌==◌}
use Rattle.std.specs.Str.{bytes_eq}
use Rattle.std.proofs.lemmas.Bool.{cases_lt}
use Rattle.udf_model.specs.Bytes.{IsBytes}
use Rattle.udf_model.specs.Image.{block_of, blocks_in}
use Rattle.udf_volume_model.specs.Edits.{look}
use Rattle.udf_volume_model.specs.Opened.{plan_of, volume_mended}
use Rattle.udf_volume_model.specs.Plans.{ClimbsFrom, IsPlan, planned}
use Rattle.udf_volume_laws.proofs.Difference.{past_kept}
use Rattle.udf_volume_laws.proofs.OnePlan.{plan_is, the_plan}
use Rattle.udf_volume_laws.proofs.Puts.{look_both}
use Rattle.udf_volume_laws.proofs.Same.{bytes_same, same_bytes}
use Rattle.udf_volume.specs.declared.volume.Volume.{Volume}
use Rattle.udf_wanted.specs.Wanted.{LookAlike, changed, differing}
use Rattle.udf_mended_image.specs.Accepted.{is_accepted, mended, repairing}
use Rattle.udf_mended_image.proofs.Accepting.{mended_as}
use Rattle.udf_mended_image.proofs.Edited.{counted, filed, headed, made, made_is, mapped, recognised}
use Rattle.udf_mended_image.proofs.Given.{IsGiven, large}
use Rattle.udf_mended_image.proofs.Repair.{mended_whole}
use Rattle.udf_mended_image.proofs.Standing.{there_is}
use Rattle.udf_repair_plan.proofs.Composed.{same_there}

look_planned : (n : ℕ) (xs : List (ℕ × List ℕ)) (old : List ℕ) → look n xs old ≡ unwrap_or (planned n xs) old
unfolding look planned
look_planned n [] old = refl
look_planned n (x ∷ xs) old = by (n == x.0) (look_planned n xs old)
  where
    by : (b : Bool) → look n xs old ≡ unwrap_or (planned n xs) old → cond b x.1 (look n xs old) ≡ unwrap_or (cond b (Some x.1) (planned n xs)) old
    by true e = refl
    by false e = e

-- a plan gives on an image the blocks of the image afterwards
plan_looks : (size : ℕ) (image after : List ℕ) (n : ℕ) → ((m : ℕ) → blocks_in size image ≤ m → block_of size after m ≡ block_of size image m)
    → look n (plan_of size image after) (block_of size image n) ≡ block_of size after n
plan_looks size image after n past = look_planned n (plan_of size image after) (block_of size image n) ∙ by (cases_lt n (blocks_in size image))
  where
    p : IsPlan size image after (plan_of size image after)
    p = plan_is size image after

    test : (b : Bool) → bytes_eq (block_of size image n) (block_of size after n) ≡ b → unwrap_or (cond b None (Some (block_of size after n))) (block_of size image n) ≡ block_of size after n
    test true e = same_bytes _ _ e
    test false e = refl

    by : (n < blocks_in size image) ⊎ (blocks_in size image ≤ n) → unwrap_or (planned n (plan_of size image after)) (block_of size image n) ≡ block_of size after n
    by (inl l) = ap (λ o. unwrap_or o (block_of size image n)) (p.differing n l) ∙ test (bytes_eq (block_of size image n) (block_of size after n)) refl
    by (inr h) = ap (λ o. unwrap_or o (block_of size image n)) (p.further n h) ∙ sym (past n h)

module _ (image : List ℕ) (volume : Volume) (g : IsGiven image volume) where
  abbrev disk : ℕ → List ℕ
  disk = block_of volume.size image

  -- the volume's own plan
  abbrev pub of_volume : List (ℕ × List ℕ)
  of_volume = plan_of volume.size image (volume_mended volume.size image)

  -- all that is put
  abbrev pub all_put : List (ℕ × List ℕ)
  all_put =
      recognised image volume g ++ (differing disk (filed image volume g) ++ (differing disk (headed image volume g) ++ (mapped image volume g ++ (counted image volume g ++ of_volume))))

  pub all_made : (n : ℕ) → look n all_put (disk n) ≡ made image volume g n
  all_made n =
      look_both n (recognised image volume g) (differing disk (filed image volume g) ++ (differing disk (headed image volume g) ++ (mapped image volume g ++ (counted image volume g ++ of_volume)))) (disk n)
      ∙ ap (look n (recognised image volume g))
      (look_both n (differing disk (filed image volume g)) (differing disk (headed image volume g) ++ (mapped image volume g ++ (counted image volume g ++ of_volume))) (disk n)
      ∙ ap (look n (differing disk (filed image volume g)))
      (look_both n (differing disk (headed image volume g)) (mapped image volume g ++ (counted image volume g ++ of_volume)) (disk n)
      ∙ ap (look n (differing disk (headed image volume g)))
      (look_both n (mapped image volume g) (counted image volume g ++ of_volume) (disk n)
      ∙ ap (look n (mapped image volume g))
      (look_both n (counted image volume g) of_volume (disk n)
      ∙ ap (look n (counted image volume g)) (plan_looks volume.size image (volume_mended volume.size image) n (λ m h. past_kept volume.size image m (large image volume g) h)))))
      ∙ same_there image volume g n)
      ∙ sym (made_is image volume g n)

  -- a plan of what looks like that is the difference of the mended image
  pub planned_all : (wanted plan : List (ℕ × List ℕ)) → LookAlike wanted all_put → ClimbsFrom 0 plan → IsBytes image → repairing volume.size image ≡ Ok volume
      → ((n : ℕ) → planned n plan ≡ changed (disk n) (look n wanted (disk n))) → plan ≡ plan_of volume.size image (mended volume.size image)
  planned_all wanted plan alike climbs bytes e has =
      the_plan volume.size image (mended volume.size image) plan (record {
        ascends = climbs;
        differing = λ n l. after n;
        further = λ n h. after n ∙ ap (changed (disk n)) (past n h) ∙ ap (λ b. cond b None (Some (disk n))) (bytes_same (disk n));
      })
    where
      past : (n : ℕ) → blocks_in volume.size image ≤ n → block_of volume.size (mended volume.size image) n ≡ disk n
      past n h = (mended_whole volume.size image g.sized bytes ((unfold is_accepted in ap is_ok e))).rewrites.same_past n h

      after : (n : ℕ) → planned n plan ≡ changed (disk n) (block_of volume.size (mended volume.size image) n)
      after n =
          has n
          ∙ ap (changed (disk n))
          (alike n (disk n) ∙ all_made n ∙ sym (there_is image volume g n) ∙ ap (λ after. block_of volume.size after n) (sym (mended_as volume.size image volume e)))
