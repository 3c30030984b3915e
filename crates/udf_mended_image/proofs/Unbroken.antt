-- A mended image is accepted, and breaks no rule.
use Rattle.std.proofs.Common.{◌≡◌, ℕ, ◌≤◌, ◌||◌, refl, ◌∙◌, ap, subst, List, length, Bool, true, false, cond, Option, Some, None, Result, Ok, Err, is_ok}
use Rattle.std.proofs.lemmas.Bool.{and_from}
use Rattle.udf_model.specs.Image.{block_of}
use Rattle.udf_model.specs.Size.{is_size}
use Rattle.udf_model.proofs.Sizes.{large as large_size}
use Rattle.udf_tree_model.specs.Refused as tree
use Rattle.udf_volume_model.specs.FileSet as set
use Rattle.udf_volume_model.specs.FileSet.{first_block, is_guarded_in}
use Rattle.udf_volume_model.specs.Opened.{is_volume_unbroken}
use Rattle.udf_layer.specs.declared.missing.Missing.{Missing}
use Rattle.udf_layer.specs.declared.missing.Missing.TheVariants as missing
use Rattle.udf_layer.specs.declared.missing.ProfileItem.TheVariants as item
use Rattle.udf_volume.specs.FileSet as volume_set
use Rattle.udf_volume.specs.Taken.{opening}
use Rattle.udf_volume.specs.Writable.{is_protected}
use Rattle.udf_volume.specs.declared.volume.Volume.{Volume}
use Rattle.udf_kept.specs.Entries as entries
use Rattle.udf_rules_model.specs.Files.{files_in, frame_in, site_in}
use Rattle.udf_rules_model.specs.Findings.{further_rules_hold}
use Rattle.udf_rules_model.specs.Integrity.{names_chain}
use Rattle.udf_files.specs.Refusal.{files_refusal, or_else}
use Rattle.udf_space_mends.specs.IntegrityMend.{CountsFit, origin_of}
use Rattle.udf_mended_image.specs.Accepted.{by_opening, by_refusal, is_accepted, is_kept_from_writing, is_unbroken, repairing, unbroken_in}
use Rattle.udf_mended_image.proofs.Following.{FileLaws, chain_there, guards_same, rules_there, set_stands, tree_there, writable_there}
use Rattle.udf_mended_image.proofs.Stands.{Stands}
use Rattle.udf_mended_image.proofs.Volume.{Reopens, reopens}

-- what an accepted image is
pub record Accepts (size : ℕ) (image : List ℕ) (volume : Volume) : Type 0 where
  pub opens : opening size image ≡ Ok volume
  pub files : files_refusal volume image ≡ None
  pub free : is_kept_from_writing volume image ≡ false

pub accepts : (size : ℕ) (image : List ℕ) (volume : Volume) → repairing size image ≡ Ok volume → Accepts size image volume
unfolding repairing
accepts size image volume e = by (opening size image) refl e
  where
    guarded : (other : Volume) (b : Bool) → is_kept_from_writing other image ≡ b → opening size image ≡ Ok other → files_refusal other image ≡ None
        → cond b (Err missing.WriteProtected) (Ok other) ≡ Ok volume → Accepts size image volume
    guarded other true p o r k = absurd (cc)
    guarded other false p o r k =
        let same : other ≡ volume = cc in
        subst (λ (x : Volume). Accepts size image x) same (record { opens = o; files = r; free = p })

    refused : (other : Volume) (o : Option Missing) → files_refusal other image ≡ o → opening size image ≡ Ok other → by_refusal other image o ≡ Ok volume → Accepts size image volume
    refused other (Some reason) r o k = absurd (cc)
    refused other None r o k = guarded other (is_kept_from_writing other image) refl o r k

    by : (found : Result Volume Missing) → opening size image ≡ found → by_opening image found ≡ Ok volume → Accepts size image volume
    by (Err reason) o k = absurd (cc)
    by (Ok other) o k = refused other (files_refusal other image) refl o k

-- the refusals for files, one by one
pub record NoneRefused (volume : Volume) (image : List ℕ) : Type 0 where
  pub chain : names_chain volume.size (block_of volume.size image) volume.integrity ≡ false
  pub set : set.refusal (site_in volume image) ≡ None
  pub tree : tree.refusal (frame_in volume image) (files_in volume image) ≡ None

pub none_refused : (volume : Volume) (image : List ℕ) → files_refusal volume image ≡ None → NoneRefused volume image
unfolding files_refusal
none_refused volume image e =
    by (names_chain volume.size (block_of volume.size image) volume.integrity) (set.refusal (site_in volume image)) (tree.refusal (frame_in volume image) (files_in volume image)) refl refl refl e
  where
    by : (b : Bool) (o : Option set.Refusal) (p : Option tree.Refusal) → names_chain volume.size (block_of volume.size image) volume.integrity ≡ b → set.refusal (site_in volume image) ≡ o
        → tree.refusal (frame_in volume image) (files_in volume image) ≡ p
        → cond b (Some (missing.Profile item.IntegrityChain)) (or_else (volume_set.missing_of o) (entries.missing_of p)) ≡ None → NoneRefused volume image
    by true o p x y z k = absurd (cc)
    by false None None x y z k = record { chain = x; set = y; tree = z }
    by false None (Some tree.Strategy) x y z k = absurd (cc)
    by false None (Some tree.ExtendedDescriptors) x y z k = absurd (cc)
    by false None (Some tree.AttributeFile) x y z k = absurd (cc)
    by false None (Some tree.RootDirectory) x y z k = absurd (cc)
    by false (Some set.FileSet) p x y z k = absurd (cc)
    by false (Some set.FileSets) p x y z k = absurd (cc)

pub refuses_none : (volume : Volume) (image : List ℕ) → NoneRefused volume image → files_refusal volume image ≡ None
unfolding files_refusal
refuses_none volume image n =
    ap (λ b. cond b (Some (missing.Profile item.IntegrityChain)) (or_else (volume_set.missing_of (set.refusal (site_in volume image))) (entries.missing_of (tree.refusal (frame_in volume image) (files_in volume image))))) n.chain
    ∙ ap (λ o. or_else (volume_set.missing_of o) (entries.missing_of (tree.refusal (frame_in volume image) (files_in volume image)))) n.set
    ∙ ap (λ p. or_else None (entries.missing_of p)) n.tree

or_none : (a b : Bool) → (a || b) ≡ false → (a ≡ false) × (b ≡ false)
or_none false b e = (refl, e)
or_none true b e = absurd (cc)

module _ (image after : List ℕ) (volume : Volume) (sized : is_size volume.size ≡ true) (is : Accepts volume.size image volume) (long : length after ≡ length image)
    (st : Stands volume.size image after volume)
    (laws : FileLaws (frame_in volume image) (files_in volume image) (block_of volume.size after))
    (fit : CountsFit (frame_in volume image) (files_in volume image) volume.length (origin_of (block_of volume.size image volume.pvd) (block_of volume.size image volume.lvd))) where
  large : 512 ≤ volume.size
  large = large_size volume.size sized

  pub re : Reopens volume.size image after volume
  re = reopens volume.size image after volume large is.opens long st.read

  old : NoneRefused volume image
  old = none_refused volume image is.files

  none_there : NoneRefused re.found after
  none_there = record {
    chain = chain_there image after volume sized large long re st laws fit old.chain;
    set = set_stands image after volume sized large long re st laws old.set;
    tree = tree_there image after volume sized large long re st laws;
  }

  free_there : is_kept_from_writing re.found after ≡ false
  free_there =
      let p = or_none (is_protected volume) (is_guarded_in (first_block (site_in volume image))) is.free in
      ap (λ b. b || is_guarded_in (first_block (site_in re.found after))) (writable_there image after volume sized large long re st laws ∙ p.0)
      ∙ guards_same image after volume sized large long re st laws ∙ p.1

  pub repairing_there : repairing volume.size after ≡ Ok re.found
  unfolding repairing
  repairing_there =
      ap (by_opening after) re.opens ∙ ap (by_refusal re.found after) (refuses_none re.found after none_there)
      ∙ ap (λ b. cond b (Err missing.WriteProtected) (Ok re.found)) free_there

  pub accepted_there : is_accepted volume.size after ≡ true
  unfolding is_accepted
  accepted_there = ap (λ (r : Result Volume Missing). is_ok r) repairing_there

  pub unbroken_there : is_unbroken volume.size after ≡ true
  unfolding is_unbroken
  unbroken_there =
      ap (unbroken_in volume.size after) re.opens
      ∙ and_from (is_volume_unbroken volume.size after) (further_rules_hold re.found after) re.unbroken (rules_there image after volume sized large long re st laws fit)
