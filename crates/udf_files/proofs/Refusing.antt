-- The first refusal of a volume for its files.
use Rattle.std.proofs.Common.{◌≡◌, ℕ, Bool, true, false, cond, List, Option, Some, None, Result, Ok, Err, refl, sym, ap, ◌∙◌}
use Rattle.udf_model.specs.Image.{block_of}
use Rattle.udf_volume_model.specs.FileSet as set
use Rattle.udf_tree_model.specs.Refused as tree
use Rattle.udf_layer.specs.declared.missing.Missing.{Missing}
use Rattle.udf_layer.specs.declared.missing.Missing.TheVariants as missing
use Rattle.udf_layer.specs.declared.missing.ProfileItem.TheVariants as item
use Rattle.udf_layer.specs.declared.missing.LayerStop.{LayerStop}
use Rattle.udf_layer.specs.declared.missing.LayerStop.TheVariants as stops
use Rattle.udf_volume.specs.FileSet as volume_set
use Rattle.udf_volume.specs.declared.site.FileSet.{FileSet}
use Rattle.udf_volume.specs.declared.volume.Volume.{Volume}
use Rattle.udf_found.specs.Beyond.{IsAnswer}
use Rattle.udf_kept.specs.Entries as entries
use Rattle.udf_tree.specs.Survey.{View}
use Rattle.udf_integrity.specs.Answers.{FindsIntegrity, RefusesIntegrity}
use Rattle.udf_rules_model.specs.Files.{files_in, frame_in, site_in}
use Rattle.udf_rules_model.specs.Integrity.{names_chain}
use Rattle.udf_files.specs.Files.{FindsFiles}
use Rattle.udf_files.specs.Refusal.{files_refusal, or_else}

none_missing : (o : Option set.Refusal) → volume_set.missing_of o ≡ None → o ≡ None
none_missing None e = refl
none_missing (Some set.FileSet) e = absurd (cc)
none_missing (Some set.FileSets) e = absurd (cc)

pub none_asked : (o : Option tree.Refusal) → entries.missing_of o ≡ None → o ≡ None
none_asked None e = refl
none_asked (Some tree.Strategy) e = absurd (cc)
none_asked (Some tree.ExtendedDescriptors) e = absurd (cc)
none_asked (Some tree.AttributeFile) e = absurd (cc)
none_asked (Some tree.RootDirectory) e = absurd (cc)

module _ (volume : Volume) (image : List ℕ) where
  abbrev chain : Bool
  chain = names_chain volume.size (block_of volume.size image) volume.integrity

  abbrev of_set : Option Missing
  of_set = volume_set.missing_of (set.refusal (site_in volume image))

  abbrev of_tree : Option Missing
  of_tree = entries.missing_of (tree.refusal (frame_in volume image) (files_in volume image))

  -- by its parts
  refusal_as : (b : Bool) (o p : Option Missing) → chain ≡ b → of_set ≡ o → of_tree ≡ p
      → files_refusal volume image ≡ cond b (Some (missing.Profile item.IntegrityChain)) (or_else o p)
  unfolding files_refusal
  refusal_as b o p e h k =
      ap (λ c. cond c (Some (missing.Profile item.IntegrityChain)) (or_else of_set of_tree)) e
      ∙ ap (λ q. cond b (Some (missing.Profile item.IntegrityChain)) (or_else q of_tree)) h
      ∙ ap (λ q. cond b (Some (missing.Profile item.IntegrityChain)) (or_else o q)) k

  pub chained : (e : LayerStop) → FindsIntegrity volume.size (block_of volume.size image) volume.integrity (Err e) → RefusesIntegrity e → FindsFiles volume image (Err e)
  chained (stops.Missing reason) answers is = refusal_as true of_set of_tree answers refl refl ∙ ap Some (sym is)
  chained stops.Fault answers is = tt
  chained stops.Memory answers is = tt

  pub set_refused : (e : LayerStop) → chain ≡ false → volume_set.FindsFileSet (site_in volume image) (Err e) → FindsFiles volume image (Err e)
  set_refused (stops.Missing reason) free answers = refusal_as false (Some reason) of_tree free answers refl
  set_refused stops.Fault free answers = tt
  set_refused stops.Memory free answers = tt

  pub tree_refused : (e : LayerStop) → chain ≡ false → set.refusal (site_in volume image) ≡ None → IsAnswer {T = View} of_tree (Err e) → FindsFiles volume image (Err e)
  tree_refused (stops.Missing reason) free none answers = refusal_as false None (Some reason) free (ap volume_set.missing_of none) answers
  tree_refused stops.Fault free none answers = tt
  tree_refused stops.Memory free none answers = tt

  pub not_refused : chain ≡ false → set.refusal (site_in volume image) ≡ None → of_tree ≡ None → files_refusal volume image ≡ None
  not_refused free none fine = refusal_as false None None free (ap volume_set.missing_of none) fine
