-- Where a volume is opened.
use Rattle.std.proofs.Common.{◌≡◌, ℕ, arith, refl, sym, ◌∙◌, ap, List, ltb, Bool, true, false, cond, not, ◌&&◌, Option, Some, None, Ok, Err, is_ok}
use Rattle.std.specs.Prelude.{is_none}
use Rattle.udf_model.specs.Image.{block_of, blocks_in}
use Rattle.udf_volume_model.specs.Anchor.{places}
use Rattle.udf_volume_model.specs.Kept as model
use Rattle.udf_volume_model.specs.Kept.{has_anchor, kept_sequence_of}
use Rattle.udf_volume_model.specs.Sequence.{Descriptor}
use Rattle.udf_volume_model.specs.Stated.{has_maps, is_built, logical, partition}
use Rattle.udf_volume_model.specs.Profile.{has_block_size, has_domain, has_revision, has_pointer, has_no_tables, is_profile}
use Rattle.udf_volume_model.specs.Layout.{is_lawful, is_spared}
use Rattle.udf_volume_model.specs.Opened.{is_opened, is_opened_by}
use Rattle.udf_layer.specs.declared.missing.Missing.TheVariants as missing
use Rattle.udf_layer.specs.declared.missing.ProfileItem.{ProfileItem}
use Rattle.udf_layer.specs.declared.missing.ProfileItem.TheVariants as item
use Rattle.udf_volume.specs.declared.volume.Volume.{Volume}
use Rattle.udf_volume.specs.Opened.{volume_by, unlike_profile, unlike_maps, by_profile, by_refusal, refusal_of, accepted, by_volume, described}
use Rattle.udf_volume.specs.Taken.{by_packets, is_spared_stated, opening}
use Rattle.udf_volume.proofs.LaidOut.{spared_is}
use Rattle.udf_volume.proofs.Opening.{are_built}

by_tests : (a b c d e f g : Bool) → (a && (b && (c && (not d && (e && (f && g))))))
    ≡ is_none (cond (not a) (Some item.BlockSize) (cond (not b) (Some item.Domain) (cond (not c) (Some item.Revision) (cond d (Some item.VolumePointer)
    (cond (not e) (Some item.PartitionMaps) (cond (not f) (Some item.Unbuilt) (cond (not g) (Some item.SpaceTables) None)))))))
by_tests false b c d e f g = refl
by_tests true false c d e f g = refl
by_tests true true false d e f g = refl
by_tests true true true true e f g = refl
by_tests true true true false false f g = refl
by_tests true true true false true false g = refl
by_tests true true true false true true false = refl
by_tests true true true false true true true = refl

profile_is : (size : ℕ) (list : List Descriptor) → is_profile size list ≡ is_none (unlike_profile size list)
unfolding is_profile unlike_profile unlike_maps
profile_is size list =
    by_tests (has_block_size size list) (has_domain list) (has_revision list) (has_pointer list) (has_maps list) (is_built list) (has_no_tables list)

passed : (b : Bool) (volume : Volume) → b ≡ is_ok (cond b (Ok volume) (Err missing.SparingTable))
passed true volume = refl
passed false volume = refl

module _ (size blocks : ℕ) (disk : ℕ → List ℕ) (v : model.KeptSequence) where
  abbrev fields : Volume
  fields = volume_by size blocks v (logical v.list) (partition v.list)

  spared : unlike_profile size v.list ≡ None → is_spared_stated fields disk ≡ is_spared size blocks disk v
  spared e = spared_is size blocks v (are_built size blocks disk v e) disk

  by_parts : (item : Option ProfileItem) (lawful : Bool) → unlike_profile size v.list ≡ item
      → (is_none item && (lawful && is_spared size blocks disk v)) ≡ is_ok (by_packets disk (by_refusal (by_profile item lawful) fields))
  by_parts (Some item) lawful e = refl
  by_parts None false e = refl
  by_parts None true e =
      passed (is_spared size blocks disk v) fields ∙ ap (λ b. is_ok (cond b (Ok fields) (Err missing.SparingTable))) (sym (spared e))

module _ (size blocks : ℕ) (disk : ℕ → List ℕ) (any : Bool) where
  kept_is : (found : Option model.KeptSequence) → is_opened_by size blocks disk found ≡ is_ok (by_packets disk (by_volume size blocks disk any found))
  unfolding accepted refusal_of
  kept_is None = elim any as (λ b. false ≡ is_ok (by_packets disk (by_volume size blocks disk b None))) [ true ↦ refl | false ↦ refl ]
  kept_is (Some v) =
      ap (λ b. b && (is_lawful size blocks disk v && is_spared size blocks disk v)) (profile_is size v.list)
      ∙ by_parts size blocks disk v (unlike_profile size v.list) (is_lawful size blocks disk v) refl

fewer : (n : ℕ) → ltb n 4294967296 ≡ not (ltb 4294967295 n)
fewer n = grind arith

module _ (size : ℕ) (image : List ℕ) where
  any : Bool
  any = has_anchor size (blocks_in size image) (block_of size image) (places (blocks_in size image))

  pub opened_is : is_opened size image ≡ is_ok (opening size image)
  unfolding is_opened opening described any
  opened_is =
      ap (λ b. b && is_opened_by size (blocks_in size image) (block_of size image) (kept_sequence_of size image)) (fewer (blocks_in size image))
      ∙ by_count (ltb 4294967295 (blocks_in size image)) where
        by_count : (b : Bool) → (not b && is_opened_by size (blocks_in size image) (block_of size image) (kept_sequence_of size image))
            ≡ is_ok (by_packets (block_of size image) (cond b (Err missing.TooLarge) (by_volume size (blocks_in size image) (block_of size image) any (kept_sequence_of size image))))
        by_count true = refl
        by_count false = kept_is size (blocks_in size image) (block_of size image) any (kept_sequence_of size image)
