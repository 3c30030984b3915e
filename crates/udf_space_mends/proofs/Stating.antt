-- An integrity descriptor with its counts set.
use Rattle.std.proofs.Common.{◌≡◌, ℕ, ◌+◌, ◌*◌, ◌<◌, ◌≤◌, ◌^◌, arith, refl, ◌∙◌, ap, List, length, true, ◌||◌, ◌==◌, nat_le, Option, Some, None}
use Rattle.std.proofs.lemmas.Bool.{and_from, eq-eqb, le-leb}
use Rattle.udf_field.specs.declared.address.Short.{Short}
use Rattle.udf_model.specs.Bytes.{IsBytes, number_at}
use Rattle.udf_model.specs.Tag.{id_at, identifier, is_id, retagged}
use Rattle.udf_model.proofs.Retagged.{retagged_id}
use Rattle.udf_file_model.specs.Listing.{Volume}
use Rattle.udf_file_model.specs.Wanted.{Field, with_fields}
use Rattle.udf_file_model.proofs.Fields.{AllFit, fields_are_bytes, fields_length, fields_read, read_in}
use Rattle.udf_file_model.proofs.Numbers.{number_retagged}
use Rattle.udf_tree_model.specs.Frame.{Frame}
use Rattle.udf_tree_model.specs.Ordinary.{files_named, ordinary_directories, ordinary_files}
use Rattle.udf_rules_model.specs.Bitmap.{free_blocks}
use Rattle.udf_rules_model.specs.Integrity.{free_is_stated, is_formed, is_integrity, is_next_id, is_stated, next_extent_in, partitions_in, use_length_in}
use Rattle.udf_space_mends.specs.IntegrityMend.{stated_fields}

module _ (size sector extra id free blocks files directories : ℕ) (base : List ℕ) (bytes : IsBytes base) (long : length base ≡ size)
    (big : 512 ≤ size) (small : size ≤ 4096) (low : sector < 2 ^ 32) (nine : number_at 2 base 0 ≡ 9) (one : number_at 4 base 72 ≡ 1)
    (use_is : number_at 4 base 76 ≡ extra) (room : 88 + extra ≤ size) (fit : AllFit (length base) (stated_fields id free blocks files directories)) where
  abbrev fields : List Field
  fields = stated_fields id free blocks files directories

  abbrev pub new : List ℕ
  new = retagged sector (72 + extra) (with_fields fields base)

  set_long : length (with_fields fields base) ≡ size
  set_long = fields_length fields base fit ∙ long

  number : (m from n : ℕ) → 16 ≤ from → read_in m from fields (number_at m base from) ≡ Some n → number_at m new from ≡ n
  number m from n behind e =
      number_retagged m from sector (72 + extra) (with_fields fields base) (omega (arith, set_long, big)) behind ∙ fields_read fields base m from n fit e

  partitions_are : partitions_in new ≡ 1
  partitions_are = number 4 72 (number_at 4 base 72) (omega arith) refl ∙ one

  use_stays : use_length_in new ≡ extra
  use_stays = number 4 76 (number_at 4 base 76) (omega arith) refl ∙ use_is

  identifier_is : identifier (with_fields fields base) ≡ 9
  identifier_is = fields_read fields base 2 0 (number_at 2 base 0) fit refl ∙ nine

  found : id_at sector new ≡ Some 9
  found =
      retagged_id sector (72 + extra) (with_fields fields base) (fields_are_bytes fields base bytes) (omega (arith, set_long, room)) (omega (arith, room, small)) low
      ∙ ap Some identifier_is

  pub new_is_integrity : is_integrity size sector new ≡ true
  unfolding is_integrity
  new_is_integrity =
      and_from (is_id 9 (id_at sector new)) (nat_le (80 + 8 * partitions_in new + use_length_in new) size) (ap (is_id 9) found)
      (le-leb _ _ (omega (arith, partitions_are, use_stays, room)))

  -- the next extent that it names stays
  pub next_stays : next_extent_in new ≡ number_at 4 base 32
  next_stays = number 4 32 (number_at 4 base 32) (omega arith) refl

  at_120 : number_at 4 new (80 + 8 * partitions_in new + 32) ≡ files
  at_120 = ap (number_at 4 new) (let e : 80 + 8 * partitions_in new + 32 ≡ 120 = omega (arith, partitions_are) in e) ∙ number 4 120 files (omega arith) refl

  at_124 : number_at 4 new (80 + 8 * partitions_in new + 36) ≡ directories
  at_124 = ap (number_at 4 new) (let e : 80 + 8 * partitions_in new + 36 ≡ 124 = omega (arith, partitions_are) in e) ∙ number 4 124 directories (omega arith) refl

  pub new_is_formed : 46 ≤ extra → is_formed new ≡ true
  unfolding is_formed
  new_is_formed enough =
      and_from (partitions_in new == 1) (nat_le 46 (use_length_in new)) (eq-eqb _ _ partitions_are) (le-leb _ _ (omega (arith, use_stays, enough)))

  module _ (g : Frame) (w : Volume) where
    free_stated : (bitmap : Option Short) → ((b : Short) → bitmap ≡ Some b → free ≡ free_blocks g w blocks) → free_is_stated g w blocks bitmap new ≡ true
    free_stated None same = refl
    free_stated (Some b) same = eq-eqb _ _ (number 4 80 free (omega arith) refl ∙ same b refl)

    pub new_is_stated : (bitmap : Option Short) → 46 ≤ extra → ((b : Short) → bitmap ≡ Some b → free ≡ free_blocks g w blocks)
        → is_next_id g w id ≡ true → ((files == length (ordinary_files g w)) || (files == files_named g w)) ≡ true
        → directories ≡ length (ordinary_directories g w) → is_stated g w blocks bitmap new ≡ true
    unfolding is_stated
    new_is_stated bitmap enough same next counted many =
        and_from _ _ (eq-eqb _ _ (number 4 28 1 (omega arith) refl))
        (and_from _ _ (new_is_formed enough)
        (and_from _ _ (free_stated bitmap same)
        (and_from _ _ (eq-eqb _ _ (number 4 84 blocks (omega arith) refl))
        (and_from _ _ (ap (is_next_id g w) (number 8 40 id (omega arith) refl) ∙ next)
        (and_from _ _ (ap (λ n. (n == length (ordinary_files g w)) || (n == files_named g w)) at_120 ∙ counted)
        (eq-eqb _ _ (at_124 ∙ many)))))))
