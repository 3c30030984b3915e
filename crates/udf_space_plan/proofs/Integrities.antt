-- What is put for the rule on integrity is what its mend writes.
use Rattle.std.proofs.Common.{◌≡◌, ℕ, ◌+◌, ◌*◌, ◌≤◌, ◌==◌, leb, ◌&&◌, ◌||◌, arith, refl, sym, ◌∙◌, ap, subst, List, [], ◌∷◌, ◌++◌, length, Bool, true, false, cond, Option, Some, None}
use Rattle.std.specs.Prelude.{max, option_map}
use Rattle.udf_file_model.specs.Wanted.{with_fields}
use Rattle.udf_field.specs.declared.address.Short.{Short}
use Rattle.udf_field.specs.declared.address.Span.{Span}
use Rattle.udf_file_model.specs.Listing as listing
use Rattle.udf_file_rules.specs.declared.right.Right.{Right}
use Rattle.udf_file_rules.specs.Right.{IsRight, is_right}
use Rattle.udf_file_rules.proofs.Judging.{id_same, least_same, one_partition, right_same}
use Rattle.udf_integrity.specs.Stated.{States}
use Rattle.udf_integrity.specs.declared.descriptor.Integrity.{Integrity}
use Rattle.udf_model.specs.Tag.{id_at, is_id, retagged}
use Rattle.std.proofs.lemmas.Bool.{and_parts, leb-true}
use Rattle.udf_rules_model.specs.Bitmap.{free_blocks}
use Rattle.udf_rules_model.specs.Integrity.{files_in, greatest_id, integrity_holds, is_formed, is_integrity, partitions_in, is_next_id, next_id_in, is_stated, is_stated_by, prevailing_integrity, use_length_in}
use Rattle.udf_space_mends.specs.IntegrityMend.{Origin, corrected, fresh_block, fresh_fields, stated_fields, files_left, free_left, fresh, integrity_edits, integrity_edits_by}
use Rattle.udf_space_plan.specs.Counts.{corrected_counts, files_by, free_or, fresh_counts}
use Rattle.udf_space_plan.specs.Descriptor.{counted, ends_by, made_by}
use Rattle.udf_space_plan.specs.Prevailing.{first_by, prevailing_edits}
use Rattle.udf_space_plan.specs.declared.descriptor.Counts.{Counts}
use Rattle.udf_tree_model.specs.Frame.{Frame}
use Rattle.udf_tree_model.specs.Ordinary.{ordinary_directories, ordinary_files}
use Rattle.udf_volume.specs.declared.volume.Volume as code
use Rattle.udf_volume_model.specs.Anchor.{blocks_for}
use Rattle.udf_wanted.specs.Wanted.{LookAlike}
use Rattle.udf_wanted.proofs.Looking.{both_are, nothing}

pub first_put : (volume : code.Volume) (c : Counts) (o : Origin) (block : List ℕ) (w0 w1 w2 : List (ℕ × List ℕ)) → block ≡ made_by volume.size c o volume.integrity.start
    → LookAlike w1 (w0 ++ (volume.integrity.start, block) ∷ []) → LookAlike w2 (w1 ++ ends_by volume.size volume.integrity.start block (blocks_for volume.size volume.integrity.length))
    → LookAlike w2 (w0 ++ first_by volume c o)
unfolding first_by
first_put volume c o block w0 w1 w2 is first second =
    both_are w0 w1 w2 ((volume.integrity.start, block) ∷ []) (ends_by volume.size volume.integrity.start block (blocks_for volume.size volume.integrity.length)) _ first second
    (ap (λ (b : List ℕ). (volume.integrity.start, b) ∷ ends_by volume.size volume.integrity.start b (blocks_for volume.size volume.integrity.length)) is)

module _ (f : Frame) (v : listing.Volume) (bitmap : Option Short) (r : Right) (is : IsRight f v r.blocks bitmap r) (origin : Origin) where
  -- a new descriptor
  pub fresh_is : (free sector : ℕ) → free ≡ free_blocks f v r.blocks → made_by v.size (fresh_counts r free) origin sector ≡ fresh f v r.blocks origin sector
  unfolding made_by fresh counted
  fresh_is free sector e =
      ap (λ n. built n free r.tally.files r.tally.directories) (least_same f v bitmap r is)
      ∙ ap (λ n. built (max 16 (greatest_id f v + 1)) n r.tally.files r.tally.directories) e
      ∙ ap (λ n. built (max 16 (greatest_id f v + 1)) (free_blocks f v r.blocks) n r.tally.directories) is.tally.files_are
      ∙ ap (λ n. built (max 16 (greatest_id f v + 1)) (free_blocks f v r.blocks) (length (ordinary_files f v)) n) is.tally.directories_are where
        built : ℕ → ℕ → ℕ → ℕ → List ℕ
        built id free files directories =
            retagged sector 118 (with_fields (stated_fields id free r.blocks files directories) (with_fields (fresh_fields origin.revision) (fresh_block v.size origin.stamp)))

  module _ (block : List ℕ) (i : Integrity) (st : States block i) where
    free_same : (o : Option Short) → free_or (option_map (λ b. free_blocks f v r.blocks) o) i.free ≡ free_left f v r.blocks o block
    free_same None = st.free
    free_same (Some b) = refl

    files_same : is_formed block ≡ true → files_by r i ≡ files_left f v block
    files_same formed =
        ap (λ n. cond ((n == r.tally.files) || (n == r.files_named)) n r.tally.files) (st.files (one_partition f v bitmap r is block i st formed))
        ∙ ap (λ n. cond ((files_in block == n) || (files_in block == r.files_named)) (files_in block) n) is.tally.files_are
        ∙ ap (λ n. cond ((files_in block == length (ordinary_files f v)) || (files_in block == n)) (files_in block) (length (ordinary_files f v))) is.named

    abbrev built : ℕ → List ℕ → ℕ → ℕ → ℕ → ℕ → ℕ → List ℕ
    built sector b id free files directories many = retagged sector (72 + many) (with_fields (stated_fields id free r.blocks files directories) b)

    abbrev id_after : List ℕ → ℕ
    id_after b = cond (is_formed b && is_next_id f v (next_id_in b)) (next_id_in b) (max 16 (greatest_id f v + 1))

    pub corrected_is : (sector : ℕ) → block ≡ v.disk sector → is_formed block ≡ true
        → retagged sector (72 + i.use_length) (counted (corrected_counts r i) block) ≡ corrected f v r.blocks bitmap sector (v.disk sector)
    unfolding counted corrected
    corrected_is sector e formed =
        ap (λ n. built sector block n (free_or r.free i.free) (files_by r i) r.tally.directories i.use_length) (id_same f v bitmap r is block i st)
        ∙ ap (λ n. built sector block (id_after block) n (files_by r i) r.tally.directories i.use_length) (ap (λ o. free_or o i.free) is.free ∙ free_same bitmap)
        ∙ ap (λ n. built sector block (id_after block) (free_left f v r.blocks bitmap block) n r.tally.directories i.use_length) (files_same formed)
        ∙ ap (λ n. built sector block (id_after block) (free_left f v r.blocks bitmap block) (files_left f v block) n i.use_length) is.tally.directories_are
        ∙ ap (λ n. built sector block (id_after block) (free_left f v r.blocks bitmap block) (files_left f v block) (length (ordinary_directories f v)) n) st.use_length
        ∙ ap (λ b. built sector b (id_after b) (free_left f v r.blocks bitmap b) (files_left f v b) (length (ordinary_directories f v)) (use_length_in b)) e

    module _ (sector : ℕ) (there : block ≡ v.disk sector) (wanted next : List (ℕ × List ℕ)) where
      pub right_none : is_right r i ≡ true → LookAlike wanted (wanted ++ prevailing_edits f v r.blocks bitmap origin sector)
      unfolding prevailing_edits
      right_none e =
          subst (λ b. LookAlike wanted (wanted ++ cond b [] ((sector, cond (is_formed (v.disk sector)) (corrected f v r.blocks bitmap sector (v.disk sector)) (fresh f v r.blocks origin sector)) ∷ [])))
          (sym e ∙ right_same f v bitmap r is block i st ∙ ap (is_stated f v r.blocks bitmap) there) (nothing wanted)

      edits_are : is_right r i ≡ false → (b : Bool) → is_formed block ≡ b
          → (sector, cond b (corrected f v r.blocks bitmap sector (v.disk sector)) (fresh f v r.blocks origin sector)) ∷ [] ≡ prevailing_edits f v r.blocks bitmap origin sector
      unfolding prevailing_edits
      edits_are e b formed = sym
          (ap (λ t. cond t [] ((sector, cond (is_formed (v.disk sector)) (corrected f v r.blocks bitmap sector (v.disk sector)) (fresh f v r.blocks origin sector)) ∷ []))
          (ap (is_stated f v r.blocks bitmap) (sym there) ∙ sym (right_same f v bitmap r is block i st) ∙ e)
          ∙ ap (λ t. (sector, cond t (corrected f v r.blocks bitmap sector (v.disk sector)) (fresh f v r.blocks origin sector)) ∷ []) (ap is_formed (sym there) ∙ formed))

      pub fresh_put : is_right r i ≡ false → is_formed block ≡ false → (made : List ℕ) → made ≡ fresh f v r.blocks origin sector
          → LookAlike next (wanted ++ (sector, made) ∷ []) → LookAlike next (wanted ++ prevailing_edits f v r.blocks bitmap origin sector)
      fresh_put e formed made m put =
          subst (λ (edits : List (ℕ × List ℕ)). LookAlike next (wanted ++ edits)) (ap (λ (b : List ℕ). (sector, b) ∷ []) m ∙ edits_are e false formed) put

      pub corrected_put : is_right r i ≡ false → is_formed block ≡ true → (made : List ℕ) → made ≡ corrected f v r.blocks bitmap sector (v.disk sector)
          → LookAlike next (wanted ++ (sector, made) ∷ []) → LookAlike next (wanted ++ prevailing_edits f v r.blocks bitmap origin sector)
      corrected_put e formed made m put =
          subst (λ (edits : List (ℕ × List ℕ)). LookAlike next (wanted ++ edits)) (ap (λ (b : List ℕ). (sector, b) ∷ []) m ∙ edits_are e true formed) put

    -- its implementation use ends in the block
    pub use_fits : (size sector : ℕ) → block ≡ v.disk sector → is_formed block ≡ true → is_integrity size sector (v.disk sector) ≡ true → 88 + i.use_length ≤ size
    unfolding is_integrity
    use_fits size sector e formed whole =
        let here : is_integrity size sector block ≡ true = ap (is_integrity size sector) e ∙ whole in
        omega (
          arith,
          st.use_length,
          one_partition f v bitmap r is block i st formed,
          leb-true _ _ (and_parts (is_id 9 (id_at sector block)) (leb (80 + 8 * partitions_in block + use_length_in block) size) here).1,
        )

  -- of the whole rule
  module _ (extent : Span) where
    edits_by : (p : Option ℕ) → (extent.length == 0) ≡ false → p ≡ prevailing_integrity v.size v.disk extent
        → cond (is_stated_by f v r.blocks bitmap p) [] (integrity_edits_by f v r.blocks bitmap origin extent p) ≡ integrity_edits f v r.blocks bitmap origin extent
    unfolding integrity_edits integrity_holds
    edits_by p binds e =
        ap (λ q. cond (is_stated_by f v r.blocks bitmap q) [] (integrity_edits_by f v r.blocks bitmap origin extent q)) e
        ∙ sym (ap (λ b. cond (b || is_stated_by f v r.blocks bitmap (prevailing_integrity v.size v.disk extent)) []
        (integrity_edits_by f v r.blocks bitmap origin extent (prevailing_integrity v.size v.disk extent))) binds)

    pub prevailing_is : (sector : ℕ) → (extent.length == 0) ≡ false → Some sector ≡ prevailing_integrity v.size v.disk extent
        → prevailing_edits f v r.blocks bitmap origin sector ≡ integrity_edits f v r.blocks bitmap origin extent
    unfolding prevailing_edits
    prevailing_is sector binds e = edits_by (Some sector) binds e

    pub first_is : (volume : code.Volume) (c : Counts) (free : ℕ) → volume.size ≡ v.size → volume.integrity ≡ extent → c ≡ fresh_counts r free → free ≡ free_blocks f v r.blocks
        → (extent.length == 0) ≡ false → None ≡ prevailing_integrity v.size v.disk extent
        → first_by volume c origin ≡ integrity_edits f v r.blocks bitmap origin extent
    unfolding first_by
    first_is volume c free size same counts e binds none =
        ap (λ n. first n volume.integrity c) size ∙ ap (λ x. first v.size x c) same ∙ ap (first v.size extent) counts
        ∙ ap (λ (b : List ℕ). (extent.start, b) ∷ ends_by v.size extent.start b (blocks_for v.size extent.length)) (fresh_is free extent.start e)
        ∙ edits_by None binds none where
          first : ℕ → Span → Counts → List (ℕ × List ℕ)
          first n x k =
              (x.start, made_by n k origin x.start)
              ∷ ends_by n x.start (made_by n k origin x.start) (blocks_for n x.length)

pub unbound : (f : Frame) (v : listing.Volume) (blocks : ℕ) (bitmap : Option Short) (origin : Origin) (extent : Span) (wanted : List (ℕ × List ℕ)) → extent.length ≡ 0
    → LookAlike wanted (wanted ++ integrity_edits f v blocks bitmap origin extent)
unfolding integrity_edits integrity_holds
unbound f v blocks bitmap origin extent wanted e =
    subst (λ n. LookAlike wanted (wanted ++ cond ((n == 0) || is_stated_by f v blocks bitmap (prevailing_integrity v.size v.disk extent)) []
    (integrity_edits_by f v blocks bitmap origin extent (prevailing_integrity v.size v.disk extent)))) (sym e) (nothing wanted)
