-- What the code finds of an integrity descriptor is what is found of the volume.
use Rattle.std.proofs.Common.{◌≡◌, ℕ, ◌+◌, ◌<◌, ◌^◌, arith, refl, sym, ap, ◌∙◌, List, [], ◌∷◌, length, map, Bool, true, false, cond, ◌&&◌, ◌||◌, Option, Some, None}
use Rattle.std.specs.Prelude.{◌==◌, max, nat_le, nat_lt, option_map}
use Rattle.std.proofs.lemmas.Bool.{and_parts, eqb-true}
use Rattle.udf_field.specs.declared.address.Short.{Short}
use Rattle.udf_field.specs.declared.address.Span.{Span}
use Rattle.udf_file_model.specs.Listing as listing
use Rattle.udf_tree_model.specs.Frame.{Frame}
use Rattle.udf_tree_model.specs.Ordinary.{files_named, ordinary_directories, ordinary_files}
use Rattle.udf_tree.specs.Survey.{IsSurvey, View}
use Rattle.udf_volume_model.specs.Rules as model
use Rattle.udf_integrity.specs.Stated.{States}
use Rattle.udf_integrity.specs.declared.descriptor.Integrity.{Integrity}
use Rattle.udf_rules.specs.Findings.{finding_of}
use Rattle.udf_rules_model.specs.Bitmap.{free_blocks}
use Rattle.udf_rules_model.specs.Integrity.{directories_in, files_in, free_is_stated, greatest_id, integrity_findings, integrity_holds, is_formed, is_next_id, is_stated, is_stated_by, mended_id, next_id_in, partitions_in, prevailing_integrity, sector_or, type_in, type_or_none}
use Rattle.udf_file_rules.specs.declared.right.Right.{Right}
use Rattle.udf_file_rules.specs.declared.tally.Tally.{Tally}
use Rattle.udf_file_rules.specs.Right.{IsFreeCount, IsRight, Prevails, found_with, free_by, is_formed_by, is_next, is_right, least_by, next_id_by}
use Rattle.udf_file_rules.specs.Tallied.{IsTally, ordinary_along, tally_of}
use Rattle.udf_file_rules.proofs.Bounding.{room_above}
use Rattle.udf_file_rules.proofs.Ordinaries.{all_counted, directories_counted, files_counted, greatest_counted}

-- six tests one after another, of which the last is only made where the second passes
six_same : (a a' b b' c c' d d' e e' g g' : Bool) → a ≡ a' → b ≡ b' → c ≡ c' → d ≡ d' → e ≡ e' → (b' ≡ true → g ≡ g')
    → (a && (b && (c && (d && (e && g))))) ≡ (a' && (b' && (c' && (d' && (e' && g')))))
six_same a a' b true c c' d d' e e' g g' p q r s t last =
    ap (λ x. x && (b && (c && (d && (e && g))))) p
    ∙ ap (λ x. a' && (x && (c && (d && (e && g))))) q
    ∙ ap (λ x. a' && (x && (d && (e && g)))) r
    ∙ ap (λ x. a' && (c' && (x && (e && g)))) s
    ∙ ap (λ x. a' && (c' && (d' && (x && g)))) t
    ∙ ap (λ x. a' && (c' && (d' && (e' && x)))) (last refl)
six_same a a' b false c c' d d' e e' g g' p q r s t last =
    ap (λ x. x && (b && (c && (d && (e && g))))) p
    ∙ ap (λ x. a' && (x && (c && (d && (e && g))))) q

module _ (f : Frame) (v : listing.Volume) (bitmap : Option Short) (r : Right) (is : IsRight f v r.blocks bitmap r) where
  next_same : (id : ℕ) → is_next r id ≡ is_next_id f v id
  unfolding is_next_id
  next_same id = ap (λ n. nat_le 16 id && nat_lt n id) is.tally.greatest_is

  pub least_same : least_by r ≡ max 16 (greatest_id f v + 1)
  least_same = ap (λ n. max 16 (n + 1)) is.tally.greatest_is

  module _ (block : List ℕ) (i : Integrity) (st : States block i) where
    pub formed_same : is_formed_by i ≡ is_formed block
    unfolding is_formed
    formed_same = ap (λ n. (n == 1) && nat_le 46 i.use_length) st.partitions ∙ ap (λ n. (partitions_in block == 1) && nat_le 46 n) st.use_length

    pub one_partition : is_formed block ≡ true → partitions_in block ≡ 1
    unfolding is_formed
    one_partition h = eqb-true (partitions_in block) 1 (and_parts (partitions_in block == 1) _ h).0

    free_same : free_by r.free i.free ≡ free_is_stated f v r.blocks bitmap block
    free_same = ap (λ o. free_by o i.free) is.free ∙ by bitmap
      where
        by : (o : Option Short) → free_by (option_map (λ b. free_blocks f v r.blocks) o) i.free ≡ free_is_stated f v r.blocks o block
        by None = refl
        by (Some b) = ap (λ n. n == free_blocks f v r.blocks) st.free

    files_same : is_formed block ≡ true
        → (((i.files == r.tally.files) || (i.files == r.files_named)) && (i.directories == r.tally.directories))
        ≡ (((files_in block == length (ordinary_files f v)) || (files_in block == files_named f v)) && (directories_in block == length (ordinary_directories f v)))
    files_same h =
        let one = one_partition h in
        ap (λ n. ((n == r.tally.files) || (n == r.files_named)) && (i.directories == r.tally.directories)) (st.files one)
        ∙ ap (λ n. ((files_in block == n) || (files_in block == r.files_named)) && (i.directories == r.tally.directories)) is.tally.files_are
        ∙ ap (λ n. ((files_in block == length (ordinary_files f v)) || (files_in block == n)) && (i.directories == r.tally.directories)) is.named
        ∙ ap (λ n. ((files_in block == length (ordinary_files f v)) || (files_in block == files_named f v)) && (n == r.tally.directories)) (st.directories one)
        ∙ ap (λ n. ((files_in block == length (ordinary_files f v)) || (files_in block == files_named f v)) && (directories_in block == n)) is.tally.directories_are

    pub right_same : is_right r i ≡ is_stated f v r.blocks bitmap block
    unfolding is_stated
    right_same =
        six_same _ _ _ _ _ _ _ _ _ _ _ _ (ap (λ n. n == 1) st.kind) formed_same free_same (ap (λ n. n == r.blocks) st.blocks)
        (ap (is_next r) st.next_id ∙ next_same (next_id_in block)) files_same

    pub id_same : next_id_by r i ≡ cond (is_formed block && is_next_id f v (next_id_in block)) (next_id_in block) (max 16 (greatest_id f v + 1))
    id_same =
        ap (λ b. cond (b && is_next r i.next_id) i.next_id (least_by r)) formed_same
        ∙ ap (λ n. cond (is_formed block && is_next r n) n (least_by r)) st.next_id
        ∙ ap (λ b. cond (is_formed block && b) (next_id_in block) (least_by r)) (next_same (next_id_in block))
        ∙ ap (λ n. cond (is_formed block && is_next_id f v (next_id_in block)) (next_id_in block) n) least_same

  module _ (extent : Span) where
    abbrev found_by : Option ℕ → model.Finding
    found_by p = record { rule = 13; place = model.Sector (sector_or extent.start p); first = type_or_none v.disk p; second = mended_id f v p }

    findings_by : (p : Option ℕ) (b : Bool) → (extent.length == 0) ≡ false → p ≡ prevailing_integrity v.size v.disk extent → is_stated_by f v r.blocks bitmap p ≡ b
        → cond b [] (finding_of (found_by p) ∷ []) ≡ map finding_of (integrity_findings f v r.blocks bitmap extent)
    unfolding integrity_findings integrity_holds
    findings_by p b binds e h =
        mapped b
        ∙ sym (ap (λ (q : Option ℕ). map finding_of (cond ((extent.length == 0) || is_stated_by f v r.blocks bitmap q) [] (found_by q ∷ []))) (sym e)
        ∙ ap (λ c. map finding_of (cond (c || is_stated_by f v r.blocks bitmap p) [] (found_by p ∷ []))) binds
        ∙ ap (λ c. map finding_of (cond c [] (found_by p ∷ []))) h)
      where
        mapped : (c : Bool) → cond c [] (finding_of (found_by p) ∷ []) ≡ map finding_of (cond c [] (found_by p ∷ []))
        mapped true = refl
        mapped false = refl

    pub none_there : (first : ℕ) (prevailing : Option ℕ) (block : List ℕ) → Prevails v extent first prevailing block → prevailing ≡ None
        → found_with first 2 (least_by r) ∷ [] ≡ map finding_of (integrity_findings f v r.blocks bitmap extent)
    none_there first prevailing block p e =
        ap (λ n. found_with n 2 (least_by r) ∷ []) p.begins
        ∙ ap (λ n. found_with extent.start 2 n ∷ []) least_same
        ∙ findings_by None false p.binds (sym e ∙ p.prevails) refl

    module _ (first sector : ℕ) (prevailing : Option ℕ) (block : List ℕ) (i : Integrity) (p : Prevails v extent first prevailing block) (e : prevailing ≡ Some sector) (st : States block i) where
      stated_same : is_right r i ≡ is_stated f v r.blocks bitmap (v.disk sector)
      stated_same = right_same block i st ∙ ap (is_stated f v r.blocks bitmap) (p.there sector e)

      pub right_there : is_right r i ≡ true → [] ≡ map finding_of (integrity_findings f v r.blocks bitmap extent)
      right_there h = findings_by (Some sector) true p.binds (sym e ∙ p.prevails) (sym stated_same ∙ h)

      pub wrong_there : is_right r i ≡ false → found_with sector i.kind (next_id_by r i) ∷ [] ≡ map finding_of (integrity_findings f v r.blocks bitmap extent)
      wrong_there h =
          ap (λ n. found_with sector n (next_id_by r i) ∷ []) (st.kind ∙ ap type_in (p.there sector e))
          ∙ ap (λ n. found_with sector (type_in (v.disk sector)) n ∷ []) (id_same block i st ∙ ap (λ (l : List ℕ). cond (is_formed l && is_next_id f v (next_id_in l)) (next_id_in l) (max 16 (greatest_id f v + 1))) (p.there sector e))
          ∙ findings_by (Some sector) false p.binds (sym e ∙ p.prevails) (sym stated_same ∙ h)

pub is_tally : (f : Frame) (v : listing.Volume) (x : View) (t : Tally) → IsSurvey f v x → t ≡ tally_of (ordinary_along x) → t.files + t.directories < 2 ^ 63 → IsTally f v t
is_tally f v x t told e few =
    let all : length _ ≡ t.files + t.directories = all_counted f v x told ∙ sym (ap (λ (u : Tally). u.files + u.directories) e) in
    let greatest = ap (λ (u : Tally). u.greatest_id) e ∙ greatest_counted f v x told in
    record {
      files_are = ap (λ (u : Tally). u.files) e ∙ files_counted f v x told;
      directories_are = ap (λ (u : Tally). u.directories) e ∙ directories_counted f v x told;
      greatest_is = greatest;
      room = let above = room_above f v (omega (arith, all, few)) in omega (arith, greatest, above);
    }

pub free_known : (f : Frame) (v : listing.Volume) (blocks : ℕ) (bitmap : Option Short) (free : ℕ) → IsFreeCount f v blocks bitmap free
    → option_map (λ b. free) bitmap ≡ option_map (λ b. free_blocks f v blocks) bitmap
free_known f v blocks None free h = refl
free_known f v blocks (Some b) free h = ap Some h

-- the rule does not bind where the extent has no length
pub unbound : (f : Frame) (v : listing.Volume) (blocks : ℕ) (bitmap : Option Short) (extent : Span) → extent.length ≡ 0 → [] ≡ map finding_of (integrity_findings f v blocks bitmap extent)
unfolding integrity_findings integrity_holds
unbound f v blocks bitmap extent e =
    sym (ap (λ c. map finding_of (cond ((c == 0) || is_stated_by f v blocks bitmap (prevailing_integrity v.size v.disk extent)) [] (found ∷ []))) e)
  where
    found : model.Finding
    found = record {
      rule = 13;
      place = model.Sector (sector_or extent.start (prevailing_integrity v.size v.disk extent));
      first = type_or_none v.disk (prevailing_integrity v.size v.disk extent);
      second = mended_id f v (prevailing_integrity v.size v.disk extent);
    }
