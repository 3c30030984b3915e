-- What the mend of the rule on sparing tables puts, by its verdict.
use Rattle.std.proofs.Common.{◌≡◌, ℕ, ◌+◌, ◌<◌, refl, sym, subst, ◌∙◌, ap, List, [], ◌∷◌, ◌++◌, take, length, get_or, map, Bool, true, false, cond, not, ◌&&◌, nat_le, nat_lt, Option, Some, None, Result}
use Rattle.std.specs.Prelude.{IfSome, OnOk, option_map}
use Rattle.std.specs.List.{filter, flat_map}
use Rattle.std.proofs.lemmas.List.{flat_map_more, take_more}
use Rattle.udf_model.specs.Crc.{crc_of}
use Rattle.udf_model.specs.Image.{block_of}
use Rattle.udf_outside.specs.Stops.{Held}
use Rattle.udf_volume_model.specs.Edits.{look}
use Rattle.udf_volume_model.specs.Maps.{SparingMap}
use Rattle.udf_volume_model.specs.SparingTable.{prevailing_area, table_area, table_end}
use Rattle.udf_volume_model.specs.SparingRule.{agrees_with, copies_by, copies_of, deviating, deviating_by, is_coverable, table_blocks, table_content}
use Rattle.udf_layer.specs.Fronts.{table_bytes}
use Rattle.udf_layer.specs.Verdict.{deviation_at}
use Rattle.udf_layer.specs.declared.agreement.Deviation.{Deviation}
use Rattle.udf_layer.specs.declared.agreement.TableVerdict.{TableVerdict}
use Rattle.udf_volume.specs.Areas.{sparing_seen}
use Rattle.udf_volume.specs.Verdicts.{JudgesTables, prevailing_by, deviations_of}
use Rattle.udf_volume.specs.declared.volume.Volume.{Volume}
use Rattle.udf_wanted.specs.Wanted.{LookAlike}
use Rattle.udf_wanted.proofs.Looking.{nothing}
use Rattle.udf_plan.proofs.TableCopies.{blocks_are, bytes_end}

-- a table's copy over the image that was judged
pub over_same : (size : ℕ) (table : List ℕ) (wanted next : List (ℕ × List ℕ)) (at : ℕ) (image now : List ℕ) → now ≡ image
    → LookAlike next (wanted ++ table_blocks size (block_of size now) table at) → LookAlike next (wanted ++ table_blocks size (block_of size image) table at)
over_same size table wanted next at image now same put n block =
    put n block ∙ ap (λ i. look n (wanted ++ table_blocks size (block_of size i) table at) block) same

-- the copies that a verdict asks for
module _ (size : ℕ) (disk : ℕ → List ℕ) where
  abbrev copies_at : List ℕ → List Deviation → List (ℕ × List ℕ)
  copies_at table others = flat_map (λ other. table_blocks size disk table other.at) others

  pub one_copied : (table : List ℕ) (others : List Deviation) (i : ℕ) (d : Deviation) → i < length others
      → copies_at table (take i others) ++ table_blocks size disk table (get_or others i d).at ≡ copies_at table (take (i + 1) others)
  one_copied table others i d lt =
      flat_map_more (λ other. table_blocks size disk table other.at) [] (take i others) (get_or others i d) ∙ ap (copies_at table) (sym (take_more others i d lt))

  module _ (s : SparingMap) where
    each : (area : List ℕ) (sectors : List ℕ) → copies_at (table_bytes area) (map (deviation_at size disk s) sectors) ≡ flat_map (table_blocks size disk area) sectors
    each area [] = refl
    each area (at ∷ sectors) =
        ap (λ b. b ++ copies_at (table_bytes area) (map (deviation_at size disk s) sectors)) (blocks_are area size disk at)
        ∙ ap (λ rest. table_blocks size disk area at ++ rest) (each area sectors)

    of_area : (o : Option (List ℕ)) (table : List ℕ) (others : List Deviation) → Some table ≡ option_map table_bytes o
        → others ≡ map (deviation_at size disk s) (deviating_by size disk s o) → copies_at table others ≡ copies_by size disk s o
    of_area None table others t e = absurd (cc)
    of_area (Some area) table others t e =
        let is : table ≡ table_bytes area = cc in
        ap (copies_at table) e
        ∙ ap (λ b. copies_at b (map (deviation_at size disk s) (deviating size disk s area))) is
        ∙ each area (deviating size disk s area)

    none_agree : (area : List ℕ) → nat_le (table_end area) 65551 ≡ false → flat_map (table_blocks size disk area) (deviating size disk s area) ≡ []
    unfolding deviating is_coverable
    none_agree area e =
        ap (λ b. flat_map (table_blocks size disk area) (cond (b && nat_lt (crc_of (table_content area)) 65536)
        (filter (λ at. not (agrees_with s.bytes at (table_area size disk s.bytes at) area)) s.tables) [])) e

    uncovered_of : (o : Option (List ℕ)) (table : List ℕ) → Some table ≡ option_map table_bytes o → nat_le (table_end table) 65551 ≡ false → copies_by size disk s o ≡ []
    uncovered_of None table t e = refl
    uncovered_of (Some area) table t e =
        let is : table ≡ table_bytes area = cc in
        none_agree area (ap (λ n. nat_le n 65551) (sym (ap (λ (b : List ℕ). table_end b) is ∙ bytes_end area)) ∙ e)

  pub no_cover : (sparing : Option SparingMap) (table : List ℕ) → Some table ≡ prevailing_by size disk sparing → nat_le (table_end table) 65551 ≡ false
      → copies_of size disk sparing ≡ []
  no_cover None table t e = refl
  no_cover (Some s) table t e = uncovered_of s (prevailing_area size disk s) table t e

  pub copies_are : (sparing : Option SparingMap) (table : List ℕ) (others : List Deviation) → Some table ≡ prevailing_by size disk sparing
      → others ≡ deviations_of size disk sparing → copies_at table others ≡ copies_of size disk sparing
  copies_are None table others t e = absurd (cc)
  copies_are (Some s) table others t e = of_area s (prevailing_area size disk s) table others t e

-- what the mend puts, by the verdict
module _ (volume : Volume) (image : List ℕ) (verdict : TableVerdict) (judged : JudgesTables volume image verdict) (wanted : List (ℕ × List ℕ)) where
  abbrev stated : List (ℕ × List ℕ)
  stated = copies_of volume.size (block_of volume.size image) (sparing_seen volume)

  with_none : stated ≡ [] → LookAlike wanted (wanted ++ stated)
  with_none e = subst (λ (edits : List (ℕ × List ℕ)). LookAlike wanted (wanted ++ edits)) (sym e) (nothing wanted)

  module _ (table : List ℕ) (is : Some table ≡ option_map (λ v. v.items) verdict.prevailing) where
    pub none_covered : table_end table ≡ length table → nat_le (length table) 65551 ≡ false → LookAlike wanted (wanted ++ stated)
    none_covered ends e =
        with_none (no_cover volume.size (block_of volume.size image) (sparing_seen volume) table (is ∙ judged.prevailing) (ap (λ n. nat_le n 65551) ends ∙ e))

    pub put_as : (others : List Deviation) → others ≡ verdict.deviating.items → copies_at volume.size (block_of volume.size image) table others ≡ stated
    put_as others e = copies_are volume.size (block_of volume.size image) (sparing_seen volume) table others (is ∙ judged.prevailing) (e ∙ judged.deviating)

-- where a CRC can cover no more
pub not_coverable : (o : Option ℕ) (n behind : ℕ) → o ≡ cond (nat_le n 65551) (Some behind) None → o ≡ None → nat_le n 65551 ≡ false
not_coverable o n behind e none = by_test (nat_le n 65551) (sym none ∙ e) where
  by_test : (b : Bool) → None ≡ cond b (Some behind) None → b ≡ false
  by_test true e = absurd (cc)
  by_test false e = refl

pub if_some : {X : Type 0} (P : X → Type 0) (o : Option X) (x : X) → o ≡ Some x → IfSome o P → P x
if_some P o x e f = subst (λ p. IfSome p P) e f

-- over the image that was judged, where the call succeeds
pub put_over : {T E : Type 0} (r : Result T E) (wanted next : List (ℕ × List ℕ)) (edits : Held → List (ℕ × List ℕ)) (now held : Held) (whole : List (ℕ × List ℕ))
    → now ≡ held → edits held ≡ whole → OnOk r (LookAlike next (wanted ++ edits now)) → OnOk r (LookAlike next (wanted ++ whole))
put_over r wanted next edits now held whole same is put =
    subst (λ (e : List (ℕ × List ℕ)). OnOk r (LookAlike next (wanted ++ e))) (ap edits same ∙ is) put
