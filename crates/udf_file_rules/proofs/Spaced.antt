-- What is reported of the space of a volume is what the rule finds.
use Rattle.std.proofs.Common.{◌≡◌, ℕ, refl, sym, ◌∙◌, ap, Bool, true, false, cond, [], ◌∷◌, map, Some, None}
use Rattle.std.specs.Prelude.{◌==◌, ◌&&◌}
use Rattle.std.specs.List.{count_by, list_all, range_with_len}
use Rattle.std.proofs.lemmas.Bool.{and_parts}
use Rattle.udf_field.specs.declared.address.Short.{Short}
use Rattle.udf_file_model.specs.Address.{addr}
use Rattle.udf_file_model.specs.Listing as listing
use Rattle.udf_tree_model.specs.Claimed.{is_free}
use Rattle.udf_tree_model.specs.Frame.{Frame}
use Rattle.udf_volume_model.specs.Layout.{are_apart, is_bitmap, is_inside}
use Rattle.udf_volume.specs.Areas.{areas_stated}
use Rattle.udf_volume.specs.Laid.{IsLaidOut, are_high_stated, areas_laid, is_bitmap_at}
use Rattle.udf_volume.specs.declared.volume.Volume.{Volume}
use Rattle.udf_rules.specs.Findings.{finding_of}
use Rattle.udf_rules_model.specs.Bitmap.{area_of, bitmap_findings, bitmap_holds, free_blocks, is_headed, wrong_bits}
use Rattle.udf_rules.specs.declared.finding.Place.TheVariants.{At}
use Rattle.udf_rules_model.specs.Found.{found_at, unless}
use Rattle.udf_free.specs.Free.{free_bits}
use Rattle.udf_free.specs.Verdict.{verdict_in}
use Rattle.udf_free.proofs.Judging.{counted}
use Rattle.udf_file_rules.specs.Space.{bitmap_report}

-- where a lawful bitmap lies
pub bitmap_laid : (volume : Volume) (extent : Short) → IsLaidOut volume → volume.bitmap ≡ Some extent → is_bitmap volume.size volume.length extent.length extent.block ≡ true
unfolding areas_laid
bitmap_laid volume extent laid named =
    let a = and_parts (list_all (is_inside volume.blocks) (areas_stated volume)) _ laid.areas in
    let b = and_parts (are_apart (areas_stated volume)) _ a.1 in
    let c = and_parts (are_high_stated volume) _ b.1 in
    sym (ap (is_bitmap_at volume.size volume.length) named) ∙ c.1

-- the free blocks are the bits that are set
pub free_counted : (f : Frame) (v : listing.Volume) (blocks : ℕ) → count_by (λ free. free) (free_bits f v blocks) ≡ free_blocks f v blocks
unfolding free_bits free_blocks
free_counted f v blocks = counted (λ n. is_free f v (addr 0 n)) (λ n. is_free f v (addr 0 n)) (λ n. refl) (range_with_len 0 blocks)

pub reported : (f : Frame) (v : listing.Volume) (blocks : ℕ) (extent : Short)
    → bitmap_report (verdict_in f v blocks extent) (free_blocks f v blocks) ≡ map finding_of (bitmap_findings f v blocks (Some extent))
unfolding bitmap_report bitmap_findings bitmap_holds
reported f v blocks extent = by (is_headed blocks extent (area_of v extent)) (wrong_bits f v blocks (area_of v extent))
  where
    one : (holds : Bool) (wrong : ℕ) → cond holds [] (record { rule = 12; place = At (addr 0 0); first = wrong; second = free_blocks f v blocks } ∷ [])
        ≡ map finding_of (unless holds (found_at 12 (addr 0 0) wrong (free_blocks f v blocks)))
    one true wrong = refl
    one false wrong = refl

    by : (headed : Bool) (wrong : ℕ) → cond (headed && (cond headed wrong blocks == 0)) [] (record { rule = 12; place = At (addr 0 0); first = cond headed wrong blocks; second = free_blocks f v blocks } ∷ [])
        ≡ map finding_of (unless (headed && (wrong == 0)) (found_at 12 (addr 0 0) (cond headed wrong blocks) (free_blocks f v blocks)))
    by true wrong = one (wrong == 0) wrong
    by false wrong = refl

pub none_reported : (f : Frame) (v : listing.Volume) (blocks : ℕ) → map finding_of (bitmap_findings f v blocks None) ≡ []
unfolding bitmap_findings
none_reported f v blocks = refl
