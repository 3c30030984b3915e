-- The frame of a survey, by the file set of a volume.
use Rattle.std.proofs.Common.{◌≡◌, ℕ, zero, suc, ◌≤◌, ◌<◌, Bool, true, false, not, cond, ◌&&◌, Option, Some, None, refl, ap, ◌∙◌, arith}
use Rattle.std.specs.Prelude.{is_some, ◌==◌}
use Rattle.std.proofs.lemmas.Bool.{and_parts}
use Rattle.std.proofs.lemmas.Bool.Decides.{nat_tests}
use Rattle.udf_field.specs.declared.address.Addr.{Addr}
use Rattle.udf_file_model.specs.Listing.{Volume}
use Rattle.udf_tree_model.specs.Frame.{is_address}
use Rattle.udf_tree_model.specs.Stated.{IsFileSetPlaced}
use Rattle.udf_volume_model.specs.Anchor.{blocks_for}
use Rattle.udf_volume_model.specs.FileSet.{FileSet as NoFileSet, FileSets, Site, address, first_block, has_file_set, is_clear, is_within, names_further, refusal}
use Rattle.udf_volume.proofs.Sited.{some_blocks}
use Rattle.udf_tree.specs.Framed.{frame_of}

-- where nothing is refused the extent is clear, and has a file set
not_refused : (b c : Bool) → cond b (cond c (Some FileSets) None) (Some NoFileSet) ≡ None → b ≡ true
not_refused true c h = refl
not_refused false c h = cc

some_bytes : (n : ℕ) → not (n == 0) ≡ true → 0 < n
some_bytes n h = grind (arith, nat_tests)

first_within : (set : Addr → Bool) (at : Addr) (n : ℕ) → 0 < n → is_within set at n ≡ true → set at ≡ true
unfolding is_within
first_within set at zero l h = absurd (omega (arith, l))
first_within set at (suc n) l h = (and_parts (set (address at.part at.block)) _ h).0

pub placed_there : (s : Site) (v : Volume) → v.place ≡ s.place → 512 ≤ s.size → is_address s.extent.at ≡ true → refusal s ≡ None → IsFileSetPlaced (frame_of s) v
unfolding refusal is_clear has_file_set
placed_there s v p some address_is h named =
    let b = and_parts (is_clear s) (has_file_set s) (not_refused (is_clear s && has_file_set s) (names_further (first_block s)) h) in
    let c = and_parts (is_within (λ a. is_some (s.place a)) s.extent.at (blocks_for s.size s.extent.length)) _ b.0 in
    let d = and_parts (not (s.extent.length == 0)) _ b.1 in
    (address_is, ap (λ (place : Addr → Option ℕ). is_some (place s.extent.at)) p ∙ first_within (λ a. is_some (s.place a)) s.extent.at (blocks_for s.size s.extent.length) (some_blocks s.size s.extent.length some (some_bytes s.extent.length d.0)) c.0)
