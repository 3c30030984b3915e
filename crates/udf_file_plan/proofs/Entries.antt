-- The mended block of an entry.
use Rattle.std.proofs.Common.{◌≡◌, ℕ, List, [], ◌∷◌, true, false, cond, length, drop, ◌+◌, ◌-◌, sym, ap, ◌∙◌}
use Rattle.std.specs.Str.{bytes_eq}
use Rattle.udf_model.specs.Tag.{retagged}
use Rattle.udf_volume_laws.proofs.Same.{bytes_same}
use Rattle.udf_wanted.specs.Wanted.{differing}
use Rattle.udf_file_model.specs.Wanted.{Wanted, base_of, body_with, entry_with}
use Rattle.udf_file_mends.specs.Mends.{mended_entry}
use Rattle.udf_file_plan.proofs.Differing.{none_differs}

-- one that has what is wanted
pub entry_stays : (sector location header : ℕ) (w : Wanted) (block after : List ℕ) → after ≡ body_with header w block → bytes_eq (drop 16 after) (drop 16 block) ≡ true
    → [] ≡ differing (λ _. block) ((sector, mended_entry location header w block) ∷ [])
unfolding mended_entry
entry_stays sector location header w block after is same =
    let e : bytes_eq (drop 16 (body_with header w block)) (drop 16 block) ≡ true = ap (λ b. bytes_eq (drop 16 b) (drop 16 block)) (sym is) ∙ same in
    none_differs sector block block (bytes_same block)
    ∙ sym (ap (λ b. differing (λ _. block) ((sector, cond b block (entry_with location header w block)) ∷ [])) e)

-- one that is new
pub entry_changes : (location header base bytes : ℕ) (w : Wanted) (block after new : List ℕ) → after ≡ body_with header w block
    → bytes_eq (drop 16 after) (drop 16 block) ≡ false → base ≡ base_of header block → bytes ≡ length w.body
    → new ≡ retagged location (base + bytes - 16) after → new ≡ mended_entry location header w block
unfolding mended_entry entry_with
entry_changes location header base bytes w block after new is other at many tag =
    let e : bytes_eq (drop 16 (body_with header w block)) (drop 16 block) ≡ false = ap (λ b. bytes_eq (drop 16 b) (drop 16 block)) (sym is) ∙ other in
    tag ∙ ap (λ b. retagged location (b + bytes - 16) after) at ∙ ap (λ n. retagged location (base_of header block + n - 16) after) many
    ∙ ap (retagged location (base_of header block + length w.body - 16)) is
    ∙ sym (ap (λ b. cond b block (retagged location (base_of header block + length w.body - 16) (body_with header w block))) e)
