-- The test of a whole tag means what the definition says.
use Rattle.std.proofs.Common.{◌≡◌, ℕ, ◌+◌, List, length, drop, get_or, subst, true, eqb, leb}
use Rattle.std.proofs.lemmas.Bool.{and_parts, and_from, eqb-true, eq-eqb, leb-true, le-leb}
use Rattle.udf_model.specs.Bytes.{IsBytes}
use Rattle.udf_model.specs.Crc.{crc_of, IsCrc}
use Rattle.udf_model.specs.Tag.{IsWhole, is_whole, checksum_of, crc_length, covered}
use Rattle.udf_model.proofs.Parts.{take_is_bytes, drop_is_bytes}
use Rattle.udf_model.proofs.Remainder.{is_crc, crc_unique}

covered_is_crc : (area : List ℕ) → IsBytes area → IsCrc (covered area) (crc_of (covered area))
covered_is_crc area bytes = is_crc (covered area) (take_is_bytes (crc_length area) (drop 16 area) (drop_is_bytes 16 area bytes))

pub makes_whole : (area : List ℕ) → IsBytes area → is_whole area ≡ true → IsWhole area
unfolding is_whole
makes_whole area bytes e =
    let first = and_parts (leb (16 + crc_length area) (length area)) _ e in
    let second = and_parts (eqb (get_or area 4 0) (checksum_of area)) _ first.1 in
    let P : ℕ → Type 0 = λ n. IsCrc (covered area) n in
    record {
      room = leb-true _ _ first.0;
      checksum = eqb-true _ _ second.0;
      crc = subst P (eqb-true _ _ second.1) (covered_is_crc area bytes);
    }

pub whole_passes : (area : List ℕ) → IsBytes area → IsWhole area → is_whole area ≡ true
unfolding is_whole
whole_passes area bytes whole =
    and_from _ _ (le-leb _ _ whole.room)
    (and_from _ _ (eq-eqb _ _ whole.checksum)
    (eq-eqb _ _ (crc_unique (covered area) _ _ (covered_is_crc area bytes) whole.crc)))
