-- A FID that is made to name another address (ECMA-167 4/14.4.5): block and partition of its ICB are new, and its tag is made anew
-- over as many bytes as its CRC covered, at the location that it had.
use Rattle.std.specs.Prelude.{ℕ, ◌<◌, ◌^◌, List}
use Rattle.udf_model.specs.Bytes.{IsBytes, with_number}
use Rattle.udf_model.specs.Tag.{crc_length, location, retagged}
use Rattle.udf_field.specs.declared.address.Addr.{Addr}
use Rattle.udf_file_model.specs.Fid.{IsFid}

-- the ICB's address stands at 24
abbrev pub readdressed : Addr → List ℕ → List ℕ
readdressed at fid = with_number 2 28 at.part (with_number 4 24 at.block fid)

unfoldable pub named_anew : Addr → List ℕ → List ℕ
named_anew at fid = retagged (location fid) (crc_length fid) (readdressed at fid)

-- a FID of bytes, and an address that fits its fields
pub record CanName (size : ℕ) (fid : List ℕ) (at : Addr) : Type 0 where
  pub bytes : IsBytes fid
  pub is : IsFid size fid
  pub block : at.block < 2 ^ 32
  pub part : at.part < 2 ^ 16
