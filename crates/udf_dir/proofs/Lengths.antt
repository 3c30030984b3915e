-- What a FID has room for.
use Rattle.std.proofs.Common.{◌≡◌, ℕ, ◌+◌, ◌≤◌, ◌*◌, ◌/◌, arith, List, length, get_or, ◌∙◌, ap}
use Rattle.udf_model.specs.Bytes.{number_at}
use Rattle.udf_file_model.specs.Fid.{fid_length}
use Rattle.udf_file_model.proofs.Fids.{least}

pub room : (fid : List ℕ) → length fid ≡ fid_length fid → 40 ≤ length fid
room fid long = omega (arith, least fid)

pub name_room : (fid : List ℕ) → length fid ≡ fid_length fid → 38 + number_at 2 fid 36 + get_or fid 19 0 ≤ length fid
unfolding fid_length
name_room fid long = omega arith

pub length_is : (bytes : List ℕ) (used name : ℕ) → used ≡ number_at 2 bytes 36 → name ≡ get_or bytes 19 0
    → (38 + (used + name) + 3) / 4 * 4 ≡ fid_length bytes
unfolding fid_length
length_is bytes used name u n =
    ap (λ k. (38 + (k + name) + 3) / 4 * 4) u ∙ ap (λ k. (38 + (number_at 2 bytes 36 + k) + 3) / 4 * 4) n
    ∙ ap (λ k. k / 4 * 4) (let e : 38 + (number_at 2 bytes 36 + get_or bytes 19 0) + 3 ≡ 38 + number_at 2 bytes 36 + get_or bytes 19 0 + 3 = omega arith in e)
