-- The blocks of an extent hold its bytes.
use Rattle.std.proofs.Common.{◌≡◌, ℕ, suc, ◌+◌, ◌-◌, ◌*◌, ◌/◌, ◌<◌, ◌≤◌, arith, ◌∙◌, ap, true, ◌++◌}
use Rattle.std.proofs.Math.Nat.{mod-lt}
use Rattle.std.proofs.lemmas.Nat.{div-add-mod'}
use Rattle.std.proofs.lemmas.Bool.Decides.{nat_tests}
use Rattle.udf_entry.proofs.Appending.{blocks_more}
use Rattle.udf_file_model.specs.Address.{addr}
use Rattle.udf_file_model.specs.Content.{block_at, blocks_from}
use Rattle.udf_file_model.specs.Front.{blocks_for}
use Rattle.udf_file_model.specs.Listing.{Volume}
use Rattle.udf_volume_model.specs.Anchor as anchor
use Rattle.udf_volume_model.specs.Layout.{is_bitmap}

pub block_more : (v : Volume) (block n : ℕ) → blocks_from v 0 block (n + 1) ≡ blocks_from v 0 block n ++ block_at v (addr 0 (block + n))
block_more v block n = ap (blocks_from v 0 block) (let e : n + 1 ≡ suc n = omega arith in e) ∙ blocks_more v 0 n block

pub bytes_fit : (size bytes : ℕ) → 0 < size → bytes ≤ blocks_for size bytes * size
bytes_fit size bytes some =
    omega (arith, div-add-mod' (bytes + (size - 1)) size, mod-lt (bytes + (size - 1)) some)

-- where a lawful bitmap lies
pub lies_within : (size blocks bytes block : ℕ) → is_bitmap size blocks bytes block ≡ true → block + blocks_for size bytes ≤ blocks
unfolding is_bitmap anchor.blocks_for
lies_within size blocks bytes block h = grind (arith, nat_tests)

pub holds_bits : (size blocks bytes block : ℕ) → is_bitmap size blocks bytes block ≡ true → 24 + (blocks + 7) / 8 ≤ bytes
unfolding is_bitmap
holds_bits size blocks bytes block h = grind (arith, nat_tests)
