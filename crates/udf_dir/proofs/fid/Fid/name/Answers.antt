-- A FID has room for its name.
use Rattle.std.proofs.Common.{ℕ, List, arith, length, ap, get_or}
use Rattle.udf_model.specs.Bytes.{number_at}
use Rattle.udf_dir.proofs.Lengths.{room, name_room}
use Rattle.udf_dir.proofs.fid.Fid.name.Goals as goal

pub u16_at-requires : goal.u16_at-requires
u16_at-requires c = omega (arith, room c.self.inside.bytes.now c.self.invariant, ap length c.over-fields.ensures)

pub split_at-requires : goal.split_at-requires
split_at-requires c =
    omega (arith, name_room c.self.inside.bytes.now c.self.invariant, c.u16_at.ensures, ap (λ (xs : List ℕ). number_at 2 xs 36) c.over-fields.ensures)

pub split_at-requires-2 : goal.split_at-requires-2
split_at-requires-2 c =
    omega (
      arith,
      name_room c.self.inside.bytes.now c.self.invariant,
      c.u16_at.ensures,
      c.u8_at.ensures,
      c.split_at.ensures.back_len,
      ap (λ (xs : List ℕ). number_at 2 xs 36) c.over-fields.ensures,
      ap (λ (xs : List ℕ). get_or xs 19 0) c.over-fields.ensures,
    )
