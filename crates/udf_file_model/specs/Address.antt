-- Addresses, and where they stand (ECMA-167 4/7.1): a block of the partition that a reference in the partition maps names.
use Rattle.std.specs.Prelude.{ℕ, Bool, ◌==◌, ◌&&◌, Option, None, if◌then◌else◌}
use Rattle.udf_field.specs.declared.address.Addr.{Addr}
use Rattle.udf_file_model.specs.Place.{Place, placed_front}

-- the sectors of addresses, over which entries, lists and trees are defined
abbrev pub Places : Type 0
Places = Addr → Option ℕ

abbrev pub addr : ℕ → ℕ → Addr
addr part block = record { part = part; block = block }

abbrev pub same_addr : Addr → Addr → Bool
same_addr a b = (a.part == b.part) && (a.block == b.block)

-- the places of one partition
abbrev pub part_place : Places → ℕ → Place
part_place places part block = places (addr part block)

-- how many of so many blocks from an address on are placed before the first that is not
unfoldable pub placed_blocks : Places → Addr → ℕ → ℕ
placed_blocks places at blocks = placed_front (part_place places at.part) at.block blocks

-- the places of one partition at its reference; nothing is placed elsewhere
unfoldable pub lone_places : ℕ → Place → Places
lone_places part place a = if a.part == part then place a.block else None
