use Rattle.std.proofs.Common.{◌∙◌, ◌<◌, true, false, ap, sym, refl, map, arith, List, ℕ}
use Rattle.udf_outside.specs.Sectors.{disk_of}
use Rattle.udf_volume.specs.Areas.{area_seen, areas_stated}
use Rattle.udf_volume.proofs.Packets.{has_map, lawful_as, lawful_is, used}
use Rattle.udf_volume.proofs.taken.lawful_table.Goals as goal

pub sparing_table-requires-clause-map : goal.sparing_table-requires-clause-map
sparing_table-requires-clause-map g c =
    has_map c.args.volume.now c.args.map.now c.requires.map (g.B.Bench.files c.args.bench.now) c.requires.over c.requires.laid

pub returns-then-lawful-clause-table : goal.returns-then-lawful-clause-table
returns-then-lawful-clause-table g c = λ tells.
    let map_is = has_map c.args.volume.now c.args.map.now c.requires.map (g.B.Bench.files c.args.bench.now) c.requires.over c.requires.laid in
    let some : 0 < c.in_ok-table.table.packet = omega (arith, map_is.packet, c.in_ok-table.ensures.used.packet) in
    let volume = c.args.volume.now in
    let disk : ℕ → List ℕ = disk_of volume.size (g.B.Bench.held c.args.bench.now) in
    let found = c.in_ok-table.ensures.table tells in (
      lawful_as volume disk c.args.map.now c.requires.map c.in_ok-table.table found c.deref.result.now true some
          (ap (map area_seen) c.deref.ensures.value ∙ c.in_ok-areas.ensures) c.if-lawful.ensures,
      used volume disk c.args.map.now c.requires.map c.in_ok-table.table found,
    )

pub returns-then-lawful-clause-packets : goal.returns-then-lawful-clause-packets
returns-then-lawful-clause-packets g c =
    let map_is = has_map c.args.volume.now c.args.map.now c.requires.map (g.B.Bench.files c.args.bench.now) c.requires.over c.requires.laid in
    let some : 0 < c.in_ok-table.table.packet = omega (arith, map_is.packet, c.in_ok-table.ensures.used.packet) in
    sym (lawful_is c.in_ok-table.table c.args.volume.now.blocks c.args.volume.now.anchor c.deref.result.now (areas_stated c.args.volume.now) some
    (ap (map area_seen) c.deref.ensures.value ∙ c.in_ok-areas.ensures)) ∙ sym c.if-lawful.ensures

pub returns-else-lawful-clause-table : goal.returns-else-lawful-clause-table
returns-else-lawful-clause-table g c = λ tells.
    let map_is = has_map c.args.volume.now c.args.map.now c.requires.map (g.B.Bench.files c.args.bench.now) c.requires.over c.requires.laid in
    let some : 0 < c.in_ok-table.table.packet = omega (arith, map_is.packet, c.in_ok-table.ensures.used.packet) in
    let volume = c.args.volume.now in
    let disk : ℕ → List ℕ = disk_of volume.size (g.B.Bench.held c.args.bench.now) in (
      refl,
      lawful_as volume disk c.args.map.now c.requires.map c.in_ok-table.table (c.in_ok-table.ensures.table tells) c.deref.result.now false some
          (ap (map area_seen) c.deref.ensures.value ∙ c.in_ok-areas.ensures) c.if-lawful.ensures,
    )
