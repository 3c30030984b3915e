use Rattle.std.proofs.Common.{rules, ◌≤◌}
use Rattle.udf_outside.specs.Memory.{files_in}
use Rattle.udf_free.proofs.TestParts.{inside, lawful_bitmap, stands}
use Rattle.udf_free.proofs.tests.verdict_in.Goals as goal

pub bitmap_verdict-requires-clause-inside : goal.bitmap_verdict-requires-clause-inside
bitmap_verdict-requires-clause-inside c a s h =
    let room : 524288 ≤ (files_in c.length.new.self).image.size = search rules in
    inside c.parts-parts.result.layer.start c.parts-parts.result.layer.blocks c.parts-parts.ensures.start c.parts-parts.ensures.blocks a s
    (files_in c.length.new.self).image.size h room

pub bitmap_verdict-requires-clause-placed : goal.bitmap_verdict-requires-clause-placed
bitmap_verdict-requires-clause-placed c =
    stands c.parts-parts.result.layer.start c.parts-parts.result.layer.blocks c.parts-parts.ensures.start c.parts-parts.ensures.blocks

pub bitmap_verdict-requires-clause-extent : goal.bitmap_verdict-requires-clause-extent
bitmap_verdict-requires-clause-extent c = lawful_bitmap
