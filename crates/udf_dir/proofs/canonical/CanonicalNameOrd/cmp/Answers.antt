-- By how the two are spelled.
use Rattle.std.proofs.Common.{◌∙◌, sym, ap}
use Rattle.udf_dir.specs.Spelled.{spelled}
use Rattle.udf_dir.proofs.Ordered.{characters_cmp, bytes_cmp, characters_first, bytes_last}
use Rattle.udf_dir.proofs.canonical.CanonicalNameOrd.cmp.Goals as goal

pub returns-in-Decoded-Decoded : goal.returns-in-Decoded-Decoded
returns-in-Decoded-Decoded c =
    c.cmp.ensures
    ∙ characters_cmp c.args.self.now c.args.other.now c.in-Decoded-Decoded.a c.in-Decoded-Decoded.b
    (ap spelled (sym c.in-Decoded-Decoded.is-0) ∙ c.self.view_is) (ap spelled (sym c.in-Decoded-Decoded.is-1) ∙ c.other.view_is)

pub returns-in-Decoded-Raw : goal.returns-in-Decoded-Raw
returns-in-Decoded-Raw c =
    characters_first c.args.self.now c.args.other.now c.in-Decoded-Raw.field-0-0 c.in-Decoded-Raw.field-0-1.items
    (ap spelled (sym c.in-Decoded-Raw.is-0) ∙ c.self.view_is) (ap spelled (sym c.in-Decoded-Raw.is-1) ∙ c.other.view_is)

pub returns-in-Raw-Decoded : goal.returns-in-Raw-Decoded
returns-in-Raw-Decoded c =
    bytes_last c.args.self.now c.args.other.now c.in-Raw-Decoded.field-0-0.items c.in-Raw-Decoded.field-0-1
    (ap spelled (sym c.in-Raw-Decoded.is-0) ∙ c.self.view_is) (ap spelled (sym c.in-Raw-Decoded.is-1) ∙ c.other.view_is)

pub returns-in-Raw-Raw : goal.returns-in-Raw-Raw
returns-in-Raw-Raw c =
    c.cmp-in-Raw-Raw.ensures
    ∙ bytes_cmp c.args.self.now c.args.other.now c.in-Raw-Raw.a.items c.in-Raw-Raw.b.items
    (ap spelled (sym c.in-Raw-Raw.is-0) ∙ c.self.view_is) (ap spelled (sym c.in-Raw-Raw.is-1) ∙ c.other.view_is)
