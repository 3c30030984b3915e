-- An entry is used where it names a packet of the partition that no earlier one names.
use Rattle.std.proofs.Common.{◌≡◌, ◌++◌, ◌∷◌, [], sym, ◌∙◌, ap}
use Rattle.udf_layer.proofs.Used.{not_original, comes_again, is_used, if_ok}
use Rattle.udf_layer.proofs.entries.with_entry.Goals as goal
use Rattle.udf_volume_model.specs.SparingTable.{Table, is_original, used_pairs}

pub returns-then-not-is_packet-clause-pairs : goal.returns-then-not-is_packet-clause-pairs
returns-then-not-is_packet-clause-pairs c = λ list is.
    not_original c.args.table.packet c.args.blocks c.args.table.pairs list c.args.pair is
    (ap (λ n. is_original n c.args.blocks c.args.pair.0) (sym c.packet-packet.ensures.packet) ∙ (sym c.is_packet.ensures ∙ c.if-not-is_packet.true))

pub returns-then-maps-clause-pairs : goal.returns-then-maps-clause-pairs
returns-then-maps-clause-pairs c = λ list is.
    comes_again c.args.table.packet c.args.blocks c.args.table.pairs list c.args.pair is
    (ap (λ n. is_original n c.args.blocks c.args.pair.0) (sym c.packet-packet.ensures.packet) ∙ (sym c.is_packet.ensures ∙ c.if-not-is_packet.false))
    (sym c.maps.ensures ∙ c.if-maps.true)

pub returns-clause-pairs : goal.returns-clause-pairs
returns-clause-pairs c = λ list is.
    if_ok c.with.result (λ (t : Table). t.pairs ≡ c.args.table.pairs ++ c.args.pair ∷ [])
    (λ (t : Table). t.pairs ≡ used_pairs c.args.table.packet c.args.blocks (list ++ c.args.pair ∷ [])) c.with.ensures.pairs
    (λ t e. e ∙ is_used c.args.table.packet c.args.blocks c.args.table.pairs list c.args.pair is
    (ap (λ n. is_original n c.args.blocks c.args.pair.0) (sym c.packet-packet.ensures.packet) ∙ (sym c.is_packet.ensures ∙ c.if-not-is_packet.false))
    (sym c.maps.ensures ∙ c.if-maps.false))
