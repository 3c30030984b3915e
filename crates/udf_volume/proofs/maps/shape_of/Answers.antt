-- The shape by the number of maps.
use Rattle.std.proofs.Common.{◌∙◌, sym, ap}
use Rattle.std.specs.Prelude.{option_map}
use Rattle.udf_volume_model.specs.Prevailing.{number_in}
use Rattle.udf_volume_model.specs.Maps.{first_map, length_of, lone_shape, map_at, map_count, pair_shape, second_map}
use Rattle.std.specs.Prelude.{drop}
use Rattle.udf_volume.specs.Maps.{shape_seen}
use Rattle.udf_volume.proofs.Mapped.{number_is, one_map, two_maps}
use Rattle.udf_volume.proofs.maps.shape_of.Goals as goal

pub returns-then-count-eq1 : goal.returns-then-count-eq1
unfolding map_count first_map
returns-then-count-eq1 c =
    let body = c.args.logical.now.body in
    let table = c.map_table-table.result.now in
    sym (ap (λ number. option_map (shape_seen number) c.lone_shape.result) (number_is body table c.map_table-table.ensures))
    ∙ c.lone_shape.ensures ∙ ap (λ t. lone_shape (map_at t)) c.map_table-table.ensures
    ∙ one_map body (sym (c.u32_at-count.ensures ∙ ap (λ l. number_in 4 l 268) c.fields.ensures.fields) ∙ c.if-count-eq1.true)

pub returns-then-count-eq2 : goal.returns-then-count-eq2
unfolding map_count first_map second_map
returns-then-count-eq2 c =
    let body = c.args.logical.now.body in
    let table = c.map_table-table.result.now in
    sym (ap (λ number. option_map (shape_seen number) c.pair_shape.result) (number_is body table c.map_table-table.ensures))
    ∙ c.pair_shape.ensures ∙ ap (λ second. pair_shape (map_at table) (map_at second)) c.after_first.ensures
    ∙ ap (λ t. pair_shape (map_at t) (map_at (drop (length_of (map_at t)) t))) c.map_table-table.ensures
    ∙ two_maps body (sym (c.u32_at-count.ensures ∙ ap (λ l. number_in 4 l 268) c.fields.ensures.fields) ∙ c.if-count-eq2.true)
