-- A table is whole by its front.
use Rattle.std.proofs.Common.{◌≡◌, ◌∙◌, ℕ, List, Some, true, ◌&&◌, ◌+◌, ◌*◌, nat_le, length, sym, ap}
use Rattle.udf_layer.proofs.WholeTables.{is_of_table, is_read, not_read}
use Rattle.udf_layer.proofs.prevailing.table_of.Goals as goal
use Rattle.udf_volume_model.specs.SparingTable.{entry_count, is_table}

pub returns-then-is_whole_table : goal.returns-then-is_whole_table
returns-then-is_whole_table c =
    let passes : (is_table c.args.bytes c.args.at c.args.front.items && nat_le (56 + 8 * entry_count c.args.front.items) (length c.args.front.items)) ≡ true =
    ap (λ (f : List ℕ). is_table c.args.bytes c.args.at f && nat_le (56 + 8 * entry_count f) (length f)) (sym c.deref.ensures.value) ∙ (sym c.is_whole_table.ensures ∙ c.if-is_whole_table.true) in
    record {
      read = λ area is room.
          let t = is_read c.args.bytes c.args.at area c.args.front.items is room passes in
          (t.0 ∙ ap (λ (n : ℕ). Some n) (sym c.of.ensures.number), c.of.ensures.bytes ∙ t.1);
      of = is_of_table c.args.bytes c.args.at c.args.front.items c.of.result.bytes.items passes c.of.ensures.bytes;
    }

pub returns-else-is_whole_table-clause-read : goal.returns-else-is_whole_table-clause-read
returns-else-is_whole_table-clause-read c = λ area is room.
    not_read c.args.bytes c.args.at area c.args.front.items is room
    (ap (λ (f : List ℕ). is_table c.args.bytes c.args.at f && nat_le (56 + 8 * entry_count f) (length f)) (sym c.deref.ensures.value) ∙ (sym c.is_whole_table.ensures ∙ c.if-is_whole_table.false))
