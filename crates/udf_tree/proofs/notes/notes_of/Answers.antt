use Rattle.std.proofs.Common.{List, map, ap, ◌∙◌}
use Rattle.std.specs.Prelude.{length}
use Rattle.std.proofs.lemmas.List.{length-map}
use Rattle.udf_dues.specs.declared.counts.Count.{Count}
use Rattle.udf_held.specs.declared.held.Held.{Held}
use Rattle.udf_dues.specs.Counts.{count_in}
use Rattle.udf_tree.specs.Stated.{stated_in}
use Rattle.udf_tree.proofs.notes.notes_of.Goals as goal

pub returns-clause-many : goal.returns-clause-many
returns-clause-many c = record {
  pointers_many = c.in_ok-pointers.ensures.many;
  verdicts_many = c.in_ok-verdicts.ensures.many;
  names_many = c.in_ok-names.ensures.many;
  stated_many = ap length c.in_ok-stated.ensures ∙ length-map c.args.indexes.now (stated_in c.deref.result.now);
  counts_many = ap length c.in_ok-counts.ensures ∙ length-map c.args.indexes.now (count_in c.deref-2.result.now);
  contents_many = c.in_ok-contents.ensures.many;
  kin_many = c.in_ok-kin.ensures.many;
}

pub returns-clause-notes : goal.returns-clause-notes
returns-clause-notes c f v links ids some k = record {
  pointers_are = c.in_ok-pointers.ensures.pointers f v c.args.root c.args.file_set links ids k;
  verdicts_are = c.in_ok-verdicts.ensures.verdicts f v c.args.root c.args.file_set links ids k;
  names_are = c.in_ok-names.ensures.names f v c.args.root c.args.file_set links ids k;
  stated_are = c.in_ok-stated.ensures ∙ ap (λ (hs : List Held). map (stated_in hs) c.args.indexes.now) c.deref.ensures.value;
  counts_are = c.in_ok-counts.ensures ∙ ap (λ (cs : List Count). map (count_in cs) c.args.indexes.now) c.deref-2.ensures.value;
  contents_are = c.in_ok-contents.ensures.contents f v links ids some k;
  children_are = c.in_ok-kin.ensures.children f v c.args.file_set links ids k;
  siblings_are = c.in_ok-kin.ensures.siblings f v c.args.file_set links ids k;
}
