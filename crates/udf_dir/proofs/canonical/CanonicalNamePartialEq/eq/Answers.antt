-- Equal is what the order finds equal.
use Rattle.std.proofs.Common.{◌∙◌, sym, ap}
use Rattle.std.specs.Ordering.{is_eq}
use Rattle.std.specs.Cmp.Lexicographic.{texts_ties}
use Rattle.udf_file_model.specs.Name.{canonical_key}
use Rattle.udf_dir.proofs.canonical.CanonicalNamePartialEq.eq.Goals as goal

pub returns : goal.returns
returns c = c.is_eq.ensures ∙ ap is_eq c.cmp.ensures ∙ sym (texts_ties (canonical_key c.args.self.now) (canonical_key c.args.other.now))
