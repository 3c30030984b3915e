use Rattle.std.proofs.Common.{rules, ◌≡◌, sym, ap, ◌∙◌, subst}
use Rattle.std.specs.BTreeMap.{get}
use Rattle.std.specs.Ordering.{is_eq}
use Rattle.udf_file_model.specs.Name.{Canonical, canonical_cmp, canonical}
use Rattle.udf_found.specs.Linked.{Learns}
use Rattle.udf_file_model.specs.Fid.{name}
use Rattle.udf_found.proofs.Lines.{told_live, told_same}
use Rattle.udf_found.proofs.links.add_fid.Goals as goal

pub returns-then-not-is_live : goal.returns-then-not-is_live
returns-then-not-is_live c fs h = told_same (get canonical_cmp c.args.seen.now) fs (c.args.at, c.args.fid.now) c.args.links.now.items (sym c.if-not-is_live.ensures) h

pub returns : goal.returns
returns c fs h =
    let named : c.in_ok-name.name ≡ canonical (name c.args.fid.now) = search rules in
    told_live (get canonical_cmp c.args.seen.now) (get canonical_cmp c.first_of.new.seen) (c.args.at, c.args.fid.now) fs c.args.links.now.items c.push.new.self.items c.in_ok-link_of.field-0 c.in_ok-earlier.earlier
    (sym c.if-not-is_live.ensures) (c.in_ok-earlier.ensures.first ∙ ap (get canonical_cmp c.args.seen.now) named)
    (subst (λ (n : Canonical). Learns (get canonical_cmp c.args.seen.now) (get canonical_cmp c.first_of.new.seen) (λ d. is_eq (canonical_cmp n d)) c.args.at) named c.in_ok-earlier.ensures.learns)
    c.in_ok-link_of.ensures c.in_ok-push.ensures.items h
