-- The lines of findings, one after the other.
use Rattle.std.proofs.Common.{◌≡◌, ℕ, ◌+◌, arith, sym, ◌∙◌, ap, List, [], ◌∷◌, ◌++◌, length, take, append_assoc, Some}
use Rattle.std.specs.Prelude.{flat_map, slice_get}
use Rattle.std.proofs.lemmas.List.{append-nil, take_all, take_more}
use Rattle.std.proofs.lemmas.Option.{slice_get_within, get_or_from_slice_get}
use Rattle.std.proofs.lemmas.Grind.{flat_map-append}
use Rattle.udf_rules.specs.declared.finding.Finding.{Finding}
use Rattle.udf_rules.specs.Lines.{line_of, lines_of}

pub none : (text : List ℕ) (findings : List Finding) → text ≡ text ++ lines_of (take 0 findings)
unfolding lines_of
none text findings = sym (append-nil text)

more : (findings : List Finding) (i : ℕ) (finding : Finding) → slice_get findings i ≡ Some finding
    → lines_of (take (i + 1) findings) ≡ lines_of (take i findings) ++ line_of finding
unfolding lines_of
more findings i finding e =
    ap lines_of (take_more findings i finding (slice_get_within findings i finding e)
    ∙ ap (λ x. take i findings ++ x ∷ []) (get_or_from_slice_get findings i finding finding e))
    ∙ flat_map-append line_of (take i findings) (finding ∷ [])
    ∙ ap (λ l. flat_map line_of (take i findings) ++ l) (append-nil (line_of finding))

pub one_more : (base text next : List ℕ) (findings : List Finding) (i : ℕ) (finding : Finding) → slice_get findings i ≡ Some finding
    → text ≡ base ++ lines_of (take i findings) → next ≡ text ++ line_of finding → next ≡ base ++ lines_of (take (i + 1) findings)
one_more base text next findings i finding e so_far is =
    is ∙ ap (λ t. t ++ line_of finding) so_far ∙ append_assoc base (lines_of (take i findings)) (line_of finding)
    ∙ ap (λ l. base ++ l) (sym (more findings i finding e))

pub all : (base text : List ℕ) (findings : List Finding) (n : ℕ) → n ≡ length findings → text ≡ base ++ lines_of (take n findings)
    → text ≡ base ++ lines_of findings
all base text findings n e is = is ∙ ap (λ l. base ++ lines_of l) (take_all n findings (omega (arith, e)))
