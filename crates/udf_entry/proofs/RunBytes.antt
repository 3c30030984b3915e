-- The bytes of a list, run after run.
use Rattle.std.proofs.Common.{◌≡◌, ℕ, zero, suc, true, cond, min, ◌==◌, ◌+◌, ◌-◌, ◌<◌, Option, Some, List, [], ◌∷◌, ◌++◌, length, take, get_or, arith, sym, ◌∙◌, ap}
use Rattle.std.proofs.lemmas.List.{map-append}
use Rattle.std.proofs.Math.Seq.{take-suc}
use Rattle.std.proofs.lemmas.Bool.Decides.{nat_tests}
use Rattle.udf_file_model.specs.Entry.{Entry}
use Rattle.udf_file_model.specs.Descriptors.{Descriptor}
use Rattle.udf_file_model.specs.Listing.{Volume}
use Rattle.udf_file_model.specs.Content.{run_bytes, runs_bytes, content, content_by}
use Rattle.udf_entry.specs.declared.run.Run.{Run}
use Rattle.udf_entry.specs.RunView.{run_seen, runs_seen}
use Rattle.udf_entry.proofs.Appending.{take_both, take_within, runs_more}

pub no_run : (v : Volume) (end : ℕ) (content : List ℕ) → content ≡ [] → content ≡ take end (runs_bytes v [])
unfolding runs_bytes
no_run v zero content e = e
no_run v (suc end) content e = e

-- what a slice of runs has past its end
abbrev pub no_run_here : Run
no_run_here = record { kind = 0; length = 0; at = record { part = 0; block = 0 }; holder = record { part = 0; block = 0 }; index = 0 }

pub one_run : (v : Volume) (end i left : ℕ) (runs : List Run) (d : Run) (content new : List ℕ) → i < length runs
    → content ≡ take end (runs_bytes v (runs_seen (take i runs))) → left ≡ end - length content
    → new ≡ content ++ take left (run_bytes v (run_seen (get_or runs i d))) → new ≡ take end (runs_bytes v (runs_seen (take (i + 1) runs)))
one_run v end i left runs d content new low h l e =
    let run = get_or runs i d in
    let xs = runs_bytes v (runs_seen (take i runs)) in
    e ∙ ap (λ c. c ++ take left (run_bytes v (run_seen run))) h
    ∙ ap (λ n. take end xs ++ take n (run_bytes v (run_seen run))) (let z : left ≡ end - length (take end xs) = omega (arith, l, ap length h) in z)
    ∙ take_both end xs (run_bytes v (run_seen run))
    ∙ ap (take end) (sym (runs_more v (runs_seen (take i runs)) (run_seen run)) ∙ ap (runs_bytes v) (sym (map-append run_seen (take i runs) (run ∷ [])))
    ∙ ap (λ rs. runs_bytes v (runs_seen rs)) (sym more))
  where
    more : take (i + 1) runs ≡ take i runs ++ get_or runs i d ∷ []
    more = ap (λ n. take n runs) (let z : i + 1 ≡ suc i = omega arith in z) ∙ take-suc runs i d low

-- the content of an embedded entry
pub embedded_is : (v : Volume) (runs : List Descriptor) (limit : ℕ) (found : Option Entry) (e : Entry) (kind information end many : ℕ) (body bytes : List ℕ)
    → Some e ≡ found → kind ≡ e.kind → kind ≡ 3 → information ≡ e.information → end ≡ min limit information → body ≡ e.body → many ≡ min end (length body)
    → bytes ≡ take many body → bytes ≡ content_by v runs limit found
unfolding content
embedded_is v runs limit found e kind information end many body bytes f k three i n b m is =
    is ∙ ap (λ z. take z body) m ∙ take_within end body ∙ ap (λ z. take z body) (n ∙ ap (min limit) i)
    ∙ ap (take (min limit e.information)) (b ∙ sym (ap (λ t. cond t e.body (runs_bytes v runs)) (let z : (e.kind == 3) ≡ true = grind (arith, nat_tests) in z)))
    ∙ ap (content_by v runs limit) f
