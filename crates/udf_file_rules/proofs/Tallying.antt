-- What is counted of ordinary entries, one after another.
use Rattle.std.proofs.Common.{◌≡◌, ℕ, ◌+◌, ◌<◌, ◌≤◌, arith, refl, sym, ap, ◌∙◌, subst, List, [], ◌∷◌, ◌++◌, length, map, take, get_or, Bool, true, false, cond, not, Option, Some, append-nil}
use Rattle.std.specs.Prelude.{max, slice_get}
use Rattle.std.specs.List.{filter, flat_map}
use Rattle.std.proofs.lemmas.List.{flat_map_more, take_all, take_more}
use Rattle.udf_tree.specs.declared.node.Node.{Node}
use Rattle.udf_tree.specs.declared.node.NodeId.{NodeId}
use Rattle.udf_tree.specs.Survey.{View}
use Rattle.udf_rules_model.specs.Integrity.{greatest}
use Rattle.udf_file_rules.specs.declared.tally.Tally.{Tally}
use Rattle.udf_file_rules.specs.Tallied.{counted, ordinary_along, ordinary_at, ordinary_by, tally_of}

filter_end : (p : Node → Bool) (ns : List Node) (n : Node) → length (filter p (ns ++ n ∷ [])) ≡ length (filter p ns) + cond (p n) 1 0
filter_end p [] n = by (p n)
  where
    by : (b : Bool) → length (cond b (n ∷ []) []) ≡ 0 + cond b 1 0
    by true = refl
    by false = refl
filter_end p (m ∷ ns) n = by (p m) (filter_end p ns n)
  where
    by : (b : Bool) → length (filter p (ns ++ n ∷ [])) ≡ length (filter p ns) + cond (p n) 1 0
        → length (cond b (m ∷ filter p (ns ++ n ∷ [])) (filter p (ns ++ n ∷ []))) ≡ length (cond b (m ∷ filter p ns) (filter p ns)) + cond (p n) 1 0
    by true rest = omega (arith, rest)
    by false rest = rest

greatest_end : (ns : List Node) (n : Node) → greatest (map (λ m. m.id) (ns ++ n ∷ [])) ≡ max (greatest (map (λ m. m.id) ns)) n.id
greatest_end [] n = omega arith
greatest_end (m ∷ ns) n = let rest = greatest_end ns n in omega (arith, rest)

abbrev made : ℕ → ℕ → ℕ → Tally
made files directories id = record { files = files; directories = directories; greatest_id = id }

by_directory : (b : Bool) (files directories id : ℕ) → made (files + cond (not b) 1 0) (directories + cond b 1 0) id ≡ cond b (made files (directories + 1) id) (made (files + 1) directories id)
by_directory true files directories id = let same : files + 0 ≡ files = omega arith in ap (λ k. made k (directories + 1) id) same
by_directory false files directories id = let same : directories + 0 ≡ directories = omega arith in ap (λ k. made (files + 1) k id) same

tally_end : (ns : List Node) (n : Node) → n.ordinary ≡ true → tally_of (ns ++ n ∷ []) ≡ counted (tally_of ns) n
unfolding tally_of
tally_end ns n o =
    let t = tally_of ns in
    ap (λ k. made k (length (filter (λ m. m.directory) (ns ++ n ∷ []))) (greatest (map (λ m. m.id) (ns ++ n ∷ [])))) (filter_end (λ m. not m.directory) ns n)
    ∙ ap (λ k. made (t.files + cond (not n.directory) 1 0) k (greatest (map (λ m. m.id) (ns ++ n ∷ [])))) (filter_end (λ m. m.directory) ns n)
    ∙ ap (made (t.files + cond (not n.directory) 1 0) (t.directories + cond n.directory 1 0)) (greatest_end ns n)
    ∙ by_directory n.directory t.files t.directories (max t.greatest_id n.id)
    ∙ sym (ap (λ q. cond (not q) t (cond n.directory (made t.files (t.directories + 1) (max t.greatest_id n.id)) (made (t.files + 1) t.directories (max t.greatest_id n.id)))) o)

-- an order with one number more
flat_end : (g : NodeId → List Node) (ids : List NodeId) (i : ℕ) (d : NodeId) → i < length ids → flat_map g (take (i + 1) ids) ≡ flat_map g (take i ids) ++ g (get_or ids i d)
flat_end g ids i d l = ap (flat_map g) (take_more ids i d l) ∙ sym (flat_map_more g [] (take i ids) (get_or ids i d))

one_end : (ns : List Node) (n : Node) (old : Tally) (b : Bool) → n.ordinary ≡ b → old ≡ tally_of ns → counted old n ≡ tally_of (ns ++ cond b (n ∷ []) [])
one_end ns n old true o was = ap (λ t. counted t n) was ∙ sym (tally_end ns n o)
one_end ns n old false o was =
    ap (λ q. cond (not q) old (cond n.directory (made old.files (old.directories + 1) (max old.greatest_id n.id)) (made (old.files + 1) old.directories (max old.greatest_id n.id)))) o
    ∙ was ∙ sym (ap tally_of (append-nil ns))

pub one_more : (x : View) (order : List NodeId) (i : ℕ) (d : NodeId) (n : Node) (old new : Tally) → i < length order → slice_get x.nodes (get_or order i d).0 ≡ Some n
    → old ≡ tally_of (flat_map (ordinary_at x) (take i order)) → new ≡ counted old n → new ≡ tally_of (flat_map (ordinary_at x) (take (i + 1) order))
one_more x order i d n old new l h was is =
    let done = flat_map (ordinary_at x) (take i order) in
    is ∙ one_end done n old n.ordinary refl was
    ∙ sym (ap (λ (o : Option Node). tally_of (done ++ ordinary_by o)) h)
    ∙ sym (ap tally_of (flat_end (ordinary_at x) order i d l))

pub few_more : (n : Node) (old new : Tally) (k : ℕ) → old.files + old.directories ≤ k → new ≡ counted old n → new.files + new.directories ≤ k + 1
few_more n old new k h is = subst (λ (t : Tally). t.files + t.directories ≤ k + 1) (sym is) (by n.ordinary n.directory)
  where
    by : (o d : Bool) → (cond (not o) old (cond d (made old.files (old.directories + 1) (max old.greatest_id n.id)) (made (old.files + 1) old.directories (max old.greatest_id n.id)))).files
        + (cond (not o) old (cond d (made old.files (old.directories + 1) (max old.greatest_id n.id)) (made (old.files + 1) old.directories (max old.greatest_id n.id)))).directories ≤ k + 1
    by false d = omega (arith, h)
    by true true = omega (arith, h)
    by true false = omega (arith, h)

pub all_counted : (x : View) (i : ℕ) (t : Tally) → length x.order ≤ i → t ≡ tally_of (flat_map (ordinary_at x) (take i x.order)) → t ≡ tally_of (ordinary_along x)
unfolding ordinary_along
all_counted x i t l e = e ∙ ap (λ ids. tally_of (flat_map (ordinary_at x) ids)) (take_all i x.order l)
