-- No entry stands twice among children: links of one rank have one place, and the root's own links keep what has another holder
-- than what the file set keeps.
use Rattle.std.proofs.Common.{◌≡◌, ◌≢◌, ◌⊎◌, ℕ, zero, suc, ◌<◌, List, [], ◌∷◌, ◌++◌, map, length, Bool, true, false, cond, ◌&&◌, refl, sym, ap, ◌∙◌, subst, inl, inr, arith}
use Rattle.std.specs.Prelude.{AllPairs, slice_index_or}
use Rattle.std.specs.List.{filter}
use Rattle.std.proofs.lemmas.Bool.{and_parts, false≢true}
use Rattle.std.proofs.lemmas.Option.{same_Some}
use Rattle.udf_field.specs.declared.address.Addr.{Addr}
use Rattle.udf_file_model.specs.Address.{same_addr}
use Rattle.udf_file_model.specs.Listing.{Volume}
use Rattle.udf_tree_model.specs.Children.{children, keeps, kept_in, kept_under, last_children}
use Rattle.udf_tree_model.specs.Chosen.{Rank, fitted, is_rank}
use Rattle.udf_tree_model.specs.Frame.{Frame, is_holder, setting_of, tree_of}
use Rattle.udf_tree_model.specs.Link.{Link, target_of}
use Rattle.udf_tree_model.specs.Node.{Setting, Tree}
use Rattle.udf_tree_model.specs.Ordinary.{is_kept_entry}
use Rattle.udf_tree_model.specs.Parent.{keeping}
use Rattle.udf_tree_model.proofs.Choosing.{one_rank}
use Rattle.udf_tree_model.proofs.Linking.{Distinct}
use Rattle.udf_tree_model.proofs.Members.{Member, member_append, member_filter, member_of_map}
use Rattle.udf_tree_model.proofs.Nearing.{kept_of}
use Rattle.udf_tree_model.proofs.Siblings.{Ascend, fitted_ascend}
use Rattle.udf_tree_laws.proofs.Under.{IsKeeper, under_gives}

-- ---- lists without repetition
pub distinct_append : {X : Type 0} (xs ys : List X) → Distinct xs → Distinct ys → ((x : X) → Member x xs → Member x ys → ⊥) → Distinct (xs ++ ys)
distinct_append [] ys d e apart = e
distinct_append {X} (x ∷ xs) ys d e apart = (λ m. go (member_append xs ys x m), distinct_append xs ys d.1 e (λ y m n. apart y (inr m) n))
  where
    go : Member x xs ⊎ Member x ys → ⊥
    go (inl m) = d.0 m
    go (inr m) = apart x (inl refl) m

there : {X : Type 0} (xs : List X) (i : ℕ) (d : X) → i < length xs → Member (slice_index_or xs i d) xs
there [] i d l = absurd (omega (arith, l))
there (x ∷ xs) zero d l = inl refl
there (x ∷ xs) (suc i) d l = inr (there xs i d (omega (arith, l)))

pub all_pairs : {X : Type 0} (xs : List X) → Distinct xs → AllPairs (λ x y. x ≢ y) xs
all_pairs [] h i j d l m = absurd (omega (arith, m))
all_pairs (x ∷ xs) h i zero d l m = absurd (omega (arith, l))
all_pairs {X} (x ∷ xs) h zero (suc j) d l m = λ e. h.0 (subst (λ (y : X). Member y xs) (sym e) (there xs j d (omega (arith, m))))
all_pairs (x ∷ xs) h (suc i) (suc j) d l m = all_pairs xs h.1 i j d (omega (arith, l)) (omega (arith, m))

-- ---- children
under_in : (s : Setting) (t : Tree) (d : Addr) (fs : List Link) → Ascend fs → Distinct (map (λ f. target_of f.says) (filter (keeps s t d) fs))
unfolding keeps
under_in s t d [] h = tt
under_in s t d (f ∷ fs) h = go (keeps s t d f) refl (under_in s t d fs h.1)
  where
    targets : List Link → List Addr
    targets gs = map (λ (l : Link). target_of l.says) gs

    apart : keeps s t d f ≡ true → Member (target_of f.says) (targets (filter (keeps s t d) fs)) → ⊥
    apart e m =
        let x = member_of_map (λ (l : Link). target_of l.says) (filter (keeps s t d) fs) (target_of f.says) m in
        let y = member_filter (keeps s t d) fs x.0 x.1 in
        let same = (one_rank d d f x.0 (keeping s t (target_of f.says)) e (ap (λ (z : Addr). is_rank d x.0 (keeping s t z)) x.2 ∙ y.1)).1 in
        let more = h.0 x.0 y.0 in
        omega (arith, same, more)

    go : (b : Bool) → keeps s t d f ≡ b → Distinct (targets (filter (keeps s t d) fs)) → Distinct (targets (cond b (f ∷ filter (keeps s t d) fs) (filter (keeps s t d) fs)))
    go true e k = (apart e, k)
    go false e k = k

pub under_distinct : (f : Frame) (v : Volume) (d : Addr) → Distinct (kept_under (setting_of f v) (tree_of f v) d)
unfolding kept_under kept_in
under_distinct f v d = under_in (setting_of f v) (tree_of f v) d (fitted (setting_of f v) (tree_of f v) d) (fitted_ascend f v d)

-- two holders keep nothing in common
one_holder : (s : Setting) (t : Tree) (d e x : Addr) → Member x (kept_under s t d) → Member x (kept_under s t e) → d ≡ e
one_holder s t d e x m n = go (under_gives s t d x m) (under_gives s t e x n)
  where
    go : (l : Link) × IsKeeper s t d x l → (g : Link) × IsKeeper s t e x g → d ≡ e
    go (l, h) (g, k) =
        let q = h.ranked in
        let r = k.ranked in
        let same : q.0 ≡ r.0 = same_Some q.0 r.0 (sym q.1 ∙ r.1) in
        sym q.2 ∙ ap (λ (y : Rank). y.holder) same ∙ r.2

pub children_distinct : (f : Frame) (v : Volume) (a : Addr) → is_kept_entry f v a ≡ true → Distinct (children f v a)
unfolding children last_children
children_distinct f v a k = go (same_addr a f.root && is_holder f v f.file_set) refl
  where
    s : Setting
    s = setting_of f v

    t : Tree
    t = tree_of f v

    apart : is_holder f v f.file_set ≡ true → (x : Addr) → Member x (kept_under s t a) → Member x (kept_under s t f.file_set) → ⊥
    apart h x m n = false≢true (sym (kept_of f v a k).1 ∙ ap (is_holder f v) (one_holder s t a f.file_set x m n) ∙ h)

    go : (b : Bool) → (same_addr a f.root && is_holder f v f.file_set) ≡ b → Distinct (kept_under s t a ++ cond b (kept_under s t f.file_set) [])
    go true e = distinct_append (kept_under s t a) (kept_under s t f.file_set) (under_distinct f v a) (under_distinct f v f.file_set) (apart (and_parts (same_addr a f.root) (is_holder f v f.file_set) e).1)
    go false e = distinct_append (kept_under s t a) [] (under_distinct f v a) tt (λ x m n. n)

pub children_once : (f : Frame) (v : Volume) (a : Addr) → is_kept_entry f v a ≡ true → AllPairs (λ x y. x ≢ y) (children f v a)
children_once f v a k = all_pairs (children f v a) (children_distinct f v a k)
