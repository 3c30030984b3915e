-- The numbers of kept entries, one entry after another.
use Rattle.std.proofs.Common.{◌≡◌, ◌⊎◌, ℕ, zero, suc, ◌+◌, ◌<◌, ◌≤◌, List, [], ◌∷◌, ◌++◌, length, map, take, drop, get_or, Bool, true, false, cond, Option, Some, None, refl, sym, ap, ◌∙◌, subst, inl, inr, arith}
use Rattle.std.specs.Prelude.{option_map, slice_get}
use Rattle.std.specs.Ordering.{is_eq}
use Rattle.std.proofs.lemmas.List.{append_assoc, append-nil, drop_all, length-take, map-append, take_more}
use Rattle.std.proofs.lemmas.Option.{get_or_from_slice_get, same_Some, slice_get-map}
use Rattle.udf_field.specs.declared.address.Addr.{Addr}
use Rattle.udf_tree_model.specs.Among.{Member}
use Rattle.udf_tree_model.proofs.Members.{member_append}
use Rattle.udf_held.specs.declared.held.Held.{Held}
use Rattle.udf_kept.specs.declared.keeping.Keeping.{Keeping}
use Rattle.udf_tree.specs.declared.node.NodeId.{NodeId}
use Rattle.udf_kept.specs.Fitted.{at_by, at_of}
use Rattle.udf_tree.specs.Nodes.{AreWanted, IsNumbering, is_numbered, numbered}
use Rattle.udf_found.specs.Order.{addr_cmp}
use Rattle.udf_kept.proofs.Indexing.{order_apart, order_same}
use Rattle.udf_contents.proofs.Mending.{got}

-- ---- the entries that are to have numbers
numbered_nothing : (ks : List (Option Keeping)) → numbered ks [] ≡ []
numbered_nothing [] = refl
numbered_nothing (k ∷ ks) = refl

none_over : (n : ℕ) (hs : List Held) → numbered (drop n []) hs ≡ []
none_over zero hs = refl
none_over (suc n) hs = refl

-- one entry less is to come
steps : (hs : List Held) (ks : List (Option Keeping)) (i : ℕ) (h : Held) (k : Option Keeping) → i < length hs → h ≡ get_or hs i h → k ≡ get_or ks i None
    → numbered (drop i ks) (drop i hs) ≡ cond (is_numbered h k) (h.at ∷ numbered (drop (suc i) ks) (drop (suc i) hs)) (numbered (drop (suc i) ks) (drop (suc i) hs))
steps [] ks i h k l e d = absurd (omega (arith, l))
steps (x ∷ hs) [] i h k l e d = none_over i (drop i (x ∷ hs)) ∙ ap (λ (o : Option Keeping). cond (is_numbered h o) (h.at ∷ []) []) (sym d)
steps (x ∷ hs) (y ∷ ks) zero h k l e d =
    ap (λ (o : Option Keeping). cond (is_numbered x o) (x.at ∷ numbered ks hs) (numbered ks hs)) (sym d)
    ∙ ap (λ (z : Held). cond (is_numbered z k) (z.at ∷ numbered ks hs) (numbered ks hs)) (sym e)
steps (x ∷ hs) (y ∷ ks) (suc i) h k l e d = steps hs ks i h k (omega (arith, l)) e d

pub numbered_step : (hs : List Held) (ks : List (Option Keeping)) (i : ℕ) (h : Held) (k : Option Keeping) → i < length hs → h ≡ get_or hs i h → k ≡ get_or ks i None
    → numbered (drop i ks) (drop i hs) ≡ cond (is_numbered h k) (h.at ∷ numbered (drop (i + 1) ks) (drop (i + 1) hs)) (numbered (drop (i + 1) ks) (drop (i + 1) hs))
numbered_step hs ks i h k l e d =
    let next : suc i ≡ i + 1 = omega arith in
    steps hs ks i h k l e d ∙ ap (λ (n : ℕ). cond (is_numbered h k) (h.at ∷ numbered (drop n ks) (drop n hs)) (numbered (drop n ks) (drop n hs))) next

pub numbered_over : (hs : List Held) (ks : List (Option Keeping)) (i : ℕ) (out whole : List Addr) → length hs ≤ i → out ++ numbered (drop i ks) (drop i hs) ≡ whole → out ≡ whole
numbered_over hs ks i out whole l e =
    sym (append-nil out) ∙ ap (λ (xs : List Addr). out ++ xs) (sym (ap (numbered (drop i ks)) (drop_all i hs l) ∙ numbered_nothing (drop i ks))) ∙ e

-- the address of an entry is put out
pub numbered_put : (hs : List Held) (ks : List (Option Keeping)) (i : ℕ) (h : Held) (k : Option Keeping) (out new whole : List Addr) → i < length hs → h ≡ get_or hs i h → k ≡ get_or ks i None
    → is_numbered h k ≡ true → new ≡ out ++ h.at ∷ [] → out ++ numbered (drop i ks) (drop i hs) ≡ whole → new ++ numbered (drop (i + 1) ks) (drop (i + 1) hs) ≡ whole
numbered_put hs ks i h k out new whole l e d t push was =
    let rest : List Addr = numbered (drop (i + 1) ks) (drop (i + 1) hs) in
    ap (λ (xs : List Addr). xs ++ rest) push
    ∙ append_assoc out (h.at ∷ []) rest
    ∙ ap (λ (b : Bool). out ++ cond b (h.at ∷ rest) rest) (sym t)
    ∙ ap (λ (xs : List Addr). out ++ xs) (sym (numbered_step hs ks i h k l e d))
    ∙ was

-- an entry is passed over
pub numbered_pass : (hs : List Held) (ks : List (Option Keeping)) (i : ℕ) (h : Held) (k : Option Keeping) (out whole : List Addr) → i < length hs → h ≡ get_or hs i h → k ≡ get_or ks i None
    → is_numbered h k ≡ false → out ++ numbered (drop i ks) (drop i hs) ≡ whole → out ++ numbered (drop (i + 1) ks) (drop (i + 1) hs) ≡ whole
numbered_pass hs ks i h k out whole l e d t was =
    let rest : List Addr = numbered (drop (i + 1) ks) (drop (i + 1) hs) in
    ap (λ (b : Bool). out ++ cond b (h.at ∷ rest) rest) (sym t)
    ∙ ap (λ (xs : List Addr). out ++ xs) (sym (numbered_step hs ks i h k l e d))
    ∙ was

-- ---- their indexes
pub indexes_put : (hs : List Held) (ks : List (Option Keeping)) (i : ℕ) (h : Held) (k : Option Keeping) (out new : List ℕ) (whole : List (Option Addr)) → i < length hs → h ≡ get_or hs i h → k ≡ get_or ks i None
    → is_numbered h k ≡ true → new ≡ out ++ i ∷ [] → map (at_of hs) out ++ map Some (numbered (drop i ks) (drop i hs)) ≡ whole → map (at_of hs) new ++ map Some (numbered (drop (i + 1) ks) (drop (i + 1) hs)) ≡ whole
indexes_put hs ks i h k out new whole l e d t push was =
    let rest : List Addr = numbered (drop (i + 1) ks) (drop (i + 1) hs) in
    let front : List (Option Addr) = map (at_of hs) out in
    ap (λ (xs : List ℕ). map (at_of hs) xs ++ map Some rest) push
    ∙ ap (λ (ys : List (Option Addr)). ys ++ map Some rest) (map-append (at_of hs) out (i ∷ []))
    ∙ append_assoc front (at_of hs i ∷ []) (map Some rest)
    ∙ ap (λ (o : Option Addr). front ++ o ∷ map Some rest) (ap at_by (got hs i h l e))
    ∙ ap (λ (b : Bool). front ++ map Some (cond b (h.at ∷ rest) rest)) (sym t)
    ∙ ap (λ (xs : List Addr). front ++ map Some xs) (sym (numbered_step hs ks i h k l e d))
    ∙ was

pub indexes_pass : (hs : List Held) (ks : List (Option Keeping)) (i : ℕ) (h : Held) (k : Option Keeping) (front whole : List (Option Addr)) → i < length hs → h ≡ get_or hs i h → k ≡ get_or ks i None
    → is_numbered h k ≡ false → front ++ map Some (numbered (drop i ks) (drop i hs)) ≡ whole → front ++ map Some (numbered (drop (i + 1) ks) (drop (i + 1) hs)) ≡ whole
indexes_pass hs ks i h k front whole l e d t was =
    let rest : List Addr = numbered (drop (i + 1) ks) (drop (i + 1) hs) in
    ap (λ (b : Bool). front ++ map Some (cond b (h.at ∷ rest) rest)) (sym t)
    ∙ ap (λ (xs : List Addr). front ++ map Some xs) (sym (numbered_step hs ks i h k l e d))
    ∙ was

pub indexes_over : (hs : List Held) (ks : List (Option Keeping)) (i : ℕ) (out whole : List (Option Addr)) → length hs ≤ i → out ++ map Some (numbered (drop i ks) (drop i hs)) ≡ whole → out ≡ whole
indexes_over hs ks i out whole l e =
    sym (append-nil out) ∙ ap (λ (xs : List Addr). out ++ map Some xs) (sym (ap (numbered (drop i ks)) (drop_all i hs l) ∙ numbered_nothing (drop i ks))) ∙ e

-- ---- numbers by addresses
stands_front : (numbers : List Addr) (b : Addr) (i : ℕ) (a : Addr) → slice_get numbers i ≡ Some a → slice_get (numbers ++ b ∷ []) i ≡ Some a
stands_front [] b i a e = cc
stands_front (x ∷ xs) b zero a e = e
stands_front (x ∷ xs) b (suc i) a e = stands_front xs b i a e

stands_last : (numbers : List Addr) (b : Addr) → slice_get (numbers ++ b ∷ []) (length numbers) ≡ Some b
stands_last [] b = refl
stands_last (x ∷ xs) b = stands_last xs b

numbering_more : (numbers : List Addr) (b : Addr) (n : NodeId) (f g : Addr → Option NodeId) → n.0 ≡ length numbers → IsNumbering numbers f → ((a : Addr) → g a ≡ cond (is_eq (addr_cmp b a)) (Some n) (f a)) → IsNumbering (numbers ++ b ∷ []) g
numbering_more numbers b n f g number was now = record {
  there = λ a m e. there a m (is_eq (addr_cmp b a)) refl (sym (now a) ∙ e);
  all = λ a e m. all a (is_eq (addr_cmp b a)) refl (sym (now a) ∙ e) (member_append numbers (b ∷ []) a m);
}
  where
    there : (a : Addr) (m : NodeId) (t : Bool) → is_eq (addr_cmp b a) ≡ t → cond t (Some n) (f a) ≡ Some m → slice_get (numbers ++ b ∷ []) m.0 ≡ Some a
    there a m true s e =
        subst (λ (k : ℕ). slice_get (numbers ++ b ∷ []) k ≡ Some a) (sym number ∙ ap (λ (k : NodeId). k.0) (same_Some n m e)) (stands_last numbers b ∙ ap Some (order_same b a s))
    there a m false s e = stands_front numbers b m.0 a (was.there a m e)

    all : (a : Addr) (t : Bool) → is_eq (addr_cmp b a) ≡ t → cond t (Some n) (f a) ≡ None → Member a numbers ⊎ Member a (b ∷ []) → ⊥
    all a true s e m = cc
    all a false s e (inl m) = was.all a e m
    all a false s e (inr (inl i)) = order_apart b a s (sym i)
    all a false s e (inr (inr m)) = m

-- in the loop over the addresses
pub numbering_next : (numbers : List Addr) (i : ℕ) (b : Addr) (n : NodeId) (f g : Addr → Option NodeId) → i < length numbers → b ≡ get_or numbers i b → n.0 ≡ i → IsNumbering (take i numbers) f
    → ((a : Addr) → g a ≡ cond (is_eq (addr_cmp b a)) (Some n) (f a)) → IsNumbering (take (i + 1) numbers) g
numbering_next numbers i b n f g l is number was now =
    subst (λ (xs : List Addr). IsNumbering xs g) (sym (take_more numbers i b l ∙ ap (λ (y : Addr). take i numbers ++ y ∷ []) (sym is)))
    (numbering_more (take i numbers) b n f g long was now)
  where
    long : n.0 ≡ length (take i numbers)
    long = let e = length-take i numbers in omega (arith, l, e, number)

-- what is wanted of each entry in order stands at the index of each
pub wanted_in_order : (wanted : Addr → ℕ) (ks : List (Option Keeping)) (hs : List Held) → AreWanted wanted ks hs (map (λ h. wanted h.at) hs)
wanted_in_order wanted ks hs = record { each = λ i h there numbered_it. get_or_from_slice_get (map (λ (z : Held). wanted z.at) hs) i (wanted h.at) 0 (slice_get-map (λ (z : Held). wanted z.at) hs i ∙ ap (option_map (λ (z : Held). wanted z.at)) there) }
