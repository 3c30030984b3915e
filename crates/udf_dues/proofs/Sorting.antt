-- Entries listed in the order of their addresses, one after another.
use Rattle.std.proofs.Common.{◌≡◌, ◌⊎◌, ℕ, zero, suc, ◌+◌, ◌<◌, List, [], ◌∷◌, ◌++◌, length, map, take, drop, get_or, Bool, true, false, cond, ◌||◌, Option, Some, None, refl, sym, ap, ◌∙◌, subst, inl, inr, arith}
use Rattle.std.specs.declared.cmp.Ordering.{Ordering}
use Rattle.std.specs.declared.cmp.Ordering.TheVariants.{Less, Equal, Greater}
use Rattle.std.specs.Ordering.{is_eq, match_ordering}
use Rattle.std.specs.BTreeMap.{insert_entry}
use Rattle.std.specs.List.{list_any}
use Rattle.std.specs.List.Sorted.{IsStrictlySortedBy}
use Rattle.std.specs.Map.{keys_of, values_of}
use Rattle.std.proofs.lemmas.List.{length-take, map-append, take_more}
use Rattle.udf_field.specs.declared.address.Addr.{Addr}
use Rattle.udf_file_model.specs.Address.{same_addr}
use Rattle.udf_tree_model.specs.Among.{Member}
use Rattle.udf_tree_model.proofs.Members.{member_append, member_left, member_right}
use Rattle.udf_tree_model.proofs.Places.{address_same, same_address}
use Rattle.udf_held.specs.declared.held.Held.{Held}
use Rattle.udf_dues.specs.declared.identifiers.Identity.{Identity}
use Rattle.udf_dues.specs.Identifiers.{filled, free_among, settled, settled_from, wanted_ids}
use Rattle.udf_dues.specs.Numbered.{Lists, given_of, identity_in, passed}
use Rattle.udf_found.specs.Order.{addr_cmp}
use Rattle.udf_kept.proofs.Indexing.{order_apart, order_same}

-- ---- what an insertion leaves
abbrev step : {X : Type 0} → Ordering → Addr → X → Addr × X → List (Addr × X) → List (Addr × X) → List (Addr × X)
step o k x e es more = match_ordering o ((k, x) ∷ e ∷ es) ((e.0, x) ∷ es) (e ∷ more)

same_by : (k a : Addr) (o : Ordering) → addr_cmp k a ≡ o → o ≡ Equal → k ≡ a
same_by k a o e q = order_same k a (ap is_eq (e ∙ q))

key_gives : {X : Type 0} (es : List (Addr × X)) (k : Addr) (x : X) (a : Addr) → Member a (keys_of (insert_entry addr_cmp es k x)) → (a ≡ k) ⊎ Member a (keys_of es)
key_gives [] k x a (inl e) = inl e
key_gives [] k x a (inr m) = absurd m
key_gives (e ∷ es) k x a m = go (key_gives es k x a) (addr_cmp k e.0) m
  where
    go : (Member a (keys_of (insert_entry addr_cmp es k x)) → (a ≡ k) ⊎ Member a (keys_of es)) → (o : Ordering)
        → Member a (keys_of (step o k x e es (insert_entry addr_cmp es k x))) → (a ≡ k) ⊎ Member a (keys_of (e ∷ es))
    go ih Less (inl i) = inl i
    go ih Less (inr n) = inr n
    go ih Equal n = inr n
    go ih Greater (inl i) = inr (inl i)
    go ih Greater (inr n) = later (ih n)
      where
        later : (a ≡ k) ⊎ Member a (keys_of es) → (a ≡ k) ⊎ Member a (keys_of (e ∷ es))
        later (inl i) = inl i
        later (inr n) = inr (inr n)

key_stays : {X : Type 0} (es : List (Addr × X)) (k : Addr) (x : X) (a : Addr) → Member a (keys_of es) → Member a (keys_of (insert_entry addr_cmp es k x))
key_stays [] k x a m = absurd m
key_stays (e ∷ es) k x a m = go (key_stays es k x a) (addr_cmp k e.0) m
  where
    go : (Member a (keys_of es) → Member a (keys_of (insert_entry addr_cmp es k x))) → (o : Ordering)
        → Member a (keys_of (e ∷ es)) → Member a (keys_of (step o k x e es (insert_entry addr_cmp es k x)))
    go ih Less n = inr n
    go ih Equal n = n
    go ih Greater (inl i) = inl i
    go ih Greater (inr n) = inr (ih n)

key_there : {X : Type 0} (es : List (Addr × X)) (k : Addr) (x : X) → Member k (keys_of (insert_entry addr_cmp es k x))
key_there [] k x = inl refl
key_there (e ∷ es) k x = go (key_there es k x) (addr_cmp k e.0) refl
  where
    go : Member k (keys_of (insert_entry addr_cmp es k x)) → (o : Ordering) → addr_cmp k e.0 ≡ o → Member k (keys_of (step o k x e es (insert_entry addr_cmp es k x)))
    go ih Less i = inl refl
    go ih Equal i = inl (same_by k e.0 Equal i refl)
    go ih Greater i = inr ih

values_stay : {X : Type 0} (of : Addr → X) (es : List (Addr × X)) (k : Addr) (x : X) → x ≡ of k → values_of es ≡ map of (keys_of es)
    → values_of (insert_entry addr_cmp es k x) ≡ map of (keys_of (insert_entry addr_cmp es k x))
values_stay of [] k x i h = ap (λ y. y ∷ []) i
values_stay {X} of (e ∷ es) k x i h = go (values_stay of es k x i) (addr_cmp k e.0) refl
  where
    first : e.1 ≡ of e.0
    first = cc

    rest : values_of es ≡ map of (keys_of es)
    rest = cc

    go : (values_of es ≡ map of (keys_of es) → values_of (insert_entry addr_cmp es k x) ≡ map of (keys_of (insert_entry addr_cmp es k x)))
        → (o : Ordering) → addr_cmp k e.0 ≡ o → values_of (step o k x e es (insert_entry addr_cmp es k x)) ≡ map of (keys_of (step o k x e es (insert_entry addr_cmp es k x)))
    go ih Less c = ap (λ y. y ∷ e.1 ∷ values_of es) i ∙ ap (λ (ys : List X). of k ∷ ys) h
    go ih Equal c = ap (λ y. y ∷ values_of es) (i ∙ ap of (same_by k e.0 Equal c refl)) ∙ ap (λ (ys : List X). of e.0 ∷ ys) rest
    go ih Greater c = ap (λ y. y ∷ values_of (insert_entry addr_cmp es k x)) first ∙ ap (λ (ys : List X). of e.0 ∷ ys) (ih rest)

-- ---- the list
pub lists_begin : (root : Addr) (es : List (Addr × Identity)) → es ≡ [] → Lists root [] es
unfolding IsStrictlySortedBy
lists_begin root es e = subst (Lists root []) (sym e) (record { sorted = tt; there = λ a m. absurd m; all = λ h m. absurd m; values = λ of h. refl })

lists_one : (root : Addr) (hs : List Held) (h : Held) (es new : List (Addr × Identity)) → Lists root hs es → IsStrictlySortedBy addr_cmp (keys_of new)
    → new ≡ insert_entry addr_cmp es h.at (identity_in root h) → Lists root (hs ++ h ∷ []) new
lists_one root hs h es new was order e = record {
  sorted = order;
  there = λ a m. there a (key_gives es h.at x a (subst (λ ys. Member a (keys_of ys)) e m));
  all = λ k m. subst (λ ys. Member k.at (keys_of ys)) (sym e) (all k (member_append hs (h ∷ []) k m));
  values = λ of each.
      subst (λ ys. values_of ys ≡ map of (keys_of ys)) (sym e)
      (values_stay of es h.at x (each h (member_right hs (h ∷ []) h (inl refl))) (was.values of (λ k m. each k (member_left hs (h ∷ []) k m))));
}
  where
    x : Identity
    x = identity_in root h

    there : (a : Addr) → (a ≡ h.at) ⊎ Member a (keys_of es) → (k : Held) × Member k (hs ++ h ∷ []) × (k.at ≡ a)
    there a (inl i) = (h, member_right hs (h ∷ []) h (inl refl), sym i)
    there a (inr m) = let r = was.there a m in (r.0, member_left hs (h ∷ []) r.0 r.1, r.2)

    all : (k : Held) → Member k hs ⊎ Member k (h ∷ []) → Member k.at (keys_of (insert_entry addr_cmp es h.at x))
    all k (inl m) = key_stays es h.at x k.at (was.all k m)
    all k (inr (inl i)) = subst (λ (a : Addr). Member a (keys_of (insert_entry addr_cmp es h.at x))) (ap (λ (y : Held). y.at) (sym i)) (key_there es h.at x)
    all k (inr (inr m)) = absurd m

-- one entry more, where it is ordinary
pub lists_more : (root : Addr) (hs : List Held) (h : Held) (b : Bool) (es new : List (Addr × Identity)) → b ≡ true → IsStrictlySortedBy addr_cmp (keys_of new)
    → new ≡ insert_entry addr_cmp es h.at (identity_in root h) → Lists root hs es → Lists root (hs ++ cond b (h ∷ []) []) new
lists_more root hs h b es new t order e was = subst (λ (c : Bool). Lists root (hs ++ cond c (h ∷ []) []) new) (sym t) (lists_one root hs h es new was order e)

at_end : {X : Type 0} (xs : List X) → xs ≡ xs ++ []
at_end [] = refl
at_end (x ∷ xs) = ap (λ ys. x ∷ ys) (at_end xs)

pub lists_less : (root : Addr) (hs : List Held) (h : Held) (b : Bool) (es : List (Addr × Identity)) → b ≡ false → Lists root hs es → Lists root (hs ++ cond b (h ∷ []) []) es
lists_less root hs h b es f was =
    subst (λ (c : Bool). Lists root (hs ++ cond c (h ∷ []) []) es) (sym f) (subst (λ (xs : List Held). Lists root xs es) (at_end hs) was)

-- ---- the entries that pass
passed_end : (hs : List Held) (bs : List Bool) (h : Held) → passed (hs ++ h ∷ []) bs ≡ passed hs bs ++ cond (get_or bs (length hs) false) (h ∷ []) []
passed_end [] [] h = refl
passed_end [] (true ∷ bs) h = refl
passed_end [] (false ∷ bs) h = refl
passed_end (x ∷ hs) [] h = refl
passed_end (x ∷ hs) (true ∷ bs) h = ap (λ ys. x ∷ ys) (passed_end hs bs h)
passed_end (x ∷ hs) (false ∷ bs) h = passed_end hs bs h

pub passed_more : (hs : List Held) (bs : List Bool) (i : ℕ) (h : Held) → i < length hs → h ≡ get_or hs i h → passed (take (i + 1) hs) bs ≡ passed (take i hs) bs ++ cond (get_or bs i false) (h ∷ []) []
passed_more hs bs i h l e =
    ap (λ ys. passed ys bs) (take_more hs i h l ∙ ap (λ (y : Held). take i hs ++ y ∷ []) (sym e))
    ∙ passed_end (take i hs) bs h
    ∙ ap (λ (n : ℕ). passed (take i hs) bs ++ cond (get_or bs n false) (h ∷ []) []) long
  where
    long : length (take i hs) ≡ i
    long = let k = length-take i hs in omega (arith, l, k)

-- ---- what listed addresses are given
pub mapped_more : {X Y : Type 0} (f : X → Y) (xs : List X) (i : ℕ) (x : X) (ys new : List Y) (y : Y) → i < length xs → x ≡ get_or xs i x → ys ≡ map f (take i xs)
    → new ≡ ys ++ y ∷ [] → y ≡ f x → new ≡ map f (take (i + 1) xs)
mapped_more {X} {Y} f xs i x ys new y l e was now k =
    now ∙ ap (λ (zs : List Y). zs ++ y ∷ []) was ∙ ap (λ (z : Y). map f (take i xs) ++ z ∷ []) (k ∙ ap f e)
    ∙ sym (ap (map f) (take_more xs i x l) ∙ map-append f (take i xs) (get_or xs i x ∷ []))

mapped_at : (of : Addr → ℕ) (xs : List Addr) (i : ℕ) (x : Addr) → i < length xs → get_or (map of xs) i 0 ≡ of (get_or xs i x)
mapped_at of [] i x l = absurd (omega (arith, l))
mapped_at of (y ∷ ys) zero x l = refl
mapped_at of (y ∷ ys) (suc i) x l = mapped_at of ys i x (omega (arith, l))

any_end : (p : Addr → Bool) (xs : List Addr) (x : Addr) → list_any p (xs ++ x ∷ []) ≡ (p x || list_any p xs)
any_end p [] x = refl
any_end p (y ∷ ys) x = ap (λ b. p y || b) (any_end p ys x) ∙ turn (p y) (p x) (list_any p ys)
  where
    turn : (a b c : Bool) → (a || (b || c)) ≡ (b || (a || c))
    turn true true c = refl
    turn true false c = refl
    turn false true c = refl
    turn false false c = refl

given_one : (of : Addr → ℕ) (xs : List Addr) (x : Addr) (n : ℕ) (o : Option ℕ) (a : Addr) → n ≡ of x → o ≡ given_of of xs a
    → cond (is_eq (addr_cmp x a)) (Some n) o ≡ given_of of (xs ++ x ∷ []) a
given_one of xs x n o a e was = go (is_eq (addr_cmp x a)) refl
  where
    more : (b : Bool) → same_addr a x ≡ b → given_of of (xs ++ x ∷ []) a ≡ cond (b || list_any (same_addr a) xs) (Some (of a)) None
    more b k = ap (λ (c : Bool). cond c (Some (of a)) None) (any_end (same_addr a) xs x ∙ ap (λ (c : Bool). c || list_any (same_addr a) xs) k)

    go : (b : Bool) → is_eq (addr_cmp x a) ≡ b → cond b (Some n) o ≡ given_of of (xs ++ x ∷ []) a
    go true k = let i = order_same x a k in ap Some (e ∙ ap of i) ∙ sym (more true (address_same a x (sym i)))
    go false k = was ∙ sym (more false (apart (same_addr a x) refl))
      where
        apart : (b : Bool) → same_addr a x ≡ b → same_addr a x ≡ false
        apart false i = i
        apart true i = absurd (order_apart x a k (sym (same_address a x i)))

pub given_more : (of : Addr → ℕ) (xs : List Addr) (ids : List ℕ) (i : ℕ) (x : Addr) (n : ℕ) (f g : Addr → Option ℕ) → i < length xs → x ≡ get_or xs i x → n ≡ get_or ids i 0
    → ids ≡ map of xs → ((a : Addr) → f a ≡ given_of of (take i xs) a) → ((a : Addr) → g a ≡ cond (is_eq (addr_cmp x a)) (Some n) (f a)) → (a : Addr) → g a ≡ given_of of (take (i + 1) xs) a
given_more of xs ids i x n f g l e k m was now a =
    now a
    ∙ given_one of (take i xs) x n (f a) a (k ∙ ap (λ ys. get_or ys i 0) m ∙ mapped_at of xs i x l ∙ ap of (sym e)) (was a)
    ∙ sym (ap (λ ys. given_of of ys a) (take_more xs i x l ∙ ap (λ (y : Addr). take i xs ++ y ∷ []) (sym e)))

-- ---- as many
filled_long : (ids : List (Option ℕ)) (free : List ℕ) → length (filled ids free) ≡ length ids
filled_long [] free = refl
filled_long (Some n ∷ ids) free = ap suc (filled_long ids free)
filled_long (None ∷ ids) free = ap suc (filled_long ids (drop 1 free))

settled_long : (before : List ℕ) (xs : List Identity) → length (settled_from before xs) ≡ length xs
settled_long before [] = refl
settled_long before (x ∷ xs) = ap suc (settled_long (before ++ x.id ∷ []) xs)

wanted_few : (xs : List Identity) → length (wanted_ids xs) ≡ length xs
unfolding wanted_ids
wanted_few xs = filled_long (settled xs) (free_among (settled xs)) ∙ settled_long [] xs

values_few : {X : Type 0} (es : List (Addr × X)) → length (values_of es) ≡ length (keys_of es)
values_few [] = refl
values_few (e ∷ es) = ap suc (values_few es)

pub wanted_long : (es : List (Addr × Identity)) (wanted : List ℕ) (found : List Identity) (xs : List Addr) → wanted ≡ wanted_ids found → found ≡ values_of es → xs ≡ keys_of es → length wanted ≡ length xs
wanted_long es wanted found xs e k m = ap length e ∙ wanted_few found ∙ ap length k ∙ values_few es ∙ sym (ap length m)
