-- One node's visit: what its links lead to is added to the queue.
use Rattle.std.proofs.Common.{◌≡◌, ◌⊎◌, ℕ, suc, ◌+◌, ◌≤◌, ◌<◌, List, [], ◌∷◌, ◌++◌, length, take, drop, get_or, Bool, true, false, cond, ◌||◌, refl, sym, ap, ◌∙◌, subst, inl, inr, arith}
use Rattle.std.specs.List.{list_any}
use Rattle.std.proofs.lemmas.Bool.{cases_lt, and_parts, and_from, or_cases, false≢true}
use Rattle.std.proofs.lemmas.List.{append_assoc, map-append, length-append, take-append-le, drop-append-le, drop_more, get_or_append_left, get_or_at, take-append-drop, length-take-le, take_at, drop_at}
use Rattle.std.proofs.lemmas.List.Folds.{list_any-append}
use Rattle.udf_field.specs.declared.address.Addr.{Addr}
use Rattle.udf_file_model.specs.Address.{same_addr}
use Rattle.udf_tree_model.specs.Among.{Member}
use Rattle.udf_tree_model.specs.Link.{Link, target_of}
use Rattle.udf_tree_model.specs.Node.{Tree, Setting, readable}
use Rattle.udf_tree_model.specs.Rounds.{Graph, in_round}
use Rattle.udf_tree_model.specs.Found.{leads_to, whole_links, found_graph}
use Rattle.udf_tree_model.specs.Laws.{IsWithin}
use Rattle.udf_tree_model.proofs.Members.{any_gives, member_append, member_right, member_of_map}
use Rattle.udf_tree_model.proofs.Reached.{round_edge, round_within}
use Rattle.udf_tree_model.proofs.Places.{same_address, address_same}
use Rattle.udf_tree_model.proofs.Finding.{found_places}
use Rattle.udf_found.specs.Target.{targets_of}
use Rattle.udf_found.specs.Spot.{Spot, spot, addresses, knows, ComeOnce, Has, IsQueue, IsQueueAt}
use Rattle.udf_found.specs.Visit.{Adds, IsPlaced, Visit}
use Rattle.udf_found.proofs.Queueing.{has_more, queue_push, queue_next}

pub knows_push : (a b : Addr) (l : ℕ) (q : List Spot) → knows a (q ++ spot b l ∷ []) ≡ (knows a q || same_addr a b)
knows_push a b l q = ap (list_any (same_addr a)) (map-append (λ (x : Spot). x.at) q (spot b l ∷ [])) ∙ list_any-append (same_addr a) (addresses q) (b ∷ []) ∙ ap (λ c. knows a q || c) (or_false (same_addr a b))
  where
    or_false : (c : Bool) → (c || false) ≡ c
    or_false true = refl
    or_false false = refl

once_push : (q : List Spot) (a : Addr) (l : ℕ) → ComeOnce q → knows a q ≡ false → ComeOnce (q ++ spot a l ∷ [])
once_push [] a l o k = (refl, tt)
once_push (x ∷ xs) a l o k = (apart, once_push xs a l o.1 (or_right_false (same_addr a x.at) (knows a xs) k))
  where
    or_right_false : (b c : Bool) → (b || c) ≡ false → c ≡ false
    or_right_false true c e = cc
    or_right_false false c e = e

    or_both : (b c : Bool) → b ≡ false → c ≡ false → (b || c) ≡ false
    or_both b c e f = cc

    other : (b : Bool) → same_addr x.at a ≡ b → same_addr x.at a ≡ false
    other false e = e
    other true e = absurd (false≢true (sym (or_left_false (same_addr a x.at) (knows a xs) k) ∙ address_same a x.at (sym (same_address x.at a e))))
      where
        or_left_false : (b c : Bool) → (b || c) ≡ false → b ≡ false
        or_left_false true c e = cc
        or_left_false false c e = refl

    apart : knows x.at (xs ++ spot a l ∷ []) ≡ false
    apart = knows_push x.at a l xs ∙ or_both (knows x.at xs) (same_addr x.at a) o.0 (other (same_addr x.at a) refl)

pub placed_adds : (tells : Type 0) (t : Tree) (ps : List Addr) (a : Addr) (l : ℕ) (old new : List Spot) → Adds tells t ps a l old new → l ≤ length old → IsPlaced ps old → IsPlaced ps new
placed_adds tells t ps a l old new h low p = go h.goes refl
  where
    pushed : h.goes ≡ true → IsPlaced ps (old ++ spot a l ∷ [])
    pushed e = record { once = once_push old a l p.once (h.fresh e); among = λ x m. among x (member_append old (spot a l ∷ []) x m); low = lows }
      where
        among : (x : Spot) → Member x old ⊎ Member x (spot a l ∷ []) → Member x.at ps
        among x (inl m) = p.among x m
        among x (inr (inl k)) = subst (λ (y : Addr). Member y ps) (ap (λ (z : Spot). z.at) (sym k)) (h.placed e)
        among x (inr (inr m)) = absurd m

        lows : (k : ℕ) (d : Spot) → k < length (old ++ spot a l ∷ []) → (get_or (old ++ spot a l ∷ []) k d).level ≤ k
        lows k d m = at_last (cases_lt k (length old))
          where
            at_last : (k < length old) ⊎ (length old ≤ k) → (get_or (old ++ spot a l ∷ []) k d).level ≤ k
            at_last (inl i) = let e : get_or (old ++ spot a l ∷ []) k d ≡ get_or old k d = get_or_append_left old (spot a l ∷ []) d k i in let r = p.low k d i in omega (arith, ap (λ (x : Spot). x.level) e)
            at_last (inr i) = let same : k ≡ length old = omega (arith, length-append old (spot a l ∷ [])) in let e : get_or (old ++ spot a l ∷ []) k d ≡ spot a l = get_or_at old (spot a l) [] d k (sym same) in omega (arith, ap (λ (x : Spot). x.level) e)

    go : (b : Bool) → h.goes ≡ b → IsPlaced ps new
    go true e = subst (IsPlaced ps) (sym (h.is ∙ ap (λ b. cond b (old ++ spot a l ∷ []) old) e)) (pushed e)
    go false e = subst (IsPlaced ps) (sym (h.is ∙ ap (λ b. cond b (old ++ spot a l ∷ []) old) e)) p

pub visit_begins : (g : Graph) (t : Tree) (next : ℕ) (x : Spot) (q : List Spot) → next < length q → x ≡ get_or q next x → IsQueueAt g next q → Visit g t next x [] q
visit_begins g t next x q l i h = record { rest = drop (next + 1) q; here = here; inside = omega arith; queue = subst (IsQueue g (take next q)) here h; led = λ a r e. absurd (false≢true e) }
  where
    here : drop next q ≡ x ∷ drop (next + 1) q
    here = drop_more q next x l ∙ ap (λ y. y ∷ drop (next + 1) q) (sym i)

abbrev leads_among : Addr → List Addr → Bool
leads_among a ts = list_any (λ x. same_addr x a) ts

-- one target more
led_more : (t : Tree) (x : Spot) (ts : List Addr) (f : Addr) (r : List Spot) → ((a : Addr) → readable t a ≡ true → leads_among a ts ≡ true → Has r a (suc x.level))
    → (readable t f ≡ true → Has r f (suc x.level)) → (a : Addr) → readable t a ≡ true → leads_among a (ts ++ f ∷ []) ≡ true → Has r a (suc x.level)
led_more t x ts f r led one a rd e = go (or_cases (leads_among a ts) (leads_among a (f ∷ [])) (sym (list_any-append (λ y. same_addr y a) ts (f ∷ [])) ∙ e))
  where
    last : (b : Bool) → (b || false) ≡ true → b ≡ true
    last true e = refl
    last false e = e

    go : (leads_among a ts ≡ true) ⊎ (leads_among a (f ∷ []) ≡ true) → Has r a (suc x.level)
    go (inl k) = led a rd k
    go (inr k) = let i : f ≡ a = same_address f a (last (same_addr f a) k) in let P : Addr → Type 0 = λ b. readable t b ≡ true → Has r b (suc x.level) in subst P i one rd

-- an address that stands in the list stands no more than one level up
known_near : (g : Graph) (t : Tree) (next : ℕ) (x : Spot) (ts : List Addr) (q : List Spot) → Visit g t next x ts q → (a : Addr) → knows a q ≡ true → Has q a (suc x.level)
known_near g t next x ts q m a k = go (any_gives (same_addr a) (addresses q) k)
  where
    whole : take next q ++ x ∷ m.rest ≡ q
    whole = ap (λ l. take next q ++ l) (sym m.here) ∙ take-append-drop next q

    go : (b : Addr) × Member b (addresses q) × (same_addr a b ≡ true) → Has q a (suc x.level)
    go (b, n, e) =
        let s = member_of_map (λ (y : Spot). y.at) q b n in
        let i : s.0.at ≡ a = sym s.2 ∙ sym (same_address a b e) in
        let low : s.0.level ≤ suc x.level = m.queue.near s.0 x (inl refl) (subst (λ (l : List Spot). Member s.0 l) (sym whole) s.1) in
        let h : Has q s.0.at (suc x.level) = record { level = s.0.level; there = s.1; low = low } in
        subst (λ (b : Addr). Has q b (suc x.level)) i h

visit_known : (g : Graph) (t : Tree) (next : ℕ) (x : Spot) (ts : List Addr) (f : Addr) (q : List Spot) → (readable t f ≡ true → knows f q ≡ true) → Visit g t next x ts q → Visit g t next x (ts ++ f ∷ []) q
visit_known g t next x ts f q all m = record { rest = m.rest; here = m.here; inside = m.inside; queue = m.queue; led = led_more t x ts f q m.led (λ rd. known_near g t next x ts q m f (all rd)) }

visit_new : (g : Graph) (t : Tree) (next : ℕ) (x : Spot) (ts : List Addr) (f : Addr) (q : List Spot) → in_round g (suc x.level) f ≡ true → Visit g t next x ts q → Visit g t next x (ts ++ f ∷ []) (q ++ spot f (suc x.level) ∷ [])
visit_new g t next x ts f q h m = record {
  rest = m.rest ++ new;
  here = here;
  inside = let l = length-append q new in let i = m.inside in omega arith;
  queue = subst (λ (d : List Spot). IsQueue g d (x ∷ (m.rest ++ new))) (sym front) (queue_push g (take next q) x m.rest f h m.queue);
  led = led_more t x ts f (q ++ new) (λ a rd e. has_more q new a (suc x.level) (m.led a rd e)) (λ rd. there);
}
  where
    new : List Spot
    new = spot f (suc x.level) ∷ []

    here : drop next (q ++ new) ≡ x ∷ (m.rest ++ new)
    here = drop-append-le next q new m.inside ∙ ap (λ l. l ++ new) m.here

    front : take next (q ++ new) ≡ take next q
    front = take-append-le next q new m.inside

    there : Has (q ++ new) f (suc x.level)
    there = record { level = suc x.level; there = member_right q new _ (inl refl); low = omega arith }

pub visit_more : (s : Setting) (t : Tree) → IsWithin s t → (tells : Type 0) → tells → (ps : List Addr) (next : ℕ) (x : Spot) (ts : List Addr) (f : Addr) (q r : List Spot)
    → list_any (leads_to f) (whole_links t x.at) ≡ true → Adds tells t ps f (suc x.level) q r → Visit (found_graph s t) t next x ts q → Visit (found_graph s t) t next x (ts ++ f ∷ []) r
unfolding found_graph
visit_more s t w tells told ps next x ts f q r leads h m = go h.goes refl
  where
    new : List Spot
    new = spot f (suc x.level) ∷ []

    first : Member x (take next q ++ x ∷ m.rest)
    first = member_right (take next q) (x ∷ m.rest) x (inl refl)

    go : (b : Bool) → h.goes ≡ b → Visit (found_graph s t) t next x (ts ++ f ∷ []) r
    go true e =
        let here = m.queue.reached x first in
        let edge = and_from (readable t f) _ (h.true_one told e) leads in
        let reached = round_edge (found_graph s t) x.level x.at f (round_within (found_graph s t) (found_places s t w) x.level x.at here) here edge in
        subst (Visit (found_graph s t) t next x (ts ++ f ∷ [])) (sym (h.is ∙ ap (λ b. cond b (q ++ new) q) e)) (visit_new (found_graph s t) t next x ts f q reached m)
    go false e =
        let same = h.is ∙ ap (λ b. cond b (q ++ new) q) e in
        subst (Visit (found_graph s t) t next x (ts ++ f ∷ [])) (sym same) (visit_known (found_graph s t) t next x ts f q (λ rd. ap (knows f) (sym same) ∙ h.all told rd) m)

leads_targets : (a : Addr) (links : List Link) → leads_among a (targets_of links) ≡ list_any (leads_to a) links
leads_targets a [] = refl
leads_targets a (f ∷ fs) = ap (λ b. same_addr (target_of f.says) a || b) (leads_targets a fs)

pub next_done : (next : ℕ) (x : Spot) (q rest : List Spot) → next ≤ length q → drop next q ≡ x ∷ rest → take (next + 1) q ≡ take next q ++ x ∷ []
next_done next x q rest low here =
    ap (take (next + 1)) (sym whole ∙ sym (append_assoc (take next q) (x ∷ []) rest))
    ∙ take_at (take next q ++ x ∷ []) rest (next + 1) (let l = length-append (take next q) (x ∷ []) in let count = length-take-le next q low in omega (arith, count, l))
  where
    whole : take next q ++ x ∷ rest ≡ q
    whole = ap (λ l. take next q ++ l) (sym here) ∙ take-append-drop next q

pub visit_ends : (s : Setting) (t : Tree) (next : ℕ) (x : Spot) (ts : List Addr) (q : List Spot) → ts ≡ targets_of (whole_links t x.at) → Visit (found_graph s t) t next x ts q → IsQueueAt (found_graph s t) (next + 1) q
unfolding found_graph
visit_ends s t next x ts q all m = subst (λ (d : List Spot). IsQueue g d (drop (next + 1) q)) (sym done) (subst (IsQueue g (take next q ++ x ∷ [])) rest (queue_next g (take next q) x m.rest edges m.queue))
  where
    g : Graph
    g = found_graph s t

    whole : take next q ++ x ∷ m.rest ≡ q
    whole = ap (λ l. take next q ++ l) (sym m.here) ∙ take-append-drop next q

    count : length (take next q) ≡ next
    count = length-take-le next q m.inside

    done : take (next + 1) q ≡ take next q ++ x ∷ []
    done = next_done next x q m.rest m.inside m.here

    rest : m.rest ≡ drop (next + 1) q
    rest = sym (ap (drop (next + 1)) (sym whole ∙ sym (append_assoc (take next q) (x ∷ []) m.rest)) ∙ drop_at (take next q ++ x ∷ []) m.rest (next + 1) (let l = length-append (take next q) (x ∷ []) in omega (arith, count)))

    edges : (a : Addr) → g.edge x.at a ≡ true → Has (take next q ++ x ∷ m.rest) a (suc x.level)
    edges a e = let b = and_parts (readable t a) _ e in subst (λ (l : List Spot). Has l a (suc x.level)) (sym whole) (m.led a b.0 (ap (leads_among a) all ∙ leads_targets a (whole_links t x.at) ∙ b.1))
