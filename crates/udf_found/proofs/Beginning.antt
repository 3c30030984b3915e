-- Where the search for entries begins and ends.
use Rattle.std.proofs.Common.{◌≡◌, ◌⊎◌, ℕ, zero, suc, ◌≤◌, ◌<◌, List, [], ◌∷◌, ◌++◌, length, take, drop, get_or, Bool, true, false, cond, ◌&&◌, ◌||◌, Option, Some, None, refl, sym, ap, ◌∙◌, subst, inl, inr, arith}
use Rattle.std.specs.Prelude.{is_some}
use Rattle.std.specs.List.{list_any, IsDistinct, AllByRecursion}
use Rattle.std.specs.Cmp.{IsEquivalence}
use Rattle.std.proofs.lemmas.Bool.{and_parts, and_from, or_cases, or_left, or_right, false≢true}
use Rattle.std.proofs.lemmas.List.{length-append, length-map, length-take-le, take_all, drop_all}
use Rattle.std.proofs.lemmas.Map.Made.{length-le_from_is_member}
use Rattle.udf_field.specs.declared.address.Addr.{Addr}
use Rattle.udf_file_model.specs.Address.{same_addr}
use Rattle.udf_file_model.specs.Listing.{Volume, is_placed}
use Rattle.udf_tree_model.specs.Among.{Member}
use Rattle.udf_tree_model.specs.Node.{Node, readable, node_at, node_or, good_length}
use Rattle.udf_tree_model.specs.Rounds.{Graph}
use Rattle.udf_tree_model.specs.Found.{found_graph, whole_links}
use Rattle.udf_tree_model.specs.Frame.{Frame, entry_at, holder_by, holder_node, is_address, is_file_set, is_holder, is_start, node_by, places, setting_of, tree_of}
use Rattle.udf_tree_model.proofs.Members.{any_gives, any_from, member_append, member_of_map, same_bools}
use Rattle.udf_tree_model.proofs.Reached.{start_stays}
use Rattle.udf_tree_model.proofs.Places.{same_address, address_same, placed_among, readable_placed}
use Rattle.udf_tree_model.proofs.Finding.{volume_within}
use Rattle.udf_found.specs.declared.arena.Found.{Found}
use Rattle.udf_found.specs.Begin.{IsHolderAlone}
use Rattle.udf_found.specs.Seen.{AreRead, HasHolder, IsAt, spots}
use Rattle.udf_found.specs.Shape.{IsShaped}
use Rattle.udf_found.specs.Spot.{Spot, spot, addresses, knows, ComeOnce, Has, Rising, IsQueue, IsFoundList}
use Rattle.udf_tree_model.specs.Link as model
use Rattle.udf_tree_model.specs.Link.{pointer_link}
use Rattle.udf_found.specs.Linked.{AreLinks}
use Rattle.udf_found.specs.Visit.{Adds, IsPlaced}
use Rattle.udf_found.proofs.Adding.{known_is}
use Rattle.udf_found.proofs.Going.{holder_stays}
use Rattle.udf_found.proofs.Queueing.{queue_done}

-- ---- the holder of the pointer to the system stream directory
pub holder_start : (f : Frame) (v : Volume) (a : Addr) → is_holder f v a ≡ true → (is_start f a ≡ true) × (readable (tree_of f v) a ≡ true)
unfolding is_holder is_start readable tree_of
holder_start f v a h = (or_right (same_addr a f.root) (is_some f.system && same_addr a f.file_set) (and_from (is_some f.system) (same_addr a f.file_set) b.0 c.0), by f.system b.0)
  where
    b : (is_some f.system ≡ true) × (is_file_set f v a ≡ true)
    b = and_parts (is_some f.system) (is_file_set f v a) h

    c : (same_addr a f.file_set ≡ true) × ((is_address a && is_placed v a) ≡ true)
    c = and_parts (same_addr a f.file_set) (is_address a && is_placed v a) b.1

    by : (o : Option Addr) → is_some o ≡ true → is_some (holder_by o (is_file_set f v a) (node_by f v a (entry_at v a))) ≡ true
    by None k = absurd (false≢true k)
    by (Some x) k = ap (λ (d : Bool). is_some (cond d (Some (holder_node x)) (node_by f v a (entry_at v a)))) b.1

pub holder_again : (f : Frame) (v : Volume) (a : Addr) → (is_some f.system && same_addr a f.file_set) ≡ true → readable (tree_of f v) a ≡ true → is_holder f v a ≡ true
unfolding is_holder
holder_again f v a h r =
    let b = and_parts (is_some f.system) (same_addr a f.file_set) h in
    let p = readable_placed f v a r in
    and_from (is_some f.system) (is_file_set f v a) b.0 (and_from (same_addr a f.file_set) (is_address a && is_placed v a) b.1 (and_from (is_address a) (is_placed v a) p.0 p.1))

holder_links : (f : Frame) (v : Volume) (a target : Addr) → f.system ≡ Some target → is_holder f v a ≡ true → whole_links (tree_of f v) a ≡ pointer_link target ∷ []
unfolding whole_links node_at tree_of is_holder
holder_links f v a target s h = ap (λ (o : Option Node). (node_or o).links (good_length (tree_of f v) a)) node
  where
    here : is_file_set f v a ≡ true
    here = (and_parts (is_some f.system) (is_file_set f v a) h).1

    node : tree_of f v a ≡ Some (holder_node target)
    node =
        ap (λ (o : Option Addr). holder_by o (is_file_set f v a) (node_by f v a (entry_at v a))) s
        ∙ ap (λ (b : Bool). cond b (Some (holder_node target)) (node_by f v a (entry_at v a))) here

-- ---- the entries to begin with
no_holder : (f : Frame) (v : Volume) (q : List Found) → q ≡ [] → ((a : Addr) → is_holder f v a ≡ false) → IsHolderAlone f v q
no_holder f v q e none = subst (IsHolderAlone f v) (sym e) (record {
  holder = record { known = λ a h. absurd (false≢true (sym (none a) ∙ h)) };
  alone = λ x m. absurd m;
  read = record { each = λ n m. absurd m; shapes = λ n m. absurd m };
  placed = record { once = tt; among = λ x m. absurd m; low = λ k d l. absurd (omega (arith, l)) };
})

pub without_pointer : (f : Frame) (v : Volume) (q : List Found) → q ≡ [] → f.system ≡ None → IsHolderAlone f v q
unfolding is_holder
without_pointer f v q e s = no_holder f v q e (λ a. ap (λ (o : Option Addr). is_some o && is_file_set f v a) s)

pub without_file_set : (f : Frame) (v : Volume) (q : List Found) → q ≡ [] → is_some (v.place f.file_set) ≡ false → IsHolderAlone f v q
unfolding is_holder
without_file_set f v q e p = no_holder f v q e (λ a. go a (is_holder f v a) refl)
  where
    go : (a : Addr) (b : Bool) → is_holder f v a ≡ b → is_holder f v a ≡ false
    go a false k = k
    go a true k =
        let b = and_parts (is_some f.system) (is_file_set f v a) k in
        let c = and_parts (same_addr a f.file_set) (is_address a && is_placed v a) b.1 in
        let d = and_parts (is_address a) (is_placed v a) c.1 in
        absurd (false≢true (sym p ∙ ap (λ (x : Addr). is_some (v.place x)) (sym (same_address a f.file_set c.0)) ∙ d.1))

pub with_holder : (f : Frame) (v : Volume) (n : Found) (target : Addr) (q : List Found) → f.system ≡ Some target → f.file_set ≡ n.at → n.level ≡ 0 → AreLinks (pointer_link target ∷ []) n.links.items
    → n.shape ≡ None → is_address n.at ≡ true → is_some (v.place n.at) ≡ true → q ≡ n ∷ [] → IsHolderAlone f v q
unfolding is_holder
with_holder f v n target q s i l ts none a p e = subst (IsHolderAlone f v) (sym e) (record {
  holder = record { known = λ b h. or_left (same_addr b n.at) false (ap (same_addr b) (sym i) ∙ (and_parts (same_addr b f.file_set) (is_address b && is_placed v b) (and_parts (is_some f.system) (is_file_set f v b) h).1).0) };
  alone = alone;
  read = record { each = each; shapes = shapes };
  placed = record { once = (refl, tt); among = among; low = low };
})
  where
    here : is_holder f v n.at ≡ true
    here =
        and_from (is_some f.system) (is_file_set f v n.at) (ap (λ (o : Option Addr). is_some o) s)
        (and_from (same_addr n.at f.file_set) (is_address n.at && is_placed v n.at) (address_same n.at f.file_set (sym i)) (and_from (is_address n.at) (is_placed v n.at) a p))

    alone : (x : Spot) → Member x (spots (n ∷ [])) → (is_holder f v x.at ≡ true) × (x.level ≡ 0)
    alone x (inl k) = (ap (λ (y : Spot). is_holder f v y.at) k ∙ here, ap (λ (y : Spot). y.level) k ∙ l)
    alone x (inr k) = absurd k

    each : (m : Found) → Member m (n ∷ []) → AreLinks (whole_links (tree_of f v) m.at) m.links.items
    each m (inl k) =
        let P : Found → Type 0 = λ y. AreLinks (whole_links (tree_of f v) y.at) y.links.items in
        subst P (sym k) (let Q : List model.Link → Type 0 = λ fs. AreLinks fs n.links.items in subst Q (sym (holder_links f v n.at target s here)) ts)
    each m (inr k) = absurd k

    shapes : (m : Found) → Member m (n ∷ []) → IsShaped f v m.at m.shape
    shapes m (inl k) = let P : Found → Type 0 = λ y. IsShaped f v y.at y.shape in subst P (sym k) (subst (IsShaped f v n.at) (sym none) here)
    shapes m (inr k) = absurd k

    among : (x : Spot) → Member x (spots (n ∷ [])) → Member x.at (places v)
    among x (inl k) = subst (λ (b : Addr). Member b (places v)) (ap (λ (y : Spot). y.at) (sym k)) (placed_among v n.at a p)
    among x (inr k) = absurd k

    low : (k : ℕ) (d : Spot) → k < length (spots (n ∷ [])) → (get_or (spots (n ∷ [])) k d).level ≤ k
    low zero d m = omega (arith, l)
    low (suc k) d m = absurd (omega (arith, m))

-- ---- the queue to begin with
level_ground : (q : List Spot) → ((x : Spot) → Member x q → x.level ≡ 0) → Rising q
level_ground [] h = tt
level_ground (x ∷ xs) h = (λ y m. let l = h x (inl refl) in omega (arith, l), level_ground xs (λ y m. h y (inr m)))

queue_begins : (g : Graph) (q : List Spot) → ((x : Spot) → Member x q → (g.start x.at ≡ true) × (x.level ≡ 0)) → ((a : Addr) → g.start a ≡ true → knows a q ≡ true) → IsQueue g [] q
queue_begins g q each all = record {
  reached = λ x m. start_stays g x.level x.at (each x m).0;
  starts = λ a s. here a (any_gives (same_addr a) (addresses q) (all a s));
  closed = λ x a m e. absurd m;
  near = λ x y m n. let l = (each x n).1 in omega (arith, l);
  rising = level_ground q (λ x m. (each x m).1);
}
  where
    here : (a : Addr) → (b : Addr) × Member b (addresses q) × (same_addr a b ≡ true) → Has q a 0
    here a r =
        let x = member_of_map (λ (y : Spot). y.at) q r.0 r.1 in
        let i : x.0.at ≡ a = sym x.2 ∙ sym (same_address a r.0 r.2) in
        let l = (each x.0 x.1).1 in
        let h : Has q x.0.at 0 = record { level = x.0.level; there = x.1; low = omega (arith, l) } in
        subst (λ (b : Addr). Has q b 0) i h

-- after the root was added to the holder
pub search_begins : (tells : Type 0) → tells → (f : Frame) (v : Volume) (root : Addr) (q r : List Found) → f.root ≡ root → IsHolderAlone f v q
    → Adds (tells × HasHolder f v q) (tree_of f v) (places v) root 0 (spots q) (spots r) → (HasHolder f v q → AreRead f v q → AreRead f v r) → IsAt f v 0 r
unfolding found_graph setting_of is_start
search_begins tells told f v root q r e alone h read = record {
  holder = stays;
  read = read alone.holder alone.read;
  queue = queue_begins g (spots r) (λ x m. by h.goes refl x (subst (λ (l : List Spot). Member x l) h.is m)) all;
}
  where
    g : Graph
    g = found_graph (setting_of f v) (tree_of f v)

    stays : HasHolder f v r
    stays = holder_stays (tells × HasHolder f v q) f v (tree_of f v) (places v) root 0 q r h alone.holder

    old : (x : Spot) → Member x (spots q) → (g.start x.at ≡ true) × (x.level ≡ 0)
    old x m = let a = alone.alone x m in let s = holder_start f v x.at a.0 in (and_from (is_start f x.at) (readable (tree_of f v) x.at) s.0 s.1, a.1)

    new : h.goes ≡ true → (x : Spot) → Member x (spot root 0 ∷ []) → (g.start x.at ≡ true) × (x.level ≡ 0)
    new t x (inl k) =
        let P : Spot → Type 0 = λ y. (g.start y.at ≡ true) × (y.level ≡ 0) in
        let rd = h.true_one (told, alone.holder) t in
        subst P (sym k) (and_from (is_start f root) (readable (tree_of f v) root) (or_left (same_addr root f.root) (is_some f.system && same_addr root f.file_set) (address_same root f.root (sym e))) rd, refl)
    new t x (inr k) = absurd k

    by : (b : Bool) → h.goes ≡ b → (x : Spot) → Member x (cond h.goes (spots q ++ spot root 0 ∷ []) (spots q)) → (g.start x.at ≡ true) × (x.level ≡ 0)
    by true t x m = both (member_append (spots q) (spot root 0 ∷ []) x (subst (λ (b : Bool). Member x (cond b (spots q ++ spot root 0 ∷ []) (spots q))) t m))
      where
        both : Member x (spots q) ⊎ Member x (spot root 0 ∷ []) → (g.start x.at ≡ true) × (x.level ≡ 0)
        both (inl k) = old x k
        both (inr k) = new t x k
    by false t x m = old x (subst (λ (b : Bool). Member x (cond b (spots q ++ spot root 0 ∷ []) (spots q))) t m)

    all : (a : Addr) → g.start a ≡ true → knows a (spots r) ≡ true
    all a s =
        let b = and_parts (is_start f a) (readable (tree_of f v) a) s in
        either a b.1 (or_cases (same_addr a f.root) (is_some f.system && same_addr a f.file_set) b.0)
      where
        either : (a : Addr) → readable (tree_of f v) a ≡ true → (same_addr a f.root ≡ true) ⊎ ((is_some f.system && same_addr a f.file_set) ≡ true) → knows a (spots r) ≡ true
        either a rd (inl k) =
            let i : a ≡ root = same_address a f.root k ∙ e in
            let P : Addr → Type 0 = λ b. readable (tree_of f v) b ≡ true → knows b (spots r) ≡ true in
            subst P (sym i) (λ d. h.all (told, alone.holder) d) rd
        either a rd (inr k) = sym (known_is a r) ∙ stays.known a (holder_again f v a k rd)

-- ---- the end
same_symmetric : (a b : Addr) → same_addr a b ≡ same_addr b a
same_symmetric a b = same_bools (same_addr a b) (same_addr b a) (λ h. address_same b a (sym (same_address a b h))) (λ h. address_same a b (sym (same_address b a h)))

same_laws : IsEquivalence same_addr
same_laws = record {
  refl = λ a. address_same a a refl;
  symm = same_symmetric;
  congr = λ a b c h. ap (λ (x : Addr). same_addr x c) (same_address a b h);
}

apart : (q : List Spot) → ComeOnce q → IsDistinct same_addr (addresses q)
unfolding IsDistinct
apart [] once = tt
apart (x ∷ xs) once = (others (addresses xs) once.0, apart xs once.1)
  where
    others : (ys : List Addr) → list_any (same_addr x.at) ys ≡ false → AllByRecursion (λ y. same_addr x.at y ≡ false) ys
    others [] h = tt
    others (y ∷ ys) h = let b = neither (same_addr x.at y) (list_any (same_addr x.at) ys) h in (b.0, others ys b.1)
      where
        neither : (b c : Bool) → (b || c) ≡ false → (b ≡ false) × (c ≡ false)
        neither true c e = absurd (false≢true (sym e))
        neither false c e = (refl, e)

-- there are at most as many as places
pub placed_few : (ps : List Addr) (q : List Found) → IsPlaced ps (spots q) → length q ≤ length ps
placed_few ps q p =
    let l = length-map q (λ (n : Found). spot n.at n.level) in
    let m = length-map (spots q) (λ (x : Spot). x.at) in
    let few = length-le_from_is_member same_laws (addresses (spots q)) ps (apart (spots q) p.once) (λ a k. among a (any_gives (same_addr a) (addresses (spots q)) k)) in
    omega (arith, l, m, few)
  where
    among : (a : Addr) → (b : Addr) × Member b (addresses (spots q)) × (same_addr a b ≡ true) → list_any (same_addr a) ps ≡ true
    among a r =
        let x = member_of_map (λ (y : Spot). y.at) (spots q) r.0 r.1 in
        any_from (same_addr a) ps x.0.at (p.among x.0 x.1) (ap (same_addr a) (sym x.2) ∙ r.2)

pub search_ends : (f : Frame) (v : Volume) (next : ℕ) (q : List Found) → length q ≤ next → IsPlaced (places v) (spots q) → IsAt f v next q → IsFoundList (setting_of f v) (tree_of f v) (spots q)
search_ends f v next q l p h =
    queue_done (setting_of f v) (tree_of f v) (volume_within f v) (spots q) p.once
    (subst (λ (r : List Spot). IsQueue g r []) (take_all next (spots q) low) (subst (IsQueue g (take next (spots q))) (drop_all next (spots q) low) h.queue))
  where
    g : Graph
    g = found_graph (setting_of f v) (tree_of f v)

    low : length (spots q) ≤ next
    low = let k = length-map q (λ (n : Found). spot n.at n.level) in omega (arith, k, l)

-- a room that was lent keeps its length
pub room_stays : (len : ℕ) (new old : List ℕ) → len ≡ length old → length new ≡ length old → length (take len (new ++ drop (length new) old)) ≡ len
room_stays len new old whole same = length-take-le len (new ++ drop (length new) old) (let l = length-append new (drop (length new) old) in omega (arith, l, whole, same))
