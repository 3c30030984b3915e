-- What the arena holds after an address is added.
use Rattle.std.proofs.Common.{◌≡◌, ◌⊎◌, ℕ, ◌<◌, List, [], ◌∷◌, ◌++◌, map, Bool, true, false, Option, Some, None, refl, sym, ap, ◌∙◌, subst, inl, inr}
use Rattle.std.specs.Prelude.{is_some, IsSome}
use Rattle.std.specs.List.{list_any}
use Rattle.std.proofs.lemmas.Bool.{false≢true, or_right}
use Rattle.std.proofs.lemmas.List.{map-append}
use Rattle.udf_field.specs.declared.address.Addr.{Addr}
use Rattle.udf_file_model.specs.Address.{same_addr}
use Rattle.udf_file_model.specs.Entry.{Entry}
use Rattle.udf_file_model.specs.Listing.{Volume, list_for}
use Rattle.udf_tree_model.specs.Among.{Member}
use Rattle.udf_tree_model.specs.Node.{Node, Tree, readable, good_length as tree_length}
use Rattle.udf_tree_model.specs.Found.{whole_links}
use Rattle.udf_tree_model.specs.Frame.{Frame, is_address, is_holder, entry_at, node_with, node_by, places, tree_of}
use Rattle.udf_tree_model.proofs.Members.{member_append}
use Rattle.udf_tree_model.proofs.Places.{address_same, placed_among}
use Rattle.udf_tree_model.proofs.Stating.{entry_node, is_node, node_is, length_is}
use Rattle.udf_found.specs.declared.arena.Found.{Found}
use Rattle.udf_found.specs.Order.{is_known}
use Rattle.udf_found.specs.Seen.{AreRead, HasHolder, spots}
use Rattle.udf_found.specs.declared.shape.Shape.{Shape}
use Rattle.udf_found.specs.Shape.{IsShape, IsShaped}
use Rattle.udf_found.specs.Spot.{spot, addresses, knows}
use Rattle.udf_tree_model.specs.Link as model
use Rattle.udf_found.specs.Linked.{AreLinks}
use Rattle.udf_found.specs.Target.{entry_links}
use Rattle.udf_found.specs.Visit.{Adds}
use Rattle.udf_found.proofs.Visiting.{knows_push}

addresses_are : (q : List Found) → map (λ n. n.at) q ≡ addresses (spots q)
addresses_are [] = refl
addresses_are (x ∷ xs) = ap (λ l. x.at ∷ l) (addresses_are xs)

pub known_is : (a : Addr) (q : List Found) → is_known a q ≡ knows a (spots q)
known_is a q = ap (list_any (same_addr a)) (addresses_are q)

-- an address that is no holder and unknown: what reading it tells of the tree
not_holder : (f : Frame) (v : Volume) (a : Addr) (q : List Found) → HasHolder f v q → is_known a q ≡ false → is_holder f v a ≡ false
not_holder f v a q h k = go (is_holder f v a) refl
  where
    go : (b : Bool) → is_holder f v a ≡ b → is_holder f v a ≡ false
    go false e = e
    go true e = absurd (false≢true (sym k ∙ h.known a e))

pub stands : (tells : Type 0) (t : Tree) (ps : List Addr) (a : Addr) (l : ℕ) (q : List Found) → is_known a q ≡ true → Adds tells t ps a l (spots q) (spots q)
stands tells t ps a l q h = record {
  goes = false;
  is = refl;
  fresh = λ e. absurd (false≢true e);
  placed = λ e. absurd (false≢true e);
  true_one = λ told e. absurd (false≢true e);
  all = λ told r. sym (known_is a q) ∙ h;
}

pub unread : (tells : Type 0) (f : Frame) (v : Volume) (ps : List Addr) (a : Addr) (l : ℕ) (q : List Found) → is_known a q ≡ false → (tells → entry_at v a ≡ None)
    → Adds (tells × HasHolder f v q) (tree_of f v) ps a l (spots q) (spots q)
unfolding readable
unread tells f v ps a l q k h = record {
  goes = false;
  is = refl;
  fresh = λ e. absurd (false≢true e);
  placed = λ e. absurd (false≢true e);
  true_one = λ told e. absurd (false≢true e);
  all = λ told r. absurd (false≢true (sym (ap (λ (o : Option Node). is_some o) (entry_node f v a (not_holder f v a q told.1 k) ∙ ap (node_by f v a) (h told.0))) ∙ r));
}

spots_push : (q : List Found) (n : Found) → spots (q ++ n ∷ []) ≡ spots q ++ spot n.at n.level ∷ []
spots_push q n = map-append (λ (x : Found). spot x.at x.level) q (n ∷ [])

pub added : (tells : Type 0) (f : Frame) (v : Volume) (a : Addr) (l : ℕ) (q r : List Found) (n : Found) → n.at ≡ a → n.level ≡ l → is_known a q ≡ false
    → is_address a ≡ true → IsSome (v.place a) → (tells → (e : Entry) × (entry_at v a ≡ Some e)) → r ≡ q ++ n ∷ []
    → Adds (tells × HasHolder f v q) (tree_of f v) (places v) a l (spots q) (spots r)
unfolding readable
added tells f v a l q r n i j k h p e s = record {
  goes = true;
  is = list;
  fresh = λ _. sym (known_is a q) ∙ k;
  placed = λ _. placed_among v a h p;
  true_one = λ told _. let x = e told.0 in ap (λ (o : Option Node). is_some o) (is_node f v a x.0 x.1 (not_holder f v a q told.1 k));
  all = λ told _. ap (knows a) list ∙ knows_push a a l (spots q) ∙ or_right (knows a (spots q)) (same_addr a a) (address_same a a refl);
}
  where
    list : spots r ≡ spots q ++ spot a l ∷ []
    list = ap spots s ∙ spots_push q n ∙ ap (λ (b : Addr). spots q ++ spot b n.level ∷ []) i ∙ ap (λ (m : ℕ). spots q ++ spot a m ∷ []) j

-- the entry's links are those of its node
pub links_there : (f : Frame) (v : Volume) (a : Addr) (e : Entry) → entry_at v a ≡ Some e → is_holder f v a ≡ false → 0 < v.size → entry_links v a e ≡ whole_links (tree_of f v) a
unfolding entry_links whole_links node_with
links_there f v a e h k some =
    ap (λ (m : ℕ). (node_with f v a e (list_for v a e)).links m) (sym (length_is f v a e h k some))
    ∙ ap (λ (n : Node). n.links (tree_length (tree_of f v) a)) (sym (node_is f v a e h k))

pub read_push : (f : Frame) (v : Volume) (q r : List Found) (n : Found) → 0 < v.size → is_known n.at q ≡ false → (e : Entry) × (entry_at v n.at ≡ Some e) × AreLinks (entry_links v n.at e) n.links.items × ((s : Shape) × (n.shape ≡ Some s) × IsShape v n.at e s)
    → r ≡ q ++ n ∷ [] → HasHolder f v q → AreRead f v q → AreRead f v r
read_push f v q r n some k e s h a = subst (AreRead f v) (sym s) (record { each = λ x m. go x (member_append q (n ∷ []) x m); shapes = λ x m. shaped x (member_append q (n ∷ []) x m) })
  where
    go : (x : Found) → Member x q ⊎ Member x (n ∷ []) → AreLinks (whole_links (tree_of f v) x.at) x.links.items
    go x (inl m) = a.each x m
    go x (inr (inl i)) =
        let P : Found → Type 0 = λ y. AreLinks (whole_links (tree_of f v) y.at) y.links.items in
        subst P (sym i) (let Q : List model.Link → Type 0 = λ fs. AreLinks fs n.links.items in subst Q (links_there f v n.at e.0 e.1 (not_holder f v n.at q h k) some) e.2)
    go x (inr (inr m)) = absurd m

    shaped : (x : Found) → Member x q ⊎ Member x (n ∷ []) → IsShaped f v x.at x.shape
    shaped x (inl m) = a.shapes x m
    shaped x (inr (inl i)) =
        let P : Found → Type 0 = λ y. IsShaped f v y.at y.shape in
        subst P (sym i) (subst (IsShaped f v n.at) (sym e.3.1) (not_holder f v n.at q h k, e.0, e.1, e.3.2))
    shaped x (inr (inr m)) = absurd m
