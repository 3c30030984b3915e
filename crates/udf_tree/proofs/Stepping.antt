-- The names of the links that keep entries.
use Rattle.std.proofs.Common.{◌≡◌, ℕ, zero, suc, ◌+◌, ◌<◌, ◌≤◌, List, [], ◌∷◌, ◌++◌, length, map, take, get_or, nat_eq, Bool, true, false, cond, Option, Some, None, refl, sym, ap, ◌∙◌, subst, inl, inr, arith}
use Rattle.std.specs.Prelude.{Vec, is_some, option_map, slice_get}
use Rattle.std.specs.declared.alloc.Global.{Global}
use Rattle.std.specs.BTreeMap.{BTreeMap, get}
use Rattle.std.specs.Ordering.{is_eq, nat_cmp}
use Rattle.std.proofs.lemmas.Bool.{false≢true}
use Rattle.std.proofs.lemmas.List.{length-map, length-take, map-append, take_more}
use Rattle.std.proofs.lemmas.Option.{get_or_from_slice_get, same_Some, slice_get_within}
use Rattle.udf_field.specs.declared.address.Addr.{Addr}
use Rattle.udf_file_model.specs.Listing.{Volume}
use Rattle.udf_tree_model.specs.Among.{Member}
use Rattle.udf_tree_model.specs.Chosen.{Rank}
use Rattle.udf_tree_model.specs.Frame.{Frame, setting_of, tree_of}
use Rattle.udf_tree_model.specs.Kept.{depth, kept}
use Rattle.udf_tree_model.specs.Link as model
use Rattle.udf_tree_model.specs.Node.{Setting, Tree}
use Rattle.udf_tree_model.specs.Parent.{keeping, keeping_rank}
use Rattle.udf_tree_model.specs.Won.{kept_links}
use Rattle.udf_tree_model.proofs.Finding.{volume_within}
use Rattle.udf_tree_model.proofs.Keeping.{kept_sound}
use Rattle.udf_tree_model.proofs.Parents.{keeping_by}
use Rattle.udf_kept.specs.declared.entries.Entries.{Entries}
use Rattle.udf_kept.specs.declared.fitted.Choice.{Choice}
use Rattle.udf_held.specs.declared.held.Held.{Held}
use Rattle.udf_kept.specs.declared.keeping.Keeping.{Keeping}
use Rattle.udf_found.specs.declared.link.Link.{Link}
use Rattle.udf_tree.specs.declared.node.Node.{Node}
use Rattle.udf_kept.specs.Fitted.{IsChoice, at_of}
use Rattle.udf_kept.specs.Keeping.{IsKeeping}
use Rattle.udf_found.specs.Linked.{Outline, outline_of, outline_seen, text_of}
use Rattle.udf_tree.specs.Nodes.{AreSurveyed, node_addresses}
use Rattle.udf_tree.specs.Path.{AreNamed, AreNamedOf, HasIndexes, HaveIndexes, HaveIndexesOf, IsNamed, texts_of, index_by, name_by, name_in, step_name, text_by, text_with}
use Rattle.udf_kept.proofs.ByIndex.{member_at}
use Rattle.udf_tree.proofs.Enrolling.{starts}
use Rattle.udf_kept.proofs.Indexing.{held_at}
use Rattle.udf_tree.proofs.Judging.{equal_places, order_is}
use Rattle.udf_contents.proofs.Mending.{keeping_there}
use Rattle.udf_tree.proofs.Surveying.{heads}

-- ---- one link after another
abbrev pub either : Option ℕ → Option ℕ → Option ℕ
either None y = y
either (Some x) y = Some x

either_none : (o : Option ℕ) → either o None ≡ o
either_none None = refl
either_none (Some x) = refl

nothing_some : (o : Option ℕ) → is_some o ≡ false → o ≡ None
nothing_some None e = refl
nothing_some (Some x) e = absurd (false≢true (sym e))

something : (o x : Option ℕ) → is_some o ≡ true → either o x ≡ o
something None x e = absurd (false≢true e)
something (Some y) x e = refl

index_end : (ls : List Link) (l : Link) (q : ℕ) → index_by (ls ++ l ∷ []) q ≡ either (index_by ls q) (cond (nat_eq l.place q) (Some (length ls)) None)
index_end [] l q = by (nat_eq l.place q)
  where
    by : (b : Bool) → cond b (Some 0) (option_map (λ (n : ℕ). suc n) None) ≡ cond b (Some 0) None
    by true = refl
    by false = refl
index_end (x ∷ ls) l q = by (index_by (ls ++ l ∷ []) q) (index_by ls q) (nat_eq l.place q) (index_end ls l q) (nat_eq x.place q)
  where
    by : (new old : Option ℕ) (c : Bool) → new ≡ either old (cond c (Some (length ls)) None) → (b : Bool)
        → cond b (Some 0) (option_map (λ n. suc n) new) ≡ either (cond b (Some 0) (option_map (λ n. suc n) old)) (cond c (Some (suc (length ls))) None)
    by new old c e true = refl
    by new None true e false = ap (option_map (λ n. suc n)) e
    by new None false e false = ap (option_map (λ n. suc n)) e
    by new (Some y) c e false = ap (option_map (λ n. suc n)) e

module _ (ls : List Link) (i : ℕ) (l : Link) (low : i < length ls) (is : l ≡ get_or ls i l) (old : ℕ → Option ℕ) (was : (q : ℕ) → old q ≡ index_by (take i ls) q) where
  longer : (q : ℕ) → index_by (take (i + 1) ls) q ≡ either (old q) (cond (nat_eq l.place q) (Some i) None)
  longer q =
      ap (λ (xs : List Link). index_by xs q) (take_more ls i l low ∙ ap (λ (y : Link). take i ls ++ y ∷ []) (sym is))
      ∙ index_end (take i ls) l q
      ∙ ap (λ (o : Option ℕ). either o (cond (nat_eq l.place q) (Some (length (take i ls))) None)) (sym (was q))
      ∙ ap (λ (n : ℕ). either (old q) (cond (nat_eq l.place q) (Some n) None)) long
    where
      long : length (take i ls) ≡ i
      long = let e = length-take i ls in omega (arith, low, e)

  pub index_known : is_some (old l.place) ≡ true → (q : ℕ) → old q ≡ index_by (take (i + 1) ls) q
  index_known e q = by (nat_eq l.place q) refl ∙ sym (longer q)
    where
      by : (b : Bool) → nat_eq l.place q ≡ b → old q ≡ either (old q) (cond b (Some i) None)
      by true k = sym (something (old q) (Some i) (ap (λ (n : ℕ). is_some (old n)) (sym (equal_places l.place q k)) ∙ e))
      by false k = sym (either_none (old q))

  pub index_put : is_some (old l.place) ≡ false → (new : ℕ → Option ℕ) → ((q : ℕ) → new q ≡ cond (is_eq (nat_cmp l.place q)) (Some i) (old q)) → (q : ℕ) → new q ≡ index_by (take (i + 1) ls) q
  index_put e new now q = now q ∙ ap (λ (b : Bool). cond b (Some i) (old q)) (order_is l.place q) ∙ by (nat_eq l.place q) refl ∙ sym (longer q)
    where
      by : (b : Bool) → nat_eq l.place q ≡ b → cond b (Some i) (old q) ≡ either (old q) (cond b (Some i) None)
      by true k = sym (ap (λ (o : Option ℕ). either o (Some i)) (nothing_some (old q) (ap (λ (n : ℕ). is_some (old n)) (sym (equal_places l.place q k)) ∙ e)))
      by false k = sym (either_none (old q))

-- ---- the indexes of the links of each entry
indexes_push : (hs : List Held) (ms : List (BTreeMap ℕ ℕ)) (h : Held) (m : BTreeMap ℕ ℕ) → HaveIndexesOf hs ms → HasIndexes h m → HaveIndexesOf (hs ++ h ∷ []) (ms ++ m ∷ [])
indexes_push [] [] h m a b = (b, tt)
indexes_push [] (x ∷ ms) h m a b = absurd a
indexes_push (y ∷ hs) [] h m a b = absurd a
indexes_push (y ∷ hs) (x ∷ ms) h m a b = (a.0, indexes_push hs ms h m a.1 b)

pub indexes_more : (hs : List Held) (j : ℕ) (h : Held) (out new : List (BTreeMap ℕ ℕ)) (m : BTreeMap ℕ ℕ) → j < length hs → h ≡ get_or hs j h → new ≡ out ++ m ∷ [] → ((q : ℕ) → get nat_cmp m q ≡ index_by h.links.items q)
    → HaveIndexes (take j hs) out → HaveIndexes (take (j + 1) hs) new
indexes_more hs j h out new m low is push one was = record {
  each =
      subst (λ (xs : List Held). HaveIndexesOf xs new) (sym (take_more hs j h low ∙ ap (λ (z : Held). take j hs ++ z ∷ []) (sym is)))
      (subst (λ (ms : List (BTreeMap ℕ ℕ)). HaveIndexesOf (take j hs ++ h ∷ []) ms) (sym push) (indexes_push (take j hs) out h m was.each (record { each = one })));
}

pub indexes_long : (hs : List Held) (ms : List (BTreeMap ℕ ℕ)) → HaveIndexesOf hs ms → length hs ≡ length ms
indexes_long [] [] a = refl
indexes_long [] (m ∷ ms) a = absurd a
indexes_long (h ∷ hs) [] a = absurd a
indexes_long (h ∷ hs) (m ∷ ms) a = ap (λ (n : ℕ). suc n) (indexes_long hs ms a.1)

pub indexes_there : (hs : List Held) (ms : List (BTreeMap ℕ ℕ)) (i : ℕ) (h : Held) (m : BTreeMap ℕ ℕ) → HaveIndexesOf hs ms → slice_get hs i ≡ Some h → slice_get ms i ≡ Some m → (q : ℕ) → get nat_cmp m q ≡ index_by h.links.items q
indexes_there [] ms i h m a e k q = cc
indexes_there (x ∷ hs) [] i h m a e k q = cc
indexes_there (x ∷ hs) (y ∷ ms) zero h m a e k q = ap (λ (z : BTreeMap ℕ ℕ). get nat_cmp z q) (sym (same_Some y m k)) ∙ a.0.each q ∙ ap (λ (z : Held). index_by z.links.items q) (same_Some x h e)
indexes_there (x ∷ hs) (y ∷ ms) (suc i) h m a e k q = indexes_there hs ms i h m a.1 e k q

-- ---- the name at an index
abbrev pub named_at : List Link → Option ℕ → List ℕ
named_at ls None = []
named_at ls (Some i) = name_in (slice_get ls i)

pub name_is : (ls : List Link) (q : ℕ) → name_by ls q ≡ named_at ls (index_by ls q)
name_is [] q = refl
name_is (l ∷ ls) q = by (name_is ls q) (nat_eq l.place q)
  where
    next : (o : Option ℕ) → named_at ls o ≡ named_at (l ∷ ls) (option_map (λ n. suc n) o)
    next None = refl
    next (Some n) = refl

    by : name_by ls q ≡ named_at ls (index_by ls q) → (b : Bool) → cond b l.name.items (name_by ls q) ≡ named_at (l ∷ ls) (cond b (Some 0) (option_map (λ n. suc n) (index_by ls q)))
    by rest true = refl
    by rest false = rest ∙ next (index_by ls q)

module _ (hs : List Held) (ms : List (BTreeMap ℕ ℕ)) (have : HaveIndexes hs ms) (i : ℕ) (h : Held) (there : slice_get hs i ≡ Some h) where
  pub name_past : length ms ≤ i → ⊥
  name_past over = let l = indexes_long hs ms have.each in let w = slice_get_within hs i h there in absurd (omega (arith, l, w, over))

  module _ (m : BTreeMap ℕ ℕ) (q : ℕ) (k : slice_get ms i ≡ Some m) where
    pub name_lost : get nat_cmp m q ≡ None → [] ≡ name_by h.links.items q
    name_lost e = sym (name_is h.links.items q ∙ ap (named_at h.links.items) (sym (indexes_there hs ms i h m have.each there k q) ∙ e))

    pub name_known : (n : ℕ) → get nat_cmp m q ≡ Some n → name_in (slice_get h.links.items n) ≡ name_by h.links.items q
    name_known n e = sym (name_is h.links.items q ∙ ap (named_at h.links.items) (sym (indexes_there hs ms i h m have.each there k q) ∙ e))

-- ---- the names of the definitions
pub text_is : (fs : List model.Link) (ls : List Link) (q : ℕ) → map outline_seen ls ≡ map outline_of fs → map (λ (l : Link). l.name.items) ls ≡ map (λ (f : model.Link). text_of f.says) fs → name_by ls q ≡ text_with fs q
text_is [] [] q e h = refl
text_is [] (l ∷ ls) q e h = cc
text_is (f ∷ fs) [] q e h = cc
text_is (f ∷ fs) (l ∷ ls) q e h =
    let p = heads (outline_seen l) (outline_of f) (map outline_seen ls) (map outline_of fs) e in
    let r = heads l.name.items (text_of f.says) (map (λ (x : Link). x.name.items) ls) (map (λ (x : model.Link). text_of x.says) fs) h in
    ap (λ (x : List ℕ). cond (nat_eq l.place q) l.name.items x) (text_is fs ls q p.1 r.1)
    ∙ ap (λ (n : ℕ). cond (nat_eq n q) l.name.items (text_with fs q)) (ap (λ (x : Outline). x.place) p.0)
    ∙ ap (λ (x : List ℕ). cond (nat_eq f.place q) x (text_with fs q)) r.0

rank_holder : (s : Setting) (t : Tree) (d : Addr) (l : model.Link) → (keeping_rank s t d l).holder ≡ d
unfolding keeping_rank
rank_holder s t d l = refl

module _ (f : Frame) (v : Volume) (root file_set : Addr) (e : Entries) (links ids : List ℕ) (k : AreSurveyed f v root file_set e links ids) where
  holder_kept : (a : Addr) (x : Rank) → keeping (setting_of f v) (tree_of f v) a ≡ Some x → kept (setting_of f v) (tree_of f v) x.holder ≡ true
  holder_kept a x h =
      let y = keeping_by (setting_of f v) (tree_of f v) a x h in
      ap (λ (z : Rank). kept (setting_of f v) (tree_of f v) z.holder) y.3 ∙ ap (kept (setting_of f v) (tree_of f v)) (rank_holder (setting_of f v) (tree_of f v) y.0 y.1) ∙ y.2.holder

  -- the name of a link of a kept holder
  of_holder : (i : ℕ) (h : Held) → slice_get e.held.items i ≡ Some h → kept (setting_of f v) (tree_of f v) h.at ≡ true → (q : ℕ) → name_by h.links.items q ≡ text_with (kept_links (setting_of f v) (tree_of f v) h.at) q
  of_holder i h there own q =
      let held = k.entries.held.held.each h (member_at e.held.items i h there) in
      let stands = held.sound_is ∙ kept_sound (setting_of f v) (tree_of f v) (volume_within f v) (starts f v root file_set e links ids k) h.at own in
      let ls = held.links stands in
      text_is (kept_links (setting_of f v) (tree_of f v) h.at) h.links.items q ls.all ls.names

  kept_how : (i : ℕ) (a : Addr) (o : Option Keeping) → at_of e.held.items i ≡ Some a → kept (setting_of f v) (tree_of f v) a ≡ true → get_or e.kept.items i None ≡ o
      → (y : Keeping) × (o ≡ Some y) × IsChoice e.held.items (λ d. depth (setting_of f v) (tree_of f v) d.at) (keeping (setting_of f v) (tree_of f v) a) y.by
  kept_how i a o at own is =
      let r = held_at e.held.items i a at in
      let y = keeping_there (setting_of f v) (tree_of f v) e.held.items e.held.items e.kept.items i r.0 k.entries.kept.each r.1 in
      by y.0 (sym is ∙ get_or_from_slice_get e.kept.items i y.0 None y.1) r.0 r.2 y.2
    where
      by : (x : Option Keeping) → o ≡ x → (h : Held) → h.at ≡ a → IsKeeping (setting_of f v) (tree_of f v) e.held.items h x
          → (y : Keeping) × (o ≡ Some y) × IsChoice e.held.items (λ d. depth (setting_of f v) (tree_of f v) d.at) (keeping (setting_of f v) (tree_of f v) a) y.by
      by None q h t n = absurd (false≢true (sym n ∙ ap (kept (setting_of f v) (tree_of f v)) t ∙ own))
      by (Some y) q h t n = (y, q, subst (λ (b : Addr). IsChoice e.held.items (λ d. depth (setting_of f v) (tree_of f v) d.at) (keeping (setting_of f v) (tree_of f v) b) y.by) t n.by)

  pub named_lost : (i : ℕ) → get_or e.kept.items i None ≡ None → IsNamed f v e.held.items i []
  named_lost i lost = record { each = λ a at own. none a (kept_how i a None at own lost) }
    where
      none : (a : Addr) → (y : Keeping) × (None ≡ Some y) × IsChoice e.held.items (λ d. depth (setting_of f v) (tree_of f v) d.at) (keeping (setting_of f v) (tree_of f v) a) y.by → [] ≡ step_name f v a
      none a (y, q, c) = cc

  pub named_start : (i : ℕ) (y : Keeping) → get_or e.kept.items i None ≡ Some y → y.by ≡ None → IsNamed f v e.held.items i []
  unfolding step_name
  named_start i y is none = record { each = λ a at own. start a (kept_how i a (Some y) at own is) }
    where
      start : (a : Addr) → (z : Keeping) × (Some y ≡ Some z) × IsChoice e.held.items (λ d. depth (setting_of f v) (tree_of f v) d.at) (keeping (setting_of f v) (tree_of f v) a) z.by → [] ≡ step_name f v a
      start a (z, q, c) =
          ap (text_by (setting_of f v) (tree_of f v)) (sym (subst (IsChoice e.held.items (λ d. depth (setting_of f v) (tree_of f v) d.at) (keeping (setting_of f v) (tree_of f v) a)) (ap (λ (w : Keeping). w.by) (sym (same_Some y z q)) ∙ none) c))

  pub named_by_link : (i : ℕ) (y : Keeping) (x : Choice) (name : List ℕ) → get_or e.kept.items i None ≡ Some y → y.by ≡ Some x → ((h : Held) → slice_get e.held.items x.holder ≡ Some h → name ≡ name_by h.links.items x.place) → IsNamed f v e.held.items i name
  unfolding step_name
  named_by_link i y x name is some told = record { each = λ a at own. link a (kept_how i a (Some y) at own is) }
    where
      link : (a : Addr) → (z : Keeping) × (Some y ≡ Some z) × IsChoice e.held.items (λ d. depth (setting_of f v) (tree_of f v) d.at) (keeping (setting_of f v) (tree_of f v) a) z.by → name ≡ step_name f v a
      link a (z, q, c) =
          let w = subst (IsChoice e.held.items (λ d. depth (setting_of f v) (tree_of f v) d.at) (keeping (setting_of f v) (tree_of f v) a)) (ap (λ (w : Keeping). w.by) (sym (same_Some y z q)) ∙ some) c in
          told w.0 w.1
          ∙ of_holder x.holder w.0 w.1 (holder_kept a (record { level = depth (setting_of f v) (tree_of f v) w.0.at; holder = w.0.at; place = x.place }) w.2) x.place
          ∙ ap (text_by (setting_of f v) (tree_of f v)) (sym w.2)

-- ---- of entries by their indexes
named_push : (f : Frame) (v : Volume) (hs : List Held) (is : List ℕ) (names : List (List ℕ)) (i : ℕ) (name : List ℕ) → AreNamedOf f v hs is names → IsNamed f v hs i name → AreNamedOf f v hs (is ++ i ∷ []) (names ++ name ∷ [])
named_push f v hs [] [] i name a b = (b, tt)
named_push f v hs [] (x ∷ names) i name a b = absurd a
named_push f v hs (j ∷ is) [] i name a b = absurd a
named_push f v hs (j ∷ is) (x ∷ names) i name a b = (a.0, named_push f v hs is names i name a.1 b)

pub named_more : (f : Frame) (v : Volume) (hs : List Held) (indexes : List ℕ) (j i : ℕ) (out new : List (Vec ℕ Global)) (name : Vec ℕ Global) → j < length indexes → i ≡ get_or indexes j i → new ≡ out ++ name ∷ [] → IsNamed f v hs i name.items
    → AreNamed f v hs (take j indexes) (texts_of out) → AreNamed f v hs (take (j + 1) indexes) (texts_of new)
named_more f v hs indexes j i out new name low is push one was = record {
  each =
      subst (λ (xs : List ℕ). AreNamedOf f v hs xs (texts_of new)) (sym (take_more indexes j i low ∙ ap (λ (z : ℕ). take j indexes ++ z ∷ []) (sym is)))
      (subst (λ (names : List (List ℕ)). AreNamedOf f v hs (take j indexes ++ i ∷ []) names) (sym (ap texts_of push ∙ map-append (λ (x : Vec ℕ Global). x.items) out (name ∷ [])))
      (named_push f v hs (take j indexes) (texts_of out) i name.items was.each one));
}

-- of nodes
pub named_nodes : (f : Frame) (v : Volume) (hs : List Held) (is : List ℕ) (names : List (List ℕ)) (ns : List Node) → AreNamedOf f v hs is names → map (at_of hs) is ≡ map Some (node_addresses ns)
    → ((n : Node) → Member n ns → kept (setting_of f v) (tree_of f v) n.at ≡ true) → names ≡ map (λ n. step_name f v n.at) ns
named_nodes f v hs [] [] [] a e h = refl
named_nodes f v hs [] (name ∷ names) ns a e h = absurd a
named_nodes f v hs [] [] (m ∷ ns) a e h = cc
named_nodes f v hs (i ∷ is) names [] a e h = cc
named_nodes f v hs (i ∷ is) [] (m ∷ ns) a e h = absurd a
named_nodes f v hs (i ∷ is) (name ∷ names) (m ∷ ns) a e h =
    let p = heads (at_of hs i) (Some m.at) (map (at_of hs) is) (map Some (node_addresses ns)) e in
    ap (λ (x : List ℕ). x ∷ names) (a.0.each m.at p.0 (h m (inl refl)))
    ∙ ap (λ (xs : List (List ℕ)). step_name f v m.at ∷ xs) (named_nodes f v hs is names ns a.1 p.1 (λ x y. h x (inr y)))

pub texts_many : (xs : List (Vec ℕ Global)) → length (texts_of xs) ≡ length xs
texts_many xs = length-map xs (λ (x : Vec ℕ Global). x.items)
