-- What is judged of links, by what is kept of found entries.
use Rattle.std.proofs.Common.{◌≡◌, ◌⊎◌, ℕ, ◌+◌, ◌<◌, ◌≤◌, List, [], ◌∷◌, ◌++◌, length, map, take, get_or, nat_eq, Bool, true, false, not, ◌&&◌, ◌||◌, cond, Option, Some, None, refl, sym, ap, ◌∙◌, subst, inl, inr, arith}
use Rattle.std.specs.Prelude.{is_some, option_map, slice_get}
use Rattle.std.specs.BTreeMap.{BTreeMap}
use Rattle.std.specs.List.Sorted.{IsStrictlySortedBy}
use Rattle.std.specs.Map.{keys_of}
use Rattle.std.specs.Ordering.{is_eq, nat_cmp}
use Rattle.std.proofs.lemmas.Bool.{false≢true}
use Rattle.std.proofs.lemmas.Bool.Decides.{nat_tests}
use Rattle.std.proofs.lemmas.List.{length-map, map-append, take_more}
use Rattle.std.proofs.lemmas.Option.{get_or_from_slice_get, same_Some, slice_get-map, slice_get_past}
use Rattle.udf_field.specs.declared.address.Addr.{Addr}
use Rattle.udf_file_model.specs.Listing.{Volume}
use Rattle.udf_tree_model.specs.Among.{Member}
use Rattle.udf_tree_model.specs.Chosen.{chosen}
use Rattle.udf_tree_model.specs.Found.{found}
use Rattle.udf_tree_model.specs.Frame.{Frame, setting_of, tree_of}
use Rattle.udf_tree_model.specs.Kept.{kept}
use Rattle.udf_tree_model.specs.Link as model
use Rattle.udf_tree_model.specs.Link.{target_of}
use Rattle.udf_tree_model.specs.Node.{Setting, Tree, is_entry, node_at}
use Rattle.udf_tree_model.specs.Won.{kept_links, sound}
use Rattle.udf_tree_model.proofs.Keeping.{kept_sound, sound_found}
use Rattle.udf_tree_model.proofs.Finding.{volume_within}
use Rattle.udf_tree_model.proofs.Members.{member_map}
use Rattle.udf_kept.specs.declared.entries.Entries.{Entries}
use Rattle.udf_held.specs.declared.held.Held.{Held}
use Rattle.udf_tree.specs.declared.judge.Verdict.{Verdict}
use Rattle.udf_found.specs.declared.link.Link.{Link}
use Rattle.udf_tree.specs.declared.node.Node.{Node}
use Rattle.udf_kept.specs.Fitted.{at_by, at_of}
use Rattle.udf_held.specs.Held.{AreHeld, IsHeld, IsHeldOf}
use Rattle.udf_kept.specs.Indexed.{IsIndex}
use Rattle.udf_tree.specs.Judged.{AreJudged, AreJudgedOf, IsJudged, entries_of, is_lawful_target, is_sound_target, judged, judged_by, judged_links, judged_in, verdict, verdict_by, verdict_in}
use Rattle.udf_found.specs.Linked.{Outline, earliers, outline_of, outline_seen}
use Rattle.udf_tree.specs.Nodes.{AreSurveyed, node_addresses}
use Rattle.udf_contents.specs.Stays.{Tells}
use Rattle.udf_found.specs.Spot.{spot}
use Rattle.udf_kept.specs.Selects.{is_rank_at}
use Rattle.udf_kept.proofs.ByIndex.{member_at}
use Rattle.udf_tree.proofs.Enrolling.{starts}
use Rattle.udf_kept.proofs.Choosing.{held_for}
use Rattle.udf_tree.proofs.Placing.{all_judged, earliers_long, links_in}
use Rattle.udf_contents.proofs.Staying.{entry_is}
use Rattle.udf_tree.proofs.Surveying.{heads}

module _ (f : Frame) (v : Volume) where
  abbrev s : Setting
  s = setting_of f v

  abbrev t : Tree
  t = tree_of f v

  module _ (h : Held) (i : IsHeld s t h) (o : IsHeldOf f v h) where
    pub sound_target : (h.sound && is_some h.shape) ≡ is_sound_target s t h.at
    unfolding is_sound_target
    sound_target = ap (λ (b : Bool). b && is_some h.shape) i.sound_is ∙ ap (λ (b : Bool). sound s t h.at && b) (sym (entry_is f v h.at h.shape o.shape))

    module _ (d : Addr) (place : ℕ) (here : found s t h.at ≡ true) where
      rank : Bool
      rank = is_rank_at d place (chosen s t h.at)

      lawful_is : is_lawful_target s t d place h.at ≡ (not (h.directory && is_some h.shape) || (h.sound && (not h.is_start && rank)))
      unfolding is_lawful_target rank
      lawful_is =
          ap (λ b. not (b && ((node_at t h.at).directory && is_entry s t h.at)) || (sound s t h.at && (not (s.start h.at) && rank))) here
          ∙ ap (λ b. not ((node_at t h.at).directory && b) || (sound s t h.at && (not (s.start h.at) && rank))) (entry_is f v h.at h.shape o.shape)
          ∙ ap (λ b. not (b && is_some h.shape) || (sound s t h.at && (not (s.start h.at) && rank))) (sym i.directory)
          ∙ ap (λ b. not (h.directory && is_some h.shape) || (sound s t h.at && (not b && rank))) (sym i.start)
          ∙ ap (λ b. not (h.directory && is_some h.shape) || (b && (not h.is_start && rank))) (sym i.sound_is)

      pub lawful_file : h.directory ≡ false → true ≡ is_lawful_target s t d place h.at
      lawful_file e = sym (lawful_is ∙ ap (λ b. not (b && is_some h.shape) || (h.sound && (not h.is_start && rank))) e)

      pub lawful_shapeless : is_some h.shape ≡ false → true ≡ is_lawful_target s t d place h.at
      lawful_shapeless e = sym (lawful_is ∙ by h.directory e)
        where
          by : (b : Bool) → is_some h.shape ≡ false → (not (b && is_some h.shape) || (h.sound && (not h.is_start && rank))) ≡ true
          by true q = ap (λ x. not x || (h.sound && (not h.is_start && rank))) q
          by false q = refl

      lawful_tied : h.directory ≡ true → is_some h.shape ≡ true → (h.sound && (not h.is_start && rank)) ≡ is_lawful_target s t d place h.at
      lawful_tied e k =
          sym (lawful_is ∙ ap (λ b. not (b && is_some h.shape) || (h.sound && (not h.is_start && rank))) e ∙ ap (λ b. not b || (h.sound && (not h.is_start && rank))) k)

      no_link : (b : Bool) → false ≡ (b && false)
      no_link true = refl
      no_link false = refl

      pub lawful_start : h.directory ≡ true → is_some h.shape ≡ true → h.is_start ≡ true → false ≡ is_lawful_target s t d place h.at
      lawful_start e k b = no_link h.sound ∙ sym (ap (λ x. h.sound && (not x && rank)) b) ∙ lawful_tied e k

      pub lawful_unsound : h.directory ≡ true → is_some h.shape ≡ true → h.sound ≡ false → false ≡ is_lawful_target s t d place h.at
      lawful_unsound e k b = sym (ap (λ x. x && (not h.is_start && rank)) b) ∙ lawful_tied e k

      pub lawful_chosen : h.directory ≡ true → is_some h.shape ≡ true → h.is_start ≡ false → h.sound ≡ true → is_rank_at d place (chosen s t h.at) ≡ is_lawful_target s t d place h.at
      unfolding rank
      lawful_chosen e k b q = sym (ap (λ x. x && (not h.is_start && rank)) q ∙ ap (λ x. not x && rank) b) ∙ lawful_tied e k

  -- nothing is found at an address without a position
  module _ (hs : List Held) (held : AreHeld s t hs) (position : Addr → Option ℕ) (index : IsIndex hs position) (a : Addr) (none : position a ≡ None) where
    lost : found s t a ≡ false
    lost = by (found s t a) refl
      where
        by : (b : Bool) → found s t a ≡ b → b ≡ false
        by false q = refl
        by true q = let x = held_for s t hs held a q in absurd (index.all a none x.0 x.1 x.2)

    pub sound_lost : false ≡ is_sound_target s t a
    unfolding is_sound_target
    sound_lost = by (sound s t a) refl
      where
        by : (b : Bool) → sound s t a ≡ b → false ≡ (b && is_entry s t a)
        by false q = refl
        by true q = absurd (false≢true (sym lost ∙ sound_found s t a q))

    pub lawful_lost : (d : Addr) (place : ℕ) → true ≡ is_lawful_target s t d place a
    unfolding is_lawful_target
    lawful_lost d place = sym (ap (λ b. not (b && ((node_at t a).directory && is_entry s t a)) || (sound s t a && (not (s.start a) && is_rank_at d place (chosen s t a)))) lost)

-- ---- one link after another
pub same_verdict : (s : Setting) (t : Tree) (d : Addr) (l : Link) (b c : Bool) → b ≡ is_sound_target s t l.target → c ≡ is_lawful_target s t d l.place l.target → record { target = l.target; sound = b; earlier = l.earlier; chosen = c } ≡ verdict_by s t d l
same_verdict s t d l b c e h = ap (λ (x : Bool). made x c) e ∙ ap (λ (x : Bool). made (is_sound_target s t l.target) x) h
  where
    made : Bool → Bool → Verdict
    made x y = record { target = l.target; sound = x; earlier = l.earlier; chosen = y }

-- of links in a row the first with a place is judged
abbrev pub either : Option Verdict → Option Verdict → Option Verdict
either None y = y
either (Some x) y = Some x

pub judged_end : (s : Setting) (t : Tree) (d : Addr) (ls : List Link) (l : Link) (q : ℕ) → judged_by s t d (ls ++ l ∷ []) q ≡ either (judged_by s t d ls q) (cond (nat_eq l.place q) (Some (verdict_by s t d l)) None)
judged_end s t d [] l q = refl
judged_end s t d (x ∷ ls) l q = by (judged_end s t d ls l q) (nat_eq x.place q)
  where
    by : judged_by s t d (ls ++ l ∷ []) q ≡ either (judged_by s t d ls q) (cond (nat_eq l.place q) (Some (verdict_by s t d l)) None) → (b : Bool)
        → cond b (Some (verdict_by s t d x)) (judged_by s t d (ls ++ l ∷ []) q) ≡ either (cond b (Some (verdict_by s t d x)) (judged_by s t d ls q)) (cond (nat_eq l.place q) (Some (verdict_by s t d l)) None)
    by next true = refl
    by next false = next

either_none : (o : Option Verdict) → either o None ≡ o
either_none None = refl
either_none (Some x) = refl

pub order_is : (a b : ℕ) → is_eq (nat_cmp a b) ≡ nat_eq a b
order_is a b = grind (arith, nat_tests)

pub equal_places : (a b : ℕ) → nat_eq a b ≡ true → a ≡ b
equal_places a b e = grind (arith, nat_tests)

nothing_some : (o : Option Verdict) → is_some o ≡ false → o ≡ None
nothing_some None e = refl
nothing_some (Some x) e = absurd (false≢true (sym e))

something : (o x : Option Verdict) → is_some o ≡ true → either o x ≡ o
something None x e = absurd (false≢true e)
something (Some y) x e = refl

pub found_there : (s : Setting) (t : Tree) (hs : List Held) → AreHeld s t hs → (h : Held) → Member h hs → found s t h.at ≡ true
found_there s t hs held h m = (held.listed.each (spot h.at h.level) (member_map (λ (z : Held). spot z.at z.level) hs h m)).0

module _ (s : Setting) (t : Tree) (d : Addr) (ls : List Link) (i : ℕ) (l : Link) (low : i < length ls) (is : l ≡ get_or ls i l) (old : ℕ → Option Verdict) (was : (q : ℕ) → old q ≡ judged_by s t d (take i ls) q) where
  longer : (q : ℕ) → judged_by s t d (take (i + 1) ls) q ≡ either (old q) (cond (nat_eq l.place q) (Some (verdict_by s t d l)) None)
  longer q =
      ap (λ (xs : List Link). judged_by s t d xs q) (take_more ls i l low ∙ ap (λ (y : Link). take i ls ++ y ∷ []) (sym is))
      ∙ judged_end s t d (take i ls) l q
      ∙ ap (λ (o : Option Verdict). either o (cond (nat_eq l.place q) (Some (verdict_by s t d l)) None)) (sym (was q))

  pub verdict_known : is_some (old l.place) ≡ true → (q : ℕ) → old q ≡ judged_by s t d (take (i + 1) ls) q
  verdict_known e q = by (nat_eq l.place q) refl ∙ sym (longer q)
    where
      by : (b : Bool) → nat_eq l.place q ≡ b → old q ≡ either (old q) (cond b (Some (verdict_by s t d l)) None)
      by true k = sym (something (old q) (Some (verdict_by s t d l)) (ap (λ (n : ℕ). is_some (old n)) (sym (equal_places l.place q k)) ∙ e))
      by false k = sym (either_none (old q))

  pub verdict_put : is_some (old l.place) ≡ false → (new : ℕ → Option Verdict) (x : Verdict) → x ≡ verdict_by s t d l → ((q : ℕ) → new q ≡ cond (is_eq (nat_cmp l.place q)) (Some x) (old q)) → (q : ℕ) → new q ≡ judged_by s t d (take (i + 1) ls) q
  verdict_put e new x same now q = now q ∙ ap (λ (b : Bool). cond b (Some x) (old q)) (order_is l.place q) ∙ by (nat_eq l.place q) refl ∙ sym (longer q)
    where
      by : (b : Bool) → nat_eq l.place q ≡ b → cond b (Some x) (old q) ≡ either (old q) (cond b (Some (verdict_by s t d l)) None)
      by true k =
          ap Some same ∙ sym (ap (λ (o : Option Verdict). either o (Some (verdict_by s t d l))) (nothing_some (old q) (ap (λ (n : ℕ). is_some (old n)) (sym (equal_places l.place q k)) ∙ e)))
      by false k = sym (either_none (old q))

-- the links of the definitions are judged alike
pub judged_same : (s : Setting) (t : Tree) (d : Addr) (fs : List model.Link) (os : List (Option ℕ)) (ls : List Link) → map outline_seen ls ≡ map outline_of fs → map (λ (l : Link). l.earlier) ls ≡ os
    → (q : ℕ) → judged_by s t d ls q ≡ judged_in s t d fs os q
judged_same s t d [] os [] e h q = refl
judged_same s t d [] os (l ∷ ls) e h q = cc
judged_same s t d (f ∷ fs) os [] e h q = cc
judged_same s t d (f ∷ fs) [] (l ∷ ls) e h q = cc
judged_same s t d (f ∷ fs) (o ∷ os) (l ∷ ls) e h q =
    let p = heads (outline_seen l) (outline_of f) (map outline_seen ls) (map outline_of fs) e in
    let r = heads l.earlier o (map (λ (l : Link). l.earlier) ls) os h in
    let place : l.place ≡ f.place = ap (λ (x : Outline). x.place) p.0 in
    let target : l.target ≡ target_of f.says = ap (λ (x : Outline). x.target) p.0 in
    ap (λ x. cond (nat_eq l.place q) (Some (verdict_by s t d l)) x) (judged_same s t d fs os ls p.1 r.1 q)
    ∙ ap (λ (n : ℕ). cond (nat_eq n q) (Some (verdict s t d n l.target l.earlier)) (judged_in s t d fs os q)) place
    ∙ ap (λ (a : Addr). cond (nat_eq f.place q) (Some (verdict s t d f.place a l.earlier)) (judged_in s t d fs os q)) target
    ∙ ap (λ (x : Option ℕ). cond (nat_eq f.place q) (Some (verdict s t d f.place (target_of f.says) x)) (judged_in s t d fs os q)) r.0

-- ---- of entries by their indexes
module _ (f : Frame) (v : Volume) (root file_set : Addr) (e : Entries) (links ids : List ℕ) (k : AreSurveyed f v root file_set e links ids) where
  pub surveyed_tells : Tells f v e.held.items e.selected.items
  surveyed_tells = record { held = k.entries.held; selected = k.entries.selected }

  pub judged_there : (i : ℕ) (h : Held) → slice_get e.held.items i ≡ Some h → (es : List (ℕ × Verdict)) → IsStrictlySortedBy nat_cmp (keys_of es) → ((q : ℕ) → verdict_in es q ≡ judged_by (setting_of f v) (tree_of f v) h.at h.links.items q) → IsJudged f v e.held.items i es
  unfolding judged
  judged_there i h there es sorted by_links = record { each = λ a at own. all_judged f v a es sorted (λ q. subst (λ (b : Addr). verdict_in es q ≡ judged f v b q) (place a at) (is a at own q)) }
    where
      place : (a : Addr) → at_of e.held.items i ≡ Some a → h.at ≡ a
      place a at = same_Some h.at a (sym (ap at_by there) ∙ at)

      is : (a : Addr) → at_of e.held.items i ≡ Some a → kept (setting_of f v) (tree_of f v) a ≡ true → (q : ℕ) → verdict_in es q ≡ judged f v h.at q
      is a at own q =
          let held = k.entries.held.held.each h (member_at e.held.items i h there) in
          let stands = held.sound_is ∙ kept_sound (setting_of f v) (tree_of f v) (volume_within f v) (starts f v root file_set e links ids k) h.at (ap (kept (setting_of f v) (tree_of f v)) (place a at) ∙ own) in
          let ls = held.links stands in
          by_links q ∙ judged_same (setting_of f v) (tree_of f v) h.at (kept_links (setting_of f v) (tree_of f v) h.at) (earliers (kept_links (setting_of f v) (tree_of f v) h.at)) h.links.items ls.all ls.earlier q

pub none_judged : (f : Frame) (v : Volume) (hs : List Held) (i : ℕ) (es : List (ℕ × Verdict)) → length hs ≤ i → IsJudged f v hs i es
none_judged f v hs i es over = record { each = λ a at own. absurd (past (ap at_by (slice_get_past hs i over)) at) }
  where
    past : {a : Addr} → at_of hs i ≡ None → at_of hs i ≡ Some a → ⊥
    past n s = cc

judged_push : (f : Frame) (v : Volume) (hs : List Held) (is : List ℕ) (ess : List (List (ℕ × Verdict))) (i : ℕ) (es : List (ℕ × Verdict)) → AreJudgedOf f v hs is ess → IsJudged f v hs i es → AreJudgedOf f v hs (is ++ i ∷ []) (ess ++ es ∷ [])
judged_push f v hs [] [] i es a b = (b, tt)
judged_push f v hs [] (x ∷ ess) i es a b = absurd a
judged_push f v hs (j ∷ is) [] i es a b = absurd a
judged_push f v hs (j ∷ is) (x ∷ ess) i es a b = (a.0, judged_push f v hs is ess i es a.1 b)

pub judged_more : (f : Frame) (v : Volume) (hs : List Held) (indexes : List ℕ) (j i : ℕ) (out new : List (BTreeMap ℕ Verdict)) (m : BTreeMap ℕ Verdict) → j < length indexes → i ≡ get_or indexes j i → new ≡ out ++ m ∷ [] → IsJudged f v hs i m.entries
    → AreJudged f v hs (take j indexes) (entries_of out) → AreJudged f v hs (take (j + 1) indexes) (entries_of new)
judged_more f v hs indexes j i out new m low is push one was = record {
  each =
      subst (λ (xs : List ℕ). AreJudgedOf f v hs xs (entries_of new)) (sym (take_more indexes j i low ∙ ap (λ (z : ℕ). take j indexes ++ z ∷ []) (sym is)))
      (subst (λ (ess : List (List (ℕ × Verdict))). AreJudgedOf f v hs (take j indexes ++ i ∷ []) ess) (sym (ap entries_of push ∙ map-append (λ (x : BTreeMap ℕ Verdict). x.entries) out (m ∷ [])))
      (judged_push f v hs (take j indexes) (entries_of out) i m.entries was.each one));
}

-- of nodes
pub judged_nodes : (f : Frame) (v : Volume) (hs : List Held) (is : List ℕ) (ess : List (List (ℕ × Verdict))) (ns : List Node) → AreJudgedOf f v hs is ess → map (at_of hs) is ≡ map Some (node_addresses ns)
    → ((n : Node) → Member n ns → kept (setting_of f v) (tree_of f v) n.at ≡ true) → ess ≡ map (λ n. judged_links f v n.at) ns
judged_nodes f v hs [] [] [] a e h = refl
judged_nodes f v hs [] (es ∷ ess) ns a e h = absurd a
judged_nodes f v hs [] [] (m ∷ ns) a e h = cc
judged_nodes f v hs (i ∷ is) ess [] a e h = cc
judged_nodes f v hs (i ∷ is) [] (m ∷ ns) a e h = absurd a
judged_nodes f v hs (i ∷ is) (es ∷ ess) (m ∷ ns) a e h =
    let p = heads (at_of hs i) (Some m.at) (map (at_of hs) is) (map Some (node_addresses ns)) e in
    ap (λ (x : List (ℕ × Verdict)). x ∷ ess) (a.0.each m.at p.0 (h m (inl refl)))
    ∙ ap (λ (xs : List (List (ℕ × Verdict))). judged_links f v m.at ∷ xs) (judged_nodes f v hs is ess ns a.1 p.1 (λ x y. h x (inr y)))

-- of each by its number
pub judged_each : (f : Frame) (v : Volume) (ns : List Node) (ess : List (List (ℕ × Verdict))) → ess ≡ map (λ n. judged_links f v n.at) ns
    → (i : ℕ) (n : Node) → slice_get ns i ≡ Some n → (q : ℕ) → verdict_in (get_or ess i []) q ≡ judged f v n.at q
judged_each f v ns ess e i n there q =
    let of : Node → List (ℕ × Verdict) = λ m. judged_links f v m.at in
    ap (λ (xs : List (List (ℕ × Verdict))). verdict_in (get_or xs i []) q) e
    ∙ ap (λ (es : List (ℕ × Verdict)). verdict_in es q) (get_or_from_slice_get (map of ns) i (of n) [] (slice_get-map of ns i ∙ ap (option_map of) there))
    ∙ links_in f v n.at q

pub entries_many : (ms : List (BTreeMap ℕ Verdict)) → length (entries_of ms) ≡ length ms
entries_many ms = length-map ms (λ (m : BTreeMap ℕ Verdict). m.entries)

-- ---- each kept link is judged
judged_has : (s : Setting) (t : Tree) (d : Addr) (fs : List model.Link) (os : List (Option ℕ)) (l : model.Link) → length os ≡ length fs → Member l fs → is_some (judged_in s t d fs os l.place) ≡ true
judged_has s t d [] os l n m = absurd m
judged_has s t d (f ∷ fs) [] l n m = absurd (omega (arith, n))
judged_has s t d (f ∷ fs) (o ∷ os) l n m = by (λ x. judged_has s t d fs os l (omega (arith, n)) x) (nat_eq f.place l.place) refl m
  where
    by : (Member l fs → is_some (judged_in s t d fs os l.place) ≡ true) → (b : Bool) → nat_eq f.place l.place ≡ b → (l ≡ f) ⊎ Member l fs
        → is_some (cond b (Some (verdict s t d f.place (target_of f.says) o)) (judged_in s t d fs os l.place)) ≡ true
    by next true q x = refl
    by next false q (inr x) = next x
    by next false q (inl x) = absurd (false≢true (sym (ap (λ (z : model.Link). nat_eq z.place l.place) x ∙ q) ∙ own l.place))
      where
        own : (n : ℕ) → nat_eq n n ≡ true
        own n = grind (arith, nat_tests)

pub judged_some : (f : Frame) (v : Volume) (a : Addr) (l : model.Link) → Member l (kept_links (setting_of f v) (tree_of f v) a) → is_some (judged f v a l.place) ≡ true
unfolding judged
judged_some f v a l m = judged_has (setting_of f v) (tree_of f v) a (kept_links (setting_of f v) (tree_of f v) a) (earliers (kept_links (setting_of f v) (tree_of f v) a)) l (earliers_long [] (kept_links (setting_of f v) (tree_of f v) a)) m
