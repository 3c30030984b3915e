-- What found entries keep.
use Rattle.std.proofs.Common.{◌∷◌, None, inl, inr, ◌≡◌, ℕ, ◌≤◌, ◌<◌, List, [], ◌++◌, length, take, Bool, true, false, cond, ◌&&◌, ◌||◌, Option, Some, refl, sym, ap, ◌∙◌, subst, arith}
use Rattle.std.specs.Prelude.{◌==◌, ◌-◌, is_some, min, nat_lt, nat_le}
use Rattle.std.proofs.lemmas.Bool.{false≢true}
use Rattle.std.proofs.lemmas.Bool.Decides.{nat_tests}
use Rattle.std.proofs.lemmas.List.{append_assoc, append-nil, length-take, take_all}
use Rattle.udf_field.specs.declared.address.Addr.{Addr}
use Rattle.udf_field.specs.declared.address.Long.{Long}
use Rattle.udf_file_model.specs.Entry.{Entry, is_directory}
use Rattle.udf_file_model.specs.Pieces.{runs_of}
use Rattle.udf_file_model.specs.Listing.{Volume, good_length, list_for}
use Rattle.udf_file_model.specs.Content.{content, runs_bytes}
use Rattle.udf_file_model.specs.Address.{same_addr}
use Rattle.udf_file_model.specs.Scan.{fids, fids_of}
use Rattle.udf_tree_model.specs.Content.{content_by, kept_content}
use Rattle.udf_tree_model.specs.Frame.{Frame, capacity, content_to, entry_at, holder_by, holder_node, is_file_set, is_holder, is_start, links_of, node_by, node_with, parent_length, setting_of, stream_of, tree_of}
use Rattle.udf_tree_model.specs.Link as model
use Rattle.udf_tree_model.specs.Node.{Node, Setting, Tree, good_length as tree_length, node_at, node_or, readable}
use Rattle.udf_tree_model.specs.Found.{whole_links}
use Rattle.udf_tree_model.specs.Won.{kept_length, kept_links}
use Rattle.udf_tree_model.proofs.Stating.{is_node, length_is, node_is}
use Rattle.udf_tree_model.proofs.Winning.{kept_within}
use Rattle.udf_tree_model.proofs.Members.{Member, member_right}
use Rattle.udf_found.proofs.Beginning.{holder_again, holder_start}
use Rattle.udf_found.specs.declared.arena.Found.{Found}
use Rattle.udf_held.specs.declared.held.Held.{Held}
use Rattle.udf_held.specs.declared.standing.Standing.{Standing}
use Rattle.udf_found.specs.Parents.{only_parent}
use Rattle.udf_tree_model.specs.Link.{fid_links, pointer_links}
use Rattle.udf_found.specs.declared.link.Link.{Link}
use Rattle.udf_found.specs.declared.parents.ParentFids.{ParentFids}
use Rattle.udf_found.specs.declared.shape.Shape.{Shape}
use Rattle.udf_found.specs.Seen.{spots}
use Rattle.udf_found.specs.Spot.{IsFoundList, Spot, spot}
use Rattle.udf_held.specs.Standing.{AreStanding, IsStanding}
use Rattle.udf_held.specs.Held.{AreHeldOf, HoldsAt, held_spots, IsEntry, IsHeld, IsHeldOf, TellsContent}
use Rattle.udf_found.specs.Linked.{AreLinks}
use Rattle.udf_found.specs.Shape.{IsShape, IsShaped}
use Rattle.udf_found.specs.Target.{entry_links, linking}
use Rattle.udf_found.proofs.Adding.{links_there}

pub links_by : (size : ℕ) (e : Entry) (stream : Option Long) (bytes : List ℕ) (ls : List Link) → stream ≡ e.stream → AreLinks (pointer_links (stream_of stream) ++ fid_links size bytes) ls
    → AreLinks (links_of size e bytes) ls
unfolding links_of
links_by size e stream bytes ls s h = let P : Option Long → Type 0 = λ o. AreLinks (pointer_links (stream_of o) ++ fid_links size bytes) ls in subst P s h

-- bytes up to a limit are all, where no more are there
take_more_none : (m n : ℕ) (xs : List ℕ) → m ≤ n → min n (length xs) ≤ m → take m xs ≡ take n xs
take_more_none m n xs l k = by (nat_le n m) refl
  where
    by : (b : Bool) → nat_le n m ≡ b → take m xs ≡ take n xs
    by true h = let e = le n m h in ap (λ (i : ℕ). take i xs) (omega (arith, e, l))
      where
        le : (i j : ℕ) → nat_le i j ≡ true → i ≤ j
        le i j t = grind (arith, nat_tests)
    by false h =
        let e = lt n m h in
        take_all m xs (omega (arith, e, k)) ∙ sym (take_all n xs (omega (arith, e, k, l)))
      where
        lt : (i j : ℕ) → nat_le i j ≡ false → j < i
        lt i j t = grind (arith, nat_tests)

-- where no byte of a directory is lost, its kept content is the whole
pub whole_kept : (v : Volume) (a : Addr) (e : Entry) (s : Shape) (kept : ℕ) → IsShape v a e s → (s.directory && nat_lt kept s.content) ≡ false → kept ≤ good_length v a e
    → content_to v e (list_for v a e) kept ≡ linking v a e
unfolding content_to content
whole_kept v a e s kept h cut l = by (is_directory e) refl
  where
    whole : List ℕ
    whole = cond (e.kind == 3) e.body (runs_bytes v (runs_of (list_for v a e)))

    by : (b : Bool) → is_directory e ≡ b → cond b (take (min kept e.information) whole) [] ≡ cond b (take (min (good_length v a e) e.information) whole) []
    by false d = refl
    by true d = take_more_none (min kept e.information) (min (good_length v a e) e.information) whole (omega (arith, l))
        (let n = not_cut (h.directory ∙ d) cut in let m = long d in omega (arith, n, m))
      where
        not_cut : s.directory ≡ true → (s.directory && nat_lt kept s.content) ≡ false → s.content ≤ kept
        not_cut d k = ge kept s.content (sym (ap (λ (b : Bool). b && nat_lt kept s.content) d) ∙ k)
          where
            ge : (i j : ℕ) → nat_lt i j ≡ false → j ≤ i
            ge i j t = grind (arith, nat_tests)

        long : is_directory e ≡ true → s.content ≡ min (min (good_length v a e) e.information) (length whole)
        long d = h.content ∙ ap (λ (b : Bool). length (cond b (take (min (good_length v a e) e.information) whole) [])) d ∙ length-take (min (good_length v a e) e.information) whole

pub told_whole : (v : Volume) (a : Addr) (e : Entry) (s : Shape) (kept : ℕ) (ls : List Link) → IsShape v a e s → AreLinks (links_of v.size e (linking v a e)) ls
    → content_to v e (list_for v a e) kept ≡ linking v a e → TellsContent v.size e (content_to v e (list_for v a e) kept) ls s.parents
told_whole v a e s kept ls h links same =
    let P : List ℕ → Type 0 = λ c. TellsContent v.size e c ls s.parents in
    subst P (sym same) (record { links = links; bytes = h.parent_bytes; only = h.parent })

-- an entry that is not the holder of the pointer to the system stream directory is a start where it is the root
root_start : (f : Frame) (v : Volume) (a : Addr) (e : Entry) → entry_at v a ≡ Some e → is_holder f v a ≡ false → same_addr a f.root ≡ is_start f a
unfolding is_start readable
root_start f v a e there other = by (is_some f.system && same_addr a f.file_set) refl
  where
    here : is_some (tree_of f v a) ≡ true
    here = ap (λ (o : Option Node). is_some o) (is_node f v a e there other)

    by : (b : Bool) → (is_some f.system && same_addr a f.file_set) ≡ b → same_addr a f.root ≡ (same_addr a f.root || b)
    by false k = sym (or_none (same_addr a f.root))
      where
        or_none : (c : Bool) → (c || false) ≡ c
        or_none true = refl
        or_none false = refl
    by true k = absurd (false≢true (sym other ∙ holder_again f v a k here))

module _ (f : Frame) (v : Volume) (a : Addr) (e : Entry) (shape : Shape) (ls : List Link) (x : Standing) (h : IsEntry f v a e shape ls x) where
  abbrev s : Setting
  s = setting_of f v

  abbrev t : Tree
  t = tree_of f v

  abbrev kept_bytes : List ℕ
  kept_bytes = content_to v e (list_for v a e) x.kept

  node : node_at t a ≡ node_with f v a e (list_for v a e)
  node = node_is f v a e h.entry h.other

  pub kept_low : 0 < v.size → x.kept ≤ good_length v a e
  kept_low some = let k = h.standing.kept in let w = kept_within s t a in let l = length_is f v a e h.entry h.other some in omega (arith, k, w, l)

  content_is : kept_content f v a ≡ kept_bytes
  unfolding kept_content
  content_is = ap (content_by f v a) h.entry ∙ ap (content_to v e (list_for v a e)) (sym h.standing.kept)

  links_are : kept_links s t a ≡ links_of v.size e kept_bytes
  unfolding kept_links node_with
  links_are = ap (λ (n : Node). n.links (kept_length s t a)) node ∙ ap (λ (m : ℕ). links_of v.size e (content_to v e (list_for v a e) m)) (sym h.standing.kept)

  space_is : (node_at t a).space (kept_length s t a) ≡ min x.kept (capacity v.size e (list_for v a e)) - parent_length (fids_of (fids v.size kept_bytes))
  unfolding node_with
  space_is =
      ap (λ (n : Node). n.space (kept_length s t a)) node
      ∙ ap (λ (m : ℕ). min m (capacity v.size e (list_for v a e)) - parent_length (fids_of (fids v.size (content_to v e (list_for v a e) m)))) (sym h.standing.kept)

  kind_is : (node_at t a).directory ≡ is_directory e
  unfolding node_with
  kind_is = ap (λ (n : Node). n.directory) node

  pub entry_held : (level room : ℕ) (first : Bool) (ms : List Link) (p : ParentFids) (y : Held) → first ≡ same_addr a f.root → room ≡ capacity v.size e (list_for v a e)
      → TellsContent v.size e kept_bytes ms p
      → y.at ≡ a → y.level ≡ level → y.is_start ≡ first → y.directory ≡ shape.directory → y.sound ≡ x.sound → y.kept ≡ x.kept → y.whole ≡ x.whole → y.space ≡ min room x.kept - p.bytes
      → y.links.items ≡ ms → y.parents ≡ p → y.shape ≡ Some shape → HoldsAt f v a level y
  unfolding setting_of
  entry_held level room first ms p y st r told at lv ys yd ysound ykept ywhole yspace ylinks yparents yshape = record {
    at_is = at;
    level_is = lv;
    held = subst (λ (b : Addr). IsHeld s t (record y { at = b })) (sym at) held_at;
    held_of = subst (λ (b : Addr). IsHeldOf f v (record y { at = b })) (sym at) held_of_at;
  }
    where
      room_is : y.space ≡ (node_at t a).space (kept_length s t a)
      room_is = let b = told.bytes in let q = space_is in omega (arith, yspace, r, b, q)

      held_at : IsHeld s t (record y { at = a })
      held_at = record {
        start = ys ∙ st ∙ root_start f v a e h.entry h.other;
        directory = yd ∙ h.shape_is.directory ∙ sym kind_is;
        sound_is = ysound ∙ h.standing.sound_is;
        kept_is = ykept ∙ h.standing.kept;
        whole = ywhole ∙ h.standing.whole;
        space = λ _. room_is;
        links = λ _. subst (λ (l : List Link). AreLinks (kept_links s t a) l) (sym ylinks) (let P : List model.Link → Type 0 = λ fs. AreLinks fs ms in subst P (sym links_are) told.links);
      }

      held_of_at : IsHeldOf f v (record y { at = a })
      held_of_at = record {
        shape = subst (IsShaped f v a) (sym yshape) (h.other, e, h.entry, h.shape_is);
        parent_bytes = λ _ _. ap (λ (q : ParentFids). q.bytes) yparents ∙ told.bytes ∙ ap (λ (c : List ℕ). parent_length (fids_of (fids v.size c))) (sym content_is);
        parent = λ _ _. ap (λ (q : ParentFids). q.only) yparents ∙ told.only ∙ ap (only_parent v.size) (sym content_is);
      }

pub shaped_entry : (f : Frame) (v : Volume) (a : Addr) (e : Entry) (shape : Shape) (ls : List Link) (x : Standing) → 0 < v.size → entry_at v a ≡ Some e → is_holder f v a ≡ false → IsShape v a e shape
    → AreLinks (whole_links (tree_of f v) a) ls → IsStanding (setting_of f v) (tree_of f v) a x → IsEntry f v a e shape ls x
unfolding entry_links
shaped_entry f v a e shape ls x some there other h links standing = record {
  entry = there;
  other = other;
  shape_is = h;
  links = let P : List model.Link → Type 0 = λ fs. AreLinks fs ls in subst P (sym (links_there f v a e there other some)) links;
  standing = standing;
}

-- the holder of the pointer to the system stream directory
pub holder_held : (f : Frame) (v : Volume) (a : Addr) (ls : List Link) (x : Standing) (y : Held) → is_holder f v a ≡ true → AreLinks (whole_links (tree_of f v) a) ls
    → IsStanding (setting_of f v) (tree_of f v) a x → y.is_start ≡ true → y.directory ≡ true → y.sound ≡ x.sound → y.kept ≡ x.kept → y.whole ≡ x.whole → y.space ≡ 0 → y.links.items ≡ ls → y.shape ≡ None
    → y.at ≡ a → HoldsAt f v a y.level y
unfolding is_holder tree_of whole_links kept_links node_at setting_of
holder_held f v a ls x y h links standing ys yd ysound ykept ywhole yspace ylinks yshape at = by_system f.system (is_file_set f v a) h refl
  where
    s : Setting
    s = setting_of f v

    t : Tree
    t = tree_of f v

    start : s.start a ≡ true
    start = (holder_start f v a h).0

    by_node : (o : Addr) → node_at t a ≡ holder_node o → HoldsAt f v a y.level y
    by_node o e = record {
      at_is = at;
      level_is = refl;
      held = subst (λ (b : Addr). IsHeld s t (record y { at = b })) (sym at) (record {
        start = ys ∙ sym start;
        directory = yd ∙ sym (ap (λ (n : Node). n.directory) e);
        sound_is = ysound ∙ standing.sound_is;
        kept_is = ykept ∙ standing.kept;
        whole = ywhole ∙ standing.whole;
        space = λ _. yspace ∙ sym (ap (λ (n : Node). n.space (kept_length s t a)) e);
        links = λ _. subst (λ (l : List Link). AreLinks (kept_links s t a) l) (sym ylinks)
            (let P : List model.Link → Type 0 = λ fs. AreLinks fs ls in subst P (ap (λ (n : Node). n.links (tree_length t a)) e ∙ sym (ap (λ (n : Node). n.links (kept_length s t a)) e)) links);
      });
      held_of = subst (λ (b : Addr). IsHeldOf f v (record y { at = b })) (sym at) (record {
        shape = subst (IsShaped f v a) (sym yshape) h;
        parent_bytes = λ _ some. absurd (false≢true (sym (ap (λ (o : Option Shape). is_some o) yshape) ∙ some));
        parent = λ _ some. absurd (false≢true (sym (ap (λ (o : Option Shape). is_some o) yshape) ∙ some));
      });
    }

    by_system : (o : Option Addr) (b : Bool) → (is_some o && b) ≡ true → node_or (holder_by o b (node_by f v a (entry_at v a))) ≡ node_at t a → HoldsAt f v a y.level y
    by_system None b k e = absurd (false≢true k)
    by_system (Some z) false k e = absurd (false≢true k)
    by_system (Some z) true k e = by_node z (sym e)

-- ---- all of them, in order
abbrev pub HoldAll : Frame → Volume → List Found → List Held → Type 0
HoldAll f v [] [] = Unit {0}
HoldAll f v [] (h ∷ hs) = ⊥
HoldAll f v (n ∷ ns) [] = ⊥
HoldAll f v (n ∷ ns) (h ∷ hs) = HoldsAt f v n.at n.level h × HoldAll f v ns hs

hold_push : (f : Frame) (v : Volume) (ns : List Found) (hs : List Held) (n : Found) (h : Held) → HoldAll f v ns hs → HoldsAt f v n.at n.level h → HoldAll f v (ns ++ n ∷ []) (hs ++ h ∷ [])
hold_push f v [] [] n h a k = (k, tt)
hold_push f v [] (y ∷ ys) n h a k = absurd a
hold_push f v (m ∷ ms) [] n h a k = absurd a
hold_push f v (m ∷ ms) (y ∷ ys) n h a k = (a.0, hold_push f v ms ys n h a.1 k)

spots_same : (f : Frame) (v : Volume) (ns : List Found) (hs : List Held) → HoldAll f v ns hs → held_spots hs ≡ spots ns
spots_same f v [] [] a = refl
spots_same f v [] (y ∷ ys) a = absurd a
spots_same f v (m ∷ ms) [] a = absurd a
spots_same f v (m ∷ ms) (y ∷ ys) a =
    ap (λ (b : Addr). spot b y.level ∷ held_spots ys) a.0.at_is ∙ ap (λ (l : ℕ). spot m.at l ∷ held_spots ys) a.0.level_is ∙ ap (λ (l : List Spot). spot m.at m.level ∷ l) (spots_same f v ms ys a.1)

each_held : (f : Frame) (v : Volume) (ns : List Found) (hs : List Held) → HoldAll f v ns hs → (h : Held) → Member h hs → IsHeld (setting_of f v) (tree_of f v) h × IsHeldOf f v h
each_held f v ns [] a h m = absurd m
each_held f v [] (y ∷ ys) a h m = absurd a
each_held f v (n ∷ ns) (y ∷ ys) a h (inl e) = subst (λ (z : Held). IsHeld (setting_of f v) (tree_of f v) z × IsHeldOf f v z) (sym e) (a.0.held, a.0.held_of)
each_held f v (n ∷ ns) (y ∷ ys) a h (inr m) = each_held f v ns ys a.1 h m

all_held : (f : Frame) (v : Volume) (ns : List Found) (hs : List Held) → HoldAll f v ns hs → IsFoundList (setting_of f v) (tree_of f v) (spots ns) → AreHeldOf f v hs
all_held f v ns hs a l = record {
  held = record {
    listed = subst (IsFoundList (setting_of f v) (tree_of f v)) (sym (spots_same f v ns hs a)) l;
    each = λ h m. (each_held f v ns hs a h m).0;
  };
  each_of = λ h m. (each_held f v ns hs a h m).1;
}

-- some are held, and the others have these standings
pub record InHolding (f : Frame) (v : Volume) (all rest : List Found) (xs : List Standing) (hs : List Held) : Type 0 where
  pub done : List Found
  pub split : all ≡ done ++ rest
  pub held : HoldAll f v done hs
  pub left : AreStanding (setting_of f v) (tree_of f v) rest xs

pub holding_begins : (f : Frame) (v : Volume) (all : List Found) (xs : List Standing) (hs : List Held) → hs ≡ [] → AreStanding (setting_of f v) (tree_of f v) all xs → InHolding f v all all xs hs
holding_begins f v all xs hs e k = record { done = []; split = refl; held = subst (HoldAll f v []) (sym e) tt; left = k }

-- each that is left is one of all
pub next_held : (f : Frame) (v : Volume) (all rest ns : List Found) (n : Found) (xs : List Standing) (hs : List Held) → rest ≡ n ∷ ns → InHolding f v all rest xs hs → Member n all
next_held f v all rest ns n xs hs e h = subst (λ (l : List Found). Member n l) (sym (h.split ∙ ap (λ (l : List Found). h.done ++ l) e)) (member_right h.done (n ∷ ns) n (inl refl))

pub next_stands : (f : Frame) (v : Volume) (all rest ns : List Found) (n : Found) (xs ys : List Standing) (x : Standing) (hs : List Held) → rest ≡ n ∷ ns → xs ≡ x ∷ ys → InHolding f v all rest xs hs
    → IsStanding (setting_of f v) (tree_of f v) n.at x
next_stands f v all rest ns n xs ys x hs e k h =
    (subst (λ (l : List Standing). AreStanding (setting_of f v) (tree_of f v) (n ∷ ns) l) k (subst (λ (l : List Found). AreStanding (setting_of f v) (tree_of f v) l xs) e h.left)).0

pub none_stands : (f : Frame) (v : Volume) (all rest ns : List Found) (n : Found) (xs : List Standing) (hs : List Held) → rest ≡ n ∷ ns → xs ≡ [] → InHolding f v all rest xs hs → ⊥
none_stands f v all rest ns n xs hs e k h =
    subst (λ (l : List Standing). AreStanding (setting_of f v) (tree_of f v) (n ∷ ns) l) k (subst (λ (l : List Found). AreStanding (setting_of f v) (tree_of f v) l xs) e h.left)

pub holding_more : (f : Frame) (v : Volume) (all rest ns : List Found) (n : Found) (xs ys : List Standing) (x : Standing) (hs new : List Held) (h : Held) → rest ≡ n ∷ ns → xs ≡ x ∷ ys → new ≡ hs ++ h ∷ []
    → HoldsAt f v n.at n.level h → InHolding f v all rest xs hs → InHolding f v all ns ys new
holding_more f v all rest ns n xs ys x hs new h e k p i a = record {
  done = a.done ++ n ∷ [];
  split = a.split ∙ ap (λ (l : List Found). a.done ++ l) e ∙ sym (append_assoc a.done (n ∷ []) ns);
  held = subst (HoldAll f v (a.done ++ n ∷ [])) (sym p) (hold_push f v a.done hs n h a.held i);
  left = (subst (λ (l : List Standing). AreStanding (setting_of f v) (tree_of f v) (n ∷ ns) l) k (subst (λ (l : List Found). AreStanding (setting_of f v) (tree_of f v) l xs) e a.left)).1;
}

pub holding_ends : (f : Frame) (v : Volume) (all rest : List Found) (xs : List Standing) (hs : List Held) → rest ≡ [] → IsFoundList (setting_of f v) (tree_of f v) (spots all)
    → InHolding f v all rest xs hs → AreHeldOf f v hs
holding_ends f v all rest xs hs e l h =
    all_held f v all hs (subst (λ (ns : List Found). HoldAll f v ns hs) (sym (h.split ∙ ap (λ (ns : List Found). h.done ++ ns) e ∙ append-nil h.done)) h.held) l
