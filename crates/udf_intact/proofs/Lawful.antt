-- In a volume whose files break no rule no damage touches a kept entry, and each path leads to one.
use Rattle.std.proofs.Common.{◌≡◌, ◌⊎◌, ℕ, ◌&&◌, not, Bool, true, false, cond, Option, Some, None, List, [], ◌∷◌, refl, sym, ap, ◌∙◌, subst, inl, inr}
use Rattle.std.specs.Prelude.{is_some}
use Rattle.std.specs.List.{list_any}
use Rattle.std.specs.Str.{bytes_eq}
use Rattle.std.proofs.lemmas.Bool.{and_parts, and_from, false≢true, or_left, or_right}
use Rattle.udf_field.specs.declared.address.Addr.{Addr}
use Rattle.udf_file_model.specs.Address.{same_addr}
use Rattle.udf_file_model.specs.Entry.{is_directory}
use Rattle.udf_file_model.specs.Listing.{Volume, is_placed}
use Rattle.udf_file_model.specs.Name.{canonical, canonical_key}
use Rattle.udf_tree_model.specs.Among.{Member}
use Rattle.udf_tree_model.specs.Chosen.{fitted}
use Rattle.udf_tree_model.specs.Counts.{is_directory_by}
use Rattle.udf_tree_model.specs.Found.{found, found_graph, leads_to, whole_links}
use Rattle.udf_tree_model.specs.Frame.{Frame, entry_at, is_address, is_file_set, is_holder, is_start, node_with, setting_of, tree_of}
use Rattle.udf_tree_model.specs.Intact.{look_up}
use Rattle.udf_tree_model.specs.Kept.{kept}
use Rattle.udf_tree_model.specs.Laws.{KeepsBy}
use Rattle.udf_tree_model.specs.Link.{Link, name_of, pointer_link, target_of}
use Rattle.udf_tree_model.specs.Node.{Item, Node, Setting, Tree, is_entry, is_none_of, node_at, readable}
use Rattle.udf_tree_model.specs.Refused.{AttributeFile, ExtendedDescriptors, RootDirectory, Strategy, has_root, passes, refusal}
use Rattle.udf_tree_model.specs.Won.{IsWant, kept_length, kept_links, sound}
use Rattle.udf_tree_model.proofs.Choosing.{keeps_no_start, keeps_one}
use Rattle.udf_tree_model.proofs.Finding.{found_least}
use Rattle.udf_tree_model.proofs.Keeping.{edge_from, kept_found, kept_start, kept_target}
use Rattle.udf_tree_model.proofs.Members.{any_gives, contains_of, member_of}
use Rattle.udf_tree_model.proofs.Offsets.{volume_differ}
use Rattle.udf_tree_model.proofs.Places.{address_same, same_address}
use Rattle.udf_tree_model.proofs.Stating.{node_is}
use Rattle.udf_tree_model.proofs.Winning.{one_winner, wins_means}
use Rattle.udf_intact.specs.Entries.{IsIntactEntry, IsLinked}
use Rattle.udf_intact.specs.Lawful.{IsLawful}
use Rattle.udf_intact.specs.Paths.{IsIntactFrom, IsIntactPath}
use Rattle.udf_intact.specs.Steps.{Name, Step, Stream, System, directory_at, goes_on, leads, linked, step_from}
use Rattle.udf_intact.proofs.FileSet.{set_node, set_starts}
use Rattle.udf_intact.proofs.Fitted.{all_fitted, target_there}
use Rattle.udf_intact.proofs.Kept as there
use Rattle.udf_intact.proofs.Stepping.{directory_of, link_of, look_up_name, no_pointer}

look_up_member : (name : List ℕ) (ls : List Link) (l : Link) → look_up name ls ≡ Some l → Member l ls
unfolding look_up
look_up_member name [] l e = cc
look_up_member name (x ∷ xs) l e = by (bytes_eq (name_of x.says) name) e (λ k. look_up_member name xs l k)
  where
    by : (b : Bool) → cond b (Some x) (look_up name xs) ≡ Some l → (look_up name xs ≡ Some l → Member l xs) → (l ≡ x) ⊎ Member l xs
    by true k on = inl cc
    by false k on = inr (on k)

-- the root has an entry
root_reads : (f : Frame) (v : Volume) → refusal f v ≡ None → passes (λ e. true) (entry_at v f.root) ≡ true
unfolding refusal has_root
root_reads f v e = by _ _ _ (passes (λ e. true) (entry_at v f.root)) (sound (setting_of f v) (tree_of f v) f.root && (node_at (tree_of f v) f.root).directory) e
  where
    by : (x y z p r : Bool) → cond x (Some Strategy) (cond y (Some ExtendedDescriptors) (cond z (Some AttributeFile) (cond (p && r) None (Some RootDirectory)))) ≡ None → p ≡ true
    by true y z p r k = cc
    by false true z p r k = cc
    by false false true p r k = cc
    by false false false false r k = cc
    by false false false true r k = refl

module _ (f : Frame) (v : Volume) (h : IsLawful f v) where
  abbrev s : Setting
  s = setting_of f v

  abbrev t : Tree
  t = tree_of f v

  -- ---- what is found is kept
  link_keeps : (d : Addr) (l : Link) → kept s t d ≡ true → Member l (kept_links s t d) → kept s t (target_of l.says) ≡ true
  link_keeps d l k m =
      kept_target s t (there.within f v h) (there.starts f v h) d (target_of l.says) k (edge_from s t d (target_of l.says) l (all_fitted f v h d k l m) refl)

  whole_kept : (d : Addr) (l : Link) → kept s t d ≡ true → Member l (whole_links t d) → Member l (kept_links s t d)
  whole_kept d l k m = subst (λ (ls : List Link). Member l ls) (sym (there.links_same f v h d k)) m

  found_kept : (a : Addr) → found s t a ≡ true → kept s t a ≡ true
  unfolding found_graph
  found_kept a e = (found_least s t (there.within f v h)).least (kept s t) (record { starts = starts; edges = edges }) a e
    where
      starts : (b : Addr) → (s.start b && readable t b) ≡ true → kept s t b ≡ true
      starts b k = kept_start s t (there.within f v h) (there.starts f v h) b (and_parts (s.start b) (readable t b) k).0

      edges : (d b : Addr) → kept s t d ≡ true → (readable t b && list_any (leads_to b) (whole_links t d)) ≡ true → kept s t b ≡ true
      edges d b k i =
          let r = any_gives (leads_to b) (whole_links t d) (and_parts (readable t b) (list_any (leads_to b) (whole_links t d)) i).1 in
          subst (λ (x : Addr). kept s t x ≡ true) (same_address (target_of r.0.says) b r.2) (link_keeps d r.0 k (whole_kept d r.0 k r.1))

  -- ---- a kept entry
  module _ (a : Addr) (k : kept s t a ≡ true) (n : is_holder f v a ≡ false) where
    e : there.IsKeptEntry f v h a
    e = there.entry_there f v h a k n

    alone : (other : Addr) (i j : Item) → IsWant s t a i → IsWant s t other j → j.at ≡ i.at → other ≡ a
    alone other i j x y q =
        one_winner s t (there.within f v h) other a j i y x q (there.all_won f v h other (found_kept other y.found_owner) j y) (there.all_won f v h a k i x)

    keeps : (d : Addr) (l : Link) → found s t d ≡ true → Member l (kept_links s t d) → target_of l.says ≡ a → KeepsBy s t a d l
    keeps d l x m q = record { holder = found_kept d x; among = contains_of (fitted s t d) l (all_fitted f v h d (found_kept d x) l m); leads = q }

    by_kept : (d : Addr) (l : Link) → IsLinked f v (kept_links s t) a d l → KeepsBy s t a d l
    by_kept d l x = keeps d l x.holder (member_of (kept_links s t d) l x.among) x.leads

    by_whole : (d : Addr) (l : Link) → IsLinked f v (whole_links t) a d l → KeepsBy s t a d l
    by_whole d l x = keeps d l x.holder (whole_kept d l (found_kept d x.holder) (member_of (whole_links t d) l x.among)) x.leads

    once : is_directory e.entry ≡ true → (d c : Addr) (l m : Link) → KeepsBy s t a d l → KeepsBy s t a c m → (d ≡ c) × (l ≡ m)
    unfolding node_with
    once q d c l m x y =
        keeps_one s t (volume_differ f v) a d c l m x y (ap (λ (z : Node). z.directory) (node_is f v a e.entry e.reads n) ∙ q)

    root_starts : a ≡ f.root → s.start a ≡ true
    unfolding setting_of is_start
    root_starts q = or_left (same_addr a f.root) _ (address_same a f.root q)

    none : a ≡ f.root → (d : Addr) (l : Link) → KeepsBy s t a d l → ⊥
    none q d l x = false≢true (sym (keeps_no_start s t (there.starts f v h) a d l x) ∙ root_starts q)

    pub intact_kept : IsIntactEntry f v a
    intact_kept = record {
      entry = e.entry;
      reads = e.reads;
      is_found = kept_found s t (there.within f v h) (there.starts f v h) a k;
      good = e.good;
      reaches = e.reaches;
      free = λ i x. (wins_means s t (there.within f v h) a i (there.all_won f v h a k i x)).0;
      alone = alone;
      has_parent = there.has_parent f v h a k e;
      linked_once = λ q apart. (λ d c l m x y. once q d c l m (by_whole d l x) (by_whole c m y), λ d c l m x y. once q d c l m (by_kept d l x) (by_kept c m y));
      root_unlinked = λ q. (λ d l x. none q d l (by_whole d l x), λ d l x. none q d l (by_kept d l x));
    }

  -- ---- a step
  holder_none : (b : Addr) → is_holder f v b ≡ true → is_entry s t b ≡ false
  unfolding is_entry setting_of is_start is_holder
  holder_none b n =
      let p = and_parts (is_some f.system) (is_file_set f v b) n in
      let q = and_parts (same_addr b f.file_set) (is_address b && is_placed v b) p.1 in
      ap (λ x. not (x && is_none_of (node_at t b).own)) (or_right (same_addr b f.root) (is_some f.system && same_addr b f.file_set) (and_from (is_some f.system) (same_addr b f.file_set) p.0 q.0))
      ∙ ap (λ (m : Node). not (is_none_of m.own)) (there.holder_is f v b n).is

  entry_no_holder : (b : Addr) → is_entry s t b ≡ true → is_holder f v b ≡ false
  entry_no_holder b i = by (is_holder f v b) refl
    where
      by : (c : Bool) → is_holder f v b ≡ c → is_holder f v b ≡ false
      by true n = absurd (false≢true (sym (holder_none b n) ∙ i))
      by false n = n

  directory_no_holder : (b : Addr) → is_directory_by (entry_at v b) ≡ true → is_holder f v b ≡ false
  directory_no_holder b d = by (is_holder f v b) refl
    where
      by : (c : Bool) → is_holder f v b ≡ c → is_holder f v b ≡ false
      by true n = absurd (false≢true (sym (ap is_directory_by (h.set b n)) ∙ d))
      by false n = n

  abbrev IsKept : Addr → Type 0
  IsKept b = (kept s t b ≡ true) × (is_holder f v b ≡ false)

  -- along the first link of a name
  link_there : (a b : Addr) (name : List ℕ) → kept s t a ≡ true → linked f v a name ≡ Some b
      → (l : Link) × (name_of l.says ≡ name) × (target_of l.says ≡ b) × Member l (kept_links s t a)
  link_there a b name k q =
      let r = link_of (look_up name (whole_links t a)) b q in
      (r.0, look_up_name name (whole_links t a) r.0 r.1, r.2, whole_kept a r.0 k (look_up_member name (whole_links t a) r.0 r.1))

  name_kept : (a b : Addr) (name : List ℕ) → kept s t a ≡ true → step_from f v a (Name name) ≡ Some b → IsKept b
  name_kept a b name k q =
      let r = link_there a b (canonical_key (canonical name)) k q in
      let i = and_parts (sound s t (target_of r.0.says)) (is_entry s t (target_of r.0.says)) (target_there f v h a k r.0 r.3 (no_pointer r.0.says name r.1)) in
      subst (λ (x : Addr). IsKept x) r.2 (link_keeps a r.0 k r.3, entry_no_holder (target_of r.0.says) i.1)

  stream_kept : (a b : Addr) → kept s t a ≡ true → step_from f v a Stream ≡ Some b → IsKept b
  stream_kept a b k q =
      let d = directory_of v (linked f v a []) b q in
      let r = link_there a b [] k d.0 in
      (subst (λ (x : Addr). kept s t x ≡ true) r.2 (link_keeps a r.0 k r.3), directory_no_holder b d.1)

  system_kept : (a b : Addr) → step_from f v a System ≡ Some b → IsKept b
  unfolding kept_links
  system_kept a b q = by (same_addr a f.root) q
    where
      here : directory_at v f.system ≡ Some b → IsKept b
      here i =
          let d = directory_of v f.system b i in
          let k = kept_start s t (there.within f v h) (there.starts f v h) f.file_set (set_starts f v h.repairable.file_set b d.0) in
          let m : Member (pointer_link b) (kept_links s t f.file_set) =
          subst (λ (n : Node). Member (pointer_link b) (n.links (kept_length s t f.file_set))) (sym (set_node f v h.repairable.file_set b d.0)) (inl refl) in
          (link_keeps f.file_set (pointer_link b) k m, directory_no_holder b d.1)

      by : (c : Bool) → cond c (directory_at v f.system) None ≡ Some b → IsKept b
      by true i = here i
      by false i = cc

  step_kept : (step : Step) (a b : Addr) → kept s t a ≡ true → step_from f v a step ≡ Some b → IsKept b
  step_kept (Name name) a b k q = name_kept a b name k q
  step_kept Stream a b k q = stream_kept a b k q
  step_kept System a b k q = system_kept a b q

  -- ---- and a path
  intact_from : (steps : List Step) (a b : Addr) → IsKept a → leads f v steps a ≡ Some b → IsIntactFrom f v steps a
  unfolding leads
  intact_from [] a b k q = intact_kept a k.0 k.1
  intact_from (step ∷ steps) a b k q = (intact_kept a k.0 k.1, by (step_from f v a step) refl q (λ c i j. intact_from steps c b i j))
    where
      by : (o : Option Addr) → step_from f v a step ≡ o → goes_on o (leads f v steps) ≡ Some b
          → ((c : Addr) → IsKept c → leads f v steps c ≡ Some b → IsIntactFrom f v steps c)
          → (c : Addr) × (step_from f v a step ≡ Some c) × IsIntactFrom f v steps c
      by None p i on = cc
      by (Some c) p i on = (c, p, on c (step_kept step a c k.0 p) i)

  root_kept : IsKept f.root
  unfolding setting_of is_start
  root_kept = (
    kept_start s t (there.within f v h) (there.starts f v h) f.root (or_left (same_addr f.root f.root) _ (address_same f.root f.root refl)),
    by (is_holder f v f.root) refl,
  )
    where
      by : (c : Bool) → is_holder f v f.root ≡ c → is_holder f v f.root ≡ false
      by true n = absurd (false≢true (sym (ap (passes (λ x. true)) (h.set f.root n)) ∙ root_reads f v h.repairable.accepted))
      by false n = n

  pub intact_path : (steps : List Step) (b : Addr) → leads f v steps f.root ≡ Some b → IsIntactPath f v steps
  intact_path steps b q = intact_from steps f.root b root_kept q
