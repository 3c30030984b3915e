-- The node of an entry that no damage touches is one that no damage touches.
use Rattle.std.proofs.Common.{◌≡◌, ◌⊎◌, ℕ, ◌<◌, ◌≤◌, ◌&&◌, Bool, true, false, Option, Some, None, List, [], ◌∷◌, refl, sym, ap, ◌∙◌, subst, inl, inr, arith}
use Rattle.std.specs.Prelude.{◌≢◌, AllPairs, Contains, is_some}
use Rattle.std.proofs.lemmas.Bool.{and_from, and_parts, false≢true, or_cases}
use Rattle.udf_field.specs.declared.address.Addr.{Addr}
use Rattle.udf_model.proofs.Sizes.{large}
use Rattle.udf_file_model.specs.Address.{same_addr}
use Rattle.udf_file_model.specs.Entry.{Entry, is_directory}
use Rattle.udf_file_model.specs.Listing.{Volume, flat_for, good_length, is_extent, is_placed, list_for, rules_for}
use Rattle.udf_file_model.specs.Pieces.{Piece}
use Rattle.udf_file_model.proofs.Apart.{front_apart}
use Rattle.udf_tree_model.specs.Found.{found}
use Rattle.udf_tree_model.specs.Frame.{Frame, entry_at, is_address, is_file_set, is_holder, is_start, node_with, own_item, setting_of, tree_of}
use Rattle.udf_tree_model.specs.Intact.{IsIntact}
use Rattle.udf_tree_model.specs.Link.{Link, target_of}
use Rattle.udf_tree_model.specs.Node.{Item, Node, Setting, Tree, good_length as tree_length, node_at, wants}
use Rattle.udf_tree_model.specs.Stated.{taken}
use Rattle.udf_tree_model.specs.Won.{IsWant, kept_links}
use Rattle.udf_tree_model.proofs.Members.{member_of}
use Rattle.udf_tree_model.proofs.Places.{address_same, same_address}
use Rattle.udf_tree_model.proofs.Stating.{length_is, node_is, taken_is}
use Rattle.udf_file_mends.proofs.Held.{is_read}
use Rattle.udf_mended_rules.specs.AllMends.{HasAllMends}
use Rattle.udf_mended_rules.proofs.Holder as holder
use Rattle.udf_intact.specs.Entries.{IsIntactEntry, IsLinked}
use Rattle.udf_intact.proofs.Owning.{one_class}
use Rattle.udf_intact.proofs.Spacious.{has_space, long_enough}

module _ (f : Frame) (v : Volume) (disk : ℕ → List ℕ) (h : HasAllMends f v disk) (a : Addr) (k : IsIntactEntry f v a) where
  abbrev s : Setting
  s = setting_of f v

  abbrev t : Tree
  t = tree_of f v

  abbrev e : Entry
  e = k.entry

  abbrev gl : ℕ
  gl = good_length v a k.entry

  abbrev xs : List Piece
  xs = list_for v a k.entry

  some : 0 < v.size
  some = let l = large v.size h.repairable.size in omega (arith, l)

  -- it is not the file set, which is no entry
  pub no_holder : is_holder f v a ≡ false
  no_holder = by (is_holder f v a) refl
    where
      clash : (o : Option Entry) → o ≡ None → o ≡ Some e → ⊥
      clash o p q = cc

      by : (b : Bool) → is_holder f v a ≡ b → is_holder f v a ≡ false
      by false q = q
      by true q = absurd (clash (entry_at v a) (holder.no_entry f v disk h a q) k.reads)

  pub node : node_at (tree_of f v) a ≡ node_with f v a k.entry (list_for v a k.entry)
  node = node_is f v a e k.reads no_holder

  pub kind : (node_at (tree_of f v) a).directory ≡ is_directory k.entry
  unfolding node_with
  kind = ap (λ (n : Node). n.directory) node

  pub length_same : tree_length (tree_of f v) a ≡ good_length v a k.entry
  length_same = length_is f v a e k.reads no_holder some

  own_is : (node_at t a).own ≡ own_item a ∷ []
  unfolding node_with
  own_is = ap (λ (n : Node). n.own) node

  own_takes : (i : Item) → Contains (node_at t a).own i → i.takes ≡ true
  own_takes i c = by (member_of (own_item a ∷ []) i (subst (λ (is : List Item). Contains is i) own_is c))
    where
      by : (i ≡ own_item a) ⊎ ⊥ → i.takes ≡ true
      by (inl q) = ap (λ (x : Item). x.takes) q
      by (inr q) = absurd q

  once : AllPairs (λ x y. x ≢ y) (taken (wants t a))
  unfolding list_for flat_for rules_for
  once =
      subst (λ (l : List Addr). AllPairs (λ x y. x ≢ y) l) (sym (taken_is f v a e k.reads no_holder some))
      (front_apart (rules_for v a e) (is_extent v) some (flat_for v a e))

  lowest : (i j : Item) → IsWant s t a i → IsWant s t a j → j.at ≡ i.at → i.class ≤ j.class
  lowest i j x y q = one_class (wants t a) once i j x.among y.among x.takes y.takes q

  -- ---- what leads to it
  linked : (d : Addr) (l : Link) → found s t d ≡ true → Contains (kept_links s t d) l → target_of l.says ≡ a → IsLinked f v (kept_links s t) a d l
  linked d l x m q = record { holder = x; among = m; leads = q }

  one_link : (node_at t a).directory ≡ true → (d b : Addr) (l m : Link) → found s t d ≡ true → found s t b ≡ true
      → Contains (kept_links s t d) l → Contains (kept_links s t b) m → target_of l.says ≡ a → target_of m.says ≡ a → (d ≡ b) × (l.place ≡ m.place)
  one_link q d b l m x y i j p r = by (same_addr a f.root) refl
    where
      by : (c : Bool) → same_addr a f.root ≡ c → (d ≡ b) × (l.place ≡ m.place)
      by true c = absurd ((k.root_unlinked (same_address a f.root c)).1 d l (linked d l x i p))
      by false c =
          let apart : a ≢ f.root = λ z. false≢true (sym c ∙ address_same a f.root z) in
          let o = (k.linked_once (sym kind ∙ q) apart).1 d b l m (linked d l x i p) (linked b m y j r) in
          (o.0, ap (λ (z : Link). z.place) o.1)

  -- a start that is an entry is the root
  start_root : s.start a ≡ true → a ≡ f.root
  unfolding setting_of is_start is_holder
  start_root q = by (or_cases (same_addr a f.root) (is_some f.system && same_addr a f.file_set) q)
    where
      placed : (is_address a ≡ true) × (is_placed v a ≡ true)
      placed = let r = is_read v a e k.reads in (r.fits, ap (λ (o : Option ℕ). is_some o) r.place)

      by : (same_addr a f.root ≡ true) ⊎ ((is_some f.system && same_addr a f.file_set) ≡ true) → a ≡ f.root
      by (inl c) = same_address a f.root c
      by (inr c) =
          let p = and_parts (is_some f.system) (same_addr a f.file_set) c in
          let there : is_file_set f v a ≡ true = and_from (same_addr a f.file_set) (is_address a && is_placed v a) p.1 (and_from (is_address a) (is_placed v a) placed.0 placed.1) in
          absurd (false≢true (sym no_holder ∙ and_from (is_some f.system) (is_file_set f v a) p.0 there))

  no_link : s.start a ≡ true → (d : Addr) (l : Link) → found s t d ≡ true → Contains (kept_links s t d) l → target_of l.says ≡ a → ⊥
  no_link q d l x m p = (k.root_unlinked (start_root q)).1 d l (linked d l x m p)

  pub is_intact : IsIntact (setting_of f v) (tree_of f v) a
  is_intact = record {
    is_found = k.is_found;
    own_takes = own_takes;
    free = k.free;
    lowest = lowest;
    alone = k.alone;
    long_enough = long_enough f v a e k.reads no_holder some k.reaches k.has_parent;
    has_space = has_space f v a e k.reads no_holder some k.reaches k.has_parent;
    one_link = one_link;
    no_link = no_link;
  }
