-- The file set that holds the pointer to the system stream directory: it is no entry, before its mend and after it; and where the
-- pointer is lost it is no holder after.
use Rattle.std.proofs.Common.{◌≡◌, ℕ, ◌≤◌, ◌&&◌, ◌||◌, not, Bool, true, false, cond, Option, Some, None, List, [], ◌∷◌, length, replicate, arith, refl, sym, ap, ◌∙◌, inl}
use Rattle.std.specs.Prelude.{◌==◌, is_some, filter}
use Rattle.std.proofs.lemmas.Bool.{and_from, and_parts, false≢true, or_right}
use Rattle.std.proofs.lemmas.Bool.Decides.{nat_tests}
use Rattle.udf_field.specs.declared.address.Addr.{Addr}
use Rattle.udf_model.specs.Bytes.{number_at, written_at}
use Rattle.udf_model.specs.Tag.{id_at, identifier, is_id, is_whole, location}
use Rattle.udf_model.proofs.Retagged.{retagged_identifier}
use Rattle.udf_model.proofs.Sizes.{large}
use Rattle.udf_model.proofs.Written.{number_apart, written_length}
use Rattle.udf_file_model.specs.Address.{same_addr}
use Rattle.udf_file_model.specs.Content.{block_at, block_by}
use Rattle.udf_file_model.specs.Entry.{Entry, entry_by as entry_read, entry_header, entry_of, fitting, header_by}
use Rattle.udf_file_model.specs.Listing.{Volume, is_placed, with_disk}
use Rattle.udf_tree_model.specs.Chosen.{first_of_names, fit, fitted, named, selected, selects}
use Rattle.udf_tree_model.specs.Frame.{Frame, entry_at, entry_by, holder_by, holder_node, is_address, is_file_set, is_holder, is_start, node_by, node_with, places, items_of, extent_class, block_class, is_barred, setting_of, tree_of}
use Rattle.udf_tree_model.specs.Link.{Link, is_pointer, pointer_link}
use Rattle.udf_tree_model.specs.Node.{Node, Setting, Tree, node_at, node_or}
use Rattle.udf_tree_model.specs.Refused.{AttributeFile, ExtendedDescriptors, RootDirectory, Strategy, has_root, passes, refusal}
use Rattle.udf_tree_model.specs.Won.{kept_length, kept_links, sound}
use Rattle.udf_tree_model.proofs.Places.{address_same, same_address}
use Rattle.udf_tree_model.proofs.Stating.{entry_node}
use Rattle.udf_file_mends.specs.FileSet.{cleared_set, frame_after, loses_system}
use Rattle.udf_file_mends.specs.Wanted.{has_pointer}
use Rattle.udf_mended_rules.specs.AllMends.{HasAllMends}
use Rattle.udf_mended_rules.proofs.Dropped.{IsDropped, IsSameBut, and_false, and_true, cases, dropped_same, unlinked}

-- ---- a tag of a file set is none of an entry (ECMA-167 4/14.1, and 4/14.9 and 4/14.17)
tag_of_none : (block : List ℕ) (o : Option ℕ) → is_id 256 o ≡ true → entry_read block (fitting block (header_by o)) ≡ None
tag_of_none block None k = refl
tag_of_none block (Some n) k =
    ap (λ b. entry_read block (fitting block (cond b (Some 176) (cond (n == 266) (Some 216) None)))) (file n k)
    ∙ ap (λ b. entry_read block (fitting block (cond b (Some 216) None))) (extended n k)
  where
    file : (n : ℕ) → (n == 256) ≡ true → (n == 261) ≡ false
    file n k = grind (arith, nat_tests)

    extended : (n : ℕ) → (n == 256) ≡ true → (n == 266) ≡ false
    extended n k = grind (arith, nat_tests)

no_entry_in : (at : ℕ) (block : List ℕ) → identifier block ≡ 256 → entry_of at block ≡ None
unfolding entry_of entry_header id_at
no_entry_in at block e = by (is_whole block && (location block == at))
  where
    by : (b : Bool) → entry_read block (fitting block (header_by (cond b (Some (identifier block)) None))) ≡ None
    by true = tag_of_none block (Some (identifier block)) (ap (λ n. n == 256) e)
    by false = refl

no_entry_at : (v : Volume) (a : Addr) → identifier (block_at v a) ≡ 256 → entry_at v a ≡ None
unfolding entry_at
no_entry_at v a e = by (is_address a) (v.place a) e
  where
    by : (b : Bool) (o : Option ℕ) → identifier (block_by v.disk o) ≡ 256 → cond b (entry_by v a o) None ≡ None
    by false o k = refl
    by true None k = refl
    by true (Some n) k = no_entry_in a.block (v.disk n) k

stood : (at : ℕ) (block : List ℕ) → id_at at block ≡ Some 256 → identifier block ≡ 256
unfolding id_at
stood at block e = by (is_whole block && (location block == at)) e
  where
    same : (m n : ℕ) → Some m ≡ Some n → m ≡ n
    same m n k = cc

    by : (b : Bool) → cond b (Some (identifier block)) None ≡ Some 256 → identifier block ≡ 256
    by true k = same (identifier block) 256 k
    by false k = cc

cleared_identifier : (at : ℕ) (block : List ℕ) → 512 ≤ length block → identifier (cleared_set at block) ≡ identifier block
unfolding cleared_set
cleared_identifier at block long =
    retagged_identifier at (number_at 2 block 10) (written_at 464 (replicate 16 0) block) (omega (arith, written_length 464 (replicate 16 0) block (omega (arith, long)), long))
    ∙ number_apart 464 16 2 0 (replicate 16 0) block refl (omega (arith, long)) (inl (omega arith))

-- ---- links of the holder
one_named : (p : Link → Bool) (l : Link) → has_pointer (filter p (l ∷ [])) ≡ false → is_pointer l.says ≡ true → filter p (l ∷ []) ≡ []
one_named p l h k = by (p l) h
  where
    by : (b : Bool) → has_pointer (cond b (l ∷ []) []) ≡ false → cond b (l ∷ []) [] ≡ []
    by true e = absurd (false≢true (sym e ∙ ap (λ c. c || false) k))
    by false e = refl

all_named : (p : Link → Bool) (l : Link) → has_pointer (filter p (l ∷ [])) ≡ true → filter p (l ∷ []) ≡ l ∷ []
all_named p l h = by (p l) h
  where
    by : (b : Bool) → has_pointer (cond b (l ∷ []) []) ≡ true → cond b (l ∷ []) [] ≡ l ∷ []
    by true e = refl
    by false e = absurd (false≢true e)

-- a file set whose pointer is lost
abbrev pub is_gone : Frame → Volume → Addr → Bool
is_gone f v a = loses_system f v && is_holder f v a

-- the tree of the mended volume, but with a holder that is gone as a start without links
abbrev pub mended_tree : Frame → Volume → (ℕ → List ℕ) → Tree
mended_tree f v disk a = cond (is_gone f v a) (Some unlinked) (tree_of (frame_after f v) (with_disk v disk) a)

-- the root has an entry
root_entry : (f : Frame) (v : Volume) → refusal f v ≡ None → passes (λ e. true) (entry_at v f.root) ≡ true
unfolding refusal has_root
root_entry f v e = by _ _ _ (passes (λ e. true) (entry_at v f.root)) (sound (setting_of f v) (tree_of f v) f.root && (node_at (tree_of f v) f.root).directory) e
  where
    by : (x y z p r : Bool) → cond x (Some Strategy) (cond y (Some ExtendedDescriptors) (cond z (Some AttributeFile) (cond (p && r) None (Some RootDirectory)))) ≡ None → p ≡ true
    by true y z p r k = cc
    by false true z p r k = cc
    by false false true p r k = cc
    by false false false false r k = cc
    by false false false true r k = refl

module _ (f : Frame) (v : Volume) (disk : ℕ → List ℕ) (h : HasAllMends f v disk) where
  abbrev w : Volume
  w = with_disk v disk

  abbrev g : Frame
  g = frame_after f v

  abbrev s : Setting
  s = setting_of f v

  abbrev t : Tree
  t = tree_of f v

  -- ---- where it stands
  holder_parts : (a : Addr) → is_holder f v a ≡ true → (is_some f.system ≡ true) × (is_file_set f v a ≡ true)
  unfolding is_holder
  holder_parts a k = and_parts (is_some f.system) (is_file_set f v a) k

  pub holder_there : (a : Addr) → is_holder f v a ≡ true → a ≡ f.file_set
  holder_there a k = same_address a f.file_set (and_parts (same_addr a f.file_set) (is_address a && is_placed v a) (holder_parts a k).1).0

  pub holder_placed : (a : Addr) → is_holder f v a ≡ true → (is_address a ≡ true) × (is_placed v a ≡ true)
  holder_placed a k = and_parts (is_address a) (is_placed v a) (and_parts (same_addr a f.file_set) (is_address a && is_placed v a) (holder_parts a k).1).1

  block_long : (a : Addr) → is_holder f v a ≡ true → 512 ≤ length (block_at v a)
  block_long a k = by (v.place a) refl (holder_placed a k).1
    where
      by : (o : Option ℕ) → v.place a ≡ o → is_some o ≡ true → 512 ≤ length (block_by v.disk o)
      by None e n = absurd (false≢true n)
      by (Some sector) e n = let l = h.repairable.whole a sector e in let m = large v.size h.repairable.size in omega (arith, l, m)

  -- ---- it is no entry
  identifier_was : (a : Addr) → is_holder f v a ≡ true → identifier (block_at v a) ≡ 256
  identifier_was a k = stood a.block (block_at v a) (h.stands a k)

  identifier_is : (a : Addr) → is_holder f v a ≡ true → identifier (block_at (with_disk v disk) a) ≡ 256
  identifier_is a k =
      ap identifier (h.set a k ∙ sym (ap (λ x. cond (loses_system f v) (cleared_set x.block (block_at v x)) (block_at v x)) (holder_there a k)))
      ∙ by (loses_system f v)
    where
      by : (b : Bool) → identifier (cond b (cleared_set a.block (block_at v a)) (block_at v a)) ≡ 256
      by true = cleared_identifier a.block (block_at v a) (block_long a k) ∙ identifier_was a k
      by false = identifier_was a k

  pub no_entry : (a : Addr) → is_holder f v a ≡ true → entry_at v a ≡ None
  no_entry a k = no_entry_at v a (identifier_was a k)

  pub no_new_entry : (a : Addr) → is_holder f v a ≡ true → entry_at (with_disk v disk) a ≡ None
  no_new_entry a k = no_entry_at w a (identifier_is a k)

  pub no_root : (a : Addr) → is_holder f v a ≡ true → same_addr a f.root ≡ false
  no_root a k = by (same_addr a f.root) refl
    where
      none : same_addr a f.root ≡ true → entry_at v f.root ≡ None
      none e = ap (entry_at v) (sym (same_address a f.root e)) ∙ no_entry a k

      by : (b : Bool) → same_addr a f.root ≡ b → same_addr a f.root ≡ false
      by false e = e
      by true e = absurd (false≢true (sym (ap (passes (λ x. true)) (none e)) ∙ root_entry f v h.repairable.accepted))

  -- ---- its node
  pub record HolderIs (a : Addr) : Type 0 where
    pub system : Addr
    pub is : tree_of f v a ≡ Some (holder_node system)
    -- so it is where the frame stays
    pub stays : tree_of f (with_disk v disk) a ≡ Some (holder_node system)

  pub holder_is : (a : Addr) → is_holder f v a ≡ true → HolderIs a
  unfolding tree_of
  holder_is a k = by f.system refl (holder_parts a k).0
    where
      by : (o : Option Addr) → f.system ≡ o → is_some o ≡ true → HolderIs a
      by None e n = absurd (false≢true n)
      by (Some x) e n = record {
        system = x;
        is =
            ap (λ o. holder_by o (is_file_set f v a) (node_by f v a (entry_at v a))) e
            ∙ ap (λ b. cond b (Some (holder_node x)) (node_by f v a (entry_at v a))) (holder_parts a k).1;
        stays =
            ap (λ o. holder_by o (is_file_set f v a) (node_by f w a (entry_at w a))) e
            ∙ ap (λ b. cond b (Some (holder_node x)) (node_by f w a (entry_at w a))) (holder_parts a k).1;
      }

  holder_links : (a : Addr) (k : is_holder f v a ≡ true) → kept_links s t a ≡ pointer_link (holder_is a k).system ∷ []
  unfolding kept_links node_at
  holder_links a k = ap (λ (o : Option Node). (node_or o).links (kept_length s t a)) (holder_is a k).is

  holder_named : (a : Addr) (k : is_holder f v a ≡ true) → named s t a ≡ pointer_link (holder_is a k).system ∷ []
  unfolding named first_of_names
  holder_named a k = ap (λ (ls : List Link). first_of_names [] ls) (holder_links a k)

  holder_selected : (a : Addr) (k : is_holder f v a ≡ true) → selected s t a ≡ filter (selects s t a) (pointer_link (holder_is a k).system ∷ [])
  unfolding selected
  holder_selected a k = ap (λ (ls : List Link). filter (selects s t a) ls) (holder_named a k)

  lost_parts : loses_system f v ≡ true → (is_holder f v f.file_set ≡ true) × (has_pointer (selected s t f.file_set) ≡ false)
  unfolding loses_system
  lost_parts e =
      let p = and_parts (is_holder f v f.file_set) (not (has_pointer (selected s t f.file_set))) e in
      (p.0, off (has_pointer (selected s t f.file_set)) p.1)
    where
      off : (b : Bool) → not b ≡ true → b ≡ false
      off true k = absurd (false≢true k)
      off false k = refl

  pub none_selected : (a : Addr) → is_holder f v a ≡ true → loses_system f v ≡ true → selected s t a ≡ []
  none_selected a k e =
      holder_selected a k
      ∙ one_named (selects s t a) (pointer_link (holder_is a k).system)
      (ap has_pointer (sym (holder_selected a k)) ∙ ap (λ x. has_pointer (selected s t x)) (holder_there a k) ∙ (lost_parts e).1) refl

  pub none_fitted : (a : Addr) → is_holder f v a ≡ true → loses_system f v ≡ true → fitted s t a ≡ []
  unfolding fitted fit
  none_fitted a k e = ap (λ (ls : List Link). fit ((node_at t a).space (kept_length s t a)) ls) (none_selected a k e)

  pub pointer_selected : loses_system f v ≡ false → (a : Addr) → is_holder f v a ≡ true → selected s t a ≡ kept_links s t a
  pointer_selected e a k =
      holder_selected a k
      ∙ all_named (selects s t a) (pointer_link (holder_is a k).system) (ap has_pointer (sym (holder_selected a k)) ∙ has)
      ∙ sym (holder_links a k)
    where
      here : is_holder f v f.file_set ≡ true
      here = ap (is_holder f v) (sym (holder_there a k)) ∙ k

      off : (x y : Bool) → x ≡ true → (x && not y) ≡ false → y ≡ true
      off x true i j = refl
      off x false i j = absurd (false≢true (sym j ∙ ap (λ b. b && true) i))

      has : has_pointer (selected s t a) ≡ true
      has =
          ap (λ x. has_pointer (selected s t x)) (holder_there a k)
          ∙ off (is_holder f v f.file_set) (has_pointer (selected s t f.file_set)) here (unfold loses_system in e)

  -- ---- the frame of the mended volume
  pub frame_kept : loses_system f v ≡ false → frame_after f v ≡ f
  unfolding frame_after
  frame_kept e = ap (λ b. let x : Frame = record f { system = cond b None f.system } in x) e

  pub system_gone : loses_system f v ≡ true → (frame_after f v).system ≡ None
  unfolding frame_after
  system_gone e = ap (λ b. cond b None f.system) e

  pub holder_after : (a : Addr) → is_holder (frame_after f v) (with_disk v disk) a ≡ (is_holder f v a && not (is_gone f v a))
  unfolding frame_after is_holder
  holder_after a = by (loses_system f v) f.system (is_file_set f v a)
    where
      never : (z : Bool) → false ≡ (z && not z)
      never true = refl
      never false = refl

      by : (l : Bool) (o : Option Addr) (y : Bool) → (is_some (cond l None o) && y) ≡ ((is_some o && y) && not (l && (is_some o && y)))
      by true o y = never (is_some o && y)
      by false o y = sym (and_true (is_some o && y))

  gone_parts : (a : Addr) → is_gone f v a ≡ true → (loses_system f v ≡ true) × (is_holder f v a ≡ true)
  gone_parts a k = and_parts (loses_system f v) (is_holder f v a) k

  pub tree_none : (a : Addr) → is_gone f v a ≡ true → tree_of (frame_after f v) (with_disk v disk) a ≡ None
  unfolding tree_of
  tree_none a k =
      let p = gone_parts a k in
      ap (λ o. holder_by o (is_file_set g w a) (node_by g w a (entry_at w a))) (system_gone p.0) ∙ ap (node_by g w a) (no_new_entry a p.1)

  node_alike : (a : Addr) (o : Option Entry) → node_by (frame_after f v) (with_disk v disk) a o ≡ node_by f (with_disk v disk) a o
  unfolding frame_after node_with items_of extent_class block_class is_barred
  node_alike a None = refl
  node_alike a (Some e) = refl

  entry_alike : (a : Addr) → loses_system f v ≡ true → is_holder f v a ≡ false → tree_of (frame_after f v) (with_disk v disk) a ≡ tree_of f (with_disk v disk) a
  unfolding tree_of
  entry_alike a e n =
      ap (λ o. holder_by o (is_file_set g w a) (node_by g w a (entry_at w a))) (system_gone e)
      ∙ node_alike a (entry_at w a)
      ∙ sym (entry_node f w a (unfold is_holder in n))

  -- but for a holder that is gone the frame tells the same nodes
  pub tree_same : (a : Addr) → is_gone f v a ≡ false → tree_of (frame_after f v) (with_disk v disk) a ≡ tree_of f (with_disk v disk) a
  tree_same a n = cases (loses_system f v) (λ e. entry_alike a e (sym (ap (λ b. b && is_holder f v a) e) ∙ n)) (λ e. ap (λ (x : Frame). tree_of x w a) (frame_kept e))

  pub holder_start : (a : Addr) → is_holder f v a ≡ true → is_start f a ≡ true
  unfolding is_start
  holder_start a k =
      let p = holder_parts a k in
      or_right (same_addr a f.root) (is_some f.system && same_addr a f.file_set)
      (and_from (is_some f.system) (same_addr a f.file_set) p.0 (address_same a f.file_set (holder_there a k)))

  gone_start : (a : Addr) → is_gone f v a ≡ true → is_start f a ≡ true
  gone_start a k = holder_start a (gone_parts a k).1

  -- a start that is gone is the holder
  start_after : (a : Addr) → is_start (frame_after f v) a ≡ (is_start f a && not (is_gone f v a))
  unfolding frame_after is_start
  start_after a = by (loses_system f v) refl
    where
      other : loses_system f v ≡ true → is_holder f v a ≡ false → (is_some f.system && same_addr a f.file_set) ≡ false
      other e n = cases (same_addr a f.file_set) there (λ i. ap (λ b. is_some f.system && b) i ∙ and_false (is_some f.system))
        where
          there : same_addr a f.file_set ≡ true → (is_some f.system && same_addr a f.file_set) ≡ false
          there i = absurd (false≢true (sym n ∙ ap (is_holder f v) (same_address a f.file_set i) ∙ (lost_parts e).0))

      lost : loses_system f v ≡ true → (same_addr a f.root || false) ≡ ((same_addr a f.root || (is_some f.system && same_addr a f.file_set)) && not (is_holder f v a))
      lost e =
          cases (is_holder f v a)
          (λ k. ap (λ b. b || false) (no_root a k)
          ∙ sym (ap (λ b. (same_addr a f.root || (is_some f.system && same_addr a f.file_set)) && not b) k ∙ and_false (same_addr a f.root || (is_some f.system && same_addr a f.file_set))))
          (λ k. ap (λ b. same_addr a f.root || b) (sym (other e k))
          ∙ sym (ap (λ b. (same_addr a f.root || (is_some f.system && same_addr a f.file_set)) && not b) k ∙ and_true (same_addr a f.root || (is_some f.system && same_addr a f.file_set))))

      by : (l : Bool) → loses_system f v ≡ l
          → (same_addr a f.root || (is_some (cond l None f.system) && same_addr a f.file_set)) ≡ ((same_addr a f.root || (is_some f.system && same_addr a f.file_set)) && not (l && is_holder f v a))
      by true e = lost e
      by false e = sym (and_true (same_addr a f.root || (is_some f.system && same_addr a f.file_set)))

  -- ---- the mended tree, in which a holder that is gone stands without links
  pub is_dropped : IsDropped (is_start f) (is_start (frame_after f v)) (mended_tree f v disk) (tree_of (frame_after f v) (with_disk v disk)) (is_gone f v)
  is_dropped = record {
    starts = start_after;
    was_start = gone_start;
    was = λ a k. ap (λ b. cond b (Some unlinked) (tree_of g w a)) k;
    none = tree_none;
    same = λ a k. sym (ap (λ b. cond b (Some unlinked) (tree_of g w a)) k);
  }

  pub told_same : IsSameBut (setting_of f v) (setting_of (frame_after f v) (with_disk v disk)) (mended_tree f v disk) (tree_of (frame_after f v) (with_disk v disk)) (is_gone f v)
  unfolding setting_of frame_after places
  told_same = let d = is_dropped in dropped_same (setting_of f v) (is_start g) (mended_tree f v disk) (tree_of g w) (is_gone f v) d
