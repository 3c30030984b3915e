-- What the nodes of a volume tell of its entries.
use Rattle.std.proofs.Common.{◌≡◌, ℕ, zero, suc, ◌+◌, ◌-◌, ◌*◌, ◌<◌, ◌≤◌, List, [], ◌∷◌, ◌++◌, map, length, Bool, true, false, not, ◌&&◌, ◌||◌, cond, Option, Some, None, ◌⊎◌, inl, inr, refl, sym, ap, ◌∙◌, subst, arith}
use Rattle.std.specs.Prelude.{is_some, min, nat_le, ◌==◌}
use Rattle.std.specs.List.{list_all, filter, range_with_len}
use Rattle.std.proofs.Math.Nat.{le-div_iff_mul-le}
use Rattle.std.proofs.lemmas.Bool.{and_parts, and_from, or_cases, or_right, false≢true}
use Rattle.std.proofs.lemmas.Bool.Decides.{nat_tests}
use Rattle.udf_field.specs.declared.address.Addr.{Addr}
use Rattle.udf_file_model.specs.Address.{addr, same_addr}
use Rattle.udf_file_model.specs.Entry.{Entry}
use Rattle.udf_file_model.specs.Descriptors.{Descriptor}
use Rattle.udf_file_model.specs.Pieces.{Piece, Extent, Blocks, runs_of, size_of}
use Rattle.udf_file_model.specs.Front.{is_hole, blocks_for}
use Rattle.udf_file_model.specs.Listing.{Volume, addresses, addresses_from, is_placed, list_for, good_length}
use Rattle.udf_file_model.proofs.Counts.{front_less}
use Rattle.udf_file_model.proofs.Local.{list_embedded}
use Rattle.udf_tree_model.specs.Node.{Item, Node, Tree, Setting, readable, node_at, node_or, wants, bytes_of, good_length as tree_length}
use Rattle.udf_tree_model.specs.Won.{wins, kept_length, sound}
use Rattle.udf_tree_model.specs.Found.{found_graph, found}
use Rattle.udf_tree_model.specs.Frame.{Frame, empty_item, is_address, block_item, run_items, items, items_of, extent_class, block_class, is_barred, node_with, node_by, holder_node, holder_by, is_file_set, is_holder, entry_at, tree_of, setting_of, is_start}
use Rattle.udf_tree_model.specs.Stated.{taken, IsFileSetPlaced}
use Rattle.udf_tree_model.specs.Refused.{Strategy, ExtendedDescriptors, AttributeFile, RootDirectory, passes, refusal, has_root}
use Rattle.udf_tree_model.specs.Laws.{HasSoundStarts}
use Rattle.udf_tree_model.proofs.Places.{same_address, address_same}
use Rattle.udf_tree_model.proofs.Finding.{found_least, volume_within}

pub blocks_reach : (size bytes : ℕ) → 0 < size → bytes ≤ blocks_for size bytes * size
blocks_reach size bytes some = over (nat_le bytes (blocks_for size bytes * size)) refl
  where
    past : blocks_for size bytes * size < bytes → ⊥
    past l =
        let f : blocks_for size bytes + 1 ≤ blocks_for size bytes = (le-div_iff_mul-le {k = size} {x = blocks_for size bytes + 1} {y = bytes + (size - 1)} some).1 (omega (arith, l)) in
        absurd (omega (arith, f))

    over : (b : Bool) → nat_le bytes (blocks_for size bytes * size) ≡ b → bytes ≤ blocks_for size bytes * size
    over true e = grind (arith, nat_tests)
    over false e = let l : blocks_for size bytes * size < bytes = grind (arith, nat_tests) in absurd (past l)

module _ (size class : ℕ) (barred : Addr → Bool) (some : 0 < size) where
  -- what is left of the bytes of a descriptor stands in what is left of its blocks
  blocks_left : (d : Descriptor) (n k : ℕ) → k + n ≡ blocks_for size d.length
      → bytes_of (map (block_item size class barred d) (range_with_len (d.at.block + k) n)) ≡ d.length - k * size
  blocks_left d zero k e =
      let l : d.length ≤ blocks_for size d.length * size = blocks_reach size d.length some in
      let m : k * size ≡ blocks_for size d.length * size = ap (λ (x : ℕ). x * size) (omega (arith, e)) in
      omega (arith, l, m)
  blocks_left d (suc n) k e =
      let rest : bytes_of (map (block_item size class barred d) (range_with_len (d.at.block + (k + 1)) n)) ≡ d.length - (k + 1) * size = blocks_left d n (k + 1) (omega (arith, e)) in
      let next : d.at.block + k + 1 ≡ d.at.block + (k + 1) = omega arith in
      let low : k * size < d.length = front_less size k d.length some (omega (arith, e)) in
      let here : d.at.block + k - d.at.block ≡ k = omega arith in
      let first : min size (d.length - (d.at.block + k - d.at.block) * size) ≡ min size (d.length - k * size) = ap (λ (x : ℕ). min size (d.length - x * size)) here in
      ap (λ (x : ℕ). min size (d.length - (d.at.block + k - d.at.block) * size) + bytes_of (map (block_item size class barred d) (range_with_len x n))) next
      ∙ sum (min size (d.length - (d.at.block + k - d.at.block) * size)) _ low first rest
    where
      sum : (x y : ℕ) → k * size < d.length → x ≡ min size (d.length - k * size) → y ≡ d.length - (k + 1) * size → x + y ≡ d.length - k * size
      sum x y l e f = omega (arith, l, e, f)

  bytes_append : (is js : List Item) → bytes_of (is ++ js) ≡ bytes_of is + bytes_of js
  bytes_append [] js = omega arith
  bytes_append (i ∷ is) js = let r : bytes_of (is ++ js) ≡ bytes_of is + bytes_of js = bytes_append is js in omega (arith, r)

  run_bytes : (d : Descriptor) → bytes_of (run_items size class barred d) ≡ d.length
  unfolding run_items
  run_bytes d = by_hole (is_hole d)
    where
      by_hole : (b : Bool) → bytes_of (cond b (empty_item d.length ∷ []) (map (block_item size class barred d) (range_with_len d.at.block (blocks_for size d.length)))) ≡ d.length
      by_hole true = omega arith
      by_hole false =
          let start : d.at.block + 0 ≡ d.at.block = omega arith in
          let all : bytes_of (map (block_item size class barred d) (range_with_len (d.at.block + 0) (blocks_for size d.length))) ≡ d.length - 0 * size = blocks_left d (blocks_for size d.length) 0 (omega arith) in
          ap (λ (x : ℕ). bytes_of (map (block_item size class barred d) (range_with_len x (blocks_for size d.length)))) (sym start) ∙ all ∙ whole
        where
          whole : d.length - 0 * size ≡ d.length
          whole = omega arith

  -- the bytes of a list block by block are those of its descriptors
  pub items_bytes : (extents : ℕ) (ps : List Piece) → bytes_of (items size extents class barred ps) ≡ size_of ps
  unfolding items runs_of
  items_bytes extents [] = refl
  items_bytes extents (Extent x ∷ rest) = let r : bytes_of (items size extents class barred rest) ≡ size_of rest = items_bytes extents rest in omega (arith, r)
  items_bytes extents (Blocks d ∷ rest) =
      let r : bytes_of (items size extents class barred rest) ≡ size_of rest = items_bytes extents rest in
      bytes_append (run_items size class barred d) (items size extents class barred rest)
      ∙ ap (λ (x : ℕ). x + bytes_of (items size extents class barred rest)) (run_bytes d)
      ∙ ap (λ (x : ℕ). d.length + x) r

  -- and the addresses that it takes are theirs
  map_taken : (d : Descriptor) (blocks : List ℕ) → taken (map (block_item size class barred d) blocks) ≡ map (λ block. addr d.at.part block) blocks
  map_taken d [] = refl
  map_taken d (b ∷ bs) = ap (λ (l : List Addr). addr d.at.part b ∷ l) (map_taken d bs)

  taken_append : (is js : List Item) → taken (is ++ js) ≡ taken is ++ taken js
  taken_append [] js = refl
  taken_append (i ∷ is) js = by_takes i.takes (taken_append is js)
    where
      by_takes : (b : Bool) → taken (is ++ js) ≡ taken is ++ taken js
          → map (λ (x : Item). x.at) (cond b (i ∷ filter (λ x. x.takes) (is ++ js)) (filter (λ x. x.takes) (is ++ js)))
          ≡ map (λ (x : Item). x.at) (cond b (i ∷ filter (λ x. x.takes) is) (filter (λ x. x.takes) is)) ++ taken js
      by_takes true e = ap (λ (l : List Addr). i.at ∷ l) e
      by_takes false e = e

  run_taken : (d : Descriptor) → taken (run_items size class barred d) ≡ cond (is_hole d) [] (addresses_from d.at (blocks_for size d.length))
  unfolding run_items
  run_taken d = by_hole (is_hole d)
    where
      by_hole : (b : Bool) → taken (cond b (empty_item d.length ∷ []) (map (block_item size class barred d) (range_with_len d.at.block (blocks_for size d.length))))
          ≡ cond b [] (addresses_from d.at (blocks_for size d.length))
      by_hole true = refl
      by_hole false = map_taken d (range_with_len d.at.block (blocks_for size d.length))

  items_taken : (extents : ℕ) (ps : List Piece) → taken (items size extents class barred ps) ≡ addresses size ps
  unfolding items
  items_taken extents [] = refl
  items_taken extents (Extent x ∷ rest) = ap (λ (l : List Addr). x ∷ l) (items_taken extents rest)
  items_taken extents (Blocks d ∷ rest) =
      taken_append (run_items size class barred d) (items size extents class barred rest)
      ∙ ap (λ (l : List Addr). l ++ taken (items size extents class barred rest)) (run_taken d)
      ∙ ap (λ (l : List Addr). cond (is_hole d) [] (addresses_from d.at (blocks_for size d.length)) ++ l) (items_taken extents rest)

number_is : (x y : ℕ) → (x == y) ≡ true → x ≡ y
number_is x y t = grind (arith, nat_tests)

-- but for the holder of that pointer the node of an address is that of its entry
pub entry_node : (f : Frame) (v : Volume) (a : Addr) → is_holder f v a ≡ false → tree_of f v a ≡ node_by f v a (entry_at v a)
unfolding tree_of is_holder
entry_node f v a h = by_holder f.system (is_file_set f v a) h
  where
    by_holder : (o : Option Addr) (b : Bool) → (is_some o && b) ≡ false → holder_by o b (node_by f v a (entry_at v a)) ≡ node_by f v a (entry_at v a)
    by_holder None b k = refl
    by_holder (Some x) true k = absurd (false≢true (sym k))
    by_holder (Some x) false k = refl

module _ (f : Frame) (v : Volume) (a : Addr) (e : Entry) (there : entry_at v a ≡ Some e) (other : is_holder f v a ≡ false) where
  pub is_node : tree_of f v a ≡ Some (node_with f v a e (list_for v a e))
  is_node = entry_node f v a other ∙ ap (node_by f v a) there

  pub node_is : node_at (tree_of f v) a ≡ node_with f v a e (list_for v a e)
  unfolding node_at
  node_is = ap node_or is_node

  pub length_is : 0 < v.size → tree_length (tree_of f v) a ≡ good_length v a e
  unfolding tree_length good_length node_with items_of
  length_is some = ap (λ (n : Node). bytes_of n.list) node_is ∙ by_kind (e.kind == 3)
    where
      by_kind : (b : Bool) → bytes_of (cond b (empty_item (length e.body) ∷ []) (items v.size (extent_class f a) (block_class f a e) (is_barred f e (runs_of (list_for v a e))) (list_for v a e)))
          ≡ cond b (length e.body) (size_of (list_for v a e))
      by_kind true = omega arith
      by_kind false = items_bytes v.size (block_class f a e) (is_barred f e (runs_of (list_for v a e))) some (extent_class f a) (list_for v a e)

  -- an entry takes its own block and the addresses of its list
  pub taken_is : 0 < v.size → taken (wants (tree_of f v) a) ≡ a ∷ addresses v.size (list_for v a e)
  unfolding wants node_with items_of
  taken_is some = ap (λ (n : Node). taken (n.own ++ n.list)) node_is ∙ ap (λ (l : List Addr). a ∷ l) (by_kind (e.kind == 3) refl)
    where
      by_kind : (b : Bool) → (e.kind == 3) ≡ b
          → taken (cond b (empty_item (length e.body) ∷ []) (items v.size (extent_class f a) (block_class f a e) (is_barred f e (runs_of (list_for v a e))) (list_for v a e)))
          ≡ addresses v.size (list_for v a e)
      by_kind true k = sym (ap (addresses v.size) (list_embedded v a e (number_is e.kind 3 k)))
      by_kind false k = items_taken v.size (block_class f a e) (is_barred f e (runs_of (list_for v a e))) some (extent_class f a) (list_for v a e)

-- what is refused last is a root that is no sound directory
root_left : (x y z w : Bool) → cond x (Some Strategy) (cond y (Some ExtendedDescriptors) (cond z (Some AttributeFile) (cond w None (Some RootDirectory)))) ≡ None → w ≡ true
root_left true y z w e = cc
root_left false true z w e = cc
root_left false false true w e = cc
root_left false false false true e = refl
root_left false false false false e = cc

named_by : (o : Option Addr) → is_some o ≡ true → (x : Addr) × (o ≡ Some x)
named_by None e = absurd (false≢true e)
named_by (Some x) e = (x, refl)

module _ (f : Frame) (v : Volume) where
  abbrev s : Setting
  s = setting_of f v

  abbrev t : Tree
  t = tree_of f v

  root_is : refusal f v ≡ None → (sound s t f.root ≡ true) × ((node_at t f.root).directory ≡ true)
  unfolding refusal has_root
  root_is r =
      let h = root_left _ _ _ _ r in
      let k = and_parts (passes (λ e. true) (entry_at v f.root)) _ h in
      and_parts (sound s t f.root) (node_at t f.root).directory k.1

  module _ (x : Addr) (system : f.system ≡ Some x) (placed : IsFileSetPlaced f v) where
    has_system : is_some f.system ≡ true
    has_system = ap (λ (o : Option Addr). is_some o) system

    at_file_set : is_file_set f v f.file_set ≡ true
    at_file_set = let p = placed has_system in and_from (same_addr f.file_set f.file_set) _ (address_same f.file_set f.file_set refl) (and_from (is_address f.file_set) (is_placed v f.file_set) p.0 p.1)

    holder_is : t f.file_set ≡ Some (holder_node x)
    unfolding tree_of
    holder_is =
        ap (λ (o : Option Addr). holder_by o (is_file_set f v f.file_set) (node_by f v f.file_set (entry_at v f.file_set))) system
        ∙ ap (λ (b : Bool). cond b (Some (holder_node x)) (node_by f v f.file_set (entry_at v f.file_set))) at_file_set

    holder_node_is : node_at t f.file_set ≡ holder_node x
    unfolding node_at
    holder_node_is = ap node_or holder_is

    holder_found : found s t f.file_set ≡ true
    unfolding found_graph readable setting_of is_start
    holder_found =
        (found_least s t (volume_within f v)).closed.starts f.file_set
        (and_from (s.start f.file_set) (is_some (t f.file_set))
        (or_right (same_addr f.file_set f.root) _ (and_from (is_some f.system) (same_addr f.file_set f.file_set) has_system (address_same f.file_set f.file_set refl)))
        (ap (λ (o : Option Node). is_some o) holder_is))

    holder_sound : sound s t f.file_set ≡ true
    unfolding sound
    holder_sound =
        and_from (found s t f.file_set) _ holder_found
        (ap (λ (n : Node). list_all (wins s t f.file_set) n.own && (not n.directory || n.enough (kept_length s t f.file_set))) holder_node_is)

  start_is : refusal f v ≡ None → IsFileSetPlaced f v → (a : Addr) → s.start a ≡ true → (sound s t a ≡ true) × ((node_at t a).directory ≡ true)
  unfolding setting_of is_start
  start_is r p a h = go (or_cases (same_addr a f.root) _ h)
    where
      move : (b : Addr) → same_addr a b ≡ true → (sound s t b ≡ true) × ((node_at t b).directory ≡ true) → (sound s t a ≡ true) × ((node_at t a).directory ≡ true)
      move b e k = subst (λ (z : Addr). (sound s t z ≡ true) × ((node_at t z).directory ≡ true)) (sym (same_address a b e)) k

      go : (same_addr a f.root ≡ true) ⊎ ((is_some f.system && same_addr a f.file_set) ≡ true) → (sound s t a ≡ true) × ((node_at t a).directory ≡ true)
      go (inl e) = move f.root e (root_is r)
      go (inr e) =
          let k = and_parts (is_some f.system) (same_addr a f.file_set) e in
          let n = named_by f.system k.0 in
          move f.file_set k.1 (holder_sound n.0 n.1 p, ap (λ (m : Node). m.directory) (holder_node_is n.0 n.1 p))

  -- in a volume that is not refused each start is a sound directory
  pub accepted_starts : refusal f v ≡ None → IsFileSetPlaced f v → HasSoundStarts s t
  accepted_starts r p = record { starts = λ a h. (start_is r p a h).0; directories = λ a h. (start_is r p a h).1 }
