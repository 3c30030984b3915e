-- Disks that have the same blocks where a volume is read tell the same tree there.
use Rattle.std.proofs.Common.{◌≡◌, ◌⊎◌, ℕ, zero, suc, ◌+◌, ◌-◌, List, [], ◌∷◌, ◌++◌, length, take, replicate, Bool, true, false, cond, Option, Some, None, refl, sym, ap, ◌∙◌, inl, inr, arith}
use Rattle.std.specs.Prelude.{min, is_some, nat_le, ◌==◌}
use Rattle.std.proofs.Math.Path.{fun_ext}
use Rattle.std.proofs.lemmas.Bool.{false≢true}
use Rattle.std.proofs.lemmas.Bool.Decides.{nat_tests}
use Rattle.udf_field.specs.declared.address.Addr.{Addr}
use Rattle.udf_file_model.specs.Address.{addr}
use Rattle.udf_file_model.specs.Entry.{Entry, entry_of, extent_body, is_directory}
use Rattle.udf_file_model.specs.Descriptors.{Descriptor}
use Rattle.udf_file_model.specs.Pieces.{Piece, Extent, Blocks, runs_of, IsAmong}
use Rattle.udf_file_model.specs.Front.{is_hole, blocks_for}
use Rattle.udf_file_model.specs.Listing.{Volume, addresses, addresses_from, body_at, extent_at, is_extent, list_for, with_disk}
use Rattle.udf_file_model.specs.Content.{block_by, block_at, blocks_from, run_bytes, runs_bytes, content}
use Rattle.udf_file_model.proofs.Whichever.{whichever_list}
use Rattle.udf_file_model.specs.Scan.{fids, fids_of}
use Rattle.udf_tree_model.specs.Node.{Node, readable}
use Rattle.udf_tree_model.specs.Frame.{Frame, own_item, capacity, parent_length, fresh_parent_length, is_address, entry_by, entry_at, content_to, items_of, links_of, node_with, node_by, holder_by, is_file_set, tree_of, setting_of}
use Rattle.udf_tree_model.specs.Laws.{IsSought, SameSought, SameSurvey}
use Rattle.udf_tree_model.specs.Reads.{SameBlock, IsFoundEntry, HasSameReads}
use Rattle.udf_tree_model.proofs.Members.{Member, contains_of, member_left, member_right}
use Rattle.udf_tree_model.proofs.Finding.{volume_within}
use Rattle.udf_tree_model.proofs.Same.{sought_found, same_survey}

number : (m n : ℕ) → (m == n) ≡ true → m ≡ n
number m n t = grind (arith, nat_tests)

some_holder : (o : Option Addr) (b : Bool) (n : Node) → is_some (holder_by o b (Some n)) ≡ true
some_holder None b n = refl
some_holder (Some x) true n = refl
some_holder (Some x) false n = refl

-- a readable entry makes a node
entry_readable : (f : Frame) (v : Volume) (a : Addr) (e : Entry) → entry_at v a ≡ Some e → readable (tree_of f v) a ≡ true
unfolding readable tree_of
entry_readable f v a e h =
    ap (λ (o : Option Entry). is_some (holder_by f.system (is_file_set f v a) (node_by f v a o))) h
    ∙ some_holder f.system (is_file_set f v a) (node_with f v a e (list_for v a e))

module _ (v : Volume) (disk : ℕ → List ℕ) where
  abbrev w : Volume
  w = with_disk v disk

  entry_same : (a : Addr) → SameBlock v disk a → entry_at w a ≡ entry_at v a
  unfolding entry_at
  entry_same a h = ap (λ (o : Option Entry). cond (is_address a) o None) (by_place (v.place a) h)
    where
      by_place : (o : Option ℕ) → block_by disk o ≡ block_by v.disk o → entry_by w a o ≡ entry_by v a o
      by_place None e = refl
      by_place (Some sector) e = ap (λ (b : List ℕ). entry_of a.block b) e

  extent_same : (x : Addr) → SameBlock v disk x → extent_at v x ≡ extent_at w x
  unfolding extent_at
  extent_same x h = by_place (v.place x) h
    where
      by_place : (o : Option ℕ) → block_by disk o ≡ block_by v.disk o → body_at v.disk x.block o ≡ body_at disk x.block o
      by_place None e = refl
      by_place (Some sector) e = ap (λ (b : List ℕ). extent_body x.block b) (sym e)

  -- an extent that is whole nowhere is none on either
  extent_none : (x : Addr) → is_extent v x ≡ false → is_extent w x ≡ false → extent_at v x ≡ extent_at w x
  extent_none x h k = none (extent_at v x) (extent_at w x) h k
    where
      none : (o p : Option (List ℕ)) → is_some o ≡ false → is_some p ≡ false → o ≡ p
      none None None i j = refl
      none None (Some q) i j = absurd (false≢true (sym j))
      none (Some o) p i j = absurd (false≢true (sym i))

  blocks_same : (part block n : ℕ) → ((x : Addr) → Member x (addresses_from (addr part block) n) → SameBlock v disk x)
      → blocks_from w part block n ≡ blocks_from v part block n
  unfolding blocks_from
  blocks_same part block zero h = refl
  blocks_same part block (suc n) h =
      ap (λ (b : List ℕ). b ++ blocks_from w part (block + 1) n) (h (addr part block) (inl refl))
      ∙ ap (λ (b : List ℕ). block_at v (addr part block) ++ b) (blocks_same part (block + 1) n (λ x m. h x (inr m)))

  run_same : (d : Descriptor) (rest : List Piece) → ((x : Addr) → Member x (addresses v.size (Blocks d ∷ rest)) → SameBlock v disk x) → run_bytes w d ≡ run_bytes v d
  unfolding run_bytes
  run_same d rest h = by_kind (d.kind == 0) refl (is_hole d) refl h
    where
      apart : (d.kind == 0) ≡ true → is_hole d ≡ true → ⊥
      apart e g =
          let p : d.kind ≡ 0 = number d.kind 0 e in
          let q : d.kind ≡ 2 = number d.kind 2 g in
          absurd (omega (arith, p, q))

      by_kind : (b : Bool) → (d.kind == 0) ≡ b → (t : Bool) → is_hole d ≡ t
          → ((x : Addr) → Member x (cond t [] (addresses_from d.at (blocks_for v.size d.length)) ++ addresses v.size rest) → SameBlock v disk x)
          → cond b (take d.length (blocks_from w d.at.part d.at.block (blocks_for v.size d.length))) (replicate d.length 0)
          ≡ cond b (take d.length (blocks_from v d.at.part d.at.block (blocks_for v.size d.length))) (replicate d.length 0)
      by_kind true e true g k = absurd (apart e g)
      by_kind true e false g k =
          ap (take d.length) (blocks_same d.at.part d.at.block (blocks_for v.size d.length) (λ x m. k x (member_left (addresses_from d.at (blocks_for v.size d.length)) (addresses v.size rest) x m)))
      by_kind false e t g k = refl

  runs_same : (ps : List Piece) → ((x : Addr) → Member x (addresses v.size ps) → SameBlock v disk x) → runs_bytes w (runs_of ps) ≡ runs_bytes v (runs_of ps)
  unfolding runs_of runs_bytes
  runs_same [] h = refl
  runs_same (Extent y ∷ rest) h = runs_same rest (λ x m. h x (inr m))
  runs_same (Blocks d ∷ rest) h =
      ap (λ (b : List ℕ). b ++ runs_bytes w (runs_of rest)) (run_same d rest h)
      ∙ ap (λ (b : List ℕ). run_bytes v d ++ b) (runs_same rest (λ x m. h x (member_right (cond (is_hole d) [] (addresses_from d.at (blocks_for v.size d.length))) (addresses v.size rest) x m)))

  content_same : (e : Entry) (ps : List Piece) → (is_directory e ≡ true → (x : Addr) → Member x (addresses v.size ps) → SameBlock v disk x) → (limit : ℕ) → content_to w e ps limit ≡ content_to v e ps limit
  unfolding content_to content
  content_same e ps h limit = by_kind (is_directory e) refl
    where
      by_kind : (b : Bool) → is_directory e ≡ b
          → cond b (take (min limit e.information) (cond (e.kind == 3) e.body (runs_bytes w (runs_of ps)))) []
          ≡ cond b (take (min limit e.information) (cond (e.kind == 3) e.body (runs_bytes v (runs_of ps)))) []
      by_kind true g = ap (λ (b : List ℕ). take (min limit e.information) (cond (e.kind == 3) e.body b)) (runs_same ps (h g))
      by_kind false g = refl

  node_same : (f : Frame) (a : Addr) (e : Entry) (ps : List Piece) → (is_directory e ≡ true → (x : Addr) → Member x (addresses v.size ps) → SameBlock v disk x)
      → node_with f w a e ps ≡ node_with f v a e ps
  unfolding node_with
  node_same f a e ps h =
      ap (λ (c : ℕ → List ℕ). node_of c) (fun_ext (content_same e ps h))
    where
      node_of : (ℕ → List ℕ) → Node
      node_of c = record {
        directory = is_directory e;
        own = own_item a ∷ [];
        list = items_of f v.size a e ps;
        links = λ l. links_of v.size e (c l);
        space = λ l. min l (capacity v.size e ps) - parent_length (fids_of (fids v.size (c l)));
        enough = λ l. nat_le fresh_parent_length (length (c l));
      }

  module _ (f : Frame) (h : HasSameReads f v disk) where
    found_node : (a : Addr) (e : Entry) → IsFoundEntry f v a e → node_by f w a (Some e) ≡ node_by f v a (Some e)
    found_node a e i =
        let lists : list_for w a e ≡ list_for v a e = whichever_list v disk a e (λ x c. same x c) in
        ap (λ (ps : List Piece). Some (node_with f w a e ps)) lists
        ∙ ap (λ (n : Node). Some n) (node_same f a e (list_for v a e) (λ g x m. h.contents a e i g x (contains_of _ x m)))
      where
        same : (x : Addr) → IsAmong x (list_for v a e) ⊎ (is_extent v x ≡ false) → extent_at v x ≡ extent_at w x
        same x (inl m) = extent_same x (h.extents a e i x m)
        same x (inr n) = extent_none x n (h.no_more x n)

    tree_same : (a : Addr) → IsSought (setting_of f v) (tree_of f v) a → tree_of f w a ≡ tree_of f v a
    unfolding tree_of
    tree_same a k = ap (λ (o : Option Node). holder_by f.system (is_file_set f v a) o) (ap (node_by f w a) (entry_same a (h.sought a k)) ∙ by_entry (entry_at v a) refl)
      where
        by_entry : (o : Option Entry) → entry_at v a ≡ o → node_by f w a o ≡ node_by f v a o
        by_entry None e = refl
        by_entry (Some i) e = found_node a i (record { found_there = sought_found (setting_of f v) (tree_of f v) (volume_within f v) a k (entry_readable f v a i e); entry = e })

    same_tree : SameSought (setting_of f v) (tree_of f v) (tree_of f w)
    same_tree = record { same = tree_same }

    pub reads_same : SameSurvey (setting_of f v) (tree_of f v) (tree_of f w)
    reads_same = same_survey (setting_of f v) (tree_of f v) (tree_of f w) (volume_within f v) same_tree
