-- Which blocks a disk has that has the mend of a kept entry.
use Rattle.std.proofs.Common.{◌≡◌, ◌⊎◌, ℕ, ◌<◌, Bool, true, false, cond, Option, Some, None, List, [], ◌∷◌, ◌++◌, map, length, refl, sym, ap, ◌∙◌, subst, inl, inr}
use Rattle.std.specs.Prelude.{is_some}
use Rattle.std.specs.List.{list_any}
use Rattle.std.proofs.lemmas.Bool.{false≢true, or_left, or_right}
use Rattle.std.proofs.lemmas.List.Elements.{All-contains}
use Rattle.udf_field.specs.declared.address.Addr.{Addr}
use Rattle.udf_file_model.specs.Address.{same_addr}
use Rattle.udf_file_model.specs.Content.{block_at, block_by}
use Rattle.udf_file_model.specs.Cut.{cut_pieces}
use Rattle.udf_file_model.specs.Entry.{Entry, is_directory}
use Rattle.udf_file_model.specs.Front.{nothing_yet}
use Rattle.udf_file_model.specs.Listing.{Volume, addresses, flat_for, is_extent, is_placed, list_for, rules_for, with_disk}
use Rattle.udf_file_model.specs.Pieces.{Piece, extents_of, runs_of}
use Rattle.udf_file_model.proofs.Apart.{front_apart, front_placed}
use Rattle.udf_volume_model.specs.Edits.{look}
use Rattle.udf_tree_model.specs.Among.{Member}
use Rattle.udf_tree_model.specs.Claimed.{claims, claims_by, list_stays, mended_length, mended_list}
use Rattle.udf_tree_model.specs.Content.{mended_content}
use Rattle.udf_tree_model.specs.Frame.{Frame, entry_at}
use Rattle.udf_tree_model.specs.Ordinary.{is_kept_entry}
use Rattle.udf_tree_model.proofs.Linking.{Distinct}
use Rattle.udf_tree_model.proofs.Members.{any_from, contains_of, member_append, member_map}
use Rattle.udf_tree_model.proofs.Places.{address_same}
use Rattle.udf_file_mends.specs.Mends.{edits_at, edits_of, mend_by, mend_of, mended_blocks, sited_entry, sited_extent}
use Rattle.udf_file_mends.specs.Repairable.{IsMendOn, IsRepairable}
use Rattle.udf_file_mends.specs.Spread.{Sited, spread}
use Rattle.udf_file_mends.proofs.Held as held
use Rattle.udf_file_mends.proofs.Reach.{AllRecorded, cut_recorded, good_recorded}
use Rattle.udf_file_mends.proofs.Sited.{look_before, look_first, look_off, look_past, look_there, sites}
use Rattle.udf_file_mends.proofs.Sites.{cut_distinct, cut_member, data_apart, data_site, data_sites as data_addresses, distinct_pairs, extent_site, extents_distinct, kinds_apart, run_site, run_sites, runs_distinct, sites_joined, sites_spread}

pub named_by : (o : Option ℕ) → is_some o ≡ true → (n : ℕ) × (o ≡ Some n)
named_by None h = absurd (false≢true h)
named_by (Some n) h = (n, refl)

-- ---- the addresses of the list that a mend leaves
module _ (f : Frame) (v : Volume) (some : 0 < v.size) (a : Addr) (e : Entry) where
  abbrev xs : List Piece
  xs = list_for v a e

  list_distinct : Distinct (a ∷ addresses v.size xs)
  unfolding list_for rules_for
  list_distinct = distinct_pairs (a ∷ addresses v.size xs) (front_apart (rules_for v a e) (is_extent v) some (flat_for v a e))

  pub list_placed : (x : Addr) → Member x (addresses v.size xs) → is_placed v x ≡ true
  unfolding list_for rules_for
  list_placed x m =
      All-contains (λ (y : Addr). is_placed v y ≡ true) (addresses v.size xs) x (front_placed (rules_for v a e) (is_extent v) some (flat_for v a e)) (contains_of (addresses v.size xs) x m)

  pub mended_member : (x : Addr) → Member x (addresses v.size (mended_list f v a e)) → Member x (addresses v.size xs)
  unfolding mended_list
  mended_member x m = by (list_stays f v a e) m
    where
      by : (b : Bool) → Member x (addresses v.size (cond b xs (cut_pieces (mended_length f v a e) xs))) → Member x (addresses v.size xs)
      by true i = i
      by false i = cut_member v.size some xs (mended_length f v a e) x i

  pub mended_distinct : Distinct (addresses v.size (mended_list f v a e))
  unfolding mended_list
  mended_distinct = by (list_stays f v a e)
    where
      by : (b : Bool) → Distinct (addresses v.size (cond b xs (cut_pieces (mended_length f v a e) xs)))
      by true = list_distinct.1
      by false = cut_distinct v.size some xs (mended_length f v a e) list_distinct.1

  pub own_off : (x : Addr) → Member x (addresses v.size (mended_list f v a e)) → a ≡ x → ⊥
  own_off x m q = list_distinct.0 (subst (λ (z : Addr). Member z (addresses v.size xs)) (sym q) (mended_member x m))

-- ---- what an entry claims after its mend
module _ (f : Frame) (v : Volume) (a : Addr) (e : Entry) (reads : entry_at v a ≡ Some e) where
  pub claims_own : claims f v a a ≡ true
  unfolding claims
  claims_own = ap (λ o. claims_by f v a o a) reads ∙ or_left (same_addr a a) (list_any (same_addr a) (addresses v.size (mended_list f v a e))) (address_same a a refl)

  pub claims_listed : (x : Addr) → Member x (addresses v.size (mended_list f v a e)) → claims f v a x ≡ true
  unfolding claims
  claims_listed x i =
      ap (λ o. claims_by f v a o x) reads
      ∙ or_right (same_addr a x) (list_any (same_addr x) (addresses v.size (mended_list f v a e))) (any_from (same_addr x) (addresses v.size (mended_list f v a e)) x i (address_same x x refl))

module _ (f : Frame) (v : Volume) (ok : IsRepairable f v) (a : Addr) (e : Entry) (kept_there : is_kept_entry f v a ≡ true) (reads : entry_at v a ≡ Some e) where
  -- of a directory the list has recorded blocks alone
  pub left_recorded : is_directory e ≡ true → AllRecorded (mended_list f v a e)
  unfolding mended_list rules_for
  left_recorded directory = by (list_stays f v a e)
    where
      all : AllRecorded (list_for v a e)
      all = good_recorded (rules_for v a e) (is_extent v) directory (list_for v a e) nothing_yet (held.good f v ok a e kept_there reads)

      by : (b : Bool) → AllRecorded (cond b (list_for v a e) (cut_pieces (mended_length f v a e) (list_for v a e)))
      by true = all
      by false = cut_recorded (list_for v a e) (mended_length f v a e) all

  sites_extents : (ys : List Addr) → sites (map (sited_extent f v a e) ys) ≡ ys
  sites_extents [] = refl
  sites_extents (y ∷ ys) = ap (λ z. y ∷ z) (sites_extents ys)

  -- each structure that the mend makes stands at an address that the entry claims
  pub mend_claimed : (x : Addr) → Member x (sites (mend_of f v a)) → claims f v a x ≡ true
  unfolding mend_of mended_blocks
  mend_claimed x i =
      let M : Option Entry → Type 0 = λ o. Member x (sites (mend_by f v a o)) in
      by (list_stays f v a e) (subst M reads i)
    where
      own : (x ≡ a) → claims f v a x ≡ true
      own q = ap (claims f v a) q ∙ claims_own f v a e reads

      data_listed : (d : Bool) → is_directory e ≡ d → Member x (sites (cond d (spread v (runs_of (mended_list f v a e)) (mended_content f v a)) [])) → claims f v a x ≡ true
      data_listed true h j =
          let L : List Addr → Type 0 = λ z. Member x z in
          claims_listed f v a e reads x
          (run_site v.size (mended_list f v a e) (left_recorded h) x (subst L (sites_spread v (runs_of (mended_list f v a e)) (mended_content f v a)) j))
      data_listed false h j = absurd j

      parts : Member x (sites (map (sited_extent f v a e) (extents_of (mended_list f v a e)) ++ cond (is_directory e) (spread v (runs_of (mended_list f v a e)) (mended_content f v a)) [])) → claims f v a x ≡ true
      parts j =
          let extents = map (sited_extent f v a e) (extents_of (mended_list f v a e)) in
          let content = cond (is_directory e) (spread v (runs_of (mended_list f v a e)) (mended_content f v a)) [] in
          let L : List Addr → Type 0 = λ z. Member x z in
          go (member_append (sites extents) (sites content) x (subst L (sites_joined extents content) j))
        where
          go : Member x (sites (map (sited_extent f v a e) (extents_of (mended_list f v a e)))) ⊎ Member x (sites (cond (is_directory e) (spread v (runs_of (mended_list f v a e)) (mended_content f v a)) [])) → claims f v a x ≡ true
          go (inl k) =
              let L : List Addr → Type 0 = λ z. Member x z in
              claims_listed f v a e reads x (extent_site v.size (mended_list f v a e) x (subst L (sites_extents (extents_of (mended_list f v a e))) k))
          go (inr k) = data_listed (is_directory e) refl k

      by : (b : Bool) → Member x (sites (sited_entry f v a e ∷ cond b [] (map (sited_extent f v a e) (extents_of (mended_list f v a e)) ++ cond (is_directory e) (spread v (runs_of (mended_list f v a e)) (mended_content f v a)) []))) → claims f v a x ≡ true
      by b (inl q) = own q
      by true (inr j) = absurd j
      by false (inr j) = parts j

module _ (f : Frame) (v : Volume) (disk : ℕ → List ℕ) (a : Addr) (e : Entry) (m : IsMendOn f v disk a e) where
  abbrev ok : IsRepairable f v
  ok = m.repairable

  abbrev pub w : Volume
  w = with_disk v disk

  some : 0 < v.size
  some = held.some f v m.repairable a e m.kept m.entry

  abbrev pub left : List Piece
  left = mended_list f v a e

  -- the block of a claimed address
  claimed : (x : Addr) (n : ℕ) → claims f v a x ≡ true → v.place x ≡ Some n
      → block_at w x ≡ look n (edits_of v (sited_entry f v a e ∷ cond (list_stays f v a e) [] (mended_blocks f v a e))) (v.disk n)
  unfolding edits_at mend_of
  claimed x n c p =
      ap (block_by disk) p ∙ m.has.blocks x n c p ∙ ap (λ o. look n (edits_of v (mend_by f v a o)) (v.disk n)) m.entry

  pub own_block : block_at w a ≡ (sited_entry f v a e).1
  own_block =
      let r = held.block f v m.repairable a e m.kept m.entry in
      claimed a r.sector (claims_own f v a e m.entry) r.place
      ∙ look_first v ok.apart a r.sector r.place (sited_entry f v a e) (cond (list_stays f v a e) [] (mended_blocks f v a e)) (v.disk r.sector) refl

  pub there : (x : Addr) → Member x (addresses v.size left) → (n : ℕ) × (v.place x ≡ Some n)
  there x i = named_by (v.place x) (list_placed f v some a e x (mended_member f v some a e x i))

  not_own : (x : Addr) → Member x (addresses v.size left) → Member x (sites (sited_entry f v a e ∷ [])) → ⊥
  not_own x i (inl q) = own_off f v some a e x i (sym q)
  not_own x i (inr k) = k

  -- where the list stays its blocks stay
  pub stays_block : list_stays f v a e ≡ true → (x : Addr) → Member x (addresses v.size left) → block_at w x ≡ block_at v x
  stays_block h x i =
      let n = there x i in
      claimed x n.0 (claims_listed f v a e m.entry x i) n.1
      ∙ ap (λ b. look n.0 (edits_of v (sited_entry f v a e ∷ cond b [] (mended_blocks f v a e))) (v.disk n.0)) h
      ∙ look_off v ok.apart x n.0 n.1 (sited_entry f v a e ∷ []) (v.disk n.0) (not_own x i)
      ∙ sym (ap (block_by v.disk) n.1)

  module _ (cut : list_stays f v a e ≡ false) where
    abbrev extents : List Sited
    extents = map (sited_extent f v a e) (extents_of left)

    abbrev data_blocks : Bool → List Sited
    data_blocks b = cond b (spread v (runs_of left) (mended_content f v a)) []

    behind : (x : Addr) (i : Member x (addresses v.size left)) → block_at w x ≡ look (there x i).0 (edits_of v (extents ++ data_blocks (is_directory e))) (v.disk (there x i).0)
    unfolding mended_blocks
    behind x i =
        let n = there x i in
        claimed x n.0 (claims_listed f v a e m.entry x i) n.1
        ∙ ap (λ b. look n.0 (edits_of v (sited_entry f v a e ∷ cond b [] (mended_blocks f v a e))) (v.disk n.0)) cut
        ∙ look_past v ok.apart x n.0 n.1 (sited_entry f v a e ∷ []) (extents ++ data_blocks (is_directory e)) (v.disk n.0) (not_own x i)

    pub extent_block : (x : Addr) → Member x (extents_of left) → block_at w x ≡ (sited_extent f v a e x).1
    extent_block x i =
        let k = extent_site v.size left x i in
        let n = there x k in
        let D : List Addr → Type 0 = λ z. Distinct z in
        behind x k
        ∙ look_before v ok.apart x n.0 n.1 extents (data_blocks (is_directory e)) (v.disk n.0)
        (subst D (sym (sites_extents f v m.repairable a e m.kept m.entry (extents_of left))) (extents_distinct v.size left (mended_distinct f v some a e)))
        (sited_extent f v a e x) (member_map (sited_extent f v a e) (extents_of left) x i) refl

    -- the data of a file stay
    pub file_block : is_directory e ≡ false → (x : Addr) → Member x (data_addresses v.size left) → block_at w x ≡ block_at v x
    file_block file x i =
        let k = data_site v.size left x i in
        let n = there x k in
        let M : List Addr → Type 0 = λ z. Member x z in
        behind x k
        ∙ ap (λ b. look n.0 (edits_of v (extents ++ data_blocks b)) (v.disk n.0)) file
        ∙ look_past v ok.apart x n.0 n.1 extents [] (v.disk n.0)
        (λ j. data_apart v.size left (mended_distinct f v some a e) x (subst M (sites_extents f v m.repairable a e m.kept m.entry (extents_of left)) j) i)
        ∙ look_off v ok.apart x n.0 n.1 [] (v.disk n.0) (λ j. j)
        ∙ sym (ap (block_by v.disk) n.1)

    module _ (directory : is_directory e ≡ true) where
      abbrev pub data_sites : List Sited
      data_sites = spread v (runs_of left) (mended_content f v a)

      run_there : (c : Sited) → Member c data_sites → Member c.0 (run_sites v.size (runs_of left))
      run_there c i = subst (λ (z : List Addr). Member c.0 z) (sites_spread v (runs_of left) (mended_content f v a)) (member_map (λ (b : Sited). b.0) data_sites c i)

      pub data_listed : (c : Sited) → Member c data_sites → Member c.0 (addresses v.size left)
      data_listed c i = run_site v.size left (left_recorded f v m.repairable a e m.kept m.entry directory) c.0 (run_there c i)

      pub data_block : (c : Sited) → Member c data_sites → block_at w c.0 ≡ c.1
      data_block c i =
          let k = data_listed c i in
          let n = there c.0 k in
          let D : List Addr → Type 0 = λ z. Distinct z in
          let M : List Addr → Type 0 = λ z. Member c.0 z in
          behind c.0 k
          ∙ ap (λ b. look n.0 (edits_of v (extents ++ data_blocks b)) (v.disk n.0)) directory
          ∙ look_past v ok.apart c.0 n.0 n.1 extents data_sites (v.disk n.0)
          (λ j. kinds_apart v.size left (left_recorded f v m.repairable a e m.kept m.entry directory) (mended_distinct f v some a e) c.0 (subst M (sites_extents f v m.repairable a e m.kept m.entry (extents_of left)) j) (run_there c i))
          ∙ look_there v ok.apart c.0 n.0 n.1 data_sites (v.disk n.0)
          (subst D (sym (sites_spread v (runs_of left) (mended_content f v a))) (runs_distinct v.size left (left_recorded f v m.repairable a e m.kept m.entry directory) (mended_distinct f v some a e)))
          c i refl

      -- and the blocks that stood there are whole
      pub data_whole : (c : Sited) → Member c data_sites → length (block_at v c.0) ≡ v.size
      data_whole c i =
          let n = there c.0 (data_listed c i) in
          ap (λ o. length (block_by v.disk o)) n.1 ∙ ok.whole c.0 n.0 n.1
