-- How a disk that has the mend of a kept entry reads there: the entry, its list, and what a directory holds.
use Rattle.std.proofs.Common.{◌≡◌, ℕ, ◌*◌, ◌<◌, ◌≤◌, ◌&&◌, ◌||◌, not, nat_le, true, cond, Option, Some, None, List, [], ◌∷◌, length, take, refl, sym, ap, ◌∙◌, subst, arith}
use Rattle.std.specs.Prelude.{◌==◌, is_some, min}
use Rattle.std.specs.List.{list_all}
use Rattle.std.proofs.lemmas.Bool.{and_parts}
use Rattle.std.proofs.lemmas.Bool.Decides.{nat_tests}
use Rattle.udf_field.specs.declared.address.Addr.{Addr}
use Rattle.udf_model.specs.Bytes.{IsBytes}
use Rattle.udf_file_model.specs.Content.{block_at, block_by, content, runs_bytes}
use Rattle.udf_file_model.specs.Cut.{cut_pieces, to_part}
use Rattle.udf_file_model.specs.Descriptors.{descriptors}
use Rattle.udf_file_model.specs.Entry.{Entry, entry_of, extent_body, is_directory}
use Rattle.udf_file_model.specs.Front.{good_front, is_good, nothing_yet}
use Rattle.udf_file_model.specs.Listing.{Volume, addresses, body_at, descriptors_in, extent_at, flat_for, good_length, is_extent, is_good_for, list_for, rules_for, with_disk}
use Rattle.udf_file_model.specs.Pieces.{Piece, Extent, Blocks, IsAmong, further, pieces, runs_of, size_of}
use Rattle.udf_file_model.specs.Wanted.{Wanted, mended}
use Rattle.udf_file_model.proofs.Local.{good_local, list_local}
use Rattle.udf_tree_model.specs.Among.{Member}
use Rattle.udf_tree_model.specs.Claimed.{allocation_holds, list_stays, mended_length, mended_list}
use Rattle.udf_tree_model.specs.Content.{content_stays, mended_content}
use Rattle.udf_tree_model.specs.Frame.{Frame, capacity, content_to, entry_at, entry_by, setting_of, tree_of}
use Rattle.udf_tree_model.specs.Node.{node_at}
use Rattle.udf_tree_model.specs.Won.{holds, kept_length}
use Rattle.udf_tree_model.proofs.Members.{all_at}
use Rattle.udf_tree_model.proofs.Stating.{length_is}
use Rattle.udf_tree_model.proofs.Winning.{before_whole}
use Rattle.udf_tree_model.specs.Node.{good_length as tree_length}
use Rattle.udf_file_mends.specs.Mends.{mended_entry}
use Rattle.udf_file_mends.specs.Repairable.{IsMendOn}
use Rattle.udf_file_mends.specs.Wanted.{cut_wanted, wanted}
use Rattle.udf_file_mends.proofs.Behind.{mended_reads}
use Rattle.udf_file_mends.proofs.Contents as contents
use Rattle.udf_file_mends.proofs.Disk as disks
use Rattle.udf_file_mends.proofs.Filled.{RecordedRuns}
use Rattle.udf_file_mends.proofs.Fitting as fitting
use Rattle.udf_file_mends.proofs.Held as held
use Rattle.udf_file_mends.proofs.Reach.{AllRecorded}
use Rattle.udf_file_mends.proofs.Runs.{runs_same}
use Rattle.udf_file_mends.proofs.Sites.{data_site, extent_site, extents_among}

number_is : (m n : ℕ) → (m == n) ≡ true → m ≡ n
number_is m n t = grind (arith, nat_tests)

le_of : (m n : ℕ) → nat_le m n ≡ true → m ≤ n
le_of m n t = grind (arith, nat_tests)

-- ---- a list rests on kind, file type, information length and body alone
pub list_by_values : (v : Volume) (a : Addr) (e : Entry) (w : Wanted) → w.body ≡ e.body → w.information ≡ e.information → list_for v a (mended w e) ≡ list_for v a e
unfolding list_for flat_for rules_for
list_by_values v a e w same len =
    ap (λ i. good_front (record { size = v.size; own = a; directory = is_directory e; information = i; placed = λ x. is_some (v.place x) }) (is_extent v) nothing_yet
    (pieces (further (descriptors_in v e.kind) (2 * v.blocks)) (descriptors e.kind a w.body))) len
    ∙ ap (λ b. good_front (rules_for v a e) (is_extent v) nothing_yet (pieces (further (descriptors_in v e.kind) (2 * v.blocks)) (descriptors e.kind a b))) same

pub good_by_values : (v : Volume) (a : Addr) (e : Entry) (w : Wanted) → w.body ≡ e.body → w.information ≡ e.information → is_good_for v a (mended w e) ≡ is_good_for v a e
unfolding is_good_for flat_for rules_for
good_by_values v a e w same len =
    ap (λ i. is_good (record { size = v.size; own = a; directory = is_directory e; information = i; placed = λ x. is_some (v.place x) }) (is_extent v) nothing_yet
    (pieces (further (descriptors_in v e.kind) (2 * v.blocks)) (descriptors e.kind a w.body))) len
    ∙ ap (λ b. is_good (rules_for v a e) (is_extent v) nothing_yet (pieces (further (descriptors_in v e.kind) (2 * v.blocks)) (descriptors e.kind a b))) same

pub recorded_runs : (v : Volume) (disk : ℕ → List ℕ) (some : 0 < v.size) (ps : List Piece) → AllRecorded ps → RecordedRuns v disk some (runs_of ps)
unfolding runs_of
recorded_runs v disk some [] r = tt
recorded_runs v disk some (Extent y ∷ rest) r = recorded_runs v disk some rest r
recorded_runs v disk some (Blocks d ∷ rest) r = (r.0, recorded_runs v disk some rest r.1)

module _ (f : Frame) (v : Volume) (disk : ℕ → List ℕ) (a : Addr) (e : Entry) (m : IsMendOn f v disk a e) where
  abbrev other : Volume
  other = with_disk v disk

  abbrev want : Wanted
  want = wanted f v a e (block_at v a)

  -- the mended entry
  abbrev pub new : Entry
  new = mended (wanted f v a e (block_at v a)) e

  abbrev pub left : List Piece
  left = mended_list f v a e

  abbrev b : ℕ
  b = mended_length f v a e

  abbrev xs : List Piece
  xs = list_for v a e

  abbrev kept : ℕ
  kept = kept_length (setting_of f v) (tree_of f v) a

  pub some : 0 < v.size
  some = held.some f v m.repairable a e m.kept m.entry

  pub body_bytes : IsBytes e.body
  body_bytes = fitting.body_bytes f v m.repairable a e m.kept m.entry

  pub entry_reads : entry_at (with_disk v disk) a ≡ Some new
  unfolding entry_at
  entry_reads =
      let r = held.block f v m.repairable a e m.kept m.entry in
      let there : disk r.sector ≡ mended_entry a.block e.header want (block_at v a) = sym (ap (block_by disk) r.place) ∙ disks.own_block f v disk a e m in
      ap (λ t. cond t (entry_by other a (v.place a)) None) r.fits
      ∙ ap (entry_by other a) r.place
      ∙ ap (entry_of a.block) there
      ∙ mended_reads a.block e.header want (block_at v a) (held.has_entry f v m.repairable a e m.kept m.entry) (fitting.wanted_fits f v m.repairable a e m.kept m.entry)
      ∙ ap (λ z. Some (mended want z)) (held.is_entry f v m.repairable a e m.kept m.entry)

  -- ---- where the list stays
  module _ (stays : list_stays f v a e ≡ true) where
    parts : (allocation_holds f v a e ≡ true) × ((not (is_directory e) || content_stays f v a) ≡ true)
    unfolding list_stays
    parts = and_parts (allocation_holds f v a e) (not (is_directory e) || content_stays f v a) stays

    pub listed : (is_good_for v a e ≡ true) × ((list_all (holds (setting_of f v) (tree_of f v) a) (node_at (tree_of f v) a).list ≡ true) × (nat_le e.information (good_length v a e) ≡ true))
    unfolding allocation_holds
    listed =
        let x = and_parts (is_good_for v a e) (list_all (holds (setting_of f v) (tree_of f v) a) (node_at (tree_of f v) a).list && nat_le e.information (good_length v a e)) parts.0 in
        (x.0, and_parts (list_all (holds (setting_of f v) (tree_of f v) a) (node_at (tree_of f v) a).list) (nat_le e.information (good_length v a e)) x.1)

    pub stays_list : left ≡ xs
    unfolding mended_list
    stays_list = ap (λ t. cond t xs (cut_pieces b xs)) stays

    pub same_body : want.body ≡ e.body
    unfolding wanted
    same_body = ap (λ t. cond t e.body (cut_wanted f v a e)) stays

    pub same_information : want.information ≡ e.information
    unfolding wanted
    same_information = ap (λ t. cond t e.information b) stays

    pub block_stays : (x : Addr) → Member x (addresses v.size xs) → block_at other x ≡ block_at v x
    block_stays x i = disks.stays_block f v disk a e m stays x (let P : List Piece → Type 0 = λ l. Member x (addresses v.size l) in subst P (sym stays_list) i)

    extent_stays : (x : Addr) → IsAmong x xs → extent_at v x ≡ extent_at other x
    unfolding extent_at
    extent_stays x i = by (v.place x) (block_stays x (extent_site v.size xs x (extents_among xs x i)))
      where
        by : (o : Option ℕ) → block_by disk o ≡ block_by v.disk o → body_at v.disk x.block o ≡ body_at disk x.block o
        by None h = refl
        by (Some n) h = ap (extent_body x.block) (sym h)

    pub stays_reads : list_for other a new ≡ left
    stays_reads = list_by_values other a e want same_body same_information ∙ list_local v disk a e listed.0 extent_stays ∙ sym stays_list

    pub stays_good : is_good_for other a new ≡ true
    stays_good = good_by_values other a e want same_body same_information ∙ good_local v disk a e listed.0 extent_stays

    -- all of the list is kept
    pub all_kept : kept_length (setting_of f v) (tree_of f v) a ≡ good_length v a e
    unfolding kept_length tree_length
    all_kept =
        before_whole (holds (setting_of f v) (tree_of f v) a) (node_at (tree_of f v) a).list (λ i n. all_at (holds (setting_of f v) (tree_of f v) a) (node_at (tree_of f v) a).list i listed.1.0 n)
        ∙ length_is f v a e m.entry (held.other f v m.repairable a e m.kept m.entry) some

    pub stays_length : good_length other a new ≡ good_length v a e
    unfolding good_length
    stays_length =
        ap (λ l. cond (e.kind == 3) (length l) (size_of (list_for other a new))) same_body
        ∙ ap (λ l. cond (e.kind == 3) (length e.body) (size_of l)) (stays_reads ∙ stays_list)

    pub stays_within : new.information ≤ good_length other a new
    stays_within = omega (arith, same_information, stays_length, le_of e.information (good_length v a e) listed.1.1)

    module _ (directory : is_directory e ≡ true) where
      pub content_whole : content_stays f v a ≡ true
      content_whole = sym (ap (λ t. not t || content_stays f v a) directory) ∙ parts.1

      pub stays_content : content_to other new left (good_length other a new) ≡ mended_content f v a
      unfolding content_to content
      stays_content =
          ap (λ t. cond t (take (min (good_length other a new) want.information) (cond (e.kind == 3) want.body (runs_bytes other (runs_of left)))) []) directory
          ∙ ap (λ n. take (min n want.information) (cond (e.kind == 3) want.body (runs_bytes other (runs_of left)))) (stays_length ∙ sym all_kept)
          ∙ ap (λ n. take (min kept n) (cond (e.kind == 3) want.body (runs_bytes other (runs_of left)))) same_information
          ∙ ap (λ l. take (min kept e.information) (cond (e.kind == 3) l (runs_bytes other (runs_of left)))) same_body
          ∙ ap (λ l. take (min kept e.information) (cond (e.kind == 3) e.body (runs_bytes other (runs_of l)))) stays_list
          ∙ ap (λ l. take (min kept e.information) (cond (e.kind == 3) e.body l)) (runs_same v disk some xs (λ x i. block_stays x (data_site v.size xs x i)))
          ∙ sym (held.content_taken f v m.repairable a e m.kept m.entry directory)
          ∙ sym (contents.stays_is f v m.repairable a e m.kept m.entry directory content_whole)

      pub stays_capacity : capacity v.size new left ≡ capacity v.size e xs
      unfolding capacity
      stays_capacity =
          ap (λ l. cond (e.kind == 3) (length l) (to_part v.size left)) same_body
          ∙ ap (λ l. cond (e.kind == 3) (length e.body) (to_part v.size l)) stays_list
