-- What is known of a kept entry of a repairable volume: its block, its list, and how long its kept content is.
use Rattle.std.proofs.Common.{◌≡◌, ◌⊎◌, ℕ, ◌+◌, ◌^◌, ◌<◌, ◌≤◌, ◌&&◌, ◌||◌, not, nat_le, nat_lt, Bool, true, false, cond, Option, Some, None, List, [], ◌∷◌, length, take, replicate, refl, sym, ap, ◌∙◌, subst, inl, inr, arith, length-append, length-take}
use Rattle.std.specs.List.{list_all}
use Rattle.std.proofs.lemmas.List.{length-replicate}
use Rattle.std.specs.Prelude.{◌==◌, min}
use Rattle.std.proofs.lemmas.Bool.{and_parts, false≢true}
use Rattle.std.proofs.lemmas.Bool.Decides.{nat_tests}
use Rattle.udf_field.specs.declared.address.Addr.{Addr}
use Rattle.udf_model.specs.Bytes.{IsBytes}
use Rattle.udf_model.proofs.Sizes.{size_cases}
use Rattle.udf_file_model.specs.Content.{block_at, block_by, blocks_from, content, run_bytes, runs_bytes}
use Rattle.udf_file_model.specs.Descriptors.{Descriptor}
use Rattle.udf_file_model.specs.Entry.{Entry, entry_by as entry_read, entry_header, entry_in, entry_of, is_directory}
use Rattle.udf_file_model.specs.Front.{blocks_for, is_good, nothing_yet}
use Rattle.udf_file_model.specs.Listing.{Volume, flat_for, good_length, is_extent, list_for, rules_for}
use Rattle.udf_file_model.specs.Pieces.{Piece, bytes_in, runs_of, size_of}
use Rattle.udf_file_model.specs.Cut.{to_part}
use Rattle.udf_file_model.specs.Wanted.{HasEntry}
use Rattle.udf_file_model.proofs.CutReads.{good_good}
use Rattle.udf_tree_model.specs.Node.{Node, Setting, Tree, node_at}
use Rattle.udf_tree_model.specs.Won.{kept_length, sound, wins}
use Rattle.udf_tree_model.specs.Kept.{kept}
use Rattle.udf_tree_model.specs.Found.{found}
use Rattle.udf_tree_model.specs.Content.{content_by, kept_content}
use Rattle.udf_tree_model.specs.Frame.{Frame, capacity, content_to, entry_at, entry_by, is_address, is_holder, node_with, setting_of, tree_of}
use Rattle.udf_tree_model.specs.Laws.{HasSoundStarts, IsWithin}
use Rattle.udf_tree_model.specs.Ordinary.{is_kept_entry}
use Rattle.udf_tree_model.proofs.Finding.{volume_within}
use Rattle.udf_tree_model.proofs.Keeping.{kept_sound}
use Rattle.udf_tree_model.proofs.Stating.{accepted_starts, length_is, node_is}
use Rattle.udf_tree_model.proofs.Winning.{kept_within}
use Rattle.udf_file_mends.specs.Repairable.{IsRepairable}
use Rattle.udf_file_mends.proofs.Reach.{good_small, part_reach}

not_true : (b : Bool) → not b ≡ true → b ≡ false
not_true true e = absurd (false≢true e)
not_true false e = refl

le_of : (m n : ℕ) → nat_le m n ≡ true → m ≤ n
le_of m n t = grind (arith, nat_tests)

lt_of : (m n : ℕ) → nat_lt m n ≡ true → m < n
lt_of m n t = grind (arith, nat_tests)

-- the block of a readable entry
pub record IsRead (v : Volume) (a : Addr) (e : Entry) : Type 0 where
  pub sector : ℕ
  pub place : v.place a ≡ Some sector
  pub fits : is_address a ≡ true
  pub header : entry_header a.block (v.disk sector) ≡ Some e.header
  pub is : entry_in e.header (v.disk sector) ≡ e

pub is_read : (v : Volume) (a : Addr) (e : Entry) → entry_at v a ≡ Some e → IsRead v a e
unfolding entry_at entry_of
is_read v a e h = by (is_address a) refl (v.place a) refl h
  where
    same : (x y : Entry) → Some x ≡ Some y → x ≡ y
    same x y i = cc

    read : is_address a ≡ true → (sector : ℕ) → v.place a ≡ Some sector → (o : Option ℕ) → entry_header a.block (v.disk sector) ≡ o → entry_read (v.disk sector) o ≡ Some e → IsRead v a e
    read i sector p None k g = cc
    read i sector p (Some header) k g =
        let z = same (entry_in header (v.disk sector)) e g in
        let y : header ≡ e.header = ap (λ (x : Entry). x.header) z in
        record { sector = sector; place = p; fits = i; header = k ∙ ap Some y; is = ap (λ n. entry_in n (v.disk sector)) (sym y) ∙ z }

    by : (b : Bool) → is_address a ≡ b → (o : Option ℕ) → v.place a ≡ o → cond b (entry_by v a o) None ≡ Some e → IsRead v a e
    by false i o p k = cc
    by true i None p k = cc
    by true i (Some sector) p k = read i sector p (entry_header a.block (v.disk sector)) refl k

pub block_there : (v : Volume) (a : Addr) (sector : ℕ) → v.place a ≡ Some sector → block_at v a ≡ v.disk sector
block_there v a sector p = ap (block_by v.disk) p

pub address_fits : (a : Addr) → is_address a ≡ true → (a.part < 65536) × (a.block < 4294967296)
address_fits a h = let t = and_parts (nat_lt a.part 65536) (nat_lt a.block 4294967296) h in (lt_of a.part 65536 t.0, lt_of a.block 4294967296 t.1)

-- ---- lengths of contents
run_within : (v : Volume) (d : Descriptor) → length (run_bytes v d) ≤ d.length
unfolding run_bytes
run_within v d = by (d.kind == 0)
  where
    by : (b : Bool) → length (cond b (take d.length (blocks_from v d.at.part d.at.block (blocks_for v.size d.length))) (replicate d.length 0)) ≤ d.length
    by true = omega (arith, length-take d.length (blocks_from v d.at.part d.at.block (blocks_for v.size d.length)))
    by false = let e : length (replicate {A = ℕ} d.length 0) ≡ d.length = length-replicate d.length 0 in omega (arith, e)

pub runs_within : (v : Volume) (ds : List Descriptor) → length (runs_bytes v ds) ≤ bytes_in ds
unfolding runs_bytes
runs_within v [] = omega arith
runs_within v (d ∷ ds) = omega (arith, length-append (run_bytes v d) (runs_bytes v ds), run_within v d, runs_within v ds)

module _ (f : Frame) (v : Volume) (ok : IsRepairable f v) (a : Addr) (e : Entry) (kept_there : is_kept_entry f v a ≡ true) (reads : entry_at v a ≡ Some e) where
  abbrev pub s : Setting
  s = setting_of f v

  abbrev pub t : Tree
  t = tree_of f v

  abbrev pub xs : List Piece
  xs = list_for v a e

  abbrev pub limit : ℕ
  limit = kept_length s t a

  pub sizes : (512 ≤ v.size) × (v.size ≤ 4096)
  sizes = size_cases v.size ok.size

  pub some : 0 < v.size
  some = omega (arith, sizes.0)

  pub is_kept : kept s t a ≡ true
  unfolding is_kept_entry
  is_kept = (and_parts (kept s t a) (not (is_holder f v a)) kept_there).0

  pub other : is_holder f v a ≡ false
  unfolding is_kept_entry
  other = not_true (is_holder f v a) (and_parts (kept s t a) (not (is_holder f v a)) kept_there).1

  pub starts : HasSoundStarts s t
  starts = accepted_starts f v ok.accepted ok.file_set

  pub within : IsWithin s t
  within = volume_within f v

  pub is_sound : sound s t a ≡ true
  is_sound = kept_sound s t within starts a is_kept

  pub node : node_at t a ≡ node_with f v a e xs
  node = node_is f v a e reads other

  pub limit_within : limit ≤ good_length v a e
  limit_within = omega (arith, kept_within s t a, length_is f v a e reads other some)

  pub block : IsRead v a e
  block = is_read v a e reads

  pub whole : length (block_at v a) ≡ v.size
  whole = ap length (block_there v a block.sector block.place) ∙ ok.whole a block.sector block.place

  pub has_entry : HasEntry a.block e.header (block_at v a)
  has_entry =
      let P : List ℕ → Type 0 = λ b. IsBytes b in
      record {
        bytes = subst P (sym (block_there v a block.sector block.place)) (ok.bytes block.sector);
        least = omega (arith, whole, sizes.0);
        most = omega (arith, whole, sizes.1);
        low = (address_fits a block.fits).1;
        readable = ap (entry_header a.block) (block_there v a block.sector block.place) ∙ block.header;
      }

  pub is_entry : entry_in e.header (block_at v a) ≡ e
  is_entry = ap (entry_in e.header) (block_there v a block.sector block.place) ∙ block.is

  pub good : is_good (rules_for v a e) (is_extent v) nothing_yet xs ≡ true
  unfolding list_for rules_for
  good = good_good (rules_for v a e) (is_extent v) some (flat_for v a e) nothing_yet

  pub small : size_of xs < 2 ^ 63
  small = good_small (rules_for v a e) (is_extent v) xs nothing_yet good

  -- the kept content
  pub content_is : kept_content f v a ≡ content_to v e xs limit
  unfolding kept_content
  content_is = ap (content_by f v a) reads

  -- of a file nothing is read
  pub file_content : is_directory e ≡ false → kept_content f v a ≡ []
  unfolding content_to
  file_content k = content_is ∙ ap (λ b. cond b (content v e (runs_of xs) limit) []) k

  module _ (directory : is_directory e ≡ true) where
    abbrev pub whole_bytes : List ℕ
    whole_bytes = cond (e.kind == 3) e.body (runs_bytes v (runs_of xs))

    pub content_taken : kept_content f v a ≡ take (min limit e.information) whole_bytes
    unfolding content_to content
    content_taken = content_is ∙ ap (λ b. cond b (content v e (runs_of xs) limit) []) directory

    content_length : length (kept_content f v a) ≡ min (min limit e.information) (length whole_bytes)
    content_length = ap length content_taken ∙ length-take (min limit e.information) whole_bytes

    pub content_kept : length (kept_content f v a) ≤ limit
    content_kept = omega (arith, content_length)

    reach : (size_of xs ≤ to_part v.size xs) ⊎ (e.information ≤ to_part v.size xs)
    unfolding rules_for
    reach = by (part_reach (rules_for v a e) (is_extent v) xs nothing_yet good)
      where
        by : (size_of xs ≤ to_part v.size xs) ⊎ (e.information ≤ 0 + to_part v.size xs) → (size_of xs ≤ to_part v.size xs) ⊎ (e.information ≤ to_part v.size xs)
        by (inl l) = inl l
        by (inr l) = inr (omega (arith, l))

    pub content_fits : length (kept_content f v a) ≤ capacity v.size e xs
    unfolding capacity
    content_fits = by (e.kind == 3) content_length
      where
        listed : (size_of xs ≤ to_part v.size xs) ⊎ (e.information ≤ to_part v.size xs) → length (kept_content f v a) ≡ min (min limit e.information) (length (runs_bytes v (runs_of xs)))
            → length (kept_content f v a) ≤ to_part v.size xs
        listed (inl l) h = omega (arith, l, h, runs_within v (runs_of xs))
        listed (inr l) h = omega (arith, l, h)

        by : (b : Bool) → length (kept_content f v a) ≡ min (min limit e.information) (length (cond b e.body (runs_bytes v (runs_of xs)))) → length (kept_content f v a) ≤ cond b (length e.body) (to_part v.size xs)
        by true h = omega (arith, h)
        by false h = listed reach h

    -- it is long enough
    pub content_long : 40 ≤ length (kept_content f v a)
    unfolding sound node_with
    content_long =
        let p = and_parts (list_all (wins s t a) (node_at t a).own) (not (node_at t a).directory || (node_at t a).enough limit) (and_parts (found s t a) (list_all (wins s t a) (node_at t a).own && (not (node_at t a).directory || (node_at t a).enough limit)) is_sound).1 in
        let q = p.1 in
        let r : (not (is_directory e) || nat_le 40 (length (content_to v e xs limit))) ≡ true = sym (ap (λ (n : Node). not n.directory || n.enough limit) node) ∙ q in
        let l : nat_le 40 (length (content_to v e xs limit)) ≡ true = sym (ap (λ b. not b || nat_le 40 (length (content_to v e xs limit))) directory) ∙ r in
        omega (arith, le_of 40 (length (content_to v e xs limit)) l, ap length content_is)
