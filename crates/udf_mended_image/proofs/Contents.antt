-- The mended content of a directory begins with a FID, and a directory takes the address after the file set's extent for the first
-- block of its list alone, so it never ends a list there.
use Rattle.std.proofs.Common.{◌≡◌, ◌⊎◌, inl, inr, ℕ, zero, suc, ◌+◌, ◌*◌, ◌%◌, ◌<◌, ◌≤◌, arith, refl, sym, ◌∙◌, ap, subst, List, [], ◌∷◌, ◌++◌, length, take, drop, map, get_or, Bool, true, false, cond, not, nat_lt, ◌&&◌, Option, Some, None, length-take}
use Rattle.std.specs.Prelude.{◌==◌}
use Rattle.std.specs.List.{AllByRecursion, range_with_len}
use Rattle.std.proofs.Math.Nat.{div-eq_of_lt, mod-eq-sub-div-mul}
use Rattle.std.proofs.lemmas.Bool.{and_parts, false≢true}
use Rattle.std.proofs.lemmas.Bool.Decides.{nat_tests}
use Rattle.std.proofs.lemmas.List.{get_or-take, get_or_append_left}
use Rattle.std.proofs.lemmas.Slice.Eq.{bytes_eq-Decides}
use Rattle.udf_field.specs.declared.address.Addr.{Addr}
use Rattle.udf_model.specs.Bytes.{written_at}
use Rattle.udf_model.specs.Tag.{id_at, identifier, is_id, is_whole, location, whole_id}
use Rattle.udf_model.proofs.Written.{same_number, written_from}
use Rattle.udf_file_model.specs.Address.{addr, same_addr}
use Rattle.udf_file_model.specs.Content.{block_at}
use Rattle.udf_file_model.specs.Cut.{to_part}
use Rattle.udf_file_model.specs.Descriptors.{Descriptor, descriptors, descriptors_from, descriptor_at, descriptor_count}
use Rattle.udf_file_model.specs.Entry.{Entry, is_directory}
use Rattle.udf_file_model.specs.Fid.{IsFid}
use Rattle.udf_file_model.specs.Front.{Past, Rules, blocks_for, extent_passes, front_of, good_front, is_hole, may_come, new_in, nothing_yet, run_front, run_passes, with_extent, with_run}
use Rattle.udf_file_model.specs.Listing.{Volume, addresses_from, descriptors_by, descriptors_in, descriptors_of, extent_at, flat_for, is_extent, list_for, rules_for, with_disk}
use Rattle.udf_file_model.specs.Pack.{packed}
use Rattle.udf_file_model.specs.Pieces.{Blocks, Extent, Piece, blocks_each, further, pieces, runs_of}
use Rattle.udf_file_model.specs.Scan.{fids, fids_of}
use Rattle.udf_file_model.proofs.Fids.{is_long}
use Rattle.udf_file_model.proofs.Local.{list_embedded}
use Rattle.udf_file_model.proofs.Scanned.{all_fids}
use Rattle.udf_volume_model.specs.Edits.{look}
use Rattle.udf_tree_model.specs.Among.{Member}
use Rattle.udf_tree_model.specs.Claimed.{mended_list}
use Rattle.udf_tree_model.specs.Content.{content_holds, mended_content}
use Rattle.udf_tree_model.specs.Frame.{Frame, block_class, block_item, capacity, empty_item, entry_at, extent_class, is_barred, is_first, is_holder, items, items_of, node_with, run_items, setting_of, tree_of}
use Rattle.udf_tree_model.specs.Node.{Item, Node, node_at}
use Rattle.udf_tree_model.specs.Ordinary.{is_kept_entry}
use Rattle.udf_tree_model.proofs.Linking.{Distinct}
use Rattle.udf_tree_model.proofs.Members.{contains_of, member_append, member_left, member_map, member_of_map, member_right}
use Rattle.udf_tree_model.proofs.Places.{address_same, same_address}
use Rattle.udf_tree_model.proofs.Stating.{blocks_reach, node_is}
use Rattle.udf_tree_model.proofs.Winning.{wins_gives}
use Rattle.udf_file_mends.specs.Mends.{edits_at}
use Rattle.udf_file_mends.specs.Repairable.{IsMendOn, IsRepairable}
use Rattle.udf_file_mends.specs.Spread.{Sited, spread, spread_from}
use Rattle.udf_file_mends.proofs.Contents.{IsMendedContent, is_mended_content}
use Rattle.udf_file_mends.proofs.Disk.{left_recorded, mended_distinct}
use Rattle.udf_file_mends.proofs.Held as held
use Rattle.udf_file_mends.proofs.Nodes.{entry_reads, holds_mended, is_mended, list_reads, new}
use Rattle.udf_file_mends.proofs.Reach.{AllRecorded}
use Rattle.udf_file_mends.proofs.Sited.{sites}
use Rattle.udf_file_mends.proofs.Sites.{run_sites, runs_distinct, sites_spread}
use Rattle.udf_mended_image.proofs.Behind.{ContentsKeep, is_end}

-- ---- no descriptor of a list is empty
abbrev EachLong : List Descriptor → Type 0
EachLong [] = Unit {0}
EachLong (d ∷ ds) = (0 < d.length) × EachLong ds

some_is : (n : ℕ) → (n == 0) ≡ false → 0 < n
some_is n t = grind (arith, nat_tests)

from_long : (at : ℕ → Descriptor) (n i : ℕ) → EachLong (descriptors_from at i n)
unfolding descriptors_from
from_long at zero i = tt
from_long at (suc n) i = by ((at i).length == 0) refl (from_long at n (i + 1))
  where
    by : (b : Bool) → ((at i).length == 0) ≡ b → EachLong (descriptors_from at (i + 1) n) → EachLong (cond b [] (at i ∷ descriptors_from at (i + 1) n))
    by true e h = tt
    by false e h = (some_is (at i).length e, h)

descriptors_long : (kind : ℕ) (holder : Addr) (body : List ℕ) → EachLong (descriptors kind holder body)
unfolding descriptors
descriptors_long kind holder body = from_long (descriptor_at kind holder body) (descriptor_count kind (length body)) 0

pieces_long : (k : Addr → List Piece) → ((x : Addr) → EachLong (runs_of (k x))) → (ds : List Descriptor) → EachLong ds → EachLong (runs_of (pieces k ds))
unfolding pieces runs_of
pieces_long k on [] h = tt
pieces_long k on (d ∷ ds) h = by (d.kind == 3) (pieces_long k on ds h.1)
  where
    by : (b : Bool) → EachLong (runs_of (pieces k ds)) → EachLong (runs_of (cond b (Extent d.at ∷ k d.at) (Blocks d ∷ pieces k ds)))
    by true r = on d.at
    by false r = (h.0, r)

further_long : (at : Addr → List Descriptor) → ((x : Addr) → EachLong (at x)) → (n : ℕ) (x : Addr) → EachLong (runs_of (further at n x))
unfolding further runs_of
further_long at on zero x = tt
further_long at on (suc n) x = pieces_long (further at n) (λ y. further_long at on n y) (at x) (on x)

module _ (r : Rules) (whole : Addr → Bool) (some : 0 < r.size) where
  -- a descriptor that is cut at a block has that block
  cut_long : (past : Past) (d : Descriptor) → EachLong (runs_of (blocks_each (run_front r past d)))
  unfolding run_front runs_of
  cut_long past d = by (may_come r past d)
    where
      more : (n : ℕ) → 0 < n → 0 < n * r.size
      more zero l = absurd (omega (arith, l))
      more (suc n) l = omega (arith, some)

      at : (n : ℕ) (b : Bool) → (n == 0) ≡ b → EachLong (runs_of (blocks_each (cond b [] (record d { length = n * r.size } ∷ []))))
      at n true e = tt
      at n false e = (more n (some_is n e), tt)

      by : (b : Bool) → EachLong (runs_of (blocks_each (cond b (front_of r.size d (new_in r past d)) [])))
      by true = at (new_in r past d) (new_in r past d == 0) refl
      by false = tt

  front_long : (ps : List Piece) (past : Past) → EachLong (runs_of ps) → EachLong (runs_of (good_front r whole past ps))
  unfolding good_front runs_of
  front_long [] past h = tt
  front_long (Extent x ∷ rest) past h = by (extent_passes r whole past x) (front_long rest (with_extent past x) h)
    where
      by : (b : Bool) → EachLong (runs_of (good_front r whole (with_extent past x) rest)) → EachLong (runs_of (cond b (Extent x ∷ good_front r whole (with_extent past x) rest) []))
      by true k = k
      by false k = tt
  front_long (Blocks d ∷ rest) past h = by (run_passes r past d) (front_long rest (with_run past d) h.1)
    where
      by : (b : Bool) → EachLong (runs_of (good_front r whole (with_run past d) rest))
          → EachLong (runs_of (cond b (Blocks d ∷ good_front r whole (with_run past d) rest) (blocks_each (run_front r past d))))
      by true k = (h.0, k)
      by false k = cut_long past d

list_long : (v : Volume) (a : Addr) (e : Entry) → 0 < v.size → EachLong (runs_of (list_for v a e))
unfolding list_for flat_for rules_for descriptors_in
list_long v a e some =
    front_long (rules_for v a e) (is_extent v) some (flat_for v a e) nothing_yet
    (pieces_long (further (descriptors_in v e.kind) _) (λ x. further_long (descriptors_in v e.kind) (λ y. in_extent y (extent_at v y)) _ x) (descriptors_of a e) (descriptors_long e.kind a e.body))
  where
    in_extent : (x : Addr) (o : Option (List ℕ)) → EachLong (descriptors_by e.kind x o)
    in_extent x None = tt
    in_extent x (Some body) = descriptors_long e.kind x body

-- ---- the first descriptor has a whole FID's first bytes
abbrev LongFirst : List Descriptor → Type 0
LongFirst [] = Unit {0}
LongFirst (d ∷ ds) = 40 ≤ d.length

-- a descriptor of whole blocks has one
whole_blocks : (size n : ℕ) → 0 < n → (n % size == 0) ≡ true → size ≤ n
whole_blocks size n some h = by (nat_lt n size) refl
  where
    none : (m : ℕ) → (m == 0) ≡ true → m ≡ 0
    none m t = grind (arith, nat_tests)

    short : n < size → n % size ≡ n
    short l = omega (arith, mod-eq-sub-div-mul n size, ap (λ (q : ℕ). q * size) (div-eq_of_lt l))

    by : (b : Bool) → nat_lt n size ≡ b → size ≤ n
    by true t = let l : n < size = grind (arith, nat_tests) in absurd (omega (arith, some, short l, none (n % size) h))
    by false t = grind (arith, nat_tests)

first_long : (size n : ℕ) → 40 ≤ size → 40 ≤ n → (ps : List Piece) → EachLong (runs_of ps) → n ≤ to_part size ps → LongFirst (runs_of ps)
unfolding runs_of to_part
first_long size n large long [] h l = tt
first_long size n large long (Extent x ∷ rest) h l = first_long size n large long rest h l
first_long size n large long (Blocks d ∷ rest) h l = by (d.length % size == 0) refl l
  where
    by : (b : Bool) → (d.length % size == 0) ≡ b → n ≤ cond (not b) d.length (d.length + to_part size rest) → 40 ≤ d.length
    by true t k = omega (arith, large, whole_blocks size d.length h.0 t)
    by false t k = omega (arith, long, k)

-- ---- what begins with a FID ends no list
fid_identifier : (size : ℕ) (fid : List ℕ) → IsFid size fid → identifier fid ≡ 257
unfolding whole_id
fid_identifier size fid is = by (is_whole fid) is.whole
  where
    by : (b : Bool) → cond b (Some (identifier fid)) None ≡ Some 257 → identifier fid ≡ 257
    by true e = cc
    by false e = cc

-- whole content begins with the identifier of its first FID
content_identifier : (size : ℕ) (content : List ℕ) → 40 ≤ length content → content ≡ packed (fids_of (fids size content)) → identifier content ≡ 257
content_identifier size content long whole = by (fids_of (fids size content)) (all_fids size 0 0 content) whole
  where
    by : (list : List (List ℕ)) → AllByRecursion (IsFid size) list → content ≡ packed list → identifier content ≡ 257
    by [] all e = let l = ap length e in absurd (omega (arith, l, long))
    by (fid ∷ list) all e =
        same_number 2 0 content fid (λ k l m. ap (λ xs. get_or xs k 0) e ∙ get_or_append_left fid (packed list) 0 k (omega (arith, m, is_long size fid all.0)))
        ∙ fid_identifier size fid all.0

-- bytes written at the front of a block have the identifier of what they are taken from
front_identifier : (size many : ℕ) (content block : List ℕ) → 40 ≤ size → 40 ≤ many → 40 ≤ length content
    → identifier (written_at 0 (take size (take many content)) block) ≡ identifier content
front_identifier size many content block large more long =
    same_number 2 0 (written_at 0 bytes block) content
    (λ k l m.
    ap (λ xs. get_or xs k 0) (written_from 0 bytes block (omega arith))
    ∙ get_or_append_left bytes (drop (0 + length bytes) block) 0 k (omega (arith, m, large, more, long, length-take size (take many content), length-take many content))
    ∙ get_or-take size (take many content) k 0 (omega (arith, m, large)) ∙ get_or-take many content k 0 (omega (arith, m, more)))
  where
    bytes : List ℕ
    bytes = take size (take many content)

fid_not_end : (at : ℕ) (block : List ℕ) → identifier block ≡ 257 → is_end at block ≡ false
unfolding id_at
fid_not_end at block e = by (is_whole block && (location block == at))
  where
    by : (b : Bool) → is_id 8 (cond b (Some (identifier block)) None) ≡ false
    by true = ap (λ i. i == 8) e
    by false = refl

-- ---- of blocks at different addresses one has the first address
sole : (b : Sited) (bs : List Sited) → Distinct (sites (b ∷ bs)) → (c : Sited) → Member c (b ∷ bs) → c.0 ≡ b.0 → c.1 ≡ b.1
sole b bs d c (inl e) q = ap (λ (z : Sited). z.1) e
sole b bs d c (inr m) q = absurd (d.0 (subst (λ (z : Addr). Member z (sites bs)) q (member_map (λ (z : Sited). z.0) bs c m)))

first_written : (v : Volume) (d : Descriptor) (ds : List Descriptor) (content : List ℕ) → 0 < blocks_for v.size d.length → Distinct (sites (spread v (d ∷ ds) content))
    → (c : Sited) → Member c (spread v (d ∷ ds) content) → c.0 ≡ d.at → c.1 ≡ written_at 0 (take v.size (take d.length content)) (block_at v d.at)
unfolding spread spread_from
first_written v d ds content some dist c m q = by (blocks_for v.size d.length) some dist m
  where
    others : List Sited
    others = spread v ds (drop d.length content)

    by : (n : ℕ) → 0 < n → Distinct (sites (spread_from v d.at.part d.at.block n (take d.length content) ++ spread v ds (drop d.length content)))
        → Member c (spread_from v d.at.part d.at.block n (take d.length content) ++ spread v ds (drop d.length content))
        → c.1 ≡ written_at 0 (take v.size (take d.length content)) (block_at v d.at)
    by zero l k j = absurd (omega (arith, l))
    by (suc n) l k j =
        sole (d.at, written_at 0 (take v.size (take d.length content)) (block_at v d.at)) (spread_from v d.at.part (d.at.block + 1) n _ ++ others) k c j q

-- ---- a block of a descriptor is an item, barred as its address is
record Barred (barred : Addr → Bool) (x : Addr) (is : List Item) : Type 0 where
  item : Item
  among : Member item is
  takes : item.takes ≡ true
  same : item.barred ≡ barred x

module _ (size extents class : ℕ) (barred : Addr → Bool) (x : Addr) where
  in_run : (d : Descriptor) → d.kind ≡ 0 → Member x (addresses_from d.at (blocks_for size d.length)) → Barred barred x (run_items size class barred d)
  unfolding run_items
  in_run d e m = by (is_hole d) (ap (λ (k : ℕ). k == 2) e)
    where
      by : (b : Bool) → b ≡ false → Barred barred x (cond b (empty_item d.length ∷ []) (map (block_item size class barred d) (range_with_len d.at.block (blocks_for size d.length))))
      by true q = absurd (false≢true (sym q))
      by false q = let r = member_of_map (λ b. addr d.at.part b) (range_with_len d.at.block (blocks_for size d.length)) x m in
          record {
            item = block_item size class barred d r.0;
            among = member_map (block_item size class barred d) (range_with_len d.at.block (blocks_for size d.length)) r.0 r.1;
            takes = refl;
            same = ap barred (sym r.2);
          }

  in_items : (ps : List Piece) → AllRecorded ps → Member x (run_sites size (runs_of ps)) → Barred barred x (items size extents class barred ps)
  unfolding runs_of items
  in_items [] h m = absurd m
  in_items (Extent y ∷ rest) h m = let r = in_items rest h m in record { item = r.item; among = inr r.among; takes = r.takes; same = r.same }
  in_items (Blocks d ∷ rest) h m = by (member_append (addresses_from d.at (blocks_for size d.length)) (run_sites size (runs_of rest)) x m) (λ j. in_items rest h.1 j)
    where
      by : Member x (addresses_from d.at (blocks_for size d.length)) ⊎ Member x (run_sites size (runs_of rest))
          → (Member x (run_sites size (runs_of rest)) → Barred barred x (items size extents class barred rest))
          → Barred barred x (run_items size class barred d ++ items size extents class barred rest)
      by (inl j) on =
          let r = in_run d h.0 j in
          record { item = r.item; among = member_left (run_items size class barred d) (items size extents class barred rest) r.item r.among; takes = r.takes; same = r.same }
      by (inr j) on =
          let r = on j in
          record { item = r.item; among = member_right (run_items size class barred d) (items size extents class barred rest) r.item r.among; takes = r.takes; same = r.same }

module _ (f : Frame) (v : Volume) (ok : IsRepairable f v) where
  module _ (a : Addr) (e : Entry) (kept : is_kept_entry f v a ≡ true) (reads : entry_at v a ≡ Some e) (directory : is_directory e ≡ true) where
    -- a disk with the mend of this entry alone
    abbrev disk : ℕ → List ℕ
    disk n = look n (edits_at f v a) (v.disk n)

    mend : IsMendOn f v disk a e
    mend = record { repairable = ok; kept = kept; entry = reads; has = record { blocks = λ y m k p. refl } }

    abbrev left : List Piece
    left = mended_list f v a e

    abbrev after : Entry
    after = new f v disk a e mend

    abbrev runs : List Descriptor
    runs = runs_of (mended_list f v a e)

    large : 512 ≤ v.size
    large = (held.sizes f v ok a e kept reads).0

    some : 0 < v.size
    some = omega (arith, large)

    recorded : AllRecorded left
    recorded = left_recorded f v ok a e kept reads directory

    each_long : EachLong runs
    each_long = subst (λ (ps : List Piece). EachLong (runs_of ps)) (list_reads f v disk a e mend) (list_long (with_disk v disk) a after some)

    embedded_none : (e.kind == 3) ≡ true → left ≡ []
    embedded_none t = sym (list_reads f v disk a e mend) ∙ list_embedded (with_disk v disk) a after (grind (arith, nat_tests))

    abbrev mended : IsMendedContent f v ok a e kept reads directory
    mended = is_mended_content f v ok a e kept reads directory

    long_first : (e.kind == 3) ≡ false → LongFirst runs
    unfolding capacity
    long_first plain =
        first_long v.size (length (mended_content f v a)) (omega (arith, large)) mended.long left each_long
        (let fits = (holds_mended f v disk a e mend directory).fits in
        subst (λ b. length (mended_content f v a) ≤ cond b (length after.body) (to_part v.size left)) plain fits)

    -- the mended content begins with the identifier of a FID
    begins : identifier (mended_content f v a) ≡ 257
    unfolding content_holds
    begins = content_identifier v.size (mended_content f v a) mended.long ((bytes_eq-Decides (mended_content f v a) (packed (fids_of (fids v.size (mended_content f v a))))).0 (and_parts _ _ mended.holds).0)

    -- what the entry takes after its mend
    list_is : (e.kind == 3) ≡ false
        → (node_at (tree_of f (with_disk v disk)) a).list ≡ items v.size (extent_class f a) (block_class f a after) (is_barred f after runs) left
    unfolding node_with items_of
    list_is plain =
        ap (λ (n : Node). n.list)
        (node_is f (with_disk v disk) a after (entry_reads f v disk a e mend) (let h = held.other f v ok a e kept reads in (unfold is_holder in h)))
        ∙ ap (λ ps. (node_with f (with_disk v disk) a after ps).list) (list_reads f v disk a e mend)
        ∙ ap (λ b. cond b (empty_item (length after.body) ∷ []) (items v.size (extent_class f a) (block_class f a after) (is_barred f after runs) left)) plain

    -- it won the address behind the file set, so the first block of its list stands there
    first_there : (e.kind == 3) ≡ false → Member f.after (run_sites v.size runs) → is_first runs f.after ≡ true
    unfolding is_barred
    first_there plain m =
        let r = in_items v.size (extent_class f a) (block_class f a after) (is_barred f after runs) f.after left recorded m in
        let list = (node_at (tree_of f (with_disk v disk)) a).list in
        let there : Member r.item list = subst (λ (is : List Item). Member r.item is) (sym (list_is plain)) r.among in
        let w = (is_mended f v disk a e mend).won r.item (contains_of list r.item there) r.takes in
        let free = (wins_gives (setting_of f v) (tree_of f v) a w.0 w.3).1 in
        by (is_directory e) (same_addr f.after f.after) (is_first runs f.after) directory (address_same f.after f.after refl) (sym r.same ∙ w.2.barred ∙ free)
      where
        by : (x y z : Bool) → x ≡ true → y ≡ true → (x && (y && not z)) ≡ false → z ≡ true
        by true true true p q h = refl
        by true true false p q h = absurd (false≢true (sym h))
        by true false z p q h = absurd (false≢true q)
        by false y z p q h = absurd (false≢true p)

    sites_differ : Distinct (run_sites v.size runs)
    sites_differ = runs_distinct v.size left recorded (mended_distinct f v some a e)

    -- the block of the content at an address at which the first block of the list stands
    first_not_end : (x : Addr) (c : Sited) → c.0 ≡ x → (ds : List Descriptor) → LongFirst ds → is_first ds x ≡ true → Distinct (run_sites v.size ds)
        → Member c (spread v ds (mended_content f v a)) → is_end x.block c.1 ≡ false
    first_not_end x c q [] long h d m = absurd (false≢true h)
    first_not_end x c q (b ∷ bs) long h d m =
        let written = first_written v b bs (mended_content f v a) (blocks_some (blocks_for v.size b.length) (blocks_reach v.size b.length some))
        (subst (λ (ys : List Addr). Distinct ys) (sym (sites_spread v (b ∷ bs) (mended_content f v a))) d) c m (q ∙ sym (same_address b.at x h)) in
        fid_not_end x.block c.1
        (ap identifier written ∙ front_identifier v.size b.length (mended_content f v a) (block_at v b.at) (omega (arith, large)) long mended.long ∙ begins)
      where
        blocks_some : (n : ℕ) → b.length ≤ n * v.size → 0 < n
        blocks_some zero l = absurd (omega (arith, l, long))
        blocks_some (suc n) l = omega arith

  module _ (large : 512 ≤ v.size) (n : ℕ) (place : v.place f.after ≡ Some n) (old : is_end f.after.block (v.disk n) ≡ false) where
    pub contents_keep : ContentsKeep f v ok large f.after n place old
    unfolding spread runs_of
    contents_keep a e c kept reads directory m q = by (e.kind == 3) refl
      where
        ds : List Descriptor
        ds = runs_of (mended_list f v a e)

        site : Member f.after (run_sites v.size (runs_of (mended_list f v a e)))
        site = subst (λ (ys : List Addr). Member f.after ys) (sites_spread v ds (mended_content f v a))
            (subst (λ (y : Addr). Member y (sites (spread v ds (mended_content f v a)))) q (member_map (λ (z : Sited). z.0) (spread v ds (mended_content f v a)) c m))

        none : mended_list f v a e ≡ [] → ⊥
        none k = subst (λ (ps : List Piece). Member c (spread v (runs_of ps) (mended_content f v a))) k m

        by : (b : Bool) → (e.kind == 3) ≡ b → is_end f.after.block c.1 ≡ false
        by true k = absurd (none (embedded_none a e kept reads directory k))
        by false k =
            first_not_end a e kept reads directory f.after c q (runs_of (mended_list f v a e)) (long_first a e kept reads directory k)
            (first_there a e kept reads directory k site) (sites_differ a e kept reads directory) m
