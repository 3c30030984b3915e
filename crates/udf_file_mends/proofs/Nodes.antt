-- The node of a kept entry on a disk that has its mend is the mended node.
use Rattle.std.proofs.Common.{◌≡◌, ◌⊎◌, ℕ, ◌+◌, ◌-◌, ◌<◌, ◌≤◌, ◌&&◌, ◌||◌, not, nat_le, nat_lt, Bool, true, false, cond, Option, Some, List, [], ◌∷◌, ◌++◌, length, refl, sym, ap, ◌∙◌, subst, inl, inr, arith}
use Rattle.std.specs.Prelude.{◌==◌, ◌↔◌, is_some, min, Contains}
use Rattle.std.specs.List.{list_any}
use Rattle.std.proofs.Math.Path.{fun_ext}
use Rattle.std.proofs.lemmas.Bool.{false≢true, or_cases, or_left, or_right}
use Rattle.std.proofs.lemmas.Bool.Decides.{nat_tests}
use Rattle.udf_field.specs.declared.address.Addr.{Addr}
use Rattle.udf_file_model.specs.Address.{same_addr}
use Rattle.udf_file_model.specs.Content.{block_at, content}
use Rattle.udf_file_model.specs.Cut.{cut_pieces}
use Rattle.udf_file_model.specs.Entry.{Entry, is_directory}
use Rattle.udf_file_model.specs.Listing.{Volume, addresses, good_length, is_good_for, list_for, with_disk}
use Rattle.udf_file_model.specs.Pieces.{Piece, Extent, Blocks, runs_of}
use Rattle.udf_file_model.specs.Scan.{fids, fids_of, fids_from}
use Rattle.udf_file_model.specs.Wanted.{Wanted, mended, stream_left}
use Rattle.udf_file_model.proofs.CutReads.{cut_none}
use Rattle.udf_tree_model.specs.Among.{Member}
use Rattle.udf_tree_model.specs.Chosen.{fit, fitted}
use Rattle.udf_tree_model.specs.Claimed.{claims, claims_by, list_stays, mended_length, mended_list}
use Rattle.udf_tree_model.specs.Content.{mended_content}
use Rattle.udf_tree_model.specs.Found.{whole_links}
use Rattle.udf_tree_model.specs.Frame.{Frame, block_class, capacity, content_to, empty_item, entry_at, extent_class, is_barred, is_first, is_holder, items, items_of, links_of, node_with, parent_length, setting_of, stream_of, tree_of}
use Rattle.udf_tree_model.specs.Laws.{SameWant}
use Rattle.udf_tree_model.specs.Link.{Link, fid_links, pointer_links}
use Rattle.udf_tree_model.specs.Mended.{IsMendedAt, rooms, said}
use Rattle.udf_tree_model.specs.Node.{Item, Node, Setting, Tree, good_length as tree_length, node_at, readable, wants}
use Rattle.udf_tree_model.specs.Stated.{taken}
use Rattle.udf_tree_model.specs.Won.{bytes_before, holds, kept_length, wins}
use Rattle.udf_tree_model.proofs.Members.{all_at, any_from, any_gives, contains_of, member_of}
use Rattle.udf_tree_model.proofs.Places.{address_same, same_address}
use Rattle.udf_tree_model.proofs.Stating.{is_node, length_is, node_is, taken_is}
use Rattle.udf_file_mends.specs.Repairable.{IsMendOn}
use Rattle.udf_file_mends.specs.Wanted.{loses_pointer, wanted}
use Rattle.udf_file_mends.proofs.Contents as contents
use Rattle.udf_file_mends.proofs.Cuts as cuts
use Rattle.udf_file_mends.proofs.Fitting as fitting
use Rattle.udf_file_mends.proofs.Held as held
use Rattle.udf_file_mends.proofs.Items.{Came, items_came}
use Rattle.udf_file_mends.proofs.Links as links
use Rattle.udf_file_mends.proofs.Rereads as rereads

said_joined : (xs ys : List Link) → said (xs ++ ys) ≡ said xs ++ said ys
said_joined [] ys = refl
said_joined (x ∷ xs) ys = ap (λ z. x.says ∷ z) (said_joined xs ys)

rooms_joined : (xs ys : List Link) → rooms (xs ++ ys) ≡ rooms xs + rooms ys
rooms_joined [] ys = omega arith
rooms_joined (x ∷ xs) ys = let r = rooms_joined xs ys in omega (arith, r)

none_in : (xs : List Link) → ((l : Link) → Member l xs → ⊥) → xs ≡ []
none_in [] h = refl
none_in (x ∷ xs) h = absurd (h x (inl refl))

no_fids : (size : ℕ) → fid_links size [] ≡ []
unfolding fid_links fids_from
no_fids size = refl

le_from : (m n : ℕ) → m ≤ n → nat_le m n ≡ true
le_from m n h = grind (arith, nat_tests)

-- the first descriptor of a cut begins where that of the list does
first_same : (ps : List Piece) (b : ℕ) (x : Addr) → (b == 0) ≡ false → is_first (runs_of (cut_pieces b ps)) x ≡ is_first (runs_of ps) x
unfolding cut_pieces runs_of
first_same [] b x h = refl
first_same (Extent y ∷ rest) b x h = ap (λ t. is_first (runs_of (cond t [] (Extent y ∷ cut_pieces b rest))) x) h ∙ first_same rest b x h
first_same (Blocks d ∷ rest) b x h =
    ap (λ t. is_first (runs_of (cond t [] (cond (nat_lt d.length b) (Blocks d ∷ cut_pieces (b - d.length) rest) (Blocks (record d { length = b }) ∷ [])))) x) h ∙ by (nat_lt d.length b)
  where
    by : (u : Bool) → is_first (runs_of (cond u (Blocks d ∷ cut_pieces (b - d.length) rest) (Blocks (record d { length = b }) ∷ []))) x ≡ same_addr d.at x
    by true = refl
    by false = refl

wins_of : (s : Setting) (t : Tree) (a : Addr) (i : Item) → holds s t a i ≡ true → i.takes ≡ true → wins s t a i ≡ true
unfolding holds
wins_of s t a i h k = sym (ap (λ b. not b || wins s t a i) k) ∙ h

module _ (f : Frame) (v : Volume) (disk : ℕ → List ℕ) (a : Addr) (e : Entry) (m : IsMendOn f v disk a e) where
  abbrev pub other : Volume
  other = with_disk v disk

  abbrev s : Setting
  s = setting_of f v

  abbrev t : Tree
  t = tree_of f v

  abbrev u : Tree
  u = tree_of f (with_disk v disk)

  abbrev want : Wanted
  want = wanted f v a e (block_at v a)

  abbrev pub new : Entry
  new = mended (wanted f v a e (block_at v a)) e

  abbrev left : List Piece
  left = mended_list f v a e

  abbrev xs : List Piece
  xs = list_for v a e

  abbrev b : ℕ
  b = mended_length f v a e

  some : 0 < v.size
  some = held.some f v m.repairable a e m.kept m.entry

  -- ---- the list, and what a directory holds, in both cases
  pub list_reads : list_for (with_disk v disk) a new ≡ mended_list f v a e
  list_reads = by (list_stays f v a e) refl
    where
      by : (c : Bool) → list_stays f v a e ≡ c → list_for (with_disk v disk) a new ≡ mended_list f v a e
      by true h = rereads.stays_reads f v disk a e m h
      by false h = cuts.cut_reads f v disk a e m h

  pub list_good : is_good_for (with_disk v disk) a new ≡ true
  list_good = by (list_stays f v a e) refl
    where
      by : (c : Bool) → list_stays f v a e ≡ c → is_good_for (with_disk v disk) a new ≡ true
      by true h = rereads.stays_good f v disk a e m h
      by false h = cuts.cut_good f v disk a e m h

  pub length_within : new.information ≤ good_length (with_disk v disk) a new
  length_within = by (list_stays f v a e) refl
    where
      by : (c : Bool) → list_stays f v a e ≡ c → new.information ≤ good_length (with_disk v disk) a new
      by true h = rereads.stays_within f v disk a e m h
      by false h = cuts.cut_length f v disk a e m h

  pub record HoldsMended : Type 0 where
    pub reads : content_to (with_disk v disk) (mended (wanted f v a e (block_at v a)) e) (mended_list f v a e) (good_length (with_disk v disk) a (mended (wanted f v a e (block_at v a)) e)) ≡ mended_content f v a
    pub enough : length (mended_content f v a) ≤ good_length (with_disk v disk) a (mended (wanted f v a e (block_at v a)) e)
    pub fits : length (mended_content f v a) ≤ capacity v.size (mended (wanted f v a e (block_at v a)) e) (mended_list f v a e)

  pub holds_mended : is_directory e ≡ true → HoldsMended
  holds_mended directory = by (list_stays f v a e) refl
    where
      c : contents.IsMendedContent f v m.repairable a e m.kept m.entry directory
      c = contents.is_mended_content f v m.repairable a e m.kept m.entry directory

      by : (k : Bool) → list_stays f v a e ≡ k → HoldsMended
      by true h = record {
        reads = rereads.stays_content f v disk a e m h directory;
        enough = omega (arith, c.kept, rereads.all_kept f v disk a e m h, rereads.stays_length f v disk a e m h);
        fits = omega (arith, c.fits, rereads.stays_capacity f v disk a e m h directory);
      }
      by false h = let r = cuts.cut_content f v disk a e m h directory in record { reads = r.reads; enough = r.enough; fits = r.capacity_enough }

  -- ---- the node
  pub entry_reads : entry_at (with_disk v disk) a ≡ Some new
  entry_reads = rereads.entry_reads f v disk a e m

  holder_off : is_holder f (with_disk v disk) a ≡ false
  holder_off = let h = held.other f v m.repairable a e m.kept m.entry in (unfold is_holder in h)

  new_node : node_at u a ≡ node_with f other a new left
  new_node = node_is f other a new entry_reads holder_off ∙ ap (node_with f other a new) list_reads

  old_node : node_at t a ≡ node_with f v a e xs
  old_node = held.node f v m.repairable a e m.kept m.entry

  new_length : tree_length u a ≡ good_length other a new
  new_length = length_is f other a new entry_reads holder_off some

  pub taken_reads : taken (wants (tree_of f (with_disk v disk)) a) ≡ a ∷ addresses v.size (mended_list f v a e)
  taken_reads = taken_is f other a new entry_reads holder_off some ∙ ap (λ l. a ∷ addresses v.size l) list_reads

  -- it takes what it claims
  pub takes_claims : (x : Addr) → (claims f v a x ≡ true) ↔ Contains (taken (wants (tree_of f (with_disk v disk)) a)) x
  unfolding claims
  takes_claims x = (λ h. forth (sym (ap (λ o. claims_by f v a o x) m.entry) ∙ h), λ c. ap (λ o. claims_by f v a o x) m.entry ∙ back (member_of (taken (wants (tree_of f (with_disk v disk)) a)) x c))
    where
      forth : (same_addr a x || list_any (same_addr x) (addresses v.size left)) ≡ true → Contains (taken (wants (tree_of f (with_disk v disk)) a)) x
      forth h =
          let Q : List Addr → Type 0 = λ l. Member x l in
          contains_of (taken (wants (tree_of f (with_disk v disk)) a)) x (subst Q (sym taken_reads) (go (or_cases (same_addr a x) (list_any (same_addr x) (addresses v.size left)) h)))
        where
          go : (same_addr a x ≡ true) ⊎ (list_any (same_addr x) (addresses v.size left) ≡ true) → Member x (a ∷ addresses v.size left)
          go (inl q) = inl (sym (same_address a x q))
          go (inr q) =
              let r = any_gives (same_addr x) (addresses v.size left) q in
              inr (subst (λ (z : Addr). Member z (addresses v.size left)) (sym (same_address x r.0 r.2)) r.1)

      back : Member x (taken (wants (tree_of f (with_disk v disk)) a)) → (same_addr a x || list_any (same_addr x) (addresses v.size left)) ≡ true
      back c = let Q : List Addr → Type 0 = λ l. Member x l in go (subst Q taken_reads c)
        where
          go : Member x (a ∷ addresses v.size left) → (same_addr a x || list_any (same_addr x) (addresses v.size left)) ≡ true
          go (inl q) = or_left (same_addr a x) (list_any (same_addr x) (addresses v.size left)) (address_same a x (sym q))
          go (inr q) = or_right (same_addr a x) (list_any (same_addr x) (addresses v.size left)) (any_from (same_addr x) (addresses v.size left) x q (address_same x x refl))

  is_there : readable u a ≡ true
  unfolding readable
  is_there = ap (λ (o : Option Node). is_some o) (is_node f other a new entry_reads holder_off)

  kind_stays : (node_at u a).directory ≡ (node_at t a).directory
  unfolding node_with
  kind_stays = ap (λ (n : Node). n.directory) new_node ∙ sym (ap (λ (n : Node). n.directory) old_node)

  own_stays : (node_at u a).own ≡ (node_at t a).own
  unfolding node_with
  own_stays = ap (λ (n : Node). n.own) new_node ∙ sym (ap (λ (n : Node). n.own) old_node)

  -- ---- what it takes
  old_list : (node_at t a).list ≡ items_of f v.size a e xs
  unfolding node_with
  old_list = ap (λ (n : Node). n.list) old_node

  barred_same : (ps : List Piece) → is_barred f new (runs_of ps) ≡ is_barred f e (runs_of ps)
  unfolding is_barred
  barred_same ps = fun_ext (λ x. refl)

  class_same : block_class f a new ≡ block_class f a e
  unfolding block_class
  class_same = refl

  new_list : (node_at u a).list ≡ cond (e.kind == 3) (empty_item (length want.body) ∷ []) (items v.size (extent_class f a) (block_class f a e) (is_barred f e (runs_of left)) left)
  unfolding node_with items_of
  new_list =
      ap (λ (n : Node). n.list) new_node
      ∙ ap (λ c. cond (e.kind == 3) (empty_item (length want.body) ∷ []) (items v.size (extent_class f a) c (is_barred f new (runs_of left)) left)) class_same
      ∙ ap (λ c. cond (e.kind == 3) (empty_item (length want.body) ∷ []) (items v.size (extent_class f a) (block_class f a e) c left)) (barred_same left)

  -- an item that was won
  abbrev Won : Item → Type 0
  Won i = (j : Item) × Contains (node_at t a).list j × SameWant i j × (wins s t a j ≡ true)

  -- where an embedded entry has one item it takes no block
  embedded_won : (n : ℕ) (i : Item) → Member i (empty_item n ∷ []) → i.takes ≡ true → Won i
  embedded_won n i (inl q) k = absurd (false≢true (sym (ap (λ (z : Item). z.takes) q) ∙ k))
  embedded_won n i (inr q) k = absurd q

  plain_items : (e.kind == 3) ≡ false → (node_at t a).list ≡ items v.size (extent_class f a) (block_class f a e) (is_barred f e (runs_of xs)) xs
  unfolding items_of
  plain_items h = old_list ∙ ap (λ c. cond c (empty_item (length e.body) ∷ []) (items v.size (extent_class f a) (block_class f a e) (is_barred f e (runs_of xs)) xs)) h

  stays_won : list_stays f v a e ≡ true → (e.kind == 3) ≡ false → (i : Item) → Member i (items v.size (extent_class f a) (block_class f a e) (is_barred f e (runs_of left)) left) → i.takes ≡ true → Won i
  stays_won h plain i n k =
      let P : List Piece → Type 0 = λ l. Member i (items v.size (extent_class f a) (block_class f a e) (is_barred f e (runs_of l)) l) in
      let Q : List Item → Type 0 = λ l. Member i l in
      let there : Member i (node_at t a).list = subst Q (sym (plain_items plain)) (subst P (rereads.stays_list f v disk a e m h) n) in
      let hold = all_at (holds s t a) (node_at t a).list i (rereads.listed f v disk a e m h).1.0 there in
      (i, contains_of (node_at t a).list i there, record { address = refl; takes = refl; class = refl; barred = refl }, wins_of s t a i hold k)

  cut_won : list_stays f v a e ≡ false → (e.kind == 3) ≡ false → (i : Item) → Member i (items v.size (extent_class f a) (block_class f a e) (is_barred f e (runs_of left)) left) → i.takes ≡ true → Won i
  unfolding mended_list
  cut_won h plain i n k =
      let P : Bool → Type 0 = λ c. Member i (items v.size (extent_class f a) (block_class f a e) (is_barred f e (runs_of (cond c xs (cut_pieces b xs)))) (cond c xs (cut_pieces b xs))) in
      by (b == 0) refl (subst P h n)
    where
      no_item : (b == 0) ≡ true → Member i (items v.size (extent_class f a) (block_class f a e) (is_barred f e (runs_of (cut_pieces b xs))) (cut_pieces b xs)) → ⊥
      no_item z j =
          let none : cut_pieces b xs ≡ [] = cut_none b xs (number_is b 0 z) in
          let Q : List Piece → Type 0 = λ l. Member i (items v.size (extent_class f a) (block_class f a e) (is_barred f e (runs_of l)) l) in
          unfold_none (subst Q none j)
        where
          number_is : (p q : ℕ) → (p == q) ≡ true → p ≡ q
          number_is p q r = grind (arith, nat_tests)

          unfold_none : Member i (items v.size (extent_class f a) (block_class f a e) (is_barred f e (runs_of [])) []) → ⊥
          unfold_none j = unfold items in j

      same_barred : (b == 0) ≡ false → is_barred f e (runs_of (cut_pieces b xs)) ≡ is_barred f e (runs_of xs)
      same_barred z = fun_ext (λ x. unfold is_barred in ap (λ c. is_directory e && (same_addr x f.after && not c)) (first_same xs b x z))

      kept_bytes : b ≤ bytes_before (holds s t a) (items v.size (extent_class f a) (block_class f a e) (is_barred f e (runs_of xs)) xs)
      kept_bytes =
          let l : b ≤ bytes_before (holds s t a) (node_at t a).list = (unfold kept_length in fitting.length_kept f v m.repairable a e m.kept m.entry) in
          omega (arith, l, ap (bytes_before (holds s t a)) (plain_items plain))

      came : Came (holds s t a) v.size (block_class f a e) (is_barred f e (runs_of xs)) some i (items v.size (extent_class f a) (block_class f a e) (is_barred f e (runs_of xs)) xs) → Won i
      came c =
          let Q : List Item → Type 0 = λ l. Member c.was l in (
            c.was,
            contains_of (node_at t a).list c.was (subst Q (sym (plain_items plain)) c.among),
            c.same,
            wins_of s t a c.was c.held (sym c.same.takes ∙ k),
          )

      by : (z : Bool) → (b == 0) ≡ z → Member i (items v.size (extent_class f a) (block_class f a e) (is_barred f e (runs_of (cut_pieces b xs))) (cut_pieces b xs)) → Won i
      by true z j = absurd (no_item z j)
      by false z j =
          let Q : (Addr → Bool) → Type 0 = λ r. Member i (items v.size (extent_class f a) (block_class f a e) r (cut_pieces b xs)) in
          came (items_came (holds s t a) v.size (block_class f a e) (is_barred f e (runs_of xs)) some (extent_class f a) xs b kept_bytes i (subst Q (same_barred z) j))

  all_won : (i : Item) → Contains (node_at u a).list i → i.takes ≡ true → Won i
  all_won i c k = by (e.kind == 3) refl (list_stays f v a e) refl (let Q : List Item → Type 0 = λ l. Member i l in subst Q new_list (member_of (node_at u a).list i c))
    where
      by : (g : Bool) → (e.kind == 3) ≡ g → (h : Bool) → list_stays f v a e ≡ h
          → Member i (cond (e.kind == 3) (empty_item (length want.body) ∷ []) (items v.size (extent_class f a) (block_class f a e) (is_barred f e (runs_of left)) left)) → Won i
      by true g h q n =
          let Q : Bool → Type 0 = λ c. Member i (cond c (empty_item (length want.body) ∷ []) (items v.size (extent_class f a) (block_class f a e) (is_barred f e (runs_of left)) left)) in
          embedded_won (length want.body) i (subst Q g n) k
      by false g true q n =
          let Q : Bool → Type 0 = λ c. Member i (cond c (empty_item (length want.body) ∷ []) (items v.size (extent_class f a) (block_class f a e) (is_barred f e (runs_of left)) left)) in
          stays_won q g i (subst Q g n) k
      by false g false q n =
          let Q : Bool → Type 0 = λ c. Member i (cond c (empty_item (length want.body) ∷ []) (items v.size (extent_class f a) (block_class f a e) (is_barred f e (runs_of left)) left)) in
          cut_won q g i (subst Q g n) k

  -- ---- what it holds
  abbrev fitted_fids : List Link
  fitted_fids = fit (links.room f v m.repairable a e m.kept m.entry) (links.chosen_fids f v m.repairable a e m.kept m.entry)

  abbrev held_content : List ℕ
  held_content = content_to other new left (good_length other a new)

  file_holds : is_directory e ≡ false → held_content ≡ []
  unfolding content_to
  file_holds h = ap (λ c. cond c (content other new (runs_of left) (good_length other a new)) []) h

  new_links : whole_links u a ≡ links.kept_pointer f v m.repairable a e m.kept m.entry ++ fid_links v.size held_content
  unfolding whole_links node_with links_of wanted
  new_links =
      ap (λ (n : Node). n.links (tree_length u a)) new_node
      ∙ ap (λ k. pointer_links (stream_of (stream_left (loses_pointer f v a) e.stream)) ++ fid_links v.size (content_to other new left k)) new_length
      ∙ ap (λ z. z ++ fid_links v.size held_content) (links.pointer_left f v m.repairable a e m.kept m.entry)

  links_say : said (fid_links v.size held_content) ≡ said (fitted_fids)
  links_say = by (is_directory e) refl
    where
      none_live : is_directory e ≡ false → (l : Link) → Member l (links.live f v m.repairable a e m.kept m.entry) → ⊥
      none_live h l n =
          let P : List ℕ → Type 0 = λ c. Member l (fid_links v.size c) in
          let Q : List Link → Type 0 = λ ls. Member l ls in
          subst Q (no_fids v.size) (subst P (held.file_content f v m.repairable a e m.kept m.entry h) n)

      by : (d : Bool) → is_directory e ≡ d → said (fid_links v.size held_content) ≡ said (fitted_fids)
      by true h = ap (λ c. said (fid_links v.size c)) (holds_mended h).reads ∙ (contents.is_mended_content f v m.repairable a e m.kept m.entry h).says
      by false h =
          ap (λ c. said (fid_links v.size c)) (file_holds h) ∙ ap said (no_fids v.size)
          ∙ sym (ap said (none_in (fitted_fids) (λ l n. none_live h l (links.fitted_live f v m.repairable a e m.kept m.entry l n))))

  same_said : said (whole_links u a) ≡ said (fitted s t a)
  same_said =
      let pointer = links.kept_pointer f v m.repairable a e m.kept m.entry in
      ap said new_links ∙ said_joined pointer (fid_links v.size held_content) ∙ ap (λ z. said pointer ++ z) links_say
      ∙ sym (said_joined pointer fitted_fids) ∙ sym (ap said (links.fitted_are f v m.repairable a e m.kept m.entry))

  links_room : rooms (whole_links u a) ≡ rooms (fid_links v.size held_content)
  links_room =
      let pointer = links.kept_pointer f v m.repairable a e m.kept m.entry in
      omega (arith, ap rooms new_links, rooms_joined pointer (fid_links v.size held_content), links.pointer_room f v m.repairable a e m.kept m.entry)

  space_is : (node_at u a).space (tree_length u a) ≡ min (good_length other a new) (capacity v.size new left) - parent_length (fids_of (fids v.size held_content))
  unfolding node_with
  space_is =
      ap (λ (n : Node). n.space (tree_length u a)) new_node
      ∙ ap (λ k. min k (capacity v.size new left) - parent_length (fids_of (fids v.size (content_to other new left k)))) new_length

  has_room : rooms (whole_links u a) ≤ (node_at u a).space (tree_length u a)
  has_room = by (is_directory e) refl
    where
      by : (d : Bool) → is_directory e ≡ d → rooms (whole_links u a) ≤ (node_at u a).space (tree_length u a)
      by true h =
          let c = contents.is_mended_content f v m.repairable a e m.kept m.entry h in
          let r = holds_mended h in
          let P : List ℕ → Type 0 = λ z. parent_length (fids_of (fids v.size z)) + rooms (fid_links v.size z) ≤ length (mended_content f v a) in
          let beside = subst P (sym r.reads) c.beside in
          omega (arith, links_room, space_is, beside, r.enough, r.fits)
      by false h =
          let none : rooms (fid_links v.size held_content) ≡ 0 = ap (λ c. rooms (fid_links v.size c)) (file_holds h) ∙ ap rooms (no_fids v.size) in
          omega (arith, links_room, none)

  is_long : (node_at u a).directory ≡ true → (node_at u a).enough (tree_length u a) ≡ true
  unfolding node_with
  is_long k =
      let directory : is_directory e ≡ true = sym (ap (λ (n : Node). n.directory) new_node) ∙ k in
      let c = contents.is_mended_content f v m.repairable a e m.kept m.entry directory in
      ap (λ (n : Node). n.enough (tree_length u a)) new_node
      ∙ ap (λ z. nat_le 40 (length (content_to other new left z))) new_length
      ∙ ap (λ z. nat_le 40 (length z)) (holds_mended directory).reads
      ∙ le_from 40 (length (mended_content f v a)) c.long

  pub is_mended : IsMendedAt (setting_of f v) (tree_of f v) (tree_of f (with_disk v disk)) a
  is_mended = record {
    stays = is_there;
    same_kind = kind_stays;
    same_own = own_stays;
    won = all_won;
    same_links = same_said;
    has_space = has_room;
    long_enough = is_long;
  }
