-- Each kept entry of a volume whose contents are mended has a link: a FID or a pointer leads to it, and the root's parent FID to the root.
use Rattle.std.proofs.Common.{◌≡◌, ◌⊎◌, ℕ, ◌≤◌, ◌&&◌, ◌||◌, not, Bool, true, false, cond, arith, Option, Some, None, List, [], ◌∷◌, refl, sym, ap, ◌∙◌, subst, inl, inr}
use Rattle.std.specs.Prelude.{◌==◌, count_by, sum_by, filter}
use Rattle.std.specs.Str.{bytes_eq}
use Rattle.std.specs.List.{list_all}
use Rattle.std.proofs.lemmas.Bool.{and_from, and_parts, false≢true}
use Rattle.std.proofs.lemmas.Bool.Decides.{nat_tests}
use Rattle.std.proofs.lemmas.List.Sums.{sum_by-cons}
use Rattle.udf_field.specs.declared.address.Addr.{Addr}
use Rattle.udf_file_model.specs.Address.{same_addr}
use Rattle.udf_file_model.specs.Entry.{Entry, is_directory}
use Rattle.udf_file_model.specs.Fid.{is_deleted, is_live, is_parent, target}
use Rattle.udf_file_model.specs.Listing.{Volume}
use Rattle.udf_file_model.specs.Pack.{packed}
use Rattle.udf_file_model.specs.Scan.{fids, fids_from, fids_of}
use Rattle.udf_tree_model.specs.Among.{Member}
use Rattle.udf_tree_model.specs.Chosen.{chosen, chosen_link, fitted, rank_of}
use Rattle.udf_tree_model.specs.Content.{content_holds, mended_content}
use Rattle.udf_tree_model.specs.Counts.{high_count, is_directory_by, is_kept_directory, is_stream, kept_directories, links_with_streams, links_without_streams, named_in, parents_in}
use Rattle.udf_tree_model.specs.Found.{leads_to}
use Rattle.udf_tree_model.specs.Frame.{Frame, content_to, entry_at, holder_by, is_file_set, links_of, node_by, node_with, places, setting_of, stream_of, tree_of}
use Rattle.udf_tree_model.specs.Kept.{kept}
use Rattle.udf_tree_model.specs.Laws.{HasSoundStarts, IsWithin, KeepsBy}
use Rattle.udf_tree_model.specs.Link.{Link, fid_links, is_pointer, pointer_links, target_of}
use Rattle.udf_tree_model.specs.Node.{Node, Setting, Tree, node_at, node_or}
use Rattle.udf_tree_model.specs.Ordinary.{is_kept_entry}
use Rattle.udf_tree_model.specs.Parent.{is_pointer_rank, is_stream_directory, keeping, parent, parent_by}
use Rattle.udf_tree_model.specs.Won.{kept_length, kept_links}
use Rattle.udf_tree_model.proofs.Choosing.{keeps_chosen, keeps_no_start, selects_file}
use Rattle.udf_tree_model.proofs.Finding.{found_readable}
use Rattle.udf_tree_model.proofs.Keeping.{fitted_gives, kept_by, kept_found}
use Rattle.udf_tree_model.proofs.Members.{all_at, member_append, member_filtered, member_of}
use Rattle.udf_tree_model.proofs.Places.{address_same, same_address}
use Rattle.udf_tree_model.proofs.Stating.{accepted_starts}
use Rattle.udf_tree_model.proofs.Finding.{volume_within}
use Rattle.udf_file_mends.specs.Repairable.{IsMendOn}
use Rattle.udf_file_mends.proofs.Contents.{is_mended_content}
use Rattle.udf_file_mends.proofs.Held as held
use Rattle.udf_mended_rules.specs.AllMends.{HasAllMends}
use Rattle.udf_mended_rules.proofs.Contents as contents
use Rattle.udf_mended_rules.proofs.Keepers.{place_is}
use Rattle.udf_mended_rules.proofs.Settled as settled

-- ---- sums and counts have their parts
sum_at : (p : Addr → ℕ) (xs : List Addr) (x : Addr) → Member x xs → p x ≤ sum_by p xs
sum_at p [] x m = absurd m
sum_at p (y ∷ ys) x (inl e) = let c = sum_by-cons p y ys in let k = ap p e in omega (arith, c, k)
sum_at p (y ∷ ys) x (inr m) = let c = sum_by-cons p y ys in let r = sum_at p ys x m in omega (arith, c, r)

abbrev one_if : Bool → ℕ
one_if b = cond b 1 0

count_at : {X : Type 0} (p : X → Bool) (xs : List X) (x : X) → Member x xs → p x ≡ true → 1 ≤ count_by p xs
count_at p [] x m h = absurd m
count_at p (y ∷ ys) x (inl e) h =
    let c = sum_by-cons (λ z. cond (p z) 1 0) y ys in
    let k : one_if (p y) ≡ 1 = ap one_if (ap p (sym e) ∙ h) in
    omega (arith, c, k)
count_at p (y ∷ ys) x (inr m) h =
    let c = sum_by-cons (λ z. cond (p z) 1 0) y ys in
    let r = count_at p ys x m h in
    omega (arith, c, r)

count_gives : {X : Type 0} (p : X → Bool) (xs : List X) → 1 ≤ count_by p xs → (x : X) × Member x xs × (p x ≡ true)
count_gives p [] l = absurd (omega (arith, l))
count_gives {X} p (y ∷ ys) l = by (p y) refl (λ k. count_gives p ys k)
  where
    by : (b : Bool) → p y ≡ b → (1 ≤ count_by p ys → (x : X) × Member x ys × (p x ≡ true)) → (x : X) × Member x (y ∷ ys) × (p x ≡ true)
    by true e rest = (y, inl refl, e)
    by false e rest =
        let c = sum_by-cons (λ z. cond (p z) 1 0) y ys in
        let k : one_if (p y) ≡ 0 = ap one_if e in
        let r = rest (omega (arith, l, c, k)) in
        (r.0, inr r.1, r.2)

-- ---- what has a FID is a directory
no_fids : (size : ℕ) (l : Link) → Member l (fid_links size []) → ⊥
unfolding fid_links fids_from
no_fids size l m = m

pointer_says : (o : Option Addr) (l : Link) → Member l (pointer_links o) → is_pointer l.says ≡ true
pointer_says None l m = absurd m
pointer_says (Some a) l (inl e) = ap (λ (x : Link). is_pointer x.says) e
pointer_says (Some a) l (inr m) = absurd m

file_links : (size : ℕ) (e : Entry) (l : Link) → Member l (links_of size e []) → is_pointer l.says ≡ true
unfolding links_of
file_links size e l m = go (member_append (pointer_links (stream_of e.stream)) (fid_links size []) l m)
  where
    go : Member l (pointer_links (stream_of e.stream)) ⊎ Member l (fid_links size []) → is_pointer l.says ≡ true
    go (inl k) = pointer_says (stream_of e.stream) l k
    go (inr k) = absurd (no_fids size l k)

holds_fid : (f : Frame) (v : Volume) (d : Addr) (limit : ℕ) (l : Link) → Member l ((node_at (tree_of f v) d).links limit) → is_pointer l.says ≡ false
    → is_directory_by (entry_at v d) ≡ true
unfolding node_at tree_of node_with content_to
holds_fid f v d limit l m n = by_holder f.system (is_file_set f v d) m
  where
    by_kind : (i : Entry) (content : List ℕ) (b : Bool) → Member l (links_of v.size i (cond b content [])) → b ≡ true
    by_kind i content true k = refl
    by_kind i content false k = absurd (false≢true (sym n ∙ file_links v.size i l k))

    by_entry : (o : Option Entry) → Member l ((node_or (node_by f v d o)).links limit) → is_directory_by o ≡ true
    by_entry None k = absurd k
    by_entry (Some i) k = by_kind i _ (is_directory i) k

    by_holder : (o : Option Addr) (b : Bool) → Member l ((node_or (holder_by o b (node_by f v d (entry_at v d)))).links limit)
        → is_directory_by (entry_at v d) ≡ true
    by_holder None b k = by_entry (entry_at v d) k
    by_holder (Some system) false k = by_entry (entry_at v d) k
    by_holder (Some system) true (inl e) = absurd (false≢true (sym n ∙ ap (λ (x : Link). is_pointer x.says) e))
    by_holder (Some system) true (inr k) = absurd k

module _ (f : Frame) (v : Volume) (disk : ℕ → List ℕ) (h : HasAllMends f v disk) where
  abbrev s : Setting
  s = setting_of f v

  abbrev t : Tree
  t = tree_of f v

  starts : HasSoundStarts s t
  starts = accepted_starts f v h.repairable.accepted h.repairable.file_set

  within : IsWithin s t
  within = volume_within f v

  place_of : (d : Addr) → kept s t d ≡ true → Member d (places v)
  unfolding setting_of
  place_of d k = member_of (places v) d (within.among d (found_readable s t within d (kept_found s t within starts d k)))

  directory_member : (d : Addr) → is_kept_directory f v d ≡ true → Member d (kept_directories f v)
  unfolding kept_directories
  directory_member d k = member_filtered (is_kept_directory f v) (places v) d (place_of d (and_parts (kept s t d) (is_directory_by (entry_at v d)) k).0) k

  named_once : (a d : Addr) (l : Link) → KeepsBy s t a d l → is_pointer l.says ≡ false → Member l (fitted s t d) → 1 ≤ named_in f v a d
  unfolding named_in
  named_once a d l k n m =
      count_at (λ link. not (is_pointer link.says) && leads_to a link) (fitted s t d) l m
      (and_from (not (is_pointer l.says)) (leads_to a l) (ap not n) (address_same (target_of l.says) a k.leads))

  by_fid : (a d : Addr) (l : Link) → KeepsBy s t a d l → is_pointer l.says ≡ false → 1 ≤ links_with_streams f v a
  unfolding links_with_streams links_without_streams
  by_fid a d l k n =
      let m = member_of (fitted s t d) l k.among in
      let directory = holds_fid f v d (kept_length s t d) l (unfold kept_links in (fitted_gives s t d l m).0) n in
      let some = named_once a d l k n m in
      let among = sum_at (named_in f v a) (kept_directories f v) d (directory_member d (and_from (kept s t d) (is_directory_by (entry_at v d)) k.holder directory)) in
      omega (arith, some, among)

  by_pointer : (a d : Addr) (l : Link) → kept s t a ≡ true → KeepsBy s t a d l → is_pointer l.says ≡ true → 1 ≤ links_with_streams f v a
  unfolding links_with_streams
  by_pointer a d l there k n =
      let one : one_if (is_stream f v a) ≡ 1 = ap one_if stream in
      omega (arith, one)
    where
      m : Member l (fitted s t d)
      m = member_of (fitted s t d) l k.among

      directory : (node_at t a).directory ≡ true
      directory = by (node_at t a).directory refl
        where
          by : (b : Bool) → (node_at t a).directory ≡ b → (node_at t a).directory ≡ true
          by true e = e
          by false e = absurd (false≢true (sym (ap not n) ∙ selects_file s t d l a k.leads e (fitted_gives s t d l m).2))

      pointer : is_pointer_rank (chosen_link s t a) ≡ true
      pointer =
          unfold chosen_link rank_of in
          ap (λ b. is_pointer_rank (cond b None (chosen s t a))) (keeps_no_start s t starts a d l k) ∙ ap is_pointer_rank (keeps_chosen s t a d l k directory)
          ∙ place_is f v d l m ∙ n

      stream : is_stream f v a ≡ true
      stream = unfold is_stream_directory in and_from (kept s t a) _ there (and_from (node_at t a).directory (is_pointer_rank (chosen_link s t a)) directory pointer)

  -- the root is the parent that its mended content names
  root_named : (size : ℕ) (parent : Addr) (content : List ℕ) → content_holds size false parent content ≡ true
      → 1 ≤ count_by (λ fid. is_parent fid && same_addr (target fid).at parent) (fids_of (fids size content))
  unfolding content_holds
  root_named size parent content e =
      let list = fids_of (fids size content) in
      let p = and_parts (bytes_eq content (packed list)) _ e in
      let q = and_parts (list_all (λ fid. is_deleted fid || (is_live fid || is_parent fid)) list) _ p.1 in
      let r = and_parts (count_by is_parent list == 1) (list_all (λ fid. not (is_parent fid) || same_addr (target fid).at parent) list) q.1 in
      let x = count_gives is_parent list (some (count_by is_parent list) r.0) in
      let y = all_at (λ fid. not (is_parent fid) || same_addr (target fid).at parent) list x.0 r.1 x.1 in
      count_at (λ fid. is_parent fid && same_addr (target fid).at parent) list x.0 x.1
      (and_from (is_parent x.0) (same_addr (target x.0).at parent) x.2 (sym (ap (λ b. not b || same_addr (target x.0).at parent) x.2) ∙ y))
    where
      some : (n : ℕ) → (n == 1) ≡ true → 1 ≤ n
      some n k = grind (arith, nat_tests)

  by_root : (a : Addr) (e : Entry) → IsMendOn f v disk a e → s.start a ≡ true → 1 ≤ links_with_streams f v a
  unfolding links_with_streams links_without_streams
  by_root a e m start =
      let among = sum_at (parents_in f v a) (filter (λ d. not (is_stream f v d)) (kept_directories f v)) a
      (member_filtered (λ d. not (is_stream f v d)) (kept_directories f v) a (directory_member a kept_directory) (ap not no_stream)) in
      omega (arith, some, among)
    where
      root : same_addr a f.root ≡ true
      root = sym (contents.start_is f v disk h a e m) ∙ start

      own_parent : parent f v a ≡ a
      own_parent = unfold parent in ap (λ b. cond b f.root (parent_by f (keeping s t a))) root ∙ sym (same_address a f.root root)

      directory : is_directory e ≡ true
      directory =
          let d : (node_at t a).directory ≡ is_directory e = unfold node_with in ap (λ (n : Node). n.directory) (held.node f v m.repairable a e m.kept m.entry) in
          sym d ∙ starts.directories a start

      kept_directory : is_kept_directory f v a ≡ true
      kept_directory = and_from (kept s t a) (is_directory_by (entry_at v a)) (settled.is_kept f v disk h a m.kept) (ap is_directory_by m.entry ∙ directory)

      no_stream : is_stream f v a ≡ false
      no_stream =
          unfold is_stream_directory chosen_link in
          ap (λ b. kept s t a && ((node_at t a).directory && is_pointer_rank (cond b None (chosen s t a)))) start
          ∙ never (kept s t a) (node_at t a).directory
        where
          never : (x y : Bool) → (x && (y && false)) ≡ false
          never true true = refl
          never true false = refl
          never false y = refl

      some : 1 ≤ parents_in f v a a
      some =
          unfold parents_in in
          let holds = (is_mended_content f v m.repairable a e m.kept m.entry directory).holds in
          let P : Bool → Type 0 = λ b. content_holds v.size b (parent f v a) (mended_content f v a) ≡ true in
          let Q : Addr → Type 0 = λ x. 1 ≤ count_by (λ fid. is_parent fid && same_addr (target fid).at x) (fids_of (fids v.size (mended_content f v a))) in
          subst Q own_parent (root_named v.size (parent f v a) (mended_content f v a) (subst P no_stream holds))

  pub linked : (a : Addr) → is_kept_entry f v a ≡ true → 1 ≤ high_count f v a
  unfolding high_count
  linked a k = let some = go (kept_by s t within starts a there) in omega (arith, some)
    where
      there : kept s t a ≡ true
      there = settled.is_kept f v disk h a k

      by_link : (d : Addr) (l : Link) → KeepsBy s t a d l → (b : Bool) → is_pointer l.says ≡ b → 1 ≤ links_with_streams f v a
      by_link d l x true n = by_pointer a d l there x n
      by_link d l x false n = by_fid a d l x n

      go : (s.start a ≡ true) ⊎ ((d : Addr) × (l : Link) × KeepsBy s t a d l) → 1 ≤ links_with_streams f v a
      go (inl start) = let m = settled.mend_at f v disk h a k in by_root a m.0 m.1 start
      go (inr r) = by_link r.0 r.1 r.2 (is_pointer r.1.says) refl
