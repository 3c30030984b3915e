-- A disk with the mends of all kept entries and of the file set keeps the same entries, in a tree that is settled.
use Rattle.std.proofs.Common.{◌≡◌, ◌⊎◌, ℕ, ◌≤◌, ◌&&◌, not, Bool, true, false, cond, Option, Some, None, List, [], arith, refl, sym, ap, ◌∙◌, subst, inl, inr}
use Rattle.std.specs.Prelude.{Contains, is_some}
use Rattle.std.proofs.lemmas.Bool.{and_from, and_parts, not-true, false≢true}
use Rattle.udf_field.specs.declared.address.Addr.{Addr}
use Rattle.udf_file_model.specs.Entry.{Entry, is_directory}
use Rattle.udf_file_model.specs.Listing.{Volume, with_disk}
use Rattle.udf_tree_model.specs.Counts.{is_directory_by, is_kept_directory}
use Rattle.udf_tree_model.specs.Found.{whole_links}
use Rattle.udf_tree_model.specs.Frame.{Frame, entry_at, is_holder, places, setting_of, tree_of}
use Rattle.udf_tree_model.specs.Kept.{kept}
use Rattle.udf_tree_model.specs.Laws.{IsWithin, PlacesDiffer}
use Rattle.udf_tree_model.specs.Link.{Link}
use Rattle.udf_tree_model.specs.Mended.{IsMended, IsMendedAt, IsSettled, rooms, said}
use Rattle.udf_tree_model.specs.Node.{Node, Setting, Tree, bytes_of, good_length, node_at, node_or, readable}
use Rattle.udf_tree_model.specs.Ordinary.{is_kept_entry}
use Rattle.udf_tree_model.proofs.Finding.{volume_within}
use Rattle.udf_tree_model.proofs.Members.{contains_of, member_of}
use Rattle.udf_tree_model.proofs.Offsets.{volume_differ}
use Rattle.udf_tree_model.proofs.Places.{placed_among}
use Rattle.udf_tree_model.proofs.Settling.{mended_again, settled}
use Rattle.udf_tree_model.proofs.Stating.{accepted_starts}
use Rattle.udf_file_mends.specs.FileSet.{frame_after, loses_system}
use Rattle.udf_file_mends.specs.Repairable.{IsMendOn}
use Rattle.udf_file_mends.proofs.Everywhere.{holder_mended}
use Rattle.udf_file_mends.proofs.Joined.{has_entry}
use Rattle.udf_file_mends.proofs.Nodes.{entry_reads, is_mended}
use Rattle.udf_mended_rules.specs.AllMends.{HasAllMends}
use Rattle.udf_mended_rules.proofs.Dropped.{cases, unlinked}
use Rattle.udf_mended_rules.proofs.Holder as holder
use Rattle.udf_mended_rules.proofs.Holder.{is_gone, mended_tree}

-- a tree that has the same node has the same mended entry
mended_at : (s : Setting) (t u z : Tree) (a : Addr) → u a ≡ z a → IsMendedAt s t z a → IsMendedAt s t u a
unfolding readable node_at whole_links good_length
mended_at s t u z a e m = record {
  stays = ap (λ (o : Option Node). is_some o) e ∙ m.stays;
  same_kind = ap (λ (o : Option Node). (node_or o).directory) e ∙ m.same_kind;
  same_own = ap (λ (o : Option Node). (node_or o).own) e ∙ m.same_own;
  won = λ i c k. m.won i (subst (λ (o : Option Node). Contains (node_or o).list i) e c) k;
  same_links = ap (λ (o : Option Node). said ((node_or o).links (bytes_of (node_or o).list))) e ∙ m.same_links;
  has_space = subst (λ (o : Option Node). rooms ((node_or o).links (bytes_of (node_or o).list)) ≤ (node_or o).space (bytes_of (node_or o).list)) (sym e) m.has_space;
  long_enough = subst (λ (o : Option Node). (node_or o).directory ≡ true → (node_or o).enough (bytes_of (node_or o).list) ≡ true) (sym e) m.long_enough;
}

-- the file set, where it holds the pointer to the system stream directory: it is no entry, before and after
pub record IsPointerHolder (f : Frame) (v : Volume) (disk : ℕ → List ℕ) (a : Addr) : Type 0 where
  pub holder : is_holder f v a ≡ true
  pub old : entry_at v a ≡ None
  pub new : entry_at (with_disk v disk) a ≡ None

module _ (f : Frame) (v : Volume) (disk : ℕ → List ℕ) (h : HasAllMends f v disk) where
  abbrev w : Volume
  w = with_disk v disk

  abbrev g : Frame
  g = frame_after f v

  abbrev s : Setting
  s = setting_of f v

  abbrev t : Tree
  t = tree_of f v

  abbrev u : Tree
  u = mended_tree f v disk

  pub is_kept : (a : Addr) → is_kept_entry f v a ≡ true → kept (setting_of f v) (tree_of f v) a ≡ true
  unfolding is_kept_entry
  is_kept a k = (and_parts (kept s t a) (not (is_holder f v a)) k).0

  pub no_holder : (a : Addr) → is_kept_entry f v a ≡ true → is_holder f v a ≡ false
  unfolding is_kept_entry
  no_holder a k = not-true (is_holder f v a) (and_parts (kept s t a) (not (is_holder f v a)) k).1

  pub not_gone : (a : Addr) → is_kept_entry f v a ≡ true → is_gone f v a ≡ false
  not_gone a k = ap (λ b. loses_system f v && b) (no_holder a k) ∙ by (loses_system f v)
    where
      by : (l : Bool) → (l && false) ≡ false
      by true = refl
      by false = refl

  -- a kept entry, and its mended one
  pub mend_at : (a : Addr) → is_kept_entry f v a ≡ true → (e : Entry) × IsMendOn f v disk a e
  mend_at a k =
      let e = has_entry f v h.repairable a k in
      (e.0, record { repairable = h.repairable; kept = k; entry = e.1; has = h.each a k })

  -- what is kept is an entry, or holds the pointer and is none
  abbrev Either : Addr → Type 0
  Either a = ((e : Entry) × IsMendOn f v disk a e) ⊎ IsPointerHolder f v disk a

  pub either : (a : Addr) → kept (setting_of f v) (tree_of f v) a ≡ true → ((e : Entry) × IsMendOn f v disk a e) ⊎ IsPointerHolder f v disk a
  either a k = by (is_holder f v a) refl
    where
      entry : is_holder f v a ≡ false → is_kept_entry f v a ≡ true
      entry n = unfold is_kept_entry in and_from (kept s t a) (not (is_holder f v a)) k (ap not n)

      by : (b : Bool) → is_holder f v a ≡ b → Either a
      by true q = inr (record { holder = q; old = holder.no_entry f v disk h a q; new = holder.no_new_entry f v disk h a q })
      by false q = inl (mend_at a (entry q))

  -- ---- each kept entry is mended
  node_gone : (a : Addr) → is_gone f v a ≡ true → mended_tree f v disk a ≡ Some unlinked
  node_gone a k = ap (λ b. cond b (Some unlinked) (tree_of g w a)) k

  pub node_left : (a : Addr) → is_gone f v a ≡ false → mended_tree f v disk a ≡ tree_of (frame_after f v) (with_disk v disk) a
  node_left a k = ap (λ b. cond b (Some unlinked) (tree_of g w a)) k

  gone_mended : (a : Addr) → is_gone f v a ≡ true → IsMendedAt s t u a
  unfolding readable node_at whole_links good_length
  gone_mended a k =
      let p = and_parts (loses_system f v) (is_holder f v a) k in
      let old = (holder.holder_is f v disk h a p.1).is in
      let new = node_gone a k in
      record {
        stays = ap (λ (o : Option Node). is_some o) new;
        same_kind = ap (λ (o : Option Node). (node_or o).directory) new ∙ sym (ap (λ (o : Option Node). (node_or o).directory) old);
        same_own = ap (λ (o : Option Node). (node_or o).own) new ∙ sym (ap (λ (o : Option Node). (node_or o).own) old);
        won = λ i c q. absurd (member_of [] i (subst (λ (o : Option Node). Contains (node_or o).list i) new c));
        same_links =
            ap (λ (o : Option Node). said ((node_or o).links (bytes_of (node_or o).list))) new
            ∙ sym (ap said (holder.none_fitted f v disk h a p.1 p.0));
        has_space =
            subst (λ (o : Option Node). rooms ((node_or o).links (bytes_of (node_or o).list)) ≤ (node_or o).space (bytes_of (node_or o).list)) (sym new)
            (omega arith);
        long_enough = λ q. ap (λ (o : Option Node). (node_or o).enough (bytes_of (node_or o).list)) new;
      }

  left_mended : (a : Addr) → kept s t a ≡ true → is_gone f v a ≡ false → IsMendedAt s t (tree_of f (with_disk v disk)) a
  left_mended a k n = cases (is_holder f v a) at_holder at_entry
    where
      at_holder : is_holder f v a ≡ true → IsMendedAt s t (tree_of f (with_disk v disk)) a
      at_holder q =
          let stays : loses_system f v ≡ false = sym (by (loses_system f v)) ∙ sym (ap (λ b. loses_system f v && b) q) ∙ n in
          holder_mended f v disk h.repairable a q (holder.pointer_selected f v disk h stays a q)
        where
          by : (l : Bool) → (l && true) ≡ l
          by true = refl
          by false = refl

      at_entry : is_holder f v a ≡ false → IsMendedAt s t (tree_of f (with_disk v disk)) a
      at_entry q =
          let m = mend_at a (unfold is_kept_entry in and_from (kept s t a) (not (is_holder f v a)) k (ap not q)) in
          is_mended f v disk a m.0 m.1

  mended_each : (a : Addr) → kept s t a ≡ true → IsMendedAt s t u a
  mended_each a k =
      cases (is_gone f v a) (gone_mended a)
      (λ n. mended_at s t u (tree_of f w) a (node_left a n ∙ holder.tree_same f v disk h a n) (left_mended a k n))

  new_within : IsWithin s u
  unfolding setting_of places readable
  new_within = record { among = λ a r. cases (is_gone f v a) (gone a) (left a r) }
    where
      gone : (a : Addr) → is_gone f v a ≡ true → Contains (places v) a
      gone a k =
          let p = holder.holder_placed f v disk h a (and_parts (loses_system f v) (is_holder f v a) k).1 in
          contains_of (places v) a (placed_among v a p.0 p.1)

      left : (a : Addr) → is_some (mended_tree f v disk a) ≡ true → is_gone f v a ≡ false → Contains (places v) a
      left a r n = (volume_within g w).among a (ap (λ (o : Option Node). is_some o) (sym (node_left a n)) ∙ r)

  pub all : IsMended (setting_of f v) (tree_of f v) (mended_tree f v disk)
  all = record {
    old_within = volume_within f v;
    old_places = volume_differ f v;
    old_starts = accepted_starts f v h.repairable.accepted h.repairable.file_set;
    new_within = new_within;
    each = mended_each;
  }

  pub is_settled : IsSettled (setting_of f v) (tree_of f v) (mended_tree f v disk)
  is_settled = settled s t u all

  new_places : PlacesDiffer u
  unfolding node_at
  new_places = record { one = λ d limit x y m n e. cases (is_gone f v d) (λ k. gone d limit x y m k) (λ k. left d limit x y m n e k) }
    where
      gone : (d : Addr) (limit : ℕ) (x y : Link) → Contains ((node_or (mended_tree f v disk d)).links limit) x → is_gone f v d ≡ true → x ≡ y
      gone d limit x y m k = absurd (member_of [] x (subst (λ (o : Option Node). Contains ((node_or o).links limit) x) (node_gone d k) m))

      left : (d : Addr) (limit : ℕ) (x y : Link) → Contains ((node_or (mended_tree f v disk d)).links limit) x → Contains ((node_or (mended_tree f v disk d)).links limit) y
          → x.place ≡ y.place → is_gone f v d ≡ false → x ≡ y
      left d limit x y m n e k =
          (volume_differ g w).one d limit x y (subst (λ (o : Option Node). Contains ((node_or o).links limit) x) (node_left d k) m)
          (subst (λ (o : Option Node). Contains ((node_or o).links limit) y) (node_left d k) n) e

  pub again : IsMended (setting_of f v) (mended_tree f v disk) (mended_tree f v disk)
  again = mended_again s t u all new_places

  -- ---- what is kept is what was kept, but for a holder that is gone
  pub kept_same : (a : Addr) → kept (setting_of (frame_after f v) (with_disk v disk)) (tree_of (frame_after f v) (with_disk v disk)) a
      ≡ (kept (setting_of f v) (tree_of f v) a && not (is_gone f v a))
  kept_same a = (holder.told_same f v disk h).keeps a ∙ ap (λ b. b && not (is_gone f v a)) (is_settled.kept_is_kept a)

  pub kept_left : (a : Addr) → kept (setting_of (frame_after f v) (with_disk v disk)) (tree_of (frame_after f v) (with_disk v disk)) a ≡ true
      → (kept (setting_of f v) (tree_of f v) a ≡ true) × (is_gone f v a ≡ false)
  kept_left a k =
      let p = and_parts (kept s t a) (not (is_gone f v a)) (sym (kept_same a) ∙ k) in
      (p.0, not-true (is_gone f v a) p.1)

  pub entries_same : (a : Addr) → is_kept_entry (frame_after f v) (with_disk v disk) a ≡ is_kept_entry f v a
  unfolding is_kept_entry
  entries_same a =
      ap (λ b. b && not (is_holder g w a)) (kept_same a)
      ∙ ap (λ b. (kept s t a && not (is_gone f v a)) && not b) (holder.holder_after f v disk h a)
      ∙ by (kept s t a) (loses_system f v) (is_holder f v a)
    where
      by : (k l x : Bool) → ((k && not (l && x)) && not (x && not (l && x))) ≡ (k && not x)
      by false l x = refl
      by true true true = refl
      by true true false = refl
      by true false true = refl
      by true false false = refl

  pub directories_same : (a : Addr) → is_kept_directory (frame_after f v) (with_disk v disk) a ≡ is_kept_directory f v a
  directories_same a = ap (λ b. b && is_directory_by (entry_at w a)) (kept_same a) ∙ by (kept s t a) refl
    where
      never : (b : Bool) → (b && false) ≡ false
      never true = refl
      never false = refl

      at : Either a → (not (is_gone f v a) && is_directory_by (entry_at w a)) ≡ is_directory_by (entry_at v a)
      at (inl r) =
          ap (λ b. not b && is_directory_by (entry_at w a)) (not_gone a r.1.kept)
          ∙ ap is_directory_by (entry_reads f v disk a r.0 r.1) ∙ sym (ap is_directory_by r.1.entry)
      at (inr r) = ap (λ o. not (is_gone f v a) && is_directory_by o) r.new ∙ never (not (is_gone f v a)) ∙ sym (ap is_directory_by r.old)

      by : (b : Bool) → kept s t a ≡ b → ((b && not (is_gone f v a)) && is_directory_by (entry_at w a)) ≡ (b && is_directory_by (entry_at v a))
      by true q = at (either a q)
      by false q = refl

  -- a kept directory, and its mended one
  pub directory_at : (a : Addr) → is_kept_directory f v a ≡ true → (e : Entry) × (IsMendOn f v disk a e × (is_directory e ≡ true))
  directory_at a k = at (either a p.0)
    where
      p : (kept s t a ≡ true) × (is_directory_by (entry_at v a) ≡ true)
      p = and_parts (kept s t a) (is_directory_by (entry_at v a)) k

      at : Either a → (e : Entry) × (IsMendOn f v disk a e × (is_directory e ≡ true))
      at (inl r) = (r.0, (r.1, sym (ap is_directory_by r.1.entry) ∙ p.1))
      at (inr r) = absurd (false≢true (sym (ap is_directory_by r.old) ∙ p.1))
