-- A volume with all mends is not refused for its files, and can be mended again; of the file set's pointer nothing is left to mend.
use Rattle.std.proofs.Common.{◌≡◌, ◌⊎◌, ℕ, ◌&&◌, ◌||◌, not, Bool, true, false, cond, Option, Some, None, List, length, refl, sym, ap, ◌∙◌, inl, inr}
use Rattle.std.specs.Prelude.{is_some}
use Rattle.std.specs.List.{list_any}
use Rattle.std.proofs.lemmas.Bool.{and_from, and_parts, false≢true, or_left}
use Rattle.udf_field.specs.declared.address.Addr.{Addr}
use Rattle.udf_file_model.specs.Address.{same_addr}
use Rattle.udf_file_model.specs.Content.{block_at}
use Rattle.udf_file_model.specs.CutEntry.{AreBytes}
use Rattle.udf_file_model.specs.Entry.{Entry}
use Rattle.udf_file_model.specs.Listing.{Volume, with_disk}
use Rattle.udf_file_model.specs.Wanted.{Wanted, mended}
use Rattle.udf_tree_model.specs.Among.{Member}
use Rattle.udf_tree_model.specs.Chosen.{fitted, selected}
use Rattle.udf_tree_model.specs.Found.{found, whole_links}
use Rattle.udf_tree_model.specs.Frame.{Frame, entry_at, is_file_set, is_holder, is_start, places, setting_of, tree_of}
use Rattle.udf_tree_model.specs.Kept.{kept}
use Rattle.udf_tree_model.specs.Laws.{KeepsBy}
use Rattle.udf_tree_model.specs.Link.{Link, target_of}
use Rattle.udf_tree_model.specs.Mended.{IsMended, IsSettled}
use Rattle.udf_tree_model.specs.Node.{Node, Setting, Tree, node_at, node_or}
use Rattle.udf_tree_model.specs.Ordinary.{is_kept_entry}
use Rattle.udf_tree_model.specs.Refused.{AttributeFile, ExtendedDescriptors, Refusal, RootDirectory, Strategy, has_attribute_file, has_extended_descriptors, has_other_strategy, has_root, is_indirect, names_indirect, passes, refusal, some_found}
use Rattle.udf_tree_model.specs.Stated.{IsFileSetPlaced}
use Rattle.udf_tree_model.specs.Won.{kept_length, kept_links, sound}
use Rattle.udf_tree_model.proofs.Choosing.{keeps_no_start}
use Rattle.udf_tree_model.proofs.Keeping.{edge_from, kept_found, kept_start, kept_target}
use Rattle.udf_tree_model.proofs.Linking.{said_there}
use Rattle.udf_tree_model.proofs.Members.{contains_of}
use Rattle.udf_tree_model.proofs.Places.{address_same}
use Rattle.udf_file_mends.specs.FileSet.{frame_after, loses_system}
use Rattle.udf_file_mends.specs.Repairable.{IsMendOn, IsRepairable}
use Rattle.udf_file_mends.specs.Wanted.{entry_after, has_pointer, wanted}
use Rattle.udf_file_mends.proofs.Accepted.{not_any, not_indirect, or_none, passed}
use Rattle.udf_file_mends.proofs.Links.{any_none}
use Rattle.udf_file_mends.proofs.Nodes.{entry_reads}
use Rattle.udf_mended_rules.specs.AllMends.{HasAllMends}
use Rattle.udf_mended_rules.proofs.Dropped.{IsSameBut, and_false, cases}
use Rattle.udf_mended_rules.proofs.Holder as holder
use Rattle.udf_mended_rules.proofs.Holder.{is_gone, mended_tree}
use Rattle.udf_mended_rules.proofs.Settled as settled

module _ (f : Frame) (v : Volume) (disk : ℕ → List ℕ) (h : HasAllMends f v disk) where
  abbrev w : Volume
  w = with_disk v disk

  abbrev g : Frame
  g = frame_after f v

  abbrev s : Setting
  s = setting_of f v

  abbrev t : Tree
  t = tree_of f v

  abbrev u : Tree
  u = mended_tree f v disk

  abbrev q : Setting
  q = setting_of (frame_after f v) (with_disk v disk)

  abbrev z : Tree
  z = tree_of (frame_after f v) (with_disk v disk)

  told : IsSameBut (setting_of f v) (setting_of (frame_after f v) (with_disk v disk)) (mended_tree f v disk) (tree_of (frame_after f v) (with_disk v disk)) (is_gone f v)
  told = holder.told_same f v disk h

  all : IsMended s t u
  all = settled.all f v disk h

  is_settled : IsSettled s t u
  is_settled = settled.is_settled f v disk h

  -- what is found was kept
  found_kept : (a : Addr) → found q z a ≡ true → kept s t a ≡ true
  found_kept a e = sym (is_settled.found_is_kept a) ∙ (and_parts (found s u a) (not (is_gone f v a)) (sym (told.founds a) ∙ e)).0

  -- no test that a mend leaves alone finds anything new
  none_found : (test : Entry → Bool) → ((e : Entry) (x : Wanted) → test (mended x e) ≡ test e) → some_found f v test ≡ false → some_found g w test ≡ false
  unfolding some_found places
  none_found test same n = any_none _ _ (λ a m. by a m (found q z a) refl)
    where
      old : (a : Addr) → Member a (places v) → kept s t a ≡ true → passes test (entry_at v a) ≡ false
      old a m k =
          let x = not_any (λ (b : Addr). found s t b && passes test (entry_at v b)) (places v) n a m in
          sym (ap (λ b. b && passes test (entry_at v a)) (kept_found s t all.old_within all.old_starts a k)) ∙ x

      new : (a : Addr) → passes test (entry_at v a) ≡ false → ((e : Entry) × IsMendOn f v disk a e) ⊎ settled.IsPointerHolder f v disk a
          → passes test (entry_at w a) ≡ false
      new a x (inl r) =
          ap (passes test) (entry_reads f v disk a r.0 r.1) ∙ same r.0 (wanted f v a r.0 (block_at v a)) ∙ sym (ap (passes test) r.1.entry) ∙ x
      new a x (inr r) = ap (passes test) r.new

      by : (a : Addr) → Member a (places v) → (b : Bool) → found q z a ≡ b → (found q z a && passes test (entry_at w a)) ≡ false
      by a m true e = let k = found_kept a e in ap (λ b. b && passes test (entry_at w a)) e ∙ new a (old a m k) (settled.either f v disk h a k)
      by a m false e = ap (λ b. b && passes test (entry_at w a)) e

  -- no link leads to an indirect entry
  entry_kept : (a : Addr) → kept s t a ≡ true → is_holder f v a ≡ false → is_kept_entry f v a ≡ true
  unfolding is_kept_entry
  entry_kept a k n = and_from (kept s t a) (not (is_holder f v a)) k (ap not n)

  no_holder : (a : Addr) → s.start a ≡ false → is_holder f v a ≡ false
  unfolding setting_of
  no_holder a n = cases (is_holder f v a) (λ k. absurd (false≢true (sym n ∙ holder.holder_start f v disk h a k))) (λ k. k)

  target_there : (a : Addr) → kept s t a ≡ true → (l : Link) → Member l (whole_links u a) → is_indirect w (target_of l.says) ≡ false
  target_there a k l m =
      let r = said_there (whole_links u a) (fitted s t a) (all.each a k).same_links l m in
      let x = target_of r.0.says in
      let keeps : KeepsBy s t (target_of r.0.says) a r.0 = record { holder = k; among = contains_of (fitted s t a) r.0 r.1; leads = refl } in
      let there = kept_target s t all.old_within all.old_starts a x k (edge_from s t a x r.0 r.1 refl) in
      let e = settled.mend_at f v disk h x (entry_kept x there (no_holder x (keeps_no_start s t all.old_starts x a r.0 keeps))) in
      ap (λ y. is_indirect w (target_of y)) r.2 ∙ not_indirect w x (entry_after f v x e.0) (entry_reads f v disk x e.0 e.1)

  none_indirect : names_indirect g w ≡ false
  unfolding names_indirect
  none_indirect = any_none _ _ (λ a m. by a (found q z a) refl)
    where
      by : (a : Addr) (b : Bool) → found q z a ≡ b → (found q z a && list_any (λ link. is_indirect w (target_of link.says)) (whole_links z a)) ≡ false
      by a true e =
          let k = found_kept a e in
          ap (λ b. b && list_any (λ link. is_indirect w (target_of link.says)) (whole_links z a)) e
          ∙ ap (λ (ls : List Link). list_any (λ link. is_indirect w (target_of link.says)) ls) (told.all_links a)
          ∙ any_none (λ link. is_indirect w (target_of link.says)) (whole_links u a) (λ l m. target_there a k l m)
      by a false e = ap (λ b. b && list_any (λ link. is_indirect w (target_of link.says)) (whole_links z a)) e

  -- ---- the root
  root_start : s.start f.root ≡ true
  unfolding setting_of is_start
  root_start = or_left (same_addr f.root f.root) _ (address_same f.root f.root refl)

  root_kept : kept s t f.root ≡ true
  root_kept = kept_start s t all.old_within all.old_starts f.root root_start

  root_no_holder : is_holder f v f.root ≡ false
  root_no_holder =
      cases (is_holder f v f.root) (λ k. absurd (false≢true (sym (holder.no_root f v disk h f.root k) ∙ address_same f.root f.root refl))) (λ k. k)

  root_entry : is_kept_entry f v f.root ≡ true
  root_entry = entry_kept f.root root_kept root_no_holder

  root_left : is_gone f v f.root ≡ false
  root_left = settled.not_gone f v disk h f.root root_entry

  has_its_root : has_root g w ≡ true
  unfolding has_root frame_after
  has_its_root =
      let m = settled.mend_at f v disk h f.root root_entry in
      and_from (passes (λ e. true) (entry_at w f.root)) (sound q z f.root && (node_at z f.root).directory)
      (ap (passes (λ e. true)) (entry_reads f v disk f.root m.0 m.1))
      (and_from (sound q z f.root) (node_at z f.root).directory is_sound
      (ap (λ (n : Node). n.directory) (told.nodes f.root root_left) ∙ (all.each f.root root_kept).same_kind ∙ all.old_starts.directories f.root root_start))
    where
      is_sound : sound q z f.root ≡ true
      is_sound =
          told.sounds f.root
          ∙ and_from (sound s u f.root) (not (is_gone f v f.root)) (is_settled.at_each f.root root_kept).is_sound (ap not root_left)

  pub accepted : refusal (frame_after f v) (with_disk v disk) ≡ None
  unfolding refusal
  accepted =
      let p = passed (some_found f v has_other_strategy || names_indirect f v) (some_found f v has_extended_descriptors) (some_found f v has_attribute_file) (has_root f v) h.repairable.accepted in
      let strategy = none_found has_other_strategy (λ e x. refl) (or_none (some_found f v has_other_strategy) (names_indirect f v) p.first).0 in
      ap (λ b. refused (b || names_indirect g w) (some_found g w has_extended_descriptors) (some_found g w has_attribute_file) (has_root g w)) strategy
      ∙ ap (λ b. refused b (some_found g w has_extended_descriptors) (some_found g w has_attribute_file) (has_root g w)) none_indirect
      ∙ ap (λ b. refused false b (some_found g w has_attribute_file) (has_root g w)) (none_found has_extended_descriptors (λ e x. refl) p.second)
      ∙ ap (λ b. refused false false b (has_root g w)) (none_found has_attribute_file (λ e x. refl) p.third)
      ∙ ap (λ b. refused false false false b) has_its_root
    where
      refused : Bool → Bool → Bool → Bool → Option Refusal
      refused x y n r = cond x (Some Strategy) (cond y (Some ExtendedDescriptors) (cond n (Some AttributeFile) (cond r None (Some RootDirectory))))

  -- ---- again
  set_placed : IsFileSetPlaced (frame_after f v) (with_disk v disk)
  unfolding frame_after
  set_placed =
      cases (loses_system f v) (λ l e. absurd (false≢true (sym (ap (λ b. is_some (cond b None f.system)) l) ∙ e)))
      (λ l e. h.repairable.file_set (sym (ap (λ b. is_some (cond b None f.system)) l) ∙ e))

  pub repairable : AreBytes disk → ((x : Addr) (n : ℕ) → v.place x ≡ Some n → length (disk n) ≡ v.size)
      → IsRepairable (frame_after f v) (with_disk v disk)
  repairable bytes whole = record {
    size = h.repairable.size;
    bytes = bytes;
    whole = whole;
    low = h.repairable.low;
    apart = h.repairable.apart;
    accepted = accepted;
    file_set = set_placed;
  }

  -- ---- the pointer that is left is selected
  pointer_left : loses_system f v ≡ false → is_holder f v f.file_set ≡ true → has_pointer (selected q z f.file_set) ≡ true
  unfolding kept_links node_at
  pointer_left e k =
      ap has_pointer (
      told.selections f.file_set ∙ (is_settled.at_each f.file_set there).all_selected
      ∙ ap (λ (o : Option Node). (node_or o).links (kept_length s u f.file_set)) (settled.node_left f v disk h f.file_set left ∙ holder.tree_same f v disk h f.file_set left ∙ is.stays))
    where
      is : holder.HolderIs f v disk h f.file_set
      is = holder.holder_is f v disk h f.file_set k

      left : is_gone f v f.file_set ≡ false
      left = ap (λ b. b && is_holder f v f.file_set) e

      there : kept s t f.file_set ≡ true
      there = kept_start s t all.old_within all.old_starts f.file_set (unfold setting_of in holder.holder_start f v disk h f.file_set k)

  set_same : (frame_after f v).file_set ≡ f.file_set
  unfolding frame_after
  set_same = refl

  none_left : (a : Addr) → loses_system f v ≡ true → (is_holder g w a && not (has_pointer (selected q z a))) ≡ false
  unfolding is_holder
  none_left a e = ap (λ (o : Option Addr). (is_some o && is_file_set g w a) && not (has_pointer (selected q z a))) (holder.system_gone f v disk h e)

  one_left : loses_system f v ≡ false → (is_holder g w f.file_set && not (has_pointer (selected q z f.file_set))) ≡ false
  one_left e =
      cases (is_holder f v f.file_set)
      (λ k. ap (λ b. is_holder g w f.file_set && not b) (pointer_left e k) ∙ and_false (is_holder g w f.file_set))
      (λ n. ap (λ b. b && not (has_pointer (selected q z f.file_set))) (holder.holder_after f v disk h f.file_set ∙ ap (λ b. b && not (is_gone f v f.file_set)) n))

  pub nothing_lost : loses_system (frame_after f v) (with_disk v disk) ≡ false
  unfolding loses_system
  nothing_lost =
      ap (λ x. is_holder g w x && not (has_pointer (selected q z x))) set_same
      ∙ (let by : loses_system f v ≡ true → (is_holder g w f.file_set && not (has_pointer (selected q z f.file_set))) ≡ false = none_left f.file_set in
      cases (loses_system f v) by one_left)
