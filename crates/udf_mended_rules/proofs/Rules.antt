-- After all mends no rule on targets, allocation, contents or names is broken.
use Rattle.std.proofs.Common.{◌≡◌, ℕ, ◌&&◌, ◌||◌, not, nat_le, Bool, true, false, Some, List, refl, sym, ap, ◌∙◌, subst, eq-eqb}
use Rattle.std.specs.Prelude.{◌==◌}
use Rattle.std.specs.List.{list_all}
use Rattle.std.proofs.lemmas.Bool.{and_from, false≢true, le-leb, or_right}
use Rattle.udf_field.specs.declared.address.Addr.{Addr}
use Rattle.udf_file_model.specs.Entry.{Entry, is_directory}
use Rattle.udf_file_model.specs.Listing.{Volume, good_length, is_good_for, with_disk}
use Rattle.udf_tree_model.specs.Among.{Member}
use Rattle.udf_tree_model.specs.Chosen.{selected}
use Rattle.udf_tree_model.specs.Claimed.{allocation_holds, list_stays}
use Rattle.udf_tree_model.specs.Content.{content_stays}
use Rattle.udf_tree_model.specs.Counts.{is_kept_directory, kept_directories}
use Rattle.udf_tree_model.specs.Found.{found}
use Rattle.udf_tree_model.specs.Frame.{Frame, entry_at, places, setting_of, tree_of}
use Rattle.udf_tree_model.specs.Kept.{kept}
use Rattle.udf_tree_model.specs.Link.{Link, is_pointer, target_of}
use Rattle.udf_tree_model.specs.Mended.{IsSettledAt}
use Rattle.udf_tree_model.specs.Node.{Item, Setting, Tree, is_entry, node_at}
use Rattle.udf_tree_model.specs.Ordinary.{is_kept_entry, kept_entries}
use Rattle.udf_tree_model.specs.Rules.{is_chosen, is_directory_entry, is_named, names_hold, targets_hold}
use Rattle.udf_tree_model.specs.Won.{holds, kept_links, sound, wins}
use Rattle.udf_tree_model.proofs.Members.{all_at, all_from, any_from, contains_of, member_filter}
use Rattle.udf_rules_model.specs.FileRules.{allocation_rule, allocation_rule_by, content_is_whole, content_rule, is_lawful_link, is_selected, kept_holders, names_lawful, names_rule, pointers_hold, targets_rule}
use Rattle.udf_file_mends.specs.FileSet.{frame_after}
use Rattle.udf_file_mends.specs.Repairable.{IsMendOn}
use Rattle.udf_file_mends.specs.Wanted.{entry_after}
use Rattle.udf_file_mends.proofs.Nodes.{entry_reads, length_within, list_good}
use Rattle.udf_mended_rules.specs.AllMends.{HasAllMends}
use Rattle.udf_mended_rules.proofs.Contents as contents
use Rattle.udf_mended_rules.proofs.Dropped.{IsSameBut}
use Rattle.udf_mended_rules.proofs.Holder.{is_gone, mended_tree, told_same}
use Rattle.udf_mended_rules.proofs.Settled as settled

-- a link to a sound entry of a name of its own is lawful, if it is the chosen one to a directory; p: it is a pointer
lawful : (p named entry found sound directory chosen : Bool) → (p || (sound && entry)) ≡ true
    → (p || (named && (not directory || chosen))) ≡ true
    → (p || (named && (not (found && directory) || (sound && chosen)))) ≡ true
lawful true named entry found sound directory chosen a b = refl
lawful false true entry found true directory true a b = or_right (not (found && directory)) true refl
lawful false true entry found true true false a b = absurd (false≢true b)
lawful false true entry true true false false a b = refl
lawful false true entry false true false false a b = refl
lawful false true entry found false directory chosen a b = absurd (false≢true a)
lawful false false entry found sound directory chosen a b = absurd (false≢true b)

module _ (f : Frame) (v : Volume) (disk : ℕ → List ℕ) (h : HasAllMends f v disk) where
  abbrev w : Volume
  w = with_disk v disk

  abbrev g : Frame
  g = frame_after f v

  abbrev s : Setting
  s = setting_of f v

  abbrev t : Tree
  t = tree_of f v

  abbrev u : Tree
  u = mended_tree f v disk

  abbrev q : Setting
  q = setting_of (frame_after f v) (with_disk v disk)

  abbrev z : Tree
  z = tree_of (frame_after f v) (with_disk v disk)

  told : IsSameBut (setting_of f v) (setting_of (frame_after f v) (with_disk v disk)) (mended_tree f v disk) (tree_of (frame_after f v) (with_disk v disk)) (is_gone f v)
  told = told_same f v disk h

  at : (a : Addr) → kept s t a ≡ true → IsSettledAt s t u a
  at = (settled.is_settled f v disk h).at_each

  holder_kept : (a : Addr) → Member a (kept_holders g w) → kept s t a ≡ true
  unfolding kept_holders
  holder_kept a m = (settled.kept_left f v disk h a (member_filter (kept q z) (places w) a m).1).0

  entry_kept : (a : Addr) → Member a (kept_entries g w) → is_kept_entry f v a ≡ true
  unfolding kept_entries
  entry_kept a m = sym (settled.entries_same f v disk h a) ∙ (member_filter (is_kept_entry g w) (places w) a m).1

  directory_kept : (a : Addr) → Member a (kept_directories g w) → is_kept_directory f v a ≡ true
  unfolding kept_directories
  directory_kept a m = sym (settled.directories_same f v disk h a) ∙ (member_filter (is_kept_directory g w) (places w) a m).1

  -- ---- targets
  targets_at : (a : Addr) → kept s t a ≡ true → targets_hold q z a ≡ true
  targets_at a k = told.targets a ∙ (at a k).targets

  all_selected : (a : Addr) → kept s t a ≡ true → selected q z a ≡ kept_links q z a
  all_selected a k = told.selections a ∙ (at a k).all_selected ∙ sym (told.links_kept a)

  pointers_selected : (a : Addr) → kept s t a ≡ true → pointers_hold q z a ≡ true
  pointers_selected a k = all_from (λ l. not (is_pointer l.says) || is_selected q z a l) (kept_links q z a) each
    where
      each : (l : Link) → Member l (kept_links q z a) → (not (is_pointer l.says) || is_selected q z a l) ≡ true
      each l m =
          or_right (not (is_pointer l.says)) (is_selected q z a l)
          (any_from (λ x. x.place == l.place) (selected q z a) l (subst (λ (ls : List Link). Member l ls) (sym (all_selected a k)) m) (eq-eqb l.place l.place refl))

  pub targets : targets_rule (frame_after f v) (with_disk v disk) ≡ true
  unfolding targets_rule
  targets =
      all_from (λ a. targets_hold q z a && pointers_hold q z a) (kept_holders g w)
      (λ a m. let k = holder_kept a m in and_from (targets_hold q z a) (pointers_hold q z a) (targets_at a k) (pointers_selected a k))

  -- ---- allocation
  pub allocation_at : (a : Addr) (e : Entry) → IsMendOn f v disk a e → allocation_holds (frame_after f v) (with_disk v disk) a (entry_after f v a e) ≡ true
  unfolding allocation_holds
  allocation_at a e m =
      and_from (is_good_for w a (entry_after f v a e))
      (list_all (holds q z a) (node_at z a).list && nat_le (entry_after f v a e).information (good_length w a (entry_after f v a e))) (list_good f v disk a e m)
      (and_from (list_all (holds q z a) (node_at z a).list) (nat_le (entry_after f v a e).information (good_length w a (entry_after f v a e)))
      (all_from (holds q z a) (node_at z a).list each)
      (le-leb (entry_after f v a e).information (good_length w a (entry_after f v a e)) (length_within f v disk a e m)))
    where
      there : (i : Item) → Member i (node_at z a).list → Member i (node_at u a).list
      there i k = subst (λ (l : List Item). Member i l) (told.all_lists a) k

      by : (i : Item) → Member i (node_at z a).list → (b : Bool) → i.takes ≡ b → (not b || wins q z a i) ≡ true
      by i k true x =
          told.winners a i ∙ (at a (settled.is_kept f v disk h a m.kept)).all_won i (contains_of (node_at u a).list i (there i k)) x
      by i k false x = refl

      each : (i : Item) → Member i (node_at z a).list → holds q z a i ≡ true
      each i k = unfold holds in by i k i.takes refl

  pub allocation : allocation_rule (frame_after f v) (with_disk v disk) ≡ true
  unfolding allocation_rule
  allocation = all_from (λ a. allocation_rule_by g w a (entry_at w a)) (kept_entries g w) each
    where
      each : (a : Addr) → Member a (kept_entries g w) → allocation_rule_by g w a (entry_at w a) ≡ true
      each a k =
          let m = settled.mend_at f v disk h a (entry_kept a k) in
          ap (allocation_rule_by g w a) (entry_reads f v disk a m.0 m.1) ∙ allocation_at a m.0 m.1

  -- ---- contents
  content_is : (a : Addr) → is_kept_directory f v a ≡ true → content_is_whole (frame_after f v) (with_disk v disk) a ≡ true
  unfolding content_is_whole
  content_is a k = let r = settled.directory_at f v disk h a k in contents.content_whole f v disk h a r.0 r.1.0 r.1.1

  pub whole_contents : content_rule (frame_after f v) (with_disk v disk) ≡ true
  unfolding content_rule
  whole_contents = all_from (content_is_whole g w) (kept_directories g w) (λ a m. content_is a (directory_kept a m))

  -- ---- names
  all_named : (a : Addr) → kept s t a ≡ true
      → list_all (λ l. is_pointer l.says || (is_named q z a l && (not (is_directory_entry q z (target_of l.says)) || is_chosen q z a l))) (kept_links q z a) ≡ true
  unfolding names_hold
  all_named a k = told.names a ∙ (at a k).names

  all_sound : (a : Addr) → kept s t a ≡ true
      → list_all (λ l. is_pointer l.says || (sound q z (target_of l.says) && is_entry q z (target_of l.says))) (kept_links q z a) ≡ true
  unfolding targets_hold
  all_sound a k = targets_at a k

  names_at : (a : Addr) → kept s t a ≡ true → names_lawful q z a ≡ true
  unfolding names_lawful
  names_at a k = all_from (λ l. is_pointer l.says || is_lawful_link q z a l) (kept_links q z a) each
    where
      named : (l : Link) → Member l (kept_links q z a)
          → (is_pointer l.says || (is_named q z a l && (not (is_directory_entry q z (target_of l.says)) || is_chosen q z a l))) ≡ true
      named l m =
          all_at (λ l. is_pointer l.says || (is_named q z a l && (not (is_directory_entry q z (target_of l.says)) || is_chosen q z a l))) (kept_links q z a) l
          (all_named a k) m

      sounds : (l : Link) → Member l (kept_links q z a) → (is_pointer l.says || (sound q z (target_of l.says) && is_entry q z (target_of l.says))) ≡ true
      sounds l m =
          all_at (λ l. is_pointer l.says || (sound q z (target_of l.says) && is_entry q z (target_of l.says))) (kept_links q z a) l
          (all_sound a k) m

      each : (l : Link) → Member l (kept_links q z a) → (is_pointer l.says || is_lawful_link q z a l) ≡ true
      each l m =
          lawful (is_pointer l.says) (is_named q z a l) (is_entry q z (target_of l.says)) (found q z (target_of l.says)) (sound q z (target_of l.says))
          (is_directory_entry q z (target_of l.says)) (is_chosen q z a l) (sounds l m) (named l m)

  pub names : names_rule (frame_after f v) (with_disk v disk) ≡ true
  unfolding names_rule
  names =
      all_from (names_lawful q z) (kept_directories g w)
      (λ a m. let r = settled.directory_at f v disk h a (directory_kept a m) in names_at a (settled.is_kept f v disk h a r.1.0.kept))

  -- ---- lists
  pub lists_stay : (a : Addr) (e : Entry) → IsMendOn f v disk a e → list_stays (frame_after f v) (with_disk v disk) a (entry_after f v a e) ≡ true
  unfolding list_stays
  lists_stay a e m =
      and_from (allocation_holds g w a (entry_after f v a e)) (not (is_directory e) || content_stays g w a) (allocation_at a e m) (by (is_directory e) refl)
    where
      by : (b : Bool) → is_directory e ≡ b → (not (is_directory e) || content_stays g w a) ≡ true
      by true x = or_right (not (is_directory e)) (content_stays g w a) (contents.stays f v disk h a e m x)
      by false x = ap (λ b. not b || content_stays g w a) x

  -- the entry that the disk has there is the mended one
  pub list_stays_at : (a : Addr) (e : Entry) → is_kept_entry f v a ≡ true → entry_at (with_disk v disk) a ≡ Some e
      → list_stays (frame_after f v) (with_disk v disk) a e ≡ true
  list_stays_at a e k there =
      let m = settled.mend_at f v disk h a k in
      subst (λ (x : Entry). list_stays g w a x ≡ true) (same (entry_after f v a m.0) e (sym (entry_reads f v disk a m.0 m.1) ∙ there)) (lists_stay a m.0 m.1)
    where
      same : (x y : Entry) → Some x ≡ Some y → x ≡ y
      same x y e = cc
