-- The kept entries of a volume whose files break no rule: each wins all that it wants, and each of its links is fitted.
use Rattle.std.proofs.Common.{◌≡◌, ◌⊎◌, ℕ, ◌<◌, ◌≤◌, ◌&&◌, ◌||◌, not, nat_le, Bool, true, false, cond, Option, Some, None, List, [], ◌∷◌, ◌++◌, length, refl, sym, ap, ◌∙◌, subst, inl, inr, arith}
use Rattle.std.specs.Prelude.{◌==◌, Contains, count_by, is_some}
use Rattle.std.specs.List.{filter, list_all, list_any}
use Rattle.std.specs.Str.{bytes_eq}
use Rattle.std.proofs.lemmas.Bool.{and_from, and_parts, false≢true}
use Rattle.std.proofs.lemmas.Bool.Decides.{nat_tests}
use Rattle.std.proofs.lemmas.List.Sums.{length-filter}
use Rattle.udf_field.specs.declared.address.Addr.{Addr}
use Rattle.udf_model.proofs.Sizes.{large}
use Rattle.udf_file_model.specs.Address.{same_addr}
use Rattle.udf_file_model.specs.Entry.{Entry, is_directory}
use Rattle.udf_file_model.specs.Fid.{is_deleted, is_live, is_parent, target}
use Rattle.udf_file_model.specs.Listing.{Volume, good_length, is_good_for, list_for}
use Rattle.udf_file_model.specs.Pack.{packed}
use Rattle.udf_file_model.specs.Scan.{fids, fids_of}
use Rattle.udf_tree_model.specs.Among.{Member}
use Rattle.udf_tree_model.specs.Claimed.{allocation_holds}
use Rattle.udf_tree_model.specs.Content.{content_by, content_holds, kept_content}
use Rattle.udf_tree_model.specs.Counts.{is_directory_by, is_kept_directory, kept_directories}
use Rattle.udf_tree_model.specs.Found.{found, whole_links}
use Rattle.udf_tree_model.specs.Frame.{Frame, content_to, entry_at, holder_by, holder_node, is_file_set, is_holder, node_by, places, setting_of, tree_of}
use Rattle.udf_tree_model.specs.Kept.{kept}
use Rattle.udf_tree_model.specs.Laws.{HasSoundStarts, IsWithin}
use Rattle.udf_tree_model.specs.Link.{pointer_link}
use Rattle.udf_tree_model.specs.Mended.{rooms}
use Rattle.udf_tree_model.specs.Node.{Item, Node, Setting, Tree, good_length as tree_length, node_at, node_or, wants}
use Rattle.udf_tree_model.specs.Ordinary.{is_kept_entry, kept_entries}
use Rattle.udf_tree_model.specs.Parent.{is_stream_directory, parent}
use Rattle.udf_tree_model.specs.Rules.{targets_hold}
use Rattle.udf_tree_model.specs.Won.{IsWant, holds, kept_length, kept_links, sound, wins}
use Rattle.udf_tree_model.proofs.Finding.{found_readable, volume_within}
use Rattle.udf_tree_model.proofs.Keeping.{kept_found, kept_sound}
use Rattle.udf_tree_model.proofs.Members.{all_at, member_append, member_filtered, member_of}
use Rattle.udf_tree_model.proofs.Places.{placed_among, readable_placed}
use Rattle.udf_tree_model.proofs.Stating.{accepted_starts, length_is}
use Rattle.udf_tree_model.proofs.Winning.{kept_whole}
use Rattle.udf_rules_model.specs.FileRules.{allocation_rule, allocation_rule_by, content_is_whole, content_rule, kept_holders, pointers_hold, targets_rule}
use Rattle.udf_file_mends.proofs.Joined.{has_entry}
use Rattle.udf_intact.specs.Entries.{bytes_at}
use Rattle.udf_intact.specs.Lawful.{IsLawful}
use Rattle.udf_intact.proofs.Contents.{all_read}
use Rattle.udf_intact.proofs.Spacious.{has_space}

le_of : (m n : ℕ) → nat_le m n ≡ true → m ≤ n
le_of m n h = grind (arith, nat_tests)

number : (m n : ℕ) → (m == n) ≡ true → m ≡ n
number m n h = grind (arith, nat_tests)

not_of : (b : Bool) → (b ≡ true → ⊥) → b ≡ false
not_of true h = absurd (h refl)
not_of false h = refl

-- what is counted stands there
any_counted : (p : List ℕ → Bool) (xs : List (List ℕ)) → 0 < length (filter p xs) → list_any p xs ≡ true
any_counted p [] h = absurd (omega (arith, h))
any_counted p (x ∷ xs) h = by (p x) h (λ k. any_counted p xs k)
  where
    by : (b : Bool) → 0 < length (cond b (x ∷ filter p xs) (filter p xs)) → (0 < length (filter p xs) → list_any p xs ≡ true) → (b || list_any p xs) ≡ true
    by true k on = refl
    by false k on = on k

-- the file set has a pointer, and no list
pub record IsHolderNode (f : Frame) (v : Volume) (a : Addr) : Type 0 where
  pub system : Addr
  pub named : f.system ≡ Some system
  pub is : node_at (tree_of f v) a ≡ holder_node system

pub holder_is : (f : Frame) (v : Volume) (a : Addr) → is_holder f v a ≡ true → IsHolderNode f v a
unfolding tree_of node_at is_holder
holder_is f v a k = let p = and_parts (is_some f.system) (is_file_set f v a) k in by f.system refl p.0 p.1
  where
    by : (o : Option Addr) → f.system ≡ o → is_some o ≡ true → is_file_set f v a ≡ true → IsHolderNode f v a
    by None e n q = absurd (false≢true n)
    by (Some x) e n q = record {
      system = x;
      named = e;
      is =
          ap (λ o. node_or (holder_by o (is_file_set f v a) (node_by f v a (entry_at v a)))) e
          ∙ ap (λ b. node_or (cond b (Some (holder_node x)) (node_by f v a (entry_at v a)))) q;
    }

module _ (f : Frame) (v : Volume) (h : IsLawful f v) where
  abbrev s : Setting
  s = setting_of f v

  abbrev t : Tree
  t = tree_of f v

  pub within : IsWithin (setting_of f v) (tree_of f v)
  within = volume_within f v

  pub starts : HasSoundStarts (setting_of f v) (tree_of f v)
  starts = accepted_starts f v h.repairable.accepted h.repairable.file_set

  pub some : 0 < v.size
  some = let l = large v.size h.repairable.size in omega (arith, l)

  place_of : (a : Addr) → kept s t a ≡ true → Member a (places v)
  place_of a k = let r = readable_placed f v a (found_readable s t within a (kept_found s t within starts a k)) in placed_among v a r.0 r.1

  -- ---- what the rules say
  pub targets_at : (a : Addr) → kept (setting_of f v) (tree_of f v) a ≡ true
      → (targets_hold (setting_of f v) (tree_of f v) a ≡ true) × (pointers_hold (setting_of f v) (tree_of f v) a ≡ true)
  unfolding targets_rule kept_holders
  targets_at a k =
      and_parts (targets_hold s t a) (pointers_hold s t a)
      (all_at (λ b. targets_hold s t b && pointers_hold s t b) (filter (kept s t) (places v)) a h.targets (member_filtered (kept s t) (places v) a (place_of a k) k))

  pub record IsKeptEntry (a : Addr) : Type 0 where
    pub entry : Entry
    pub reads : entry_at v a ≡ Some entry
    pub no_holder : is_holder f v a ≡ false
    pub good : is_good_for v a entry ≡ true
    pub held : list_all (holds (setting_of f v) (tree_of f v) a) (node_at (tree_of f v) a).list ≡ true
    pub reaches : entry.information ≤ good_length v a entry

  pub entry_there : (a : Addr) → kept (setting_of f v) (tree_of f v) a ≡ true → is_holder f v a ≡ false → IsKeptEntry a
  unfolding is_kept_entry allocation_rule kept_entries allocation_holds
  entry_there a k n =
      let there : is_kept_entry f v a ≡ true = and_from (kept s t a) (not (is_holder f v a)) k (ap not n) in
      let e = has_entry f v h.repairable a there in
      let r = all_at (λ b. allocation_rule_by f v b (entry_at v b)) (filter (is_kept_entry f v) (places v)) a h.allocation (member_filtered (is_kept_entry f v) (places v) a (place_of a k) there) in
      let p = and_parts (is_good_for v a e.0) (list_all (holds s t a) (node_at t a).list && nat_le e.0.information (good_length v a e.0)) (sym (ap (allocation_rule_by f v a) e.1) ∙ r) in
      let q = and_parts (list_all (holds s t a) (node_at t a).list) (nat_le e.0.information (good_length v a e.0)) p.1 in
      record { entry = e.0; reads = e.1; no_holder = n; good = p.0; held = q.0; reaches = le_of e.0.information (good_length v a e.0) q.1 }

  -- ---- what it wins
  wins_listed : (a : Addr) → IsKeptEntry a → (i : Item) → Member i (node_at t a).list → i.takes ≡ true → wins s t a i ≡ true
  unfolding holds
  wins_listed a e i m c =
      sym (ap (λ b. not b || wins s t a i) c) ∙ all_at (λ (j : Item). not j.takes || wins s t a j) (node_at t a).list i e.held m

  own_won : (a : Addr) → kept s t a ≡ true → list_all (wins s t a) (node_at t a).own ≡ true
  unfolding sound
  own_won a k =
      let p = and_parts (found s t a) (list_all (wins s t a) (node_at t a).own && (not (node_at t a).directory || (node_at t a).enough (kept_length s t a))) (kept_sound s t within starts a k) in
      (and_parts (list_all (wins s t a) (node_at t a).own) (not (node_at t a).directory || (node_at t a).enough (kept_length s t a)) p.1).0

  holder_wants : (a : Addr) → is_holder f v a ≡ true → wants t a ≡ []
  unfolding wants
  holder_wants a n = ap (λ (m : Node). m.own ++ m.list) (holder_is f v a n).is

  pub all_won : (a : Addr) → kept (setting_of f v) (tree_of f v) a ≡ true → (i : Item) → IsWant (setting_of f v) (tree_of f v) a i
      → wins (setting_of f v) (tree_of f v) a i ≡ true
  unfolding wants
  all_won a k i x = by (is_holder f v a) refl
    where
      at : Member i (node_at t a).own ⊎ Member i (node_at t a).list → is_holder f v a ≡ false → wins s t a i ≡ true
      at (inl m) n = all_at (wins s t a) (node_at t a).own i (own_won a k) m
      at (inr m) n = wins_listed a (entry_there a k n) i m x.takes

      by : (b : Bool) → is_holder f v a ≡ b → wins s t a i ≡ true
      by true n = absurd (member_of [] i (subst (λ (is : List Item). Contains is i) (holder_wants a n) x.among))
      by false n = at (member_append (node_at t a).own (node_at t a).list i (member_of (wants t a) i x.among)) n

  pub all_kept : (a : Addr) → kept (setting_of f v) (tree_of f v) a ≡ true → kept_length (setting_of f v) (tree_of f v) a ≡ tree_length (tree_of f v) a
  all_kept a k = kept_whole s t a (λ i m c. by i (member_of (node_at t a).list i m) c (is_holder f v a) refl)
    where
      by : (i : Item) → Member i (node_at t a).list → i.takes ≡ true → (b : Bool) → is_holder f v a ≡ b → wins s t a i ≡ true
      by i m c true n = absurd (subst (λ (is : List Item). Member i is) (ap (λ (x : Node). x.list) (holder_is f v a n).is) m)
      by i m c false n = wins_listed a (entry_there a k n) i m c

  pub links_same : (a : Addr) → kept (setting_of f v) (tree_of f v) a ≡ true → kept_links (setting_of f v) (tree_of f v) a ≡ whole_links (tree_of f v) a
  unfolding kept_links whole_links
  links_same a k = ap (λ n. (node_at t a).links n) (all_kept a k)

  -- ---- its parent FID
  pub directory_there : (a : Addr) → kept (setting_of f v) (tree_of f v) a ≡ true → (e : IsKeptEntry a) → is_directory e.entry ≡ true → Member a (kept_directories f v)
  unfolding kept_directories
  directory_there a k e d =
      member_filtered (is_kept_directory f v) (places v) a (place_of a k)
      (and_from (kept s t a) (is_directory_by (entry_at v a)) k (ap is_directory_by e.reads ∙ d))

  content_is : (a : Addr) → kept s t a ≡ true → (e : IsKeptEntry a) → is_directory e.entry ≡ true → kept_content f v a ≡ bytes_at v a e.entry
  unfolding kept_content
  content_is a k e d =
      ap (content_by f v a) e.reads
      ∙ ap (content_to v e.entry (list_for v a e.entry)) (all_kept a k ∙ length_is f v a e.entry e.reads e.no_holder some)
      ∙ all_read v a e.entry some e.reaches d

  pub has_parent : (a : Addr) → kept (setting_of f v) (tree_of f v) a ≡ true → (e : IsKeptEntry a) → is_directory e.entry ≡ true
      → list_any is_parent (fids_of (fids v.size (bytes_at v a e.entry))) ≡ true
  unfolding content_rule content_is_whole content_holds
  has_parent a k e d =
      let list = fids_of (fids v.size (kept_content f v a)) in
      let stream = is_stream_directory s t a in
      let whole = all_at (content_is_whole f v) (kept_directories f v) a h.contents (directory_there a k e d) in
      let x = and_parts (bytes_eq (kept_content f v a) (packed list)) _ whole in
      let y = and_parts (list_all (λ fid. is_deleted fid || (is_live fid || is_parent fid)) list) _ x.1 in
      let z = and_parts (count_by is_parent list == 1) (list_all (λ fid. not (is_parent fid) || (stream || same_addr (target fid).at (parent f v a))) list) y.1 in
      let one : count_by is_parent list ≡ 1 = number (count_by is_parent list) 1 z.0 in
      sym (ap (λ c. list_any is_parent (fids_of (fids v.size c))) (content_is a k e d))
      ∙ any_counted is_parent list (omega (arith, one, length-filter is_parent list))

  -- ---- room for its links
  pub holder_links : (a : Addr) (n : is_holder f v a ≡ true) → kept_links (setting_of f v) (tree_of f v) a ≡ pointer_link (holder_is f v a n).system ∷ []
  unfolding kept_links
  holder_links a n = ap (λ (m : Node). m.links (kept_length s t a)) (holder_is f v a n).is

  pub room_there : (a : Addr) → kept (setting_of f v) (tree_of f v) a ≡ true
      → rooms (kept_links (setting_of f v) (tree_of f v) a) ≤ (node_at (tree_of f v) a).space (kept_length (setting_of f v) (tree_of f v) a)
  room_there a k = by (is_holder f v a) refl
    where
      by : (b : Bool) → is_holder f v a ≡ b → rooms (kept_links s t a) ≤ (node_at t a).space (kept_length s t a)
      by true n = omega (arith, ap rooms (holder_links a n))
      by false n =
          let e = entry_there a k n in
          let l = has_space f v a e.entry e.reads n some e.reaches (has_parent a k e) in
          omega (arith, l, ap rooms (links_same a k), ap (λ x. (node_at t a).space x) (all_kept a k))
