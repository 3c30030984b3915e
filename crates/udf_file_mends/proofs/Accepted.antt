-- A volume with the mends of its kept entries is not refused for its files.
use Rattle.std.proofs.Common.{◌≡◌, ◌⊎◌, ℕ, ◌&&◌, ◌||◌, not, Bool, true, false, cond, Option, Some, None, List, refl, sym, ap, ◌∙◌, inl, inr, arith}
use Rattle.std.specs.Prelude.{◌==◌, is_some}
use Rattle.std.specs.List.{list_any}
use Rattle.std.proofs.lemmas.Bool.{and_from, and_parts, false≢true, or_right}
use Rattle.std.proofs.lemmas.Bool.Decides.{nat_tests}
use Rattle.udf_field.specs.declared.address.Addr.{Addr}
use Rattle.udf_model.specs.Tag.{id_at, is_id}
use Rattle.udf_file_model.specs.Address.{same_addr}
use Rattle.udf_file_model.specs.Content.{block_at, block_by}
use Rattle.udf_file_model.specs.Entry.{Entry, entry_header, entry_of, fitting, header_by}
use Rattle.udf_file_model.specs.Listing.{Volume, is_placed, with_disk}
use Rattle.udf_file_model.specs.Wanted.{Wanted, mended}
use Rattle.udf_tree_model.specs.Among.{Member}
use Rattle.udf_tree_model.specs.Chosen.{fitted, selected}
use Rattle.udf_tree_model.specs.Found.{found, whole_links}
use Rattle.udf_tree_model.specs.Frame.{Frame, entry_at, entry_by, is_address, is_file_set, is_holder, is_start, places, setting_of, tree_of}
use Rattle.udf_tree_model.specs.Kept.{kept}
use Rattle.udf_tree_model.specs.Laws.{HasSoundStarts, IsWithin, KeepsBy}
use Rattle.udf_tree_model.specs.Link.{Link, target_of}
use Rattle.udf_tree_model.specs.Mended.{IsMended, IsSettled}
use Rattle.udf_tree_model.specs.Node.{Setting, Tree, node_at}
use Rattle.udf_tree_model.specs.Ordinary.{is_kept_entry}
use Rattle.udf_tree_model.specs.Refused.{Refusal, Strategy, ExtendedDescriptors, AttributeFile, RootDirectory, has_attribute_file, has_extended_descriptors, has_other_strategy, has_root, is_indirect, is_indirect_by, names_indirect, passes, refusal, some_found}
use Rattle.udf_tree_model.specs.Won.{kept_links, sound}
use Rattle.udf_tree_model.proofs.Choosing.{keeps_no_start}
use Rattle.udf_tree_model.proofs.Finding.{volume_within}
use Rattle.udf_tree_model.proofs.Keeping.{edge_from, kept_found, kept_start, kept_target}
use Rattle.udf_tree_model.proofs.Linking.{said_there}
use Rattle.udf_tree_model.proofs.Members.{any_from, contains_of}
use Rattle.udf_tree_model.proofs.Places.{address_same, same_address}
use Rattle.udf_tree_model.proofs.Settling.{settled}
use Rattle.udf_tree_model.proofs.Stating.{accepted_starts}
use Rattle.udf_tree_model.specs.Claimed.{claims}
use Rattle.udf_file_mends.specs.Mends.{HasMendOf, mended_disk}
use Rattle.udf_file_mends.specs.Repairable.{IsRepairable}
use Rattle.udf_file_mends.specs.Wanted.{entry_after, wanted}
use Rattle.udf_file_mends.proofs.Disk.{named_by}
use Rattle.udf_file_mends.proofs.Links.{any_none}
use Rattle.udf_file_mends.proofs.Everywhere.{all_mended}
use Rattle.udf_file_mends.proofs.Held.{is_read}
use Rattle.udf_file_mends.proofs.Joined.{claims_free, has_each, has_entry, others_stay}
use Rattle.udf_file_mends.proofs.Blockwise.{mended_bytes, mended_long}
use Rattle.udf_file_mends.proofs.Nodes.{entry_reads}

pub not_any : {X : Type 0} (p : X → Bool) (xs : List X) → list_any p xs ≡ false → (x : X) → Member x xs → p x ≡ false
not_any p xs h x m = by (p x) refl
  where
    by : (b : Bool) → p x ≡ b → p x ≡ false
    by true e = absurd (false≢true (sym h ∙ any_from p xs x m e))
    by false e = e

entry_stays : (v : Volume) (disk : ℕ → List ℕ) (a : Addr) → block_at (with_disk v disk) a ≡ block_at v a → entry_at (with_disk v disk) a ≡ entry_at v a
unfolding entry_at
entry_stays v disk a h = ap (λ (o : Option Entry). cond (is_address a) o None) (by (v.place a) h)
  where
    by : (o : Option ℕ) → block_by disk o ≡ block_by v.disk o → entry_by (with_disk v disk) a o ≡ entry_by v a o
    by None e = refl
    by (Some n) e = ap (entry_of a.block) e

-- where an entry stands there is no indirect one
pub not_indirect : (v : Volume) (a : Addr) (e : Entry) → entry_at v a ≡ Some e → is_indirect v a ≡ false
unfolding is_indirect entry_header
not_indirect v a e h =
    let r = is_read v a e h in
    ap (λ b. b && is_indirect_by v a (v.place a)) r.fits ∙ ap (is_indirect_by v a) r.place ∙ by (v.disk r.sector) (id_at a.block (v.disk r.sector)) r.header
  where
    other : (n : ℕ) → (n == 261) ≡ true → (n == 259) ≡ false
    other n t = grind (arith, nat_tests)

    another : (n : ℕ) → (n == 266) ≡ true → (n == 259) ≡ false
    another n t = grind (arith, nat_tests)

    by_id : (block : List ℕ) (n : ℕ) (x y : Bool) → (n == 261) ≡ x → (n == 266) ≡ y → fitting block (cond x (Some 176) (cond y (Some 216) None)) ≡ Some e.header → (n == 259) ≡ false
    by_id block n true y p q k = other n p
    by_id block n false true p q k = another n q
    by_id block n false false p q k = cc

    by : (block : List ℕ) (o : Option ℕ) → fitting block (header_by o) ≡ Some e.header → is_id 259 o ≡ false
    by block None k = refl
    by block (Some n) k = by_id block n (n == 261) (n == 266) refl refl k

-- what is not refused
pub record Passed (x y z w : Bool) : Type 0 where
  pub first : x ≡ false
  pub second : y ≡ false
  pub third : z ≡ false
  pub last : w ≡ true

pub passed : (x y z w : Bool) → cond x (Some Strategy) (cond y (Some ExtendedDescriptors) (cond z (Some AttributeFile) (cond w None (Some RootDirectory)))) ≡ None → Passed x y z w
passed true y z w e = cc
passed false true z w e = cc
passed false false true w e = cc
passed false false false true e = record { first = refl; second = refl; third = refl; last = refl }
passed false false false false e = cc

pub or_none : (x y : Bool) → (x || y) ≡ false → (x ≡ false) × (y ≡ false)
or_none true y e = cc
or_none false y e = (refl, e)

module _ (f : Frame) (v : Volume) (disk : ℕ → List ℕ) (ok : IsRepairable f v) (each : (a : Addr) → is_kept_entry f v a ≡ true → HasMendOf f v a disk)
    (chosen : (a : Addr) → is_holder f v a ≡ true → selected (setting_of f v) (tree_of f v) a ≡ kept_links (setting_of f v) (tree_of f v) a)
    (stays : (a : Addr) → is_holder f v a ≡ true → block_at (with_disk v disk) a ≡ block_at v a) where
  abbrev w : Volume
  w = with_disk v disk

  abbrev s : Setting
  s = setting_of f v

  abbrev t : Tree
  t = tree_of f v

  abbrev u : Tree
  u = tree_of f (with_disk v disk)

  starts : HasSoundStarts s t
  starts = accepted_starts f v ok.accepted ok.file_set

  within : IsWithin s t
  within = volume_within f v

  all : IsMended s t u
  all = all_mended f v disk ok each chosen

  is_settled : IsSettled s t u
  is_settled = settled s t u all

  -- the entry at a kept address
  abbrev Kept : Addr → Type 0
  Kept a = (entry_at w a ≡ entry_at v a) ⊎ ((e : Entry) × (entry_at v a ≡ Some e) × (entry_at w a ≡ Some (entry_after f v a e)))

  new_entry : (a : Addr) → is_kept_entry f v a ≡ true → (e : Entry) × (entry_at v a ≡ Some e) × (entry_at w a ≡ Some (entry_after f v a e))
  new_entry a k = let e = has_entry f v ok a k in (e.0, e.1, entry_reads f v disk a e.0 (record { repairable = ok; kept = k; entry = e.1; has = each a k }))

  kept_entry_of : (a : Addr) → kept s t a ≡ true → is_holder f v a ≡ false → is_kept_entry f v a ≡ true
  unfolding is_kept_entry
  kept_entry_of a k h = and_from (kept s t a) (not (is_holder f v a)) k (ap not h)

  kept_entry : (a : Addr) → kept s t a ≡ true → Kept a
  kept_entry a k = by (is_holder f v a) refl
    where
      by : (b : Bool) → is_holder f v a ≡ b → Kept a
      by true h = inl (entry_stays v disk a (stays a h))
      by false h = inr (new_entry a (kept_entry_of a k h))

  -- no test that a mend leaves alone finds anything new
  none_found : (test : Entry → Bool) → ((e : Entry) (q : Wanted) → test (mended q e) ≡ test e) → some_found f v test ≡ false → some_found f w test ≡ false
  unfolding some_found setting_of places
  none_found test same h = any_none _ _ (λ a m. by a m (found s u a) refl)
    where
      old : (a : Addr) → Member a (places v) → kept s t a ≡ true → passes test (entry_at v a) ≡ false
      old a m k =
          let x = not_any (λ (b : Addr). found s t b && passes test (entry_at v b)) (places v) h a m in
          sym (ap (λ b. b && passes test (entry_at v a)) (kept_found s t within starts a k)) ∙ x

      new : (a : Addr) → passes test (entry_at v a) ≡ false → Kept a → passes test (entry_at w a) ≡ false
      new a x (inl e) = ap (passes test) e ∙ x
      new a x (inr r) = ap (passes test) r.2 ∙ same r.0 (wanted f v a r.0 (block_at v a)) ∙ sym (ap (passes test) r.1) ∙ x

      by : (a : Addr) → Member a (places v) → (b : Bool) → found s u a ≡ b → (found s u a && passes test (entry_at w a)) ≡ false
      by a m true e =
          let k = sym (is_settled.found_is_kept a) ∙ e in
          ap (λ b. b && passes test (entry_at w a)) e ∙ new a (old a m k) (kept_entry a k)
      by a m false e = ap (λ b. b && passes test (entry_at w a)) e

  -- no link leads to an indirect entry
  start_of : (a : Addr) → is_holder f v a ≡ true → s.start a ≡ true
  unfolding is_holder setting_of is_start
  start_of a h =
      let p = and_parts (is_some f.system) (is_file_set f v a) h in
      let q = and_parts (same_addr a f.file_set) (is_address a && is_placed v a) p.1 in
      or_right (same_addr a f.root) (is_some f.system && same_addr a f.file_set) (and_from (is_some f.system) (same_addr a f.file_set) p.0 q.0)

  target_there : (a : Addr) → kept s t a ≡ true → (l : Link) → Member l (whole_links u a) → is_indirect w (target_of l.says) ≡ false
  target_there a k l m =
      let r = said_there (whole_links u a) (fitted s t a) (all.each a k).same_links l m in
      let keeps : KeepsBy s t (target_of r.0.says) a r.0 = record { holder = k; among = contains_of (fitted s t a) r.0 r.1; leads = refl } in
      let no_start = keeps_no_start s t starts (target_of r.0.says) a r.0 keeps in
      let there = kept_target s t within starts a (target_of r.0.says) k (edge_from s t a (target_of r.0.says) r.0 r.1 refl) in
      let e = new_entry (target_of r.0.says) (kept_entry_of (target_of r.0.says) there (not_holder (target_of r.0.says) no_start (is_holder f v (target_of r.0.says)) refl)) in
      ap (λ z. is_indirect w (target_of z)) r.2 ∙ not_indirect w (target_of r.0.says) (entry_after f v (target_of r.0.says) e.0) e.2
    where
      not_holder : (x : Addr) → s.start x ≡ false → (b : Bool) → is_holder f v x ≡ b → is_holder f v x ≡ false
      not_holder x n true h = absurd (false≢true (sym n ∙ start_of x h))
      not_holder x n false h = h

  none_indirect : names_indirect f w ≡ false
  unfolding names_indirect setting_of places
  none_indirect = any_none _ _ (λ a m. by a (found s u a) refl)
    where
      by : (a : Addr) (b : Bool) → found s u a ≡ b → (found s u a && list_any (λ link. is_indirect w (target_of link.says)) (whole_links u a)) ≡ false
      by a true e =
          let k = sym (is_settled.found_is_kept a) ∙ e in
          ap (λ b. b && list_any (λ link. is_indirect w (target_of link.says)) (whole_links u a)) e ∙ any_none (λ link. is_indirect w (target_of link.says)) (whole_links u a) (λ l m. target_there a k l m)
      by a false e = ap (λ b. b && list_any (λ link. is_indirect w (target_of link.says)) (whole_links u a)) e

  root_start : s.start f.root ≡ true
  unfolding setting_of is_start
  root_start = ap (λ b. b || (is_some f.system && same_addr f.root f.file_set)) (address_same f.root f.root refl)

  root_stays : has_root f v ≡ true → has_root f w ≡ true
  unfolding has_root setting_of places
  root_stays h =
      let k = kept_start s t within starts f.root root_start in
      let p = and_parts (passes (λ e. true) (entry_at v f.root)) (sound s t f.root && (node_at t f.root).directory) h in
      and_from (passes (λ e. true) (entry_at w f.root)) (sound s u f.root && (node_at u f.root).directory) (there p.0 (kept_entry f.root k))
      (and_from (sound s u f.root) (node_at u f.root).directory (is_settled.at_each f.root k).is_sound
      ((all.each f.root k).same_kind ∙ starts.directories f.root root_start))
    where
      there : passes (λ e. true) (entry_at v f.root) ≡ true → Kept f.root → passes (λ e. true) (entry_at w f.root) ≡ true
      there h (inl e) = ap (passes (λ e. true)) e ∙ h
      there h (inr r) = ap (passes (λ e. true)) r.2

  pub accepted_again : refusal f (with_disk v disk) ≡ None
  unfolding refusal
  accepted_again =
      let p = passed (some_found f v has_other_strategy || names_indirect f v) (some_found f v has_extended_descriptors) (some_found f v has_attribute_file) (has_root f v) ok.accepted in
      let strategy = none_found has_other_strategy (λ e q. refl) (or_none (some_found f v has_other_strategy) (names_indirect f v) p.first).0 in
      ap (λ b. refused (b || names_indirect f w) (some_found f w has_extended_descriptors) (some_found f w has_attribute_file) (has_root f w)) strategy
      ∙ ap (λ b. refused b (some_found f w has_extended_descriptors) (some_found f w has_attribute_file) (has_root f w)) none_indirect
      ∙ ap (λ b. refused false b (some_found f w has_attribute_file) (has_root f w)) (none_found has_extended_descriptors (λ e q. refl) p.second)
      ∙ ap (λ b. refused false false b (has_root f w)) (none_found has_attribute_file (λ e q. refl) p.third)
      ∙ ap (λ b. refused false false false b) (root_stays p.last)
    where
      refused : Bool → Bool → Bool → Bool → Option Refusal
      refused x y z r = cond x (Some Strategy) (cond y (Some ExtendedDescriptors) (cond z (Some AttributeFile) (cond r None (Some RootDirectory))))

-- ---- with all mends and nothing else
module _ (f : Frame) (v : Volume) (ok : IsRepairable f v) (chosen : (a : Addr) → is_holder f v a ≡ true → selected (setting_of f v) (tree_of f v) a ≡ kept_links (setting_of f v) (tree_of f v) a)
    (fixed : f.fixed f.file_set ≡ true) where
  -- the file set's block stays, since no entry claims it
  file_set_stays : (a : Addr) → is_holder f v a ≡ true → block_at (with_disk v (mended_disk f v)) a ≡ block_at v a
  unfolding is_holder
  file_set_stays a h =
      let p = and_parts (is_some f.system) (is_file_set f v a) h in
      let q = and_parts (same_addr a f.file_set) (is_address a && is_placed v a) p.1 in
      let r = and_parts (is_address a) (is_placed v a) q.1 in
      let n = named_by (v.place a) r.1 in
      let here : a ≡ f.file_set = same_address a f.file_set q.0 in
      ap (block_by (mended_disk f v)) n.1
      ∙ others_stay f v ok n.0 (λ b x k c place. free b x k c (ok.apart x a n.0 place n.1 ∙ here))
      ∙ sym (ap (block_by v.disk) n.1)
    where
      free : (b x : Addr) → is_kept_entry f v b ≡ true → claims f v b x ≡ true → x ≡ f.file_set → ⊥
      free b x k c e = false≢true (sym (claims_free f v ok b x k c) ∙ ap f.fixed e ∙ fixed)

  pub repairable_again : IsRepairable f (with_disk v (mended_disk f v))
  repairable_again = record {
    size = ok.size;
    bytes = mended_bytes f v ok;
    whole = mended_long f v ok;
    low = ok.low;
    apart = ok.apart;
    accepted = accepted_again f v (mended_disk f v) ok (has_each f v ok) chosen file_set_stays;
    file_set = ok.file_set;
  }
