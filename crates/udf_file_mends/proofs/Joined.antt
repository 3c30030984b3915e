-- All mends at once: kept entries claim different addresses, so the disk with all of them has each.
use Rattle.std.proofs.Common.{◌≡◌, ◌⊎◌, ℕ, ◌&&◌, ◌||◌, not, Bool, true, false, Option, Some, None, List, [], ◌∷◌, ◌++◌, refl, sym, ap, ◌∙◌, subst, inl, inr}
use Rattle.std.specs.Prelude.{is_some}
use Rattle.std.specs.List.{filter, flat_map, list_all}
use Rattle.std.proofs.lemmas.Bool.{and_parts, false≢true}
use Rattle.udf_field.specs.declared.address.Addr.{Addr}
use Rattle.udf_file_model.specs.Address.{same_addr}
use Rattle.udf_file_model.specs.Entry.{Entry}
use Rattle.udf_file_model.specs.Listing.{Volume, with_disk}
use Rattle.udf_volume_model.specs.Edits.{look}
use Rattle.udf_tree_model.specs.Among.{Member}
use Rattle.udf_tree_model.specs.Claimed.{claims}
use Rattle.udf_tree_model.specs.Found.{found}
use Rattle.udf_tree_model.specs.Frame.{Frame, entry_at, is_holder, node_by, places, setting_of, tree_of}
use Rattle.udf_tree_model.specs.Laws.{IsWithin}
use Rattle.udf_tree_model.specs.Node.{Item, Node, Setting, Tree, node_at, readable, wants}
use Rattle.udf_tree_model.specs.Ordinary.{is_kept_entry, kept_entries}
use Rattle.udf_tree_model.specs.Kept.{kept}
use Rattle.udf_tree_model.specs.Stated.{taken}
use Rattle.udf_tree_model.specs.Won.{IsWant, kept_length, sound, wins}
use Rattle.udf_tree_model.proofs.Finding.{found_readable, volume_within}
use Rattle.udf_tree_model.proofs.Keeping.{kept_found, kept_sound}
use Rattle.udf_tree_model.proofs.Members.{all_at, contains_of, member_append, member_filter, member_filtered, member_left, member_map, member_of, member_of_map, member_right}
use Rattle.udf_tree_model.proofs.Places.{address_same, placed_among, readable_placed, same_address}
use Rattle.udf_tree_model.proofs.Stating.{accepted_starts, entry_node}
use Rattle.udf_tree_model.proofs.Winning.{one_winner, wins_gives}
use Rattle.udf_file_mends.specs.Mends.{HasMendOf, edits_at, file_edits, mend_of, mended_disk}
use Rattle.udf_file_mends.specs.Repairable.{IsMendOn, IsRepairable}
use Rattle.udf_file_mends.specs.Spread.{Sited}
use Rattle.udf_file_mends.proofs.Disk.{mend_claimed}
use Rattle.udf_file_mends.proofs.Nodes.{is_mended, takes_claims}
use Rattle.udf_file_mends.proofs.Sited.{look_absent, look_again, look_joined, look_off}

not_true : (b : Bool) → not b ≡ true → b ≡ false
not_true true e = absurd (false≢true e)
not_true false e = refl

-- ---- edits of several, of which one alone counts at a sector
module _ (n : ℕ) (edits : Addr → List (ℕ × List ℕ)) (a : Addr) where
  -- the edits of another do not count
  abbrev Quiet : Addr → Type 0
  Quiet c = (block : List ℕ) → look n (edits c) block ≡ block

  look_each : (cs : List Addr) (block : List ℕ) → ((c : Addr) → Member c cs → same_addr c a ≡ false → Quiet c)
      → (look n (flat_map edits cs) block ≡ block) ⊎ (look n (flat_map edits cs) block ≡ look n (edits a) block)
  unfolding look
  look_each [] block h = inl refl
  look_each (c ∷ cs) block h = by (same_addr c a) refl (look_each cs block (λ d m. h d (inr m)))
    where
      own : c ≡ a → (look n (flat_map edits cs) block ≡ block) ⊎ (look n (flat_map edits cs) block ≡ look n (edits a) block)
          → look n (edits c ++ flat_map edits cs) block ≡ look n (edits a) block
      own q (inl r) = look_joined n (edits c) (flat_map edits cs) block ∙ ap (look n (edits c)) r ∙ ap (λ z. look n (edits z) block) q
      own q (inr r) =
          look_joined n (edits c) (flat_map edits cs) block ∙ ap (look n (edits c)) r ∙ ap (λ z. look n (edits z) (look n (edits a) block)) q ∙ look_again n (edits a) block

      quiet : Quiet c → (look n (flat_map edits cs) block ≡ block) ⊎ (look n (flat_map edits cs) block ≡ look n (edits a) block)
          → (look n (edits c ++ flat_map edits cs) block ≡ block) ⊎ (look n (edits c ++ flat_map edits cs) block ≡ look n (edits a) block)
      quiet q (inl r) = inl (look_joined n (edits c) (flat_map edits cs) block ∙ q (look n (flat_map edits cs) block) ∙ r)
      quiet q (inr r) = inr (look_joined n (edits c) (flat_map edits cs) block ∙ q (look n (flat_map edits cs) block) ∙ r)

      by : (b : Bool) → same_addr c a ≡ b → (look n (flat_map edits cs) block ≡ block) ⊎ (look n (flat_map edits cs) block ≡ look n (edits a) block)
          → (look n (edits c ++ flat_map edits cs) block ≡ block) ⊎ (look n (edits c ++ flat_map edits cs) block ≡ look n (edits a) block)
      by true e r = inr (own (same_address c a e) r)
      by false e r = quiet (h c (inl refl) e) r

  look_one : (cs : List Addr) (block : List ℕ) → ((c : Addr) → Member c cs → same_addr c a ≡ false → Quiet c) → Member a cs
      → look n (flat_map edits cs) block ≡ look n (edits a) block
  look_one [] block h m = absurd m
  look_one (c ∷ cs) block h m = by (same_addr c a) refl m (look_each cs block (λ d k. h d (inr k))) (λ k. look_one cs block (λ d j. h d (inr j)) k)
    where
      by : (b : Bool) → same_addr c a ≡ b → (a ≡ c) ⊎ Member a cs → (look n (flat_map edits cs) block ≡ block) ⊎ (look n (flat_map edits cs) block ≡ look n (edits a) block)
          → (Member a cs → look n (flat_map edits cs) block ≡ look n (edits a) block) → look n (edits c ++ flat_map edits cs) block ≡ look n (edits a) block
      by true e k r on =
          own r
        where
          q : c ≡ a
          q = same_address c a e

          own : (look n (flat_map edits cs) block ≡ block) ⊎ (look n (flat_map edits cs) block ≡ look n (edits a) block) → look n (edits c ++ flat_map edits cs) block ≡ look n (edits a) block
          own (inl z) = look_joined n (edits c) (flat_map edits cs) block ∙ ap (look n (edits c)) z ∙ ap (λ y. look n (edits y) block) q
          own (inr z) =
              look_joined n (edits c) (flat_map edits cs) block ∙ ap (look n (edits c)) z ∙ ap (λ y. look n (edits y) (look n (edits a) block)) q ∙ look_again n (edits a) block
      by false e (inl q) r on = absurd (false≢true (sym e ∙ address_same c a (sym q)))
      by false e (inr k) r on = look_joined n (edits c) (flat_map edits cs) block ∙ h c (inl refl) e (look n (flat_map edits cs) block) ∙ on k

look_none : (n : ℕ) (edits : Addr → List (ℕ × List ℕ)) (cs : List Addr) (block : List ℕ) → ((c : Addr) → Member c cs → (z : List ℕ) → look n (edits c) z ≡ z)
    → look n (flat_map edits cs) block ≡ block
unfolding look
look_none n edits [] block h = refl
look_none n edits (c ∷ cs) block h =
    look_joined n (edits c) (flat_map edits cs) block ∙ h c (inl refl) (look n (flat_map edits cs) block) ∙ look_none n edits cs block (λ d m. h d (inr m))

module _ (f : Frame) (v : Volume) (ok : IsRepairable f v) where
  abbrev s : Setting
  s = setting_of f v

  abbrev t : Tree
  t = tree_of f v

  within : IsWithin s t
  within = volume_within f v

  is_kept : (a : Addr) → is_kept_entry f v a ≡ true → (kept s t a ≡ true) × (is_holder f v a ≡ false)
  unfolding is_kept_entry
  is_kept a h = let p = and_parts (kept s t a) (not (is_holder f v a)) h in (p.0, not_true (is_holder f v a) p.1)

  is_found : (a : Addr) → is_kept_entry f v a ≡ true → found s t a ≡ true
  is_found a h = kept_found s t within (accepted_starts f v ok.accepted ok.file_set) a (is_kept a h).0

  is_readable : (a : Addr) → is_kept_entry f v a ≡ true → readable t a ≡ true
  is_readable a h = found_readable s t within a (is_found a h)

  -- a kept entry is readable
  pub has_entry : (a : Addr) → is_kept_entry f v a ≡ true → (e : Entry) × (entry_at v a ≡ Some e)
  unfolding readable
  has_entry a h = by (entry_at v a) refl (sym (ap (λ (o : Option Node). is_some o) (entry_node f v a (is_kept a h).1)) ∙ is_readable a h)
    where
      by : (o : Option Entry) → entry_at v a ≡ o → is_some (node_by f v a (entry_at v a)) ≡ true → (e : Entry) × (entry_at v a ≡ Some e)
      by None q r = absurd (false≢true (sym (ap (λ z. is_some (node_by f v a z)) q) ∙ r))
      by (Some e) q r = (e, q)

  listed : (a : Addr) → is_kept_entry f v a ≡ true → Member a (kept_entries f v)
  unfolding kept_entries
  listed a h =
      let p = readable_placed f v a (is_readable a h) in
      member_filtered (is_kept_entry f v) (places v) a (placed_among v a p.0 p.1) h

  pub unlisted : (a : Addr) → Member a (kept_entries f v) → is_kept_entry f v a ≡ true
  unfolding kept_entries
  unlisted a m = (member_filter (is_kept_entry f v) (places v) a m).1

  -- ---- what a kept entry claims it won
  pub record Claimed (a x : Addr) : Type 0 where
    pub item : Item
    pub want : IsWant (setting_of f v) (tree_of f v) a item
    pub at : item.at ≡ x
    pub won : wins (setting_of f v) (tree_of f v) a item ≡ true

  module _ (a : Addr) (h : is_kept_entry f v a ≡ true) where
    abbrev e : Entry
    e = (has_entry a h).0

    -- a disk with this mend alone
    abbrev alone : ℕ → List ℕ
    alone n = look n (edits_at f v a) (v.disk n)

    abbrev u : Tree
    u = tree_of f (with_disk v alone)

    mend : IsMendOn f v alone a e
    mend = record { repairable = ok; kept = h; entry = (has_entry a h).1; has = record { blocks = λ y n k p. refl } }

    taken_item : (is : List Item) (y : Addr) → Member y (taken is) → (i : Item) × Member i is × (i.takes ≡ true) × (i.at ≡ y)
    taken_item is y k =
        let r = member_of_map (λ (i : Item). i.at) (filter (λ i. i.takes) is) y k in
        let q = member_filter (λ (i : Item). i.takes) is r.0 r.1 in
        (r.0, q.0, q.1, sym r.2)

    own_all : list_all (wins s t a) (node_at t a).own ≡ true
    unfolding sound
    own_all =
        let z = kept_sound s t within (accepted_starts f v ok.accepted ok.file_set) a (is_kept a h).0 in
        let p = and_parts (found s t a) (list_all (wins s t a) (node_at t a).own && (not (node_at t a).directory || (node_at t a).enough (kept_length s t a))) z in
        (and_parts (list_all (wins s t a) (node_at t a).own) (not (node_at t a).directory || (node_at t a).enough (kept_length s t a)) p.1).0

    want_of : (j : Item) → Member j (wants t a) → j.takes ≡ true → IsWant s t a j
    want_of j k z = record { found_owner = is_found a h; among = contains_of (wants t a) j k; takes = z }

    claimed : (x : Addr) → claims f v a x ≡ true → Claimed a x
    unfolding wants
    claimed x c = by_item (taken_item (wants u a) x (member_of (taken (wants u a)) x ((takes_claims f v alone a e mend x).0 c)))
      where
        go : (i : Item) → i.takes ≡ true → i.at ≡ x → Member i (node_at u a).own ⊎ Member i (node_at u a).list → Claimed a x
        go i takes at (inl k) =
            let L : List Item → Type 0 = λ z. Member i z in
            let there : Member i (node_at t a).own = subst L (is_mended f v alone a e mend).same_own k in
            record {
              item = i;
              want = want_of i (member_left (node_at t a).own (node_at t a).list i there) takes;
              at = at;
              won = all_at (wins s t a) (node_at t a).own i own_all there;
            }
        go i takes at (inr k) =
            let j = (is_mended f v alone a e mend).won i (contains_of (node_at u a).list i k) takes in
            record {
              item = j.0;
              want = want_of j.0 (member_right (node_at t a).own (node_at t a).list j.0 (member_of (node_at t a).list j.0 j.1)) (sym j.2.takes ∙ takes);
              at = sym j.2.address ∙ at;
              won = j.3;
            }

        by_item : (i : Item) × Member i (wants u a) × (i.takes ≡ true) × (i.at ≡ x) → Claimed a x
        by_item r = go r.0 r.2 r.3 (member_append (node_at u a).own (node_at u a).list r.0 r.1)

  -- so an address is claimed by one
  pub claims_one : (a b x : Addr) → is_kept_entry f v a ≡ true → is_kept_entry f v b ≡ true → claims f v a x ≡ true → claims f v b x ≡ true → a ≡ b
  claims_one a b x h k c d =
      let i = claimed a h x c in
      let j = claimed b k x d in
      one_winner s t within a b i.item j.item i.want j.want (i.at ∙ sym j.at) i.won j.won

  -- and is not fixed
  pub claims_free : (a x : Addr) → is_kept_entry f v a ≡ true → claims f v a x ≡ true → f.fixed x ≡ false
  unfolding setting_of
  claims_free a x h c =
      let i = claimed a h x c in
      let free : s.fixed i.item.at ≡ false = (wins_gives s t a i.item i.won).0 in
      sym (ap f.fixed i.at) ∙ free

  quiet : (a x : Addr) (n : ℕ) → is_kept_entry f v a ≡ true → claims f v a x ≡ true → v.place x ≡ Some n → (c : Addr) → Member c (kept_entries f v) → same_addr c a ≡ false
      → (block : List ℕ) → look n (edits_at f v c) block ≡ block
  unfolding edits_at
  quiet a x n h k p c m off block =
      let kc = unlisted c m in
      let ec = has_entry c kc in
      look_off v ok.apart x n p (mend_of f v c) block
      (λ i. false≢true (sym off ∙ address_same c a (claims_one c a x kc h (mend_claimed f v ok c ec.0 kc ec.1 x i) k)))

  pub has_each : (a : Addr) → is_kept_entry f v a ≡ true → HasMendOf f v a (mended_disk f v)
  unfolding file_edits
  has_each a h = record {
    blocks = λ x n k p. look_one n (edits_at f v) a (kept_entries f v) (v.disk n) (λ c m off block. quiet a x n h k p c m off block) (listed a h);
  }

  -- a sector at which no claimed address stands keeps its block
  pub others_stay : (n : ℕ) → ((a x : Addr) → is_kept_entry f v a ≡ true → claims f v a x ≡ true → v.place x ≡ Some n → ⊥) → mended_disk f v n ≡ v.disk n
  unfolding file_edits edits_at
  others_stay n off =
      look_none n (edits_at f v) (kept_entries f v) (v.disk n)
      (λ c m block.
      let kc = unlisted c m in
      let ec = has_entry c kc in
      look_absent v n (mend_of f v c) block (λ d i p. off c d.0 kc (mend_claimed f v ok c ec.0 kc ec.1 d.0 (member_map (λ (z : Sited). z.0) (mend_of f v c) d i)) p))
