-- How many FIDs of ordinary directories name files, summed over found entries.
use Rattle.std.proofs.Common.{◌≡◌, ◌⊎◌, ℕ, zero, suc, ◌+◌, ◌<◌, ◌≤◌, List, [], ◌∷◌, length, take, get_or, Bool, true, false, cond, not, ◌&&◌, Option, Some, None, refl, sym, ap, ◌∙◌, inl, inr, arith}
use Rattle.std.specs.Prelude.{count_by, nat_le, slice_get, sum_by}
use Rattle.std.specs.List.{filter}
use Rattle.std.proofs.lemmas.List.{take_all}
use Rattle.std.proofs.lemmas.List.Sums.{sum_by-cons, sum_by_more}
use Rattle.std.proofs.lemmas.Option.{get_or_from_slice_get}
use Rattle.udf_field.specs.declared.address.Addr.{Addr}
use Rattle.udf_file_model.specs.Listing.{Volume}
use Rattle.udf_tree_model.specs.Among.{Member}
use Rattle.udf_tree_model.specs.Chosen.{fitted}
use Rattle.udf_tree_model.specs.Counts.{is_directory_by, is_kept_directory, ordinary_entries}
use Rattle.udf_tree_model.specs.Frame.{Frame, entry_at, places, setting_of, tree_of}
use Rattle.udf_tree_model.specs.Kept.{kept}
use Rattle.udf_tree_model.specs.Laws.{HasSoundStarts}
use Rattle.udf_tree_model.specs.Link.{Link, is_pointer, target_of}
use Rattle.udf_tree_model.specs.Ordinary.{files_named, files_named_in, ordinary_directories}
use Rattle.udf_tree_model.specs.Parent.{ordinary}
use Rattle.udf_tree_model.proofs.Finding.{found_readable, volume_within}
use Rattle.udf_tree_model.proofs.Keeping.{edge_from, kept_found, kept_target}
use Rattle.udf_tree_model.proofs.Members.{member_map}
use Rattle.udf_tree_model.proofs.Places.{placed_among, readable_placed}
use Rattle.udf_kept.specs.declared.entries.Entries.{Entries}
use Rattle.udf_kept.specs.declared.fitted.Fitted.{Fitted}
use Rattle.udf_held.specs.declared.held.Held.{Held}
use Rattle.udf_tree.specs.Files.{files_from, files_seen, is_directory_held, is_directory_in, is_of_file}
use Rattle.udf_kept.specs.Fitted.{Step, at_by, at_of, step_of, step_seen}
use Rattle.udf_tree.specs.Nodes.{AreSurveyed}
use Rattle.udf_found.specs.Spot.{spot}
use Rattle.udf_contents.specs.Stays.{fitted_by}
use Rattle.udf_dues.proofs.Ascending.{places_ascend}
use Rattle.udf_dues.proofs.Balancing.{count_map, count_same}
use Rattle.udf_kept.proofs.ByIndex.{found_stands, member_at, test_at}
use Rattle.udf_tree.proofs.Enrolling.{starts}
use Rattle.udf_dues.proofs.KeptParents.{directory_is}
use Rattle.udf_kept.proofs.Ordinaries.{fitted_place, ordinary_kept}
use Rattle.udf_tree.proofs.Streaming.{steps_are}
use Rattle.udf_dues.proofs.Totals.{StandsAmong, sum_held}

module _ (f : Frame) (v : Volume) (root file_set : Addr) (e : Entries) (links ids : List ℕ) (k : AreSurveyed f v root file_set e links ids) where
  abbrev hs : List Held
  hs = e.held.items

  sound_starts : HasSoundStarts (setting_of f v) (tree_of f v)
  sound_starts = starts f v root file_set e links ids k

  -- ---- the FIDs of one directory
  abbrev directory_to : Option Addr → Bool
  directory_to None = false
  directory_to (Some a) = is_directory_by (entry_at v a)

  directory_seen : (i : ℕ) → is_directory_in hs i ≡ directory_to (at_of hs i)
  directory_seen i = by (slice_get hs i) refl
    where
      by : (o : Option Held) → slice_get hs i ≡ o → is_directory_held o ≡ directory_to (at_by o)
      by None q = refl
      by (Some h) q = sym (directory_is f v sound_starts k.set hs k.entries.held h (member_at hs i h q))

  abbrev to_file : Step → Bool
  to_file st = nat_le 1 st.place && not (directory_to st.to)

  -- what an ordinary directory names is kept
  target_kept : (a : Addr) (l : Link) → kept (setting_of f v) (tree_of f v) a ≡ true → Member l (fitted (setting_of f v) (tree_of f v) a) → is_kept_directory f v (target_of l.says) ≡ is_directory_by (entry_at v (target_of l.says))
  target_kept a l own m =
      ap (λ (b : Bool). b && is_directory_by (entry_at v (target_of l.says)))
      (kept_target (setting_of f v) (tree_of f v) (volume_within f v) sound_starts a (target_of l.says) own (edge_from (setting_of f v) (tree_of f v) a (target_of l.says) l m refl))

  named_there : (i : ℕ) (a : Addr) → at_of hs i ≡ Some a → kept (setting_of f v) (tree_of f v) a ≡ true → count_by (is_of_file hs) (fitted_by (slice_get e.selected.items i)) ≡ files_named_in f v a
  unfolding files_named_in
  named_there i a at own =
      let fs = fitted_by (slice_get e.selected.items i) in
      let ls = fitted (setting_of f v) (tree_of f v) a in
      count_same (is_of_file hs) (λ (x : Fitted). to_file (step_seen hs x)) fs (λ x m. ap (λ (b : Bool). nat_le 1 x.place && not b) (directory_seen x.to))
      ∙ sym (count_map to_file (step_seen hs) fs)
      ∙ ap (count_by to_file) (steps_are f v root file_set e links ids k i a at own)
      ∙ count_map to_file step_of ls
      ∙ count_same (λ (l : Link). to_file (step_of l)) (λ (l : Link). not (is_pointer l.says) && not (is_kept_directory f v (target_of l.says))) ls
      (λ l m. ap (λ (b : Bool). b && not (is_directory_by (entry_at v (target_of l.says)))) (sym (fitted_place f v a l m)) ∙ ap (λ (b : Bool). not (is_pointer l.says) && not b) (sym (target_kept a l own m)))

  -- ---- of an address
  ordinary_is_kept : (a : Addr) → ordinary f v a ≡ true → kept (setting_of f v) (tree_of f v) a ≡ true
  unfolding ordinary
  ordinary_is_kept a o = ordinary_kept f v sound_starts a o

  files_there : (i : ℕ) (h : Held) → slice_get hs i ≡ Some h → files_seen e i ≡ files_from f v h.at
  files_there i h there =
      ap (λ (b : Bool). cond (b && is_directory_in hs i) count 0) (ap (λ (bs : List Bool). get_or bs i false) k.entries.ordinary_are ∙ test_at (λ (z : Held). ordinary f v z.at) hs i h there)
      ∙ ap (λ (b : Bool). cond (ordinary f v h.at && b) count 0) (directory_seen i ∙ ap (λ o. directory_to (at_by o)) there)
      ∙ by (ordinary f v h.at) refl
    where
      count : ℕ
      count = count_by (is_of_file hs) (fitted_by (slice_get e.selected.items i))

      by : (b : Bool) → ordinary f v h.at ≡ b → cond (b && is_directory_by (entry_at v h.at)) count 0 ≡ cond (b && is_kept_directory f v h.at) (files_named_in f v h.at) 0
      by false o = refl
      by true o =
          let own = ordinary_is_kept h.at o in
          ap (λ (n : ℕ). cond (is_directory_by (entry_at v h.at)) n 0) (named_there i h.at (ap at_by there) own)
          ∙ ap (λ (b : Bool). cond (b && is_directory_by (entry_at v h.at)) (files_named_in f v h.at) 0) (sym own)

  -- ---- of all
  some_more : (i : ℕ) → i < length hs → (h : Held) × (slice_get hs i ≡ Some h)
  some_more i l = by (slice_get hs i) refl
    where
      by : (o : Option Held) → slice_get hs i ≡ o → (h : Held) × (slice_get hs i ≡ Some h)
      by (Some h) q = (h, q)
      by None q = absurd (past hs i l q)
        where
          past : (xs : List Held) (j : ℕ) → j < length xs → slice_get xs j ≡ None → ⊥
          past [] j l q = omega (arith, l)
          past (x ∷ xs) zero l q = cc
          past (x ∷ xs) (suc j) l q = past xs j (omega (arith, l)) q

  pub files_more : (i files more : ℕ) → i < length hs → files ≡ sum_by (λ h. files_from f v h.at) (take i hs) → more ≡ files_seen e i → files + more ≡ sum_by (λ h. files_from f v h.at) (take (i + 1) hs)
  files_more i files more l was is =
      let r = some_more i l in
      let next = sum_by_more (λ (h : Held). files_from f v h.at) hs i r.0 l in
      let here : more ≡ files_from f v r.0.at = is ∙ files_there i r.0 r.1 in
      let same : files_from f v (get_or hs i r.0).at ≡ files_from f v r.0.at = ap (λ (h : Held). files_from f v h.at) (get_or_from_slice_get hs i r.0 r.0 r.1) in
      omega (arith, was, next, here, same)

  both_filters : (p q : Addr → Bool) (g : Addr → ℕ) (xs : List Addr) → sum_by (λ a. cond (p a && q a) (g a) 0) xs ≡ sum_by g (filter q (filter p xs))
  both_filters p q g [] = refl
  both_filters p q g (x ∷ xs) = by (p x) (q x) refl refl (both_filters p q g xs)
    where
      by : (b c : Bool) → p x ≡ b → q x ≡ c → sum_by (λ a. cond (p a && q a) (g a) 0) xs ≡ sum_by g (filter q (filter p xs))
          → sum_by (λ a. cond (p a && q a) (g a) 0) (x ∷ xs) ≡ sum_by g (filter q (cond b (x ∷ filter p xs) (filter p xs)))
      by false c i j ih =
          let step = sum_by-cons (λ (a : Addr). cond (p a && q a) (g a) 0) x xs in
          let here : cond (p x && q x) (g x) 0 ≡ 0 = ap (λ (b : Bool). cond (b && q x) (g x) 0) i in
          omega (arith, step, here, ih)
      by true false i j ih =
          let step = sum_by-cons (λ (a : Addr). cond (p a && q a) (g a) 0) x xs in
          let here : cond (p x && q x) (g x) 0 ≡ 0 = ap (λ (b : Bool). cond (b && q x) (g x) 0) i ∙ ap (λ (b : Bool). cond b (g x) 0) j in
          let out : sum_by g (filter q (x ∷ filter p xs)) ≡ sum_by g (filter q (filter p xs)) = ap (λ (b : Bool). sum_by g (cond b (x ∷ filter q (filter p xs)) (filter q (filter p xs)))) j in
          omega (arith, step, here, out, ih)
      by true true i j ih =
          let step = sum_by-cons (λ (a : Addr). cond (p a && q a) (g a) 0) x xs in
          let here : cond (p x && q x) (g x) 0 ≡ g x = ap (λ (b : Bool). cond (b && q x) (g x) 0) i ∙ ap (λ (b : Bool). cond b (g x) 0) j in
          let out : sum_by g (filter q (x ∷ filter p xs)) ≡ sum_by g (x ∷ filter q (filter p xs)) = ap (λ (b : Bool). sum_by g (cond b (x ∷ filter q (filter p xs)) (filter q (filter p xs)))) j in
          let more = sum_by-cons g x (filter q (filter p xs)) in
          omega (arith, step, here, out, more, ih)

  placed_held : (h : Held) → Member h hs → Member h.at (places v)
  placed_held h m =
      let s = setting_of f v in
      let t = tree_of f v in
      let own = (k.entries.held.held.listed.each (spot h.at h.level) (member_map (λ (z : Held). spot z.at z.level) hs h m)).0 in
      let r = readable_placed f v h.at (found_readable s t (volume_within f v) h.at own) in
      placed_among v h.at r.0 r.1

  stands_or : (a : Addr) → StandsAmong hs a ⊎ (files_from f v a ≡ 0)
  stands_or a = by (ordinary f v a) refl
    where
      by : (b : Bool) → ordinary f v a ≡ b → StandsAmong hs a ⊎ (files_from f v a ≡ 0)
      by false o = inr (ap (λ (b : Bool). cond (b && is_kept_directory f v a) (files_named_in f v a) 0) o)
      by true o =
          let s = setting_of f v in
          let t = tree_of f v in
          let r = found_stands s t hs k.entries.held.held a (kept_found s t (volume_within f v) sound_starts a (ordinary_is_kept a o)) in
          inl (record { entry = r.1.entry; there = member_at hs r.0 r.1.entry r.1.there; at = r.1.at })

  pub files_all : (i files : ℕ) → length hs ≤ i → files ≡ sum_by (λ h. files_from f v h.at) (take i hs) → files ≡ files_named f v
  unfolding files_named ordinary_directories ordinary_entries
  files_all i files over was =
      was
      ∙ ap (sum_by (λ (h : Held). files_from f v h.at)) (take_all i hs over)
      ∙ sum_held (files_from f v) hs k.entries.held.held.listed.once (places v) (places_ascend v) placed_held (λ a m. stands_or a)
      ∙ both_filters (ordinary f v) (is_kept_directory f v) (files_named_in f v) (places v)
