-- The counts of links by indexes are those of the volume.
use Rattle.std.proofs.Common.{◌≡◌, ◌⊎◌, ℕ, suc, ◌+◌, ◌<◌, List, [], ◌∷◌, ◌++◌, length, map, get_or, Bool, true, false, cond, not, ◌&&◌, nat_eq, eqb-true, refl, sym, ap, ◌∙◌, subst, inl, inr, arith, Option, Some, None}
use Rattle.std.specs.Prelude.{count_by, is_some, min, nat_le, slice_get, sum_by}
use Rattle.std.specs.List.{filter, flat_map}
use Rattle.std.proofs.lemmas.Bool.{and_from, and_parts, false≢true}
use Rattle.std.proofs.lemmas.Bool.Decides.{nat_tests}
use Rattle.std.proofs.lemmas.List.Sums.{sum_by-append, sum_by-cons}
use Rattle.std.proofs.lemmas.Option.{same_Some, slice_get_within}
use Rattle.udf_field.specs.declared.address.Addr.{Addr}
use Rattle.udf_file_model.specs.Address.{same_addr}
use Rattle.udf_file_model.specs.Listing.{Volume}
use Rattle.udf_tree_model.specs.Among.{Member}
use Rattle.udf_tree_model.specs.Chosen.{chosen_link, fitted}
use Rattle.udf_tree_model.specs.Counts.{high_count, is_directory_by, is_kept_directory, is_stream, kept_directories, links_with_streams, links_without_streams, low_count, named_in, parents_in}
use Rattle.udf_tree_model.specs.Found.{found, leads_to}
use Rattle.udf_tree_model.specs.Frame.{Frame, entry_at, places, setting_of, tree_of}
use Rattle.udf_tree_model.specs.Kept.{kept}
use Rattle.udf_tree_model.specs.Laws.{HasSoundStarts}
use Rattle.udf_tree_model.specs.Link.{is_pointer}
use Rattle.udf_tree_model.specs.Node.{node_at}
use Rattle.udf_tree_model.specs.Parent.{is_pointer_rank, is_stream_directory}
use Rattle.udf_tree_model.proofs.Finding.{found_readable, volume_within}
use Rattle.udf_tree_model.proofs.Keeping.{kept_found, kept_sound}
use Rattle.udf_tree_model.proofs.Members.{member_filter, member_map, same_bools}
use Rattle.udf_tree_model.proofs.Places.{address_same, placed_among, readable_placed, same_address}
use Rattle.udf_dues.specs.declared.counts.Count.{Count}
use Rattle.udf_kept.specs.declared.fitted.Choice.{Choice}
use Rattle.udf_kept.specs.declared.fitted.Fitted.{Fitted}
use Rattle.udf_kept.specs.declared.fitted.Selected.{Selected}
use Rattle.udf_held.specs.declared.held.Held.{Held}
use Rattle.udf_dues.specs.Counts.{AreCounts, AreCountsOf, IsCount}
use Rattle.udf_kept.specs.Fitted.{AreSelected, IsChoice, IsSelected, Step, at_by, at_of, step_of, step_seen}
use Rattle.udf_held.specs.Held.{AreHeldOf}
use Rattle.udf_kept.specs.Indexed.{IsIndex}
use Rattle.udf_dues.specs.Marks.{AreMarked, Mark, always, fid_mark, is_high, is_low, is_pointer_choice, marks_at, marks_below, maybe, no_count, own_marks, parent_marks}
use Rattle.udf_found.specs.Spot.{spot}
use Rattle.udf_dues.proofs.Ascending.{places_ascend}
use Rattle.udf_kept.proofs.ByIndex.{found_stands, member_at, once_at, selected_at}
use Rattle.udf_kept.proofs.Depicting.{StandsAt}
use Rattle.udf_kept.proofs.Counted.{count_one}
use Rattle.udf_dues.proofs.KeptParents.{Names}
use Rattle.udf_kept.proofs.Ordinaries.{fitted_place}
use Rattle.udf_dues.proofs.Tallying.{directory_marks, no_parent}
use Rattle.udf_dues.proofs.Totals.{StandsAmong, marks_all, none_sum, other, sum_held, take_out}

-- ---- counts
pub count_same : {X : Type 0} (p q : X → Bool) (xs : List X) → ((x : X) → Member x xs → p x ≡ q x) → count_by p xs ≡ count_by q xs
count_same p q [] f = refl
count_same p q (x ∷ xs) f =
    let here : cond {A = ℕ} (p x) 1 0 ≡ cond (q x) 1 0 = ap (λ b. cond {A = ℕ} b 1 0) (f x (inl refl)) in
    let rest = count_same p q xs (λ y m. f y (inr m)) in
    let left = count_one p x xs in
    let right = count_one q x xs in
    omega (arith, here, rest, left, right)

pub count_map : {X Y : Type 0} (p : Y → Bool) (g : X → Y) (xs : List X) → count_by p (map g xs) ≡ count_by (λ x. p (g x)) xs
count_map p g [] = refl
count_map p g (x ∷ xs) =
    let rest = count_map p g xs in
    let left = count_one p (g x) (map g xs) in
    let right = count_one (λ y. p (g y)) x xs in
    omega (arith, rest, left, right)

one_mark : (p : Mark → Bool) (m : Mark) (b : Bool) → p m ≡ b → count_by p (m ∷ []) ≡ cond b 1 0
one_mark p m b e =
    let step = count_one p m [] in
    let here : cond {A = ℕ} (p m) 1 0 ≡ cond b 1 0 = ap (λ t. cond {A = ℕ} t 1 0) e in
    omega (arith, step, here)

-- the FIDs that count for an entry
count_fids : (p : Mark → Bool) (j : ℕ) → ((n : ℕ) → p (always n) ≡ nat_eq n j) → (fs : List Fitted) → count_by p (flat_map fid_mark fs) ≡ count_by (λ (y : Fitted). nat_le 1 y.place && nat_eq y.to j) fs
count_fids p j e [] = refl
count_fids p j e (y ∷ ys) =
    let rest = count_fids p j e ys in
    let split = sum_by-append (λ m. cond {A = ℕ} (p m) 1 0) (fid_mark y) (flat_map fid_mark ys) in
    let step = count_one (λ (z : Fitted). nat_le 1 z.place && nat_eq z.to j) y ys in
    let here = by (nat_le 1 y.place) in
    omega (arith, rest, split, step, here)
  where
    by : (b : Bool) → count_by p (cond b (always y.to ∷ []) []) ≡ cond (b && nat_eq y.to j) 1 0
    by false = refl
    by true = one_mark p (always y.to) (nat_eq y.to j) (e y.to)

and_true : (b : Bool) → (b && true) ≡ b
and_true true = refl
and_true false = refl

and_false : (b : Bool) → (b && false) ≡ false
and_false true = refl
and_false false = refl

-- ---- which entry stands at an index
no_element : {X : Type 0} (x : X) → None ≡ Some x → ⊥
no_element x e = cc

abbrev stands_seen : Addr → Option Addr → Bool
stands_seen a None = false
stands_seen a (Some b) = same_addr b a

abbrev leads : Addr → Step → Bool
leads a st = nat_le 1 st.place && stands_seen a st.to

at_stands : (hs : List Held) (i : ℕ) (a : Addr) → at_of hs i ≡ Some a → StandsAt hs i a
at_stands hs i a e = by (slice_get hs i) refl e
  where
    by : (o : Option Held) → slice_get hs i ≡ o → at_by o ≡ Some a → StandsAt hs i a
    by None k f = absurd (no_element a f)
    by (Some h) k f = record { entry = h; there = k; at = same_Some h.at a f }

stands_at : (hs : List Held) (i : ℕ) (a : Addr) → StandsAt hs i a → at_of hs i ≡ Some a
stands_at hs i a x = ap at_by x.there ∙ ap Some x.at

itself : (n : ℕ) → nat_eq n n ≡ true
itself n = grind (arith, nat_tests)

module _ (f : Frame) (v : Volume) (c : HasSoundStarts (setting_of f v) (tree_of f v)) (hs : List Held) (held : AreHeldOf f v hs) (xs : List Selected) (selected : AreSelected (setting_of f v) (tree_of f v) hs xs)
    (position : Addr → Option ℕ) (index : IsIndex hs position) (ps : List (Option Addr))
    (shaped : (h : Held) → Member h hs → is_directory_by (entry_at v h.at) ≡ (h.directory && is_some h.shape)) where
  found_held : (h : Held) → Member h hs → found (setting_of f v) (tree_of f v) h.at ≡ true
  found_held h m = (held.held.listed.each (spot h.at h.level) (member_map (λ (z : Held). spot z.at z.level) hs h m)).0

  placed_held : (h : Held) → Member h hs → Member h.at (places v)
  placed_held h m =
      let r = readable_placed f v h.at (found_readable (setting_of f v) (tree_of f v) (volume_within f v) h.at (found_held h m)) in
      placed_among v h.at r.0 r.1

  module _ (j : ℕ) (a : Addr) (here : StandsAt hs j a) where
    -- an index is that of the entry where its address is
    seen_same : (n : ℕ) (o : Option Addr) → at_of hs n ≡ o → nat_eq n j ≡ stands_seen a o
    seen_same n o e = same_bools (nat_eq n j) (stands_seen a o) into from
      where
        by_into : (p : Option Addr) → p ≡ Some a → stands_seen a p ≡ true
        by_into None k = absurd (no_element a k)
        by_into (Some b) k = address_same b a (same_Some b a k)

        into : nat_eq n j ≡ true → stands_seen a o ≡ true
        into t = by_into o (sym e ∙ ap (at_of hs) (eqb-true n j t) ∙ stands_at hs j a here)

        by_from : (p : Option Addr) → o ≡ p → stands_seen a p ≡ true → at_of hs n ≡ Some a
        by_from None k t = absurd (false≢true t)
        by_from (Some b) k t = e ∙ k ∙ ap Some (same_address b a t)

        from : stands_seen a o ≡ true → nat_eq n j ≡ true
        from t = ap (λ k. nat_eq k j) (once_at (setting_of f v) (tree_of f v) hs held.held n j a (at_stands hs n a (by_from o refl t)) here) ∙ itself j

    -- the fitted FIDs of a sound entry
    fids_named : (h : Held) (x : Selected) → h.sound ≡ true → IsSelected (setting_of f v) (tree_of f v) hs h x → count_by (λ (y : Fitted). nat_le 1 y.place && nat_eq y.to j) x.fitted.items ≡ named_in f v a h.at
    unfolding named_in
    fids_named h x sound_held is =
        count_same (λ (y : Fitted). nat_le 1 y.place && nat_eq y.to j) (λ (y : Fitted). leads a (step_seen hs y)) x.fitted.items (λ y m. ap (λ b. nat_le 1 y.place && b) (seen_same y.to (at_of hs y.to) refl))
        ∙ sym (count_map (leads a) (step_seen hs) x.fitted.items)
        ∙ ap (count_by (leads a)) (is.of_sound sound_held)
        ∙ count_map (leads a) step_of (fitted (setting_of f v) (tree_of f v) h.at)
        ∙ count_same (λ l. leads a (step_of l)) (λ l. not (is_pointer l.says) && leads_to a l) (fitted (setting_of f v) (tree_of f v) h.at) (λ l m. ap (λ b. b && leads_to a l) (sym (fitted_place f v h.at l m)))

    -- the index of the entry that a parent FID names
    parent_seen : (x : Addr) (o : Option ℕ) → position x ≡ o → (stream : Bool)
        → (count_by (is_low j) (parent_marks stream o) ≡ cond stream 0 (cond (same_addr x a) 1 0)) × (count_by (is_high j) (parent_marks stream o) ≡ cond (same_addr x a) 1 0)
    parent_seen x None e stream = (low stream, ap (λ b. cond {A = ℕ} b 1 0) (sym apart))
      where
        by : (b : Bool) → same_addr x a ≡ b → same_addr x a ≡ false
        by false k = k
        by true k = absurd (index.all x e here.entry (member_at hs j here.entry here.there) (here.at ∙ sym (same_address x a k)))

        apart : same_addr x a ≡ false
        apart = by (same_addr x a) refl

        low : (b : Bool) → ◌≡◌ {A = ℕ} 0 (cond b 0 (cond (same_addr x a) 1 0))
        low true = refl
        low false = ap (λ b. cond {A = ℕ} b 1 0) (sym apart)
    parent_seen x (Some n) e stream = by stream
      where
        same : nat_eq n j ≡ same_addr x a
        same = seen_same n (Some x) (index.there x n e)

        by : (b : Bool) → (count_by (is_low j) (parent_marks b (Some n)) ≡ cond b 0 (cond (same_addr x a) 1 0)) × (count_by (is_high j) (parent_marks b (Some n)) ≡ cond (same_addr x a) 1 0)
        by true = (one_mark (is_low j) (maybe n) false (and_false (nat_eq n j)), one_mark (is_high j) (maybe n) (same_addr x a) same)
        by false = (one_mark (is_low j) (always n) (same_addr x a) (and_true (nat_eq n j) ∙ same), one_mark (is_high j) (always n) (same_addr x a) same)

    own_seen : (h : Held) (i : ℕ) → slice_get hs i ≡ Some h → (stream : Bool)
        → (count_by (is_low j) (own_marks stream i) ≡ 0) × (count_by (is_high j) (own_marks stream i) ≡ cond (stream && same_addr h.at a) 1 0)
    own_seen h i e false = (refl, refl)
    own_seen h i e true = (
      one_mark (is_low j) (maybe i) false (and_false (nat_eq i j)),
      one_mark (is_high j) (maybe i) (same_addr h.at a) (seen_same i (Some h.at) (ap at_by e)),
    )

    -- what an address has of links
    abbrev low_at : Addr → ℕ
    low_at d = cond (is_kept_directory f v d) (named_in f v a d + cond (is_stream f v d) 0 (parents_in f v a d)) 0

    abbrev high_at : Addr → ℕ
    high_at d = cond (is_kept_directory f v d) (named_in f v a d + (parents_in f v a d + cond (is_stream f v d && same_addr d a) 1 0)) 0

    -- a kept directory is a stream directory where its chosen link is a pointer
    stream_seen : (h : Held) (x : Selected) → Member h hs → is_kept_directory f v h.at ≡ true → IsSelected (setting_of f v) (tree_of f v) hs h x → is_pointer_choice x.chosen ≡ is_stream f v h.at
    unfolding is_stream_directory
    stream_seen h x m d is =
        choice_seen x.chosen (is.choice directory)
        ∙ ap (λ b. b && is_pointer_rank (chosen_link (setting_of f v) (tree_of f v) h.at)) (sym directory ∙ (held.held.each h m).directory)
        ∙ ap (λ b. b && ((node_at (tree_of f v) h.at).directory && is_pointer_rank (chosen_link (setting_of f v) (tree_of f v) h.at))) (sym parts.0)
      where
        parts : (kept (setting_of f v) (tree_of f v) h.at ≡ true) × (is_directory_by (entry_at v h.at) ≡ true)
        parts = and_parts (kept (setting_of f v) (tree_of f v) h.at) (is_directory_by (entry_at v h.at)) d

        directory : h.directory ≡ true
        directory = (and_parts h.directory (is_some h.shape) (sym (shaped h m) ∙ parts.1)).0

        choice_seen : (o : Option Choice) → IsChoice hs (λ d. d.level) (chosen_link (setting_of f v) (tree_of f v) h.at) o → is_pointer_choice o ≡ is_pointer_rank (chosen_link (setting_of f v) (tree_of f v) h.at)
        choice_seen None e = sym (ap is_pointer_rank e)
        choice_seen (Some n) (k, there, e) = sym (ap is_pointer_rank e)

    marks_seen : (i : ℕ) (h : Held) (o : Option Addr) → slice_get hs i ≡ Some h → Names f v h o
        → (count_by (is_low j) (marks_at position xs i o) ≡ low_at h.at) × (count_by (is_high j) (marks_at position xs i o) ≡ high_at h.at)
    marks_seen i h None e d = (
      ap (count_by (is_low j)) (no_parent position xs i None refl) ∙ sym (ap (λ b. cond b (named_in f v a h.at + cond (is_stream f v h.at) 0 (parents_in f v a h.at)) 0) d),
      ap (count_by (is_high j)) (no_parent position xs i None refl) ∙ sym (ap (λ b. cond b (named_in f v a h.at + (parents_in f v a h.at + cond (is_stream f v h.at && same_addr h.at a) 1 0)) 0) d),
    )
    marks_seen i h (Some x) e (d, names) = (
      lows ∙ sym (ap (λ b. cond b (named_in f v a h.at + cond (is_stream f v h.at) 0 (parents_in f v a h.at)) 0) d),
      highs ∙ sym (ap (λ b. cond b (named_in f v a h.at + (parents_in f v a h.at + cond (is_stream f v h.at && same_addr h.at a) 1 0)) 0) d),
    )
      where
        m : Member h hs
        m = member_at hs i h e

        z : (y : Selected) × (slice_get xs i ≡ Some y) × IsSelected (setting_of f v) (tree_of f v) hs h y
        z = selected_at (setting_of f v) (tree_of f v) hs held.held xs selected i h e

        stream : Bool
        stream = is_pointer_choice z.0.chosen

        is : stream ≡ is_stream f v h.at
        is = stream_seen h z.0 m d z.2

        sound_held : h.sound ≡ true
        sound_held = (held.held.each h m).sound_is ∙ kept_sound (setting_of f v) (tree_of f v) (volume_within f v) c h.at (and_parts (kept (setting_of f v) (tree_of f v) h.at) (is_directory_by (entry_at v h.at)) d).0

        marks : marks_at position xs i (Some x) ≡ flat_map fid_mark z.0.fitted.items ++ (parent_marks stream (position x) ++ own_marks stream i)
        marks = directory_marks position xs i (Some x) x z.0 refl z.1

        split : (p : Mark → Bool) → count_by p (marks_at position xs i (Some x))
            ≡ count_by p (flat_map fid_mark z.0.fitted.items) + (count_by p (parent_marks stream (position x)) + count_by p (own_marks stream i))
        split p =
            ap (count_by p) marks
            ∙ sum_by-append (λ n. cond {A = ℕ} (p n) 1 0) (flat_map fid_mark z.0.fitted.items) (parent_marks stream (position x) ++ own_marks stream i)
            ∙ ap (λ n. count_by p (flat_map fid_mark z.0.fitted.items) + n) (sum_by-append (λ n. cond {A = ℕ} (p n) 1 0) (parent_marks stream (position x)) (own_marks stream i))

        named_fids : count_by (λ (y : Fitted). nat_le 1 y.place && nat_eq y.to j) z.0.fitted.items ≡ named_in f v a h.at
        named_fids = fids_named h z.0 sound_held z.2

        parents : parents_in f v a h.at ≡ cond (same_addr x a) 1 0
        parents = names a

        low_parent : count_by (is_low j) (parent_marks stream (position x)) ≡ cond (is_stream f v h.at) 0 (parents_in f v a h.at)
        low_parent = (parent_seen x (position x) refl stream).0 ∙ ap (λ b. cond b 0 (cond {A = ℕ} (same_addr x a) 1 0)) is ∙ ap (λ n. cond (is_stream f v h.at) 0 n) (sym parents)

        lows : count_by (is_low j) (marks_at position xs i (Some x)) ≡ named_in f v a h.at + cond (is_stream f v h.at) 0 (parents_in f v a h.at)
        lows =
            let first = count_fids (is_low j) j (λ n. and_true (nat_eq n j)) z.0.fitted.items in
            let third = (own_seen h i e stream).0 in
            let all = split (is_low j) in
            omega (arith, first, named_fids, low_parent, third, all)

        highs : count_by (is_high j) (marks_at position xs i (Some x)) ≡ named_in f v a h.at + (parents_in f v a h.at + cond (is_stream f v h.at && same_addr h.at a) 1 0)
        highs =
            let first = count_fids (is_high j) j (λ n. refl) z.0.fitted.items in
            let second = (parent_seen x (position x) refl stream).1 ∙ sym parents in
            let third = (own_seen h i e stream).1 ∙ ap (λ b. cond {A = ℕ} (b && same_addr h.at a) 1 0) is in
            let all = split (is_high j) in
            omega (arith, first, named_fids, second, third, all)

    -- ---- all places
    kept_stands : (d : Addr) → is_kept_directory f v d ≡ true → StandsAmong hs d
    kept_stands d h =
        let k = (and_parts (kept (setting_of f v) (tree_of f v) d) (is_directory_by (entry_at v d)) h).0 in
        let r = found_stands (setting_of f v) (tree_of f v) hs held.held d (kept_found (setting_of f v) (tree_of f v) (volume_within f v) c d k) in
        record { entry = r.1.entry; there = member_at hs r.0 r.1.entry r.1.there; at = r.1.at }

    stands_or : (g : Addr → ℕ) (d : Addr) → StandsAmong hs d ⊎ (cond (is_kept_directory f v d) (g d) 0 ≡ 0)
    stands_or g d = by (is_kept_directory f v d) refl
      where
        by : (b : Bool) → is_kept_directory f v d ≡ b → StandsAmong hs d ⊎ (cond (is_kept_directory f v d) (g d) 0 ≡ 0)
        by true k = inl (kept_stands d k)
        by false k = inr (ap (λ b. cond b (g d) 0) k)

    over_places : (g : Addr → ℕ) → sum_by (λ (h : Held). cond (is_kept_directory f v h.at) (g h.at) 0) hs ≡ sum_by (λ d. cond (is_kept_directory f v d) (g d) 0) (places v)
    over_places g = sum_held (λ d. cond (is_kept_directory f v d) (g d) 0) hs held.held.listed.once (places v) (places_ascend v) placed_held (λ d m. stands_or g d)

    split_low : (ds : List Addr) → sum_by low_at ds
        ≡ sum_by (named_in f v a) (filter (is_kept_directory f v) ds) + sum_by (parents_in f v a) (filter (λ d. not (is_stream f v d)) (filter (is_kept_directory f v) ds))
    split_low [] = refl
    split_low (d ∷ ds) = by (split_low ds) (is_kept_directory f v d) refl (is_stream f v d) refl
      where
        rest : List Addr
        rest = filter (is_kept_directory f v) ds

        by : sum_by low_at ds ≡ sum_by (named_in f v a) rest + sum_by (parents_in f v a) (filter (λ d. not (is_stream f v d)) rest) → (b : Bool) → is_kept_directory f v d ≡ b → (s : Bool) → is_stream f v d ≡ s
            → sum_by low_at (d ∷ ds) ≡ sum_by (named_in f v a) (cond b (d ∷ rest) rest) + sum_by (parents_in f v a) (filter (λ d. not (is_stream f v d)) (cond b (d ∷ rest) rest))
        by ih false e s k =
            let here : low_at d ≡ 0 = ap (λ b. cond b (named_in f v a d + cond (is_stream f v d) 0 (parents_in f v a d)) 0) e in
            let step = sum_by-cons low_at d ds in
            omega (arith, ih, here, step)
        by ih true e true k =
            let here : low_at d ≡ named_in f v a d + 0 = ap (λ b. cond b (named_in f v a d + cond (is_stream f v d) 0 (parents_in f v a d)) 0) e ∙ ap (λ s. named_in f v a d + cond s 0 (parents_in f v a d)) k in
            let out : sum_by (parents_in f v a) (filter (λ d. not (is_stream f v d)) (d ∷ rest)) ≡ sum_by (parents_in f v a) (filter (λ d. not (is_stream f v d)) rest) =
            ap (λ s. sum_by (parents_in f v a) (cond (not s) (d ∷ filter (λ d. not (is_stream f v d)) rest) (filter (λ d. not (is_stream f v d)) rest))) k in
            let step = sum_by-cons low_at d ds in
            let one = sum_by-cons (named_in f v a) d rest in
            omega (arith, ih, here, out, step, one)
        by ih true e false k =
            let here : low_at d ≡ named_in f v a d + parents_in f v a d =
            ap (λ b. cond b (named_in f v a d + cond (is_stream f v d) 0 (parents_in f v a d)) 0) e ∙ ap (λ s. named_in f v a d + cond s 0 (parents_in f v a d)) k in
            let out : sum_by (parents_in f v a) (filter (λ d. not (is_stream f v d)) (d ∷ rest)) ≡ sum_by (parents_in f v a) (d ∷ filter (λ d. not (is_stream f v d)) rest) =
            ap (λ s. sum_by (parents_in f v a) (cond (not s) (d ∷ filter (λ d. not (is_stream f v d)) rest) (filter (λ d. not (is_stream f v d)) rest))) k in
            let step = sum_by-cons low_at d ds in
            let one = sum_by-cons (named_in f v a) d rest in
            let two = sum_by-cons (parents_in f v a) d (filter (λ d. not (is_stream f v d)) rest) in
            omega (arith, ih, here, out, step, one, two)

    -- the pointer of a stream directory at a place
    abbrev own_at : Addr → ℕ
    own_at d = cond (is_kept_directory f v d) (cond (is_stream f v d && same_addr d a) 1 0) 0

    split_high : (ds : List Addr) → sum_by high_at ds ≡ sum_by low_at ds + sum_by (parents_in f v a) (filter (is_stream f v) (filter (is_kept_directory f v) ds)) + sum_by own_at ds
    split_high [] = refl
    split_high (d ∷ ds) = by (split_high ds) (is_kept_directory f v d) refl (is_stream f v d) refl
      where
        rest : List Addr
        rest = filter (is_kept_directory f v) ds

        by : sum_by high_at ds ≡ sum_by low_at ds + sum_by (parents_in f v a) (filter (is_stream f v) rest) + sum_by own_at ds → (b : Bool) → is_kept_directory f v d ≡ b → (s : Bool) → is_stream f v d ≡ s
            → sum_by high_at (d ∷ ds) ≡ sum_by low_at (d ∷ ds) + sum_by (parents_in f v a) (filter (is_stream f v) (cond b (d ∷ rest) rest)) + sum_by own_at (d ∷ ds)
        by ih false e s k =
            let high : high_at d ≡ 0 = ap (λ b. cond b (named_in f v a d + (parents_in f v a d + cond (is_stream f v d && same_addr d a) 1 0)) 0) e in
            let low : low_at d ≡ 0 = ap (λ b. cond b (named_in f v a d + cond (is_stream f v d) 0 (parents_in f v a d)) 0) e in
            let own : own_at d ≡ 0 = ap (λ b. cond b (cond {A = ℕ} (is_stream f v d && same_addr d a) 1 0) 0) e in
            let one = sum_by-cons high_at d ds in
            let two = sum_by-cons low_at d ds in
            let three = sum_by-cons own_at d ds in
            omega (arith, ih, high, low, own, one, two, three)
        by ih true e true k =
            let high : high_at d ≡ named_in f v a d + (parents_in f v a d + cond (is_stream f v d && same_addr d a) 1 0) = ap (λ b. cond b (named_in f v a d + (parents_in f v a d + cond (is_stream f v d && same_addr d a) 1 0)) 0) e in
            let low : low_at d ≡ named_in f v a d + 0 = ap (λ b. cond b (named_in f v a d + cond (is_stream f v d) 0 (parents_in f v a d)) 0) e ∙ ap (λ s. named_in f v a d + cond s 0 (parents_in f v a d)) k in
            let own : own_at d ≡ cond {A = ℕ} (is_stream f v d && same_addr d a) 1 0 = ap (λ b. cond b (cond {A = ℕ} (is_stream f v d && same_addr d a) 1 0) 0) e in
            let out : sum_by (parents_in f v a) (filter (is_stream f v) (d ∷ rest)) ≡ sum_by (parents_in f v a) (d ∷ filter (is_stream f v) rest) =
            ap (λ s. sum_by (parents_in f v a) (cond s (d ∷ filter (is_stream f v) rest) (filter (is_stream f v) rest))) k in
            let one = sum_by-cons high_at d ds in
            let two = sum_by-cons low_at d ds in
            let three = sum_by-cons own_at d ds in
            let four = sum_by-cons (parents_in f v a) d (filter (is_stream f v) rest) in
            omega (arith, ih, high, low, own, out, one, two, three, four)
        by ih true e false k =
            let high : high_at d ≡ named_in f v a d + (parents_in f v a d + cond (is_stream f v d && same_addr d a) 1 0) = ap (λ b. cond b (named_in f v a d + (parents_in f v a d + cond (is_stream f v d && same_addr d a) 1 0)) 0) e in
            let low : low_at d ≡ named_in f v a d + parents_in f v a d =
            ap (λ b. cond b (named_in f v a d + cond (is_stream f v d) 0 (parents_in f v a d)) 0) e ∙ ap (λ s. named_in f v a d + cond s 0 (parents_in f v a d)) k in
            let own : own_at d ≡ cond {A = ℕ} (is_stream f v d && same_addr d a) 1 0 = ap (λ b. cond b (cond {A = ℕ} (is_stream f v d && same_addr d a) 1 0) 0) e in
            let out : sum_by (parents_in f v a) (filter (is_stream f v) (d ∷ rest)) ≡ sum_by (parents_in f v a) (filter (is_stream f v) rest) =
            ap (λ s. sum_by (parents_in f v a) (cond s (d ∷ filter (is_stream f v) rest) (filter (is_stream f v) rest))) k in
            let one = sum_by-cons high_at d ds in
            let two = sum_by-cons low_at d ds in
            let three = sum_by-cons own_at d ds in
            omega (arith, ih, high, low, own, out, one, two, three)

    -- ---- the entry at the index has a shape
    module _ (has : is_some here.entry.shape ≡ true) where
      stream_kept : is_stream f v a ≡ true → is_kept_directory f v a ≡ true
      unfolding is_stream_directory
      stream_kept s =
          let p = and_parts (kept (setting_of f v) (tree_of f v) a) _ s in
          let q = and_parts (node_at (tree_of f v) a).directory _ p.1 in
          let m = member_at hs j here.entry here.there in
          let directory = (held.held.each here.entry m).directory ∙ ap (λ (d : Addr). (node_at (tree_of f v) d).directory) here.at ∙ q.0 in
          and_from (kept (setting_of f v) (tree_of f v) a) (is_directory_by (entry_at v a)) p.0
          (ap (λ (d : Addr). is_directory_by (entry_at v d)) (sym here.at) ∙ shaped here.entry m ∙ and_from here.entry.directory (is_some here.entry.shape) directory has)

      own_here : own_at a ≡ cond (is_stream f v a) 1 0
      own_here = by (is_stream f v a) refl
        where
          by : (s : Bool) → is_stream f v a ≡ s → own_at a ≡ cond (is_stream f v a) 1 0
          by true k =
              ap (λ b. cond b (cond {A = ℕ} (is_stream f v a && same_addr a a) 1 0) 0) (stream_kept k)
              ∙ ap (λ b. cond {A = ℕ} (is_stream f v a && b) 1 0) (address_same a a refl) ∙ ap (λ b. cond {A = ℕ} b 1 0) (and_true (is_stream f v a))
          by false k = ap (λ b. cond (is_kept_directory f v a) (cond {A = ℕ} (b && same_addr a a) 1 0) 0) k ∙ either (is_kept_directory f v a) ∙ ap (λ b. cond {A = ℕ} b 1 0) (sym k)
            where
              either : (b : Bool) → cond {A = ℕ} b 0 0 ≡ 0
              either true = refl
              either false = refl

      own_else : (d : Addr) → Member d (filter (other a) (places v)) → own_at d ≡ 0
      own_else d m = ap (λ b. cond (is_kept_directory f v d) (cond {A = ℕ} (is_stream f v d && b) 1 0) 0) apart ∙ either (is_kept_directory f v d) (is_stream f v d)
        where
          by : (b : Bool) → same_addr d a ≡ b → same_addr d a ≡ false
          by false k = k
          by true k = absurd (false≢true (sym (ap not (address_same a d (sym (same_address d a k)))) ∙ (member_filter (other a) (places v) d m).1))

          apart : same_addr d a ≡ false
          apart = by (same_addr d a) refl

          either : (b s : Bool) → cond {A = ℕ} b (cond (s && false) 1 0) 0 ≡ 0
          either true true = refl
          either true false = refl
          either false s = refl

      own_all : sum_by own_at (places v) ≡ cond (is_stream f v a) 1 0
      own_all =
          let placed = subst (λ (d : Addr). Member d (places v)) here.at (placed_held here.entry (member_at hs j here.entry here.there)) in
          let out = take_out own_at a (places v) (places_ascend v) placed in
          let rest = none_sum own_at (filter (other a) (places v)) own_else in
          omega (arith, out, rest, own_here)

      module _ (n : ℕ) (few : n ≡ length hs) (named : (i : ℕ) (h : Held) → slice_get hs i ≡ Some h → Names f v h (get_or ps i None)) where
        low_all : count_by (is_low j) (marks_below position xs ps n) ≡ links_without_streams f v a
        unfolding links_without_streams kept_directories
        low_all =
            marks_all (is_low j) (λ h. low_at h.at) position xs ps hs (λ i h e. (marks_seen i h (get_or ps i None) e (named i h e)).0) n few
            ∙ over_places (λ d. named_in f v a d + cond (is_stream f v d) 0 (parents_in f v a d))
            ∙ split_low (places v)

        high_all : count_by (is_high j) (marks_below position xs ps n) ≡ links_with_streams f v a
        unfolding links_with_streams links_without_streams kept_directories
        high_all =
            marks_all (is_high j) (λ h. high_at h.at) position xs ps hs (λ i h e. (marks_seen i h (get_or ps i None) e (named i h e)).1) n few
            ∙ over_places (λ d. named_in f v a d + (parents_in f v a d + cond (is_stream f v d && same_addr d a) 1 0))
            ∙ split_high (places v)
            ∙ ap (λ k. k + sum_by (parents_in f v a) (filter (is_stream f v) (filter (is_kept_directory f v) (places v))) + sum_by own_at (places v)) (split_low (places v))
            ∙ ap (λ k. sum_by (named_in f v a) (filter (is_kept_directory f v) (places v)) + sum_by (parents_in f v a) (filter (λ d. not (is_stream f v d)) (filter (is_kept_directory f v) (places v)))
            + sum_by (parents_in f v a) (filter (is_stream f v) (filter (is_kept_directory f v) (places v))) + k) own_all

        count_is : (cs : List Count) → length cs ≡ n → AreMarked (marks_below position xs ps n) cs → IsCount f v a (get_or cs j no_count)
        unfolding low_count high_count
        count_is cs long marked =
            let l = slice_get_within hs j here.entry here.there in
            let inside : j < length cs = omega (arith, l, long, few) in
            record { low = marked.low j inside ∙ ap (min 65535) low_all; high = marked.high j inside ∙ ap (min 65535) high_all }

  counts_by : (ys : List Held) (cs : List Count) → length cs ≡ length ys → ((i : ℕ) (h : Held) → slice_get ys i ≡ Some h → is_some h.shape ≡ true → IsCount f v h.at (get_or cs i no_count)) → AreCountsOf f v ys cs
  counts_by [] [] l g = tt
  counts_by [] (k ∷ ks) l g = absurd (omega (arith, l))
  counts_by (y ∷ ys) [] l g = absurd (omega (arith, l))
  counts_by (y ∷ ys) (k ∷ ks) l g = (g 0 y refl, counts_by ys ks (omega (arith, l)) (λ i h e. g (suc i) h e))

  pub are_counts : length ps ≡ length hs → ((i : ℕ) (h : Held) → slice_get hs i ≡ Some h → Names f v h (get_or ps i None)) → (cs : List Count) → length cs ≡ length ps → AreMarked (marks_below position xs ps (length ps)) cs
      → AreCounts f v hs cs
  are_counts few named cs long marked = record {
    each = counts_by hs cs (long ∙ few) (λ j h e has. count_is j h.at (record { entry = h; there = e; at = refl }) has (length ps) few named cs long marked);
  }
