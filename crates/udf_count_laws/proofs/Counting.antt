-- What is counted of kept entries is the same of volumes that are alike.
use Rattle.std.proofs.Common.{◌≡◌, inl, inr, ℕ, ◌+◌, ◌≤◌, arith, refl, sym, ◌∙◌, ap, subst, List, [], ◌∷◌, Bool, true, false, not, cond, ◌&&◌, nat_le, max, min, is_some, Option, Some, None}
use Rattle.std.specs.Prelude.{count_by, sum_by, filter}
use Rattle.std.specs.List.{list_all}
use Rattle.std.proofs.lemmas.Bool.{and_from, and_parts, le-leb, not-true, false≢true}
use Rattle.std.proofs.lemmas.List.Sums.{sum_by-cons}
use Rattle.udf_field.specs.declared.address.Addr.{Addr}
use Rattle.udf_file_model.specs.Address.{same_addr}
use Rattle.udf_file_model.specs.Entry.{Entry}
use Rattle.udf_file_model.specs.Fid.{is_parent, target}
use Rattle.udf_file_model.specs.Listing.{Volume}
use Rattle.udf_file_model.specs.Scan.{fids, fids_of}
use Rattle.udf_tree_model.specs.Among.{Member}
use Rattle.udf_tree_model.specs.Chosen.{fitted}
use Rattle.udf_tree_model.specs.Content.{mended_content}
use Rattle.udf_tree_model.specs.Counts.{high_count, is_kept_directory, is_stream, kept_directories, links_between, links_by as wanted_by, links_with_streams, links_without_streams, low_count, named_in, ordinary_entries, parents_in, wanted_links}
use Rattle.udf_tree_model.specs.Frame.{Frame, entry_at, holder_by, is_file_set, is_holder, node_by, places, setting_of, tree_of}
use Rattle.udf_tree_model.specs.Kept.{kept}
use Rattle.udf_tree_model.specs.Node.{readable}
use Rattle.udf_tree_model.specs.Refused.{refusal}
use Rattle.udf_tree_model.specs.Stated.{IsFileSetPlaced}
use Rattle.udf_tree_model.specs.Link.{Link, Says, is_pointer, target_of}
use Rattle.udf_tree_model.specs.Mended.{said}
use Rattle.udf_tree_model.specs.Ordinary.{files_named, files_named_in, is_kept_entry, kept_entries, ordinary_directories, ordinary_files}
use Rattle.udf_tree_model.specs.Parent.{ordinary}
use Rattle.udf_tree_model.proofs.Finding.{found_readable, volume_within}
use Rattle.udf_tree_model.proofs.Keeping.{kept_found}
use Rattle.udf_tree_model.proofs.Members.{all_from, member_filter}
use Rattle.udf_tree_model.proofs.Stating.{accepted_starts}
use Rattle.udf_rules_model.specs.FileRules.{count_rule, counts_by, links_by}
use Rattle.udf_count_laws.specs.Alike.{AreAlike, StatesWanted}

-- sums and counts of what agrees
pub sum_same : (h k : Addr → ℕ) (xs : List Addr) → ((a : Addr) → Member a xs → h a ≡ k a) → sum_by h xs ≡ sum_by k xs
sum_same h k [] same = refl
sum_same h k (x ∷ xs) same =
    sum_by-cons h x xs ∙ ap (λ n. n + sum_by h xs) (same x (inl refl)) ∙ ap (λ n. k x + n) (sum_same h k xs (λ a m. same a (inr m)))
    ∙ sym (sum_by-cons k x xs)

pub filter_same : (p q : Addr → Bool) (xs : List Addr) → ((a : Addr) → Member a xs → q a ≡ p a) → filter q xs ≡ filter p xs
filter_same p q [] same = refl
filter_same p q (x ∷ xs) same =
    ap (λ b. cond b (x ∷ filter q xs) (filter q xs)) (same x (inl refl))
    ∙ ap (λ ys. cond (p x) (x ∷ ys) ys) (filter_same p q xs (λ a m. same a (inr m)))

-- a count of links by what they say
said_count : (p : Says → Bool) (ls : List Link) → count_by (λ l. p l.says) ls ≡ count_by p (said ls)
said_count p [] = refl
said_count p (l ∷ ls) =
    sum_by-cons (λ l. cond (p l.says) 1 0) l ls ∙ ap (λ n. cond (p l.says) 1 0 + n) (said_count p ls)
    ∙ sym (sum_by-cons (λ s. cond (p s) 1 0) l.says (said ls))

says_same : (p : Says → Bool) (xs ys : List Link) → said xs ≡ said ys → count_by (λ l. p l.says) xs ≡ count_by (λ l. p l.says) ys
says_same p xs ys e = said_count p xs ∙ ap (count_by p) e ∙ sym (said_count p ys)

count_says : (p q : Says → Bool) (xs : List Link) → ((s : Says) → q s ≡ p s) → count_by (λ l. q l.says) xs ≡ count_by (λ l. p l.says) xs
count_says p q [] same = refl
count_says p q (x ∷ xs) same =
    sum_by-cons (λ l. cond (q l.says) 1 0) x xs ∙ ap (λ b. cond b 1 0 + count_by (λ l. q l.says) xs) (same x.says)
    ∙ ap (λ n. cond (p x.says) 1 0 + n) (count_says p q xs same) ∙ sym (sum_by-cons (λ l. cond (p l.says) 1 0) x xs)

ordinary_directory : (f : Frame) (v : Volume) (d : Addr) → Member d (ordinary_directories f v) → is_kept_directory f v d ≡ true
unfolding ordinary_directories
ordinary_directory f v d m = (member_filter (is_kept_directory f v) (ordinary_entries f v) d m).1

-- the low count is not above the high one
low_high : (f : Frame) (v : Volume) (a : Addr) → low_count f v a ≤ high_count f v a
unfolding low_count high_count links_with_streams
low_high f v a = omega arith

-- a wanted count lies between the two
between : (low high found : ℕ) → low ≤ high → 1 ≤ high → (nat_le low (links_between low high found) && nat_le (links_between low high found) high) ≡ true
between low high found l h = by (nat_le low found && nat_le found high) refl
  where
    by : (b : Bool) → (nat_le low found && nat_le found high) ≡ b → (nat_le low (cond b found (max 1 low)) && nat_le (cond b found (max 1 low)) high) ≡ true
    by true e = e
    by false e = and_from (nat_le low (max 1 low)) (nat_le (max 1 low) high) (le-leb _ _ (omega arith)) (le-leb _ _ (omega (arith, l, h)))

kept_member : (f : Frame) (v : Volume) (a : Addr) → Member a (kept_entries f v) → is_kept_entry f v a ≡ true
unfolding kept_entries
kept_member f v a m = (member_filter (is_kept_entry f v) (places v) a m).1

unreadable : (f : Frame) (v : Volume) (a : Addr) → entry_at v a ≡ None → is_holder f v a ≡ false → readable (tree_of f v) a ≡ false
unfolding readable tree_of is_holder
unreadable f v a e n = ap (λ o. is_some (holder_by f.system (is_file_set f v a) (node_by f v a o))) e ∙ by f.system (is_file_set f v a) n
  where
    by : (system : Option Addr) (here : Bool) → (is_some system && here) ≡ false → is_some (holder_by system here None) ≡ false
    by None here h = refl
    by (Some x) true h = h
    by (Some x) false h = refl

-- an entry that is kept, and does not hold the system's pointer alone, is readable
entry_there : (f : Frame) (v : Volume) (a : Addr) → refusal f v ≡ None → IsFileSetPlaced f v → is_kept_entry f v a ≡ true → (e : Entry) × (entry_at v a ≡ Some e)
unfolding is_kept_entry
entry_there f v a accepted placed kept_is =
    let parts : (kept (setting_of f v) (tree_of f v) a ≡ true) × (not (is_holder f v a) ≡ true) = and_parts (kept (setting_of f v) (tree_of f v) a) (not (is_holder f v a)) kept_is in
    by (entry_at v a) refl (is_readable parts.0) (not-true (is_holder f v a) parts.1)
  where
    is_readable : kept (setting_of f v) (tree_of f v) a ≡ true → readable (tree_of f v) a ≡ true
    is_readable k =
        found_readable (setting_of f v) (tree_of f v) (volume_within f v) a
        (kept_found (setting_of f v) (tree_of f v) (volume_within f v) (accepted_starts f v accepted placed) a k)

    by : (o : Option Entry) → entry_at v a ≡ o → readable (tree_of f v) a ≡ true → is_holder f v a ≡ false → (e : Entry) × (entry_at v a ≡ Some e)
    by (Some e) h r n = (e, h)
    by None h r n = absurd (false≢true (sym (unreadable f v a h n) ∙ r))

wanted_between : (f : Frame) (v : Volume) (a : Addr) (e : Entry) → entry_at v a ≡ Some e → 1 ≤ high_count f v a
    → (nat_le (low_count f v a) (wanted_links f v a) && nat_le (wanted_links f v a) (high_count f v a)) ≡ true
unfolding wanted_links
wanted_between f v a e there some =
    subst (λ o. (nat_le (low_count f v a) (wanted_by f v a o) && nat_le (wanted_by f v a o) (high_count f v a)) ≡ true) (sym there)
    (between (low_count f v a) (high_count f v a) e.links (low_high f v a) some)

module _ (f g : Frame) (v w : Volume) (alike : AreAlike f g v w) where
  pub directories_same : kept_directories g w ≡ kept_directories f v
  unfolding kept_directories
  directories_same =
      ap (filter (is_kept_directory g w)) alike.places ∙ filter_same (is_kept_directory f v) (is_kept_directory g w) (places v) (λ a m. alike.directories a)

  is_directory : (d : Addr) → Member d (kept_directories f v) → is_kept_directory f v d ≡ true
  unfolding kept_directories
  is_directory d m = (member_filter (is_kept_directory f v) (places v) d m).1

  named_same : (a d : Addr) → is_kept_directory f v d ≡ true → named_in g w a d ≡ named_in f v a d
  unfolding named_in
  named_same a d kept =
      says_same (λ says. not (is_pointer says) && same_addr (target_of says) a) (fitted (setting_of g w) (tree_of g w) d) (fitted (setting_of f v) (tree_of f v) d) (alike.fitted d kept)

  parents_same : (a d : Addr) → is_kept_directory f v d ≡ true → parents_in g w a d ≡ parents_in f v a d
  unfolding parents_in
  parents_same a d kept =
      ap (λ size. count_by (λ fid. is_parent fid && same_addr (target fid).at a) (fids_of (fids size (mended_content g w d)))) alike.size
      ∙ ap (λ content. count_by (λ fid. is_parent fid && same_addr (target fid).at a) (fids_of (fids v.size content))) (alike.contents d kept)

  without_same : (a : Addr) → links_without_streams g w a ≡ links_without_streams f v a
  unfolding links_without_streams
  without_same a =
      ap (λ ds. sum_by (named_in g w a) ds + sum_by (parents_in g w a) (filter (λ d. not (is_stream g w d)) ds)) directories_same
      ∙ ap (λ n. n + sum_by (parents_in g w a) (filter (λ d. not (is_stream g w d)) (kept_directories f v)))
      (sum_same (named_in g w a) (named_in f v a) (kept_directories f v) (λ d m. named_same a d (is_directory d m)))
      ∙ ap (λ ds. sum_by (named_in f v a) (kept_directories f v) + sum_by (parents_in g w a) ds)
      (filter_same (λ d. not (is_stream f v d)) (λ d. not (is_stream g w d)) (kept_directories f v) (λ d m. ap not (alike.streams d)))
      ∙ ap (λ n. sum_by (named_in f v a) (kept_directories f v) + n)
      (sum_same (parents_in g w a) (parents_in f v a) (filter (λ d. not (is_stream f v d)) (kept_directories f v))
      (λ d m. parents_same a d (is_directory d (member_filter (λ d. not (is_stream f v d)) (kept_directories f v) d m).0)))

  with_same : (a : Addr) → links_with_streams g w a ≡ links_with_streams f v a
  unfolding links_with_streams
  with_same a =
      ap (λ n. n + sum_by (parents_in g w a) (filter (is_stream g w) (kept_directories g w)) + cond (is_stream g w a) 1 0) (without_same a)
      ∙ ap (λ ds. links_without_streams f v a + sum_by (parents_in g w a) (filter (is_stream g w) ds) + cond (is_stream g w a) 1 0) directories_same
      ∙ ap (λ ds. links_without_streams f v a + sum_by (parents_in g w a) ds + cond (is_stream g w a) 1 0)
      (filter_same (is_stream f v) (is_stream g w) (kept_directories f v) (λ d m. alike.streams d))
      ∙ ap (λ n. links_without_streams f v a + n + cond (is_stream g w a) 1 0)
      (sum_same (parents_in g w a) (parents_in f v a) (filter (is_stream f v) (kept_directories f v))
      (λ d m. parents_same a d (is_directory d (member_filter (is_stream f v) (kept_directories f v) d m).0)))
      ∙ ap (λ b. links_without_streams f v a + sum_by (parents_in f v a) (filter (is_stream f v) (kept_directories f v)) + cond b 1 0) (alike.streams a)

  pub low_same : (a : Addr) → low_count g w a ≡ low_count f v a
  unfolding low_count
  low_same a = ap (min 65535) (without_same a)

  pub high_same : (a : Addr) → high_count g w a ≡ high_count f v a
  unfolding high_count
  high_same a = ap (min 65535) (with_same a)

  pub ordinary_same : ordinary_entries g w ≡ ordinary_entries f v
  unfolding ordinary_entries
  ordinary_same = ap (filter (ordinary g w)) alike.places ∙ filter_same (ordinary f v) (ordinary g w) (places v) (λ a m. alike.ordinary a)

  pub ordinary_directories_same : ordinary_directories g w ≡ ordinary_directories f v
  unfolding ordinary_directories
  ordinary_directories_same =
      ap (filter (is_kept_directory g w)) ordinary_same
      ∙ filter_same (is_kept_directory f v) (is_kept_directory g w) (ordinary_entries f v) (λ a m. alike.directories a)

  pub ordinary_files_same : ordinary_files g w ≡ ordinary_files f v
  unfolding ordinary_files
  ordinary_files_same =
      ap (filter (λ a. not (is_kept_directory g w a))) ordinary_same
      ∙ filter_same (λ a. not (is_kept_directory f v a)) (λ a. not (is_kept_directory g w a)) (ordinary_entries f v) (λ a m. ap not (alike.directories a))

  named_files_same : (d : Addr) → is_kept_directory f v d ≡ true → files_named_in g w d ≡ files_named_in f v d
  unfolding files_named_in
  named_files_same d kept =
      says_same (λ says. not (is_pointer says) && not (is_kept_directory g w (target_of says))) (fitted (setting_of g w) (tree_of g w) d) (fitted (setting_of f v) (tree_of f v) d) (alike.fitted d kept)
      ∙ count_says (λ says. not (is_pointer says) && not (is_kept_directory f v (target_of says))) (λ says. not (is_pointer says) && not (is_kept_directory g w (target_of says)))
      (fitted (setting_of f v) (tree_of f v) d) (λ says. ap (λ b. not (is_pointer says) && not b) (alike.directories (target_of says)))

  pub files_named_same : files_named g w ≡ files_named f v
  unfolding files_named
  files_named_same =
      ap (sum_by (files_named_in g w)) ordinary_directories_same
      ∙ sum_same (files_named_in g w) (files_named_in f v) (ordinary_directories f v) (λ d m. named_files_same d (ordinary_directory f v d m))

  kept_same : kept_entries g w ≡ kept_entries f v
  unfolding kept_entries
  kept_same = ap (filter (is_kept_entry g w)) alike.places ∙ filter_same (is_kept_entry f v) (is_kept_entry g w) (places v) (λ a m. alike.entries a)

  -- each count is lawful where it is the wanted one
  pub counts_hold : refusal f v ≡ None → IsFileSetPlaced f v → StatesWanted f v w → count_rule g w ≡ true
  unfolding count_rule
  counts_hold accepted placed states =
      ap (list_all (λ a. counts_by g w a (entry_at w a))) kept_same
      ∙ all_from (λ a. counts_by g w a (entry_at w a)) (kept_entries f v) (λ a m. at a (kept_of a m))
    where
      kept_of : (a : Addr) → Member a (kept_entries f v) → is_kept_entry f v a ≡ true
      kept_of a m = kept_member f v a m

      at : (a : Addr) → is_kept_entry f v a ≡ true → counts_by g w a (entry_at w a) ≡ true
      at a kept = counted (entry_at w a) refl
        where
          counted : (o : Option Entry) → entry_at w a ≡ o → counts_by g w a o ≡ true
          counted None e = refl
          counted (Some x) e =
              let there : (e : Entry) × (entry_at v a ≡ Some e) = entry_there f v a accepted placed kept in
              let links : x.links ≡ wanted_links f v a = sym (ap links_by e) ∙ states.links a kept in
              ap (λ n. nat_le n x.links && nat_le x.links (high_count g w a)) (low_same a)
              ∙ ap (λ n. nat_le (low_count f v a) x.links && nat_le x.links n) (high_same a)
              ∙ ap (λ n. nat_le (low_count f v a) n && nat_le n (high_count f v a)) links
              ∙ wanted_between f v a there.0 there.1 (states.linked a kept)
