-- In a volume whose files break no rule each link of a kept entry is fitted.
use Rattle.std.proofs.Common.{◌≡◌, ◌⊎◌, ℕ, ◌+◌, ◌≤◌, ◌&&◌, ◌||◌, not, Bool, true, false, cond, Option, Some, None, List, [], ◌∷◌, ◌++◌, refl, sym, ap, ◌∙◌, subst, inl, inr, arith}
use Rattle.std.specs.Prelude.{◌==◌}
use Rattle.std.specs.List.{filter, list_any}
use Rattle.std.specs.Str.{bytes_eq}
use Rattle.std.proofs.lemmas.Bool.{and_from, false≢true}
use Rattle.std.proofs.lemmas.Bool.Decides.{nat_tests}
use Rattle.udf_field.specs.declared.address.Addr.{Addr}
use Rattle.udf_file_model.specs.Content.{content}
use Rattle.udf_file_model.specs.Entry.{is_directory}
use Rattle.udf_file_model.specs.Listing.{Volume, list_for}
use Rattle.udf_file_model.specs.Pieces.{runs_of}
use Rattle.udf_file_model.specs.Scan.{fids_from}
use Rattle.udf_tree_model.specs.Among.{Member}
use Rattle.udf_tree_model.specs.Chosen.{chosen, first_of_names, fitted, is_rank, named, selected, selects}
use Rattle.udf_tree_model.specs.Found.{found}
use Rattle.udf_tree_model.specs.Frame.{Frame, content_to, is_holder, links_of, node_with, setting_of, stream_of, tree_of}
use Rattle.udf_tree_model.specs.Kept.{kept}
use Rattle.udf_tree_model.specs.Link.{Link, fid_links, is_pointer, name_of, pointer_link, pointer_links, room_of, target_of}
use Rattle.udf_tree_model.specs.Mended.{rooms}
use Rattle.udf_tree_model.specs.Node.{Node, Setting, Tree, is_entry, node_at}
use Rattle.udf_tree_model.specs.Rules.{is_chosen, is_named, targets_hold}
use Rattle.udf_tree_model.specs.Won.{kept_length, kept_links, sound}
use Rattle.udf_tree_model.proofs.Keeping.{sound_found}
use Rattle.udf_tree_model.proofs.Linking.{first_of_names_member, fit_whole}
use Rattle.udf_tree_model.proofs.Members.{all_at, any_gives, contains_of, member_filter, member_filtered}
use Rattle.udf_tree_model.proofs.Offsets.{volume_differ}
use Rattle.udf_tree_model.proofs.Stating.{node_is}
use Rattle.udf_rules_model.specs.FileRules.{is_lawful_link, is_selected, names_lawful, names_rule}
use Rattle.udf_intact.specs.Lawful.{IsLawful}
use Rattle.udf_intact.proofs.Kept as there

rooms_filter : (p : Link → Bool) (ls : List Link) → rooms (filter p ls) ≤ rooms ls
rooms_filter p [] = omega arith
rooms_filter p (l ∷ ls) = by (p l) (rooms_filter p ls)
  where
    by : (b : Bool) → rooms (filter p ls) ≤ rooms ls → rooms (cond b (l ∷ filter p ls) (filter p ls)) ≤ room_of l.says + rooms ls
    by true r = omega (arith, r)
    by false r = omega (arith, r)

rooms_named : (seen : List (List ℕ)) (ls : List Link) → rooms (first_of_names seen ls) ≤ rooms ls
unfolding first_of_names
rooms_named seen [] = omega arith
rooms_named seen (l ∷ ls) = by (list_any (bytes_eq (name_of l.says)) seen) (rooms_named seen ls) (rooms_named (name_of l.says ∷ seen) ls)
  where
    by : (b : Bool) → rooms (first_of_names seen ls) ≤ rooms ls → rooms (first_of_names (name_of l.says ∷ seen) ls) ≤ rooms ls
        → rooms (cond b (first_of_names seen ls) (l ∷ first_of_names (name_of l.says ∷ seen) ls)) ≤ room_of l.says + rooms ls
    by true r q = omega (arith, r)
    by false r q = omega (arith, q)

number : (m n : ℕ) → (m == n) ≡ true → m ≡ n
number m n h = grind (arith, nat_tests)

no_fids : (size : ℕ) → fid_links size [] ≡ []
unfolding fid_links fids_from
no_fids size = refl

pointers_only : (o : Option Addr) (l : Link) → Member l (pointer_links o ++ []) → is_pointer l.says ≡ true
pointers_only None l m = absurd m
pointers_only (Some x) l (inl e) = ap (λ (z : Link). is_pointer z.says) e
pointers_only (Some x) l (inr m) = absurd m

-- a lawful link to a sound entry is selected
lawful_selected : (named found sound entry directory chosen : Bool) → (sound && entry) ≡ true → (sound ≡ true → found ≡ true)
    → (named && (not (found && (directory && entry)) || (sound && chosen))) ≡ true → (named ≡ true) × (sound ≡ true) × (directory ≡ true → chosen ≡ true)
lawful_selected true found true true true true a b c = (refl, refl, λ d. refl)
lawful_selected true true true true true false a b c = absurd (false≢true c)
lawful_selected true false true true true false a b c = absurd (false≢true (b refl))
lawful_selected true found true true false chosen a b c = (refl, refl, λ d. absurd (false≢true d))
lawful_selected true found true false directory chosen a b c = absurd (false≢true a)
lawful_selected true found false entry directory chosen a b c = absurd (false≢true a)
lawful_selected false found sound entry directory chosen a b c = absurd (false≢true c)

module _ (f : Frame) (v : Volume) (h : IsLawful f v) where
  abbrev s : Setting
  s = setting_of f v

  abbrev t : Tree
  t = tree_of f v

  -- of a kept entry a place names one link
  same_place : (a : Addr) (g l : Link) → Member g (kept_links s t a) → Member l (kept_links s t a) → (g.place == l.place) ≡ true → g ≡ l
  unfolding kept_links
  same_place a g l m n e =
      (volume_differ f v).one a (kept_length s t a) g l (contains_of (kept_links s t a) g m) (contains_of (kept_links s t a) l n) (number g.place l.place e)

  named_kept : (a : Addr) (g : Link) → Member g (named s t a) → Member g (kept_links s t a)
  unfolding named
  named_kept a g m = first_of_names_member [] (kept_links s t a) g m

  selected_named : (a : Addr) (g : Link) → Member g (selected s t a) → Member g (named s t a)
  unfolding selected
  selected_named a g m = (member_filter (selects s t a) (named s t a) g m).0

  -- a pointer
  pointer_selected : (a : Addr) → kept s t a ≡ true → (l : Link) → Member l (kept_links s t a) → is_pointer l.says ≡ true → Member l (selected s t a)
  pointer_selected a k l m p =
      let x = all_at (λ (g : Link). not (is_pointer g.says) || is_selected s t a g) (kept_links s t a) l (there.targets_at f v h a k).1 m in
      let y : is_selected s t a l ≡ true = sym (ap (λ b. not b || is_selected s t a l) p) ∙ x in
      let r = any_gives (λ (g : Link). g.place == l.place) (selected s t a) y in
      subst (λ (z : Link). Member z (selected s t a)) (same_place a r.0 l (named_kept a r.0 (selected_named a r.0 r.1)) m r.2) r.1

  -- a FID stands in a directory
  file_links : (a : Addr) (e : there.IsKeptEntry f v h a) → is_directory e.entry ≡ false → (l : Link) → Member l (kept_links s t a) → is_pointer l.says ≡ true
  unfolding kept_links node_with links_of content_to
  file_links a e file l m =
      let links : kept_links s t a ≡ pointer_links (stream_of e.entry.stream) ++ [] =
      ap (λ (n : Node). n.links (kept_length s t a)) (node_is f v a e.entry e.reads e.no_holder)
      ∙ ap (λ b. pointer_links (stream_of e.entry.stream) ++ fid_links v.size (cond b (content v e.entry (runs_of (list_for v a e.entry)) (kept_length s t a)) [])) file
      ∙ ap (λ ls. pointer_links (stream_of e.entry.stream) ++ ls) (no_fids v.size) in
      pointers_only (stream_of e.entry.stream) l (subst (λ (ls : List Link). Member l ls) links m)

  in_directory : (a : Addr) → kept s t a ≡ true → (l : Link) → Member l (kept_links s t a) → is_pointer l.says ≡ false
      → (e : there.IsKeptEntry f v h a) × (is_directory e.entry ≡ true)
  in_directory a k l m p = by (is_holder f v a) refl
    where
      at_holder : is_holder f v a ≡ true → is_pointer l.says ≡ true
      at_holder n = by (subst (λ (ls : List Link). Member l ls) (there.holder_links f v h a n) m)
        where
          by : (l ≡ pointer_link (there.holder_is f v a n).system) ⊎ ⊥ → is_pointer l.says ≡ true
          by (inl e) = ap (λ (z : Link). is_pointer z.says) e
          by (inr e) = absurd e

      at_entry : (e : there.IsKeptEntry f v h a) → (b : Bool) → is_directory e.entry ≡ b → (e : there.IsKeptEntry f v h a) × (is_directory e.entry ≡ true)
      at_entry e true d = (e, d)
      at_entry e false d = absurd (false≢true (sym p ∙ file_links a e d l m))

      by : (b : Bool) → is_holder f v a ≡ b → (e : there.IsKeptEntry f v h a) × (is_directory e.entry ≡ true)
      by true n = absurd (false≢true (sym p ∙ at_holder n))
      by false n = let e = there.entry_there f v h a k n in at_entry e (is_directory e.entry) refl

  names_at : (a : Addr) → kept s t a ≡ true → (e : there.IsKeptEntry f v h a) → is_directory e.entry ≡ true → names_lawful s t a ≡ true
  unfolding names_rule
  names_at a k e d = all_at (names_lawful s t) _ a h.names (there.directory_there f v h a k e d)

  -- what the rule on targets says of a FID
  pub target_there : (a : Addr) → kept (setting_of f v) (tree_of f v) a ≡ true → (l : Link) → Member l (kept_links (setting_of f v) (tree_of f v) a) → is_pointer l.says ≡ false
      → (sound (setting_of f v) (tree_of f v) (target_of l.says) && is_entry (setting_of f v) (tree_of f v) (target_of l.says)) ≡ true
  unfolding targets_hold
  target_there a k l m p =
      sym (ap (λ b. b || (sound s t (target_of l.says) && is_entry s t (target_of l.says))) p)
      ∙ all_at (λ (g : Link). is_pointer g.says || (sound s t (target_of g.says) && is_entry s t (target_of g.says))) (kept_links s t a) l (there.targets_at f v h a k).0 m

  selects_it : (a : Addr) (l : Link) → is_pointer l.says ≡ false → sound s t (target_of l.says) ≡ true
      → ((node_at t (target_of l.says)).directory ≡ true → is_chosen s t a l ≡ true) → selects s t a l ≡ true
  unfolding selects
  selects_it a l p x c = and_from (sound s t (target_of l.says)) _ x (by (node_at t (target_of l.says)).directory c)
    where
      by : (b : Bool) → (b ≡ true → is_chosen s t a l ≡ true)
          → cond b (not (s.start (target_of l.says)) && is_rank a l (chosen s t (target_of l.says))) (not (is_pointer l.says)) ≡ true
      by true k = k refl
      by false k = ap not p

  fid_selected : (a : Addr) → kept s t a ≡ true → (l : Link) → Member l (kept_links s t a) → is_pointer l.says ≡ false → Member l (selected s t a)
  unfolding names_lawful selected
  fid_selected a k l m p =
      let d = in_directory a k l m p in
      let x = target_of l.says in
      let lawful : is_lawful_link s t a l ≡ true =
      sym (ap (λ b. b || is_lawful_link s t a l) p) ∙ all_at (λ (g : Link). is_pointer g.says || is_lawful_link s t a g) (kept_links s t a) l (names_at a k d.0 d.1) m in
      let r = lawful_selected (is_named s t a l) (found s t x) (sound s t x) (is_entry s t x) (node_at t x).directory (is_chosen s t a l) (target_there a k l m p) (sound_found s t x) lawful in
      let g = any_gives (λ (g : Link). g.place == l.place) (named s t a) r.0 in
      let among : Member l (named s t a) = subst (λ (z : Link). Member z (named s t a)) (same_place a g.0 l (named_kept a g.0 g.1) m g.2) g.1 in
      member_filtered (selects s t a) (named s t a) l among (selects_it a l p r.1 r.2)

  all_selected : (a : Addr) → kept s t a ≡ true → (l : Link) → Member l (kept_links s t a) → Member l (selected s t a)
  all_selected a k l m = by (is_pointer l.says) refl
    where
      by : (b : Bool) → is_pointer l.says ≡ b → Member l (selected s t a)
      by true p = pointer_selected a k l m p
      by false p = fid_selected a k l m p

  room_selected : (a : Addr) → rooms (selected s t a) ≤ rooms (kept_links s t a)
  unfolding selected named
  room_selected a = omega (arith, rooms_filter (selects s t a) (first_of_names [] (kept_links s t a)), rooms_named [] (kept_links s t a))

  pub all_fitted : (a : Addr) → kept (setting_of f v) (tree_of f v) a ≡ true → (l : Link) → Member l (kept_links (setting_of f v) (tree_of f v) a)
      → Member l (fitted (setting_of f v) (tree_of f v) a)
  unfolding fitted
  all_fitted a k l m =
      subst (λ (ls : List Link). Member l ls)
      (sym (fit_whole ((node_at t a).space (kept_length s t a)) (selected s t a) (omega (arith, room_selected a, there.room_there f v h a k))))
      (all_selected a k l m)
