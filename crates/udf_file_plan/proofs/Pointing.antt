-- Whether an entry loses its pointer to a stream directory, by what the survey tells.
use Rattle.std.proofs.Common.{◌≡◌, ℕ, suc, arith, Bool, true, false, not, cond, ◌&&◌, List, [], ◌∷◌, ◌++◌, map, Option, Some, None, refl, sym, ap, ◌∙◌, inl, inr}
use Rattle.std.specs.Prelude.{is_some, nat_eq, option_map, find}
use Rattle.std.specs.List.{filter, list_any}
use Rattle.std.proofs.lemmas.Bool.Decides.{nat_tests}
use Rattle.udf_field.specs.declared.address.Addr.{Addr}
use Rattle.udf_field.specs.declared.address.Long.{Long}
use Rattle.udf_file_model.specs.Entry.{Entry}
use Rattle.udf_file_model.specs.Fid.{is_live}
use Rattle.udf_file_model.specs.Listing.{Volume, list_for}
use Rattle.udf_file_model.specs.Scan.{Placed, fids}
use Rattle.udf_file_model.specs.Wanted.{stream_left}
use Rattle.udf_tree_model.specs.Among.{Member}
use Rattle.udf_tree_model.specs.Chosen.{fit, selected, selects}
use Rattle.udf_tree_model.specs.Frame.{Frame, content_to, entry_at, links_of, node_with, setting_of, stream_of, tree_of}
use Rattle.udf_tree_model.specs.Link.{Link, fid_link, fid_links, is_pointer, pointed, pointer_link, pointer_links, target_of}
use Rattle.udf_tree_model.specs.Node as tree
use Rattle.udf_tree_model.specs.Ordinary.{is_kept_entry}
use Rattle.udf_tree_model.specs.Won.{kept_length, kept_links}
use Rattle.udf_tree.specs.Survey.{pointed_from}
use Rattle.udf_file_mends.specs.Repairable.{IsRepairable}
use Rattle.udf_file_mends.specs.Wanted.{has_pointer, loses_pointer}
use Rattle.udf_file_mends.proofs.Held as held
use Rattle.udf_file_mends.proofs.Links as links

abbrev at_front : Link → Bool
at_front l = nat_eq l.place 0

find_none : (xs : List Link) → ((l : Link) → Member l xs → nat_eq l.place 0 ≡ false) → find (λ (l : Link). nat_eq l.place 0) xs ≡ None
find_none [] h = refl
find_none (x ∷ xs) h =
    ap (λ b. cond b (Some x) (find (λ (l : Link). nat_eq l.place 0) xs)) (h x (inl refl)) ∙ find_none xs (λ l m. h l (inr m))

after_zero : (n : ℕ) → nat_eq (suc n) 0 ≡ false
after_zero n = grind (arith, nat_tests)

-- a FID stands behind the place of a pointer, and is none
behind_front : (ps : List Placed) (l : Link) → Member l (map fid_link ps) → nat_eq l.place 0 ≡ false
behind_front [] l m = absurd m
behind_front (p ∷ ps) l (inl e) = ap (λ (k : Link). nat_eq k.place 0) e ∙ after_zero p.0
behind_front (p ∷ ps) l (inr m) = behind_front ps l m

no_pointers : (ps : List Placed) → list_any (λ l. is_pointer l.says) (map fid_link ps) ≡ false
no_pointers [] = refl
no_pointers (p ∷ ps) = no_pointers ps

abbrev pointer_if : (Addr → Bool) → Option Addr → List Link
pointer_if sel None = []
pointer_if sel (Some p) = cond (sel p) (pointer_link p ∷ []) []

abbrev first_target : List Link → Option Addr
first_target xs = option_map (λ l. target_of l.says) (find (λ (l : Link). nat_eq l.place 0) xs)

told_by : (lose : Bool) (long : Long) (p : Addr) (b : Bool) (xs : List Link) → find (λ (l : Link). nat_eq l.place 0) xs ≡ None → pointed long ≡ Some p
    → pointer_links (stream_of (stream_left lose (Some long))) ≡ cond b (pointer_link p ∷ []) [] → not (is_some (first_target (cond b (pointer_link p ∷ []) [] ++ xs))) ≡ lose
told_by true long p true xs none at e = absurd (cc)
told_by false long p true xs none at e = refl
told_by true long p false xs none at e = ap (λ (o : Option Link). not (is_some (option_map (λ l. target_of l.says) o))) none
told_by false long p false xs none at e = absurd (let z : pointer_link p ∷ [] ≡ [] = sym (ap pointer_links at) ∙ e in cc)

told_at : (lose : Bool) (long : Long) (q : Option Addr) (sel : Addr → Bool) (xs : List Link) → find (λ (l : Link). nat_eq l.place 0) xs ≡ None → pointed long ≡ q
    → (q ≡ None → lose ≡ false) → pointer_links (stream_of (stream_left lose (Some long))) ≡ pointer_if sel q → (is_some q && not (is_some (first_target (pointer_if sel q ++ xs)))) ≡ lose
told_at lose long None sel xs none at keeps e = sym (keeps refl)
told_at lose long (Some p) sel xs none at keeps e = told_by lose long p (sel p) xs none at e

told : (lose : Bool) (o : Option Long) (sel : Addr → Bool) (xs : List Link) → find (λ (l : Link). nat_eq l.place 0) xs ≡ None → (stream_of o ≡ None → lose ≡ false)
    → pointer_links (stream_of (stream_left lose o)) ≡ pointer_if sel (stream_of o) → (is_some (stream_of o) && not (is_some (first_target (pointer_if sel (stream_of o) ++ xs)))) ≡ lose
told lose None sel xs none keeps e = sym (keeps refl)
told lose (Some long) sel xs none keeps e = told_at lose long (pointed long) sel xs none refl keeps e

module _ (f : Frame) (v : Volume) (ok : IsRepairable f v) (a : Addr) (e : Entry) (kept : is_kept_entry f v a ≡ true) (reads : entry_at v a ≡ Some e) where
  abbrev sel : Addr → Bool
  sel p = selects (setting_of f v) (tree_of f v) a (pointer_link p)

  same_pointer : (o : Option Addr) → links.pointer_by f v ok a e kept reads o ≡ pointer_if sel o
  same_pointer None = refl
  same_pointer (Some p) = refl

  abbrev rest : List Link
  rest = fit (links.room f v ok a e kept reads) (links.chosen_fids f v ok a e kept reads)

  none_in_front : find (λ (l : Link). nat_eq l.place 0) rest ≡ None
  unfolding fid_links
  none_in_front = find_none rest (λ l m. behind_front _ l (links.fitted_live f v ok a e kept reads l m))

  -- without a pointer there is none to lose
  keeps_none : stream_of e.stream ≡ None → loses_pointer f v a ≡ false
  unfolding loses_pointer kept_links node_with links_of fid_links
  keeps_none h =
      let size = v.size in
      let content = content_to v e (list_for v a e) (kept_length (setting_of f v) (tree_of f v) a) in
      let have : has_pointer (kept_links (setting_of f v) (tree_of f v) a) ≡ false =
      ap (λ (m : tree.Node). has_pointer (m.links (kept_length (setting_of f v) (tree_of f v) a))) (held.node f v ok a e kept reads)
      ∙ ap (λ o. has_pointer (pointer_links o ++ map fid_link (filter (λ p. is_live p.1) (fids size content)))) h
      ∙ no_pointers (filter (λ p. is_live p.1) (fids size content)) in
      ap (λ b. b && not (has_pointer (selected (setting_of f v) (tree_of f v) a))) have

  pub loses_told : (is_some (stream_of e.stream) && not (is_some (pointed_from f v a))) ≡ loses_pointer f v a
  unfolding pointed_from
  loses_told =
      ap (λ xs. is_some (stream_of e.stream) && not (is_some (first_target xs)))
      (links.fitted_are f v ok a e kept reads ∙ ap (λ z. z ++ rest) (same_pointer (stream_of e.stream)))
      ∙ told (loses_pointer f v a) e.stream sel rest none_in_front keeps_none
      (links.pointer_left f v ok a e kept reads ∙ same_pointer (stream_of e.stream))
