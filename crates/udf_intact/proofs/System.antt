-- Where no damage touches the directory to which the file set's pointer leads, the pointer stays and the directory is kept.
use Rattle.std.proofs.Common.{◌≡◌, ◌&&◌, not, Bool, true, false, cond, Option, Some, List, [], ◌∷◌, refl, sym, ap, ◌∙◌, subst, inl, arith}
use Rattle.std.specs.Prelude.{Contains}
use Rattle.std.specs.List.{filter}
use Rattle.std.proofs.lemmas.Bool.{and_from}
use Rattle.udf_field.specs.declared.address.Addr.{Addr}
use Rattle.udf_file_model.specs.Listing.{Volume}
use Rattle.udf_tree_model.specs.Among.{Member}
use Rattle.udf_tree_model.specs.Chosen.{Rank, chosen, first_of_names, fit, fitted, is_rank, named, rank_of, ranks_over, selected, selects}
use Rattle.udf_tree_model.specs.Found.{found}
use Rattle.udf_tree_model.specs.Frame.{Frame, setting_of, tree_of}
use Rattle.udf_tree_model.specs.Intact.{IsIntact}
use Rattle.udf_tree_model.specs.Kept.{kept}
use Rattle.udf_tree_model.specs.Laws.{HasSoundStarts, IsWithin}
use Rattle.udf_tree_model.specs.Link.{Link, pointer_link, target_of}
use Rattle.udf_tree_model.specs.Node.{Node, Setting, Tree, node_at}
use Rattle.udf_tree_model.specs.Won.{kept_length, kept_links, sound}
use Rattle.udf_tree_model.proofs.Choosing.{own_rank, ranks_give, ranks_have}
use Rattle.udf_tree_model.proofs.Finding.{found_readable, volume_within}
use Rattle.udf_tree_model.proofs.Keeping.{edge_from, kept_start, kept_target, sound_found}
use Rattle.udf_tree_model.proofs.Linking.{first_of_names_member, first_one, fit_whole}
use Rattle.udf_tree_model.proofs.Members.{contains_of, member_of}
use Rattle.udf_tree_model.proofs.Stating.{accepted_starts}
use Rattle.udf_file_mends.specs.FileSet.{loses_system}
use Rattle.udf_file_mends.specs.Repairable.{IsRepairable}
use Rattle.udf_file_mends.specs.Wanted.{has_pointer}
use Rattle.udf_intact.proofs.FileSet.{set_holds, set_node, set_starts}
use Rattle.udf_intact.proofs.Owning.{intact_sound}

module _ (f : Frame) (v : Volume) (ok : IsRepairable f v) (x : Addr) (system : f.system ≡ Some x)
    (intact : IsIntact (setting_of f v) (tree_of f v) x) (directory : (node_at (tree_of f v) x).directory ≡ true) where
  abbrev s : Setting
  s = setting_of f v

  abbrev t : Tree
  t = tree_of f v

  abbrev set : Addr
  set = f.file_set

  abbrev pointer : Link
  pointer = pointer_link x

  -- ---- the file set
  starts : HasSoundStarts (setting_of f v) (tree_of f v)
  starts = accepted_starts f v ok.accepted ok.file_set

  within : IsWithin (setting_of f v) (tree_of f v)
  within = volume_within f v

  set_sound : sound s t set ≡ true
  set_sound = starts.starts set (set_starts f v ok.file_set x system)

  set_found : found s t set ≡ true
  set_found = sound_found s t set set_sound

  -- ---- its pointer
  links_are : kept_links s t set ≡ pointer ∷ []
  unfolding kept_links
  links_are = ap (λ (n : Node). n.links (kept_length s t set)) (set_node f v ok.file_set x system)

  named_are : named s t set ≡ pointer ∷ []
  unfolding named first_of_names
  named_are = ap (λ (ls : List Link). first_of_names [] ls) links_are

  among_links : Contains (kept_links s t set) pointer
  among_links = subst (λ (ls : List Link). Contains ls pointer) (sym links_are) (contains_of (pointer ∷ []) pointer (inl refl))

  among_named : Member pointer (named s t set)
  among_named = subst (λ (ls : List Link). Member pointer ls) (sym named_are) (inl refl)

  no_start : s.start x ≡ false
  no_start = by (s.start x) refl
    where
      by : (b : Bool) → s.start x ≡ b → s.start x ≡ false
      by true e = absurd (intact.no_link e set pointer set_found among_links refl)
      by false e = e

  chosen_is : chosen s t x ≡ Some (rank_of s t set pointer)
  unfolding chosen named rank_of
  chosen_is =
      first_one (ranks_over s t x s.places) (rank_of s t set pointer)
      (ranks_have s t x s.places set pointer (member_of s.places set (within.among set (found_readable s t within set set_found))) set_sound among_named refl)
      (λ k p. only k (ranks_give s t x s.places k p))
    where
      only : (k : Rank) → (d : Addr) × (l : Link) × (sound s t d ≡ true) × Member l (named s t d) × (target_of l.says ≡ x) × (k ≡ rank_of s t d l) → k ≡ rank_of s t set pointer
      only k r =
          let o = intact.one_link directory r.0 set r.1 pointer (sound_found s t r.0 r.2) set_found
          (contains_of (kept_links s t r.0) r.1 (first_of_names_member [] (kept_links s t r.0) r.1 r.3)) among_links r.4 refl in
          cc (r.5, o.0, o.1)

  selects_it : selects s t set pointer ≡ true
  unfolding selects
  selects_it =
      and_from (sound s t x) _ (intact_sound s t x intact)
      (ap (λ b. cond b (not (s.start x) && is_rank set pointer (chosen s t x)) false) directory
      ∙ ap (λ b. not b && is_rank set pointer (chosen s t x)) no_start
      ∙ ap (λ (o : Option Rank). is_rank set pointer o) chosen_is
      ∙ own_rank s t set pointer)

  selected_are : selected s t set ≡ pointer ∷ []
  unfolding selected
  selected_are =
      ap (λ (ls : List Link). filter (selects s t set) ls) named_are
      ∙ ap (λ b. let ls : List Link = cond b (pointer ∷ []) [] in ls) selects_it

  fitted_are : fitted s t set ≡ pointer ∷ []
  unfolding fitted
  fitted_are =
      ap (λ (ls : List Link). fit ((node_at t set).space (kept_length s t set)) ls) selected_are
      ∙ fit_whole ((node_at t set).space (kept_length s t set)) (pointer ∷ []) (omega arith)

  pub system_kept : kept (setting_of f v) (tree_of f v) x ≡ true
  system_kept =
      kept_target s t within starts set x (kept_start s t within starts set (set_starts f v ok.file_set x system))
      (edge_from s t set x pointer (subst (λ (ls : List Link). Member pointer ls) (sym fitted_are) (inl refl)) refl)

  pub system_stays : loses_system f v ≡ false
  unfolding loses_system
  system_stays =
      ap (λ b. b && not (has_pointer (selected s t set))) (set_holds f v ok.file_set x system)
      ∙ ap (λ (ls : List Link). not (has_pointer ls)) selected_are
