-- Whether the file set loses its pointer to the system stream directory, by what the survey tells.
use Rattle.std.proofs.Common.{◌≡◌, ℕ, ◌-◌, Bool, true, false, not, cond, ◌&&◌, [], ◌∷◌, Option, Some, None, arith, refl, sym, ap, ◌∙◌}
use Rattle.std.specs.Prelude.{find, is_some, nat_eq, nat_le, option_map}
use Rattle.std.specs.List.{filter}
use Rattle.std.proofs.lemmas.Bool.Decides.{nat_tests}
use Rattle.udf_field.specs.declared.address.Addr.{Addr}
use Rattle.udf_file_model.specs.Listing.{Volume, is_placed}
use Rattle.udf_tree_model.specs.Chosen.{first_of_names, fit, fitted, named, selected, selects}
use Rattle.udf_tree_model.specs.Frame.{Frame, entry_at, holder_by, holder_node, is_address, is_file_set, is_holder, node_by, setting_of, tree_of}
use Rattle.udf_tree_model.specs.Link.{Link, pointer_link, target_of}
use Rattle.udf_tree_model.specs.Node as tree
use Rattle.udf_tree_model.specs.Node.{node_at}
use Rattle.udf_tree_model.specs.Stated.{IsFileSetPlaced}
use Rattle.udf_tree_model.specs.Won.{kept_length, kept_links}
use Rattle.udf_tree_model.proofs.Places.{address_same}
use Rattle.udf_tree.specs.declared.node.NodeId.{NodeId}
use Rattle.udf_tree.specs.Nodes.{node_addresses}
use Rattle.udf_tree.specs.Survey.{IsSurvey, View, named_by, pointed_from, system_from}
use Rattle.udf_file_mends.specs.FileSet.{loses_system}
use Rattle.udf_file_mends.specs.Wanted.{has_pointer}

none_le : (n : ℕ) → nat_le 0 n ≡ true
none_le n = grind (arith, nat_tests)

-- a pointer alone is selected, or not
alone : (k : ℕ) (p : Addr) (b : Bool) → has_pointer (cond b (pointer_link p ∷ []) [])
    ≡ is_some (option_map (λ (l : Link). target_of l.says) (find (λ (l : Link). nat_eq l.place 0) (fit k (cond b (pointer_link p ∷ []) []))))
unfolding fit
alone k p true = sym (ap (λ b. is_some (option_map (λ (l : Link). target_of l.says) (find (λ (l : Link). nat_eq l.place 0) (cond b (pointer_link p ∷ fit (k - 0) []) [])))) (none_le k))
alone k p false = refl

module _ (f : Frame) (v : Volume) (placed : IsFileSetPlaced f v) where
  there : is_some f.system ≡ true → is_file_set f v f.file_set ≡ true
  there h =
      let p = placed h in
      ap (λ b. b && (is_address f.file_set && is_placed v f.file_set)) (address_same f.file_set f.file_set refl)
      ∙ ap (λ b. b && is_placed v f.file_set) p.0 ∙ p.1

  holder_is : is_holder f v f.file_set ≡ is_some f.system
  unfolding is_holder
  holder_is = by (is_some f.system) refl
    where
      by : (b : Bool) → is_some f.system ≡ b → (is_some f.system && is_file_set f v f.file_set) ≡ is_some f.system
      by true h = ap (λ b. b && is_file_set f v f.file_set) h ∙ there h ∙ sym h
      by false h = ap (λ b. b && is_file_set f v f.file_set) h ∙ sym h

  module _ (p : Addr) (has : f.system ≡ Some p) where
    links_are : kept_links (setting_of f v) (tree_of f v) f.file_set ≡ pointer_link p ∷ []
    unfolding kept_links node_at tree_of
    links_are =
        ap (λ o. (tree.node_or (holder_by o (is_file_set f v f.file_set) (node_by f v f.file_set (entry_at v f.file_set)))).links (kept_length (setting_of f v) (tree_of f v) f.file_set)) has
        ∙ ap (λ b. (tree.node_or (cond b (Some (holder_node p)) (node_by f v f.file_set (entry_at v f.file_set)))).links (kept_length (setting_of f v) (tree_of f v) f.file_set)) (there (ap is_some has))

    selected_are : selected (setting_of f v) (tree_of f v) f.file_set ≡ cond (selects (setting_of f v) (tree_of f v) f.file_set (pointer_link p)) (pointer_link p ∷ []) []
    unfolding selected named first_of_names
    selected_are = ap (λ ls. filter (selects (setting_of f v) (tree_of f v) f.file_set) (first_of_names [] ls)) links_are

    pointed_is : has_pointer (selected (setting_of f v) (tree_of f v) f.file_set) ≡ is_some (pointed_from f v f.file_set)
    unfolding pointed_from fitted
    pointed_is =
        let k = (node_at (tree_of f v) f.file_set).space (kept_length (setting_of f v) (tree_of f v) f.file_set) in
        ap has_pointer selected_are ∙ alone k p (selects (setting_of f v) (tree_of f v) f.file_set (pointer_link p))
        ∙ sym (ap (λ ls. is_some (option_map (λ (l : Link). target_of l.says) (find (λ (l : Link). nat_eq l.place 0) (fit k ls)))) selected_are)

  number_told : (x : View) → IsSurvey f v x → is_some x.system ≡ is_some (system_from f v)
  number_told x told = by x.system (system_from f v) told.system_is
    where
      by : (p : Option NodeId) (o : Option Addr) → named_by (node_addresses x.nodes) p ≡ option_map Some o → is_some p ≡ is_some o
      by None None e = refl
      by None (Some a) e = cc
      by (Some i) None e = cc
      by (Some i) (Some a) e = refl

  pub loses_told : (x : View) → IsSurvey f v x → (is_some f.system && not (is_some x.system)) ≡ loses_system f v
  unfolding loses_system system_from
  loses_told x told = by f.system refl
    where
      by : (o : Option Addr) → f.system ≡ o
          → (is_some f.system && not (is_some x.system)) ≡ (is_holder f v f.file_set && not (has_pointer (selected (setting_of f v) (tree_of f v) f.file_set)))
      by None h =
          ap (λ (z : Option Addr). is_some z && not (is_some x.system)) h
          ∙ sym (ap (λ b. b && not (has_pointer (selected (setting_of f v) (tree_of f v) f.file_set))) (holder_is ∙ ap is_some h))
      by (Some p) h =
          ap (λ (z : Option Addr). is_some z && not (is_some x.system)) h
          ∙ ap not (number_told x told ∙ ap (λ b. is_some (cond b (pointed_from f v f.file_set) None)) (holder_is ∙ ap is_some h) ∙ sym (pointed_is p h))
          ∙ sym (ap (λ b. b && not (has_pointer (selected (setting_of f v) (tree_of f v) f.file_set))) (holder_is ∙ ap is_some h))
