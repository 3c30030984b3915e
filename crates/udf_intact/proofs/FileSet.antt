-- The file set that holds a pointer to the system stream directory: it is a start, whose one link is the pointer.
use Rattle.std.proofs.Common.{◌≡◌, ◌&&◌, Bool, true, cond, Option, Some, refl, ap, ◌∙◌}
use Rattle.std.specs.Prelude.{is_some}
use Rattle.std.proofs.lemmas.Bool.{and_from, or_right}
use Rattle.udf_field.specs.declared.address.Addr.{Addr}
use Rattle.udf_file_model.specs.Address.{same_addr}
use Rattle.udf_file_model.specs.Listing.{Volume, is_placed}
use Rattle.udf_tree_model.specs.Frame.{Frame, entry_at, holder_by, holder_node, is_address, is_file_set, is_holder, is_start, node_by, setting_of, tree_of}
use Rattle.udf_tree_model.specs.Node.{node_at, node_or}
use Rattle.udf_tree_model.specs.Stated.{IsFileSetPlaced}
use Rattle.udf_tree_model.proofs.Places.{address_same}

module _ (f : Frame) (v : Volume) (placed : IsFileSetPlaced f v) (x : Addr) (system : f.system ≡ Some x) where
  abbrev set : Addr
  set = f.file_set

  has_system : is_some f.system ≡ true
  has_system = ap (λ (o : Option Addr). is_some o) system

  set_there : is_file_set f v f.file_set ≡ true
  set_there =
      let p = placed has_system in
      and_from (same_addr set set) (is_address set && is_placed v set) (address_same set set refl) (and_from (is_address set) (is_placed v set) p.0 p.1)

  pub set_holds : is_holder f v f.file_set ≡ true
  unfolding is_holder
  set_holds = and_from (is_some f.system) (is_file_set f v set) has_system set_there

  pub set_node : node_at (tree_of f v) f.file_set ≡ holder_node x
  unfolding node_at tree_of
  set_node =
      ap (λ (o : Option Addr). node_or (holder_by o (is_file_set f v set) (node_by f v set (entry_at v set)))) system
      ∙ ap (λ (b : Bool). node_or (cond b (Some (holder_node x)) (node_by f v set (entry_at v set)))) set_there

  pub set_starts : (setting_of f v).start f.file_set ≡ true
  unfolding setting_of is_start
  set_starts = or_right (same_addr set f.root) (is_some f.system && same_addr set set) (and_from (is_some f.system) (same_addr set set) has_system (address_same set set refl))
