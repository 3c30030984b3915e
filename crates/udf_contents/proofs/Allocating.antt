-- The rule on allocation, by what held entries tell.
use Rattle.std.proofs.Common.{◌≡◌, ℕ, Bool, ◌&&◌, sym, ap, ◌∙◌}
use Rattle.std.specs.Prelude.{nat_le}
use Rattle.std.specs.List.{list_all}
use Rattle.udf_file_model.specs.Entry.{Entry}
use Rattle.udf_file_model.specs.Listing.{Volume, is_good_for}
use Rattle.udf_tree_model.specs.Claimed.{allocation_holds}
use Rattle.udf_tree_model.specs.Frame.{Frame, setting_of, tree_of}
use Rattle.udf_tree_model.specs.Node.{node_at}
use Rattle.udf_tree_model.specs.Won.{holds}
use Rattle.udf_held.specs.declared.held.Held.{Held}
use Rattle.udf_found.specs.declared.shape.Shape.{Shape}
use Rattle.udf_held.specs.Held.{IsHeld}
use Rattle.udf_found.specs.Shape.{IsShape}

module _ (f : Frame) (v : Volume) (h : Held) (e : Entry) (s : Shape) (held : IsHeld (setting_of f v) (tree_of f v) h) (shape : IsShape v h.at e s) where
  allocation_is : (s.good && (h.whole && nat_le s.information s.bytes)) ≡ allocation_holds f v h.at e
  unfolding allocation_holds
  allocation_is =
      ap (λ (b : Bool). b && (h.whole && nat_le s.information s.bytes)) shape.good
      ∙ ap (λ (b : Bool). is_good_for v h.at e && (b && nat_le s.information s.bytes)) held.whole
      ∙ ap (λ (n : ℕ). is_good_for v h.at e && (list_all (holds (setting_of f v) (tree_of f v) h.at) (node_at (tree_of f v) h.at).list && nat_le n s.bytes)) shape.information
      ∙ ap (λ (n : ℕ). is_good_for v h.at e && (list_all (holds (setting_of f v) (tree_of f v) h.at) (node_at (tree_of f v) h.at).list && nat_le e.information n)) shape.bytes

  pub by_tests : (b c : Bool) → s.good ≡ b → h.whole ≡ c → (b && (c && nat_le s.information s.bytes)) ≡ allocation_holds f v h.at e
  by_tests b c p q =
      ap (λ (x : Bool). x && (c && nat_le s.information s.bytes)) (sym p)
      ∙ ap (λ (x : Bool). s.good && (x && nat_le s.information s.bytes)) (sym q)
      ∙ allocation_is
