-- The way from a node up to the root, one step after another.
use Rattle.std.proofs.Common.{◌≡◌, ℕ, suc, ◌<◌, List, [], ◌∷◌, ◌++◌, length, Bool, false, true, Option, Some, None, arith, refl, sym, ap, ◌∙◌, subst}
use Rattle.std.specs.Prelude.{Vec, option_map, slice_get}
use Rattle.std.specs.declared.alloc.Global.{Global}
use Rattle.std.proofs.lemmas.List.{append_assoc, append-nil, length-append, length-map, map-append}
use Rattle.std.proofs.lemmas.Option.{same_Some, slice_get-map}
use Rattle.udf_field.specs.declared.address.Addr.{Addr}
use Rattle.udf_file_model.specs.Address.{same_addr}
use Rattle.udf_file_model.specs.Listing.{Volume}
use Rattle.udf_tree_model.specs.Climb.{IsDistance, climb}
use Rattle.udf_tree_model.specs.Frame.{Frame}
use Rattle.udf_tree_model.specs.Parent.{parent}
use Rattle.udf_tree_model.proofs.Distances.{climb_more}
use Rattle.udf_tree_model.proofs.Places.{same_address}
use Rattle.udf_tree.specs.declared.node.Node.{Node}
use Rattle.udf_tree.specs.declared.node.NodeId.{NodeId}
use Rattle.udf_tree.specs.Nodes.{AreNodes, node_addresses}
use Rattle.udf_tree.specs.Path.{IsRise, step_name, texts_of}
use Rattle.udf_tree.specs.Rise.{AreSteps, HasCome, above_by, name_at}
use Rattle.udf_kept.proofs.ByIndex.{member_at}

-- the node of a number whose address is known
pub node_there : (ns : List Node) (i : ℕ) (a : Addr) → slice_get (node_addresses ns) i ≡ Some a → (n : Node) × (slice_get ns i ≡ Some n) × (n.at ≡ a)
node_there ns i a e = go (slice_get ns i) refl
  where
    go : (o : Option Node) → slice_get ns i ≡ o → (n : Node) × (slice_get ns i ≡ Some n) × (n.at ≡ a)
    go None k = let wrong : None ≡ Some a = sym (ap (option_map (λ (m : Node). m.at)) k) ∙ sym (slice_get-map (λ (m : Node). m.at) ns i) ∙ e in cc
    go (Some n) k = (n, k, same_Some n.at a (sym (ap (option_map (λ (m : Node). m.at)) k) ∙ sym (slice_get-map (λ (m : Node). m.at) ns i) ∙ e))

-- one step up leads to the parent
pub above_there : (f : Frame) (v : Volume) (ns : List Node) → AreNodes f v ns → (i j : NodeId) (a : Addr) → slice_get (node_addresses ns) i.0 ≡ Some a → j ≡ above_by i (slice_get ns i.0)
    → slice_get (node_addresses ns) j.0 ≡ Some (parent f v a)
above_there f v ns are i j a e told =
    let r = node_there ns i.0 a e in
    subst (λ (k : NodeId). slice_get (node_addresses ns) k.0 ≡ Some (parent f v a)) (sym (told ∙ ap (above_by i) r.1))
    ((are.each r.0 (member_at ns i.0 r.0 r.1)).parent_is ∙ ap (λ (b : Addr). Some (parent f v b)) r.2)

pub come_begins : (f : Frame) (v : Volume) (ns : List Node) (a : Addr) (i : ℕ) → slice_get (node_addresses ns) i ≡ Some a → HasCome f v ns a i []
unfolding climb
come_begins f v ns a i e = record { at_is = e; rest = λ names r. r }

-- after as many names as there are steps it is at the root
pub come_up : (f : Frame) (v : Volume) (ns : List Node) (a : Addr) (i : ℕ) (steps : List (List ℕ)) → HasCome f v ns a i steps → IsDistance f v a (length steps) → IsRise f v a steps
come_up f v ns a i steps was far = subst (IsRise f v a) (append-nil steps) (was.rest [] far.arrives)

module _ (f : Frame) (v : Volume) (ns : List Node) (a : Addr) (i : NodeId) (steps : List (List ℕ)) (was : HasCome f v ns a i.0 steps) where
  abbrev here : Addr
  here = climb f v (length steps) a

  pub come_more : (all : List (Vec ℕ Global)) (name : List ℕ) (j : NodeId) (k : ℕ) → AreSteps f v ns (texts_of all) → IsDistance f v a k → length steps < k → name ≡ name_at (slice_get all i.0)
      → j ≡ above_by i (slice_get ns i.0) → HasCome f v ns a j.0 (steps ++ name ∷ [])
  come_more all name j k are far l told next =
      record {
        at_is = above_there f v ns are.nodes_are i j here was.at_is next ∙ ap Some one_more;
        rest = λ names rise.
            subst (IsRise f v a) (sym (append_assoc steps (name ∷ []) names))
            (was.rest (name ∷ names) (other, named, subst (λ (b : Addr). IsRise f v b names) (sym one_more) rise));
      }
    where
      one_more : parent f v here ≡ climb f v (length (steps ++ name ∷ [])) a
      one_more =
          let m : suc (length steps) ≡ length (steps ++ name ∷ []) = omega (arith, length-append steps (name ∷ [])) in
          sym (climb_more f v (length steps) a) ∙ ap (λ (n : ℕ). climb f v n a) m

      other : same_addr here f.root ≡ false
      other = go (same_addr here f.root) refl
        where
          go : (b : Bool) → same_addr here f.root ≡ b → same_addr here f.root ≡ false
          go false e = e
          go true e = let m = far.least (length steps) (same_address here f.root e) in absurd (omega (arith, l, m))

      text_at : (o : Option (Vec ℕ Global)) → option_map (λ (x : Vec ℕ Global). x.items) o ≡ Some (step_name f v here) → name_at o ≡ step_name f v here
      text_at None q = cc
      text_at (Some x) q = same_Some x.items (step_name f v here) q

      named : name ≡ step_name f v here
      named =
          let r = node_there ns i.0 here was.at_is in
          told
          ∙ text_at (slice_get all i.0)
          (sym (slice_get-map (λ (x : Vec ℕ Global). x.items) all i.0)
          ∙ ap (λ (xs : List (List ℕ)). slice_get xs i.0) are.names_are
          ∙ slice_get-map (λ (m : Node). step_name f v m.at) ns i.0
          ∙ ap (option_map (λ (m : Node). step_name f v m.at)) r.1
          ∙ ap (λ (b : Addr). Some (step_name f v b)) r.2)

pub texts_length : (xs : List (Vec ℕ Global)) → length (texts_of xs) ≡ length xs
texts_length xs = length-map xs (λ (x : Vec ℕ Global). x.items)

pub texts_more : (xs new : List (Vec ℕ Global)) (x : Vec ℕ Global) → new ≡ xs ++ x ∷ [] → texts_of new ≡ texts_of xs ++ x.items ∷ []
texts_more xs new x e = ap texts_of e ∙ map-append (λ (y : Vec ℕ Global). y.items) xs (x ∷ [])
