-- Whether the root is a sound directory.
use Rattle.std.proofs.Common.{◌≡◌, ℕ, zero, suc, ◌+◌, ◌<◌, List, [], ◌∷◌, ◌++◌, map, length, take, get_or, Bool, true, false, cond, not, ◌&&◌, ◌||◌, Option, Some, None, refl, sym, ap, ◌∙◌, subst, arith}
use Rattle.std.specs.Prelude.{slice_get}
use Rattle.std.specs.List.{list_any, list_all}
use Rattle.std.proofs.lemmas.List.{map-append, take_more}
use Rattle.udf_field.specs.declared.address.Addr.{Addr}
use Rattle.udf_file_model.specs.Address.{same_addr}
use Rattle.udf_file_model.specs.Entry.{Entry, is_directory}
use Rattle.udf_file_model.specs.Listing.{Volume}
use Rattle.udf_tree_model.specs.Node.{Node, Setting, Tree, node_at}
use Rattle.udf_tree_model.specs.Won.{kept_length, sound, wins}
use Rattle.udf_tree_model.specs.Frame.{Frame, entry_at, is_holder, node_with, setting_of, tree_of}
use Rattle.udf_layer.specs.declared.missing.Missing.TheVariants as missing
use Rattle.udf_tree_model.specs.Refused.{Refusal, Strategy, ExtendedDescriptors, AttributeFile, RootDirectory, has_attribute_file, has_extended_descriptors, has_other_strategy, has_root, names_indirect, passes, refusal, some_found}
use Rattle.udf_tree_model.proofs.Stating.{node_is}
use Rattle.udf_found.specs.declared.arena.Found as arena
use Rattle.udf_found.specs.declared.shape.Shape.{Shape}
use Rattle.udf_held.specs.declared.standing.Standing.{Standing}
use Rattle.udf_found.specs.Beyond.{HoldsFileSet, of_entries}
use Rattle.udf_kept.specs.Entries.{is_directory_shape, missing_of}
use Rattle.udf_found.specs.Order.{is_known}
use Rattle.udf_found.specs.Seen.{spots}
use Rattle.udf_found.specs.Shape.{IsShaped}
use Rattle.udf_found.specs.Spot.{IsFoundList}
use Rattle.udf_held.specs.Standing.{AreStanding, IsStanding}
use Rattle.udf_found.proofs.Adding.{known_is}
use Rattle.udf_found.proofs.Seeing.{any_more, file_set_plain, holder_address}

-- the standing of an entry at an index
pub standing_at : (s : Setting) (t : Tree) (ns : List arena.Found) (xs : List Standing) (i : ℕ) (n : arena.Found) → AreStanding s t ns xs → i < length ns → n ≡ get_or ns i n
    → (x : Standing) × (slice_get xs i ≡ Some x) × IsStanding s t n.at x
standing_at s t [] xs i n h l e = absurd (omega (arith, l))
standing_at s t (m ∷ ms) [] i n h l e = absurd h
standing_at s t (m ∷ ms) (y ∷ ys) zero n h l e = (y, refl, subst (λ (a : Addr). IsStanding s t a y) (ap (λ (z : arena.Found). z.at) (sym e)) h.0)
standing_at s t (m ∷ ms) (y ∷ ys) (suc i) n h l e = standing_at s t ms ys i n h.1 (omega (arith, l)) e

swapped : (p q : Bool) → (p && q) ≡ (q && p)
swapped true true = refl
swapped true false = refl
swapped false true = refl
swapped false false = refl

-- a found entry at the root
pub root_is : (f : Frame) (v : Volume) (a : Addr) (o : Option Shape) (x : Standing) → f.root ≡ a → HoldsFileSet f v → IsShaped f v a o → IsStanding (setting_of f v) (tree_of f v) a x
    → (is_directory_shape o && x.sound) ≡ has_root f v
unfolding has_root node_with
root_is f v a None x r set shaped k =
    sym (ap (λ (e : Option Entry). passes (λ e. true) e && (sound (setting_of f v) (tree_of f v) f.root && (node_at (tree_of f v) f.root).directory))
    (ap (entry_at v) (r ∙ holder_address f v a shaped) ∙ (file_set_plain f v set).0))
root_is f v a (Some s) x r set (other, e, there, shape) k =
    swapped s.directory x.sound
    ∙ ap (λ (b : Bool). b && s.directory) k.sound_is
    ∙ ap (λ (b : Bool). sound (setting_of f v) (tree_of f v) a && b) (shape.directory ∙ sym (kind a e there other))
    ∙ ap (λ (o : Option Entry). passes (λ e. true) o && (sound (setting_of f v) (tree_of f v) a && (node_at (tree_of f v) a).directory)) (sym there)
    ∙ ap (λ (b : Addr). passes (λ e. true) (entry_at v b) && (sound (setting_of f v) (tree_of f v) b && (node_at (tree_of f v) b).directory)) (sym r)
  where
    kind : (a : Addr) (e : Entry) → entry_at v a ≡ Some e → is_holder f v a ≡ false → (node_at (tree_of f v) a).directory ≡ is_directory e
    kind a e h o = ap (λ (n : Node). n.directory) (node_is f v a e h o)

-- none of the found entries is the root
pub no_root : (f : Frame) (v : Volume) (q : List arena.Found) → IsFoundList (setting_of f v) (tree_of f v) (spots q) → is_known f.root q ≡ false → false ≡ has_root f v
unfolding has_root sound
no_root f v q list k =
    sym (ap (λ (b : Bool). passes (λ e. true) (entry_at v f.root) && ((b && (list_all (wins (setting_of f v) (tree_of f v) f.root) (node_at (tree_of f v) f.root).own
    && (not (node_at (tree_of f v) f.root).directory || (node_at (tree_of f v) f.root).enough (kept_length (setting_of f v) (tree_of f v) f.root)))) && (node_at (tree_of f v) f.root).directory))
    (list.all f.root ∙ sym (known_is f.root q) ∙ k)
    ∙ never (passes (λ e. true) (entry_at v f.root)))
  where
    never : (b : Bool) → (b && false) ≡ false
    never true = refl
    never false = refl

-- one entry more that is not the root
pub other_more : (a : Addr) (q : List arena.Found) (i : ℕ) (n : arena.Found) → i < length q → n ≡ get_or q i n → same_addr a n.at ≡ false → is_known a (take i q) ≡ false → is_known a (take (i + 1) q) ≡ false
other_more a q i n l e o k =
    ap (is_known a) (take_more q i n l ∙ ap (λ (m : arena.Found). take i q ++ m ∷ []) (sym e))
    ∙ ap (list_any (same_addr a)) (map-append (λ (m : arena.Found). m.at) (take i q) (n ∷ []))
    ∙ any_more (same_addr a) (map (λ (m : arena.Found). m.at) (take i q)) n.at
    ∙ ap (λ (b : Bool). b || same_addr a n.at) k
    ∙ o

-- the first refusal, where none is for entries
pub root_last : (f : Frame) (v : Volume) (b : Bool) → of_entries (refusal f v) ≡ None → b ≡ has_root f v → missing_of (refusal f v) ≡ cond b None (Some missing.RootDirectory)
unfolding refusal
root_last f v b h e = subst (λ (r : Bool). missing_of (refused r) ≡ cond b None (Some missing.RootDirectory)) e (last _ _ _ b (subst (λ (r : Bool). of_entries (refused r) ≡ None) (sym e) h))
  where
    refused : Bool → Option Refusal
    refused r =
        cond (some_found f v has_other_strategy || names_indirect f v) (Some Strategy)
        (cond (some_found f v has_extended_descriptors) (Some ExtendedDescriptors)
        (cond (some_found f v has_attribute_file) (Some AttributeFile) (cond r None (Some RootDirectory))))

    last : (x y z w : Bool) → of_entries (cond x (Some Strategy) (cond y (Some ExtendedDescriptors) (cond z (Some AttributeFile) (cond w None (Some RootDirectory))))) ≡ None
        → missing_of (cond x (Some Strategy) (cond y (Some ExtendedDescriptors) (cond z (Some AttributeFile) (cond w None (Some RootDirectory))))) ≡ cond w None (Some missing.RootDirectory)
    last true y z w k = cc
    last false true z w k = cc
    last false false true w k = cc
    last false false false true k = refl
    last false false false false k = refl

-- a volume is refused by a name that layers have
pub none_missing : (r : Option Refusal) → missing_of r ≡ None → r ≡ None
none_missing None h = refl
none_missing (Some Strategy) h = cc
none_missing (Some ExtendedDescriptors) h = cc
none_missing (Some AttributeFile) h = cc
none_missing (Some RootDirectory) h = cc
