-- The names of the steps from the root to kept entries.
use Rattle.std.specs.Prelude.{◌≡◌, ℕ, suc, true, false, nat_eq, cond, option_map, List, [], ◌∷◌, map, reverse, Option, Some, None, Vec}
use Rattle.std.specs.BTreeMap.{BTreeMap, get}
use Rattle.std.specs.declared.alloc.Global.{Global}
use Rattle.std.specs.Ordering.{nat_cmp}
use Rattle.udf_field.specs.declared.address.Addr.{Addr}
use Rattle.udf_file_model.specs.Address.{same_addr}
use Rattle.udf_file_model.specs.Listing.{Volume}
use Rattle.udf_tree_model.specs.Chosen.{Rank}
use Rattle.udf_tree_model.specs.Frame.{Frame, setting_of, tree_of}
use Rattle.udf_tree_model.specs.Kept.{kept}
use Rattle.udf_tree_model.specs.Link as model
use Rattle.udf_tree_model.specs.Node.{Setting, Tree}
use Rattle.udf_tree_model.specs.Parent.{keeping, parent}
use Rattle.udf_tree_model.specs.Won.{kept_links}
use Rattle.udf_held.specs.declared.held.Held.{Held}
use Rattle.udf_found.specs.declared.link.Link.{Link}
use Rattle.udf_kept.specs.Fitted.{at_of}
use Rattle.udf_found.specs.Linked.{text_of}

-- the identifier of the first of some links that has a place; nothing where none has it
abbrev pub text_with : List model.Link → ℕ → List ℕ
text_with [] q = []
text_with (f ∷ fs) q = cond (nat_eq f.place q) (text_of f.says) (text_with fs q)

-- that of the kept link of a rank
abbrev pub text_by : Setting → Tree → Option Rank → List ℕ
text_by s t None = []
text_by s t (Some x) = text_with (kept_links s t x.holder) x.place

-- the name of the step to a kept entry: that of the link that keeps it; empty for a pointer, and for a start
unfoldable pub step_name : Frame → Volume → Addr → List ℕ
step_name f v a = text_by (setting_of f v) (tree_of f v) (keeping (setting_of f v) (tree_of f v) a)

-- the index of the first link that has a place
abbrev pub index_by : List Link → ℕ → Option ℕ
index_by [] q = None
index_by (l ∷ ls) q = cond (nat_eq l.place q) (Some 0) (option_map (λ n. suc n) (index_by ls q))

-- and its name
abbrev pub name_by : List Link → ℕ → List ℕ
name_by [] q = []
name_by (l ∷ ls) q = cond (nat_eq l.place q) l.name.items (name_by ls q)

abbrev pub name_in : Option Link → List ℕ
name_in None = []
name_in (Some l) = l.name.items

-- the indexes of the links of an entry by their places
pub record HasIndexes (h : Held) (m : BTreeMap ℕ ℕ) : Type 0 where
  pub each : (q : ℕ) → get nat_cmp m q ≡ index_by h.links.items q

abbrev pub HaveIndexesOf : List Held → List (BTreeMap ℕ ℕ) → Type 0
HaveIndexesOf [] [] = Unit {0}
HaveIndexesOf [] (m ∷ ms) = ⊥
HaveIndexesOf (h ∷ hs) [] = ⊥
HaveIndexesOf (h ∷ hs) (m ∷ ms) = HasIndexes h m × HaveIndexesOf hs ms

-- of each entry, in order
pub record HaveIndexes (hs : List Held) (ms : List (BTreeMap ℕ ℕ)) : Type 0 where
  pub each : HaveIndexesOf hs ms

-- the kept entry that stands at an index among the found ones has this name
pub record IsNamed (f : Frame) (v : Volume) (hs : List Held) (i : ℕ) (name : List ℕ) : Type 0 where
  pub each : (a : Addr) → at_of hs i ≡ Some a → kept (setting_of f v) (tree_of f v) a ≡ true → name ≡ step_name f v a

abbrev pub AreNamedOf : Frame → Volume → List Held → List ℕ → List (List ℕ) → Type 0
AreNamedOf f v hs [] [] = Unit {0}
AreNamedOf f v hs [] (name ∷ names) = ⊥
AreNamedOf f v hs (i ∷ is) [] = ⊥
AreNamedOf f v hs (i ∷ is) (name ∷ names) = IsNamed f v hs i name × AreNamedOf f v hs is names

-- of each of some indexes, in order
pub record AreNamed (f : Frame) (v : Volume) (hs : List Held) (is : List ℕ) (names : List (List ℕ)) : Type 0 where
  pub each : AreNamedOf f v hs is names

-- the bytes of texts
abbrev pub texts_of : List (Vec ℕ Global) → List (List ℕ)
texts_of xs = map (λ (x : Vec ℕ Global). x.items) xs

-- these are the names from an entry up to the root
abbrev pub IsRise : Frame → Volume → Addr → List (List ℕ) → Type 0
IsRise f v a [] = a ≡ f.root
IsRise f v a (name ∷ names) = (same_addr a f.root ≡ false) × (name ≡ step_name f v a) × IsRise f v (parent f v a) names

-- these are the names from the root to a kept entry: its own stands last, that of its parent before it
pub record IsPath (f : Frame) (v : Volume) (a : Addr) (names : List (List ℕ)) : Type 0 where
  pub rise : IsRise f v a (reverse names)
