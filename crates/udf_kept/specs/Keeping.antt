-- What is kept of held entries.
use Rattle.std.specs.Prelude.{◌≡◌, true, false, List, [], ◌∷◌, Option, Some, None}
use Rattle.udf_tree_model.specs.Node.{Setting, Tree}
use Rattle.udf_tree_model.specs.Kept.{depth, kept}
use Rattle.udf_tree_model.specs.Parent.{keeping}
use Rattle.udf_held.specs.declared.held.Held.{Held}
use Rattle.udf_kept.specs.declared.keeping.Keeping.{Keeping}
use Rattle.udf_kept.specs.Fitted.{IsChoice}

pub record IsKeptBy (s : Setting) (t : Tree) (hs : List Held) (h : Held) (k : Keeping) : Type 0 where
  pub kept_is : kept s t h.at ≡ true
  pub depth_is : k.depth ≡ depth s t h.at
  pub by : IsChoice hs (λ d. depth s t d.at) (keeping s t h.at) k.by

-- how a held entry is kept, or that it is not
abbrev pub IsKeeping : Setting → Tree → List Held → Held → Option Keeping → Type 0
IsKeeping s t hs h None = kept s t h.at ≡ false
IsKeeping s t hs h (Some k) = IsKeptBy s t hs h k

abbrev pub AreKeptOf : Setting → Tree → List Held → List Held → List (Option Keeping) → Type 0
AreKeptOf s t all [] [] = Unit {0}
AreKeptOf s t all [] (k ∷ ks) = ⊥
AreKeptOf s t all (h ∷ hs) [] = ⊥
AreKeptOf s t all (h ∷ hs) (k ∷ ks) = IsKeeping s t all h k × AreKeptOf s t all hs ks

-- of each held entry, in order
pub record AreKept (s : Setting) (t : Tree) (hs : List Held) (ks : List (Option Keeping)) : Type 0 where
  pub each : AreKeptOf s t hs hs ks
