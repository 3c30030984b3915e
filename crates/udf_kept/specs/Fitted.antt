-- What is chosen and what fits of the links of held entries, by their indexes.
use Rattle.std.specs.Prelude.{◌≡◌, ℕ, true, false, List, [], ◌∷◌, map, Option, Some, None, slice_get}
use Rattle.udf_field.specs.declared.address.Addr.{Addr}
use Rattle.udf_tree_model.specs.Link.{Link, target_of}
use Rattle.udf_tree_model.specs.Node.{Setting, Tree}
use Rattle.udf_tree_model.specs.Chosen.{Rank, chosen_link, fitted}
use Rattle.udf_held.specs.declared.held.Held.{Held}
use Rattle.udf_kept.specs.declared.fitted.Choice.{Choice}
use Rattle.udf_kept.specs.declared.fitted.Fitted.{Fitted}
use Rattle.udf_kept.specs.declared.fitted.Selected.{Selected}

abbrev pub at_by : Option Held → Option Addr
at_by None = None
at_by (Some h) = Some h.at

-- the address of the entry at an index
abbrev pub at_of : List Held → ℕ → Option Addr
at_of hs i = at_by (slice_get hs i)

-- a link by its place and the address to which it leads
pub record Step : Type 0 where
  pub place : ℕ
  pub to : Option Addr

abbrev pub step_of : Link → Step
step_of f = record { place = f.place; to = Some (target_of f.says) }

abbrev pub step_seen : List Held → Fitted → Step
step_seen hs x = record { place = x.place; to = at_of hs x.to }

-- a choice is the link of that rank, where holders have these levels
abbrev pub IsChoice : List Held → (Held → ℕ) → Option Rank → Option Choice → Type 0
IsChoice hs level rank None = rank ≡ None
IsChoice hs level rank (Some c) =
    (h : Held) × (slice_get hs c.holder ≡ Some h) × (rank ≡ Some (record { level = level h; holder = h.at; place = c.place }))

-- the chosen link to a directory that is no start, and the fitted links of a sound entry, in order
pub record IsSelected (s : Setting) (t : Tree) (hs : List Held) (h : Held) (x : Selected) : Type 0 where
  pub choice : h.directory ≡ true → IsChoice hs (λ d. d.level) (chosen_link s t h.at) x.chosen
  pub of_sound : h.sound ≡ true → map (step_seen hs) x.fitted.items ≡ map step_of (fitted s t h.at)
  pub of_other : h.sound ≡ false → x.fitted.items ≡ []

abbrev pub AreSelectedOf : Setting → Tree → List Held → List Held → List Selected → Type 0
AreSelectedOf s t all [] [] = Unit {0}
AreSelectedOf s t all [] (x ∷ xs) = ⊥
AreSelectedOf s t all (h ∷ hs) [] = ⊥
AreSelectedOf s t all (h ∷ hs) (x ∷ xs) = IsSelected s t all h x × AreSelectedOf s t all hs xs

-- of each held entry, in order
pub record AreSelected (s : Setting) (t : Tree) (hs : List Held) (xs : List Selected) : Type 0 where
  pub each : AreSelectedOf s t hs hs xs
