-- What the rules on targets, names and links ask of a live FID.
use Rattle.std.specs.Prelude.{◌≡◌, ℕ, Bool, true, not, ◌&&◌, ◌||◌, nat_eq, cond, List, [], ◌∷◌, map, Option, Some, None}
use Rattle.std.specs.BTreeMap.{BTreeMap, is_at}
use Rattle.std.specs.Map.{lookup}
use Rattle.std.specs.Ordering.{nat_cmp}
use Rattle.udf_field.specs.declared.address.Addr.{Addr}
use Rattle.udf_file_model.specs.Listing.{Volume}
use Rattle.udf_tree_model.specs.Chosen.{chosen}
use Rattle.udf_tree_model.specs.Found.{found}
use Rattle.udf_tree_model.specs.Frame.{Frame, setting_of, tree_of}
use Rattle.udf_tree_model.specs.Kept.{kept}
use Rattle.udf_tree_model.specs.Link as model
use Rattle.udf_tree_model.specs.Link.{target_of}
use Rattle.udf_tree_model.specs.Node.{Setting, Tree, is_entry, node_at}
use Rattle.udf_tree_model.specs.Won.{kept_links, sound}
use Rattle.udf_held.specs.declared.held.Held.{Held}
use Rattle.udf_tree.specs.declared.judge.Verdict.{Verdict}
use Rattle.udf_found.specs.declared.link.Link.{Link}
use Rattle.udf_kept.specs.Fitted.{at_of}
use Rattle.udf_found.specs.Linked.{earliers}
use Rattle.udf_kept.specs.Selects.{is_rank_at}

-- what a link of a holder leads to is sound, and an entry
unfoldable pub is_sound_target : Setting → Tree → Addr → Bool
is_sound_target s t a = sound s t a && is_entry s t a

-- it is no directory that is found, or a sound one whose chosen link this is; a start has none
unfoldable pub is_lawful_target : Setting → Tree → Addr → ℕ → Addr → Bool
is_lawful_target s t d place a =
    not (found s t a && ((node_at t a).directory && is_entry s t a)) || (sound s t a && (not (s.start a) && is_rank_at d place (chosen s t a)))

-- what is judged of the link of a holder at a place that leads to an address, where the first of its name before it stands there
abbrev pub verdict : Setting → Tree → Addr → ℕ → Addr → Option ℕ → Verdict
verdict s t d place a earlier = record { target = a; sound = is_sound_target s t a; earlier = earlier; chosen = is_lawful_target s t d place a }

-- of a link of a holder
abbrev pub verdict_by : Setting → Tree → Addr → Link → Verdict
verdict_by s t d l = verdict s t d l.place l.target l.earlier

-- of the first of some links with a place
abbrev pub judged_by : Setting → Tree → Addr → List Link → ℕ → Option Verdict
judged_by s t d [] q = None
judged_by s t d (l ∷ ls) q = cond (nat_eq l.place q) (Some (verdict_by s t d l)) (judged_by s t d ls q)

-- the same of the links of the definitions, each with the first of its name before it
abbrev pub judged_in : Setting → Tree → Addr → List model.Link → List (Option ℕ) → ℕ → Option Verdict
judged_in s t d [] os q = None
judged_in s t d (f ∷ fs) [] q = None
judged_in s t d (f ∷ fs) (o ∷ os) q = cond (nat_eq f.place q) (Some (verdict s t d f.place (target_of f.says) o)) (judged_in s t d fs os q)

-- of the kept link of an entry at a place
unfoldable pub judged : Frame → Volume → Addr → ℕ → Option Verdict
judged f v a q = judged_in (setting_of f v) (tree_of f v) a (kept_links (setting_of f v) (tree_of f v) a) (earliers (kept_links (setting_of f v) (tree_of f v) a)) q

-- of links of the definitions, each with the first of its name before it, the place and what is judged
abbrev pub judged_all : Setting → Tree → Addr → List model.Link → List (Option ℕ) → List (ℕ × Verdict)
judged_all s t d [] os = []
judged_all s t d (f ∷ fs) [] = []
judged_all s t d (f ∷ fs) (o ∷ os) = (f.place, verdict s t d f.place (target_of f.says) o) ∷ judged_all s t d fs os

-- of the kept links of an entry, in order
unfoldable pub judged_links : Frame → Volume → Addr → List (ℕ × Verdict)
judged_links f v a = judged_all (setting_of f v) (tree_of f v) a (kept_links (setting_of f v) (tree_of f v) a) (earliers (kept_links (setting_of f v) (tree_of f v) a))

-- what stands in a map of verdicts at a place, by its entries
abbrev pub verdict_in : List (ℕ × Verdict) → ℕ → Option Verdict
verdict_in es q = lookup (is_at (nat_cmp q)) es

abbrev pub entries_of : List (BTreeMap ℕ Verdict) → List (List (ℕ × Verdict))
entries_of ms = map (λ (m : BTreeMap ℕ Verdict). m.entries) ms

-- of the kept entry that stands at an index among the found ones, the links are judged
pub record IsJudged (f : Frame) (v : Volume) (hs : List Held) (i : ℕ) (es : List (ℕ × Verdict)) : Type 0 where
  pub each : (a : Addr) → at_of hs i ≡ Some a → kept (setting_of f v) (tree_of f v) a ≡ true → es ≡ judged_links f v a

abbrev pub AreJudgedOf : Frame → Volume → List Held → List ℕ → List (List (ℕ × Verdict)) → Type 0
AreJudgedOf f v hs [] [] = Unit {0}
AreJudgedOf f v hs [] (es ∷ rest) = ⊥
AreJudgedOf f v hs (i ∷ is) [] = ⊥
AreJudgedOf f v hs (i ∷ is) (es ∷ rest) = IsJudged f v hs i es × AreJudgedOf f v hs is rest

-- of each of some indexes, in order
pub record AreJudged (f : Frame) (v : Volume) (hs : List Held) (is : List ℕ) (ess : List (List (ℕ × Verdict))) : Type 0 where
  pub each : AreJudgedOf f v hs is ess
