-- What the mend makes of the contents of kept directories.
use Rattle.std.specs.Prelude.{◌≡◌, true, false, ◌&&◌, is_some, List, [], ◌∷◌, Option, Some, None}
use Rattle.udf_file_model.specs.Listing.{Volume}
use Rattle.udf_tree_model.specs.Frame.{Frame}
use Rattle.udf_tree_model.specs.Content.{content_stays, mended_content}
use Rattle.udf_contents.specs.declared.contents.MendedContent.{MendedContent}
use Rattle.udf_held.specs.declared.held.Held.{Held}
use Rattle.udf_kept.specs.declared.keeping.Keeping.{Keeping}

-- the content of a directory stays, or what is written in its place
abbrev pub IsContentOf : Frame → Volume → Held → Option MendedContent → Type 0
IsContentOf f v h None = content_stays f v h.at ≡ true
IsContentOf f v h (Some new) = (content_stays f v h.at ≡ false) × (new.bytes.items ≡ mended_content f v h.at)

-- of a kept directory; of another entry nothing is written
pub record IsContent (f : Frame) (v : Volume) (h : Held) (k : Option Keeping) (c : Option MendedContent) : Type 0 where
  pub of_kept : (is_some k && (h.directory && is_some h.shape)) ≡ true → IsContentOf f v h c
  pub of_other : (is_some k && (h.directory && is_some h.shape)) ≡ false → c ≡ None

abbrev pub AreContentsOf : Frame → Volume → List Held → List (Option Keeping) → List (Option MendedContent) → Type 0
AreContentsOf f v [] [] [] = Unit {0}
AreContentsOf f v [] [] (c ∷ cs) = ⊥
AreContentsOf f v [] (k ∷ ks) cs = ⊥
AreContentsOf f v (h ∷ hs) [] cs = ⊥
AreContentsOf f v (h ∷ hs) (k ∷ ks) [] = ⊥
AreContentsOf f v (h ∷ hs) (k ∷ ks) (c ∷ cs) = IsContent f v h k c × AreContentsOf f v hs ks cs

-- of each held entry, in order
pub record AreContents (f : Frame) (v : Volume) (hs : List Held) (ks : List (Option Keeping)) (cs : List (Option MendedContent)) : Type 0 where
  pub each : AreContentsOf f v hs ks cs
