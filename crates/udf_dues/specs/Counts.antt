-- The least and the greatest link counts of found entries.
use Rattle.std.specs.Prelude.{◌≡◌, ℕ, true, get_or, is_some, List, [], ◌∷◌}
use Rattle.udf_field.specs.declared.address.Addr.{Addr}
use Rattle.udf_model.specs.Bytes.{IsBytes}
use Rattle.udf_file_model.specs.Content.{block_at}
use Rattle.udf_file_model.specs.Listing.{Volume}
use Rattle.udf_tree_model.specs.Among.{Member}
use Rattle.udf_tree_model.specs.Content.{kept_content}
use Rattle.udf_tree_model.specs.Counts.{high_count, low_count}
use Rattle.udf_tree_model.specs.Frame.{Frame}
use Rattle.udf_dues.specs.declared.counts.Count.{Count}
use Rattle.udf_held.specs.declared.held.Held.{Held}
use Rattle.udf_dues.specs.Marks.{no_count}

-- the blocks and the kept contents of held entries with a shape are bytes
pub record AreOfBytes (f : Frame) (v : Volume) (hs : List Held) : Type 0 where
  pub blocks : (h : Held) → Member h hs → is_some h.shape ≡ true → IsBytes (block_at v h.at)
  pub contents : (h : Held) → Member h hs → is_some h.shape ≡ true → IsBytes (kept_content f v h.at)

-- the least and the greatest link count that the entry at an address may state
abbrev pub count_of : Frame → Volume → Addr → Count
count_of f v a = record { low = low_count f v a; high = high_count f v a }

-- the counts between which the entry at an address may state one
pub record IsCount (f : Frame) (v : Volume) (a : Addr) (c : Count) : Type 0 where
  pub low : c.low ≡ low_count f v a
  pub high : c.high ≡ high_count f v a

-- of each held entry, in order; nothing is told of the holder of the pointer to the system stream directory
abbrev pub AreCountsOf : Frame → Volume → List Held → List Count → Type 0
AreCountsOf f v [] [] = Unit {0}
AreCountsOf f v [] (c ∷ cs) = ⊥
AreCountsOf f v (h ∷ hs) [] = ⊥
AreCountsOf f v (h ∷ hs) (c ∷ cs) = (is_some h.shape ≡ true → IsCount f v h.at c) × AreCountsOf f v hs cs

pub record AreCounts (f : Frame) (v : Volume) (hs : List Held) (cs : List Count) : Type 0 where
  pub each : AreCountsOf f v hs cs

-- the count at an index; no links where there is none
abbrev pub count_in : List Count → ℕ → Count
count_in cs i = get_or cs i no_count
