-- The rule on the volume recognition sequence, number 1 (ECMA-167 2/8.3, 3/9.1; UDF 2.1.7): structures of 2048 bytes, or of a block
-- where blocks are larger, from byte 32768 on.
use Rattle.std.specs.Prelude.{ℕ, Bool, not, ◌+◌, ◌*◌, ◌/◌, ◌&&◌, ◌||◌, ◌==◌, nat_le, max, if◌then◌else◌, List, [], ◌∷◌, ◌++◌, take, drop, map, replicate, codes}
use Rattle.std.specs.List.{list_all, list_any, range_with_len, take_while}
use Rattle.std.specs.Str.{bytes_eq}
use Rattle.udf_volume_model.specs.Anchor.{places}
use Rattle.udf_volume_model.specs.Areas.{Layout, is_outside, taken}
use Rattle.udf_volume_model.specs.Rules.{Finding, Sector}
use Rattle.udf_rules_model.specs.Found.{unless}

-- the image and what the volume takes of it
pub record Recognition : Type 0 where
  -- the bytes of a block
  pub size : ℕ
  -- the number of blocks
  pub blocks : ℕ
  pub disk : ℕ → List ℕ
  pub layout : Layout

-- the blocks of a slot
unfoldable pub slot_blocks : ℕ → ℕ
slot_blocks size = max 2048 size / size

-- the first sector of a slot
unfoldable pub slot_at : ℕ → ℕ → ℕ
slot_at size i = 32768 / size + i * slot_blocks size

-- no area, used packet or place of an anchor has the sector
abbrev pub is_untaken : Recognition → ℕ → Bool
is_untaken r n = is_outside (taken r.layout) n && not (list_any (λ place. place == n) (places r.blocks))

-- the slot lies in the image, and none of its blocks is taken
unfoldable pub is_clear : Recognition → ℕ → Bool
is_clear r i =
    nat_le (slot_at r.size i + slot_blocks r.size) r.blocks
    && list_all (is_untaken r) (range_with_len (slot_at r.size i) (slot_blocks r.size))

-- 2/9.1.2: the five bytes after the type
unfoldable pub identifier_at : Recognition → ℕ → List ℕ
identifier_at r i = take 5 (drop 1 (r.disk (slot_at r.size i)))

-- the names of other file systems and of boot descriptors (2/9.4, 3/9.1), over which no recognition sequence is written
abbrev pub others : List (List ℕ)
others = codes "CD001" ∷ codes "CDW02" ∷ codes "BOOT2" ∷ []

abbrev pub known : List (List ℕ)
known = codes "BEA01" ∷ codes "NSR02" ∷ codes "NSR03" ∷ codes "TEA01" ∷ others

abbrev pub is_among : List (List ℕ) → List ℕ → Bool
is_among names name = list_any (bytes_eq name) names

-- the identifiers of the slots that are read: of 64 those before the first that is not clear or has no known one
unfoldable pub identifiers : Recognition → List (List ℕ)
identifiers r = map (identifier_at r) (take_while (λ i. is_clear r i && is_among known (identifier_at r i)) (range_with_len 0 64))

-- what comes after the first with one of these names
abbrev pub behind : List (List ℕ) → List (List ℕ) → List (List ℕ)
behind names [] = []
behind names (x ∷ xs) = if is_among names x then xs else behind names xs

abbrev pub begin : List (List ℕ)
begin = codes "BEA01" ∷ []

abbrev pub volume_names : List (List ℕ)
volume_names = codes "NSR02" ∷ codes "NSR03" ∷ []

abbrev pub end : List (List ℕ)
end = codes "TEA01" ∷ []

-- a beginning, later a volume structure descriptor, later an end
unfoldable pub is_recognised : List (List ℕ) → Bool
is_recognised names = list_any (is_among end) (behind volume_names (behind begin names))

-- the first three slots are clear, and hold no other file system and no boot descriptor
unfoldable pub binds : Recognition → Bool
binds r = list_all (λ i. is_clear r i && not (is_among others (identifier_at r i))) (0 ∷ 1 ∷ 2 ∷ [])

-- The rule on the recognition sequence.
unfoldable pub recognition_holds : Recognition → Bool
recognition_holds r = not (binds r) || is_recognised (identifiers r)

-- the digit of the first volume structure descriptor that is read, 0 without one
abbrev pub digit_of : List (List ℕ) → ℕ
digit_of [] = 0
digit_of (x ∷ xs) =
    if bytes_eq x (codes "NSR02") then 2 else (if bytes_eq x (codes "NSR03") then 3 else digit_of xs)

-- the identifier of the contents of a partition (3/10.5.5), padded with zeros
abbrev pub second_edition : List ℕ
second_edition = codes "+NSR02" ++ replicate 17 0

-- the digit of the volume structure descriptor that is written for a partition descriptor
unfoldable pub wanted_digit : List ℕ → ℕ
wanted_digit partition = if bytes_eq (take 23 (drop 25 partition)) second_edition then 2 else 3

-- the block of byte 32768, with the digits of the volume structure descriptor that is read and of that which is written
unfoldable pub recognition_findings : Recognition → List ℕ → List Finding
recognition_findings r partition =
    unless (recognition_holds r) (record {
      rule = 1;
      place = Sector (32768 / r.size);
      first = digit_of (identifiers r);
      second = wanted_digit partition;
    })
