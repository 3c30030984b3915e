-- A list cut to its first bytes, and what of an entry and its allocation extents has that list.
use Rattle.std.specs.Prelude.{◌≡◌, ◌⊎◌, ℕ, zero, suc, false, ◌+◌, ◌-◌, ◌≤◌, ◌==◌, nat_lt, if◌then◌else◌, Option, Some, None, List, [], ◌∷◌}
use Rattle.std.specs.List.{list_any}
use Rattle.udf_field.specs.declared.address.Addr.{Addr}
use Rattle.udf_file_model.specs.Address.{same_addr}
use Rattle.udf_file_model.specs.Descriptors.{Descriptor}
use Rattle.udf_file_model.specs.Pieces.{Piece, Extent, Blocks, bytes_in}
use Rattle.udf_file_model.specs.Front.{Rules, Past, is_part}

-- the least number of descriptors whose sum reaches b, the last of them lowered
unfoldable pub cut_pieces : ℕ → List Piece → List Piece
cut_pieces b [] = []
cut_pieces b (Extent x ∷ rest) = if b == 0 then [] else Extent x ∷ cut_pieces b rest
cut_pieces b (Blocks d ∷ rest) =
    if b == 0 then [] else (if nat_lt d.length b then Blocks d ∷ cut_pieces (b - d.length) rest else Blocks (record d { length = b }) ∷ [])

-- the bytes up to the end of the first descriptor of part blocks
unfoldable pub to_part : ℕ → List Piece → ℕ
to_part size [] = 0
to_part size (Extent x ∷ rest) = to_part size rest
to_part size (Blocks d ∷ rest) = if is_part size d then d.length else d.length + to_part size rest

-- the same rules with another information length
abbrev pub with_information : Rules → ℕ → Rules
with_information r n = record { size = r.size; own = r.own; directory = r.directory; information = n; placed = r.placed }

-- a cut to b more bytes stays below the information length, or ends before part blocks do
abbrev pub HasRoom : Rules → Past → ℕ → List Piece → Type 0
HasRoom r past b xs = (bytes_in past.runs + b ≤ r.information) ⊎ ((list_any (is_part r.size) past.runs ≡ false) × (b ≤ to_part r.size xs))

-- the descriptors of a body cut to b bytes; one that goes on elsewhere before that stays
unfoldable pub trim : ℕ → List Descriptor → List Descriptor
trim b [] = []
trim b (d ∷ ds) =
    if d.kind == 3 then d ∷ ds else (if nat_lt d.length b then d ∷ trim (b - d.length) ds else record d { length = b } ∷ [])

-- the allocation extent in which a cut goes on, and what is left of it there
pub record Onward : Type 0 where
  pub next : Addr
  pub left : ℕ

unfoldable pub onward : ℕ → List Descriptor → Option Onward
onward b [] = None
onward b (d ∷ ds) =
    if d.kind == 3 then Some (record { next = d.at; left = b }) else (if nat_lt d.length b then onward (b - d.length) ds else None)

unfoldable pub left_on : Addr → Option Onward → (Onward → Option ℕ) → Option ℕ
left_on y None f = None
left_on y (Some o) f = if same_addr y o.next then Some o.left else f o

-- how many bytes a cut of a body to b bytes leaves of what the allocation extent at an address has, where it reaches that
unfoldable pub left_in : (Addr → List Descriptor) → ℕ → ℕ → List Descriptor → Addr → Option ℕ
left_in at zero b ds y = None
left_in at (suc n) b ds y = left_on y (onward b ds) (λ o. left_in at n o.left (at o.next) y)
