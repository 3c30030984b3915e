-- The first FID that a scan takes.
use Rattle.std.specs.Prelude.{◌≡◌, ℕ, ◌+◌, ◌≤◌, List, [], ◌∷◌, length, drop, MatchOption, Option}
use Rattle.udf_file_model.specs.Scan.{Placed, fids_from}

-- of some bytes that stand at any offset the scan takes this FID first, so many bytes on, and goes on behind it
pub record TakesFirst (size : ℕ) (bytes : List ℕ) (first : Placed) : Type 0 where
  pub room : first.0 + length first.1 ≤ length bytes
  pub scanned : (at : ℕ) → fids_from size at 0 bytes
      ≡ (at + first.0, first.1) ∷ fids_from size (at + (first.0 + length first.1)) 0 (drop (first.0 + length first.1) bytes)

-- the first FID is found where there is one
abbrev pub IsFirst : ℕ → List ℕ → Option Placed → Type 0
IsFirst size bytes found = MatchOption found ((at : ℕ) → fids_from size at 0 bytes ≡ []) (TakesFirst size bytes)
