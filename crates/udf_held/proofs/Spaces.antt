-- The room for FIDs in the content of an entry.
use Rattle.std.proofs.Common.{◌≡◌, ℕ, ◌+◌, ◌≤◌, List, [], ◌∷◌, length, Bool, true, false, not, cond, Some, None, sym, ap, ◌∙◌, arith}
use Rattle.std.specs.Prelude.{◌==◌, ◌%◌}
use Rattle.udf_file_model.specs.Cut.{to_part}
use Rattle.udf_file_model.specs.Descriptors.{Descriptor}
use Rattle.udf_file_model.specs.Entry.{Entry}
use Rattle.udf_file_model.specs.Pieces.{Piece, Extent, Blocks, runs_of, size_of}
use Rattle.udf_tree_model.specs.Frame.{capacity}

pub extent_to_part : (size : ℕ) (x : _) (rest : List Piece) → to_part size (Extent x ∷ rest) ≡ 0 + to_part size rest
unfolding to_part
extent_to_part size x rest = omega arith

pub blocks_to_part : (size n : ℕ) (d : Descriptor) (b : Bool) (rest : List Piece) → n ≡ d.length → b ≡ not (d.length % size == 0) → to_part size (Blocks d ∷ rest) ≡ cond b n (n + to_part size rest)
unfolding to_part
blocks_to_part size n d b rest k h =
    ap (λ (c : Bool). cond c d.length (d.length + to_part size rest)) (sym h) ∙ ap (λ (m : ℕ). cond b m (m + to_part size rest)) (sym k)

pub part_small : (size : ℕ) (ps : List Piece) → to_part size ps ≤ size_of ps
unfolding to_part runs_of
part_small size [] = omega arith
part_small size (Extent x ∷ rest) = part_small size rest
part_small size (Blocks d ∷ rest) = by (not (d.length % size == 0)) (part_small size rest)
  where
    by : (b : Bool) → to_part size rest ≤ size_of rest → cond b d.length (d.length + to_part size rest) ≤ d.length + size_of rest
    by true l = omega arith
    by false l = omega (arith, l)

pub embedded_capacity : (size n : ℕ) (e : Entry) (ps : List Piece) → Some n ≡ cond (e.kind == 3) (Some (length e.body)) None → n ≡ capacity size e ps
unfolding capacity
embedded_capacity size n e ps h = by (e.kind == 3) h
  where
    by : (b : Bool) → Some n ≡ cond b (Some (length e.body)) None → n ≡ cond b (length e.body) (to_part size ps)
    by true k = cc
    by false k = cc

pub listed_capacity : (size n : ℕ) (e : Entry) (ps : List Piece) → None ≡ cond (e.kind == 3) (Some (length e.body)) None → n ≡ to_part size ps → n ≡ capacity size e ps
unfolding capacity
listed_capacity size n e ps h k = by (e.kind == 3) h
  where
    by : (b : Bool) → None ≡ cond b (Some (length e.body)) None → n ≡ cond b (length e.body) (to_part size ps)
    by true l = cc
    by false l = k
