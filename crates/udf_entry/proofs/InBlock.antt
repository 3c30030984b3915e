-- The readable entries of blocks.
use Rattle.std.proofs.Common.{◌≡◌, ℕ, List, Some, sym, ap}
use Rattle.udf_file_model.specs.Entry.{entry_of, entry_by, entry_in, entry_header}

-- the readable entry of a block
pub entry_is : (location header : ℕ) (block : List ℕ) → Some header ≡ entry_header location block → entry_of location block ≡ Some (entry_in header block)
unfolding entry_of
entry_is location header block e = ap (entry_by block) (sym e)
