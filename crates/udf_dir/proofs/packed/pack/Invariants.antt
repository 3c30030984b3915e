use Rattle.std.proofs.Common.{◌≡◌, ◌≤◌, ◌∷◌, length, take}
use Rattle.udf_file_model.specs.Pack.{packed, fids_at}
use Rattle.udf_dir.proofs.packed.pack.Given as goal

-- so many FIDs are packed, and they fit
abbrev pub invariant-loop-offset : goal.invariant-loop-offset
invariant-loop-offset l = record {
  counted : l.taken ≡ l.offset-index;
  bytes : l.bytes.items ≡ packed (l.parent ∷ take l.offset-index (fids_at l.content l.at));
  fits : length l.bytes.items ≤ l.limit;
}
