-- The content of an entry: the bytes of its list, or its embedded ones (ECMA-167 4/12, 4/14.14.1.1).
use Rattle.std.specs.Prelude.{ℕ, zero, suc, ◌+◌, ◌==◌, min, if◌then◌else◌, Option, Some, None, List, [], ◌∷◌, ◌++◌, take, replicate}
use Rattle.udf_field.specs.declared.address.Addr.{Addr}
use Rattle.udf_file_model.specs.Address.{addr}
use Rattle.udf_file_model.specs.Entry.{Entry}
use Rattle.udf_file_model.specs.Descriptors.{Descriptor}
use Rattle.udf_file_model.specs.Front.{blocks_for}
use Rattle.udf_file_model.specs.Listing.{Volume}

abbrev pub block_by : (ℕ → List ℕ) → Option ℕ → List ℕ
block_by disk None = []
block_by disk (Some sector) = disk sector

-- the block at an address
abbrev pub block_at : Volume → Addr → List ℕ
block_at v a = block_by v.disk (v.place a)

-- n blocks one after another
unfoldable pub blocks_from : Volume → ℕ → ℕ → ℕ → List ℕ
blocks_from v part block zero = []
blocks_from v part block (suc n) = block_at v (addr part block) ++ blocks_from v part (block + 1) n

-- the bytes of a descriptor; a hole and blocks that are allocated but not recorded read as zeros
unfoldable pub run_bytes : Volume → Descriptor → List ℕ
run_bytes v d =
    if d.kind == 0 then take d.length (blocks_from v d.at.part d.at.block (blocks_for v.size d.length)) else replicate d.length 0

unfoldable pub runs_bytes : Volume → List Descriptor → List ℕ
runs_bytes v [] = []
runs_bytes v (d ∷ ds) = run_bytes v d ++ runs_bytes v ds

-- the content up to a limit, by the runs of its list: it ends at the information length
unfoldable pub content : Volume → Entry → List Descriptor → ℕ → List ℕ
content v e runs limit = take (min limit e.information) (if e.kind == 3 then e.body else runs_bytes v runs)

abbrev pub content_by : Volume → List Descriptor → ℕ → Option Entry → List ℕ
content_by v runs limit None = []
content_by v runs limit (Some e) = content v e runs limit
