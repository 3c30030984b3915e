-- A content spread over the blocks of a list, each block with its address.
use Rattle.std.specs.Prelude.{ℕ, zero, suc, ◌+◌, List, [], ◌∷◌, ◌++◌, take, drop}
use Rattle.udf_field.specs.declared.address.Addr.{Addr}
use Rattle.udf_model.specs.Bytes.{written_at}
use Rattle.udf_file_model.specs.Address.{addr}
use Rattle.udf_file_model.specs.Content.{block_at}
use Rattle.udf_file_model.specs.Descriptors.{Descriptor}
use Rattle.udf_file_model.specs.Front.{blocks_for}
use Rattle.udf_file_model.specs.Listing.{Volume}

-- a block, and the address at which it is to stand
abbrev pub Sited : Type 0
Sited = Addr × List ℕ

-- bytes over n blocks of a partition from one on; what follows them in the last block stays
unfoldable pub spread_from : Volume → ℕ → ℕ → ℕ → List ℕ → List Sited
spread_from v part block zero bytes = []
spread_from v part block (suc n) bytes =
    (addr part block, written_at 0 (take v.size bytes) (block_at v (addr part block))) ∷ spread_from v part (block + 1) n (drop v.size bytes)

-- a content over the blocks of descriptors, in their order
unfoldable pub spread : Volume → List Descriptor → List ℕ → List Sited
spread v [] content = []
spread v (d ∷ ds) content =
    spread_from v d.at.part d.at.block (blocks_for v.size d.length) (take d.length content) ++ spread v ds (drop d.length content)
