-- What the kept descriptors must state in this profile, a test for each of the refusals that concern it. Offsets are those
-- in the descriptor, from its tag's first byte.
use Rattle.std.specs.Prelude.{ℕ, Bool, not, ◌==◌, ◌&&◌, ◌||◌, ◌-◌, ◌%◌, ◌^◌, nat_le, List, ◌++◌, take, drop, replicate, codes}
use Rattle.std.specs.Str.{bytes_eq}
use Rattle.udf_volume_model.specs.Sequence.{Descriptor}
use Rattle.udf_volume_model.specs.Prevailing.{number_in}
use Rattle.udf_volume_model.specs.Kept.{has_id}
use Rattle.udf_volume_model.specs.Stated.{logical, partition, has_maps, is_built}

-- the block size (3/10.6.5), of the bytes of a logical volume descriptor, and of the one that prevails
abbrev pub states_block_size : ℕ → List ℕ → Bool
states_block_size size body = number_in 4 body 212 == size

unfoldable pub has_block_size : ℕ → List Descriptor → Bool
has_block_size size list = states_block_size size (logical list)

-- the identifier of the domain (UDF 2.1.5.2), padded with zeros
unfoldable pub domain_identifier : List ℕ
domain_identifier = codes "*OSTA UDF Compliant" ++ replicate 4 0

-- 3/10.6.6: the entity at 216, whose identifier comes after its flags
abbrev pub states_domain : List ℕ → Bool
states_domain body = bytes_eq (take 23 (drop (217 - 16) body)) domain_identifier

unfoldable pub has_domain : List Descriptor → Bool
has_domain list = states_domain (logical list)

-- the revision in the domain's suffix (UDF 2.1.5.3), 1.00 to 2.60
abbrev pub states_revision : List ℕ → Bool
states_revision body = nat_le 0x0100 (number_in 2 body 240) && nat_le (number_in 2 body 240) 0x0260

unfoldable pub has_revision : List Descriptor → Bool
has_revision list = states_revision (logical list)

-- a volume descriptor pointer (3/10.3) is among the descriptors
unfoldable pub has_pointer : List Descriptor → Bool
has_pointer list = has_id 3 list

-- 4/14.3: the allocation descriptor at an offset of the partition header has length 0
unfoldable pub is_absent : List ℕ → ℕ → Bool
is_absent body at = number_in 4 body at % 2 ^ 30 == 0

-- no space table, integrity table, freed space table or freed space bitmap (4/14.3.1, 4/14.3.3 to 4/14.3.5)
unfoldable pub names_no_tables : List ℕ → Bool
names_no_tables body = is_absent body 56 && (is_absent body 72 && (is_absent body 80 && is_absent body 88))

unfoldable pub has_no_tables : List Descriptor → Bool
has_no_tables list = names_no_tables (partition list)

-- the tests above all pass, and the maps are lawful and built
unfoldable pub is_profile : ℕ → List Descriptor → Bool
is_profile size list =
    has_block_size size list
    && (has_domain list
    && (has_revision list && (not (has_pointer list) && (has_maps list && (is_built list && has_no_tables list)))))

-- 3/10.5.7: overwritable, rewritable, or not said
unfoldable pub is_rewritable : ℕ → Bool
is_rewritable access = (access == 0) || ((access == 3) || (access == 4))
