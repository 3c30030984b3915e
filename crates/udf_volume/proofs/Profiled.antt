-- The tests of the profile, by the prevailing logical volume descriptor and the partition descriptor.
use Rattle.std.proofs.Common.{◌≡◌, ◌≢◌, ℕ, ◌≤◌, arith, refl, sym, ◌∙◌, ap, List, [], Bool, true, false, not, cond, ◌&&◌, Option, Some, None, eqb}
use Rattle.std.specs.Prelude.{is_some}
use Rattle.std.proofs.lemmas.Bool.{ne_eqb}
use Rattle.udf_model.specs.Bytes as bytes
use Rattle.udf_volume_model.specs.Sequence.{Descriptor}
use Rattle.udf_volume_model.specs.Prevailing.{prevailing}
use Rattle.udf_volume_model.specs.Maps.{shape_of}
use Rattle.udf_volume_model.specs.Stated.{body_of, logical, partition, partition_number, mapped_partition, is_lawful_shape, has_maps, is_built_shape, is_built}
use Rattle.udf_volume_model.specs.Profile.{states_block_size, states_domain, states_revision, has_block_size, domain_identifier, has_domain, has_revision, has_pointer, has_no_tables, names_no_tables}
use Rattle.udf_volume.specs.declared.profile.TheConstants.{DOMAIN_IDENTIFIER}
use Rattle.udf_layer.specs.declared.missing.ProfileItem.TheVariants as item
use Rattle.udf_volume.specs.Opened.{unlike_maps, unlike_profile}

pub domain_is : DOMAIN_IDENTIFIER ≡ domain_identifier
unfolding domain_identifier
domain_is = refl

module _ (list : List Descriptor) where
  pub logical_none : None ≡ prevailing 6 [] list → logical list ≡ []
  unfolding logical
  logical_none e = ap body_of (sym e)

  pub logical_some : (d : Descriptor) → Some d ≡ prevailing 6 [] list → logical list ≡ d.body
  unfolding logical
  logical_some d e = ap body_of (sym e)

  pub no_block_size : (size : ℕ) → 512 ≤ size → None ≡ prevailing 6 [] list → false ≡ has_block_size size list
  unfolding has_block_size bytes.number_at
  no_block_size size large e =
      sym (ap (λ (l : List ℕ). eqb (bytes.number_at 4 l 196) size) (logical_none e) ∙ ne_eqb 0 size (let other : 0 ≢ size = λ z. absurd (omega (arith, large, z)) in other))

  mapped : (d : Descriptor) (found : Option Descriptor) → Some d ≡ prevailing 6 [] list → found ≡ prevailing 5 (partition_number d.body) list
      → mapped_partition list ≡ found
  mapped d found e f = ap (λ l. prevailing 5 (partition_number l) list) (logical_some d e) ∙ sym f

  pub maps_by : (maps built : Bool) → has_maps list ≡ maps → is_built list ≡ built
      → unlike_maps list ≡ cond (not maps) (Some item.PartitionMaps) (cond (not built) (Some item.Unbuilt) (cond (not (has_no_tables list)) (Some item.SpaceTables) None))
  unfolding unlike_maps
  maps_by maps built e f =
      ap (λ b. cond (not b) (Some item.PartitionMaps) (cond (not (is_built list)) (Some item.Unbuilt) (cond (not (has_no_tables list)) (Some item.SpaceTables) None))) e
      ∙ ap (λ b. cond (not maps) (Some item.PartitionMaps) (cond (not b) (Some item.Unbuilt) (cond (not (has_no_tables list)) (Some item.SpaceTables) None))) f

  -- what the maps are, by the prevailing logical volume descriptor and the partition descriptor that they name
  module _ (d : Descriptor) (is : Some d ≡ prevailing 6 [] list) where
    pub maps_as : (found : Option Descriptor) (lawful : Bool) → lawful ≡ is_lawful_shape (shape_of d.body)
        → found ≡ prevailing 5 (partition_number d.body) list → has_maps list ≡ (lawful && is_some found)
    unfolding has_maps
    maps_as found lawful e f =
        ap (λ (l : List ℕ). is_lawful_shape (shape_of l) && is_some (mapped_partition list)) (logical_some d is)
        ∙ ap (λ b. b && is_some (mapped_partition list)) (sym e)
        ∙ ap (λ (o : Option Descriptor). lawful && is_some o) (mapped d found is f)

    pub built_as : (built : Bool) → built ≡ is_built_shape (shape_of d.body) → is_built list ≡ built
    unfolding is_built
    built_as built e = ap (λ (l : List ℕ). is_built_shape (shape_of l)) (logical_some d is) ∙ sym e

    pub other_shape : false ≡ is_lawful_shape (shape_of d.body) → Some item.PartitionMaps ≡ unlike_maps list
    other_shape e = sym (maps_by false (is_built list) (maps_as (prevailing 5 (partition_number d.body) list) false e refl) refl)

    pub not_described : true ≡ is_lawful_shape (shape_of d.body) → None ≡ prevailing 5 (partition_number d.body) list → Some item.PartitionMaps ≡ unlike_maps list
    not_described e f = sym (maps_by false (is_built list) (maps_as None true e f) refl)

    module _ (p : Descriptor) (lawful : true ≡ is_lawful_shape (shape_of d.body)) (there : Some p ≡ prevailing 5 (partition_number d.body) list) where
      has : has_maps list ≡ true
      has = maps_as (Some p) true lawful there

      pub unbuilt : false ≡ is_built_shape (shape_of d.body) → Some item.Unbuilt ≡ unlike_maps list
      unbuilt e = sym (maps_by true false has (built_as false e))

      tables_as : true ≡ is_built_shape (shape_of d.body) → unlike_maps list ≡ cond (not (names_no_tables p.body)) (Some item.SpaceTables) None
      unfolding has_no_tables partition
      tables_as e =
          maps_by true true has (built_as true e)
          ∙ ap (λ (l : List ℕ). cond (not (names_no_tables l)) (Some item.SpaceTables) None) (ap body_of (mapped d (Some p) is there))

      pub with_tables : true ≡ is_built_shape (shape_of d.body) → false ≡ names_no_tables p.body → Some item.SpaceTables ≡ unlike_maps list
      with_tables e no_tables = sym (tables_as e ∙ ap (λ b. cond (not b) (Some item.SpaceTables) None) (sym no_tables))

      pub without_tables : true ≡ is_built_shape (shape_of d.body) → true ≡ names_no_tables p.body → None ≡ unlike_maps list
      without_tables e no_tables = sym (tables_as e ∙ ap (λ b. cond (not b) (Some item.SpaceTables) None) (sym no_tables))

  -- the tests in their order, by the prevailing logical volume descriptor
  module _ (size : ℕ) (d : Descriptor) (is : Some d ≡ prevailing 6 [] list) where
    by_tests : unlike_profile size list ≡ cond (not (states_block_size size d.body)) (Some item.BlockSize)
        (cond (not (states_domain d.body)) (Some item.Domain) (cond (not (states_revision d.body)) (Some item.Revision)
        (cond (has_pointer list) (Some item.VolumePointer) (unlike_maps list))))
    unfolding unlike_profile has_block_size has_domain has_revision
    by_tests = ap (λ (l : List ℕ). cond (not (states_block_size size l)) (Some item.BlockSize)
        (cond (not (states_domain l)) (Some item.Domain) (cond (not (states_revision l)) (Some item.Revision)
        (cond (has_pointer list) (Some item.VolumePointer) (unlike_maps list))))) (logical_some d is)

    after : (sized domain revision pointer : Bool) → sized ≡ states_block_size size d.body → domain ≡ states_domain d.body
        → revision ≡ states_revision d.body → pointer ≡ has_pointer list
        → cond (not sized) (Some item.BlockSize) (cond (not domain) (Some item.Domain) (cond (not revision) (Some item.Revision)
        (cond pointer (Some item.VolumePointer) (unlike_maps list)))) ≡ unlike_profile size list
    after sized domain revision pointer e f g h = rw (e, f, g, h) (sym by_tests)

    pub other_block_size : false ≡ states_block_size size d.body → Some item.BlockSize ≡ unlike_profile size list
    other_block_size e = after false _ _ _ e refl refl refl

    pub other_domain : true ≡ states_block_size size d.body → false ≡ states_domain d.body → Some item.Domain ≡ unlike_profile size list
    other_domain e f = after true false _ _ e f refl refl

    pub other_revision : true ≡ states_block_size size d.body → true ≡ states_domain d.body → false ≡ states_revision d.body
        → Some item.Revision ≡ unlike_profile size list
    other_revision e f g = after true true false _ e f g refl

    pub pointed : true ≡ states_block_size size d.body → true ≡ states_domain d.body → true ≡ states_revision d.body → true ≡ has_pointer list
        → Some item.VolumePointer ≡ unlike_profile size list
    pointed e f g h = after true true true true e f g h

    pub by_maps : true ≡ states_block_size size d.body → true ≡ states_domain d.body → true ≡ states_revision d.body → false ≡ has_pointer list
        → unlike_maps list ≡ unlike_profile size list
    by_maps e f g h = after true true true false e f g h
