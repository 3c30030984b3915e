-- What a kept sequence states, and whole blocks.
use Rattle.std.proofs.Common.{◌≡◌, ℕ, ◌+◌, ◌*◌, ◌/◌, ◌%◌, ◌≤◌, ◌<◌, arith, refl, sym, ◌∙◌, ap, subst, length, ltb, Result, Ok, Err, List, [], Bool, true, false, not, cond, ◌&&◌, Option, Some, None}
use Rattle.std.proofs.lemmas.Nat.{div-add-mod'}
use Rattle.std.proofs.lemmas.Bool.{lt-ltb, le-ltb}
use Rattle.udf_model.specs.Image.{block_of}
use Rattle.udf_volume_model.specs.Anchor.{places}
use Rattle.udf_volume_model.specs.Kept.{has_anchor, kept_sequence_in, kept_sequence_of}
use Rattle.udf_layer.specs.declared.missing.Missing.{Missing}
use Rattle.udf_layer.specs.declared.missing.Missing.TheVariants as missing
use Rattle.udf_volume.specs.declared.kept.AnchorSearch.{AnchorSearch}
use Rattle.udf_volume.specs.declared.kept.AnchorSearch.TheVariants.{Nothing, Unled, Kept}
use Rattle.udf_volume.specs.Led.{Finds, led_seen}
use Rattle.udf_volume.specs.Laid.{is_laid}
use Rattle.udf_volume.proofs.LaidOut.{laid_is}
use Rattle.udf_volume_model.specs.Profile.{has_block_size, has_domain, has_revision, has_pointer, has_no_tables}
use Rattle.udf_volume.specs.Refusals.{IsDescribed}
use Rattle.udf_volume_model.specs.Layout.{is_lawful}
use Rattle.udf_layer.specs.declared.missing.ProfileItem.{ProfileItem}
use Rattle.udf_layer.specs.declared.missing.ProfileItem.TheVariants as item
use Rattle.udf_volume_model.specs.Sequence.{Descriptor}
use Rattle.udf_volume_model.specs.Prevailing.{prevailing}
use Rattle.udf_volume_model.specs.Kept as model
use Rattle.udf_volume_model.specs.Maps.{shape_of}
use Rattle.udf_volume_model.specs.Stated.{body_of, partition_number, mapped_partition, is_lawful_shape, has_maps, is_built_shape, is_built, logical, partition}
use Rattle.udf_volume.proofs.Profiled.{maps_as, built_as, maps_by}
use Rattle.udf_volume.specs.declared.volume.Volume.{Volume}
use Rattle.udf_volume.specs.declared.volume.Which.{Which}
use Rattle.udf_volume.specs.declared.volume.Which.TheVariants as which
use Rattle.udf_volume.specs.Seen.{which_seen}
use Rattle.udf_volume.specs.Opened.{volume_by, which_of, stated_in, by_profile, by_refusal, unlike_profile, unlike_maps, refusal_of, accepted, by_volume, described as described_in}

pub whole_blocks : (bytes size whole : ℕ) → whole ≡ bytes / size → whole * size ≤ bytes
whole_blocks bytes size whole is = let e : bytes / size * size + bytes % size ≡ bytes = div-add-mod' bytes size in rw is (omega arith)

module _ (size blocks : ℕ) (volume : model.KeptSequence) where
  stated_by : (maps built : Bool) → has_maps volume.list ≡ maps → is_built volume.list ≡ built
      → stated_in size blocks volume ≡ cond (maps && built) (Some (volume_by size blocks volume (logical volume.list) (partition volume.list))) None
  unfolding stated_in
  stated_by maps built e f =
      ap (λ b. cond (b && is_built volume.list) (Some (volume_by size blocks volume (logical volume.list) (partition volume.list))) None) e
      ∙ ap (λ b. cond (maps && b) (Some (volume_by size blocks volume (logical volume.list) (partition volume.list))) None) f

  logical_is : (found : Option Descriptor) → found ≡ prevailing 6 [] volume.list → logical volume.list ≡ body_of found
  unfolding logical
  logical_is found e = ap body_of (sym e)

  mapped : (d : Descriptor) (found : Option Descriptor) → Some d ≡ prevailing 6 [] volume.list → found ≡ prevailing 5 (partition_number d.body) volume.list
      → mapped_partition volume.list ≡ found
  mapped d found e f = ap (λ l. prevailing 5 (partition_number l) volume.list) (logical_is (Some d) e) ∙ sym f

  never_built : (maps : Bool) → maps && false ≡ false
  never_built true = refl
  never_built false = refl

  pub no_shape : (d : Descriptor) → Some d ≡ prevailing 6 [] volume.list → false ≡ is_lawful_shape (shape_of d.body) → None ≡ stated_in size blocks volume
  no_shape d e f = sym (stated_by false (is_built volume.list) (maps_as volume.list d e (prevailing 5 (partition_number d.body) volume.list) false f refl) refl)

  pub not_built : (d : Descriptor) → Some d ≡ prevailing 6 [] volume.list → false ≡ is_built_shape (shape_of d.body) → None ≡ stated_in size blocks volume
  not_built d e f =
      sym (stated_by (has_maps volume.list) false refl (built_as volume.list d e false f)
      ∙ ap (λ b. cond b (Some (volume_by size blocks volume (logical volume.list) (partition volume.list))) None) (never_built (has_maps volume.list)))

  pub not_described : (d : Descriptor) → Some d ≡ prevailing 6 [] volume.list → true ≡ is_lawful_shape (shape_of d.body)
      → None ≡ prevailing 5 (partition_number d.body) volume.list → None ≡ stated_in size blocks volume
  not_described d e lawful f = sym (stated_by false (is_built volume.list) (maps_as volume.list d e None true lawful f) refl)

  pub described : (d p : Descriptor) (answer : Volume) → Some d ≡ prevailing 6 [] volume.list → true ≡ is_lawful_shape (shape_of d.body)
      → true ≡ is_built_shape (shape_of d.body) → Some p ≡ prevailing 5 (partition_number d.body) volume.list
      → answer ≡ volume_by size blocks volume d.body p.body → Some answer ≡ stated_in size blocks volume
  unfolding partition
  described d p answer e lawful built f is =
      ap Some (is
      ∙ ap (λ l. volume_by size blocks volume l p.body) (sym (logical_is (Some d) e))
      ∙ ap (λ b. volume_by size blocks volume (logical volume.list) b) (sym (ap body_of (mapped d (Some p) e f))))
      ∙ sym (stated_by true true (maps_as volume.list d e (Some p) true lawful f) (built_as volume.list d e true built))

pub which_back : (w : Which) → w ≡ which_of (which_seen w)
which_back which.Main = refl
which_back which.Reserve = refl

-- what is answered for what the places hold
abbrev pub answer_of : ℕ → ℕ → (ℕ → List ℕ) → AnchorSearch → Result Volume Missing
answer_of size blocks disk Nothing = Err missing.Anchor
answer_of size blocks disk Unled = Err missing.Sequence
answer_of size blocks disk (Kept led) = accepted size blocks disk (led_seen led)

by_finds : (size blocks : ℕ) (disk : ℕ → List ℕ) (volume : Option model.KeptSequence) (any : Bool) (found : AnchorSearch) → Finds volume any found
    → by_volume size blocks disk any volume ≡ answer_of size blocks disk found
by_finds size blocks disk volume any Nothing (v, a) =
    ap (by_volume size blocks disk any) v ∙ ap (λ (b : Bool). cond b (Err missing.Sequence) (Err missing.Anchor)) a
by_finds size blocks disk volume any Unled (v, a) =
    ap (by_volume size blocks disk any) v ∙ ap (λ (b : Bool). cond b (Err missing.Sequence) (Err missing.Anchor)) a
by_finds size blocks disk volume any (Kept led) v = ap (by_volume size blocks disk any) v

module _ (size n : ℕ) (image : List ℕ) (is : n ≡ length image) where
  pub too_large : 4294967295 < n / size → described_in size image ≡ Err missing.TooLarge
  unfolding described_in
  too_large h =
      let many : ltb 4294967295 (length image / size) ≡ true = lt-ltb _ _ (let P : ℕ → Type 0 = λ k. 4294967295 < k / size in subst P is h) in
      ap (λ (b : Bool). cond b (Err missing.TooLarge)
      (by_volume size (length image / size) (block_of size image) (has_anchor size (length image / size) (block_of size image) (places (length image / size)))
      (kept_sequence_of size image))) many

  pub opened_as : (list : List ℕ) (found : AnchorSearch) → n / size ≤ 4294967295 → list ≡ places (n / size)
      → Finds (kept_sequence_in size (n / size) (block_of size image) list) (has_anchor size (n / size) (block_of size image) list) found
      → described_in size image ≡ answer_of size (n / size) (block_of size image) found
  unfolding described_in kept_sequence_of
  opened_as list found h at f =
      let few : ltb 4294967295 (length image / size) ≡ false = le-ltb _ _ (let P : ℕ → Type 0 = λ k. k / size ≤ 4294967295 in subst P is h) in
      let expected : ℕ → Result Volume Missing = λ k. by_volume size (k / size) (block_of size image)
      (has_anchor size (k / size) (block_of size image) (places (k / size)))
      (kept_sequence_in size (k / size) (block_of size image) (places (k / size))) in
      ap (λ (b : Bool). cond b (Err missing.TooLarge) (expected (length image))) few
      ∙ ap expected (sym is)
      ∙ ap (λ l. by_volume size (n / size) (block_of size image) (has_anchor size (n / size) (block_of size image) l) (kept_sequence_in size (n / size) (block_of size image) l)) (sym at)
      ∙ by_finds size (n / size) (block_of size image) _ _ found f

-- a list that is like the profile has lawful maps that are built
built_by : (list : List Descriptor) (maps built : Bool) → has_maps list ≡ maps → is_built list ≡ built → unlike_maps list ≡ None
    → (has_maps list ≡ true) × (is_built list ≡ true)
built_by list true true e f none = (e, f)
built_by list true false e f none = absurd (let some : Some item.Unbuilt ≡ None = sym (maps_by list true false e f) ∙ none in cc)
built_by list false built e f none = absurd (let some : Some item.PartitionMaps ≡ None = sym (maps_by list false built e f) ∙ none in cc)

maps_of : (list : List Descriptor) (a b c d : Bool) (rest : Option ProfileItem)
    → cond (not a) (Some item.BlockSize) (cond (not b) (Some item.Domain) (cond (not c) (Some item.Revision) (cond d (Some item.VolumePointer) rest))) ≡ None
    → rest ≡ None
maps_of list false b c d rest e = absurd (let some : Some item.BlockSize ≡ None = e in cc)
maps_of list true false c d rest e = absurd (let some : Some item.Domain ≡ None = e in cc)
maps_of list true true false d rest e = absurd (let some : Some item.Revision ≡ None = e in cc)
maps_of list true true true true rest e = absurd (let some : Some item.VolumePointer ≡ None = e in cc)
maps_of list true true true false rest e = e

pub like_is_built : (size : ℕ) (list : List Descriptor) → unlike_profile size list ≡ None → (has_maps list ≡ true) × (is_built list ≡ true)
unfolding unlike_profile
like_is_built size list e =
    built_by list (has_maps list) (is_built list) refl refl
    (maps_of list (has_block_size size list) (has_domain list) (has_revision list) (has_pointer list) (unlike_maps list) e)

of_item : (item one : ProfileItem) → Some one ≡ Some item → IsDescribed item → IsDescribed one
of_item item one is e = let same : one ≡ item = cc in let P : ProfileItem → Type 0 = λ i. IsDescribed i in subst P (sym same) e

-- what is asked is of the description
is_described : (a b c d e f g : Bool) (one : ProfileItem) → Some one ≡ cond (not a) (Some item.BlockSize) (cond (not b) (Some item.Domain) (cond (not c) (Some item.Revision)
    (cond d (Some item.VolumePointer) (cond (not e) (Some item.PartitionMaps) (cond (not f) (Some item.Unbuilt) (cond (not g) (Some item.SpaceTables) None))))))
    → IsDescribed one
is_described false b c d e f g one is = of_item item.BlockSize one is tt
is_described true false c d e f g one is = of_item item.Domain one is tt
is_described true true false d e f g one is = of_item item.Revision one is tt
is_described true true true true e f g one is = of_item item.VolumePointer one is tt
is_described true true true false false f g one is = of_item item.PartitionMaps one is tt
is_described true true true false true false g one is = of_item item.Unbuilt one is tt
is_described true true true false true true false one is = of_item item.SpaceTables one is tt
is_described true true true false true true true one is = absurd (let none : Some one ≡ None = is in cc)

pub asks_described : (size : ℕ) (list : List Descriptor) (one : ProfileItem) → Some one ≡ unlike_profile size list → IsDescribed one
unfolding unlike_profile unlike_maps
asks_described size list one e =
    is_described (has_block_size size list) (has_domain list) (has_revision list) (has_pointer list) (has_maps list) (is_built list) (has_no_tables list) one e

module _ (size blocks : ℕ) (disk : ℕ → List ℕ) (v : model.KeptSequence) where
  abbrev fields : Volume
  fields = volume_by size blocks v (logical v.list) (partition v.list)

  pub unlike : (item : ProfileItem) → Some item ≡ unlike_profile size v.list → accepted size blocks disk v ≡ Err (missing.Profile item)
  unfolding accepted refusal_of
  unlike item e = ap (λ p. by_refusal (by_profile p (is_lawful size blocks disk v)) fields) (sym e)

  stated_as : unlike_profile size v.list ≡ None → stated_in size blocks v ≡ Some fields
  stated_as e = let like = like_is_built size v.list e in stated_by size blocks v true true like.0 like.1

  -- the maps are built, so that something is stated
  pub unstated : None ≡ unlike_profile size v.list → None ≡ stated_in size blocks v → accepted size blocks disk v ≡ Err (missing.Profile item.Unbuilt)
  unstated e none = absurd (let some : None ≡ Some fields = none ∙ stated_as (sym e) in cc)

  volume_is : (volume : Volume) → None ≡ unlike_profile size v.list → Some volume ≡ stated_in size blocks v → volume ≡ fields
  volume_is volume e is = let same : Some volume ≡ Some fields = is ∙ stated_as (sym e) in cc

  -- the maps of a volume that is stated are built
  pub are_built : unlike_profile size v.list ≡ None → is_built v.list ≡ true
  are_built e = (like_is_built size v.list e).1

  by_layout : None ≡ unlike_profile size v.list → accepted size blocks disk v ≡ by_refusal (by_profile None (is_lawful size blocks disk v)) fields
  unfolding accepted refusal_of
  by_layout e = ap (λ p. by_refusal (by_profile p (is_lawful size blocks disk v)) fields) (sym e)

  laid_as : (volume : Volume) (laid : Bool) → None ≡ unlike_profile size v.list → Some volume ≡ stated_in size blocks v → laid ≡ is_laid volume disk
      → accepted size blocks disk v ≡ by_refusal (by_profile None laid) fields
  laid_as volume laid e is f =
      by_layout e ∙ ap (λ b. by_refusal (by_profile None b) fields)
      (sym (laid_is size blocks v (are_built (sym e)) disk) ∙ ap (λ x. is_laid x disk) (sym (volume_is volume e is)) ∙ sym f)

  pub unlaid : (volume : Volume) → None ≡ unlike_profile size v.list → Some volume ≡ stated_in size blocks v → false ≡ is_laid volume disk
      → accepted size blocks disk v ≡ Err missing.Layout
  unlaid volume e is laid = laid_as volume false e is laid

  pub accepted_by : (volume : Volume) → None ≡ unlike_profile size v.list → Some volume ≡ stated_in size blocks v → true ≡ is_laid volume disk
      → accepted size blocks disk v ≡ Ok volume
  accepted_by volume e is laid = laid_as volume true e is laid ∙ ap Ok (sym (volume_is volume e is))
