-- Where the files of an opened volume stand.
use Rattle.std.proofs.Common.{◌≡◌, ◌<◌, ◌≤◌, ◌*◌, ◌/◌, ℕ, Bool, true, false, not, cond, ◌&&◌, List, Option, Some, None, refl, sym, ap, ◌∙◌, subst, arith}
use Rattle.std.proofs.Math.Path.{fun_ext}
use Rattle.std.specs.Prelude.{is_some}
use Rattle.std.proofs.lemmas.Bool.{and_parts}
use Rattle.udf_field.specs.declared.address.Addr.{Addr}
use Rattle.udf_model.specs.Image.{block_of}
use Rattle.udf_model.specs.Tag.{id_at}
use Rattle.udf_file_model.specs.Address.{Places, lone_places}
use Rattle.udf_file_model.specs.Listing.{Volume as Listed, is_placed}
use Rattle.udf_file_model.specs.Place.{Place}
use Rattle.udf_volume_model.specs.Areas.{table_or_none}
use Rattle.udf_volume_model.specs.Areas as model
use Rattle.udf_volume_model.specs.Layout.{are_packets_of}
use Rattle.udf_volume_model.specs.SparingTable.{Table}
use Rattle.udf_volume.specs.Areas.{areas_stated, partition_stated, table_used}
use Rattle.std.specs.Prelude.{Result}
use Rattle.udf_outside.specs.Sectors.{disk_of}
use Rattle.udf_outside.specs.Stops.{Held, bytes_of}
use Rattle.udf_outside.specs.declared.bench.Role.TheVariants.{Image}
use Rattle.udf_layer.specs.StandsAt.{none_inner}
use Rattle.udf_layer.specs.declared.missing.LayerStop.{LayerStop}
use Rattle.udf_volume.specs.FileSet.{FindsFileSet, IsFileSet, site_of}
use Rattle.udf_volume.specs.Taken.{IsOpenedOf, IsTaken}
use Rattle.udf_volume.specs.declared.opened.Opened.{Opened}
use Rattle.udf_volume.specs.declared.site.FileSet.{FileSet}
use Rattle.udf_volume.specs.declared.volume.Volume.{Volume}
use Rattle.udf_tree_model.specs.Frame.{Frame}
use Rattle.udf_found.specs.Beyond.{HoldsFileSet}
use Rattle.udf_kept.specs.Entries.{HasFileSet}
use Rattle.udf_rules_model.specs.Files.{files_in, frame_in, places_of, site_in}
use Rattle.udf_rules_model.specs.Places.{place_by}
use Rattle.std.specs.Prelude.{nat_lt, ◌==◌}
use Rattle.std.proofs.Math.Nat.{le-div_iff_mul-le}
use Rattle.std.proofs.lemmas.Bool.{lt-ltb}
use Rattle.udf_file_model.specs.Place.{physical_place}
use Rattle.udf_model.specs.Tag.{is_id}
use Rattle.udf_layer.specs.Lone.{lone_is}
use Rattle.udf_layer.specs.Spared.{sparable_within}
use Rattle.udf_partitions.proofs.Placing.{partition_inside}
use Rattle.udf_tree_model.specs.Frame.{is_address}
use Rattle.udf_tree_model.specs.Stated.{IsFileSetPlaced}
use Rattle.udf_volume.specs.Laid.{IsLaidOut}
use Rattle.udf_volume_model.specs.FileSet as set
use Rattle.udf_volume_model.specs.FileSet.{Site, first_block, has_file_set, id_by, id_of, is_clear, names_further}

-- the partitions of an opened volume place what the image does
pub same_places : (image : List ℕ) (opened : Opened) (place : Places) → IsOpenedOf image opened
    → ((a : Addr) → place a ≡ lone_places 0 (place_by (partition_stated opened.volume) (table_or_none opened.layout.table)) a) → place ≡ places_of opened.volume image
unfolding places_of
same_places image opened place is h =
    fun_ext h ∙ ap (λ (t : Table). lone_places 0 (place_by (partition_stated opened.volume) t)) (ap (λ (l : model.Layout). l.table) is.layout)

-- the packets of its sparing table are lawful
pub lawful_packets : (opened : Opened) → IsTaken opened.volume opened.layout
    → are_packets_of opened.volume.blocks opened.volume.anchor (record { areas = areas_stated opened.volume; table = table_or_none opened.layout.table }) ≡ true
lawful_packets opened taken =
    subst (λ (areas : List model.Area). are_packets_of opened.volume.blocks opened.volume.anchor (record { areas = areas; table = table_or_none opened.layout.table }) ≡ true)
    taken.areas taken.packets

-- the frame of a volume's files is that of its file set
pub has_set : (volume : Volume) (image : List ℕ) (set : FileSet) → IsFileSet (site_in volume image) set → HasFileSet (frame_in volume image) set
unfolding frame_in site_in
has_set volume image set is = record {
  file_set = sym is.at;
  root = sym is.root;
  system = sym is.system;
  after_is = sym is.fixed.after_is;
  fixed_are = λ a. sym (is.fixed.fixed_are a);
}

pub holds_set : (volume : Volume) (image : List ℕ) (set : FileSet) → IsFileSet (site_in volume image) set → HoldsFileSet (frame_in volume image) (files_in volume image)
unfolding frame_in site_in
holds_set volume image set is = record { whole = λ sector e. is.whole sector e }

-- a placed address is one
is_one : (volume : Volume) (image : List ℕ) (a : Addr) (s : ℕ) → volume.length < 4294967296 → places_of volume image a ≡ Some s → is_address a ≡ true
unfolding places_of
is_one volume image a s low e =
    let p = lone_is 0 (place_by (partition_stated volume) (table_used volume (block_of volume.size image))) a s e in
    let t = table_used volume (block_of volume.size image) in
    let n = sparable_within t.packet t.pairs volume.length (physical_place volume.start volume.length) a.block s p.1 in
    both (nat_lt a.part 65536) (nat_lt a.block 4294967296) (lt-ltb a.part 65536 (omega (arith, p.0))) (lt-ltb a.block 4294967296 (omega (arith, n, low)))
  where
    both : (b c : Bool) → b ≡ true → c ≡ true → (b && c) ≡ true
    both true true h k = refl
    both true false h k = absurd (cc)
    both false c h k = absurd (cc)

-- the file set of a volume that is not refused for it stands
set_stands : (volume : Volume) (image : List ℕ) → volume.length < 4294967296 → set.refusal (site_in volume image) ≡ None
    → (is_address volume.file_set.at ≡ true) × (is_placed (files_in volume image) volume.file_set.at ≡ true)
unfolding set.refusal has_file_set site_in id_of
set_stands volume image low none =
    by (places_of volume image volume.file_set.at) refl (headed none)
  where
    site : Site
    site = site_in volume image

    unrefused : (a b : Bool) → cond (a && b) (cond (names_further (first_block site)) (Some set.FileSets) None) (Some set.FileSet) ≡ None → b ≡ true
    unrefused true true e = refl
    unrefused true false e = absurd (cc)
    unrefused false b e = absurd (cc)

    headed : set.refusal site ≡ None → has_file_set site ≡ true
    headed e = unrefused (is_clear site) (has_file_set site) e

    by : (o : Option ℕ) → places_of volume image volume.file_set.at ≡ o → has_file_set site ≡ true
        → (is_address volume.file_set.at ≡ true) × (is_placed (files_in volume image) volume.file_set.at ≡ true)
    by None e h =
        let k = (and_parts (not (volume.file_set.length == 0)) _ h).1 in
        absurd (let never : false ≡ true = sym (ap (λ (o : Option ℕ). is_id 256 (id_by (block_of volume.size image) volume.file_set.at.block o)) e) ∙ k in cc)
    by (Some s) e h = (is_one volume image volume.file_set.at s low e, ap (λ (o : Option ℕ). is_some o) e)

pub set_placed : (volume : Volume) (image : List ℕ) → volume.length < 4294967296 → set.refusal (site_in volume image) ≡ None
    → IsFileSetPlaced (frame_in volume image) (files_in volume image)
unfolding frame_in
set_placed volume image low none = λ h. set_stands volume image low none

pub low_partition : (volume : Volume) → IsLaidOut volume → volume.blocks < 4294967296 → volume.length < 4294967296
low_partition volume laid few = let i = partition_inside volume laid in omega (arith, i, few)

-- a sector below the blocks of a volume is one of its image
pub inside_whole : (blocks size whole s : ℕ) → 512 ≤ size → blocks * size ≤ whole → s < blocks → s < whole / size
inside_whole blocks size whole s large within low =
    let h : blocks ≤ whole / size = (le-div_iff_mul-le (omega (arith, large))).1 within in
    omega (arith, h, low)

-- what is found of the file set in the partitions is what is found of it in the image
pub set_found : (image : List ℕ) (opened : Opened) (place : Places) (held : Held) (r : Result FileSet LayerStop) → IsOpenedOf image opened
    → ((a : Addr) → place a ≡ lone_places 0 (place_by (partition_stated opened.volume) (table_or_none opened.layout.table)) a) → bytes_of Image held ≡ image
    → FindsFileSet (site_of opened.volume (disk_of opened.volume.size held) place none_inner) r → FindsFileSet (site_in opened.volume image) r
unfolding site_in
set_found image opened place held r is h e found =
    subst (λ (p : Places). FindsFileSet (site_of opened.volume (block_of opened.volume.size image) p none_inner) r) (same_places image opened place is h)
    (subst (λ (l : List ℕ). FindsFileSet (site_of opened.volume (block_of opened.volume.size l) place none_inner) r) e found)
