-- The FIDs of contents of kept directories are whole, and so is the parent FID that a mend writes.
use Rattle.std.proofs.Common.{◌≡◌, ◌⊎◌, ℕ, zero, suc, ◌+◌, ◌-◌, ◌*◌, ◌/◌, ◌%◌, ◌<◌, ◌≤◌, List, [], ◌∷◌, ◌++◌, length, take, drop, get_or, replicate, Bool, true, false, cond, not, ◌&&◌, refl, sym, ap, ◌∙◌, subst, inl, inr, arith, lit<, Option, Some, None}
use Rattle.std.specs.Prelude.{◌==◌, min, slice_index}
use Rattle.std.specs.List.{AllByRecursion}
use Rattle.std.proofs.lemmas.List.{drop-drop}
use Rattle.byteorder.specs.Endian.{little_number}
use Rattle.udf_field.specs.declared.address.Addr.{Addr}
use Rattle.udf_model.specs.Bytes.{IsBytes, number_at, with_number}
use Rattle.udf_model.specs.Tag.{identifier, retagged, whole_id}
use Rattle.udf_model.proofs.Parts.{append_is_bytes, drop_is_bytes, take_is_bytes}
use Rattle.udf_model.proofs.Retagged.{retagged_body, retagged_identifier, retagged_is_bytes, retagged_length, retagged_whole}
use Rattle.udf_model.proofs.Written.{number_is_bytes, number_length, number_stays, one_byte}
use Rattle.udf_file_model.specs.Address.{addr}
use Rattle.udf_file_model.specs.Anew.{named_anew}
use Rattle.udf_file_model.specs.Content.{block_at, block_by, blocks_from, content, run_bytes, runs_bytes}
use Rattle.udf_file_model.specs.CutEntry.{AreBytes}
use Rattle.udf_file_model.specs.Descriptors.{Descriptor}
use Rattle.udf_file_model.specs.Entry.{Entry, body_of, entry_by as entry_read, entry_header, entry_in, entry_of, is_directory}
use Rattle.udf_file_model.specs.Fid.{IsFid, fid_at, fid_length, is_parent, target}
use Rattle.udf_file_model.specs.Front.{blocks_for}
use Rattle.udf_file_model.specs.Listing.{Volume, list_for}
use Rattle.udf_file_model.specs.Pieces.{runs_of}
use Rattle.udf_file_model.specs.Scan.{fids, fids_from, fids_of, taken}
use Rattle.udf_file_model.proofs.Anew.{named_is_fid, new_address, same_parent}
use Rattle.udf_file_model.proofs.Fids.{found_begins}
use Rattle.udf_file_model.proofs.Scanned.{all_fids}
use Rattle.udf_tree_model.specs.Among.{Member}
use Rattle.udf_tree_model.specs.Content.{content_by, fresh_parent, kept_content}
use Rattle.udf_tree_model.specs.Frame.{Frame, content_to, entry_at, entry_by, is_address}
use Rattle.udf_held.specs.declared.held.Held.{Held}
use Rattle.udf_dues.specs.Counts.{AreOfBytes}

-- ---- bytes
cons_is_bytes : (b : ℕ) (xs : List ℕ) → b < 256 → IsBytes xs → IsBytes (b ∷ xs)
cons_is_bytes b xs l h zero = l
cons_is_bytes b xs l h (suc i) = h i

no_bytes : IsBytes []
no_bytes i = lit< tt

zeros_are_bytes : (n : ℕ) → IsBytes (replicate n 0)
zeros_are_bytes zero = no_bytes
zeros_are_bytes (suc n) = cons_is_bytes 0 (replicate n 0) (omega arith) (zeros_are_bytes n)

abbrev AreSmall : List ℕ → Type 0
AreSmall [] = Unit {0}
AreSmall (x ∷ xs) = (x < 256) × AreSmall xs

small_then : (xs ys : List ℕ) → AreSmall xs → IsBytes ys → IsBytes (xs ++ ys)
small_then [] ys l h = h
small_then (x ∷ xs) ys l h = cons_is_bytes x (xs ++ ys) l.0 (small_then xs ys l.1 h)

body_is_bytes : (header : ℕ) (block : List ℕ) → IsBytes block → IsBytes (body_of header block)
unfolding body_of
body_is_bytes header block h = take_is_bytes _ _ (drop_is_bytes _ block h)

module _ (v : Volume) (bytes : AreBytes v.disk) where
  block_is_bytes : (a : Addr) → IsBytes (block_at v a)
  block_is_bytes a = by (v.place a)
    where
      by : (o : Option ℕ) → IsBytes (block_by v.disk o)
      by None = no_bytes
      by (Some sector) = bytes sector

  blocks_are_bytes : (part block n : ℕ) → IsBytes (blocks_from v part block n)
  unfolding blocks_from
  blocks_are_bytes part block zero = no_bytes
  blocks_are_bytes part block (suc n) = append_is_bytes (block_at v (addr part block)) (blocks_from v part (block + 1) n) (block_is_bytes (addr part block)) (blocks_are_bytes part (block + 1) n)

  run_is_bytes : (d : Descriptor) → IsBytes (run_bytes v d)
  unfolding run_bytes
  run_is_bytes d = by (d.kind == 0)
    where
      by : (b : Bool) → IsBytes (cond b (take d.length (blocks_from v d.at.part d.at.block (blocks_for v.size d.length))) (replicate d.length 0))
      by true = take_is_bytes d.length _ (blocks_are_bytes d.at.part d.at.block (blocks_for v.size d.length))
      by false = zeros_are_bytes d.length

  runs_are_bytes : (ds : List Descriptor) → IsBytes (runs_bytes v ds)
  unfolding runs_bytes
  runs_are_bytes [] = no_bytes
  runs_are_bytes (d ∷ ds) = append_is_bytes (run_bytes v d) (runs_bytes v ds) (run_is_bytes d) (runs_are_bytes ds)

  entry_is_bytes : (a : Addr) (e : Entry) → entry_at v a ≡ Some e → IsBytes e.body
  unfolding entry_at entry_of
  entry_is_bytes a e h = by (is_address a) (v.place a) h
    where
      read : (location : ℕ) (block : List ℕ) (o : Option ℕ) → IsBytes block → entry_read block o ≡ Some e → IsBytes e.body
      read location block None b k = cc
      read location block (Some header) b k = subst (λ (x : Entry). IsBytes x.body) (some_same (entry_in header block) e k) (body_is_bytes header block b)
        where
          some_same : (x y : Entry) → Some x ≡ Some y → x ≡ y
          some_same x y i = cc

      by : (b : Bool) (o : Option ℕ) → cond b (entry_by v a o) None ≡ Some e → IsBytes e.body
      by false o k = cc
      by true None k = cc
      by true (Some sector) k = read a.block (v.disk sector) (entry_header a.block (v.disk sector)) (bytes sector) k

  content_is_bytes : (e : Entry) (ds : List Descriptor) (limit : ℕ) → IsBytes e.body → IsBytes (content v e ds limit)
  unfolding content
  content_is_bytes e ds limit h = take_is_bytes (min limit e.information) _ (by (e.kind == 3))
    where
      by : (b : Bool) → IsBytes (cond b e.body (runs_bytes v ds))
      by true = h
      by false = runs_are_bytes ds

  kept_is_bytes : (f : Frame) (a : Addr) → IsBytes (kept_content f v a)
  unfolding kept_content content_to
  kept_is_bytes f a = by (entry_at v a) refl
    where
      read : (e : Entry) (limit : ℕ) → IsBytes e.body → (b : Bool) → IsBytes (cond b (content v e (runs_of (list_for v a e)) limit) [])
      read e limit h true = content_is_bytes e (runs_of (list_for v a e)) limit h
      read e limit h false = no_bytes

      by : (o : Option Entry) → entry_at v a ≡ o → IsBytes (content_by f v a o)
      by None k = no_bytes
      by (Some e) k = read e _ (entry_is_bytes a e k) (is_directory e)

  -- what is read of a disk of bytes
  pub of_bytes : (f : Frame) (hs : List Held) → AreOfBytes f v hs
  of_bytes f hs = record { blocks = λ h m some. block_is_bytes h.at; contents = λ h m some. kept_is_bytes f h.at }

-- ---- FIDs of a content
pub record IsFidOfBytes (size : ℕ) (fid : List ℕ) : Type 0 where
  pub bytes : IsBytes fid
  pub is : IsFid size fid

all_at : {X : Type 0} (P : X → Type 0) (xs : List X) (x : X) → AllByRecursion P xs → Member x xs → P x
all_at P [] x h m = absurd m
all_at P (y ∷ ys) x h (inl e) = subst P (sym e) h.0
all_at P (y ∷ ys) x h (inr m) = all_at P ys x h.1 m

pub fid_is_whole : (size : ℕ) (content fid : List ℕ) → Member fid (fids_of (fids size content)) → IsFid size fid
fid_is_whole size content fid m = all_at (IsFid size) (fids_of (fids size content)) fid (all_fids size 0 0 content) m

front_is_bytes : (xs ys zs : List ℕ) → zs ≡ xs ++ ys → IsBytes zs → IsBytes xs
front_is_bytes xs ys zs e h = go xs ys (subst IsBytes e h)
  where
    go : (us ws : List ℕ) → IsBytes (us ++ ws) → IsBytes us
    go [] ws k = no_bytes
    go (u ∷ us) ws k = cons_is_bytes u us (k 0) (go us ws (λ i. k (suc i)))

fids_are_bytes : (size at n : ℕ) (bytes : List ℕ) → IsBytes bytes → AllByRecursion IsBytes (fids_of (fids_from size at n bytes))
unfolding fids_from taken
fids_are_bytes size at zero [] h = tt
fids_are_bytes size at (suc n) [] h = tt
fids_are_bytes size at (suc n) (byte ∷ bytes) h = fids_are_bytes size (suc at) n bytes (λ i. h (suc i))
fids_are_bytes size at zero (byte ∷ bytes) h = by (fid_at size (byte ∷ bytes)) refl (λ n. fids_are_bytes size (suc at) n bytes (λ i. h (suc i)))
  where
    by : (o : Option (List ℕ)) → fid_at size (byte ∷ bytes) ≡ o → ((n : ℕ) → AllByRecursion IsBytes (fids_of (fids_from size (suc at) n bytes)))
        → AllByRecursion IsBytes (fids_of (taken at o (λ n. fids_from size (suc at) n bytes)))
    by None found rest = rest 3
    by (Some fid) found rest = let b = found_begins size (byte ∷ bytes) fid found in (front_is_bytes fid b.rest (byte ∷ bytes) b.split h, rest (length fid - 1))

pub fid_of_bytes : (size : ℕ) (content fid : List ℕ) → IsBytes content → Member fid (fids_of (fids size content)) → IsFidOfBytes size fid
fid_of_bytes size content fid h m = record { bytes = all_at IsBytes (fids_of (fids size content)) fid (fids_are_bytes size 0 0 content h) m; is = fid_is_whole size content fid m }

-- ---- a parent FID that names an address
pub record IsParentFid (size : ℕ) (fid : List ℕ) (at : Addr) : Type 0 where
  pub is : IsFid size fid
  pub parent : is_parent fid ≡ true
  pub names : (target fid).at ≡ at

-- an address that fits the fields of a FID
pub record FitsFields (at : Addr) : Type 0 where
  pub part : at.part < 65536
  pub block : at.block < 4294967296

pub named_parent : (size : ℕ) (fid : List ℕ) (at : Addr) → IsFidOfBytes size fid → FitsFields at → is_parent fid ≡ true → IsParentFid size (named_anew at fid) at
named_parent size fid at h fits p = record {
  is = named_is_fid size fid h.bytes h.is at (omega (arith, fits.block)) (omega (arith, fits.part));
  parent = same_parent size fid h.bytes h.is at (omega (arith, fits.block)) (omega (arith, fits.part)) ∙ p;
  names = new_address size fid h.bytes h.is at (omega (arith, fits.block)) (omega (arith, fits.part));
}

-- the fresh one before its address is written
abbrev plain : List ℕ → List ℕ
plain entry =
    (1 ∷ 1 ∷ slice_index entry 2 ∷ slice_index entry 3 ∷ 0 ∷ 0 ∷ slice_index entry 6 ∷ slice_index entry 7 ∷ replicate 8 0)
    ++ (1 ∷ 0 ∷ 10 ∷ 0 ∷ replicate 20 0)

module _ (size location : ℕ) (entry : List ℕ) (room : 40 ≤ size) (bytes : IsBytes entry) where
  sized : List ℕ
  sized = with_number 4 20 size (plain entry)

  fresh : List ℕ
  fresh = retagged location 24 sized

  plain_is_bytes : IsBytes (plain entry)
  plain_is_bytes =
      append_is_bytes (tag_bytes ++ replicate 8 0) (kind_bytes ++ replicate 20 0)
      (small_then tag_bytes (replicate 8 0) (lit< tt, (lit< tt, (bytes 2, (bytes 3, (lit< tt, (lit< tt, (bytes 6, (bytes 7, tt)))))))) (zeros_are_bytes 8))
      (small_then kind_bytes (replicate 20 0) (lit< tt, (lit< tt, (lit< tt, (lit< tt, tt)))) (zeros_are_bytes 20))
    where
      tag_bytes : List ℕ
      tag_bytes = 1 ∷ 1 ∷ slice_index entry 2 ∷ slice_index entry 3 ∷ 0 ∷ 0 ∷ slice_index entry 6 ∷ slice_index entry 7 ∷ []

      kind_bytes : List ℕ
      kind_bytes = 1 ∷ 0 ∷ 10 ∷ 0 ∷ []

  plain_length : length (plain entry) ≡ 40
  plain_length = refl

  sized_length : length sized ≡ 40
  unfolding sized
  sized_length = number_length 4 20 size (plain entry) (omega (arith, plain_length)) ∙ plain_length

  sized_is_bytes : IsBytes sized
  unfolding sized
  sized_is_bytes = number_is_bytes 4 20 size (plain entry) plain_is_bytes

  fresh_is_bytes : IsBytes fresh
  unfolding fresh
  fresh_is_bytes = retagged_is_bytes location 24 sized sized_is_bytes

  fresh_length : length fresh ≡ 40
  unfolding fresh
  fresh_length = retagged_length location 24 sized (omega (arith, sized_length)) ∙ sized_length

  -- what stands behind the tag
  behind : (n from : ℕ) → 16 ≤ from → (from + n ≤ 20) ⊎ (24 ≤ from) → number_at n fresh from ≡ number_at n (plain entry) from
  unfolding number_at fresh sized
  behind n from low apart =
      ap (little_number n) (split fresh ∙ ap (drop (from - 16)) (retagged_body location 24 sized (omega (arith, sized_length))) ∙ sym (split sized))
      ∙ number_stays 4 20 size n from (plain entry) (omega (arith, plain_length)) apart
    where
      split : (xs : List ℕ) → drop from xs ≡ drop (from - 16) (drop 16 xs)
      split xs = let e : 16 + (from - 16) ≡ from = omega arith in sym (ap (λ k. drop k xs) e) ∙ sym (drop-drop (from - 16) 16 xs)

  byte_behind : (k : ℕ) → 16 ≤ k → k < 20 → get_or fresh k 0 ≡ get_or (plain entry) k 0
  byte_behind k low high = sym (one_byte fresh k) ∙ behind 1 k low (inl (omega arith)) ∙ one_byte (plain entry) k

  fresh_fid_length : fid_length fresh ≡ 40
  unfolding fid_length number_at
  fresh_fid_length =
      ap (λ n. (38 + n + get_or fresh 19 0 + 3) / 4 * 4) (behind 2 36 (omega arith) (inr (omega arith)))
      ∙ ap (λ n. (38 + 0 + n + 3) / 4 * 4) (byte_behind 19 (omega arith) (omega arith))

  fresh_id : whole_id fresh ≡ Some 257
  unfolding whole_id fresh sized number_at
  fresh_id =
      ap (λ b. cond b (Some (identifier fresh)) None) (retagged_whole location 24 sized sized_is_bytes (omega (arith, sized_length)) (omega arith))
      ∙ ap Some (retagged_identifier location 24 sized (omega (arith, sized_length)) ∙ number_stays 4 20 size 2 0 (plain entry) (omega (arith, plain_length)) (inl (omega arith)))

  fresh_is : IsFidOfBytes size fresh
  fresh_is = record { bytes = fresh_is_bytes; is = record { long = fresh_length ∙ sym fresh_fid_length; small = omega (arith, fresh_length, room); whole = fresh_id } }

  fresh_is_parent : is_parent fresh ≡ true
  unfolding is_parent
  fresh_is_parent = ap (λ n. (n / 8 % 2 == 1) && not (n / 4 % 2 == 1)) (byte_behind 18 (omega arith) (omega arith))

  pub fresh_names : (at : Addr) → FitsFields at → IsParentFid size (fresh_parent size entry location at) at
  unfolding fresh_parent fresh sized
  fresh_names at fits = named_parent size fresh at fresh_is fits fresh_is_parent
