-- A mended entry, and a mended allocation extent, read as mended, also where nothing behind the tag changes.
use Rattle.std.proofs.Common.{◌≡◌, ◌⊎◌, ℕ, Bool, true, false, cond, ◌+◌, ◌-◌, ◌%◌, ◌^◌, ◌<◌, ◌≤◌, ◌&&◌, nat_le, inl, inr, Option, Some, None, List, length, take, drop, arith, refl, sym, ap, ◌∙◌, subst}
use Rattle.std.specs.Prelude.{◌==◌}
use Rattle.std.specs.Str.{bytes_eq}
use Rattle.std.proofs.lemmas.Slice.Eq.{bytes_eq-Decides}
use Rattle.std.proofs.lemmas.List.{drop-drop}
use Rattle.byteorder.specs.Endian.{little_number}
use Rattle.udf_field.specs.declared.address.Addr.{Addr}
use Rattle.udf_field.specs.declared.address.Long.{Long}
use Rattle.udf_field.specs.FieldView.{long_at, kind_bits, length_bits}
use Rattle.udf_model.specs.Bytes.{IsBytes, number_at}
use Rattle.udf_model.specs.Tag.{is_id, id_at}
use Rattle.udf_model.proofs.Parts.{take_is_bytes, drop_is_bytes}
use Rattle.udf_model.proofs.Retagged.{retagged_body}
use Rattle.udf_model.proofs.Written.{one_byte}
use Rattle.udf_file_model.specs.CutBody.{cut_body, extent_with}
use Rattle.udf_file_model.specs.Entry.{Entry, attribute_bytes, attributes_place, body_of, descriptor_bytes, entry_by, entry_in, entry_of, extent_body, file_type_at, flags_at, information_at, kind_at, links_at, strategy_at, stream_at, unique_id_at}
use Rattle.udf_file_model.specs.Wanted.{Fits, HasEntry, Wanted, base_of, body_with, entry_with, mended}
use Rattle.udf_file_model.proofs.Back.{Opened, opened, area_length, new_entry, new_header}
use Rattle.udf_file_model.proofs.Extents.{extent_opened, new_extent}
use Rattle.udf_file_mends.specs.Mends.{extent_cut, mended_entry}

make_entry : ℕ → ℕ → ℕ → ℕ → ℕ → ℕ → ℕ → ℕ → Long → Option Long → List ℕ → Entry
make_entry h t s g k l i d a p b = record {
  header = h;
  file_type = t;
  strategy = s;
  flags = g;
  kind = k;
  links = l;
  information = i;
  id = d;
  attributes = a;
  stream = p;
  body = b;
}

make_long : ℕ → ℕ → ℕ → Long
make_long n b p = record { kind = kind_bits n; length = length_bits n; at = record { part = p; block = b } }

-- an entry is read from what stands behind its tag
module _ (header : ℕ) (least : 176 ≤ header) (xs ys : List ℕ) (same : drop 16 xs ≡ drop 16 ys) where
  drop_behind : (k : ℕ) → 16 ≤ k → drop k xs ≡ drop k ys
  drop_behind k h =
      let e : 16 + (k - 16) ≡ k = omega arith in
      sym (ap (λ n. drop n xs) e) ∙ sym (drop-drop (k - 16) 16 xs) ∙ ap (drop (k - 16)) same ∙ drop-drop (k - 16) 16 ys ∙ ap (λ n. drop n ys) e

  number_behind : (m k : ℕ) → 16 ≤ k → number_at m xs k ≡ number_at m ys k
  unfolding number_at
  number_behind m k h = ap (little_number m) (drop_behind k h)

  long_behind : (k : ℕ) → 16 ≤ k → long_at xs k ≡ long_at ys k
  unfolding make_long
  long_behind k h =
      ap (λ n. make_long n (number_at 4 xs (k + 4)) (number_at 2 xs (k + 4 + 4))) (number_behind 4 k h)
      ∙ ap (λ n. make_long (number_at 4 ys k) n (number_at 2 xs (k + 4 + 4))) (number_behind 4 (k + 4) (omega (arith, h)))
      ∙ ap (λ n. make_long (number_at 4 ys k) (number_at 4 ys (k + 4)) n) (number_behind 2 (k + 4 + 4) (omega (arith, h)))

  stream_behind : stream_at header xs ≡ stream_at header ys
  stream_behind = ap (λ l. form (header == 216) l) (long_behind 152 (omega arith))
    where
      form : Bool → Long → Option Long
      form t l = cond t (Some l) None

  attributes_behind : long_at xs (attributes_place header) ≡ long_at ys (attributes_place header)
  attributes_behind = choose (header == 216)
    where
      choose : (t : Bool) → long_at xs (cond t 136 112) ≡ long_at ys (cond t 136 112)
      choose true = long_behind 136 (omega arith)
      choose false = long_behind 112 (omega arith)

  body_behind : body_of header xs ≡ body_of header ys
  unfolding body_of
  body_behind =
      ap (λ n. take n (drop (header + attribute_bytes header xs) xs)) (number_behind 4 (header - 4) (omega (arith, least)))
      ∙ ap (λ n. take (descriptor_bytes header ys) (drop (header + n) xs)) (number_behind 4 (header - 8) (omega (arith, least)))
      ∙ ap (take (descriptor_bytes header ys)) (drop_behind (header + attribute_bytes header ys) (omega (arith, least)))

  entry_behind : entry_in header xs ≡ entry_in header ys
  unfolding make_entry
  entry_behind =
      let t1 = file_type_at ys in
      let s1 = strategy_at ys in
      let f1 = flags_at ys in
      let l1 = links_at ys in
      let i1 = information_at ys in
      let d1 = unique_id_at header ys in
      let a1 = long_at ys (attributes_place header) in
      let d0 = unique_id_at header xs in
      let a0 = long_at xs (attributes_place header) in
      let p0 = stream_at header xs in
      let b0 = body_of header xs in
      ap (λ x. make_entry header x (strategy_at xs) (flags_at xs) (kind_at xs) (links_at xs) (information_at xs) d0 a0 p0 b0)
      (sym (one_byte xs 27) ∙ number_behind 1 27 (omega arith) ∙ one_byte ys 27)
      ∙ ap (λ x. make_entry header t1 x (flags_at xs) (kind_at xs) (links_at xs) (information_at xs) d0 a0 p0 b0) (number_behind 2 20 (omega arith))
      ∙ ap (λ x. make_entry header t1 s1 x (x % 8) (links_at xs) (information_at xs) d0 a0 p0 b0) (number_behind 2 34 (omega arith))
      ∙ ap (λ x. make_entry header t1 s1 f1 (f1 % 8) x (information_at xs) d0 a0 p0 b0) (number_behind 2 48 (omega arith))
      ∙ ap (λ x. make_entry header t1 s1 f1 (f1 % 8) l1 x d0 a0 p0 b0) (number_behind 8 56 (omega arith))
      ∙ ap (λ x. make_entry header t1 s1 f1 (f1 % 8) l1 i1 x a0 p0 b0) (number_behind 8 (header - 16) (omega (arith, least)))
      ∙ ap (λ x. make_entry header t1 s1 f1 (f1 % 8) l1 i1 d1 x p0 b0) attributes_behind
      ∙ ap (λ x. make_entry header t1 s1 f1 (f1 % 8) l1 i1 d1 a1 x b0) stream_behind
      ∙ ap (λ x. make_entry header t1 s1 f1 (f1 % 8) l1 i1 d1 a1 (stream_at header ys) x) body_behind

pub mended_reads : (at header : ℕ) (w : Wanted) (block : List ℕ) → HasEntry at header block → Fits header w block
    → entry_of at (mended_entry at header w block) ≡ Some (mended w (entry_in header block))
unfolding mended_entry
mended_reads at header w block h fit = choose (bytes_eq (drop 16 (body_with header w block)) (drop 16 block)) refl
  where
    opens : Opened header block
    opens = opened at header block h.readable

    room : 216 ≤ length block
    room = omega (arith, h.least)

    wanted_there : entry_of at (entry_with at header w block) ≡ Some (mended w (entry_in header block))
    wanted_there = new_entry at header w block h.bytes room h.most h.low opens fit

    least : 176 ≤ header
    least = from opens.known
      where
        from : (header ≡ 176) ⊎ (header ≡ 216) → 176 ≤ header
        from (inl e) = omega arith
        from (inr e) = omega arith

    long : length (body_with header w block) ≡ length block
    long = area_length at header w block h.bytes room h.most h.low opens fit

    untagged : drop 16 (entry_with at header w block) ≡ drop 16 (body_with header w block)
    untagged = unfold entry_with in retagged_body at (base_of header block + length w.body - 16) (body_with header w block) (omega (arith, long))

    stays : drop 16 (body_with header w block) ≡ drop 16 block → entry_of at block ≡ Some (mended w (entry_in header block))
    stays s =
        let new = entry_with at header w block in
        let here : entry_of at new ≡ Some (entry_in header new) = unfold entry_of in ap (entry_by new) (new_header at header w block h.bytes room h.most h.low opens fit) in
        let old : entry_of at block ≡ Some (entry_in header block) = unfold entry_of in ap (entry_by block) h.readable in
        old ∙ ap Some (sym (entry_behind header least new block (untagged ∙ s))) ∙ sym here ∙ wanted_there

    choose : (t : Bool) → bytes_eq (drop 16 (body_with header w block)) (drop 16 block) ≡ t
        → entry_of at (cond t block (entry_with at header w block)) ≡ Some (mended w (entry_in header block))
    choose true t = stays ((bytes_eq-Decides (drop 16 (body_with header w block)) (drop 16 block)).0 t)
    choose false t = wanted_there

pub extent_reads : (kind : ℕ) (y : Addr) (l : ℕ) (block body : List ℕ) → IsBytes block → length block ≤ 4096 → y.block < 2 ^ 32
    → extent_body y.block block ≡ Some body → IsBytes (cut_body kind y l body) → length (cut_body kind y l body) ≤ length body
    → extent_body y.block (extent_cut kind y l block (extent_body y.block block)) ≡ Some (cut_body kind y l body)
extent_reads kind y l block body all most low e bytes shorter =
    ap (λ q. extent_body y.block (extent_cut kind y l block q)) e ∙ choose (bytes_eq (cut_body kind y l body) body) refl
  where
    choose : (t : Bool) → bytes_eq (cut_body kind y l body) body ≡ t
        → extent_body y.block (cond t block (extent_with y.block (cut_body kind y l body) block)) ≡ Some (cut_body kind y l body)
    choose true t = e ∙ ap Some (sym ((bytes_eq-Decides (cut_body kind y l body) body).0 t))
    choose false t = new_extent y.block (cut_body kind y l body) block body all most low (extent_opened y.block block body e) bytes shorter

pub extent_is_bytes : (at : ℕ) (block body : List ℕ) → IsBytes block → extent_body at block ≡ Some body → IsBytes body
unfolding extent_body
extent_is_bytes at block body all h = choose (is_id 258 (id_at at block) && nat_le (24 + number_at 4 block 20) (length block)) h
  where
    same : (z : List ℕ) → Some z ≡ Some body → z ≡ body
    same z e = cc

    choose : (t : Bool) → cond t (Some (take (number_at 4 block 20) (drop 24 block))) None ≡ Some body → IsBytes body
    choose true h = subst IsBytes (same (take (number_at 4 block 20) (drop 24 block)) h) (take_is_bytes (number_at 4 block 20) (drop 24 block) (drop_is_bytes 24 block all))
    choose false h = cc
