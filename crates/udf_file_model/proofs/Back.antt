-- The mended entry is read as the entry with the wanted values.
use Rattle.std.proofs.Common.{◌≡◌, ℕ, Bool, true, false, cond, ◌+◌, ◌-◌, ◌%◌, ◌^◌, ◌<◌, ◌≤◌, ◌==◌, ◌&&◌, nat_lt, nat_le, ◌⊎◌, inl, inr, Option, Some, None, List, ◌∷◌, length, take, drop, arith, sym, ◌∙◌, ap, refl, subst}
use Rattle.std.proofs.lemmas.Bool.Decides.{nat_tests}
use Rattle.std.proofs.lemmas.Bool.{and_from}
use Rattle.std.proofs.lemmas.List.{drop-drop}
use Rattle.udf_field.specs.declared.address.Long.{Long}
use Rattle.udf_field.specs.FieldView.{kind_bits, length_bits, long_at}
use Rattle.udf_model.specs.Bytes.{IsBytes, number_at}
use Rattle.byteorder.specs.Endian.{little_number}
use Rattle.udf_model.specs.Tag.{id_at, identifier, is_whole, location}
use Rattle.udf_model.proofs.Retagged.{retagged_body, retagged_id, retagged_length, retagged_is_bytes}
use Rattle.udf_model.proofs.Written.{number_apart, one_byte, written_back, written_is_bytes, written_length}
use Rattle.udf_file_model.specs.Entry.{header_of_id, header_by, kind_at, attribute_bytes, descriptor_bytes, fits, fitting, entry_header, body_of, Entry, entry_in, entry_by, entry_of, flags_at, strategy_at, file_type_at, links_at, information_at, unique_id_at, attributes_place, stream_at}
use Rattle.udf_file_model.proofs.Numbers.{number_retagged}
use Rattle.udf_file_model.proofs.CutLaws.{both}
use Rattle.udf_file_model.specs.Wanted.{Field, field, with_fields, Wanted, cleared, fields_of, base_of, body_with, entry_with, mended, Fits, nowhere, stream_left}
use Rattle.udf_file_model.proofs.Fields.{AllFit, read_in, fields_length, fields_are_bytes, fields_read}

-- what a readable entry is known by
pub record Opened (header : ℕ) (block : List ℕ) : Type 0 where
  pub known : (header ≡ 176) ⊎ (header ≡ 216)
  pub named : header_of_id (identifier block) ≡ Some header
  pub fitting : fits header block ≡ true

pub opened : (at header : ℕ) (block : List ℕ) → entry_header at block ≡ Some header → Opened header block
unfolding entry_header id_at
opened at header block e = choose (is_whole block && (location block == at)) e
  where
    no_some : None ≡ Some header → ⊥
    no_some e = cc

    same : (x : ℕ) → Some x ≡ Some header → x ≡ header
    same x e = cc

    make : (x : ℕ) → (x ≡ 176) ⊎ (x ≡ 216) → header_of_id (identifier block) ≡ Some x → (t : Bool) → fits x block ≡ t → cond t (Some x) None ≡ Some header → Opened header block
    make x k n false f e = absurd (no_some e)
    make x k n true f e =
        let P : ℕ → Type 0 = λ z. Opened z block in
        let q : Opened x block = record { known = k; named = n; fitting = f } in
        subst P (same x e) q

    by_id : (a b : Bool) → (identifier block == 261) ≡ a → (identifier block == 266) ≡ b → fitting block (cond a (Some 176) (cond b (Some 216) None)) ≡ Some header → Opened header block
    by_id true b p q e = make 176 (inl refl) (rw p refl) (fits 176 block) refl e
    by_id false true p q e = make 216 (inr refl) (rw (p, q) refl) (fits 216 block) refl e
    by_id false false p q e = absurd (no_some e)

    choose : (t : Bool) → fitting block (header_by (cond t (Some (identifier block)) None)) ≡ Some header → Opened header block
    choose false e = absurd (no_some e)
    choose true e = by_id (identifier block == 261) (identifier block == 266) refl refl e

-- a long descriptor at an offset stays
pub record IsKept (at : ℕ) (fs : List Field) : Type 0 where
  pub stored : (x : ℕ) → read_in 4 at fs x ≡ Some x
  pub block : (x : ℕ) → read_in 4 (at + 4) fs x ≡ Some x
  pub part : (x : ℕ) → read_in 2 (at + 4 + 4) fs x ≡ Some x

-- or is zeros
pub record IsNowhere (at : ℕ) (fs : List Field) : Type 0 where
  pub stored : (x : ℕ) → read_in 4 at fs x ≡ Some 0
  pub block : (x : ℕ) → read_in 4 (at + 4) fs x ≡ Some 0
  pub part : (x : ℕ) → read_in 4 (at + 4 + 4) fs x ≡ Some 0

-- what is read after the fields are set
pub record Table (header : ℕ) (w : Wanted) (fs : List Field) : Type 0 where
  pub tag : (x : ℕ) → read_in 2 0 fs x ≡ Some x
  pub strategy : (x : ℕ) → read_in 2 20 fs x ≡ Some x
  pub flags : (x : ℕ) → read_in 2 34 fs x ≡ Some x
  pub of_type : (x : ℕ) → read_in 1 27 fs x ≡ Some x
  pub attributes : (x : ℕ) → read_in 4 (header - 8) fs x ≡ Some x
  pub bytes : (x : ℕ) → read_in 4 (header - 4) fs x ≡ Some (length w.body)
  pub information : (x : ℕ) → read_in 8 56 fs x ≡ Some w.information
  pub links : (x : ℕ) → read_in 2 48 fs x ≡ Some w.links
  pub id : (x : ℕ) → read_in 8 (header - 16) fs x ≡ Some w.id
  pub icb : IsKept (attributes_place header) fs
  pub stream : header ≡ 216 → (w.clear ≡ true × IsNowhere 152 fs) ⊎ (w.clear ≡ false × IsKept 152 fs)
  pub fit : (size : ℕ) → 216 ≤ size → length w.body < 256 ^ 4 → w.information < 256 ^ 8 → w.object_size < 256 ^ 8 → w.links < 256 ^ 2 → w.id < 256 ^ 8 → AllFit size fs

small_table : (w : Wanted) → Table 176 w (fields_of 176 w)
unfolding fields_of
small_table w = record {
  tag = λ x. refl;
  strategy = λ x. refl;
  flags = λ x. refl;
  of_type = λ x. refl;
  attributes = λ x. refl;
  bytes = λ x. refl;
  information = λ x. refl;
  links = λ x. refl;
  id = λ x. refl;
  icb = record { stored = λ x. refl; block = λ x. refl; part = λ x. refl };
  stream = λ e. absurd (omega (arith, e));
  fit = λ size r b i o l d. (omega (arith, r), b, (omega (arith, r), l, (omega (arith, r), i, (omega (arith, r), d, tt))));
}

large_table : (w : Wanted) → Table 216 w (fields_of 216 w)
unfolding fields_of
large_table w = choose w.clear refl
  where
    choose : (c : Bool) → w.clear ≡ c
        → Table 216 w (field 4 212 (length w.body) ∷ field 2 48 w.links ∷ field 8 56 w.information ∷ field 8 200 w.id ∷ field 8 64 w.object_size ∷ cleared c)
    choose true e = record {
      tag = λ x. refl;
      strategy = λ x. refl;
      flags = λ x. refl;
      of_type = λ x. refl;
      attributes = λ x. refl;
      bytes = λ x. refl;
      information = λ x. refl;
      links = λ x. refl;
      id = λ x. refl;
      icb = record { stored = λ x. refl; block = λ x. refl; part = λ x. refl };
      stream = λ z. inl (e, record { stored = λ x. refl; block = λ x. refl; part = λ x. refl });
      fit = λ size r b i o l d. (
        omega (arith, r),
        b,
        (
          omega (arith, r),
          l,
          (
            omega (arith, r),
            i,
            (
              omega (arith, r),
              d,
              (
                omega (arith, r),
                o,
                (omega (arith, r), omega arith, (omega (arith, r), omega arith, (omega (arith, r), omega arith, (omega (arith, r), omega arith, tt)))),
              ),
            ),
          ),
        ),
      );
    }
    choose false e = record {
      tag = λ x. refl;
      strategy = λ x. refl;
      flags = λ x. refl;
      of_type = λ x. refl;
      attributes = λ x. refl;
      bytes = λ x. refl;
      information = λ x. refl;
      links = λ x. refl;
      id = λ x. refl;
      icb = record { stored = λ x. refl; block = λ x. refl; part = λ x. refl };
      stream = λ z. inr (e, record { stored = λ x. refl; block = λ x. refl; part = λ x. refl });
      fit = λ size r b i o l d. (omega (arith, r), b, (omega (arith, r), l, (omega (arith, r), i, (omega (arith, r), d, (omega (arith, r), o, tt)))));
    }

table : (header : ℕ) (w : Wanted) → (header ≡ 176) ⊎ (header ≡ 216) → Table header w (fields_of header w)
table header w (inl e) = let P : ℕ → Type 0 = λ h. Table h w (fields_of h w) in subst P (sym e) (small_table w)
table header w (inr e) = let P : ℕ → Type 0 = λ h. Table h w (fields_of h w) in subst P (sym e) (large_table w)

-- a number of two bytes is 0 where that of four is
front_zero : (at : ℕ) (xs : List ℕ) → number_at 4 xs at ≡ 0 → number_at 2 xs at ≡ 0
unfolding number_at
front_zero at xs e = two (drop at xs) e
  where
    two : (ys : List ℕ) → little_number 4 ys ≡ 0 → little_number 2 ys ≡ 0
    two ys e = omega (arith, e)

make_long : ℕ → ℕ → ℕ → Long
make_long stored block part = record { kind = kind_bits stored; length = length_bits stored; at = record { part = part; block = block } }

make_entry : ℕ → ℕ → ℕ → ℕ → ℕ → ℕ → ℕ → ℕ → Long → Option Long → List ℕ → Entry
make_entry h t s f k l i d a p b =
    record { header = h; file_type = t; strategy = s; flags = f; kind = k; links = l; information = i; id = d; attributes = a; stream = p; body = b }

module _ (at header : ℕ) (w : Wanted) (block : List ℕ) (all : IsBytes block) (room : 216 ≤ length block) (most : length block ≤ 4096) (low : at < 2 ^ 32)
    (open_ : Opened header block) (fit : Fits header w block) where
  abbrev new : List ℕ
  new = entry_with at header w block

  rows : Table header w (fields_of header w)
  rows = table header w open_.known

  ends : header + attribute_bytes header block + descriptor_bytes header block ≤ length block
  ends = below (both (nat_lt (kind_at block) 4) (nat_le (header + attribute_bytes header block + descriptor_bytes header block) (length block)) (test open_.fitting)).1
    where
      test : fits header block ≡ true → (nat_lt (kind_at block) 4 && nat_le (header + attribute_bytes header block + descriptor_bytes header block) (length block)) ≡ true
      test e = unfold fits in e

      below : {a b : ℕ} → nat_le a b ≡ true → a ≤ b
      below t = grind (arith, nat_tests)

  least : 176 ≤ header
  least = from open_.known
    where
      from : (header ≡ 176) ⊎ (header ≡ 216) → 176 ≤ header
      from (inl e) = omega arith
      from (inr e) = omega arith

  short : length w.body < 256 ^ 4
  short = omega (arith, ends, fit.body, most)

  allfit : AllFit (length block) (fields_of header w)
  allfit = rows.fit (length block) room short fit.information fit.object_size fit.links fit.id

  abbrev set : List ℕ
  set = with_fields (fields_of header w) block

  set_length : length set ≡ length block
  set_length = fields_length (fields_of header w) block allfit

  new_area : List ℕ
  new_area = body_with header w block

  pub area_length : length (body_with header w block) ≡ length block
  unfolding body_with
  area_length = written_length (base_of header block) w.body set (omega (arith, set_length, ends, fit.body)) ∙ set_length

  area_is_bytes : IsBytes (body_with header w block)
  unfolding body_with
  area_is_bytes = written_is_bytes (base_of header block) w.body set fit.bytes (fields_are_bytes (fields_of header w) block all)

  pub new_length : length new ≡ length block
  unfolding entry_with
  new_length = retagged_length at (base_of header block + length w.body - 16) (body_with header w block) (omega (arith, area_length)) ∙ area_length

  pub new_is_bytes : IsBytes new
  unfolding entry_with
  new_is_bytes = retagged_is_bytes at (base_of header block + length w.body - 16) (body_with header w block) area_is_bytes

  area_number : (m from v : ℕ) → from + m ≤ header → read_in m from (fields_of header w) (number_at m block from) ≡ Some v → number_at m (body_with header w block) from ≡ v
  unfolding body_with
  area_number m from v h e =
      number_apart (base_of header block) (length w.body) m from w.body set refl (omega (arith, set_length, ends)) (inl (omega arith))
      ∙ fields_read (fields_of header w) block m from v allfit e

  -- a number of the header
  pub new_number : (m from v : ℕ) → 16 ≤ from → from + m ≤ header → read_in m from (fields_of header w) (number_at m block from) ≡ Some v → number_at m new from ≡ v
  unfolding entry_with
  new_number m from v b h e =
      number_retagged m from at (base_of header block + length w.body - 16) (body_with header w block) (omega (arith, area_length)) b
      ∙ area_number m from v h e

  new_flags : flags_at new ≡ flags_at block
  new_flags = new_number 2 34 (flags_at block) (omega arith) (omega (arith, least)) (rows.flags (flags_at block))

  new_kind : kind_at new ≡ kind_at block
  new_kind = ap (λ k. k % 8) new_flags

  new_strategy : strategy_at new ≡ strategy_at block
  new_strategy = new_number 2 20 (strategy_at block) (omega arith) (omega (arith, least)) (rows.strategy (strategy_at block))

  long_stays : (p : ℕ) → 16 ≤ p → p + 10 ≤ header → IsKept p (fields_of header w) → long_at new p ≡ long_at block p
  unfolding make_long
  long_stays p low high k =
      ap (λ n. make_long n (number_at 4 new (p + 4)) (number_at 2 new (p + 4 + 4)))
      (new_number 4 p (number_at 4 block p) low (omega arith) (k.stored (number_at 4 block p)))
      ∙ ap (λ n. make_long (number_at 4 block p) n (number_at 2 new (p + 4 + 4)))
      (new_number 4 (p + 4) (number_at 4 block (p + 4)) (omega arith) (omega arith) (k.block (number_at 4 block (p + 4))))
      ∙ ap (λ n. make_long (number_at 4 block p) (number_at 4 block (p + 4)) n)
      (new_number 2 (p + 4 + 4) (number_at 2 block (p + 4 + 4)) (omega arith) (omega arith) (k.part (number_at 2 block (p + 4 + 4))))

  new_attribute_icb : long_at new (attributes_place header) ≡ long_at block (attributes_place header)
  new_attribute_icb = choose open_.known
    where
      off : header ≡ 176 → (header == 216) ≡ false
      off e = grind (arith, nat_tests)

      on : header ≡ 216 → (header == 216) ≡ true
      on e = grind (arith, nat_tests)

      choose : (header ≡ 176) ⊎ (header ≡ 216) → long_at new (attributes_place header) ≡ long_at block (attributes_place header)
      choose (inl e) =
          let is : attributes_place header ≡ 112 = rw (off e) refl in
          long_stays (attributes_place header) (omega (arith, is)) (omega (arith, is, e)) rows.icb
      choose (inr e) =
          let is : attributes_place header ≡ 136 = rw (on e) refl in
          long_stays (attributes_place header) (omega (arith, is)) (omega (arith, is, e)) rows.icb

  new_attributes : attribute_bytes header new ≡ attribute_bytes header block
  new_attributes = new_number 4 (header - 8) (attribute_bytes header block) (omega (arith, least)) (omega (arith, least)) (rows.attributes (attribute_bytes header block))

  new_bytes : descriptor_bytes header new ≡ length w.body
  new_bytes = new_number 4 (header - 4) (length w.body) (omega (arith, least)) (omega (arith, least)) (rows.bytes (descriptor_bytes header block))

  new_type : file_type_at new ≡ file_type_at block
  new_type =
      sym (one_byte new 27) ∙ new_number 1 27 (number_at 1 block 27) (omega arith) (omega (arith, least)) (rows.of_type (number_at 1 block 27)) ∙ one_byte block 27

  new_body : body_of header new ≡ w.body
  unfolding body_of
  new_body =
      ap (λ n. take n (drop (header + attribute_bytes header new) new)) new_bytes
      ∙ ap (λ n. take (length w.body) (drop (header + n) new)) new_attributes
      ∙ ap (take (length w.body)) behind
      ∙ there
    where
      split : (xs : List ℕ) → drop (base_of header block) xs ≡ drop (base_of header block - 16) (drop 16 xs)
      split xs =
          let e : 16 + (base_of header block - 16) ≡ base_of header block = omega (arith, least) in
          sym (ap (λ k. drop k xs) e) ∙ sym (drop-drop (base_of header block - 16) 16 xs)

      behind : drop (base_of header block) new ≡ drop (base_of header block) (body_with header w block)
      behind =
          unfold entry_with in
          split new
          ∙ ap (drop (base_of header block - 16)) (retagged_body at (base_of header block + length w.body - 16) (body_with header w block) (omega (arith, area_length)))
          ∙ sym (split (body_with header w block))

      there : take (length w.body) (drop (base_of header block) (body_with header w block)) ≡ w.body
      there = unfold body_with in written_back (base_of header block) (length w.body) w.body set refl (omega (arith, set_length, ends))

  new_id : id_at at new ≡ Some (identifier block)
  unfolding entry_with
  new_id =
      retagged_id at (base_of header block + length w.body - 16) (body_with header w block) area_is_bytes (omega (arith, area_length, ends, fit.body, least))
      (omega (arith, ends, fit.body, most)) low
      ∙ ap Some (area_number 2 0 (identifier block) (omega (arith, least)) (rows.tag (identifier block)))

  new_fits : fits header new ≡ true
  unfolding fits
  new_fits =
      let old = both (nat_lt (kind_at block) 4) (nat_le (header + attribute_bytes header block + descriptor_bytes header block) (length block)) open_.fitting in
      and_from (nat_lt (kind_at new) 4) (nat_le (header + attribute_bytes header new + descriptor_bytes header new) (length new))
      (ap (λ k. nat_lt k 4) new_kind ∙ old.0) (within (omega (arith, new_attributes, new_bytes, new_length, ends, fit.body)))
    where
      within : {a b : ℕ} → a ≤ b → nat_le a b ≡ true
      within h = grind (arith, nat_tests)

  -- the mended entry is readable
  pub new_header : entry_header at new ≡ Some header
  unfolding entry_header
  new_header =
      ap (λ q. fitting new (header_by q)) new_id ∙ ap (fitting new) open_.named ∙ ap (λ t. cond t (Some header) None) new_fits

  new_stream : stream_at header new ≡ stream_left w.clear (stream_at header block)
  new_stream = choose open_.known
    where
      form : List ℕ → Bool → Option Long
      form xs t = cond t (Some (long_at xs 152)) None

      clear_none : (c : Bool) → None ≡ stream_left c None
      clear_none true = refl
      clear_none false = refl

      off : header ≡ 176 → (header == 216) ≡ false
      off e = grind (arith, nat_tests)

      on : header ≡ 216 → (header == 216) ≡ true
      on e = grind (arith, nat_tests)

      zeros : header ≡ 216 → IsNowhere 152 (fields_of header w) → long_at new 152 ≡ nowhere
      zeros e k =
          let s = new_number 4 152 0 (omega arith) (omega (arith, e)) (k.stored (number_at 4 block 152)) in
          let b = new_number 4 156 0 (omega arith) (omega (arith, e)) (k.block (number_at 4 block 156)) in
          let p = front_zero 160 new (new_number 4 160 0 (omega arith) (omega (arith, e)) (k.part (number_at 4 block 160))) in
          unfold make_long in
          ap (λ n. make_long n (number_at 4 new 156) (number_at 2 new 160)) s ∙ ap (λ n. make_long 0 n (number_at 2 new 160)) b ∙ ap (λ n. make_long 0 0 n) p

      by_rows : header ≡ 216 → (w.clear ≡ true × IsNowhere 152 (fields_of header w)) ⊎ (w.clear ≡ false × IsKept 152 (fields_of header w))
          → form new true ≡ stream_left w.clear (form block true)
      by_rows e (inl r) = ap Some (zeros e r.1) ∙ sym (ap (λ c. stream_left c (form block true)) r.0)
      by_rows e (inr r) = ap Some (long_stays 152 (omega arith) (omega (arith, e)) r.1) ∙ sym (ap (λ c. stream_left c (form block true)) r.0)

      choose : (header ≡ 176) ⊎ (header ≡ 216) → form new (header == 216) ≡ stream_left w.clear (form block (header == 216))
      choose (inl e) = ap (form new) (off e) ∙ clear_none w.clear ∙ ap (λ t. stream_left w.clear (form block t)) (sym (off e))
      choose (inr e) = ap (form new) (on e) ∙ by_rows e (rows.stream e) ∙ ap (λ t. stream_left w.clear (form block t)) (sym (on e))

  -- and reads as wanted
  pub new_entry : entry_of at new ≡ Some (mended w (entry_in header block))
  unfolding entry_of make_entry
  new_entry =
      let t1 = file_type_at block in
      let s1 = strategy_at block in
      let f1 = flags_at block in
      let k1 = kind_at block in
      let a1 = long_at block (attributes_place header) in
      let i0 = information_at new in
      let d0 = unique_id_at header new in
      let a0 = long_at new (attributes_place header) in
      let p0 = stream_at header new in
      let b0 = body_of header new in
      ap (entry_by new) new_header
      ∙ ap Some (
      ap (λ x. make_entry header x (strategy_at new) (flags_at new) (kind_at new) (links_at new) i0 d0 a0 p0 b0) new_type
      ∙ ap (λ x. make_entry header t1 x (flags_at new) (kind_at new) (links_at new) i0 d0 a0 p0 b0) new_strategy
      ∙ ap (λ x. make_entry header t1 s1 x (kind_at new) (links_at new) i0 d0 a0 p0 b0) new_flags
      ∙ ap (λ x. make_entry header t1 s1 f1 x (links_at new) i0 d0 a0 p0 b0) new_kind
      ∙ ap (λ x. make_entry header t1 s1 f1 k1 x i0 d0 a0 p0 b0) (new_number 2 48 w.links (omega arith) (omega (arith, least)) (rows.links (links_at block)))
      ∙ ap (λ x. make_entry header t1 s1 f1 k1 w.links x d0 a0 p0 b0)
      (new_number 8 56 w.information (omega arith) (omega (arith, least)) (rows.information (information_at block)))
      ∙ ap (λ x. make_entry header t1 s1 f1 k1 w.links w.information x a0 p0 b0)
      (new_number 8 (header - 16) w.id (omega (arith, least)) (omega (arith, least)) (rows.id (unique_id_at header block)))
      ∙ ap (λ x. make_entry header t1 s1 f1 k1 w.links w.information w.id x p0 b0) new_attribute_icb
      ∙ ap (λ x. make_entry header t1 s1 f1 k1 w.links w.information w.id a1 x b0) new_stream
      ∙ ap (λ x. make_entry header t1 s1 f1 k1 w.links w.information w.id a1 (stream_left w.clear (stream_at header block)) x) new_body)
