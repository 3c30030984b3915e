-- Each call that sets one value leaves the others.
use Rattle.std.proofs.Common.{◌≡◌, ℕ, true, ◌+◌, ◌-◌, ◌^◌, ◌<◌, ◌≤◌, Some, List, length, drop, arith}
use Rattle.std.proofs.lemmas.List.{length-take}
use Rattle.udf_model.specs.Bytes.{IsBytes}
use Rattle.udf_model.proofs.Parts.{take_is_bytes, drop_is_bytes}
use Rattle.udf_model.proofs.Written.{number_fits}
use Rattle.udf_file_model.specs.Entry.{attribute_bytes, descriptor_bytes, body_of, entry_header, Entry, entry_in, entry_of}
use Rattle.udf_file_model.specs.Wanted.{own, with_links, with_id, with_no_stream, with_cut, stream_left, entry_with, Fits}
use Rattle.udf_file_model.proofs.Back.{Opened, opened, new_entry}

module _ (at header : ℕ) (block : List ℕ) (all : IsBytes block) (room : 216 ≤ length block) (most : length block ≤ 4096) (low : at < 2 ^ 32)
    (reads : entry_header at block ≡ Some header) where
  open_ : Opened header block
  open_ = opened at header block reads

  abbrev e : Entry
  e = entry_in header block

  own_fits : Fits header (own header block) block
  unfolding body_of
  own_fits = record {
    information = number_fits 8 56 block all;
    object_size = number_fits 8 64 block all;
    links = number_fits 2 48 block all;
    id = number_fits 8 (header - 16) block all;
    bytes = take_is_bytes (descriptor_bytes header block) (drop (header + attribute_bytes header block) block) (drop_is_bytes (header + attribute_bytes header block) block all);
    body = omega (arith, length-take (descriptor_bytes header block) (drop (header + attribute_bytes header block) block));
  }

  pub links_set : (n : ℕ) → n < 256 ^ 2 → entry_of at (entry_with at header (with_links n (own header block)) block) ≡ Some (record e { links = n })
  links_set n small =
      let f = own_fits in
      new_entry at header (with_links n (own header block)) block all room most low open_
      (record { information = f.information; object_size = f.object_size; links = small; id = f.id; bytes = f.bytes; body = f.body })

  pub id_set : (n : ℕ) → n < 256 ^ 8 → entry_of at (entry_with at header (with_id n (own header block)) block) ≡ Some (record e { id = n })
  id_set n small =
      let f = own_fits in
      new_entry at header (with_id n (own header block)) block all room most low open_
      (record { information = f.information; object_size = f.object_size; links = f.links; id = small; bytes = f.bytes; body = f.body })

  pub stream_cleared : entry_of at (entry_with at header (with_no_stream (own header block)) block) ≡ Some (record e { stream = stream_left true e.stream })
  stream_cleared =
      let f = own_fits in
      new_entry at header (with_no_stream (own header block)) block all room most low open_
      (record { information = f.information; object_size = f.object_size; links = f.links; id = f.id; bytes = f.bytes; body = f.body })

  pub entry_cut : (n : ℕ) (body : List ℕ) → n < 256 ^ 8 → IsBytes body → length body ≤ descriptor_bytes header block
      → entry_of at (entry_with at header (with_cut n body (own header block)) block) ≡ Some (record e { information = n; body = body })
  entry_cut n body small bytes shorter =
      let f = own_fits in
      new_entry at header (with_cut n body (own header block)) block all room most low open_
      (record { information = small; object_size = small; links = f.links; id = f.id; bytes = bytes; body = shorter })
