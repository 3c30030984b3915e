-- The content of a directory whose list is good and reaches the information length: its FIDs fit beside a parent FID.
use Rattle.std.proofs.Common.{◌≡◌, ◌⊎◌, ℕ, ◌+◌, ◌-◌, ◌<◌, ◌≤◌, Bool, true, false, cond, List, [], ◌++◌, length, take, Option, Some, None, refl, ap, ◌∙◌, inl, inr, arith, length-take}
use Rattle.std.specs.Prelude.{◌==◌, min}
use Rattle.std.specs.List.{list_any}
use Rattle.udf_field.specs.declared.address.Addr.{Addr}
use Rattle.udf_file_model.specs.Content.{content, runs_bytes}
use Rattle.udf_file_model.specs.Cut.{to_part}
use Rattle.udf_file_model.specs.Entry.{Entry, is_directory}
use Rattle.udf_file_model.specs.Fid.{is_parent}
use Rattle.udf_file_model.specs.Front.{is_good, nothing_yet}
use Rattle.udf_file_model.specs.Listing.{Volume, flat_for, good_length, is_extent, list_for, rules_for}
use Rattle.udf_file_model.specs.Pieces.{Piece, runs_of, size_of}
use Rattle.udf_file_model.specs.Scan.{fids, fids_of, fids_from}
use Rattle.udf_file_model.proofs.CutReads.{good_good}
use Rattle.udf_tree_model.specs.Frame.{capacity, content_to, links_of, parent_length, stream_of}
use Rattle.udf_tree_model.specs.Link.{Link, fid_links, pointer_links}
use Rattle.udf_tree_model.specs.Mended.{rooms}
use Rattle.udf_file_mends.proofs.Held.{runs_within}
use Rattle.udf_file_mends.proofs.Reach.{part_reach}
use Rattle.udf_intact.specs.Entries.{bytes_at}
use Rattle.udf_intact.proofs.Room.{content_long, links_beside}

-- a pointer takes no room
pointer_room : (o : Option Addr) (links : List Link) → rooms (pointer_links o ++ links) ≡ rooms links
pointer_room None links = refl
pointer_room (Some x) links = omega arith

module _ (v : Volume) (a : Addr) (e : Entry) (some : 0 < v.size) (reaches : e.information ≤ good_length v a e) where
  abbrev xs : List Piece
  xs = list_for v a e

  abbrev whole : List ℕ
  whole = content_to v e xs (good_length v a e)

  good : is_good (rules_for v a e) (is_extent v) nothing_yet (list_for v a e) ≡ true
  unfolding list_for rules_for
  good = good_good (rules_for v a e) (is_extent v) some (flat_for v a e) nothing_yet

  reach : (size_of xs ≤ to_part v.size xs) ⊎ (e.information ≤ to_part v.size xs)
  unfolding rules_for
  reach = by (part_reach (rules_for v a e) (is_extent v) xs nothing_yet good)
    where
      by : (size_of xs ≤ to_part v.size xs) ⊎ (e.information ≤ 0 + to_part v.size xs) → (size_of xs ≤ to_part v.size xs) ⊎ (e.information ≤ to_part v.size xs)
      by (inl l) = inl l
      by (inr l) = inr (omega (arith, l))

  -- of a file nothing is read
  module _ (file : is_directory e ≡ false) where
    nothing : content_to v e (list_for v a e) (good_length v a e) ≡ []
    unfolding content_to
    nothing = ap (λ b. cond b (content v e (runs_of xs) (good_length v a e)) []) file

    pub file_rooms : rooms (links_of v.size e (content_to v e (list_for v a e) (good_length v a e))) ≡ 0
    unfolding links_of fid_links fids_from
    file_rooms = pointer_room (stream_of e.stream) (fid_links v.size whole) ∙ ap (λ c. rooms (fid_links v.size c)) nothing

  module _ (directory : is_directory e ≡ true) where
    abbrev bytes : List ℕ
    bytes = cond (e.kind == 3) e.body (runs_bytes v (runs_of xs))

    taken : content_to v e (list_for v a e) (good_length v a e) ≡ take (min (good_length v a e) e.information) bytes
    unfolding content_to content
    taken = ap (λ b. cond b (content v e (runs_of xs) (good_length v a e)) []) directory

    -- what is read of it is all
    pub all_read : content_to v e (list_for v a e) (good_length v a e) ≡ bytes_at v a e
    unfolding bytes_at content
    all_read = taken ∙ ap (λ n. take n bytes) (let z : min (good_length v a e) e.information ≡ min e.information e.information = omega (arith, reaches) in z)

    lengths : length whole ≡ min (min (good_length v a e) e.information) (length bytes)
    lengths = ap length taken ∙ length-take (min (good_length v a e) e.information) bytes

    within : length whole ≤ good_length v a e
    within = omega (arith, lengths)

    fits : length whole ≤ capacity v.size e xs
    unfolding capacity
    fits = by (e.kind == 3) lengths
      where
        listed : (size_of xs ≤ to_part v.size xs) ⊎ (e.information ≤ to_part v.size xs)
            → length whole ≡ min (min (good_length v a e) e.information) (length (runs_bytes v (runs_of xs))) → length whole ≤ to_part v.size xs
        listed (inl l) h = omega (arith, l, h, runs_within v (runs_of xs))
        listed (inr l) h = omega (arith, l, h)

        by : (b : Bool) → length whole ≡ min (min (good_length v a e) e.information) (length (cond b e.body (runs_bytes v (runs_of xs))))
            → length whole ≤ cond b (length e.body) (to_part v.size xs)
        by true h = omega (arith, h)
        by false h = listed reach h

    module _ (parent : list_any is_parent (fids_of (fids v.size (bytes_at v a e))) ≡ true) where
      named : list_any is_parent (fids_of (fids v.size whole)) ≡ true
      named = ap (λ c. list_any is_parent (fids_of (fids v.size c))) all_read ∙ parent

      pub long : 40 ≤ length (content_to v e (list_for v a e) (good_length v a e))
      long = content_long v.size whole named

      pub links_fit : rooms (links_of v.size e (content_to v e (list_for v a e) (good_length v a e)))
          ≤ min (good_length v a e) (capacity v.size e (list_for v a e)) - parent_length (fids_of (fids v.size (content_to v e (list_for v a e) (good_length v a e))))
      unfolding links_of
      links_fit = omega (arith, pointer_room (stream_of e.stream) (fid_links v.size whole), links_beside v.size whole named, within, fits)
