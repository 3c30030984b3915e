-- The list of an entry whose block was read.
use Rattle.std.proofs.Common.{◌≡◌, ℕ, Bool, true, false, cond, ◌==◌, ◌&&◌, List, Some, None, arith, refl}
use Rattle.std.proofs.lemmas.Bool.{and_parts}
use Rattle.std.proofs.lemmas.Bool.Decides.{nat_tests}
use Rattle.udf_field.specs.declared.address.Addr.{Addr}
use Rattle.udf_model.specs.Tag.{id_at, identifier, is_whole, location}
use Rattle.udf_file_model.specs.Entry.{Entry, entry_by, entry_header, entry_of, fitting, header_by}
use Rattle.udf_file_model.specs.Listing.{Volume, list_for, listing}
use Rattle.udf_file_model.specs.Pieces.{extents_of, runs_of}

number_is : (m n : ℕ) → (m == n) ≡ true → m ≡ n
number_is m n t = grind (arith, nat_tests)

-- a readable entry states its location
pub stated_location : (at : ℕ) (block : List ℕ) (e : Entry) → entry_of at block ≡ Some e → location block ≡ at
unfolding entry_of entry_header id_at
stated_location at block e h = by_tag (is_whole block && (location block == at)) refl h
  where
    by_tag : (b : Bool) → (is_whole block && (location block == at)) ≡ b → entry_by block (fitting block (header_by (cond b (Some (identifier block)) None))) ≡ Some e → location block ≡ at
    by_tag true t k = number_is (location block) at (and_parts (is_whole block) (location block == at) t).1
    by_tag false t k = cc

pub listing_runs : (v : Volume) (a : Addr) (e : Entry) → (listing v a e).runs ≡ runs_of (list_for v a e)
unfolding listing
listing_runs v a e = refl

pub listing_extents : (v : Volume) (a : Addr) (e : Entry) → (listing v a e).extents ≡ extents_of (list_for v a e)
unfolding listing
listing_extents v a e = refl
