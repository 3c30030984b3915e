-- The FID that begins some bytes.
use Rattle.std.proofs.Common.{◌≡◌, ℕ, Bool, true, false, cond, ◌+◌, ◌*◌, ◌/◌, ◌%◌, ◌<◌, ◌≤◌, ◌&&◌, nat_le, Option, Some, None, List, ◌++◌, length, take, drop, get_or, arith, sym, ◌∙◌, ap, refl, length-append}
use Rattle.std.specs.Prelude.{not, nat_lt, ◌==◌}
use Rattle.std.proofs.Math.Bool.{and-false}
use Rattle.std.proofs.lemmas.Bool.Decides.{nat_tests}
use Rattle.std.proofs.lemmas.Bool.{and_from, and_parts}
use Rattle.std.proofs.lemmas.List.{length-take-le, get_or-take, get_or_append_left, take_at, take-append-drop}
use Rattle.udf_model.specs.Bytes.{number_at}
use Rattle.udf_model.specs.Tag.{is_id, whole_id}
use Rattle.udf_model.proofs.Written.{same_number}
use Rattle.udf_file_model.specs.Fid.{name_length, fid_length, fid_bytes, begins_with_fid, fid_at, IsFid, Begins, is_deleted, is_parent, is_live, target}

pub least : (bytes : List ℕ) → 40 ≤ fid_length bytes
unfolding fid_length
least bytes = omega arith

pub by_four : (bytes : List ℕ) → fid_length bytes % 4 ≡ 0
unfolding fid_length
by_four bytes = omega arith

-- bytes that agree on the first 38 have FIDs of one length
pub same_length : (xs ys : List ℕ) → ((k : ℕ) → k < 38 → get_or xs k 0 ≡ get_or ys k 0) → fid_length xs ≡ fid_length ys
unfolding fid_length
same_length xs ys front =
    ap (λ u. (38 + u + get_or xs 19 0 + 3) / 4 * 4) (same_number 2 36 xs ys (λ k l m. front k (omega arith)))
    ∙ ap (λ n. (38 + number_at 2 ys 36 + n + 3) / 4 * 4) (front 19 (omega arith))

-- a FID and what follows it begin as the FID does
pub on_length : (fid rest : List ℕ) → 38 ≤ length fid → fid_length (fid ++ rest) ≡ fid_length fid
on_length fid rest room = same_length (fid ++ rest) fid (λ k l. get_or_append_left fid rest 0 k (omega arith))

pub front_length : (bytes : List ℕ) → fid_length bytes ≤ length bytes → fid_length (fid_bytes bytes) ≡ fid_length bytes
front_length bytes room =
    same_length (fid_bytes bytes) bytes (λ k l. get_or-take (fid_length bytes) bytes k 0 (omega (arith, least bytes)))

above : {m n : ℕ} → m ≤ n → nat_le m n ≡ true
above h = grind (arith, nat_tests)

below : {m n : ℕ} → nat_le m n ≡ true → m ≤ n
below h = grind (arith, nat_tests)

id_is : (o : Option ℕ) → is_id 257 o ≡ true → o ≡ Some 257
id_is None h = cc
id_is (Some n) h = ap Some (grind (arith, nat_tests))

id_tests : (o : Option ℕ) → o ≡ Some 257 → is_id 257 o ≡ true
id_tests o h = ap (is_id 257) h

record Fits (size : ℕ) (bytes : List ℕ) : Type 0 where
  room : fid_length bytes ≤ length bytes
  small : fid_length bytes ≤ size
  whole : whole_id (fid_bytes bytes) ≡ Some 257

fitting : (size : ℕ) (bytes : List ℕ) → begins_with_fid size bytes ≡ true → Fits size bytes
unfolding begins_with_fid
fitting size bytes h =
    let x = and_parts (nat_le (fid_length bytes) (length bytes)) _ h in
    let y = and_parts (nat_le (fid_length bytes) size) _ x.1 in
    record { room = below x.0; small = below y.0; whole = id_is (whole_id (fid_bytes bytes)) y.1 }

passing : (size : ℕ) (bytes : List ℕ) → Fits size bytes → begins_with_fid size bytes ≡ true
unfolding begins_with_fid
passing size bytes f =
    and_from (nat_le (fid_length bytes) (length bytes)) _ (above f.room)
    (and_from (nat_le (fid_length bytes) size) _ (above f.small) (id_tests (whole_id (fid_bytes bytes)) f.whole))

-- what is found there begins the bytes
pub found_begins : (size : ℕ) (bytes fid : List ℕ) → fid_at size bytes ≡ Some fid → Begins size bytes fid
unfolding fid_at
found_begins size bytes fid h = choose (begins_with_fid size bytes) refl h
  where
    made : Fits size bytes → fid_bytes bytes ≡ fid → Begins size bytes fid
    made f e =
        let long : length (fid_bytes bytes) ≡ fid_length bytes = length-take-le (fid_length bytes) bytes f.room in
        record {
          is = record {
            long = ap length (sym e) ∙ long ∙ sym (front_length bytes f.room) ∙ ap fid_length e;
            small = let n : length fid ≡ fid_length bytes = ap length (sym e) ∙ long in omega (arith, f.small);
            whole = ap whole_id (sym e) ∙ f.whole;
          };
          rest = drop (fid_length bytes) bytes;
          split = sym (take-append-drop (fid_length bytes) bytes) ∙ ap (λ xs. xs ++ drop (fid_length bytes) bytes) e;
        }

    same : (x : List ℕ) → Some x ≡ Some fid → x ≡ fid
    same x e = cc

    no_some : None ≡ Some fid → Begins size bytes fid
    no_some e = cc

    choose : (t : Bool) → begins_with_fid size bytes ≡ t → cond t (Some (fid_bytes bytes)) None ≡ Some fid → Begins size bytes fid
    choose true p e = made (fitting size bytes p) (same (fid_bytes bytes) e)
    choose false p e = no_some e

pub is_long : (size : ℕ) (fid : List ℕ) → IsFid size fid → 40 ≤ length fid
is_long size fid is = omega (arith, is.long, least fid)

pub is_by_four : (size : ℕ) (fid : List ℕ) → IsFid size fid → length fid % 4 ≡ 0
is_by_four size fid is = omega (arith, is.long, by_four fid)

-- a FID is found wherever its bytes stand
pub fid_found : (size : ℕ) (fid rest : List ℕ) → IsFid size fid → fid_at size (fid ++ rest) ≡ Some fid
unfolding fid_at
fid_found size fid rest is =
    ap (λ t. cond t (Some (fid_bytes (fid ++ rest))) None) (passing size (fid ++ rest) fits) ∙ ap Some front
  where
    long : fid_length (fid ++ rest) ≡ length fid
    long = on_length fid rest (omega (arith, is_long size fid is)) ∙ sym is.long

    front : fid_bytes (fid ++ rest) ≡ fid
    front = take_at fid rest (fid_length (fid ++ rest)) (sym long)

    fits : Fits size (fid ++ rest)
    fits = record {
      room = omega (arith, long, length-append fid rest);
      small = omega (arith, long, is.small);
      whole = ap whole_id front ∙ is.whole;
    }

pub begins_found : (size : ℕ) (bytes fid : List ℕ) → Begins size bytes fid → fid_at size bytes ≡ Some fid
begins_found size bytes fid b = ap (fid_at size) b.split ∙ fid_found size fid b.rest b.is

pub parent_not_live : (fid : List ℕ) → is_parent fid ≡ true → is_live fid ≡ false
unfolding is_live
parent_not_live fid h =
    ap (λ p. not (is_deleted fid) && (not p && (nat_lt 0 (name_length fid) && not ((target fid).length == 0)))) h ∙ and-false (not (is_deleted fid))

-- where the bytes of a FID stand in another content, it is found there
pub found_by_bytes : (size at : ℕ) (content other fid : List ℕ) → fid_at size (drop at content) ≡ Some fid
    → take (length fid) (drop at other) ≡ fid → fid_at size (drop at other) ≡ Some fid
found_by_bytes size at content other fid found same =
    ap (fid_at size)
    (sym (take-append-drop (length fid) (drop at other)) ∙ ap (λ xs. xs ++ drop (length fid) (drop at other)) same)
    ∙ fid_found size fid (drop (length fid) (drop at other)) (found_begins size (drop at content) fid found).is
