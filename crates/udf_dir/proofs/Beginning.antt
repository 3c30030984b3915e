-- The test for a FID, step by step.
use Rattle.std.proofs.Common.{◌≡◌, ℕ, ◌<◌, ◌≤◌, arith, refl, sym, ◌∙◌, ap, List, [], length, take, drop, Bool, true, false, cond, ◌&&◌, Some, None}
use Rattle.std.specs.Prelude.{nat_le}
use Rattle.std.proofs.Math.Bool.{and-false}
use Rattle.std.proofs.lemmas.Bool.{and_parts}
use Rattle.std.proofs.lemmas.Bool.Decides.{nat_tests}
use Rattle.std.proofs.lemmas.List.{drop_all, length-take-le}
use Rattle.udf_model.specs.Tag.{is_id, whole_id}
use Rattle.udf_file_model.specs.Fid.{fid_length, fid_bytes, begins_with_fid, fid_at}
use Rattle.udf_file_model.proofs.Fids.{least, front_length}

fits : {m n : ℕ} → m ≤ n → nat_le m n ≡ true
fits h = grind (arith, nat_tests)

passes : {m n : ℕ} → n < m → nat_le m n ≡ false
passes h = grind (arith, nat_tests)

within : {m n : ℕ} → nat_le m n ≡ true → m ≤ n
within h = grind (arith, nat_tests)

abbrev tagged : List ℕ → Bool
tagged bytes = is_id 257 (whole_id bytes)

pub past_end : (size : ℕ) (bytes : List ℕ) (n : ℕ) → n ≡ fid_length bytes → length bytes < n → false ≡ begins_with_fid size bytes
unfolding begins_with_fid
past_end size bytes n is over =
    let e : nat_le (fid_length bytes) (length bytes) ≡ false = passes (omega (arith, is)) in
    sym (ap (λ t. t && (nat_le (fid_length bytes) size && tagged (fid_bytes bytes))) e)

pub too_short : (size : ℕ) (bytes : List ℕ) → length bytes < 38 → false ≡ begins_with_fid size bytes
too_short size bytes short = past_end size bytes (fid_length bytes) refl (omega (arith, least bytes))

pub past_block : (size : ℕ) (bytes : List ℕ) (n : ℕ) → n ≡ fid_length bytes → size < n → false ≡ begins_with_fid size bytes
unfolding begins_with_fid
past_block size bytes n is over =
    let e : nat_le (fid_length bytes) size ≡ false = passes (omega (arith, is)) in
    sym (ap (λ t. nat_le (fid_length bytes) (length bytes) && (t && tagged (fid_bytes bytes))) e ∙ and-false (nat_le (fid_length bytes) (length bytes)))

pub tag_decides : (size : ℕ) (bytes part : List ℕ) (n : ℕ) (t : Bool) → n ≡ fid_length bytes → n ≤ length bytes → n ≤ size → part ≡ take n bytes → t ≡ tagged part → t ≡ begins_with_fid size bytes
unfolding begins_with_fid
tag_decides size bytes part n t is room small of test =
    let a : nat_le (fid_length bytes) (length bytes) ≡ true = fits (omega (arith, is)) in
    let b : nat_le (fid_length bytes) size ≡ true = fits (omega (arith, is)) in
    test ∙ ap tagged (of ∙ ap (λ k. take k bytes) is)
    ∙ sym (ap (λ x. x && (nat_le (fid_length bytes) size && tagged (fid_bytes bytes))) a ∙ ap (λ x. x && tagged (fid_bytes bytes)) b)

-- where a FID begins, it is in the bytes
pub begins_within : (size : ℕ) (bytes : List ℕ) → begins_with_fid size bytes ≡ true → fid_length bytes ≤ length bytes
unfolding begins_with_fid
begins_within size bytes h = within (and_parts (nat_le (fid_length bytes) (length bytes)) _ h).0

pub begins_long : (size : ℕ) (bytes : List ℕ) → begins_with_fid size bytes ≡ true → 38 ≤ length bytes
begins_long size bytes h = omega (arith, least bytes, begins_within size bytes h)

pub cut_length : (size : ℕ) (bytes : List ℕ) (n : ℕ) → begins_with_fid size bytes ≡ true → n ≡ fid_length bytes → length (take n bytes) ≡ fid_length (take n bytes)
cut_length size bytes n h is =
    let room = begins_within size bytes h in
    ap (λ k. length (take k bytes)) is ∙ length-take-le (fid_length bytes) bytes room ∙ sym (front_length bytes room) ∙ ap (λ k. fid_length (take k bytes)) (sym is)

pub fid_there : (size : ℕ) (bytes fid : List ℕ) (n : ℕ) → begins_with_fid size bytes ≡ true → n ≡ fid_length bytes → fid ≡ take n bytes → Some fid ≡ fid_at size bytes
unfolding fid_at
fid_there size bytes fid n h is of =
    ap Some (of ∙ ap (λ k. take k bytes) is) ∙ sym (ap (λ t. cond t (Some (fid_bytes bytes)) None) h)

pub none_there : (size : ℕ) (bytes : List ℕ) → begins_with_fid size bytes ≡ false → None ≡ fid_at size bytes
unfolding fid_at
none_there size bytes h = sym (ap (λ t. cond t (Some (fid_bytes bytes)) None) h)

-- no FID begins past the end
pub none_past : (size at : ℕ) (content : List ℕ) → length content < at → None ≡ fid_at size (drop at content)
none_past size at content over = none_there size (drop at content) (ap (begins_with_fid size) (drop_all at content (omega (arith, over))) ∙ sym (too_short size [] (omega arith)))
