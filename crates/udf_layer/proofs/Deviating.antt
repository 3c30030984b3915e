-- Whether sparing tables agree, by their bytes up to the end of their entries.
use Rattle.std.proofs.Common.{◌≡◌, ℕ, ◌+◌, ◌*◌, ◌<◌, Bool, true, false, not, ◌&&◌, nat_le, nat_lt, cond, length, take, drop, get_or, filter, arith, refl, sym, ap, ◌∙◌, Some, None, List, []}
use Rattle.std.specs.Prelude.{is_some}
use Rattle.std.specs.Str.{bytes_eq}
use Rattle.std.proofs.lemmas.List.{get_or-drop, take_all, take-take}
use Rattle.std.proofs.lemmas.Bool.Decides.{nat_tests}
use Rattle.udf_model.specs.Bytes.{IsBytes}
use Rattle.udf_model.specs.Crc.{crc_of}
use Rattle.udf_model.proofs.Remainder.{is_crc}
use Rattle.udf_layer.specs.Fronts.{table_bytes}
use Rattle.udf_layer.proofs.TableBytes.{bytes_count}
use Rattle.udf_volume_model.specs.Maps as model
use Rattle.udf_volume_model.specs.SparingTable.{is_table, sequence_number, table_area, table_end, table_number}
use Rattle.udf_volume_model.specs.SparingRule.{agrees_with, deviating, is_coverable, table_content}

-- the CRC of bytes fits its field
content_small : (table : List ℕ) → IsBytes table → length table ≡ table_end table → crc_of (table_content table) < 65536
unfolding table_content
content_small table small ends =
    (is_crc (table_content table) (λ i. omega (arith, ap (λ (l : List ℕ). get_or (drop 16 l) i 0) whole, get_or-drop 16 table i 0, small (16 + i)))).below
  where
    whole : take (table_end table) table ≡ table
    whole = take_all (table_end table) table (omega (arith, ends))

pub some_where : (n behind : ℕ) → is_some (cond (nat_le n 65551) (Some behind) None) ≡ nat_le n 65551
some_where n behind = by_test (nat_le n 65551) where
  by_test : (b : Bool) → is_some (cond b (Some behind) None) ≡ b
  by_test true = refl
  by_test false = refl

pub coverable : (table : List ℕ) → IsBytes table → length table ≡ table_end table → nat_le (length table) 65551 ≡ is_coverable table
unfolding is_coverable
coverable table small ends =
    ap (λ n. nat_le n 65551) ends ∙ sym (and_true (nat_le (table_end table) 65551) (nat_lt (crc_of (table_content table)) 65536) fits)
  where
    fits : nat_lt (crc_of (table_content table)) 65536 ≡ true
    fits = let less : crc_of (table_content table) < 65536 = content_small table small ends in grind (arith, nat_tests)

    and_true : (a b : Bool) → b ≡ true → (a && b) ≡ a
    and_true true b e = e
    and_true false b e = refl

-- a table that is not whole agrees with none
pub not_whole : (bytes at : ℕ) (area prevailing : List ℕ) → table_number bytes at area ≡ None → agrees_with bytes at area prevailing ≡ false
unfolding table_number agrees_with
not_whole bytes at area prevailing none = by (is_table bytes at area) refl none
  where
    by : (b : Bool) → is_table bytes at area ≡ b → cond b (Some (sequence_number area)) None ≡ None
        → (is_table bytes at area && bytes_eq (table_content area) (table_content prevailing)) ≡ false
    by true e h = absurd (cc)
    by false e h = ap (λ b. b && bytes_eq (table_content area) (table_content prevailing)) e

-- a whole one agrees by what its bytes say behind the tag
pub whole_agrees : (bytes at n : ℕ) (area table prevailing : List ℕ) → table_number bytes at area ≡ Some n → table ≡ table_bytes area
    → length prevailing ≡ table_end prevailing → agrees_with bytes at area prevailing ≡ bytes_eq (drop 16 table) (drop 16 prevailing)
unfolding table_number agrees_with table_content
whole_agrees bytes at n area table prevailing some cut ends =
    by (is_table bytes at area) refl some
    ∙ ap (λ t. bytes_eq (drop 16 t) (drop 16 (take (table_end prevailing) prevailing))) (sym cut)
    ∙ ap (λ t. bytes_eq (drop 16 table) (drop 16 t)) (take_all (table_end prevailing) prevailing (omega (arith, ends)))
  where
    by : (b : Bool) → is_table bytes at area ≡ b → cond b (Some (sequence_number area)) None ≡ Some n
        → (is_table bytes at area && bytes_eq (drop 16 (take (table_end area) area)) (drop 16 (take (table_end prevailing) prevailing)))
        ≡ bytes_eq (drop 16 (take (table_end area) area)) (drop 16 (take (table_end prevailing) prevailing))
    by true e h = ap (λ b. b && bytes_eq (drop 16 (take (table_end area) area)) (drop 16 (take (table_end prevailing) prevailing))) e
    by false e h = absurd (cc)

same_end : (area : List ℕ) → table_end (table_bytes area) ≡ table_end area
same_end area = ap (λ n. 56 + 8 * n) (bytes_count area)

same_content : (area : List ℕ) → table_content (table_bytes area) ≡ table_content area
unfolding table_content
same_content area =
    ap (λ n. drop 16 (take n (table_bytes area))) (same_end area)
    ∙ ap (drop 16) (take-take (table_end area) (table_end area) area (omega arith))

-- the tables that do not agree with one, by its end and its content
abbrev deviating_from : ℕ → (ℕ → List ℕ) → model.SparingMap → ℕ → List ℕ → List ℕ
deviating_from size disk sparing end content =
    cond (nat_le end 65551 && nat_lt (crc_of content) 65536)
    (filter (λ at. not (is_table sparing.bytes at (table_area size disk sparing.bytes at) && bytes_eq (table_content (table_area size disk sparing.bytes at)) content)) sparing.tables)
    []

-- they are those that do not agree with its bytes
pub same_deviating : (size : ℕ) (disk : ℕ → List ℕ) (sparing : model.SparingMap) (area : List ℕ)
    → deviating size disk sparing (table_bytes area) ≡ deviating size disk sparing area
unfolding deviating is_coverable agrees_with
same_deviating size disk sparing area =
    ap (λ n. deviating_from size disk sparing n (table_content (table_bytes area))) (same_end area)
    ∙ ap (deviating_from size disk sparing (table_end area)) (same_content area)
