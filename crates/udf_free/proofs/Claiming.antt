-- Claimed blocks are made used, run by run.
use Rattle.std.proofs.Common.{◌≡◌, ℕ, ◌+◌, ◌-◌, ◌<◌, ◌≤◌, arith, refl, sym, ◌∙◌, ap, Bool, true, false, not, List, ◌++◌, length, map, take, drop, replicate, get_or, ⊎_elim}
use Rattle.std.specs.List.{range_with_len}
use Rattle.std.proofs.lemmas.Bool.{cases_lt}
use Rattle.std.proofs.lemmas.List.{ext_get_or, get_or_append_left, get_or-append_right, get_or-take, get_or-drop, get_or-replicate, length-append, length-take, length-drop, length-replicate}
use Rattle.std.proofs.lemmas.List.FromFn.{get_or-map-range_with_len, length-map-range_with_len}
use Rattle.udf_claims.specs.Winner.{claimed}
use Rattle.udf_claims.specs.declared.run.Run.{Run}
use Rattle.udf_file_model.specs.Address.{addr}
use Rattle.udf_file_model.specs.Listing.{Volume}
use Rattle.udf_contents.specs.After.{TellsTaken}
use Rattle.udf_tree_model.specs.Claimed.{is_free}
use Rattle.udf_tree_model.specs.Frame.{Frame}
use Rattle.udf_free.specs.declared.taken.Taken.{Taken}
use Rattle.udf_free.specs.Free.{StandsWhole, free_bits}
use Rattle.udf_free.specs.Taken.{IsNextTaken, NoneTaken, untaken}

-- up to a block the bits are those of the claims, and each bit behind it is set
pub record IsClaimedTo (rs : List Run) (blocks next : ℕ) (free : List Bool) : Type 0 where
  pub long : length free ≡ blocks
  pub within : next ≤ blocks
  pub told : (n : ℕ) → n < next → get_or free n false ≡ not (claimed rs (addr 0 n))
  pub rest : (n : ℕ) → next ≤ n → n < blocks → get_or free n false ≡ true

pub none_claimed : (rs : List Run) (blocks : ℕ) → IsClaimedTo rs blocks 0 (replicate blocks true)
none_claimed rs blocks = record {
  long = length-replicate blocks true;
  within = omega arith;
  told = λ n low. absurd (omega arith);
  rest = λ n low high. get_or-replicate blocks n true false high;
}

pub run_claimed : (rs : List Run) (blocks next : ℕ) (free new : List Bool) (run : Taken) → IsClaimedTo rs blocks next free → IsNextTaken rs next blocks run
    → new ≡ take run.start free ++ replicate run.blocks false ++ drop (run.start + run.blocks) free → IsClaimedTo rs blocks (run.start + run.blocks) new
run_claimed rs blocks next free new run h taken is = record {
  long = ap length is ∙ (let e : length (take start free ++ replicate many false ++ behind) ≡ blocks = omega (
    arith,
    length-append (take start free ++ replicate many false) behind,
    both,
    length-drop (start + many) free,
    h.long,
    taken.within,
  ) in e);
  within = taken.within;
  told = λ n low. ap (λ xs. get_or xs n false) is ∙ ⊎_elim (first n) (second n low) (cases_lt n start);
  rest = λ n low high. ap (λ xs. get_or xs n false) is
      ∙ get_or-append_right (take start free ++ replicate many false) behind (start + many) n false both low
      ∙ get_or-drop (start + many) free (n - (start + many)) false
      ∙ ap (λ m. get_or free m false) (let e : start + many + (n - (start + many)) ≡ n = omega arith in e)
      ∙ h.rest n (omega (arith, taken.after)) high;
} where
  start : ℕ
  start = run.start

  many : ℕ
  many = run.blocks

  behind : List Bool
  behind = drop (start + many) free

  front : length (take start free) ≡ start
  front = omega (arith, length-take start free, h.long, taken.within)

  both : length (take start free ++ replicate many false) ≡ start + many
  both = omega (arith, length-append (take start free) (replicate many false), front, length-replicate many false)

  first : (n : ℕ) → n < start → get_or (take start free ++ replicate many false ++ behind) n false ≡ not (claimed rs (addr 0 n))
  first n low =
      get_or_append_left (take start free ++ replicate many false) behind false n (omega (arith, both))
      ∙ get_or_append_left (take start free) (replicate many false) false n (omega (arith, front))
      ∙ get_or-take start free n false low
      ∙ ⊎_elim (h.told n)
      (λ from. h.rest n from (omega (arith, taken.within)) ∙ sym (ap not (taken.before n from low))) (cases_lt n next)

  second : (n : ℕ) → n < start + many → start ≤ n → get_or (take start free ++ replicate many false ++ behind) n false ≡ not (claimed rs (addr 0 n))
  second n low from =
      get_or_append_left (take start free ++ replicate many false) behind false n (omega (arith, both))
      ∙ get_or-append_right (take start free) (replicate many false) start n false front from
      ∙ get_or-replicate many (n - start) false false (omega arith) ∙ sym (ap not (taken.taken n from low))

pub all_claimed : (rs : List Run) (blocks next : ℕ) (free : List Bool) → IsClaimedTo rs blocks next free → NoneTaken rs next blocks → free ≡ untaken rs blocks
unfolding untaken
all_claimed rs blocks next free h rest =
    ext_get_or false free (map (λ n. not (claimed rs (addr 0 n))) (range_with_len 0 blocks))
    (h.long ∙ sym (length-map-range_with_len (λ n. not (claimed rs (addr 0 n))) 0 blocks))
    (λ n low. let small : n < blocks = omega (arith, h.long) in
    ⊎_elim (h.told n) (λ from. h.rest n from small ∙ sym (ap not (rest.none n from small))) (cases_lt n next)
    ∙ sym (get_or-map-range_with_len (λ n. not (claimed rs (addr 0 n))) 0 blocks n n false small (omega arith)))

pub untaken_long : (rs : List Run) (blocks : ℕ) → length (untaken rs blocks) ≡ blocks
unfolding untaken
untaken_long rs blocks = length-map-range_with_len (λ n. not (claimed rs (addr 0 n))) 0 blocks

not_twice : (b : Bool) → not (not b) ≡ b
not_twice true = refl
not_twice false = refl

-- what is not claimed is free
pub untaken_free : (f : Frame) (v : Volume) (rs : List Run) (blocks : ℕ) → TellsTaken f v rs → StandsWhole v.place blocks → untaken rs blocks ≡ free_bits f v blocks
unfolding untaken free_bits
untaken_free f v rs blocks tells whole =
    ext_get_or false (map (λ n. not (claimed rs (addr 0 n))) (range_with_len 0 blocks)) (map (λ n. is_free f v (addr 0 n)) (range_with_len 0 blocks))
    (length-map-range_with_len (λ n. not (claimed rs (addr 0 n))) 0 blocks ∙ sym (length-map-range_with_len (λ n. is_free f v (addr 0 n)) 0 blocks))
    (λ n low. let small : n < blocks = omega (arith, length-map-range_with_len (λ n. not (claimed rs (addr 0 n))) 0 blocks) in
    get_or-map-range_with_len (λ n. not (claimed rs (addr 0 n))) 0 blocks n n false small (omega arith)
    ∙ ap not (tells.each (addr 0 n) (whole n small)) ∙ not_twice (is_free f v (addr 0 n))
    ∙ sym (get_or-map-range_with_len (λ n. is_free f v (addr 0 n)) 0 blocks n n false small (omega arith)))
