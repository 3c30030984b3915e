-- How a write in memory ends.
use Rattle.std.proofs.Common.{◌≡◌, ◌⊎◌, inl, inr, ℕ, ◌+◌, ◌≤◌, max, min, List, length, take, arith, refl, sym, ◌∙◌, ap, ⊎_elim, true, false, Result, Ok, Err, is_ok, OnOk, OnErr}
use Rattle.std.proofs.lemmas.List.{same_lists, places, length-take-le, take_all}
use Rattle.udf_outside.specs.declared.bench.Role.{Role}
use Rattle.udf_outside.specs.declared.bench.Role.TheVariants.{Image, Side}
use Rattle.udf_outside.specs.declared.memory.script.Turn.{Turn}
use Rattle.udf_outside.specs.declared.memory.script.Turn.TheVariants.{Works, Fails, Stops, Over}
use Rattle.udf_outside.specs.Files.{Files, file_of, resized, Resizes}
use Rattle.udf_outside.specs.Stops.{Held, bytes_of, put, Torn, moved_on, after_write, Writes}
use Rattle.udf_outside.specs.Memory.{left_by}
use Rattle.udf_outside.specs.Script.{Scripted, Ends, with_write}
use Rattle.udf_outside.specs.Numbered.{next_number}

pub length_put : (old bytes : List ℕ) (at : ℕ) → at ≤ length old → length (put old at bytes) ≡ max (length old) (at + length bytes)
length_put old bytes at le = grind (arith, places)

-- a write of which a part was done
pub put_torn : (old bytes : List ℕ) (at n : ℕ) → at ≤ length old → length bytes ≤ n → Torn at n old (put old at bytes)
put_torn old bytes at n within le = record {
  before = same_lists _ _ (grind (arith, places)) (λ k d h. grind (arith, places));
  after = same_lists _ _ (grind (arith, places)) (λ k d h. grind (arith, places));
  no_shorter = omega (arith, length_put old bytes at within);
  no_longer = omega (arith, length_put old bytes at within);
}

bytes_after : (role : Role) (at n : ℕ) (bytes : List ℕ) (held : Held) → bytes_of role (after_write role at n bytes held) ≡ bytes
unfolding after_write moved_on
bytes_after Image at n bytes held = refl
bytes_after Side at n bytes held = refl

torn_by : (role : Role) (at done : ℕ) (bytes : List ℕ) (old new : Held) {T E : Type 0} (e : E) → at ≤ length (bytes_of role old) → done ≤ length bytes
    → new ≡ after_write role at (length bytes) (put (bytes_of role old) at (take done bytes)) old → Writes {T = T} {E = E} role at bytes old new (Err e)
torn_by role at done bytes old new e within less left = record {
  done = tt;
  failed = inr (put (bytes_of role old) at (take done bytes), put_torn (bytes_of role old) (take done bytes) at (length bytes) within (omega (arith, length-take-le done bytes less)), left);
}

-- a write that ended by its turn, or found no memory
pub write_ends : (turn : Turn) (role : Role) (at : ℕ) (bytes : List ℕ) (old new : Held) (script script' : Scripted) {A B T E : Type 0} (found : Result A B) (result : Result T E)
    → at ≤ length (bytes_of role old) → Ends turn (is_ok found) script script' result → OnOk found (new ≡ left_by turn role at bytes old) → OnErr found (new ≡ old) → Writes role at bytes old new result
write_ends turn role at bytes old new script script' (Err none) (Ok x) within ends left same = absurd (let no : false ≡ true = ends.works.1 in cc)
write_ends turn role at bytes old new script script' (Err none) (Err e) within ends left same = record { done = tt; failed = inl same }
write_ends Works role at bytes old new script script' (Ok some) (Ok x) within ends left same = record {
  done = left ∙ ap (λ (l : List ℕ). after_write role at (length bytes) (put (bytes_of role old) at l) old) (take_all (length bytes) bytes (omega arith));
  failed = tt;
}
write_ends Fails role at bytes old new script script' (Ok some) (Ok x) within ends left same = absurd (let no : Fails ≡ Works = ends.works.0 in cc)
write_ends (Stops n) role at bytes old new script script' (Ok some) (Ok x) within ends left same = absurd (let no : Stops n ≡ Works = ends.works.0 in cc)
write_ends Over role at bytes old new script script' (Ok some) (Ok x) within ends left same = absurd (let no : Over ≡ Works = ends.works.0 in cc)
write_ends Works role at bytes old new script script' (Ok some) (Err e) within ends left same = torn_by role at (length bytes) bytes old new e within (omega arith) left
write_ends Fails role at bytes old new script script' (Ok some) (Err e) within ends left same = torn_by role at 0 bytes old new e within (omega arith) left
write_ends (Stops n) role at bytes old new script script' (Ok some) (Err e) within ends left same = torn_by role at (min (length bytes) n) bytes old new e within (omega arith) left
write_ends Over role at bytes old new script script' (Ok some) (Err e) within ends left same = record { done = tt; failed = inl left }

size_resized : (role : Role) (n : ℕ) (files : Files) → (file_of role (resized role n files)).size ≡ n
size_resized Image n files = refl
size_resized Side n files = refl

-- the sizes follow what is held
pub write_resizes : (role : Role) (at : ℕ) (bytes : List ℕ) (files files' : Files) (old new : Held) {T E : Type 0} (result : Result T E) → at ≤ length (bytes_of role old)
    → (file_of role files).size ≡ length (bytes_of role old) → files' ≡ resized role (length (bytes_of role new)) files → Writes role at bytes old new result
    → Resizes role (at + length bytes) files files' result
write_resizes role at bytes files files' old new (Ok x) within size moved writes =
    let now : (file_of role files').size ≡ length (bytes_of role new) = ap (λ (f : Files). (file_of role f).size) moved ∙ size_resized role (length (bytes_of role new)) files in
    let long : length (bytes_of role new) ≡ max (length (bytes_of role old)) (at + length bytes) =
    ap (λ (h : Held). length (bytes_of role h)) writes.done ∙ ap length (bytes_after role at (length bytes) (put (bytes_of role old) at bytes) old) ∙ length_put (bytes_of role old) bytes at within in
    record {
      only = moved ∙ ap (λ (n : ℕ). resized role n files) (sym now);
      done = omega arith;
      no_smaller = omega arith;
      no_larger = omega arith;
    }
write_resizes role at bytes files files' old new (Err e) within size moved writes =
    let now : (file_of role files').size ≡ length (bytes_of role new) = ap (λ (f : Files). (file_of role f).size) moved ∙ size_resized role (length (bytes_of role new)) files in
    let bounds : (length (bytes_of role old) ≤ length (bytes_of role new)) × (length (bytes_of role new) ≤ max (length (bytes_of role old)) (at + length bytes)) =
    ⊎_elim (λ same. let e = ap (λ (h : Held). length (bytes_of role h)) same in (omega arith, omega arith))
    (λ left. let e : length (bytes_of role new) ≡ length left.0 = ap (λ (h : Held). length (bytes_of role h)) left.2 ∙ ap length (bytes_after role at (length bytes) left.0 old) in
    (omega (arith, left.1.no_shorter), omega (arith, left.1.no_longer))) writes.failed in
    record {
      only = moved ∙ ap (λ (n : ℕ). resized role n files) (sym now);
      done = tt;
      no_smaller = omega arith;
      no_larger = omega arith;
    }

pub counted_spared : (role : Role) (script : Scripted) → (with_write role script).spared ≡ script.spared
counted_spared Image script = refl
counted_spared Side script = refl

pub counted_wants : (role : Role) (script : Scripted) → (with_write role script).wants ≡ script.wants
counted_wants Image script = refl
counted_wants Side script = refl

-- a call ended: it was carried out, or found no memory
pub carries : (turn : Turn) (script script' : Scripted) {A B T E : Type 0} (found : Result A B) (result : Result T E) (H K : Type 0) → Ends turn (is_ok found) script script' result
    → OnOk found H → OnErr found K
    → (H × (script'.spared ≡ script.spared) × (script'.wants ≡ script.wants)) ⊎ (K × (script'.spared ≡ script.spared) × (script'.wants ≡ next_number script.wants))
carries turn script script' (Ok some) (Ok x) H K ends done failed =
    inl (done, ap (λ (s : Scripted). s.spared) ends.works.2, ap (λ (s : Scripted). s.wants) ends.works.2)
carries turn script script' (Ok some) (Err e) H K ends done failed =
    ⊎_elim (λ left. inl (done, ap (λ (s : Scripted). s.spared) left.2, ap (λ (s : Scripted). s.wants) left.2)) (λ none. absurd (let no : true ≡ false = none.0 in cc)) ends.fails
carries turn script script' (Err none) (Ok x) H K ends done failed = absurd (let no : false ≡ true = ends.works.1 in cc)
carries turn script script' (Err none) (Err e) H K ends done failed =
    ⊎_elim (λ left. absurd (let no : false ≡ true = left.1 in cc)) (λ wanted. inr (failed, ap (λ (s : Scripted). s.spared) wanted.1, ap (λ (s : Scripted). s.wants) wanted.1)) ends.fails

pub both_ok : {A B : Type 0} (result : Result A B) (H K : Type 0) → OnOk result H → OnOk result K → OnOk result (H × K)
both_ok (Ok x) H K h k = (h, k)
both_ok (Err e) H K h k = tt

pub both_err : {A B : Type 0} (result : Result A B) (H K : Type 0) → OnErr result H → OnErr result K → OnErr result (H × K)
both_err (Ok x) H K h k = tt
both_err (Err e) H K h k = (h, k)
