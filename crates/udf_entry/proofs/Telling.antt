-- What intervals tell of what stood, after one more.
use Rattle.std.proofs.Common.{◌≡◌, ℕ, zero, suc, cond, inl, inr, Bool, true, false, ◌+◌, ◌-◌, ◌<◌, ◌≤◌, ◌||◌, arith, sym, ◌∙◌, ap, subst, refl, List, [], ◌∷◌, ◌++◌, not, ◌&&◌}
use Rattle.std.specs.Prelude.{is_some}
use Rattle.std.specs.List.{list_any}
use Rattle.std.specs.BTreeMap.{BTreeMap}
use Rattle.std.proofs.lemmas.List.{map-append}
use Rattle.udf_field.specs.declared.address.Addr.{Addr}
use Rattle.udf_file_model.specs.Descriptors.{Descriptor}
use Rattle.udf_file_model.specs.Address.{addr, same_addr, Places, part_place, placed_blocks}
use Rattle.udf_file_model.specs.Place.{IsPlacedFront}
use Rattle.udf_file_model.proofs.Fronts.{front_means}
use Rattle.std.proofs.lemmas.Bool.{cases_lt}
use Rattle.udf_file_model.specs.Front.{Past, is_hole, is_part, blocks_for, covers, stood, with_run, with_extent, nothing_yet, Rules, is_new, new_blocks, new_in}
use Rattle.udf_file_model.specs.Pieces.{bytes_in}
use Rattle.udf_file_model.proofs.Standing.{stood_first, stood_run, stood_hole, stood_extent, covers_means, covers_not, same_means, same_not, new_means, new_each, new_few}
use Rattle.udf_entry.specs.RunView.{past_seen, run_seen, runs_seen}
use Rattle.udf_entry.specs.Intervals.{IsFree, IsOff, Tells, number}
use Rattle.udf_entry.specs.declared.run.Run.{Run}

-- what adding an interval leaves
pub record Added (old new : BTreeMap ℕ ℕ) (start count : ℕ) : Type 0 where
  pub off : (x : ℕ) → IsOff new x → IsOff old x
  pub outside : (x : ℕ) → IsOff new x → start ≤ x → x < start + count → ⊥
  pub only : (x : ℕ) → IsOff old x → (start ≤ x → x < start + count → ⊥) → IsOff new x

-- the interval has the numbers of just those addresses
pub record Spans (extra : Addr → Bool) (start count : ℕ) : Type 0 where
  pub inside : (a : Addr) → a.block < 8589934592 → extra a ≡ true → (start ≤ number a) × (number a < start + count)
  pub outside : (a : Addr) → a.block < 8589934592 → extra a ≡ false → start ≤ number a → number a < start + count → ⊥

tells_more : (old new : BTreeMap ℕ ℕ) (start count : ℕ) (before after extra : Addr → Bool) → Tells old before → Added old new start count
    → Spans extra start count → ((a : Addr) → after a ≡ (before a || extra a)) → Tells new after
tells_more old new start count before after extra tells added spans is = record {
  off = λ a low h. is a ∙ none (before a) (extra a) (tells.off a low (added.off (number a) h)) (off_by (extra a) a refl low h);
  on = λ a low h.
      let t = apart (before a) (extra a) (sym (is a) ∙ h) in
      added.only (number a) (tells.on a low t.0) (spans.outside a low t.1);
}
  where
    none : (b c : Bool) → b ≡ false → c ≡ false → (b || c) ≡ false
    none true c e f = e
    none false c e f = f

    apart : (b c : Bool) → (b || c) ≡ false → (b ≡ false) × (c ≡ false)
    apart true c h = absurd (cc)
    apart false c h = (refl, h)

    off_by : (b : Bool) (a : Addr) → extra a ≡ b → a.block < 8589934592 → IsOff new (number a) → extra a ≡ false
    off_by true a e low h = let t = spans.inside a low e in absurd (added.outside (number a) h t.0 t.1)
    off_by false a e low h = e

pub spans_one : (x : Addr) → x.block < 8589934592 → Spans (λ a. same_addr a x) (number x) 1
spans_one x low = record {
  inside = λ a h e. let t = same_means a x e in (omega (arith, t.0, t.1), omega (arith, t.0, t.1));
  outside = λ a h e l u.
      let p : a.part ≡ x.part = omega arith in
      let q : a.block ≡ x.block = omega (arith, p) in same_not a x e p q;
}

pub spans_own : (x : Addr) → x.block < 8589934592 → Spans (λ a. same_addr x a) (number x) 1
spans_own x low = record {
  inside = λ a h e. let t = same_means x a e in (omega (arith, t.0, t.1), omega (arith, t.0, t.1));
  outside = λ a h e l u.
      let p : x.part ≡ a.part = omega arith in
      let q : x.block ≡ a.block = omega (arith, p) in same_not x a e p q;
}

pub spans_run : (size : ℕ) (d : Descriptor) → is_hole d ≡ false → d.at.block + blocks_for size d.length ≤ 8589934592
    → Spans (λ a. covers size a d) (number d.at) (blocks_for size d.length)
spans_run size d hole low = record {
  inside = λ a h e. let t = covers_means size a d e in (omega (arith, t.0, t.1, t.2), omega (arith, t.0, t.1, t.2));
  outside = λ a h e l u.
      let p : d.at.part ≡ a.part = omega arith in
      covers_not size a d hole e p (omega (arith, p)) (omega (arith, p));
}

pub tells_own : (old new : BTreeMap ℕ ℕ) (size : ℕ) (own : Addr) → own.block < 8589934592 → ((x : ℕ) → IsOff old x)
    → Added old new (number own) 1 → Tells new (stood size own nothing_yet)
tells_own old new size own low empty added =
    tells_more old new (number own) 1 (λ a. false) (stood size own nothing_yet) (λ a. same_addr own a)
    (record { off = λ a l h. refl; on = λ a l h. empty (number a) }) added (spans_own own low) (λ a. stood_first size own a)

pub nothing_seen : (old new : BTreeMap ℕ ℕ) (size : ℕ) (own : Addr) (start : ℕ) (runs : List Run) (extents : List Addr) → start ≡ number own
    → own.block < 8589934592 → ((x : ℕ) → IsOff old x) → Added old new start 1 → runs ≡ [] → extents ≡ [] → Tells new (stood size own (past_seen runs extents))
nothing_seen old new size own start runs extents at low empty added no_runs no_extents =
    let A : ℕ → Type 0 = λ s. Added old new s 1 in
    let P : List Run → Type 0 = λ l. Tells new (stood size own (past_seen l extents)) in
    let Q : List Addr → Type 0 = λ l. Tells new (stood size own (past_seen [] l)) in
    subst P (sym no_runs) (subst Q (sym no_extents) (tells_own old new size own low empty (subst A at added)))

pub tells_run : (old new : BTreeMap ℕ ℕ) (size : ℕ) (own : Addr) (past : Past) (d : Descriptor) → is_hole d ≡ false
    → d.at.block + blocks_for size d.length ≤ 8589934592 → Tells old (stood size own past)
    → Added old new (number d.at) (blocks_for size d.length) → Tells new (stood size own (with_run past d))
tells_run old new size own past d hole low tells added =
    tells_more old new (number d.at) (blocks_for size d.length) (stood size own past) (stood size own (with_run past d)) (λ a. covers size a d)
    tells added (spans_run size d hole low) (λ a. stood_run size own past d a)

pub tells_extent : (old new : BTreeMap ℕ ℕ) (size : ℕ) (own : Addr) (past : Past) (x : Addr) → x.block < 8589934592
    → Tells old (stood size own past) → Added old new (number x) 1 → Tells new (stood size own (with_extent past x))
tells_extent old new size own past x low tells added =
    tells_more old new (number x) 1 (stood size own past) (stood size own (with_extent past x)) (λ a. same_addr a x)
    tells added (spans_one x low) (λ a. stood_extent size own past x a)

-- the numbers of blocks that did not stand are free
pub off_span : (runs : BTreeMap ℕ ℕ) (held : Addr → Bool) (at : Addr) (count : ℕ) → Tells runs held → at.block + count ≤ 8589934592
    → ((k : ℕ) → k < count → held (addr at.part (at.block + k)) ≡ false)
    → (x : ℕ) → number at ≤ x → x < number at + count → IsOff runs x
off_span runs held at count tells low free x from to =
    let k : x - number at < count = omega arith in
    let same : number (addr at.part (at.block + (x - number at))) ≡ x = omega arith in
    let P : ℕ → Type 0 = λ n. IsOff runs n in
    subst P same (tells.on (addr at.part (at.block + (x - number at))) (omega arith) (free (x - number at) k))

seen_push : (runs more : List Run) (run : Run) → more ≡ runs ++ run ∷ [] → runs_seen more ≡ runs_seen runs ++ run_seen run ∷ []
seen_push runs more run e = ap runs_seen e ∙ map-append run_seen runs (run ∷ [])

bytes_push : (ds : List Descriptor) (d : Descriptor) → bytes_in (ds ++ d ∷ []) ≡ bytes_in ds + d.length
bytes_push [] d = omega arith
bytes_push (x ∷ ds) d = omega (arith, bytes_push ds d)

any_push : {X : Type 0} (test : X → Bool) (xs : List X) (x : X) → list_any test (xs ++ x ∷ []) ≡ (list_any test xs || test x)
any_push test [] x = or_false (test x)
  where
    or_false : (b : Bool) → (b || false) ≡ (false || b)
    or_false true = refl
    or_false false = refl
any_push test (y ∷ ys) x = ap (λ b. test y || b) (any_push test ys x) ∙ sym (or_assoc (test y) (list_any test ys) (test x))
  where
    or_assoc : (a b c : Bool) → ((a || b) || c) ≡ (a || (b || c))
    or_assoc true b c = refl
    or_assoc false b c = refl

pub past_push : (runs more : List Run) (extents : List Addr) (run : Run) → more ≡ runs ++ run ∷ []
    → past_seen more extents ≡ with_run (past_seen runs extents) (run_seen run)
past_push runs more extents run e =
    let make : List Descriptor → Past = λ l. record { runs = l; extents = extents } in ap make (seen_push runs more run e)

pub bytes_more : (runs more : List Run) (run : Run) (total : ℕ) → more ≡ runs ++ run ∷ [] → total ≡ bytes_in (runs_seen runs)
    → total + run.length ≡ bytes_in (runs_seen more)
bytes_more runs more run total e h = omega (arith, h, ap bytes_in (seen_push runs more run e), bytes_push (runs_seen runs) (run_seen run))

pub part_more : (size : ℕ) (runs more : List Run) (run : Run) (parted : Bool) → more ≡ runs ++ run ∷ []
    → parted ≡ list_any (is_part size) (runs_seen runs) → (parted || is_part size (run_seen run)) ≡ list_any (is_part size) (runs_seen more)
part_more size runs more run parted e h =
    ap (λ b. b || is_part size (run_seen run)) h ∙ sym (any_push (is_part size) (runs_seen runs) (run_seen run))
    ∙ ap (list_any (is_part size)) (sym (seen_push runs more run e))

pub told_run : (old new : BTreeMap ℕ ℕ) (size : ℕ) (own : Addr) (runs more : List Run) (extents : List Addr) (run : Run) (start count : ℕ)
    → more ≡ runs ++ run ∷ [] → start ≡ number run.at → count ≡ blocks_for size run.length → is_hole (run_seen run) ≡ false
    → run.at.block + blocks_for size run.length ≤ 8589934592 → Tells old (stood size own (past_seen runs extents))
    → Added old new start count → Tells new (stood size own (past_seen more extents))
told_run old new size own runs more extents run start count e at many hole low tells added =
    let P : Past → Type 0 = λ p. Tells new (stood size own p) in
    let A : ℕ → Type 0 = λ s. Added old new s count in
    let B : ℕ → Type 0 = λ c. Added old new (number run.at) c in
    subst P (sym (past_push runs more extents run e))
    (tells_run old new size own (past_seen runs extents) (run_seen run) hole low tells (subst B many (subst A at added)))

pub told_hole : (map : BTreeMap ℕ ℕ) (size : ℕ) (own : Addr) (runs more : List Run) (extents : List Addr) (run : Run)
    → more ≡ runs ++ run ∷ [] → is_hole (run_seen run) ≡ true → Tells map (stood size own (past_seen runs extents))
    → Tells map (stood size own (past_seen more extents))
told_hole map size own runs more extents run e hole tells =
    let P : Past → Type 0 = λ p. Tells map (stood size own p) in
    let same = λ (a : Addr). stood_hole size own (past_seen runs extents) (run_seen run) a hole in
    subst P (sym (past_push runs more extents run e)) (record {
      off = λ a low h. same a ∙ tells.off a low h;
      on = λ a low h. tells.on a low (sym (same a) ∙ h);
    })

pub told_extent : (old new : BTreeMap ℕ ℕ) (size : ℕ) (own : Addr) (runs : List Run) (extents more : List Addr) (x : Addr) (start : ℕ)
    → more ≡ extents ++ x ∷ [] → start ≡ number x → x.block < 8589934592 → Tells old (stood size own (past_seen runs extents))
    → Added old new start 1 → Tells new (stood size own (past_seen runs more))
told_extent old new size own runs extents more x start e at low tells added =
    let P : List Addr → Type 0 = λ l. Tells new (stood size own (past_seen runs l)) in
    let A : ℕ → Type 0 = λ s. Added old new s 1 in
    subst P (sym e) (tells_extent old new size own (past_seen runs extents) x low tells (subst A at added))

pub off_numbers : (runs : BTreeMap ℕ ℕ) (held : Addr → Bool) (at : Addr) (start count many : ℕ) → start ≡ number at → count ≡ many → Tells runs held
    → at.block + many ≤ 8589934592 → ((k : ℕ) → k < many → held (addr at.part (at.block + k)) ≡ false)
    → (x : ℕ) → start ≤ x → x < start + count → IsOff runs x
off_numbers runs held at start count many from as_many tells low free x l u =
    off_span runs held at many tells low free x (omega (arith, from)) (omega (arith, from, as_many))

-- so many blocks of a run are placed, so many of them did not stand before: as many are new
new_by : (r : Rules) (past : Past) (part block n m : ℕ) → m ≤ n → ((k : ℕ) → k < m → is_new r past (addr part (block + k)) ≡ true)
    → (m < n → is_new r past (addr part (block + m)) ≡ false) → m ≡ new_blocks r past part block n
unfolding new_blocks
new_by r past part block zero zero few all stop = refl
new_by r past part block zero (suc m) few all stop = absurd (omega arith)
new_by r past part block (suc n) zero few all stop = sym (ap (λ t. cond t (suc (new_blocks r past part (block + 1) n)) 0) here)
  where
    same : block + 0 ≡ block
    same = omega arith

    here : is_new r past (addr part block) ≡ false
    here = sym (ap (λ b. is_new r past (addr part b)) same) ∙ stop (omega arith)
new_by r past part block (suc n) (suc m) few all stop =
    ap suc (new_by r past part (block + 1) n m (omega arith)
    (λ k l. ap (λ b. is_new r past (addr part b)) (next k) ∙ all (suc k) (omega arith))
    (λ l. ap (λ b. is_new r past (addr part b)) (next m) ∙ stop (omega arith)))
    ∙ sym (ap (λ t. cond t (suc (new_blocks r past part (block + 1) n)) 0) here)
  where
    next : (k : ℕ) → block + 1 + k ≡ block + suc k
    next k = omega arith

    same : block + 0 ≡ block
    same = omega arith

    here : is_new r past (addr part block) ≡ true
    here = sym (ap (λ b. is_new r past (addr part b)) same) ∙ all 0 (omega arith)

pub new_run : (r : Rules) (past : Past) (place : Places) (runs : BTreeMap ℕ ℕ) (at : Addr) (start count placed new : ℕ)
    → ((a : Addr) → r.placed a ≡ is_some (place a)) → start ≡ number at → at.block < 4294967296 → count < 4294967296 → Tells runs (stood r.size r.own past)
    → placed ≡ placed_blocks place at count → IsFree runs start placed new → new ≡ new_blocks r past at.part at.block count
unfolding is_new placed_blocks
new_run r past place runs at start count placed new is first low small tells many free =
    new_by r past at.part at.block count new (omega (arith, free.within, within.within)) each stop
  where
    within : IsPlacedFront (part_place place at.part) at.block count placed
    within = front_means (part_place place at.part) at.block count placed (sym many)

    number_is : (k : ℕ) → start + k ≡ number (addr at.part (at.block + k))
    number_is k = omega (arith, first)

    both : (a b : Bool) → a ≡ true → b ≡ false → (a && not b) ≡ true
    both true false e f = refl
    both true true e f = absurd (cc)
    both false b e f = absurd (cc)

    neither : (a b : Bool) → b ≡ true → (a && not b) ≡ false
    neither true true e = refl
    neither true false e = absurd (cc)
    neither false b e = refl

    off_place : (a b : Bool) → a ≡ false → (a && not b) ≡ false
    off_place true b e = absurd (cc)
    off_place false b e = refl

    placed_at : (k : ℕ) → k < placed → r.placed (addr at.part (at.block + k)) ≡ true
    placed_at k l = is (addr at.part (at.block + k)) ∙ within.placed k l

    each : (k : ℕ) → k < new → (r.placed (addr at.part (at.block + k)) && not (stood r.size r.own past (addr at.part (at.block + k)))) ≡ true
    each k l =
        let P : ℕ → Type 0 = λ n. IsOff runs n in
        both (r.placed (addr at.part (at.block + k))) (stood r.size r.own past (addr at.part (at.block + k))) (placed_at k (omega (arith, free.within, l)))
        (tells.off (addr at.part (at.block + k)) (omega (arith, l, free.within, within.within)) (subst P (number_is k) (free.off k l)))

    not_off : (b : Bool) → (b ≡ false → ⊥) → b ≡ true
    not_off true h = refl
    not_off false h = absurd (h refl)

    stop : new < count → (r.placed (addr at.part (at.block + new)) && not (stood r.size r.own past (addr at.part (at.block + new)))) ≡ false
    stop l = elim (cases_lt new placed) [
      | inl before ↦
          let P : ℕ → Type 0 = λ n. IsOff runs n in
          neither (r.placed (addr at.part (at.block + new))) (stood r.size r.own past (addr at.part (at.block + new)))
          (not_off (stood r.size r.own past (addr at.part (at.block + new)))
          (λ e. free.ends before (subst P (sym (number_is new)) (tells.on (addr at.part (at.block + new)) (omega arith) e))))
      | inr after ↦
          let same : new ≡ placed = omega (arith, free.within, after) in
          off_place (r.placed (addr at.part (at.block + new))) (stood r.size r.own past (addr at.part (at.block + new)))
          (is (addr at.part (at.block + new)) ∙ ap (λ n. is_some (place (addr at.part (at.block + n)))) same ∙ ap is_some (within.ends (omega (arith, same, l))))
    ]

-- how many blocks of a descriptor are new, as it was counted
pub new_is : (r : Rules) (past : Past) (d : Descriptor) (blocks new : ℕ) → blocks ≡ blocks_for r.size d.length
    → new ≡ new_blocks r past d.at.part d.at.block blocks → new ≡ new_in r past d
new_is r past d blocks new e f = f ∙ ap (new_blocks r past d.at.part d.at.block) e

pub free_blocks : (r : Rules) (past : Past) (d : Descriptor) (blocks new : ℕ) → blocks ≡ blocks_for r.size d.length
    → new ≡ new_blocks r past d.at.part d.at.block blocks
    → (k : ℕ) → k < new → stood r.size r.own past (addr d.at.part (d.at.block + k)) ≡ false
free_blocks r past d blocks new e f k h =
    (new_means r past (addr d.at.part (d.at.block + k)) (new_each r past d.at.part d.at.block blocks k (omega (arith, f, h)))).1

pub fewer_blocks : (r : Rules) (past : Past) (d : Descriptor) (blocks new : ℕ) → blocks ≡ blocks_for r.size d.length
    → new ≡ new_blocks r past d.at.part d.at.block blocks → (new ≡ blocks → ⊥) → new < blocks_for r.size d.length
fewer_blocks r past d blocks new e f apart =
    let few : new ≤ blocks = omega (arith, f, new_few r past d.at.part d.at.block blocks) in
    let less : new < blocks = grind (arith, apart) in
    omega (arith, e, less)
