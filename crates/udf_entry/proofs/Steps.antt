-- Reading a list piece by piece: what is read so far and what is left.
use Rattle.std.proofs.Common.{◌≡◌, Bool, true, false, cond, ◌&&◌, List, [], ◌∷◌, ◌++◌, append_assoc, sym, ◌∙◌, ap, refl}
use Rattle.std.proofs.lemmas.List.{append-nil}
use Rattle.udf_field.specs.declared.address.Addr.{Addr}
use Rattle.udf_file_model.specs.Descriptors.{Descriptor}
use Rattle.udf_entry.specs.Outcome.{Outcome, outcome, ended, with_front}
use Rattle.udf_file_model.specs.Pieces.{Piece, Extent, Blocks, blocks_each, runs_of, extents_of}
use Rattle.udf_file_model.specs.Front.{Rules, Past, with_run, with_extent, extent_passes, run_passes, run_front, good_front, is_good}

same_outcome : (a b : Outcome) → a.runs ≡ b.runs → a.extents ≡ b.extents → a.good ≡ b.good → a ≡ b
same_outcome a b p q r =
    let make : List Descriptor → List Addr → Bool → Outcome = λ x y z. record { runs = x; extents = y; good = z } in
    ap (λ x. make x a.extents a.good) p ∙ ap (λ y. make b.runs y a.good) q ∙ ap (λ z. make b.runs b.extents z) r

pub at_end : (r : Rules) (whole : Addr → Bool) (past : Past) → outcome r whole past [] ≡ ended past true
unfolding outcome good_front is_good runs_of extents_of
at_end r whole past = same_outcome _ _ (append-nil past.runs) (append-nil past.extents) refl

extent_front : (r : Rules) (whole : Addr → Bool) (past : Past) (x : Addr) (rest : List Piece) (b : Bool) → extent_passes r whole past x ≡ b
    → good_front r whole past (Extent x ∷ rest) ≡ cond b (Extent x ∷ good_front r whole (with_extent past x) rest) []
unfolding good_front
extent_front r whole past x rest b e = ap (λ t. cond t (Extent x ∷ good_front r whole (with_extent past x) rest) []) e

extent_good : (r : Rules) (whole : Addr → Bool) (past : Past) (x : Addr) (rest : List Piece) (b : Bool) → extent_passes r whole past x ≡ b
    → is_good r whole past (Extent x ∷ rest) ≡ (b && is_good r whole (with_extent past x) rest)
unfolding is_good
extent_good r whole past x rest b e = ap (λ t. t && is_good r whole (with_extent past x) rest) e

run_front_is : (r : Rules) (whole : Addr → Bool) (past : Past) (d : Descriptor) (rest : List Piece) (b : Bool) → run_passes r past d ≡ b
    → good_front r whole past (Blocks d ∷ rest) ≡ cond b (Blocks d ∷ good_front r whole (with_run past d) rest) (blocks_each (run_front r past d))
unfolding good_front
run_front_is r whole past d rest b e = ap (λ t. cond t (Blocks d ∷ good_front r whole (with_run past d) rest) (blocks_each (run_front r past d))) e

run_good : (r : Rules) (whole : Addr → Bool) (past : Past) (d : Descriptor) (rest : List Piece) (b : Bool) → run_passes r past d ≡ b
    → is_good r whole past (Blocks d ∷ rest) ≡ (b && is_good r whole (with_run past d) rest)
unfolding is_good
run_good r whole past d rest b e = ap (λ t. t && is_good r whole (with_run past d) rest) e

pub extent_goes_on : (r : Rules) (whole : Addr → Bool) (past : Past) (x : Addr) (rest : List Piece) → extent_passes r whole past x ≡ true
    → outcome r whole past (Extent x ∷ rest) ≡ outcome r whole (with_extent past x) rest
unfolding outcome runs_of extents_of
extent_goes_on r whole past x rest e =
    let f = extent_front r whole past x rest true e in
    same_outcome _ _
    (ap (λ l. past.runs ++ runs_of l) f)
    (ap (λ l. past.extents ++ extents_of l) f ∙ sym (append_assoc past.extents (x ∷ []) (extents_of (good_front r whole (with_extent past x) rest))))
    (extent_good r whole past x rest true e)

pub extent_fails : (r : Rules) (whole : Addr → Bool) (past : Past) (x : Addr) (rest : List Piece) → extent_passes r whole past x ≡ false
    → outcome r whole past (Extent x ∷ rest) ≡ ended past false
unfolding outcome runs_of extents_of
extent_fails r whole past x rest e =
    let f = extent_front r whole past x rest false e in
    same_outcome _ _
    (ap (λ l. past.runs ++ runs_of l) f ∙ append-nil past.runs)
    (ap (λ l. past.extents ++ extents_of l) f ∙ append-nil past.extents)
    (extent_good r whole past x rest false e)

pub run_goes_on : (r : Rules) (whole : Addr → Bool) (past : Past) (d : Descriptor) (rest : List Piece) → run_passes r past d ≡ true
    → outcome r whole past (Blocks d ∷ rest) ≡ outcome r whole (with_run past d) rest
unfolding outcome runs_of extents_of
run_goes_on r whole past d rest e =
    let f = run_front_is r whole past d rest true e in
    same_outcome _ _
    (ap (λ l. past.runs ++ runs_of l) f ∙ sym (append_assoc past.runs (d ∷ []) (runs_of (good_front r whole (with_run past d) rest))))
    (ap (λ l. past.extents ++ extents_of l) f)
    (run_good r whole past d rest true e)

runs_each : (ds : List Descriptor) → runs_of (blocks_each ds) ≡ ds
unfolding runs_of
runs_each [] = refl
runs_each (d ∷ ds) = ap (λ l. d ∷ l) (runs_each ds)

extents_each : (ds : List Descriptor) → extents_of (blocks_each ds) ≡ []
unfolding extents_of
extents_each [] = refl
extents_each (d ∷ ds) = extents_each ds

pub run_fails : (r : Rules) (whole : Addr → Bool) (past : Past) (d : Descriptor) (rest : List Piece) → run_passes r past d ≡ false
    → outcome r whole past (Blocks d ∷ rest) ≡ ended (with_front past (run_front r past d)) false
unfolding outcome
run_fails r whole past d rest e =
    let f = run_front_is r whole past d rest false e in
    same_outcome _ _
    (ap (λ l. past.runs ++ runs_of l) f ∙ ap (λ l. past.runs ++ l) (runs_each (run_front r past d)))
    (ap (λ l. past.extents ++ extents_of l) f ∙ ap (λ l. past.extents ++ l) (extents_each (run_front r past d)) ∙ append-nil past.extents)
    (run_good r whole past d rest false e)
