-- What the files stand for while the gate of a log is written.
use Rattle.std.proofs.Common.{◌≡◌, inl, inr, ⊎_elim, ◌<◌, ℕ, List, ◌∷◌, length, drop, refl, sym, ◌∙◌, subst, arith, Ok}
use Rattle.std.proofs.lemmas.Bool.{cases_eq}
use Rattle.std.proofs.lemmas.List.{length-drop}
use Rattle.udf_outside.specs.Stops.{Pair}
use Rattle.udf_redo.specs.Log.{opened, closed, state_of}
use Rattle.udf_redo.specs.declared.side.SideState.TheVariants.{Closed}
use Rattle.udf_redo.specs.Settled.{applied_to, IsOpenLog}
use Rattle.udf_redo.specs.Front.{IsGated}
use Rattle.udf_redo.specs.Runs.{IsOpening, IsClosing}
use Rattle.udf_redo.proofs.States.{settled_open, settled_shut, same_head, same_applied, opens_is, shut_gate, open_log_opens}

-- a fact of a pair, by its parts
pub at_pair : (P : Pair → Type 0) (pair : Pair) (image side : List ℕ) → pair.0 ≡ image → pair.1 ≡ side → P (image, side) → P pair
at_pair P pair image side is also at = subst (λ (i : List ℕ). P (i, pair.1)) (sym is) (subst (λ (s : List ℕ). P (image, s)) (sym also) at)

pub some_opened : (side image : List ℕ) → IsOpenLog (opened side) image → 0 < length side
some_opened side image log = omega (arith, (open_log_opens (opened side) image log).long, length-drop 1 side)

pub some_open : (side image : List ℕ) → IsOpenLog side image → 0 < length side
some_open side image log = omega (arith, (open_log_opens side image log).long)

opening_at : (side image : List ℕ) (byte : ℕ) → IsOpenLog (opened side) image → IsOpening side image (image, byte ∷ drop 1 side)
opening_at side image byte log =
    ⊎_elim
    (λ is. subst (λ (b : ℕ). IsOpening side image (image, b ∷ drop 1 side)) (sym is) (record {
      same_image = refl;
      goes_on = inr log;
      stands_for = inr (settled_open image (opened side) log ∙ same_applied side image 0x4F (some_opened side image log));
    }))
    (λ not. record {
      same_image = refl;
      goes_on = inl (inr (shut_gate (drop 1 side) byte (open_log_opens (opened side) image log) not));
      stands_for = inl (settled_shut image (byte ∷ drop 1 side) not);
    })
    (cases_eq byte 0x4F)

pub opening : (side image : List ℕ) → IsOpenLog (opened side) image → (pair : Pair) → IsGated image (drop 1 side) pair → IsOpening side image pair
opening side image log pair gated = at_pair (IsOpening side image) pair image (gated.1.0 ∷ drop 1 side) gated.0 gated.1.1 (opening_at side image gated.1.0 log)

-- an open log with its gate written as such
pub reopened : (side image : List ℕ) → IsOpenLog side image → IsOpenLog (opened side) image
reopened side image log = subst (λ (s : List ℕ). IsOpenLog s image) (opens_is side (open_log_opens side image log)) log

closing_at : (side image : List ℕ) (byte : ℕ) → IsOpenLog side image → applied_to side image ≡ image → IsClosing side image (image, byte ∷ drop 1 side)
closing_at side image byte log done =
    ⊎_elim
    (λ is. subst (λ (b : ℕ). IsClosing side image (image, b ∷ drop 1 side)) (sym is) (record {
      same_image = refl;
      same_head = same_head side 0x4F (some_open side image log);
      goes_on = inr (reopened side image log);
      stands_for = settled_open image (opened side) (reopened side image log) ∙ same_applied side image 0x4F (some_open side image log) ∙ done;
    }))
    (λ not. record {
      same_image = refl;
      same_head = same_head side byte (some_open side image log);
      goes_on = inl (inr (shut_gate (drop 1 side) byte (open_log_opens (opened side) image (reopened side image log)) not));
      stands_for = settled_shut image (byte ∷ drop 1 side) not;
    })
    (cases_eq byte 0x4F)

pub closing : (side image : List ℕ) → IsOpenLog side image → applied_to side image ≡ image → (pair : Pair) → IsGated image (drop 1 side) pair → IsClosing side image pair
closing side image log done pair gated = at_pair (IsClosing side image) pair image (gated.1.0 ∷ drop 1 side) gated.0 gated.1.1 (closing_at side image gated.1.0 log done)

pub closed_state : (side image : List ℕ) → IsOpenLog side image → state_of (closed side) ≡ Ok Closed
closed_state side image log = shut_gate (drop 1 side) 0 (open_log_opens (opened side) image (reopened side image log)) (λ e. cc)
