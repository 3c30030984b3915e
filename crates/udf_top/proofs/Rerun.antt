-- Repairs after repairs.
use Rattle.std.proofs.Common.{◌≡◌, inl, inr, ℕ, Option, Some, None, List, [], ◌∷◌, refl, sym, ◌∙◌}
use Rattle.std.proofs.Common.{Result, Ok, Err, true, subst}
use Rattle.udf_model.specs.Bytes.{IsBytes}
use Rattle.udf_model.specs.Size.{is_size}
use Rattle.udf_outside.specs.declared.bench.Role.TheVariants.{Image, Side}
use Rattle.udf_outside.specs.Stops.{Held, Pair, bytes_of, pair_of}
use Rattle.udf_mended_image.proofs.Repair.{still}
use Rattle.udf_redo.specs.declared.side.SideState.TheVariants.{Empty, Closed, Open}
use Rattle.udf_redo.specs.Log.{head_in}
use Rattle.udf_redo.specs.Settled.{settled, IsOpenLog, IsFree}
use Rattle.udf_volume_model.specs.Size.{size_of}
use Rattle.udf_mended_image.specs.Sized.{mend_as, mend_by, is_unbroken_as, unbroken_by}
use Rattle.std.proofs.Common.{ap}
use Rattle.udf_redo.specs.declared.stop.RedoStop.{RedoStop}
use Rattle.udf_redo.proofs.States.{settled_other}
use Rattle.udf_intact.specs.Images.{IsIntactAs, KeepsPathAs}
use Rattle.udf_intact.specs.Steps.{Step}
use Rattle.udf_intact.proofs.Images.{itself_as, mend_keeps_as}
use Rattle.udf_top.specs.Repairing.{replaying, target, target_by}
use Rattle.udf_top.specs.Headline.{IsDone}
use Rattle.udf_top.specs.Chains.{AreLeft, last_of}
use Rattle.udf_top.proofs.Settling.{settled_free}
use Rattle.udf_top.proofs.Safe.{can_go, not_open as unlogged, target_goes}

-- an image that breaks no rule is its own mended one
stays_as : (given : Option ℕ) (image : List ℕ) → is_unbroken_as given image ≡ true → mend_as given image ≡ image
stays_as given image unbroken = by_size (size_of given image) unbroken where
  by_size : (found : Option ℕ) → unbroken_by found image ≡ true → mend_by found image ≡ image
  by_size None e = refl
  by_size (Some size) e = still size image e

pub chained : (given : Option ℕ) (start : Pair) (pairs : List Pair) → AreLeft given start pairs → target given (last_of start pairs) ≡ target given start
chained given start [] left = refl
chained given start (pair ∷ rest) left = chained given pair rest left.1 ∙ left.0.same_target

pub not_open : (side image : List ℕ) → IsFree side → IsOpenLog side image → ⊥
not_open side image (inl empty) log = absurd (let no : Ok Empty ≡ Ok (Open (head_in side)) = sym empty ∙ log.lawful in cc)
not_open side image (inr closed) log = absurd (let no : Ok Closed ≡ Ok (Open (head_in side)) = sym closed ∙ log.lawful in cc)

pub settled_done : (given : Option ℕ) (start : Pair) (end : Held) → IsDone given start end → settled (pair_of end) ≡ bytes_of Image end
settled_done given start end done = settled_free (bytes_of Image end) (bytes_of Side end) done.side

pub target_done : (given : Option ℕ) (start : Pair) (end : Held) → IsDone given start end → target given (pair_of end) ≡ bytes_of Image end
target_done given start end done =
    target_goes (bytes_of Image end) (bytes_of Side end) given (inl done.side)
    ∙ ap (mend_as given) (settled_done given start end done)
    ∙ stays_as given (bytes_of Image end) done.unbroken

-- the image in which repairs of the files end keeps the paths of the settled one that no damage touches
pub target_keeps : (given : Option ℕ) (size : ℕ) (start : Pair) → is_size size ≡ true → IsBytes (settled start) → size_of given (settled start) ≡ Some size
    → (steps : List Step) → IsIntactAs given (settled start) steps → KeepsPathAs given (settled start) (target given start) steps
target_keeps given size start known bytes sized steps intact = by (replaying start) refl
  where
    keeps : (after : List ℕ) → after ≡ target given start → KeepsPathAs given (settled start) after steps → KeepsPathAs given (settled start) (target given start) steps
    keeps after e k = subst (λ (x : List ℕ). KeepsPathAs given (settled start) x steps) e k

    stays : (why : RedoStop) → replaying start ≡ Err why → settled start ≡ target given start
    stays why e =
        settled_other start.0 start.1 (unlogged start.0 start.1 why e)
        ∙ sym (unfold target in ap (λ (r : Result ℕ RedoStop). target_by given r start.0 (settled start)) e)

    by : (r : Result ℕ RedoStop) → replaying start ≡ r → KeepsPathAs given (settled start) (target given start) steps
    by (Ok k) e =
        keeps (mend_as given (settled start)) (sym (target_goes start.0 start.1 given (can_go start.0 start.1 k e)))
        (mend_keeps_as given size (settled start) known bytes sized steps intact)
    by (Err why) e = keeps (settled start) (stays why e) (itself_as given (settled start) steps intact)
