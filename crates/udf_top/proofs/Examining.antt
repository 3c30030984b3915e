-- What an examination answers at a block size, by what it answers of the volume.
use Rattle.std.proofs.Common.{◌≡◌, ℕ, List, Result, Ok, Err, OnOk, IsErrOf, refl, sym, ap, ◌∙◌, subst}
use Rattle.std.specs.Result.{IsErrAnd}
use Rattle.udf_model.specs.Image.{block_of}
use Rattle.udf_layer.specs.Causes.{layer_stop}
use Rattle.udf_layer.specs.declared.missing.Missing.{Missing}
use Rattle.udf_layer.specs.declared.missing.LayerStop.{LayerStop}
use Rattle.udf_layer.specs.declared.missing.LayerStop.TheVariants as stops
use Rattle.udf_layer.specs.declared.missing.WorkStop.{WorkStop}
use Rattle.udf_layer.specs.declared.missing.WorkStop.TheVariants as work_stops
use Rattle.udf_volume.specs.Taken.{Opens, opening}
use Rattle.udf_volume.specs.declared.volume.Volume.{Volume}
use Rattle.udf_files.specs.Files.{FindsFiles}
use Rattle.udf_rules.specs.declared.finding.Finding.{Finding}
use Rattle.udf_top.specs.Checking.{found_at, found_by, refusal_at, refusal_by}
use Rattle.udf_top.specs.Udffsck.{ExaminesAt, ExaminesVolume, RefusesCheck}

-- the rules on files were not all asked for
module _ {S : Type 0} (r : Result S LayerStop) (stop : WorkStop) (gives : IsErrAnd r (λ e. e ≡ layer_stop stop)) where
  pub as_stopped : r ≡ Err (layer_stop stop)
  as_stopped = by r gives
    where
      by : (x : Result S LayerStop) → IsErrAnd x (λ e. e ≡ layer_stop stop) → x ≡ Err (layer_stop stop)
      by (Ok found) g = absurd g
      by (Err e) g = ap (λ (k : LayerStop). Err k) g

  pub fault_of : {T : Type 0} → IsErrOf r stops.Fault → IsErrOf {T = T} (Err stop) work_stops.Fault
  fault_of {T} told = by stop (subst (λ x. IsErrOf x stops.Fault) as_stopped told)
    where
      by : (w : WorkStop) → IsErrOf {T = S} (Err (layer_stop w)) stops.Fault → IsErrOf {T = T} (Err w) work_stops.Fault
      by work_stops.Fault h = refl
      by work_stops.Memory h = absurd (cc)

  pub on_stopped : (P : Type 0) → OnOk r P
  on_stopped P = subst (λ x. OnOk x P) (sym as_stopped) tt

pub not_opened : (size : ℕ) (image : List ℕ) (e : LayerStop) → Opens (opening size image) (block_of size image) (Err e) → ExaminesAt size image (Err e)
unfolding refusal_at
not_opened size image (stops.Missing reason) is = ap (λ (r : Result Volume Missing). refusal_by r image) is
not_opened size image stops.Fault is = tt
not_opened size image stops.Memory is = tt

pub of_opened : (size : ℕ) (image : List ℕ) (volume : Volume) (r : Result (List Finding) LayerStop) → opening size image ≡ Ok volume → ExaminesVolume volume image r → ExaminesAt size image r
unfolding refusal_at found_at
of_opened size image volume (Ok findings) e (none, is) =
    (ap (λ (r : Result Volume Missing). refusal_by r image) e ∙ none, is ∙ sym (ap (λ (r : Result Volume Missing). found_by r image) e))
of_opened size image volume (Err (stops.Missing reason)) e is = ap (λ (r : Result Volume Missing). refusal_by r image) e ∙ is
of_opened size image volume (Err stops.Fault) e is = tt
of_opened size image volume (Err stops.Memory) e is = tt

pub not_found : (volume : Volume) (image : List ℕ) (e : LayerStop) → FindsFiles volume image (Err e) → ExaminesVolume volume image (Err e)
not_found volume image (stops.Missing reason) is = is
not_found volume image stops.Fault is = tt
not_found volume image stops.Memory is = tt

-- a fault or want of memory came
pub stopped : (volume : Volume) (image : List ℕ) (stop : WorkStop) → ExaminesVolume volume image (Err (layer_stop stop))
stopped volume image work_stops.Fault = tt
stopped volume image work_stops.Memory = tt

pub refuses_nothing : (stop : WorkStop) → RefusesCheck (layer_stop stop)
refuses_nothing work_stops.Fault = tt
refuses_nothing work_stops.Memory = tt
