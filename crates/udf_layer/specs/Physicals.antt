-- A physical layer is lawful.
use Rattle.std.specs.Prelude.{◌≡◌, ℕ, Bool, true, false, ◌+◌, ◌<◌, nat_lt, cond, Some, None}
use Rattle.std.proofs.Common.{arith, refl}
use Rattle.std.proofs.lemmas.Bool.Decides.{nat_tests}
use Rattle.udf_file_model.specs.Place.{physical_place}

within_by : (b : Bool) (x n count s : ℕ) → nat_lt n count ≡ b → cond b (Some x) None ≡ Some s → (n < count) × (x ≡ s)
within_by true x n count s e h = (grind (arith, nat_tests), cc)
within_by false x n count s e h = absurd (cc)

pub physical_is : (start count n s : ℕ) → physical_place start count n ≡ Some s → (n < count) × (start + n ≡ s)
unfolding physical_place
physical_is start count n s h = within_by (nat_lt n count) (start + n) n count s refl h

pub physical_within : (start count n s : ℕ) → physical_place start count n ≡ Some s → n < count
physical_within start count n s h = (physical_is start count n s h).0

pub physical_apart : (start count m n s : ℕ) → physical_place start count m ≡ Some s → physical_place start count n ≡ Some s → m ≡ n
physical_apart start count m n s g h =
    let p = physical_is start count m s g in let q = physical_is start count n s h in omega (arith, p.1, q.1)
