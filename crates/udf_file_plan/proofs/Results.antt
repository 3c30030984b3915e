-- What a call answered, said otherwise.
use Rattle.std.proofs.Common.{◌≡◌, ◌∙◌, List, ℕ}
use Rattle.std.specs.Prelude.{IfOk, OnOk, Result, Ok, Err}

pub ok_as : {T E : Type 0} (r : Result T E) (one : List ℕ) (seen : T → List ℕ) (other : List ℕ) → IfOk r (λ t. seen t ≡ one) → one ≡ other → IfOk r (λ t. seen t ≡ other)
ok_as (Ok t) one seen other h e = h ∙ e
ok_as (Err e) one seen other h is = tt

pub ok_then : {T E : Type 0} (r : Result T E) (P Q : Type 0) → OnOk r P → (P → Q) → OnOk r Q
ok_then (Ok t) P Q h f = f h
ok_then (Err e) P Q h f = tt
