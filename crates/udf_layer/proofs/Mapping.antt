-- The packet to which an original maps.
use Rattle.std.proofs.Common.{◌≡◌, ℕ, Bool, true, false, ◌+◌, ◌<◌, ◌==◌, ◌&&◌, nat_lt, cond, arith, refl, subst, Option, Some, List, [], ◌∷◌}
use Rattle.std.specs.List.{list_all, find}
use Rattle.std.specs.Option.{option_map}
use Rattle.std.proofs.lemmas.Bool.Decides.{nat_tests}
use Rattle.udf_layer.specs.Packets.{packets_fit}
use Rattle.udf_layer.specs.Indexes.{mapped_from}

both : (a b : Bool) → (a && b) ≡ true → (a ≡ true) × (b ≡ true)
both true true h = (refl, refl)
both true false h = absurd (cc)
both false b h = absurd (cc)

below_means : (a b : ℕ) → nat_lt a b ≡ true → a < b
below_means a b h = grind (arith, nat_tests)

fits_by : (test : Bool) (packet first : ℕ) (pair : ℕ × ℕ) (other : Option (ℕ × ℕ)) → nat_lt (pair.1 + packet) 4294967296 ≡ true
    → (option_map (λ (p : ℕ × ℕ). p.1) other ≡ Some first → first + packet < 4294967296)
    → option_map (λ (p : ℕ × ℕ). p.1) (cond test (Some pair) other) ≡ Some first → first + packet < 4294967296
fits_by true packet first pair other here there h =
    let e : pair.1 ≡ first = cc in let P : ℕ → Type 0 = λ n. n + packet < 4294967296 in
    subst P e (below_means (pair.1 + packet) 4294967296 here)
fits_by false packet first pair other here there h = there h

-- the packet of an entry ends in the numbers of sectors
pub ends_low : (packet : ℕ) (pairs : List (ℕ × ℕ)) (original first : ℕ) → packets_fit packet pairs ≡ true
    → mapped_from pairs original ≡ Some first → first + packet < 4294967296
unfolding packets_fit
ends_low packet [] original first fit h = absurd (cc)
ends_low packet (pair ∷ pairs) original first fit h =
    let t = both (nat_lt (pair.1 + packet) 4294967296) (list_all (λ p. nat_lt (p.1 + packet) 4294967296) pairs) fit in
    fits_by (pair.0 == original) packet first pair (find (λ p. p.0 == original) pairs) t.0 (λ e. ends_low packet pairs original first t.1 e) h
