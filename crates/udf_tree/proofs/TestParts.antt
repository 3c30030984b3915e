-- Where the blocks of the tests' partition stand.
use Rattle.std.proofs.Common.{◌≡◌, ℕ, ◌/◌, ◌<◌, ◌≤◌, Some, sym, subst, arith}
use Rattle.udf_field.specs.declared.address.Addr.{Addr}
use Rattle.udf_file_model.specs.Address.{lone_places}
use Rattle.udf_file_model.specs.Place.{physical_place}
use Rattle.udf_layer.specs.Lone.{lone_is}
use Rattle.udf_layer.specs.Physicals.{physical_is}

pub inside : (a : Addr) (s size : ℕ) → lone_places 0 (physical_place 257 750) a ≡ Some s → 524288 ≤ size → s < size / 512
inside a s size h room =
    let p = physical_is 257 750 a.block s (lone_is 0 (physical_place 257 750) a s h).1 in omega (arith, p.0, p.1)

pub inside_of : (a : Addr) (s size block : ℕ) → block ≡ 512 → lone_places 0 (physical_place 257 750) a ≡ Some s → 524288 ≤ size → s < size / block
inside_of a s size block e h room = subst (λ (n : ℕ). s < size / n) (sym e) (inside a s size h room)
