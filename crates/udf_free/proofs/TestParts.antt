-- Where the blocks of the tests' partition stand.
use Rattle.std.proofs.Common.{◌≡◌, ℕ, ◌/◌, ◌<◌, ◌≤◌, true, Some, refl, sym, ap, ◌∙◌, arith}
use Rattle.std.specs.Prelude.{is_some}
use Rattle.std.proofs.lemmas.Bool.Decides.{nat_tests}
use Rattle.udf_field.specs.declared.address.Addr.{Addr}
use Rattle.udf_file_model.specs.Address.{addr, lone_places}
use Rattle.udf_file_model.specs.Place.{physical_place}
use Rattle.udf_layer.specs.Lone.{lone_is}
use Rattle.udf_layer.specs.Physicals.{physical_is}
use Rattle.udf_volume_model.specs.Anchor as anchor
use Rattle.udf_volume_model.specs.Layout.{is_bitmap}
use Rattle.udf_free.specs.Free.{StandsWhole}

there : (n : ℕ) → n < 750 → is_some (lone_places 0 (physical_place 257 750) (addr 0 n)) ≡ true
unfolding lone_places physical_place
there n low = grind (arith, nat_tests)

module _ (start blocks : ℕ) (first : start ≡ 257) (many : blocks ≡ 750)
  where
    same : (a : Addr) → lone_places 0 (physical_place start blocks) a ≡ lone_places 0 (physical_place 257 750) a
    same a = ap (λ n. lone_places 0 (physical_place n blocks) a) first ∙ ap (λ n. lone_places 0 (physical_place 257 n) a) many

    -- they lie in the image ..
    pub inside : (a : Addr) (s size : ℕ) → lone_places 0 (physical_place start blocks) a ≡ Some s → 524288 ≤ size → s < size / 512
    inside a s size h room =
        let p = physical_is 257 750 a.block s (lone_is 0 (physical_place 257 750) a s (sym (same a) ∙ h)).1 in omega (arith, p.0, p.1)

    -- .. and each stands there
    pub stands : StandsWhole (lone_places 0 (physical_place start blocks)) 750
    stands n low = ap is_some (same (addr 0 n)) ∙ there n low

-- the extent of the bitmap is lawful
pub lawful_bitmap : is_bitmap 512 750 512 0 ≡ true
unfolding is_bitmap anchor.blocks_for
lawful_bitmap = refl
