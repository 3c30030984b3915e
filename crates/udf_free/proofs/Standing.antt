-- Every block of a volume's partition is placed.
use Rattle.std.proofs.Common.{◌≡◌, ℕ, Bool, true, false, ◌+◌, cond, Option, Some, None, refl, arith}
use Rattle.std.specs.Prelude.{is_some, nat_lt}
use Rattle.std.proofs.lemmas.Bool.Decides.{nat_tests}
use Rattle.udf_file_model.specs.Address.{lone_places}
use Rattle.udf_file_model.specs.Place.{or_else, physical_place, sparable_place, spared_to}
use Rattle.udf_volume_model.specs.Areas.{Area}
use Rattle.udf_volume_model.specs.SparingTable.{Table}
use Rattle.udf_rules_model.specs.Places.{place_by}
use Rattle.udf_free.specs.Free.{StandsWhole}

spared_or_below : (o : Option ℕ) (s : ℕ) → is_some (or_else o (Some s)) ≡ true
spared_or_below None s = refl
spared_or_below (Some t) s = refl

pub stands_whole : (partition : Area) (table : Table) → StandsWhole (lone_places 0 (place_by partition table)) partition.count
unfolding lone_places sparable_place physical_place
stands_whole partition table n low = by (nat_lt n partition.count) (let e : nat_lt n partition.count ≡ true = grind (arith, nat_tests) in e)
  where
    by : (b : Bool) → b ≡ true → is_some (cond b (or_else (spared_to table.packet table.pairs n) (cond b (Some (partition.start + n)) None)) None) ≡ true
    by true e = spared_or_below (spared_to table.packet table.pairs n) (partition.start + n)
    by false e = absurd cc
