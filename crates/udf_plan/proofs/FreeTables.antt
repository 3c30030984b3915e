-- The blocks of the sparing tables are free to be written.
use Rattle.std.proofs.Common.{◌≡◌, inl, inr, ℕ, ◌+◌, ◌<◌, ◌≤◌, ◌==◌, arith, refl, List, [], ◌∷◌, ◌++◌, true, nat_le}
use Rattle.std.specs.List.{All, list_all, list_any}
use Rattle.std.proofs.lemmas.Bool.{and_parts, or_cases, eqb-true, leb-true}
use Rattle.std.proofs.lemmas.List.Elements.{All-weaker}
use Rattle.udf_volume_model.specs.Areas.{Area, covers}
use Rattle.udf_volume_model.specs.Layout.{is_apart, are_apart, is_inside}
use Rattle.udf_volume_laws.proofs.Apart.{apart_back, between, covered, not_both, tail_apart, uncovered, within_area}
use Rattle.udf_volume_laws.proofs.Members.{IsIn, all_at, in_back}
use Rattle.udf_layer.specs.declared.agreement.Deviation.{Deviation}
use Rattle.udf_volume.specs.Areas.{area_stated, areas_stated, integrity_stated, partition_stated, tables_stated}
use Rattle.udf_volume.specs.Laid.{areas_laid, IsLaidOut}
use Rattle.udf_volume.specs.Opened.{IsBounded}
use Rattle.udf_volume.specs.Spans.{span_by}
use Rattle.udf_volume.specs.declared.volume.Volume.{Volume}
use Rattle.udf_volume.specs.declared.volume.Which.{Which}
use Rattle.udf_volume.specs.declared.volume.Which.TheVariants.{Main, Reserve}
use Rattle.udf_wanted.specs.Writable.{is_free, AreFreeFrom}
use Rattle.udf_plan.proofs.Free.{free_beside}

module _ (volume : Volume) (b : IsBounded volume.size volume.blocks volume) (laid : IsLaidOut volume) where
  abbrev main : Area
  main = area_stated volume.size volume.main

  abbrev reserve : Area
  reserve = area_stated volume.size volume.reserve

  -- a sparing table lies in the image, apart from each extent
  laid_parts : (list_all (is_inside volume.blocks) (areas_stated volume) ≡ true) × (are_apart (areas_stated volume) ≡ true)
  unfolding areas_laid
  laid_parts =
      let two = and_parts (list_all (is_inside volume.blocks) (areas_stated volume)) _ laid.areas in
      (two.0, (and_parts (are_apart (areas_stated volume)) _ two.1).0)

  table_in : (area : Area) → IsIn area (tables_stated volume) → IsIn area (integrity_stated volume ++ (partition_stated volume ∷ tables_stated volume))
  table_in area i = in_back (integrity_stated volume) (partition_stated volume ∷ tables_stated volume) area (inr i)

  parted : (area : Area) → IsIn area (tables_stated volume) → (w : Which) → is_apart area (area_stated volume.size (span_by w volume)) ≡ true
  parted area i Main =
      apart_back main area (between (main ∷ []) (reserve ∷ (integrity_stated volume ++ (partition_stated volume ∷ tables_stated volume))) main area laid_parts.1 (inl refl) (inr (table_in area i)))
  parted area i Reserve =
      apart_back reserve area (between (reserve ∷ []) (integrity_stated volume ++ (partition_stated volume ∷ tables_stated volume)) reserve area
      (tail_apart (main ∷ []) (reserve ∷ (integrity_stated volume ++ (partition_stated volume ∷ tables_stated volume))) laid_parts.1) (inl refl) (table_in area i))

  inside : (area : Area) → IsIn area (tables_stated volume) → area.start + area.count ≤ volume.blocks
  unfolding is_inside
  inside area i = leb-true _ _ (all_at (is_inside volume.blocks) (areas_stated volume) area laid_parts.0 (inr (inr (table_in area i))))

  in_table : (area : Area) → IsIn area (tables_stated volume) → (n : ℕ) → covers area n ≡ true → is_free volume n ≡ true
  in_table area i n c =
      let within : (area.start ≤ n) × (n < area.start + area.count) = within_area area n c in
      free_beside volume b n (uncovered (area_stated volume.size (span_by volume.kept volume)) n
      (not_both area (area_stated volume.size (span_by volume.kept volume)) n (parted area i volume.kept) c))
      (omega (arith, within.1, inside area i))

  -- from the sector of a listed table on
  found : (count at : ℕ) (areas : List Area) → ((area : Area) → IsIn area areas → IsIn area (tables_stated volume))
      → list_all (λ area. nat_le count area.count) areas ≡ true → list_any (λ area. area.start == at) areas ≡ true → AreFreeFrom volume at count
  found count at [] part room some = absurd (cc)
  found count at (area ∷ areas) part room some =
      let rooms = and_parts (nat_le count area.count) (list_all (λ other. nat_le count other.count) areas) room in
      elim (or_cases (area.start == at) (list_any (λ other. other.start == at) areas) some) [
        | inl here ↦ λ i lt. in_table area (part area (inl refl)) (at + i)
            (covered area (at + i) (omega (arith, eqb-true _ _ here)) (omega (arith, eqb-true _ _ here, leb-true _ _ rooms.0)))
        | inr later ↦ found count at areas (λ other i. part other (inr i)) rooms.1 later
      ]

  pub tables_free : (count : ℕ) (others : List Deviation) → list_all (λ area. nat_le count area.count) (tables_stated volume) ≡ true
      → All (λ other. list_any (λ area. area.start == other.at) (tables_stated volume) ≡ true) others → All (λ other. AreFreeFrom volume other.at count) others
  tables_free count others room listed =
      All-weaker (λ other. list_any (λ area. area.start == other.at) (tables_stated volume) ≡ true) (λ other. AreFreeFrom volume other.at count)
      (λ other l. found count other.at (tables_stated volume) (λ area i. i) room l) others listed
