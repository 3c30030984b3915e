-- The packet from 288 on lies before the partition from 800 on.
use Rattle.std.proofs.Common.{◌≡◌, ◌∙◌, ℕ, List, ◌∷◌, [], ◌++◌, true, ap, sym, subst, refl, arith}
use Rattle.udf_file_model.specs.Place.{physical_place}
use Rattle.udf_layer.specs.Lawful.{area_apart, is_free, is_lawful}
use Rattle.udf_layer.specs.Packets.{AreSpare, packets_apart}
use Rattle.udf_layer.specs.declared.area.Area.{Area}
use Rattle.udf_layer.proofs.Spare.{lawful_spare}
use Rattle.udf_layer.proofs.tests.a_mapped_packet_stands_elsewhere.Goals as goal

abbrev partition : Area
partition = record { start = 800; blocks = 32 }

lawful : is_lawful 32 ((0, 288) ∷ []) (partition ∷ []) 1000 ≡ true
unfolding is_lawful is_free area_apart packets_apart
lawful = refl

spare : AreSpare 32 ((0, 288) ∷ []) (physical_place 800 32)
spare = lawful_spare 32 (partition ∷ []) 1000 ((0, 288) ∷ []) partition (omega arith) (0, omega arith, refl) lawful

spare_at : (packet start blocks : ℕ) (pairs : List (ℕ × ℕ)) → packet ≡ 32 → pairs ≡ (0, 288) ∷ [] → start ≡ 800 → blocks ≡ 32
    → AreSpare packet pairs (physical_place start blocks)
spare_at packet start blocks pairs p q s b =
    let P : ℕ → Type 0 = λ n. AreSpare n pairs (physical_place start blocks) in
    let Q : List (ℕ × ℕ) → Type 0 = λ l. AreSpare 32 l (physical_place start blocks) in
    let S : ℕ → Type 0 = λ n. AreSpare 32 ((0, 288) ∷ []) (physical_place n blocks) in
    let B : ℕ → Type 0 = λ n. AreSpare 32 ((0, 288) ∷ []) (physical_place 800 n) in
    subst P (sym p) (subst Q (sym q) (subst S (sym s) (subst B (sym b) spare)))

pub new-layer-requires : goal.new-layer-requires
new-layer-requires g c =
    spare_at _ _ _ _ (c.in_ok-table.ensures.packet ∙ c.new.ensures.packet)
    (c.in_ok-table.ensures.pairs ∙ ap (λ (l : List (ℕ × ℕ)). l ++ (0, 288) ∷ []) c.new.ensures.pairs) c.new-2.ensures.start c.new-2.ensures.blocks
