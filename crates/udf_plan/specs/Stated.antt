-- What the mends of the rules on anchors and on sequences write, by the fields of a volume.
use Rattle.std.specs.Prelude.{ℕ, zero, suc, ◌+◌, if◌then◌else◌, List, [], ◌∷◌, map}
use Rattle.udf_model.specs.Image.{block_of}
use Rattle.udf_model.specs.Tag.{relocated}
use Rattle.udf_volume_model.specs.Mended.{copies}
use Rattle.udf_volume.specs.Spans.{kept_span, other_span}
use Rattle.udf_volume.specs.Verdicts.{bad_stated, anchors_suffice, sequences_agree_in}
use Rattle.udf_volume.specs.declared.volume.Volume.{Volume}
use Rattle.udf_volume.specs.declared.opened.Opened.{Opened}

-- a block, relocated to each of some places
unfoldable pub copies_at : List ℕ → List ℕ → List (ℕ × List ℕ)
copies_at block places = map (λ place. (place, relocated place block)) places

-- so many blocks from one sector on, relocated, at another sector on
unfoldable pub moved : (ℕ → List ℕ) → ℕ → ℕ → ℕ → List (ℕ × List ℕ)
moved disk from to zero = []
moved disk from to (suc count) = (to, relocated to (disk from)) ∷ moved disk (from + 1) (to + 1) count

-- where the rule on anchors is broken: the kept anchor at the bad places
unfoldable pub anchors_stated : Opened → List ℕ → List (ℕ × List ℕ)
anchors_stated opened image =
    if anchors_suffice opened.volume opened.layout image then []
    else copies_at (block_of opened.volume.size image opened.volume.anchor) (bad_stated opened.volume opened.layout image)

-- the kept sequence in the other extent
unfoldable pub copied_stated : Volume → List ℕ → List (ℕ × List ℕ)
copied_stated volume image =
    copies volume.size (block_of volume.size image) (block_of volume.size image volume.lvd)
    (kept_span volume).start (other_span volume).start volume.count

-- where the rule on sequences is broken: the kept sequence in the other extent
unfoldable pub sequence_stated : Volume → List ℕ → List (ℕ × List ℕ)
sequence_stated volume image = if sequences_agree_in volume image then [] else copied_stated volume image
