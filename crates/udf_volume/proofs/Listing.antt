-- A list that is read is the list of the definitions.
use Rattle.std.proofs.Common.{◌≡◌, ℕ, sym, ◌∙◌, ap, List, Bool, cond, Option, Some, None}
use Rattle.std.specs.Prelude.{if◌then◌else◌}
use Rattle.udf_volume_model.specs.Sequence.{Descriptor, listed, views, front_of, is_spoilt}
use Rattle.udf_volume_model.specs.Anchor.{blocks_of}
use Rattle.udf_volume_model.proofs.Listed.{listed_is}
use Rattle.udf_volume_model.specs.Kept.{whole_by, sequence_at}

pub sequence_is : (size : ℕ) (disk : ℕ → List ℕ) (limit bytes start count : ℕ) (front : List Descriptor) (spoilt : Bool) (whole : Option (List Descriptor))
    → count ≡ blocks_of size (record { bytes = bytes; start = start })
    → front ≡ front_of (views disk start count) → spoilt ≡ is_spoilt (views disk start count)
    → whole ≡ whole_by limit (if spoilt then None else Some front)
    → whole ≡ sequence_at size disk limit (record { bytes = bytes; start = start })
unfolding sequence_at
sequence_is size disk limit bytes start count front spoilt whole is list spoils e =
    e
    ∙ ap (λ b. whole_by limit (cond b None (Some front))) spoils
    ∙ ap (λ l. whole_by limit (cond (is_spoilt (views disk start count)) None (Some l))) list
    ∙ sym (ap (whole_by limit) (listed_is (views disk start count)))
    ∙ ap (λ n. whole_by limit (listed (views disk start n))) is
