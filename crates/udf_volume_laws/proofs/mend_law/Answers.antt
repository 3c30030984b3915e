use Rattle.std.proofs.Common.{sym, subst, Option, Some}
use Rattle.udf_model.specs.Image.{block_of, blocks_in}
use Rattle.udf_volume_model.specs.Kept.{KeptSequence, kept_sequence_of}
use Rattle.udf_volume_model.specs.Opened.{volume_mended}
use Rattle.udf_volume_model.specs.Same.{IsSameOn}
use Rattle.udf_volume_laws.proofs.Final.{mended_image}
use Rattle.udf_volume_laws.proofs.Twice.{stays, mended_twice}
use Rattle.udf_volume_laws.proofs.Sizes.{found_stays}
use Rattle.udf_volume_laws.proofs.Difference.{length_kept, broken_differs, no_broken_rule}
use Rattle.udf_volume_laws.proofs.mend_law.Goals as goal

pub returns-clause-same_length : goal.returns-clause-same_length
returns-clause-same_length c = length_kept

pub returns-clause-opened : goal.returns-clause-opened
returns-clause-opened c = λ size image large a. (mended_image size image large a).opened

pub returns-clause-unbroken : goal.returns-clause-unbroken
returns-clause-unbroken c = λ size image large a. (mended_image size image large a).rules

pub returns-clause-volume : goal.returns-clause-volume
returns-clause-volume c = λ size image large a.
    let m = mended_image size image large a in
    let mended = volume_mended size image in
    subst (λ (o : Option KeptSequence). IsSameOn size (blocks_in size image) (block_of size image) (block_of size mended) o (kept_sequence_of size mended)) (sym m.before_volume)
    (subst (λ (o : Option KeptSequence). IsSameOn size (blocks_in size image) (block_of size image) (block_of size mended) (Some m.before_is) o) (sym m.after_volume) m.same)

pub returns-clause-again : goal.returns-clause-again
returns-clause-again c = mended_twice

pub returns-clause-still : goal.returns-clause-still
returns-clause-still c = stays

pub returns-clause-differs : goal.returns-clause-differs
returns-clause-differs c = broken_differs

pub returns-clause-alike : goal.returns-clause-alike
returns-clause-alike c = no_broken_rule

pub returns-clause-size : goal.returns-clause-size
returns-clause-size c = found_stays
