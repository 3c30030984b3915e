-- Two empty files of which no earlier moment is known.
use Rattle.std.specs.Prelude.{false, []}
use Rattle.udf_outside.specs.Stops.{Content, Held}

abbrev pub empty_content : Content
empty_content = record { bytes = []; base = 0; pending = λ i. false }

abbrev pub nothing_held : Held
nothing_held = record { now = record { image = empty_content; side = empty_content }; past = [] }
