-- The last byte tells how many bytes are the name.
use Rattle.std.proofs.Common.{inr, lt-ltb, le-ltb}
use Rattle.udf_text.specs.Compressed.{dstring_decoding}
use Rattle.udf_text.proofs.decode.decode_dstring.Goals as goal

pub returns-then-used-field : goal.returns-then-used-field
unfolding dstring_decoding
returns-then-used-field c = rw (lt-ltb _ _ c.if-used-field.true) c.decode_name.ensures

pub returns-else-used-field : goal.returns-else-used-field
unfolding dstring_decoding
returns-else-used-field c = record { answer = inr (rw (le-ltb _ _ c.if-used-field.false)) }
