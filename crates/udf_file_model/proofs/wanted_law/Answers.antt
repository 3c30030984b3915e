use Rattle.std.proofs.Common.{◌≤◌, ◌+◌, ℕ, List, length, arith}
use Rattle.std.proofs.lemmas.List.{length-take}
use Rattle.udf_file_model.specs.Entry.{descriptor_bytes, attribute_bytes, body_of}
use Rattle.std.specs.Prelude.{drop}
use Rattle.udf_file_model.proofs.Back.{opened, new_entry, new_length, new_is_bytes}
use Rattle.udf_file_model.proofs.Setting.{links_set, id_set, stream_cleared, entry_cut}
use Rattle.udf_file_model.proofs.wanted_law.Goals as goal

body_short : (header : ℕ) (block : List ℕ) → length (body_of header block) ≤ descriptor_bytes header block
unfolding body_of
body_short header block = omega (arith, length-take (descriptor_bytes header block) (drop (header + attribute_bytes header block) block))

pub returns-clause-wanted : goal.returns-clause-wanted
returns-clause-wanted c at header block w h fit = new_entry at header w block h.bytes (omega (arith, h.least)) h.most h.low (opened at header block h.readable) fit

pub returns-clause-links : goal.returns-clause-links
returns-clause-links c at header n block h low = links_set at header block h.bytes (omega (arith, h.least)) h.most h.low h.readable n (omega (arith, low))

pub returns-clause-id : goal.returns-clause-id
returns-clause-id c at header n block h low = id_set at header block h.bytes (omega (arith, h.least)) h.most h.low h.readable n (omega (arith, low))

pub returns-clause-stream : goal.returns-clause-stream
returns-clause-stream c at header block h = stream_cleared at header block h.bytes (omega (arith, h.least)) h.most h.low h.readable

pub returns-clause-cut : goal.returns-clause-cut
returns-clause-cut c at header n block body h low bytes shorter =
    entry_cut at header block h.bytes (omega (arith, h.least)) h.most h.low h.readable n body (omega (arith, low)) bytes (omega (arith, shorter, body_short header block))

pub returns-clause-same_length : goal.returns-clause-same_length
returns-clause-same_length c at header block w h fit = new_length at header w block h.bytes (omega (arith, h.least)) h.most h.low (opened at header block h.readable) fit

pub returns-clause-bytes : goal.returns-clause-bytes
returns-clause-bytes c at header block w h fit = new_is_bytes at header w block h.bytes (omega (arith, h.least)) h.most h.low (opened at header block h.readable) fit
