-- UTF-8 is std's.
use Rattle.std.proofs.lemmas.Str.{chars-encodes, encodes-chars}
use Rattle.udf_text.proofs.law.text_law.Goals as goal

pub returns-clause-text : goal.returns-clause-text
returns-clause-text c = encodes-chars

pub returns-clause-characters : goal.returns-clause-characters
returns-clause-characters c = chars-encodes
