use Rattle.std.proofs.Common.{rules}
use Rattle.std.proofs.lemmas.Str.{chars_from_encodes}
use Rattle.functions.proofs.text_writing.to_upper_case.Goals as goal

pub returns : goal.returns
returns c = search (rules, chars_from_encodes)
