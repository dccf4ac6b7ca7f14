use Rattle.std.proofs.Common.{ltb, ap}
use Rattle.std.proofs.lemmas.Iterator.{YieldsList-from_chars}
use Rattle.std.proofs.lemmas.Iterator.Consumers.{count_from_yields_List}
use Rattle.formula_parse.proofs.parser.has_too_many_characters.Goals as goal

pub returns : goal.returns
returns c =
    ap (ltb 8192) (count_from_yields_List c.chars.result c.count.result c.count.ensures.ran (YieldsList-from_chars c.args.text.now c.utf8.text c.chars.ensures.rest))
