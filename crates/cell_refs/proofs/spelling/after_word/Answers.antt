use Rattle.std.proofs.lemmas.Bool.Decides.{Decides-eqb}
use Rattle.std.proofs.lemmas.Slice.Eq.{strip_prefix_is}
use Rattle.cell_refs.proofs.Following.{follows_word}
use Rattle.cell_refs.proofs.spelling.after_word.Goals as goal

pub returns : goal.returns
returns c = follows_word _ _ _ (strip_prefix_is Decides-eqb c.args.text.now c.args.word.now _ c.strip_prefix.ensures.cases)
