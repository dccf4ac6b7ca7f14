use Rattle.std.proofs.Common.{ap, sym, ◌∙◌, [], ◌∷◌, Some, None}
use Rattle.std.proofs.lemmas.Bool.Decides.{Decides-eqb}
use Rattle.std.proofs.lemmas.Slice.Eq.{strip_suffix_is}
use Rattle.addin_types.specs.TypeText.{mark_apart}
use Rattle.addin_types.proofs.TypeLetters.{marked, unmarked}
use Rattle.addin_types.proofs.type_reading.mark_apart.Goals as goal

pub returns-in-Some : goal.returns-in-Some
returns-in-Some c = sym (ap mark_apart (strip_suffix_is Decides-eqb c.args.text.now (36 ∷ []) (Some c.in-Some.letters) c.in-Some.ensures.cases) ∙ marked c.in-Some.letters.now)

pub returns-in-None : goal.returns-in-None
returns-in-None c = sym (unmarked c.args.text.now (strip_suffix_is Decides-eqb c.args.text.now (36 ∷ []) None c.in-None.ensures.cases))
