use Rattle.functions.proofs.TextLaws.{least_law, none_law}
use Rattle.functions.proofs.text_laws.find_gives_the_least_place.Goals as goal

pub returns-clause-least : goal.returns-clause-least
returns-clause-least c = least_law

pub returns-clause-none : goal.returns-clause-none
returns-clause-none c = none_law
