use Rattle.functions.proofs.TextLaws.{join_law}
use Rattle.functions.proofs.text_laws.left_and_mid_join_to_the_text.Goals as goal

pub returns : goal.returns
returns c = join_law
