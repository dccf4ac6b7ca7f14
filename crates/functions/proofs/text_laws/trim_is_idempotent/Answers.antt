use Rattle.functions.proofs.TextLaws.{trim_law}
use Rattle.functions.proofs.text_laws.trim_is_idempotent.Goals as goal

pub returns : goal.returns
returns c = trim_law
