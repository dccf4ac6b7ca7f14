use Rattle.functions.proofs.TextAnswers.{shows_all}
use Rattle.functions.proofs.text_search.concatenate.Goals as goal

pub returns-in-Ok : goal.returns-in-Ok
returns-in-Ok c =
    shows_all c.text_value.result c.args.args.now _ _ c.text_value.ensures c.as_str.ensures.value c.as_str.utf8
    (rw c.in-Ok.is at c.in_ok-all.ensures.texts) (rw c.in-Ok.is at c.in_ok-all.ensures.plain)
