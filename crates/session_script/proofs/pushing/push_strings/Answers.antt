use Rattle.session_script.proofs.JoinedStrings.{strings-first}
use Rattle.session_script.proofs.pushing.push_strings.Goals as goal

pub returns-in-len1-up-clause-ok : goal.returns-in-len1-up-clause-ok
returns-in-len1-up-clause-ok c =
    let joined = strings-first c.as_slice.result.now c.first-item.result c.in-len1-up.len_at_least c.first-item.is in
    rw (← c.as_slice.ensures, joined) c.push_first.ensures.ok
