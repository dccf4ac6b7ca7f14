use Rattle.cell_refs.proofs.HandleText.{handle_again, handle_takes, one_handle}
use Rattle.cell_refs.proofs.laws.each_handle_has_its_text.Goals as goal

pub returns-clause-back : goal.returns-clause-back
returns-clause-back c = handle_again

pub returns-clause-read : goal.returns-clause-read
returns-clause-read c = handle_takes

pub returns-clause-one : goal.returns-clause-one
returns-clause-one c = one_handle
