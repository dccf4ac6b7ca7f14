use Rattle.cell_refs.proofs.HandleText.{handle_found, no_handle}
use Rattle.cell_refs.proofs.handle_reading.read_handle.Goals as goal

pub returns-clause-read : goal.returns-clause-read
returns-clause-read c = handle_found _ _ c.handle_of.ensures

pub returns-clause-none : goal.returns-clause-none
returns-clause-none c = no_handle _ _ c.handle_of.ensures
