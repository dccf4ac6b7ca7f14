use Rattle.cell_store.proofs.Updated.{untouched-shows}
use Rattle.cell_store.proofs.laws.an_untouched_cell_shows_what_is_present.Goals as goal

pub returns : goal.returns
returns c = untouched-shows
