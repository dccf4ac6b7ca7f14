use Rattle.clean_cells.proofs.EveryState.{always_alike, begun_alike}
use Rattle.clean_cells.proofs.clean_laws.every_state_is_alike.Goals as goal

pub returns : goal.returns
returns c = record { alike = always_alike; begun = begun_alike }
