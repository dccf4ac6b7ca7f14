use Rattle.cell_refs.proofs.Front.{read_from_stands, stands_from_read}
use Rattle.cell_refs.proofs.laws.reading_gives_what_stands.Goals as goal

pub returns-clause-stands : goal.returns-clause-stands
returns-clause-stands c = stands_from_read

pub returns-clause-read : goal.returns-clause-read
returns-clause-read c = read_from_stands
