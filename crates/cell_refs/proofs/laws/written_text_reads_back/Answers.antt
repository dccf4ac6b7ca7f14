use Rattle.cell_refs.proofs.Front.{cell_reads_back, reference_reads_back}
use Rattle.cell_refs.proofs.laws.written_text_reads_back.Goals as goal

pub returns-clause-reference : goal.returns-clause-reference
returns-clause-reference c = reference_reads_back

pub returns-clause-cell : goal.returns-clause-cell
returns-clause-cell c = cell_reads_back
