use Rattle.clean_cells.proofs.EveryState.{meaning_kept, reads_kept, topics_kept}
use Rattle.clean_cells.proofs.clean_laws.a_clean_cell_keeps_its_meaning.Goals as goal

pub returns : goal.returns
returns c = record {
  meaning = meaning_kept;
  reads = λ terms attempts cell topic formula fresh. reads_kept terms attempts cell formula fresh topic;
  topics = topics_kept;
}
