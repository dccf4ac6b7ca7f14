use Rattle.workbook.proofs.Keeping.{meaning_between, reads_between, topics_between}
use Rattle.workbook.proofs.laws.kept_between_settings.Goals as goal

pub returns : goal.returns
returns c = record { meaning = meaning_between; topics = topics_between; reads = reads_between }
