use Rattle.book_sync.proofs.Puts.{puts-either}
use Rattle.book_sync.proofs.changes.follow_cell.Goals as goal

pub returns-clause-store : goal.returns-clause-store
returns-clause-store c = puts-either _ _ _ _ _ c.put_content.ensures.present c.put_content.ensures.touched c.put_content.ensures.shown c.put_content.ensures.refused
