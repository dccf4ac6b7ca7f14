use Rattle.book_sync.proofs.Editing.{set-followed}
use Rattle.book_sync.proofs.tests.Host.set.Goals as goal

pub invariant_of-self-2 : goal.invariant_of-self-2
invariant_of-self-2 c = set-followed _ _ _ _ _ _ _ _ c.set.ensures.contents c.set.ensures.refused c.in_ok-insert.ensures.updates.0 c.self.invariant
