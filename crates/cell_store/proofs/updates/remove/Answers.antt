use Rattle.cell_store.specs.Store.{entry_at}
use Rattle.cell_store.proofs.Updated.{shown-where_touched}
use Rattle.cell_store.proofs.updates.remove.Goals as goal

pub returns-then-contains_key-clause-shown : goal.returns-then-contains_key-clause-shown
returns-then-contains_key-clause-shown c =
    shown-where_touched (entry_at c.args.before.now.entries) (entry_at c.args.present.now.entries) (entry_at c.remove.new.self.entries) _ c.args.cell c.if-contains_key.ensures c.remove.ensures.updates.0
