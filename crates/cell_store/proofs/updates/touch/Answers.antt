use Rattle.cell_store.specs.Store.{entry_at}
use Rattle.cell_store.proofs.Updated.{shown-where_noted}
use Rattle.cell_store.proofs.updates.touch.Goals as goal

pub returns-clause-shown : goal.returns-clause-shown
returns-clause-shown c =
    shown-where_noted (entry_at c.args.before.now.entries) (entry_at c.insert.new.self.entries) (entry_at c.args.present.now.entries) _ c.args.cell c.if-contains_key.ensures c.in_ok-shown.ensures c.in_ok-insert.ensures.updates.0
