use Rattle.std.proofs.Common.{unwrap_or, ap, ◌∙◌}
use Rattle.cell_store.specs.Store.{entry_at}
use Rattle.cell_store.proofs.Updated.{shown-where_touched, taken_back}
use Rattle.cell_store.proofs.updates.put.Goals as goal

pub returns-then-contains_key-clause-shown : goal.returns-then-contains_key-clause-shown
returns-then-contains_key-clause-shown c =
    shown-where_touched (entry_at c.args.before.now.entries) (entry_at c.args.present.now.entries) (entry_at c.insert.new.self.entries) _ c.args.cell c.if-contains_key.ensures c.in_ok-insert.ensures.updates.0

pub returns-clause-refused : goal.returns-clause-refused
returns-clause-refused c = (
  c.in-Err.ensures.err,
  taken_back c.args.before.now.entries c.insert-2.new.self.entries c.remove.new.self.entries _ c.args.cell c.requires.before c.remove.ensures.ordered c.if-contains_key.ensures c.in_ok-insert-2.ensures.updates.0 c.remove.ensures.updates.0,
)

pub returns-clause-shown : goal.returns-clause-shown
returns-clause-shown c q =
    let kept = returns-clause-refused c in
    ap (λ present. unwrap_or (entry_at c.remove.new.self.entries q) (entry_at present q)) kept.0
    ∙ ap (λ before. unwrap_or (entry_at before q) (entry_at c.args.present.now.entries q)) kept.1
