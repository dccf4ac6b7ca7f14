use Rattle.cell_store.proofs.Listed.{range-between}
use Rattle.cell_store.proofs.sheets.between.Goals as goal

pub returns-clause-entries : goal.returns-clause-entries
returns-clause-entries c = range-between c.args.after c.args.end _ _ c.args.present.now.entries c.range.result c.excluded.ensures c.excluded-2.ensures (c.range.ensures.between tt)
