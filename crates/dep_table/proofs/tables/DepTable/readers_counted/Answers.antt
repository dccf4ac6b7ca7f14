use Rattle.std.proofs.Common.{◌≡◌}
use Rattle.area_index.specs.Forests.{AreReadersAt}
use Rattle.dep_table.specs.Table.{readers_of}
use Rattle.dep_table.proofs.Found.{few-steps, if_ok, readers-are}
use Rattle.dep_table.proofs.tables.DepTable.readers_counted.Goals as goal

pub returns-clause-readers : goal.returns-clause-readers
returns-clause-readers g c =
    rw (← c.self.view_is) (if_ok (λ readers. AreReadersAt c.self.inside.index c.args.cell readers.items) (λ readers. readers.items ≡ readers_of c.self.inside.entries.entries c.args.cell)
    (λ readers are. readers-are c.self.inside.index c.self.inside.entries.entries c.args.cell readers.items c.self.invariant are) c.readers.result c.readers.ensures.readers)

pub returns-clause-steps : goal.returns-clause-steps
returns-clause-steps g c = rw (← c.self.view_is) (few-steps c.self.inside.index c.self.inside.entries.entries c.args.cell _ _ c.self.invariant c.readers.ensures.steps)
