use Rattle.std.proofs.Common.{subst}
use Rattle.topic_table.specs.Table.{IsTable}
use Rattle.topic_table.proofs.RowChanges.{facts-of}
use Rattle.topic_table.proofs.rows.Rows.facts.Goals as goal

pub returns : goal.returns
returns c =
    subst IsTable c.self.view_is
    (facts-of c.self.inside.rows.entries c.self.inside.greatest _ c.self.invariant.0 c.self.invariant.1)
