use Rattle.std.proofs.Common.{ap, ◌++◌, ◌∙◌}
use Rattle.cell_store.specs.Walking.{entries_from, entries_inside, with_values}
use Rattle.cell_store.proofs.Gathered.{gathered-all, gathered-first}
use Rattle.cell_store.proofs.gathering.gather.Goals as goal

pub loop-from-init : goal.loop-from-init
loop-from-init c =
    ap (λ entries. with_values entries ++ entries_inside c.args.areas.now (entries_from c.first_in-from.result c.args.present.now.entries)) c.new-entries.ensures.items
    ∙ gathered-first c.args.present.now.entries c.args.areas.now c.first_in-from.result c.first_in-from.ensures

pub returns : goal.returns
returns c = gathered-all c.args.areas.now c.args.present.now.entries _ c.loop-from.from c.requires c.in_default.is c.loop-from.invariant
