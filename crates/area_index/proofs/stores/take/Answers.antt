use Rattle.std.proofs.Common.{◌∙◌, sym}
use Rattle.area_index.proofs.FreeNodes.{first_taken, none_free}
use Rattle.area_index.proofs.stores.take.Goals as goal

pub returns-in-Some-clause-taken : goal.returns-in-Some-clause-taken
returns-in-Some-clause-taken c e es rest parts = first_taken c.args.nodes.now.items.items c.args.free.now c.in-Some.node e es rest (sym c.in-Some.ensures.node) parts

pub returns-in_default-clause-taken : goal.returns-in_default-clause-taken
returns-in_default-clause-taken c e es rest parts = absurd (none_free c.args.nodes.now.items.items c.args.free.now e es rest (sym c.node.ensures.node ∙ c.in_default.is) parts)
