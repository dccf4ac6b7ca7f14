use Rattle.std.proofs.Common.{refl}
use Rattle.area_index.proofs.Standing.{linked}
use Rattle.area_index.proofs.nodes.Nodes.link.Goals as goal

pub returns-clause-turns : goal.returns-clause-turns
returns-clause-turns c l r rest parts = linked c.args.self.now.items.items c.put.new.self.items.items c.args.entry c.args.left c.args.right c.args.entry.at l r rest c.put.ensures refl parts
