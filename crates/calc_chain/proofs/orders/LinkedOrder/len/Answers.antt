use Rattle.std.proofs.Common.{length, ap, sym, ◌∙◌}
use Rattle.calc_chain.specs.declared.slots.TheConstants.{END}
use Rattle.calc_chain.specs.Linking.{after_of}
use Rattle.calc_chain.proofs.LinkLaws.{length-walk}
use Rattle.calc_chain.proofs.orders.LinkedOrder.len.Goals as goal

pub returns : goal.returns
returns c = sym (length-walk (after_of c.self.inside.slots) c.self.inside.count (after_of c.self.inside.slots END)) ∙ ap length c.self.view_is
