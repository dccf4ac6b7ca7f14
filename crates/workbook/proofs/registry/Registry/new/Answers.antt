use Rattle.std.proofs.Common.{sym, subst}
use Rattle.workbook.specs.NamedEntries.{AreNamed}
use Rattle.workbook.proofs.RegistryLaws.{named-ordered}
use Rattle.workbook.proofs.registry.Registry.new.Goals as goal

pub invariant_of-result : goal.invariant_of-result
invariant_of-result c = (subst AreNamed (sym c.new.ensures.empty) tt, named-ordered _ c.new.ensures.ordered)
