use Rattle.std.proofs.Common.{◌≡◌, drop}
use Rattle.workbook.specs.Registry.{registration_of}
use Rattle.cell_eval.proofs.lookups.registration_of.Given as goal

-- what is looked for is among the entries that are still to come
abbrev pub invariant-loop-registered : goal.invariant-loop-registered
invariant-loop-registered l = registration_of l.functions l.name ≡ registration_of (drop l.registered-index l.functions) l.name
