use Rattle.std.proofs.Common.{sym, ◌∙◌}
use Rattle.addin_types.proofs.TypeFaults.{clean}
use Rattle.addin_types.proofs.type_reading.read_bytes.Goals as goal

pub registration_of-requires : goal.registration_of-requires
registration_of-requires c = (clean c.args.text.now (sym c.type_fault.ensures ∙ c.in-None.is)).few
