use Rattle.addin_types.proofs.TypeTexts.{fault_takes, fault_again}
use Rattle.addin_types.proofs.laws.each_fault_has_its_cause.Goals as goal

pub returns : goal.returns
returns c = λ text fault. (fault_takes text fault, fault_again text fault)
