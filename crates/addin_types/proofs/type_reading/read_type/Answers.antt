use Rattle.std.proofs.Common.{ap, ◌∙◌}
use Rattle.addin_types.specs.TypeText.{registration_in}
use Rattle.addin_types.proofs.TypeTexts.{fault_again, fault_found, type_again, type_found}
use Rattle.addin_types.proofs.type_reading.read_type.Goals as goal

pub returns-clause-read : goal.returns-clause-read
returns-clause-read c = type_found c.args.text.now _ (c.read_bytes.ensures ∙ ap registration_in c.as_bytes.ensures.value)

pub returns-clause-ok : goal.returns-clause-ok
returns-clause-ok c = λ r is e. c.read_bytes.ensures ∙ (ap registration_in (c.as_bytes.ensures.value ∙ e) ∙ type_again r is)

pub returns-clause-fault : goal.returns-clause-fault
returns-clause-fault c = fault_found c.args.text.now _ (c.read_bytes.ensures ∙ ap registration_in c.as_bytes.ensures.value)

pub returns-clause-refused : goal.returns-clause-refused
returns-clause-refused c = λ fault cause. c.read_bytes.ensures ∙ (ap registration_in c.as_bytes.ensures.value ∙ fault_again c.args.text.now fault cause)
