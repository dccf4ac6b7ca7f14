use Rattle.cell_values.proofs.TextFacts.{no_text_of_bytes, no_text_from_control}
use Rattle.cell_values.proofs.words.text_from_bytes.Goals as goal

pub returns-in_default-clause-form : goal.returns-in_default-clause-form
returns-in_default-clause-form c = λ _. no_text_of_bytes c.args.bytes.now (c.in_default.ensures.cases).0

pub returns-in-Err-Control-clause-form : goal.returns-in-Err-Control-clause-form
returns-in-Err-Control-clause-form c =
    λ _. no_text_from_control c.in-Ok.s.now c.args.bytes.now _ c.in-Err-Control.field-0-0 (c.in-Ok.ensures.cases).0 c.in-Err-Control.field-0-is c.in-Err-Control.ensures.fault
