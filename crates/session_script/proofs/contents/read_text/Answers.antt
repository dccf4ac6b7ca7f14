use Rattle.std.proofs.Common.{inr}
use Rattle.cell_values.proofs.PublicLaws.{no_text_of_bytes, no_text_from_control}
use Rattle.session_script.proofs.Texts.{no_text_said}
use Rattle.session_script.proofs.contents.read_text.Goals as goal

pub returns-in_default-clause-fault : goal.returns-in_default-clause-fault
returns-in_default-clause-fault c =
    inr (no_text_said c.args.bytes.now
    (no_text_of_bytes c.args.bytes.now (c.in_default.ensures.cases).0))

pub returns-in-Err-Control-clause-fault : goal.returns-in-Err-Control-clause-fault
returns-in-Err-Control-clause-fault c =
    inr (no_text_said c.args.bytes.now
    (no_text_from_control c.in-Ok.text.now c.args.bytes.now _ c.in-Err-Control.field-0-0 (c.in-Ok.ensures.cases).0 c.in-Err-Control.field-0-is c.in-Err-Control.ensures.fault))
