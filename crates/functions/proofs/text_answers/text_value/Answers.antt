use Rattle.std.proofs.Common.{ap, refl, sym}
use Rattle.cell_values.proofs.PublicLaws.{no_text_from_length, no_text_from_control}
use Rattle.functions.specs.Texts.{text_or_fault}
use Rattle.functions.proofs.text_answers.text_value.Goals as goal

pub returns-in-Err-TooLong : goal.returns-in-Err-TooLong
returns-in-Err-TooLong c =
    ap text_or_fault (sym (no_text_from_length c.args.s.now _ c.in-Err-TooLong.field-0-is c.in-Err-TooLong.ensures.fault))

pub returns-in-Err-Control : goal.returns-in-Err-Control
returns-in-Err-Control c =
    ap text_or_fault (sym (no_text_from_control c.args.s.now c.args.s.now _ _ refl c.in-Err-Control.field-0-is c.in-Err-Control.ensures.fault))
