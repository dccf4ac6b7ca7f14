use Rattle.std.proofs.Common.{Err}
use Rattle.formula_parse.specs.declared.faults.ParseFault.TheVariants as faults
use Rattle.formula_parse.proofs.Causes.{fault_cause, cause_fault, syntax_cause, cause_syntax, range_cause, cause_range, number_cause, cause_number}
use Rattle.formula_parse.proofs.laws.each_fault_has_its_cause.Goals as goal

pub returns : goal.returns
returns c = record {
  too_deep = λ text s. (cause_fault text (Err faults.TooDeep) s, fault_cause text (Err faults.TooDeep) s);
  syntax = λ text place s. ((λ f. cause_fault text (Err (faults.Syntax place)) s (cause_syntax text place f)), (λ h. syntax_cause text place s (fault_cause text (Err (faults.Syntax place)) s h)));
  bad_range = λ text s. ((λ f. cause_fault text (Err faults.BadRange) s (cause_range text f)), (λ h. range_cause text s (fault_cause text (Err faults.BadRange) s h)));
  number_too_large = λ text s. ((λ f. cause_fault text (Err faults.NumberTooLarge) s (cause_number text f)), (λ h. number_cause text s (fault_cause text (Err faults.NumberTooLarge) s h)));
}
