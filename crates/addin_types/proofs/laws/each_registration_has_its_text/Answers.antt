use Rattle.addin_types.proofs.TypeTexts.{one_type, type_again, type_takes}
use Rattle.addin_types.proofs.laws.each_registration_has_its_text.Goals as goal

pub returns-clause-back : goal.returns-clause-back
returns-clause-back c = type_again

pub returns-clause-read : goal.returns-clause-read
returns-clause-read c = type_takes

pub returns-clause-one : goal.returns-clause-one
returns-clause-one c = one_type
