use Rattle.functions.proofs.SumLaws.{sum_of-append}
use Rattle.functions.proofs.laws.a_sum_is_the_sum_of_its_parts.Goals as goal

pub returns : goal.returns
returns c = sum_of-append
