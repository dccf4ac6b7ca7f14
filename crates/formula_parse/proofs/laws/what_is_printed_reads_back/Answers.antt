use Rattle.formula_parse.proofs.PrintFacts.Printed.{printed_reads_back}
use Rattle.formula_parse.proofs.laws.what_is_printed_reads_back.Goals as goal

pub returns : goal.returns
returns c = printed_reads_back
