use Rattle.formula_parse.proofs.Causes.{formula_back}
use Rattle.formula_parse.proofs.PrintFacts.Printed.{printed_reads_back}
use Rattle.formula_parse.proofs.printer.print.Goals as goal

pub returns-then-is_err-clause-again : goal.returns-then-is_err-clause-again
returns-then-is_err-clause-again c =
    let t = c.root.ensures.tree in formula_back _ c.args.t.now (printed_reads_back t.0 c.args.t.now t.1)

pub returns-else-is_err-clause-again : goal.returns-else-is_err-clause-again
returns-else-is_err-clause-again c =
    let t = c.root.ensures.tree in formula_back _ c.args.t.now (printed_reads_back t.0 c.args.t.now t.1)
