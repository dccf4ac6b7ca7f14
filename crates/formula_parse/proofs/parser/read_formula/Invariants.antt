use Rattle.formula_parse.specs.Turns.{IsReadUpTo}
use Rattle.formula_parse.proofs.CodeFacts.CodeLoop.{Reads}
use Rattle.formula_parse.proofs.parser.read_formula.Given as goal

abbrev pub invariant-loop : goal.invariant-loop
invariant-loop l = record {
  up_to : IsReadUpTo l.text l.place l.reader;
  reads : Reads l.text l.counter l.reader l.place;
}
