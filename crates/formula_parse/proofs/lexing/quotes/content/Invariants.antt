use Rattle.std.proofs.Common.{◌≤◌, ◌-◌, length}
use denote.Text.{Utf8}
use denote.Shadow.{shadow}
use Rattle.std.specs.String.{string_bytes}
use Rattle.formula_parse.proofs.CodeFacts.CodeQuotes.{IsDone}
use Rattle.formula_parse.proofs.lexing.quotes.content.Given as goal

-- says that each `&str` the loop changes is text: keep it, and add clauses with ×
abbrev pub invariant-loop-before : goal.invariant-loop-before
invariant-loop-before l =
    shadow (Utf8 l.rest) × IsDone l.text (string_bytes l.content) (length l.text - length l.rest) l.rest × (length l.rest ≤ length l.text)

abbrev pub decreases-loop-before : goal.decreases-loop-before
decreases-loop-before l = length l.rest
