use Rattle.std.proofs.Common.{◌≡◌, Ok, Err, IfOk, Result, refl, sym, ◌∙◌}
use Rattle.formula_parse.specs.declared.faults.ParseFault.{ParseFault}
use Rattle.formula_parse.specs.declared.nodes.Node.{Node}
use Rattle.formula_parse.proofs.CodeFacts.CodeBytes.{short_text}
use Rattle.formula_parse.proofs.CodeFacts.CodeFaults.{not_said}
use Rattle.formula_parse.proofs.ParseLaws.{exact_if_short, ok_clause, read_clause, deep_clause, syntax_clause, range_clause, number_clause}
use Rattle.formula_parse.proofs.parser.parse.Goals as goal

pub read_formula-requires : goal.read_formula-requires
read_formula-requires c = short_text c.args.text.now c.utf8.text (sym c.has_too_many_characters.ensures ∙ c.if-has_too_many_characters.false)

pub returns-clause-too_long : goal.returns-clause-too_long
returns-clause-too_long c =
    let short = short_text c.args.text.now c.utf8.text (sym c.has_too_many_characters.ensures ∙ c.if-has_too_many_characters.false) in
    not_said c.args.text.now c.read_formula.result short.1 c.read_formula.ensures

-- what holds of a tree that is answered
if_ok : (P : Node → Type 0) (result : Result Node ParseFault) → ((tree : Node) → result ≡ Ok tree → P tree) → IfOk result P
if_ok P (Ok tree) h = h tree refl
if_ok P (Err fault) h = tt

pub returns-clause-ok : goal.returns-clause-ok
returns-clause-ok c = if_ok _ c.read_formula.result (λ tree e. ok_clause c.args.text.now c.read_formula.result tree (short_text c.args.text.now c.utf8.text (sym c.has_too_many_characters.ensures ∙ c.if-has_too_many_characters.false)).0 (exact_if_short c.args.text.now c.read_formula.result (short_text c.args.text.now c.utf8.text (sym c.has_too_many_characters.ensures ∙ c.if-has_too_many_characters.false)) c.read_formula.ensures) e)

pub returns-clause-read : goal.returns-clause-read
returns-clause-read c = if_ok _ c.read_formula.result (λ tree e. read_clause c.args.text.now c.read_formula.result tree (short_text c.args.text.now c.utf8.text (sym c.has_too_many_characters.ensures ∙ c.if-has_too_many_characters.false)).0 (exact_if_short c.args.text.now c.read_formula.result (short_text c.args.text.now c.utf8.text (sym c.has_too_many_characters.ensures ∙ c.if-has_too_many_characters.false)) c.read_formula.ensures) e)

pub returns-clause-too_deep : goal.returns-clause-too_deep
returns-clause-too_deep c = λ e. deep_clause c.args.text.now c.read_formula.result (short_text c.args.text.now c.utf8.text (sym c.has_too_many_characters.ensures ∙ c.if-has_too_many_characters.false)).0 (exact_if_short c.args.text.now c.read_formula.result (short_text c.args.text.now c.utf8.text (sym c.has_too_many_characters.ensures ∙ c.if-has_too_many_characters.false)) c.read_formula.ensures) e

pub returns-clause-bad_range : goal.returns-clause-bad_range
returns-clause-bad_range c = λ e. range_clause c.args.text.now c.read_formula.result (short_text c.args.text.now c.utf8.text (sym c.has_too_many_characters.ensures ∙ c.if-has_too_many_characters.false)).0 (exact_if_short c.args.text.now c.read_formula.result (short_text c.args.text.now c.utf8.text (sym c.has_too_many_characters.ensures ∙ c.if-has_too_many_characters.false)) c.read_formula.ensures) e

pub returns-clause-number_too_large : goal.returns-clause-number_too_large
returns-clause-number_too_large c = λ e. number_clause c.args.text.now c.read_formula.result (short_text c.args.text.now c.utf8.text (sym c.has_too_many_characters.ensures ∙ c.if-has_too_many_characters.false)).0 (exact_if_short c.args.text.now c.read_formula.result (short_text c.args.text.now c.utf8.text (sym c.has_too_many_characters.ensures ∙ c.if-has_too_many_characters.false)) c.read_formula.ensures) e

pub returns-clause-syntax : goal.returns-clause-syntax
returns-clause-syntax c = λ place e. syntax_clause c.args.text.now c.read_formula.result place (short_text c.args.text.now c.utf8.text (sym c.has_too_many_characters.ensures ∙ c.if-has_too_many_characters.false)).0 (exact_if_short c.args.text.now c.read_formula.result (short_text c.args.text.now c.utf8.text (sym c.has_too_many_characters.ensures ∙ c.if-has_too_many_characters.false)) c.read_formula.ensures) e
