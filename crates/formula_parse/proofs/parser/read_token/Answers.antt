use Rattle.std.proofs.Common.{◌≡◌, cond, drop, Some, None, inr, length-drop, arith, ap, sym, ◌∙◌}
use Rattle.formula_parse.specs.Lexing.{token_at}
use Rattle.formula_parse.specs.ReaderMachine.{reader_behind}
use Rattle.formula_parse.proofs.CodeFacts.CodeLengths.{token_within}
use Rattle.formula_parse.proofs.CodeFacts.CodeReading.{no_token, no_turn, too_deep_turn, onward_turn, answered}
use Rattle.formula_parse.proofs.CodeFacts.CodeTurns.{one_more}
use Rattle.formula_parse.proofs.parser.read_token.Goals as goal

pub returns-in_default-clause-err : goal.returns-in_default-clause-err
returns-in_default-clause-err c =
    inr (no_token c.args.reader.now c.args.text.now c.args.place c.awaits_operand-awaits_operand.result c.fault_at.result c.requires.within (answered _ _ c.in_ok-token.ensures ∙ c.in_default.is) c.awaits_operand-awaits_operand.ensures c.fault_at.ensures)

pub overflow_add-result : goal.overflow_add-result
overflow_add-result c =
    let text = c.args.text.now in
    let found : token_at (drop c.args.place text) ≡ Some (c.in-Some.token, c.in-Some.len) = answered _ _ c.in_ok-token.ensures ∙ c.in-Some.is in
    let fits = token_within (drop c.args.place text) c.in-Some.token c.in-Some.len found in
    omega (arith, fits.1, length-drop c.args.place text, c.requires.short)

pub returns-then-not-branch-clause-err : goal.returns-then-not-branch-clause-err
returns-then-not-branch-clause-err c =
    let found : token_at (drop c.args.place c.args.text.now) ≡ Some (c.in-Some.token, c.in-Some.len) = answered _ _ c.in_ok-token.ensures ∙ c.in-Some.is in
    let none : reader_behind c.args.reader.now c.in-Some.token ≡ None = c.in_ok-take.ensures ∙ ap (λ b. cond b (Some c.take.new.self) None) c.if-not-branch.true in
    inr (no_turn c.args.reader.now c.args.text.now c.args.place c.in-Some.token c.in-Some.len c.awaits_operand-awaits_operand.result c.fault_at-then-not-branch.result c.requires.within found none c.awaits_operand-awaits_operand.ensures c.fault_at-then-not-branch.ensures)

pub returns-then-is_too_deep-clause-err : goal.returns-then-is_too_deep-clause-err
returns-then-is_too_deep-clause-err c =
    let found : token_at (drop c.args.place c.args.text.now) ≡ Some (c.in-Some.token, c.in-Some.len) = answered _ _ c.in_ok-token.ensures ∙ c.in-Some.is in
    let some : reader_behind c.args.reader.now c.in-Some.token ≡ Some c.take.new.self = c.in_ok-take.ensures ∙ ap (λ b. cond b (Some c.take.new.self) None) c.if-not-branch.false in
    inr (too_deep_turn c.args.reader.now c.take.new.self c.args.text.now c.args.place c.in-Some.token c.in-Some.len c.requires.within found some (sym c.is_too_deep.ensures ∙ c.if-is_too_deep.true))

pub returns-else-is_too_deep-clause-ok : goal.returns-else-is_too_deep-clause-ok
returns-else-is_too_deep-clause-ok c =
    let found : token_at (drop c.args.place c.args.text.now) ≡ Some (c.in-Some.token, c.in-Some.len) = answered _ _ c.in_ok-token.ensures ∙ c.in-Some.is in
    let some : reader_behind c.args.reader.now c.in-Some.token ≡ Some c.take.new.self = c.in_ok-take.ensures ∙ ap (λ b. cond b (Some c.take.new.self) None) c.if-not-branch.false in
    onward_turn c.args.reader.now c.take.new.self c.args.text.now c.args.place c.in-Some.token c.in-Some.len c.requires.within found some (sym c.is_too_deep.ensures ∙ c.if-is_too_deep.false)

pub returns-else-is_too_deep-clause-on : goal.returns-else-is_too_deep-clause-on
returns-else-is_too_deep-clause-on c =
    let text = c.args.text.now in
    let found : token_at (drop c.args.place text) ≡ Some (c.in-Some.token, c.in-Some.len) = answered _ _ c.in_ok-token.ensures ∙ c.in-Some.is in
    let some : reader_behind c.args.reader.now c.in-Some.token ≡ Some c.take.new.self = c.in_ok-take.ensures ∙ ap (λ b. cond b (Some c.take.new.self) None) c.if-not-branch.false in
    let fits = token_within (drop c.args.place text) c.in-Some.token c.in-Some.len found in
    let more = one_more c.args.reader.now c.take.new.self c.in-Some.token some in
    record {
      within = omega (arith, fits.1, length-drop c.args.place text);
      few = omega (arith, fits.0, more, c.requires.few);
      shallow = sym c.is_too_deep.ensures ∙ c.if-is_too_deep.false;
    }
