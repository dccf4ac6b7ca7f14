use Rattle.std.proofs.Common.{◌≡◌, IfOk, ap, subst, ◌∙◌}
use Rattle.cell_refs.specs.Written.{capitals}
use Rattle.formula_parse.proofs.CodeFacts.CodeNames.{callee_of_capitals, no_callee, not_name_capitals}
use Rattle.formula_parse.proofs.lexing.words.callee.Goals as goal

pub returns-in-Ok : goal.returns-in-Ok
returns-in-Ok c =
    let upper : c.in-Ok.name.now ≡ capitals c.args.word.now = (c.in-Ok.ensures.cases).0 ∙ (c.make_ascii_uppercase.ensures.after ∙ ap capitals c.copy_from_slice.ensures.after) in
    subst (λ is. IfOk c.named.result (λ callee. callee ≡ is)) (callee_of_capitals c.args.word.now c.in-Ok.name.now upper) c.named.ensures

pub returns-in-Err : goal.returns-in-Err
returns-in-Err c =
    no_callee c.args.word.now (not_name_capitals c.args.word.now _ (c.make_ascii_uppercase.ensures.after ∙ ap capitals c.copy_from_slice.ensures.after) (c.in-Err.ensures.cases).0)
