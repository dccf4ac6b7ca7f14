use Rattle.std.proofs.Common.{Ok, inr, ap, sym, ◌∙◌}
use Rattle.formula_parse.proofs.CodeFacts.CodeNames.{no_call_mark, no_call_name, true_found, false_found}
use Rattle.formula_parse.proofs.lexing.words.word.Goals as goal
use Rattle.formula_parse.proofs.lexing.words.word.Goals.{then-stands_at+in_ok-callee+in_default, else-stands_at}

pub returns-then-is_word : goal.returns-then-is_word
returns-then-is_word c =
    let text = c.args.text.now in
    elim c.if-stands_at.branch [
      | then-stands_at+in_ok-callee+in_default w ↦
          inr (ap (λ x. Ok x) (sym (true_found text _ c.word_len-len.ensures (no_call_name _ _ _ (sym w.in_default.is ∙ w.in_ok-callee.ensures)) (sym c.is_word.ensures ∙ c.if-is_word.true))))
      | else-stands_at w ↦
          inr (ap (λ x. Ok x) (sym (true_found text _ c.word_len-len.ensures (no_call_mark _ _ (sym c.stands_at.ensures ∙ w.if-stands_at.false)) (sym c.is_word.ensures ∙ c.if-is_word.true))))
    ]

pub returns-then-is_word-2 : goal.returns-then-is_word-2
returns-then-is_word-2 c =
    let text = c.args.text.now in
    let other = sym c.is_word.ensures ∙ c.if-is_word.false in
    let is = sym c.is_word-else-is_word.ensures ∙ c.if-is_word-2.true in
    elim c.if-stands_at.branch [
      | then-stands_at+in_ok-callee+in_default w ↦
          inr (ap (λ x. Ok x) (sym (false_found text _ c.word_len-len.ensures (no_call_name _ _ _ (sym w.in_default.is ∙ w.in_ok-callee.ensures)) other is)))
      | else-stands_at w ↦
          inr (ap (λ x. Ok x) (sym (false_found text _ c.word_len-len.ensures (no_call_mark _ _ (sym c.stands_at.ensures ∙ w.if-stands_at.false)) other is)))
    ]
