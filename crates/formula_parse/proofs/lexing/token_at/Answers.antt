use Rattle.std.proofs.Common.{Ok, inl, inr, ⊎_elim, arith, ap, sym, ◌∙◌}
use Rattle.std.proofs.lemmas.Str.{IsCharBoundary-after_ascii}
use Rattle.formula_parse.specs.Lexing.{text_behind}
use Rattle.formula_parse.proofs.CodeFacts.CodeTokens.{byte_at, text_stands}
use Rattle.formula_parse.proofs.lexing.token_at.Goals as goal

pub range_from-requires : goal.range_from-requires
range_from-requires c =
    let first = rw c.as_bytes.ensures.value at (byte_at c.as_bytes.result.now c.args.place c.in-Some.byte.now c.in-Some.ensures.value) in
    λ _. IsCharBoundary-after_ascii c.args.text.now c.args.place c.utf8.text first.0 (omega (arith, first.1, c.in-Some-eq34.field-0-test))

pub returns-in-Some-eq34 : goal.returns-in-Some-eq34
returns-in-Some-eq34 c =
    let first = rw c.as_bytes.ensures.value at (byte_at c.as_bytes.result.now c.args.place c.in-Some.byte.now c.in-Some.ensures.value) in
    let stands = text_stands c.args.text.now c.args.place first.0 (first.1 ∙ c.in-Some-eq34.field-0-test) in
    ⊎_elim (λ memory. inl memory) (λ found. inr (found ∙ ap (λ x. Ok x) (ap text_behind c.range_from.ensures.value ∙ sym stands))) c.text_behind.ensures
