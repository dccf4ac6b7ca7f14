use Rattle.std.proofs.Common.{◌≡◌, ◌==◌, true, false, Ok, arith, inr, refl, ap, sym, subst, ◌∙◌}
use Rattle.std.proofs.lemmas.Result.{err_from_is_err_and}
use Rattle.formula_parse.specs.Lexing.{passes_at}
use Rattle.formula_parse.specs.ReaderMachine.{read_text}
use Rattle.formula_parse.proofs.Causes.{read_ok}
use Rattle.formula_parse.proofs.CodeFacts.CodeBytes.{bytes_of_short}
use Rattle.formula_parse.proofs.CodeFacts.CodeLengths.{passes_within}
use Rattle.formula_parse.proofs.CodeFacts.CodeLoop.{begins, begins_not, end_answers, end_reads, token_faults, token_reads, turns_end}
use Rattle.formula_parse.proofs.parser.read_formula.Goals as goal

pub returns-then-not-stands_at : goal.returns-then-not-stands_at
returns-then-not-stands_at c =
    let other : passes_at (λ b. b == 61) c.as_bytes.result.now 0 ≡ false = sym c.stands_at.ensures ∙ c.if-not-stands_at.true in
    inr (begins_not c.args.text.now (subst (λ bytes. passes_at (λ b. b == 61) bytes 0 ≡ false) c.as_bytes.ensures.value other))

pub loop-init : goal.loop-init
loop-init c =
    let text = c.args.text.now in
    let stands : passes_at (λ b. b == 61) c.as_bytes.result.now 0 ≡ true = sym c.stands_at.ensures ∙ c.if-not-stands_at.false in
    let begun : passes_at (λ b. b == 61) text 0 ≡ true = subst (λ bytes. passes_at (λ b. b == 61) bytes 0 ≡ true) c.as_bytes.ensures.value stands in
    record {
      up_to = record {
        within = passes_within (λ b. b == 61) text 0 begun;
        few = rw c.in_ok-reader.ensures (omega arith);
        shallow = rw c.in_ok-reader.ensures refl;
      };
      reads = begins text c.in_ok-reader.reader begun c.in_ok-reader.ensures;
    }

pub returns-in_err-root : goal.returns-in_err-root
returns-in_err-root c =
    let p = err_from_is_err_and c.from_residual-in_err-root.result c.from_residual-in_err-root.ensures.1 in
    rw (p.1, p.2) (end_answers c.args.text.now c.loop.counter c.loop.reader c.loop.place c.gap_end-start.result c.in_err-root.field-0.0 c.loop-test.true c.loop.invariant.reads c.gap_end-start.ensures.value c.if-start-text.true c.in_err-root.ensures)

pub new-requires-then-start-text : goal.new-requires-then-start-text
new-requires-then-start-text c =
    let text = c.args.text.now in
    let read : read_text text ≡ Ok c.in_ok-root.root = sym (end_reads text c.loop.counter c.loop.reader c.loop.place c.gap_end-start.result c.in_ok-root.root c.loop-test.true c.loop.invariant.reads c.gap_end-start.ensures.value c.if-start-text.true c.in_ok-root.ensures) in
    (text, read_ok text c.in_ok-root.root c.requires read)

pub returns-then-start-text : goal.returns-then-start-text
returns-then-start-text c =
    inr (ap (λ x. Ok x) c.in_ok-new.ensures ∙ end_reads c.args.text.now c.loop.counter c.loop.reader c.loop.place c.gap_end-start.result c.in_ok-root.root c.loop-test.true c.loop.invariant.reads c.gap_end-start.ensures.value c.if-start-text.true c.in_ok-root.ensures)

pub read_token-requires-clause-short : goal.read_token-requires-clause-short
read_token-requires-clause-short c = bytes_of_short c.args.text.now c.requires

pub returns-in_err-place : goal.returns-in_err-place
returns-in_err-place c =
    let p = err_from_is_err_and c.from_residual-in_err-place.result c.from_residual-in_err-place.ensures.1 in
    rw (p.1, p.2) (token_faults c.args.text.now c.loop.counter c.loop.reader c.loop.place c.gap_end-start.result c.in_err-place.field-0.0 c.loop-test.true c.loop.invariant.reads c.gap_end-start.ensures.value c.in_err-place.ensures.err)

pub loop-preserved : goal.loop-preserved
loop-preserved c = record {
  up_to = c.in_ok-place.ensures.on;
  reads = token_reads c.args.text.now c.loop.counter c.loop.reader c.read_token.new.reader c.loop.place c.gap_end-start.result c.in_ok-place.place c.loop-test.true c.loop.invariant.reads c.gap_end-start.ensures.value c.in_ok-place.ensures.ok;
}

pub returns : goal.returns
returns c = inr (turns_end c.args.text.now c.loop.counter c.loop.reader c.loop.place c.loop-test.false c.loop.invariant.reads)
