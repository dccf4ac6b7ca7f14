use Rattle.std.proofs.Common.{◌≡◌, Some, sym, ap, ◌∙◌, subst, codes, rules}
use Rattle.std.specs.Fmt.{signed_decimal}
use Rattle.cell_values.specs.declared.values.Value.{Value}
use Rattle.cell_values.specs.declared.values.Value.TheVariants as values
use Rattle.sheet_print.specs.RecordWriter.{IsOneLine}
use Rattle.sheet_print.specs.Records.{bare_text, kind_word}
use Rattle.sheet_print.proofs.OneLine.{signed_decimal-one_line, text-one_line}
use Rattle.sheet_print.proofs.Written.{written-same}
use Rattle.sheet_print.proofs.records.write_value.Goals as goal

pub returns-in-Num-clause-ok : goal.returns-in-Num-clause-ok
returns-in-Num-clause-ok c =
    let value = c.in-Num.is in
    let digits : c.format.result.now ≡ signed_decimal c.in-Num.n = search rules in
    written-same c.write_record.result c.args.records.now c.write_record.new.records c.args.name.now (codes "number") (kind_word (Some c.args.value.now)) c.as_bytes.result.now (bare_text (Some c.args.value.now))
    (sym (ap (λ v. kind_word (Some v)) value)) (c.as_bytes.ensures.value ∙ digits ∙ sym (ap (λ v. bare_text (Some v)) value)) c.write_record.ensures

pub returns-in-Num-clause-line : goal.returns-in-Num-clause-line
returns-in-Num-clause-line c =
    let P : Value → Type 0 = λ v. IsOneLine (bare_text (Some v)) in
    subst P (sym c.in-Num.is) (signed_decimal-one_line c.in-Num.n)

pub returns-in-Text-clause-ok : goal.returns-in-Text-clause-ok
returns-in-Text-clause-ok c =
    let value = c.in-Text.is in
    written-same c.write_record-in-Text.result c.args.records.now c.write_record-in-Text.new.records c.args.name.now (codes "text") (kind_word (Some c.args.value.now)) c.as_bytes-in-Text.result.now (bare_text (Some c.args.value.now))
    (sym (ap (λ v. kind_word (Some v)) value)) (c.as_bytes-in-Text.ensures.value ∙ c.as_str.ensures.text ∙ sym (ap (λ v. bare_text (Some v)) value)) c.write_record-in-Text.ensures

pub returns-in-Text-clause-line : goal.returns-in-Text-clause-line
returns-in-Text-clause-line c =
    let P : Value → Type 0 = λ v. IsOneLine (bare_text (Some v)) in
    subst P (sym c.in-Text.is) (text-one_line _ c.as_str.ensures.valid)

pub returns-in-Bool-true-clause-ok : goal.returns-in-Bool-true-clause-ok
returns-in-Bool-true-clause-ok c =
    let value = c.in-Bool-true.is ∙ ap values.Bool (sym c.in-Bool-true.field-0-is ∙ c.in-Bool-true.field-0-test) in
    written-same c.write_record-in-Bool-true.result c.args.records.now c.write_record-in-Bool-true.new.records c.args.name.now (codes "bool") (kind_word (Some c.args.value.now)) (codes "TRUE") (bare_text (Some c.args.value.now))
    (sym (ap (λ v. kind_word (Some v)) value)) (sym (ap (λ v. bare_text (Some v)) value)) c.write_record-in-Bool-true.ensures

pub returns-in-Bool-false-clause-ok : goal.returns-in-Bool-false-clause-ok
returns-in-Bool-false-clause-ok c =
    let value = c.in-Bool-false.is ∙ ap values.Bool (sym c.in-Bool-false.field-0-is ∙ c.in-Bool-false.field-0-test) in
    written-same c.write_record-in-Bool-false.result c.args.records.now c.write_record-in-Bool-false.new.records c.args.name.now (codes "bool") (kind_word (Some c.args.value.now)) (codes "FALSE") (bare_text (Some c.args.value.now))
    (sym (ap (λ v. kind_word (Some v)) value)) (sym (ap (λ v. bare_text (Some v)) value)) c.write_record-in-Bool-false.ensures

pub returns-in-Error-clause-ok : goal.returns-in-Error-clause-ok
returns-in-Error-clause-ok c =
    let value = c.in-Error.is in
    written-same c.write_record-in-Error.result c.args.records.now c.write_record-in-Error.new.records c.args.name.now (codes "error") (kind_word (Some c.args.value.now)) c.as_bytes-in-Error.result.now (bare_text (Some c.args.value.now))
    (sym (ap (λ v. kind_word (Some v)) value)) (c.as_bytes-in-Error.ensures.value ∙ c.word.ensures ∙ sym (ap (λ v. bare_text (Some v)) value)) c.write_record-in-Error.ensures

pub returns-in-Blank-clause-ok : goal.returns-in-Blank-clause-ok
returns-in-Blank-clause-ok c =
    let value = c.in-Blank.is in
    written-same c.write_record-in-Blank.result c.args.records.now c.write_record-in-Blank.new.records c.args.name.now (codes "number") (kind_word (Some c.args.value.now)) (codes "0") (bare_text (Some c.args.value.now))
    (sym (ap (λ v. kind_word (Some v)) value)) (sym (ap (λ v. bare_text (Some v)) value)) c.write_record-in-Blank.ensures
