use Rattle.std.proofs.Common.{Some, sym, ap, option_copied, codes}
use Rattle.sheet_print.specs.Records.{bare_text, kind_word}
use Rattle.sheet_print.proofs.Written.{written-same}
use Rattle.sheet_print.proofs.records.write_shown.Goals as goal

pub returns-in-None-clause-ok : goal.returns-in-None-clause-ok
returns-in-None-clause-ok c =
    let shown = option_copied c.args.shown in
    written-same c.write_record.result c.args.records.now c.write_record.new.records c.args.name.now (codes "circular") (kind_word shown) (codes "#CIRC!") (bare_text shown)
    (sym (ap (λ o. kind_word (option_copied o)) c.in-None.is)) (sym (ap (λ o. bare_text (option_copied o)) c.in-None.is)) c.write_record.ensures

pub returns-in-Some-clause-ok : goal.returns-in-Some-clause-ok
returns-in-Some-clause-ok c =
    let shown = option_copied c.args.shown in
    let value = Some c.in-Some.value.now in
    written-same c.write_value.result c.args.records.now c.write_value.new.records c.args.name.now (kind_word value) (kind_word shown) (bare_text value) (bare_text shown)
    (sym (ap (λ o. kind_word (option_copied o)) c.in-Some.is)) (sym (ap (λ o. bare_text (option_copied o)) c.in-Some.is)) c.write_value.ensures.ok
