use Rattle.std.proofs.Common.{◌≡◌, ◌-◌, length, take, drop, take_all, length-drop, arith, refl, sym, ◌∙◌}
use Rattle.cell_refs.proofs.PublicLaws.{cut_digits}
use Rattle.formula_parse.proofs.CodeFacts.CodeSheets.{no_word, sheet_found, no_number, no_mark, both_parts, not_both, sheet_parts, not_sheet}
use Rattle.formula_parse.proofs.lexing.begun.sheet_len.Goals as goal
use Rattle.formula_parse.proofs.lexing.begun.sheet_len.Goals.{else-is_sheet-via-then-is_sheet+else-stands_at, else-is_sheet-via-else-is_sheet}

pub returns-then-not-begins_with-clause-value : goal.returns-then-not-begins_with-clause-value
returns-then-not-begins_with-clause-value c = sym (no_word c.args.text.now (sym c.begins_with.ensures ∙ c.if-not-begins_with.true))

pub is_sheet-requires : goal.is_sheet-requires
is_sheet-requires c = cut_digits _ _ _ c.digits_len-len.ensures refl

pub returns-then-stands_at-clause-value : goal.returns-then-stands_at-clause-value
returns-then-stands_at-clause-value c =
    let text = c.args.text.now in
    let rest : take (length text - 5) (drop 5 text) ≡ drop 5 text = take_all (length text - 5) (drop 5 text) (omega (arith, length-drop 5 text)) in
    let mark = both_parts _ _ _ _ (sym c.stands_at.ensures ∙ c.if-stands_at.true) in
    let number = sheet_parts _ _ (sym c.is_sheet.ensures ∙ c.if-is_sheet.true) in
    sym (sheet_found text _ _ rest (sym c.begins_with.ensures ∙ c.if-not-begins_with.false) c.digits_len-len.ensures number.0 number.1 mark.0 mark.1)

pub returns-else-is_sheet-clause-value : goal.returns-else-is_sheet-clause-value
returns-else-is_sheet-clause-value c =
    let text = c.args.text.now in
    let rest : take (length text - 5) (drop 5 text) ≡ drop 5 text = take_all (length text - 5) (drop 5 text) (omega (arith, length-drop 5 text)) in
    elim c.else-is_sheet.branch [
      | else-is_sheet-via-then-is_sheet+else-stands_at w ↦
          let number = sheet_parts _ _ (sym c.is_sheet.ensures ∙ w.if-is_sheet.true) in
          sym (no_mark text _ _ rest (sym c.begins_with.ensures ∙ c.if-not-begins_with.false) c.digits_len-len.ensures number.0 number.1 (not_both _ _ _ _ (sym w.stands_at.ensures ∙ w.if-stands_at.false)))
      | else-is_sheet-via-else-is_sheet w ↦
          sym (no_number text _ _ rest (sym c.begins_with.ensures ∙ c.if-not-begins_with.false) c.digits_len-len.ensures (not_sheet _ _ (sym c.is_sheet.ensures ∙ w.if-is_sheet.false)))
    ]
