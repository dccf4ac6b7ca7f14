-- A reference without a sheet, byte by byte.
use Rattle.std.proofs.Common.{◌≡◌, ℕ, ◌<◌, ◌≤◌, Bool, true, false, cond, eqb, List, [], ◌∷◌, ◌++◌, length, Option, Some, None, option_and_then, option_map, refl, sym, ap, ◌∙◌, arith, codes, eqb-true, ◌⊎◌, ⊎_elim, inl, inr}
use Rattle.std.specs.Char.{is_ascii_alphabetic, is_ascii_uppercase, to_ascii_uppercase}
use Rattle.std.specs.Option.{option_map_or}
use Rattle.std.proofs.lemmas.Bool.Decides.{nat_tests}
use Rattle.std.proofs.lemmas.Bool.{cases_Bool, cond-true, cond-false}
use Rattle.std.specs.List.{prefix_len}
use Rattle.std.proofs.lemmas.List.Folds.{length-prefix_len}
use Rattle.std.proofs.lemmas.Option.{option_and_then_some, same_Some}
use Rattle.cell_refs.specs.declared.references.RefText.{RefText}
use Rattle.cell_refs.specs.Reading.{number_at, mark_at, column_at, column_number, rest_after, sheet_number_at, sheet_at, reference_in, ◌>>=◌}
use Rattle.cell_refs.specs.Written.{capitals}
use Rattle.formula_parse.proofs.LexFacts.LexRows.{Step, Start, ColumnMark, Column, Row, column_after, next_step, run, letter_upper, column_step_parts, span_yes, span_no, letters, after_letters}
use Rattle.formula_parse.proofs.LexFacts.LexColumns.{column_parts, column_from, letter_fold, letter_is, letter_next, column_forth, column_back, mark_yes, mark_no, row_forth_from, row_back_from, few_letters}

-- a test that lets an answer through
chosen_some : {A : Type 0} (b : Bool) (o : Option A) (x : A) → cond b o None ≡ Some x → (b ≡ true) × (o ≡ Some x)
chosen_some true o x h = (refl, h)
chosen_some false o x h = cc

-- ---- the sheet
-- what two steps give, the first gives
pub bind_some : {A B : Type 0} (o : Option A) (f : A → Option B) (y : B) → (o >>= f) ≡ Some y → (x : A) × (o ≡ Some x) × (f x ≡ Some y)
bind_some None f y h = cc
bind_some (Some x) f y h = (x, refl, h)

-- where a sheet is written, the reference has it
pub sheet_number_some : (text : List ℕ) (sheet : Option ℕ × List ℕ) → sheet_number_at text ≡ Some sheet → sheet.0 ≡ None → ⊥
unfolding sheet_number_at
sheet_number_some text sheet h none =
    let p = bind_some (number_at 64 text) _ sheet h in
    let q = bind_some (rest_after (codes "!") p.0.1) _ sheet p.2 in
    let e : Some p.0.0 ≡ sheet.0 = same_Some _ _ (ap (option_map (λ x. x.0)) q.2) in
    cc

-- a sheet, by what follows its word
pub sheet_is : (text : List ℕ) → option_map_or sheet_number_at (rest_after (codes "SHEET") text) (Some (None, text)) ≡ sheet_at text
unfolding sheet_at
sheet_is text = refl

-- where no sheet is read, all of the text is left
pub no_sheet : (o : Option (List ℕ)) (text : List ℕ) (sheet : Option ℕ × List ℕ) → option_map_or sheet_number_at o (Some (None, text)) ≡ Some sheet → sheet.0 ≡ None → sheet.1 ≡ text
no_sheet None text sheet h none = sym (ap (λ x. x.1) (same_Some _ _ h))
no_sheet (Some x) text sheet h none = absurd (sheet_number_some x sheet h none)

-- what is read behind a word follows it
pub after_word : (ws text rest : List ℕ) → rest_after ws text ≡ Some rest → text ≡ ws ++ rest
after_word [] text rest h = same_Some _ _ h
after_word (w ∷ ws) [] rest h = cc
after_word (w ∷ ws) (c ∷ cs) rest h =
    let p = chosen_some (eqb c w) (rest_after ws cs) rest h in
    ap (λ x. x ∷ cs) (eqb-true c w p.0) ∙ ap (λ x. w ∷ x) (after_word ws cs rest p.1)

-- ---- whole references
-- a first letter begins a column
pub first_letter_next : (b : ℕ) → is_ascii_alphabetic b ≡ true → (next_step Start b ≡ column_after 0 b) × (next_step ColumnMark b ≡ column_after 0 b)
unfolding next_step
first_letter_next b l = let p = letter_is b l in (cond-false _ _ _ p.0, refl)

-- letters begin with a letter
pub first_letter : (v : List ℕ) → 0 < length (letters v) → (b : ℕ) × (bs : List ℕ) × (v ≡ b ∷ bs) × (is_ascii_alphabetic b ≡ true)
first_letter [] some = absurd (omega arith)
first_letter (b ∷ bs) some = ⊎_elim
    (λ l. (b, bs, refl, sym (letter_upper b) ∙ l))
    (λ no. let s = span_no is_ascii_uppercase (to_ascii_uppercase b) (capitals bs) no in absurd (omega (arith, ap length s.0)))
    (cases_Bool (is_ascii_uppercase (to_ascii_uppercase b)))

-- a first letter begins a column, behind a `$` too
pub column_begins : (v : List ℕ) (b : ℕ) (bs : List ℕ) → v ≡ b ∷ bs → is_ascii_alphabetic b ≡ true → (run Start v ≡ run (Column 0) v) × (run ColumnMark v ≡ run (Column 0) v)
column_begins [] b bs e l = cc
column_begins (c ∷ cs) b bs e l =
    let same : c ≡ b = cc in
    let lc : is_ascii_alphabetic c ≡ true = ap is_ascii_alphabetic same ∙ l in
    let p = first_letter_next c lc in
    let q = sym (letter_next 0 c lc) in
    (ap (option_and_then (λ t. run t cs)) (p.0 ∙ q), ap (option_and_then (λ t. run t cs)) (p.1 ∙ q))

-- a first `$` marks the column
pub dollar_next : (b : ℕ) → eqb b 36 ≡ true → next_step Start b ≡ Some ColumnMark
unfolding next_step
dollar_next b m = cond-true _ _ _ m

-- the text behind the `$` of a column, or all of it
pub column_text : (p : List ℕ) → (v : List ℕ) × (capitals v ≡ (mark_at (capitals p)).1) × ((run Start p ≡ run ColumnMark v) ⊎ (v ≡ p))
unfolding mark_at next_step
column_text [] = ([], refl, inr refl)
column_text (b ∷ bs) = ⊎_elim
    (λ m. (bs, sym (ap (λ y. y.1) (mark_yes b bs m)), inl (ap (option_and_then (λ t. run t bs)) (dollar_next b m))))
    (λ no. (b ∷ bs, sym (ap (λ y. y.1) (mark_no b bs no)), inr refl))
    (cases_Bool (eqb b 36))

-- the column at the front is read byte for byte
pub column_forth_from : (v : List ℕ) (c : ℕ × List ℕ) → column_at (capitals v) ≡ Some c → (b : ℕ) × (bs : List ℕ) × (v ≡ b ∷ bs) × (is_ascii_alphabetic b ≡ true) × (x : List ℕ) × (capitals x ≡ c.1) × (run (Column 0) v ≡ run (Column c.0) x)
unfolding column_number
column_forth_from v c h =
    let p = column_parts (capitals v) c.0 c.1 h in
    let f = first_letter v p.0 in
    let q = column_forth 0 v p.1 in
    (f.0, f.1, f.2, f.3, q.0, q.1 ∙ p.3, q.2 ∙ ap (λ m. run (Column m) q.0) p.2)

-- what a reference that is read consists of
pub reference_parts : (u : List ℕ) (r : RefText) (rest : List ℕ) → reference_in u ≡ Some (r, rest) → (sheet : Option ℕ × List ℕ) × (column : ℕ × List ℕ) × (row : ℕ × List ℕ) × (sheet_at u ≡ Some sheet) × (column_at (mark_at sheet.1).1 ≡ Some column) × (number_at 1048576 (mark_at column.1).1 ≡ Some row) × (sheet.0 ≡ r.sheet) × (row.1 ≡ rest)
unfolding reference_in
reference_parts u r rest h =
    let sheet = bind_some (sheet_at u) _ (r, rest) h in
    let column = bind_some (column_at (mark_at sheet.0.1).1) _ (r, rest) sheet.2 in
    let row = bind_some (number_at 1048576 (mark_at column.0.1).1) _ (r, rest) column.2 in
    let e = same_Some _ _ row.2 in
    (sheet.0, column.0, row.0, sheet.1, column.1, row.1, ap (λ x. x.0.sheet) e, ap (λ x. x.1) e)

-- a reference is read byte for byte, from its parts
pub forth_from : (p : List ℕ) (column : ℕ × List ℕ) (row : ℕ) → column_at (mark_at (capitals p)).1 ≡ Some column → number_at 1048576 (mark_at column.1).1 ≡ Some (row, []) → run Start p ≡ Some (Row row)
forth_from p column row hc hr =
    let t = column_text p in
    let f = column_forth_from t.0 column (ap column_at t.1 ∙ hc) in
    let last : run (Column column.0) f.4 ≡ Some (Row row) = row_forth_from column.0 row f.4 (ap (λ y. number_at 1048576 (mark_at y).1) f.5 ∙ hr) in
    let begins = column_begins t.0 f.0 f.1 f.2 f.3 in
    ⊎_elim (λ marked. marked ∙ begins.1 ∙ f.6 ∙ last) (λ same. ap (run Start) (sym same) ∙ begins.0 ∙ f.6 ∙ last) t.2

-- a reference without a sheet is read byte for byte
pub reference_forth : (p : List ℕ) (r : RefText) → reference_in (capitals p) ≡ Some (r, []) → r.sheet ≡ None → (m : ℕ) × (run Start p ≡ Some (Row m))
reference_forth p r h none =
    let q = reference_parts (capitals p) r [] h in
    let text : q.0.1 ≡ capitals p = no_sheet (rest_after (codes "SHEET") (capitals p)) (capitals p) q.0 (sheet_is (capitals p) ∙ q.3) (q.6 ∙ none) in
    (q.2.0, forth_from p q.1 q.2.0 (ap (λ y. column_at (mark_at y).1) (sym text) ∙ q.4) (q.5 ∙ ap (λ y. Some (q.2.0, y)) q.7))

-- ---- and back
-- the same step
pub same_step : (s : Step) (row : ℕ) → Some s ≡ Some (Row row) → (s ≡ Row row)
same_step s row h = same_Some _ _ h

-- what is read byte for byte from a letter on is a column and a row
pub column_back_from : (v : List ℕ) (b : ℕ) (bs : List ℕ) (row : ℕ) → v ≡ b ∷ bs → is_ascii_alphabetic b ≡ true → run (Column 0) v ≡ Some (Row row) → (column : ℕ × List ℕ) × (column_at (capitals v) ≡ Some column) × (number_at 1048576 (mark_at column.1).1 ≡ Some (row, [])) × (length (letters v) ≤ 3)
unfolding column_number
column_back_from [] b bs row e l h = cc
column_back_from (c ∷ cs) b bs row e l h =
    let same : c ≡ b = cc in
    let lc : is_ascii_uppercase (to_ascii_uppercase c) ≡ true = letter_upper c ∙ ap is_ascii_alphabetic same ∙ l in
    let sp = span_yes is_ascii_uppercase (to_ascii_uppercase c) (capitals cs) lc in
    let some : 0 < length (letters (c ∷ cs)) = omega (arith, ap length sp.0) in
    let q = column_back 0 (c ∷ cs) (Row row) h (omega arith) in
    let few = few_letters (capitals (c ∷ cs)) q.4 in
    ((letter_fold 0 (letters (c ∷ cs)), after_letters (c ∷ cs)), column_from (capitals (c ∷ cs)) some few q.4, ap (λ y. number_at 1048576 (mark_at y).1) (sym q.1) ∙ row_back_from _ row q.0 q.3 q.2, few)

-- a column that begins with the byte c
pub column_back_at : (c : ℕ) (cs : List ℕ) (t : Step) (row : ℕ) → column_after 0 c ≡ Some t → run t cs ≡ Some (Row row) → (column : ℕ × List ℕ) × (column_at (capitals (c ∷ cs)) ≡ Some column) × (number_at 1048576 (mark_at column.1).1 ≡ Some (row, [])) × (length (letters (c ∷ cs)) ≤ 3)
column_back_at c cs t row step rest =
    let p = column_step_parts 0 c t step in
    column_back_from (c ∷ cs) c cs row refl p.0 (ap (option_and_then (λ x. run x cs)) (letter_next 0 c p.0 ∙ step) ∙ rest)

-- what is read byte for byte behind the `$` of a column is a column and a row
pub mark_back_from : (v : List ℕ) (row : ℕ) → run ColumnMark v ≡ Some (Row row) → (column : ℕ × List ℕ) × (column_at (capitals v) ≡ Some column) × (number_at 1048576 (mark_at column.1).1 ≡ Some (row, [])) × (length (letters v) ≤ 3)
unfolding next_step
mark_back_from [] row h = cc
mark_back_from (c ∷ cs) row h =
    option_and_then_some (λ t. run t cs) (column_after 0 c) (Row row) h (λ t step rest. column_back_at c cs t row step rest)

-- where there is no answer, there is none
pub none_from : {A : Type 0} (o : Option A) → ((x : A) → o ≡ Some x → ⊥) → o ≡ None
none_from None h = refl
none_from (Some x) h = absurd (h x refl)

-- a `$` begins no sheet
pub dollar_no_sheet : (b : ℕ) (bs : List ℕ) → eqb b 36 ≡ true → rest_after (codes "SHEET") (capitals (b ∷ bs)) ≡ None
dollar_no_sheet b bs m = let no : eqb (to_ascii_uppercase b) 83 ≡ false = grind (arith, nat_tests) in cond-false _ _ _ no

-- the word `Sheet` has more letters than a column
pub no_sheet_word : (p : List ℕ) → length (letters p) ≤ 3 → rest_after (codes "SHEET") (capitals p) ≡ None
no_sheet_word p few = none_from (rest_after (codes "SHEET") (capitals p)) (λ x h.
    let e = after_word (codes "SHEET") (capitals p) x h in
    let len : length (letters p) ≡ prefix_len is_ascii_uppercase (codes "SHEET" ++ x) = length-prefix_len is_ascii_uppercase (capitals p) ∙ ap (prefix_len is_ascii_uppercase) e in
    omega (arith, len))

-- a reference without a sheet, from its parts
pub reference_from : (u : List ℕ) (column : ℕ × List ℕ) (row : ℕ) → rest_after (codes "SHEET") u ≡ None → column_at (mark_at u).1 ≡ Some column → number_at 1048576 (mark_at column.1).1 ≡ Some (row, []) → (r : RefText) × (reference_in u ≡ Some (r, [])) × (r.sheet ≡ None)
unfolding reference_in
reference_from u column row none hc hr =
    let sheet : sheet_at u ≡ Some (None, u) = sym (sheet_is u) ∙ ap (λ o. option_map_or sheet_number_at o (Some (None, u))) none in
    (record { sheet = None; row = row; col = column.0; row_fixed = (mark_at column.1).0; col_fixed = (mark_at u).0 }, rw (sheet, hc, hr) refl, refl)

-- what is read byte for byte is a reference without a sheet
pub reference_back : (p : List ℕ) (row : ℕ) → run Start p ≡ Some (Row row) → (r : RefText) × (reference_in (capitals p) ≡ Some (r, [])) × (r.sheet ≡ None)
unfolding next_step
reference_back [] row h = absurd (cc)
reference_back (b ∷ bs) row h = ⊎_elim
    (λ m.
    let e : run ColumnMark bs ≡ Some (Row row) = ap (option_and_then (λ t. run t bs)) (sym (dollar_next b m)) ∙ h in
    let q = mark_back_from bs row e in
    let mark = mark_yes b bs m in
    reference_from (capitals (b ∷ bs)) q.0 row (dollar_no_sheet b bs m) (ap (λ y. column_at y.1) mark ∙ q.1) q.2)
    (λ no.
    let e : next_step Start b ≡ column_after 0 b = cond-false _ _ _ no in
    option_and_then_some (λ t. run t bs) (column_after 0 b) (Row row) (ap (option_and_then (λ t. run t bs)) (sym e) ∙ h) (λ t step rest.
    let q = column_back_at b bs t row step rest in
    let mark = mark_no b bs no in
    reference_from (capitals (b ∷ bs)) q.0 row (no_sheet_word (b ∷ bs) q.3) (ap (λ y. column_at y.1) mark ∙ q.1) q.2))
    (cases_Bool (eqb b 36))
