-- The content of a cell, as a line says it.
use Rattle.std.specs.Prelude.{ℕ, Bool, ◌==◌, if◌then◌else◌, Option, option_map, List, [], ◌∷◌, Result, Err}
use Rattle.std.specs.Option.{ok_or, option_or}
use Rattle.std.specs.Result.{result_map_both, result_ok}
use Rattle.cell_values.specs.Coercion.{truth_of_text}
use Rattle.cell_values.specs.Digits.{has_number_form, number_of_digits}
use Rattle.cell_values.specs.Word.{kind_of_word, text_of_bytes}
use Rattle.formula_parse.specs.Parsing.{parse_result}
use Rattle.workbook.specs.declared.contents.Content.{Content}
use Rattle.workbook.specs.declared.contents.Content.TheVariants as contents
use Rattle.session_script.specs.declared.faults.BadLine.{BadLine}
use Rattle.session_script.specs.declared.faults.BadLine.TheVariants as faults

-- `TRUE` or `FALSE`, in any case
abbrev pub truth_said : List ℕ → Option Bool
truth_said word = result_ok (truth_of_text word)

-- a boolean, an error in upper case, else a text
abbrev pub word_constant : List ℕ → Option Content
word_constant word =
    option_or (option_map contents.Bool (truth_said word))
    (option_or (option_map contents.Error (kind_of_word word))
    (option_map contents.Text (text_of_bytes word)))

-- a constant: what has the form of a number is that number, where it is in range
abbrev pub constant_of : List ℕ → Option Content
constant_of word =
    if has_number_form word then option_map contents.Num (number_of_digits word)
    else word_constant word

-- a formula, with its `=`
abbrev pub formula_said : List ℕ → Result Content BadLine
formula_said text = result_map_both contents.Formula faults.Formula (parse_result text)

-- the text of these bytes
abbrev pub text_said : List ℕ → Result Content BadLine
text_said bytes = ok_or (option_map contents.Text (text_of_bytes bytes)) faults.Value

-- a constant, where the word is one
abbrev pub constant_said : List ℕ → Result Content BadLine
constant_said word = ok_or (constant_of word) faults.Value

-- CONTENT: a formula behind its `=`, a text behind `'`, else a constant; there is at least one byte
abbrev pub content_said : List ℕ → Result Content BadLine
content_said [] = Err faults.Value
content_said (b ∷ bs) =
    if b == 61 then formula_said (b ∷ bs)
    else (if b == 39 then text_said bs else constant_said (b ∷ bs))
