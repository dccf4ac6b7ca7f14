-- The error values: their codes and their words.
use Rattle.std.specs.Prelude.{ℕ, List, codes}
use Rattle.cell_values.specs.declared.errors.ErrorKind.{ErrorKind}
use Rattle.cell_values.specs.declared.errors.ErrorKind.TheVariants.{Null, Div0, Value, Ref, Name, Num, Na}

-- the number by which programs know an error value
abbrev pub error_code : ErrorKind → ℕ
error_code Null = 0
error_code Div0 = 7
error_code Value = 15
error_code Ref = 23
error_code Name = 29
error_code Num = 36
error_code Na = 42

-- the word that stands for an error value
abbrev pub error_word : ErrorKind → List ℕ
error_word Null = codes "#NULL!"
error_word Div0 = codes "#DIV/0!"
error_word Value = codes "#VALUE!"
error_word Ref = codes "#REF!"
error_word Name = codes "#NAME?"
error_word Num = codes "#NUM!"
error_word Na = codes "#N/A"
