-- The tokens of a formula, and the pieces of text that write them.
use Rattle.std.specs.Prelude.{◌≡◌, ℕ, ℤ, pos, min, int_lt, nat_lt, Bool, true, false, ◌||◌, ◌==◌, List, [], ◌∷◌, ◌++◌, length, Some, None, codes}
use Rattle.std.specs.List.{list_all, list_any}
use Rattle.std.specs.Char.{is_ascii_digit, is_ascii_control}
use Rattle.std.specs.Str.Parse.{IsNumeral, digits_value}
use Rattle.cell_refs.specs.Area.{area_of, size_of}
use Rattle.cell_refs.specs.Written.{reference_at, capitals}
use Rattle.cell_values.specs.declared.comparison.CompareOp.TheVariants as compare
use Rattle.cell_values.specs.declared.limits.TheConstants.{LARGEST_NUMBER}
use Rattle.cell_values.specs.Error.{error_word}
use Rattle.cell_values.specs.Name.{is_name, is_name_byte}
use Rattle.cell_values.specs.Word.{quotation_of}
use Rattle.formula_parse.specs.Callees.{callee_named}
use Rattle.formula_parse.specs.declared.limits.TheConstants.{LARGEST_AREA}
use Rattle.formula_parse.specs.declared.operators.Operator.{Operator}
use Rattle.formula_parse.specs.declared.operators.Operator.TheVariants as operators
use Rattle.formula_parse.specs.declared.tokens.Token.{Token}
use Rattle.formula_parse.specs.declared.tokens.Token.TheVariants as tokens

-- the number that digits write; one over the limit of 999,999,999,999,999 counts as the least one over it, since it is refused whatever it is
abbrev pub numeral_value : List ℕ → ℤ
numeral_value digits = pos (min (digits_value 10 digits) 1000000000000000)

-- the word of a boolean
abbrev pub boolean_word : Bool → List ℕ
boolean_word true = codes "TRUE"
boolean_word false = codes "FALSE"

-- an operator as it is written
abbrev pub operator_text : Operator → List ℕ
operator_text (operators.Compare compare.Eq) = codes "="
operator_text (operators.Compare compare.Ne) = codes "<>"
operator_text (operators.Compare compare.Lt) = codes "<"
operator_text (operators.Compare compare.Gt) = codes ">"
operator_text (operators.Compare compare.Le) = codes "<="
operator_text (operators.Compare compare.Ge) = codes ">="
operator_text operators.Join = codes "&"
operator_text operators.Add = codes "+"
operator_text operators.Subtract = codes "-"
operator_text operators.Multiply = codes "*"
operator_text operators.Divide = codes "/"

-- a piece of text writes a token: digits a number, a quoted text without control characters a text, an error word in any case an error, `TRUE` or `FALSE` in any case a boolean, a reference inside the grid itself, two with a `:` between them and no sheet at the second an area, a name and `(` a call of the callee that the name in upper case has
abbrev pub Writes : List ℕ → Token → Type 0
Writes piece (tokens.Number n) = IsNumeral 10 piece × (n ≡ numeral_value piece)
Writes piece (tokens.Text t) = (piece ≡ quotation_of t) × (list_any is_ascii_control t ≡ false)
Writes piece (tokens.Error e) = capitals piece ≡ error_word e
Writes piece (tokens.Boolean b) = capitals piece ≡ boolean_word b
Writes piece (tokens.Reference r) = reference_at piece ≡ Some (r, length piece)
Writes piece (tokens.Area a b) = (front back : List ℕ) × (piece ≡ front ++ 58 ∷ back) × (reference_at front ≡ Some (a, length front)) × (reference_at back ≡ Some (b, length back)) × (b.sheet ≡ None)
Writes piece (tokens.Call callee) = (written : List ℕ) × (piece ≡ written ++ 40 ∷ []) × (is_name written ≡ true) × (callee ≡ callee_named (capitals written))
Writes piece tokens.Open = piece ≡ codes "("
Writes piece tokens.Close = piece ≡ codes ")"
Writes piece tokens.Comma = piece ≡ codes ","
Writes piece (tokens.Operator op) = piece ≡ operator_text op

-- whether a token is an area of over 65,536 cells
abbrev pub is_wide_area : Token → Bool
is_wide_area (tokens.Area a b) = nat_lt LARGEST_AREA (size_of (area_of a b 1))
is_wide_area other = false

-- whether a token is a number over 999,999,999,999,999
abbrev pub is_large_number : Token → Bool
is_large_number (tokens.Number n) = int_lt (pos LARGEST_NUMBER) n
is_large_number other = false

-- whether a byte goes on with a name or makes it a call: a letter, a digit, `.`, `_` or `(`
abbrev pub is_word_byte : ℕ → Bool
is_word_byte b = is_name_byte b || b == 40

-- whether a byte can't stand directly behind a token, since a longer token, or none, would then stand there
abbrev pub goes_on : Token → ℕ → Bool
goes_on (tokens.Number n) b = is_ascii_digit b
goes_on (tokens.Text t) b = b == 34
goes_on (tokens.Error e) b = false
goes_on (tokens.Boolean v) b = is_word_byte b
goes_on (tokens.Reference r) b = is_word_byte b || b == 58
goes_on (tokens.Area first second) b = is_word_byte b
goes_on (tokens.Call callee) b = false
goes_on tokens.Open b = false
goes_on tokens.Close b = false
goes_on tokens.Comma b = false
goes_on (tokens.Operator (operators.Compare compare.Eq)) b = false
goes_on (tokens.Operator (operators.Compare compare.Ne)) b = false
goes_on (tokens.Operator (operators.Compare compare.Lt)) b = b == 61 || b == 62
goes_on (tokens.Operator (operators.Compare compare.Gt)) b = b == 61
goes_on (tokens.Operator (operators.Compare compare.Le)) b = false
goes_on (tokens.Operator (operators.Compare compare.Ge)) b = false
goes_on (tokens.Operator operators.Join) b = false
goes_on (tokens.Operator operators.Add) b = false
goes_on (tokens.Operator operators.Subtract) b = false
goes_on (tokens.Operator operators.Multiply) b = false
goes_on (tokens.Operator operators.Divide) b = false

-- whether the text behind a token goes on with it
abbrev pub goes_on_with : Token → List ℕ → Bool
goes_on_with token [] = false
goes_on_with token (b ∷ bs) = goes_on token b

-- nothing but spaces
abbrev pub are_spaces : List ℕ → Bool
are_spaces gap = list_all (λ b. b == 32) gap

-- a text is these tokens, with any number of spaces before each and behind the last
abbrev pub IsSpelled : List ℕ → List Token → Type 0
IsSpelled text [] = are_spaces text ≡ true
IsSpelled text (token ∷ tokens) = (gap piece rest : List ℕ) × (text ≡ gap ++ (piece ++ rest)) × (are_spaces gap ≡ true) × Writes piece token × (goes_on_with token rest ≡ false) × IsSpelled rest tokens
