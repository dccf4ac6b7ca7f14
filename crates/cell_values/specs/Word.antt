-- Value words: the written form of a value.
use Rattle.std.specs.Prelude.{ℕ, ℤ, pos, unsigned_abs, ◌≤◌, IsTrue, Bool, true, false, ◌==◌, ◌&&◌, nat_lt, if◌then◌else◌, List, [], ◌∷◌, ◌++◌, length, slice_index, Option, Some, None, codes}
use Rattle.std.specs.Option.{option_map, option_or, option_and_then}
use Rattle.std.specs.List.{find, flat_map}
use Rattle.std.specs.Fmt.{signed_decimal}
use Rattle.std.specs.Str.{bytes_eq}
use Rattle.cell_values.specs.declared.errors.ErrorKind.{ErrorKind}
use Rattle.cell_values.specs.declared.errors.ErrorKind.TheVariants as errors
use Rattle.cell_values.specs.declared.limits.TheConstants.{LARGEST_NUMBER}
use Rattle.cell_values.specs.declared.values.Value.{Value}
use Rattle.cell_values.specs.declared.values.Value.TheVariants as values
use Rattle.cell_values.specs.Digits.{whole_number, below_zero}
use Rattle.cell_values.specs.Error.{error_word}
use Rattle.cell_values.specs.Text.{is_text}

-- a byte as it is written between quotes: a `"` is doubled
abbrev pub byte_within : ℕ → List ℕ
byte_within c = if c == 34 then 34 ∷ 34 ∷ [] else c ∷ []

-- a text's bytes with each `"` doubled
abbrev pub with_doubled_quotes : List ℕ → List ℕ
with_doubled_quotes t = flat_map byte_within t

-- a text as it is written: `"`, its bytes with each `"` doubled, `"`
abbrev pub quotation_of : List ℕ → List ℕ
quotation_of t = 34 ∷ (with_doubled_quotes t ++ 34 ∷ [])

-- the written form of a value; a Blank is written as `0`
abbrev pub value_text : Value → List ℕ
value_text (values.Num n) = signed_decimal n
value_text (values.Text t) = quotation_of t
value_text (values.Bool b) = if b then codes "TRUE" else codes "FALSE"
value_text (values.Error e) = error_word e
value_text values.Blank = codes "0"

-- a value that a word says: a number within the magnitude, a text, a boolean or an error
abbrev pub HasWord : Value → Type 0
HasWord (values.Num n) = unsigned_abs n ≤ LARGEST_NUMBER
HasWord (values.Text t) = IsTrue (is_text t)
HasWord (values.Bool b) = Unit {0}
HasWord (values.Error e) = Unit {0}
HasWord values.Blank = ⊥

-- whether digits begin with a zero
abbrev pub begins_with_zero : List ℕ → Bool
begins_with_zero ds = slice_index ds 0 == 48

-- an optional `-` and digits without leading zeros, within the magnitude; `-0` is none
abbrev pub number_word : List ℕ → Option ℤ
number_word [] = None
number_word (c ∷ ds) =
    if c == 45 then (if begins_with_zero ds then None else option_map below_zero (whole_number ds))
    else (if c == 48 && nat_lt 0 (length ds) then None else option_map pos (whole_number (c ∷ ds)))

-- `TRUE` or `FALSE`
abbrev pub bool_word : List ℕ → Option Bool
bool_word w =
    if bytes_eq w (codes "TRUE") then Some true
    else (if bytes_eq w (codes "FALSE") then Some false else None)

-- one of the seven error words
abbrev pub kind_of_word : List ℕ → Option ErrorKind
kind_of_word w =
    find (λ e. bytes_eq w (error_word e))
    (errors.Null ∷ errors.Div0 ∷ errors.Value ∷ errors.Ref ∷ errors.Name ∷ errors.Num ∷ errors.Na ∷ [])

-- the bytes up to the closing `"`, which ends the word, with each doubled `"` made one
abbrev pub before_closing_quote : List ℕ → Option (List ℕ)
before_closing_quote [] = None
before_closing_quote (c ∷ []) = if c == 34 then Some [] else None
before_closing_quote (c ∷ d ∷ cs) =
    if c == 34 then (if d == 34 then option_map (λ t. 34 ∷ t) (before_closing_quote cs) else None)
    else option_map (λ t. c ∷ t) (before_closing_quote (d ∷ cs))

-- bytes that are a text
abbrev pub text_of_bytes : List ℕ → Option (List ℕ)
text_of_bytes t = if is_text t then Some t else None

-- `"`, the bytes of a text with each `"` doubled, `"`
abbrev pub text_word : List ℕ → Option (List ℕ)
text_word [] = None
text_word (c ∷ cs) =
    if c == 34 then option_and_then text_of_bytes (before_closing_quote cs) else None

-- what a value word says; None where the bytes are no value word
abbrev pub value_of_word : List ℕ → Option Value
value_of_word w =
    option_or (option_map values.Num (number_word w))
    (option_or (option_map values.Bool (bool_word w))
    (option_or (option_map values.Error (kind_of_word w)) (option_map values.Text (text_word w))))
