-- The kinds of values.
use Rattle.std.specs.Prelude.{Bool, true, false}
use Rattle.cell_values.specs.declared.errors.ErrorKind.TheVariants as errors
use Rattle.cell_values.specs.declared.values.Value.{Value}
use Rattle.cell_values.specs.declared.values.Value.TheVariants as values

-- ISNUMBER: whether a value is a number
abbrev pub is_number : Value → Bool
is_number (values.Num n) = true
is_number v = false

-- ISTEXT: whether a value is a text
abbrev pub is_text_value : Value → Bool
is_text_value (values.Text t) = true
is_text_value v = false

-- ISLOGICAL: whether a value is a boolean
abbrev pub is_logical : Value → Bool
is_logical (values.Bool b) = true
is_logical v = false

-- ISERROR: whether a value is an error
abbrev pub is_error : Value → Bool
is_error (values.Error e) = true
is_error v = false

-- ISNA: whether a value is `#N/A`
abbrev pub is_na : Value → Bool
is_na (values.Error errors.Na) = true
is_na v = false

-- ISBLANK: whether a value is a Blank
abbrev pub is_blank : Value → Bool
is_blank values.Blank = true
is_blank v = false
