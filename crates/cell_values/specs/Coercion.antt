-- What values count as where a boolean or a text is wanted, and texts joined.
use Rattle.std.specs.Prelude.{ℕ, pos, Bool, true, false, not, if◌then◌else◌, Result, Ok, Err, List, [], ◌++◌, map, codes}
use Rattle.std.specs.Char.{to_ascii_lowercase}
use Rattle.std.specs.Fmt.{signed_decimal}
use Rattle.std.specs.Option.{option_map_or}
use Rattle.std.specs.Ordering.{int_eq}
use Rattle.std.specs.Str.{bytes_eq}
use Rattle.cell_values.specs.declared.errors.ErrorKind.{ErrorKind}
use Rattle.cell_values.specs.declared.errors.ErrorKind.TheVariants as errors
use Rattle.cell_values.specs.declared.values.Value.{Value}
use Rattle.cell_values.specs.declared.values.Value.TheVariants as values
use Rattle.cell_values.specs.Text.{if_short}

-- a text's bytes with `A` to `Z` made `a` to `z`
abbrev pub lower_case_of : List ℕ → List ℕ
lower_case_of t = map to_ascii_lowercase t

-- the boolean whose word a text is, in any case
abbrev pub truth_of_text : List ℕ → Result Bool ErrorKind
truth_of_text t =
    if bytes_eq (lower_case_of t) (codes "true") then Ok true
    else (if bytes_eq (lower_case_of t) (codes "false") then Ok false else Err errors.Value)

-- the boolean that a value counts as, or the error
abbrev pub truth_of : Value → Result Bool ErrorKind
truth_of (values.Num n) = Ok (not (int_eq n (pos 0)))
truth_of (values.Text t) = truth_of_text t
truth_of (values.Bool b) = Ok b
truth_of (values.Error e) = Err e
truth_of values.Blank = Ok false

-- the text that a value counts as, or the error
abbrev pub text_of : Value → Result (List ℕ) ErrorKind
text_of (values.Num n) = Ok (signed_decimal n)
text_of (values.Text t) = Ok t
text_of (values.Bool b) = Ok (if b then codes "TRUE" else codes "FALSE")
text_of (values.Error e) = Err e
text_of values.Blank = Ok []

-- two texts after one another; too long a text is `#VALUE!`
abbrev pub text_join_of : List ℕ → List ℕ → Value
text_join_of s t = option_map_or values.Text (if_short (s ++ t)) (values.Error errors.Value)

-- what an operation on texts makes of two values: the first error is the answer
abbrev pub on_texts :
    (List ℕ → List ℕ → Value) → Result (List ℕ) ErrorKind → Result (List ℕ) ErrorKind → Value
on_texts f (Err e) t = values.Error e
on_texts f (Ok s) (Err e) = values.Error e
on_texts f (Ok s) (Ok t) = f s t

-- two values joined as texts
abbrev pub join_of : Value → Value → Value
join_of a b = on_texts text_join_of (text_of a) (text_of b)
