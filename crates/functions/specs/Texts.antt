-- What the functions on texts answer. Characters are Unicode scalar values, and their places count from 1.
use Rattle.std.specs.Prelude.{ℕ, ℤ, suc, pos, negsuc, ◌+◌, ◌-◌, ◌==◌, ◌&&◌, nat_eq, Bool, if◌then◌else◌, List, [], ◌∷◌, ◌++◌, map, length, take, drop, Option, Some, None, Result, Ok, Err, true, false}
use Rattle.std.specs.Char.{to_ascii_uppercase, to_ascii_lowercase}
use Rattle.std.specs.List.{find, range_with_len, repeat, starts_with}
use Rattle.std.specs.Option.{option_map, option_map_or, option_and_then}
use Rattle.std.specs.Str.{bytes_eq, chars, encode_utf8_all}
use Rattle.cell_values.specs.Coercion.{text_of, on_texts}
use Rattle.cell_values.specs.Digits.{after_spaces}
use Rattle.cell_values.specs.Text.{if_short}
use Rattle.cell_values.specs.Value.{number_of, on_number}
use Rattle.cell_values.specs.declared.errors.ErrorKind.{ErrorKind}
use Rattle.cell_values.specs.declared.errors.ErrorKind.TheVariants as errors
use Rattle.cell_values.specs.declared.values.Value.{Value}
use Rattle.cell_values.specs.declared.values.Value.TheVariants as values
use Rattle.functions.specs.declared.arguments.Arg.{Arg}
use Rattle.functions.specs.Inputs.{argument, argument_or, value_of}

-- what a function of a text makes of a coerced value: an error is the answer
abbrev pub on_text : (List ℕ → Value) → Result (List ℕ) ErrorKind → Value
on_text f (Err e) = values.Error e
on_text f (Ok t) = f t

-- what a function of a text and a number makes of coerced values: the first error is the answer
abbrev pub on_text_and_number :
    (List ℕ → ℤ → Value) → Result (List ℕ) ErrorKind → Result ℤ ErrorKind → Value
on_text_and_number f t n = on_text (λ s. on_number (f s) n) t

-- what a function of two texts and a number makes of coerced values: the first error is the answer
abbrev pub on_texts_and_number :
    (List ℕ → List ℕ → ℤ → Value) → Result (List ℕ) ErrorKind → Result (List ℕ) ErrorKind → Result ℤ ErrorKind → Value
on_texts_and_number f s t n = on_text (λ p. on_text_and_number (f p) t n) s

-- a text, or `#VALUE!` where there is none
abbrev pub text_or_fault : Option (List ℕ) → Value
text_or_fault t = option_map_or values.Text t (values.Error errors.Value)

-- an amount of characters or repetitions; one under 0 is none
abbrev pub amount_of : ℤ → Option ℕ
amount_of (pos n) = Some n
amount_of (negsuc n) = None

-- how many characters stand before a place; a place under 1 is none
abbrev pub before_place : ℤ → Option ℕ
before_place (pos (suc n)) = Some n
before_place n = None

-- the first n characters of a text
abbrev pub first_characters : ℕ → List ℕ → List ℕ
first_characters n t = encode_utf8_all (take n (chars t))

-- a text without its first n characters
abbrev pub without_first : ℕ → List ℕ → List ℕ
without_first n t = encode_utf8_all (drop n (chars t))

-- the last n characters of a text
abbrev pub last_characters : ℕ → List ℕ → List ℕ
last_characters n t = without_first (length (chars t) - n) t

-- LEN: the number of characters
abbrev pub len_of : List Arg → Value
len_of args = on_text (λ t. values.Num (pos (length (chars t)))) (text_of (argument args 0))

-- the first n characters of a text; n under 0 is `#VALUE!`
abbrev pub left_part : List ℕ → ℤ → Value
left_part t n = text_or_fault (option_map (λ k. first_characters k t) (amount_of n))

-- LEFT: the first n characters, where n is 1 unless it is given
abbrev pub left_of : List Arg → Value
left_of args =
    on_text_and_number left_part (text_of (argument args 0))
    (number_of (argument_or (values.Num (pos 1)) args 1))

-- the last n characters of a text; n under 0 is `#VALUE!`
abbrev pub right_part : List ℕ → ℤ → Value
right_part t n = text_or_fault (option_map (λ k. last_characters k t) (amount_of n))

-- RIGHT: the last n characters, where n is 1 unless it is given
abbrev pub right_of : List Arg → Value
right_of args =
    on_text_and_number right_part (text_of (argument args 0))
    (number_of (argument_or (values.Num (pos 1)) args 1))

-- up to k characters of a text from place n on; n under 1 or k under 0 is `#VALUE!`
abbrev pub mid_part : List ℕ → ℤ → ℤ → Value
mid_part t n k =
    text_or_fault (option_and_then (λ i.
    option_map (λ j. first_characters j (without_first i t)) (amount_of k)) (before_place n))

-- MID: up to k characters from place n on
abbrev pub mid_of : List Arg → Value
mid_of args =
    on_text_and_number (λ t n. on_number (mid_part t n) (number_of (argument args 2)))
    (text_of (argument args 0)) (number_of (argument args 1))

-- a text with its ASCII letters in upper case
abbrev pub in_upper_case : List ℕ → List ℕ
in_upper_case t = encode_utf8_all (map to_ascii_uppercase (chars t))

-- a text with its ASCII letters in lower case
abbrev pub in_lower_case : List ℕ → List ℕ
in_lower_case t = encode_utf8_all (map to_ascii_lowercase (chars t))

-- UPPER: ASCII letters changed
abbrev pub upper_of : List Arg → Value
upper_of args = on_text (λ t. values.Text (in_upper_case t)) (text_of (argument args 0))

-- LOWER: ASCII letters changed
abbrev pub lower_of : List Arg → Value
lower_of args = on_text (λ t. values.Text (in_lower_case t)) (text_of (argument args 0))

-- a text before others, or the first error
abbrev pub before_others :
    Result (List ℕ) ErrorKind → Result (List ℕ) ErrorKind → Result (List ℕ) ErrorKind
before_others (Err e) others = Err e
before_others (Ok t) (Err e) = Err e
before_others (Ok t) (Ok others) = Ok (t ++ others)

-- the texts of all arguments in order
abbrev pub all_texts : List Arg → Result (List ℕ) ErrorKind
all_texts [] = Ok []
all_texts (a ∷ args) = before_others (text_of (value_of a)) (all_texts args)

-- CONCATENATE: all texts in order, unless they are too long together
abbrev pub concatenate_of : List Arg → Value
concatenate_of args = on_text (λ t. text_or_fault (if_short t)) (all_texts args)

-- a text n times; n under 0, or a text that is too long, is `#VALUE!`
abbrev pub rept_part : List ℕ → ℤ → Value
rept_part t n = text_or_fault (option_and_then (λ k. if_short (repeat k t)) (amount_of n))

-- REPT: the text n times
abbrev pub rept_of : List Arg → Value
rept_of args =
    on_text_and_number rept_part (text_of (argument args 0)) (number_of (argument args 1))

-- whether there are no characters
abbrev pub is_empty : List ℕ → Bool
is_empty [] = true
is_empty (c ∷ cs) = false

-- without the spaces at the end
abbrev pub before_spaces : List ℕ → List ℕ
before_spaces [] = []
before_spaces (c ∷ cs) = if c == 32 && is_empty (before_spaces cs) then [] else c ∷ before_spaces cs

-- each run of spaces made one space
abbrev pub with_single_spaces : List ℕ → List ℕ
with_single_spaces [] = []
with_single_spaces (c ∷ []) = c ∷ []
with_single_spaces (c ∷ d ∷ cs) =
    if c == 32 && d == 32 then with_single_spaces (d ∷ cs)
    else c ∷ with_single_spaces (d ∷ cs)

-- no spaces at the ends, and inner runs of spaces made one
abbrev pub single_spacing_of : List ℕ → List ℕ
single_spacing_of cs = with_single_spaces (before_spaces (after_spaces cs))

-- TRIM: the characters with no spaces at the ends and no runs of spaces
abbrev pub trim_of : List Arg → Value
trim_of args =
    on_text (λ t. values.Text (encode_utf8_all (single_spacing_of (chars t))))
    (text_of (argument args 0))

-- EXACT: whether two texts are equal by their bytes
abbrev pub exact_of : List Arg → Value
exact_of args =
    on_texts (λ s t. values.Bool (bytes_eq s t))
    (text_of (argument args 0)) (text_of (argument args 1))

-- whether a text stands in another behind so many characters
abbrev pub stands_behind : List ℕ → List ℕ → ℕ → Bool
stands_behind p t n = starts_with nat_eq (without_first n t) p

-- the least number of characters, and no fewer than k, behind which a text stands in another
abbrev pub offset_of : List ℕ → List ℕ → ℕ → Option ℕ
offset_of p t k = find (stands_behind p t) (range_with_len k (length (chars t) + 1 - k))

-- the least place, and not under n, at which a text stands in another; none, or n under 1, is `#VALUE!`
abbrev pub find_place : List ℕ → List ℕ → ℤ → Value
find_place p t n =
    option_map_or (λ i. values.Num (pos (i + 1)))
    (option_and_then (offset_of p t) (before_place n))
    (values.Error errors.Value)

-- FIND: the least such place of the first text in the second, where n is 1 unless it is given
abbrev pub find_of : List Arg → Value
find_of args =
    on_texts_and_number find_place (text_of (argument args 0)) (text_of (argument args 1))
    (number_of (argument_or (values.Num (pos 1)) args 2))

-- the number that a value counts as, where a boolean counts as none
abbrev pub number_unless_boolean : Value → Value
number_unless_boolean (values.Bool b) = values.Error errors.Value
number_unless_boolean v = on_number values.Num (number_of v)

-- VALUE: the number that the argument counts as
abbrev pub value_function_of : List Arg → Value
value_function_of args = number_unless_boolean (argument args 0)
