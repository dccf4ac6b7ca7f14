-- For the crate's own functions: the token that a text begins with, and how much of a text an operand begins with.
use Rattle.std.specs.Prelude.{ℕ, ◌+◌, ◌-◌, ◌*◌, min, max, Bool, true, false, not, ◌&&◌, ◌||◌, if◌then◌else◌, ◌==◌, nat_lt, nat_le, List, [], ◌∷◌, length, map, take, drop, take_while, slice_index, Option, Some, None, is_none, option_map, codes}
use Rattle.std.specs.List.{list_any, find, position_or_len}
use Rattle.std.specs.Char.{is_ascii_digit, is_ascii_alphabetic, is_ascii_control, to_ascii_uppercase}
use Rattle.std.specs.Str.{bytes_eq}
use Rattle.cell_refs.specs.Reading.{sheet_at}
use Rattle.cell_refs.specs.Written.{reference_at, capitals}
use Rattle.cell_refs.specs.declared.references.RefText.{RefText}
use Rattle.cell_values.specs.declared.comparison.CompareOp.TheVariants as compare
use Rattle.cell_values.specs.declared.errors.ErrorKind.{ErrorKind}
use Rattle.cell_values.specs.declared.errors.ErrorKind.TheVariants as errors
use Rattle.cell_values.specs.Error.{error_word}
use Rattle.cell_values.specs.Name.{is_name, is_name_byte}
use Rattle.formula_parse.specs.Callees.{callee_named}
use Rattle.formula_parse.specs.declared.operators.Operator.{Operator}
use Rattle.formula_parse.specs.declared.operators.Operator.TheVariants as operators
use Rattle.formula_parse.specs.declared.tokens.Token.{Token}
use Rattle.formula_parse.specs.declared.tokens.Token.TheVariants as tokens
use Rattle.formula_parse.specs.Tokens.{numeral_value, is_word_byte}

-- digits, to their end
abbrev pub number_at : List ℕ → Option (Token × ℕ)
number_at text =
    let digits = take_while is_ascii_digit text in
    Some (tokens.Number (numeral_value digits), length digits)

-- the content of a text behind its first `"`, and its length up to the closing one
abbrev pub content_at : List ℕ → Option (List ℕ × ℕ)
content_at [] = None
content_at (c ∷ []) = if c == 34 then Some ([], 1) else None
content_at (c ∷ d ∷ cs) =
    if c == 34
    then (if d == 34 then option_map (λ found. (34 ∷ found.0, found.1 + 2)) (content_at cs) else Some ([], 1))
    else option_map (λ found. (c ∷ found.0, found.1 + 1)) (content_at (d ∷ cs))

-- a text, where its content has no control character
abbrev pub text_found : Option (List ℕ × ℕ) → Option (Token × ℕ)
text_found None = None
text_found (Some found) = if list_any is_ascii_control found.0 then None else Some (tokens.Text found.0, found.1 + 1)

-- the text behind a `"`
abbrev pub text_behind : List ℕ → Option (Token × ℕ)
text_behind rest = text_found (content_at rest)

-- the error values
abbrev pub all_errors : List ErrorKind
all_errors = errors.Null ∷ errors.Div0 ∷ errors.Value ∷ errors.Ref ∷ errors.Name ∷ errors.Num ∷ errors.Na ∷ []

-- whether a text begins with a word, in any case
abbrev pub begins_with : List ℕ → List ℕ → Bool
begins_with word text = bytes_eq (take (length word) (capitals text)) word

-- the error word that a text begins with
abbrev pub error_at : List ℕ → Option (Token × ℕ)
error_at text = option_map (λ e. (tokens.Error e, length (error_word e))) (find (λ e. begins_with (error_word e) text) all_errors)

-- whether the byte at a place passes a test; behind the text there is none
abbrev pub passes_at : (ℕ → Bool) → List ℕ → ℕ → Bool
passes_at test text place = nat_lt place (length text) && test (slice_index text place)

-- the area whose first corner has this length, where a second one without a sheet ends it
abbrev pub area_behind : List ℕ → RefText → ℕ → Option (RefText × ℕ) → Option (Token × ℕ)
area_behind text first len None = None
area_behind text first len (Some second) =
    if is_none second.0.sheet && not (passes_at is_word_byte text (len + 1 + second.1))
    then Some (tokens.Area first second.0, len + 1 + second.1) else None

-- the reference or the area that begins with a reference
abbrev pub reference_found : List ℕ → Option (RefText × ℕ) → Option (Token × ℕ)
reference_found text None = None
reference_found text (Some found) =
    if passes_at (λ b. b == 58) text found.1
    then area_behind text found.0 found.1 (reference_at (drop (found.1 + 1) text))
    else (if passes_at is_word_byte text found.1 then None else Some (tokens.Reference found.0, found.1))

-- what the letters, digits, `.` and `_` that a text begins with come to: a call, a boolean, or the beginning of a reference
abbrev pub word_found : List ℕ → List ℕ → Option (Token × ℕ)
word_found text word =
    if passes_at (λ b. b == 40) text (length word) && is_name word then Some (tokens.Call (callee_named (capitals word)), length word + 1)
    else (if bytes_eq (capitals word) (codes "TRUE") then Some (tokens.Boolean true, 4)
    else (if bytes_eq (capitals word) (codes "FALSE") then Some (tokens.Boolean false, 5)
    else reference_found text (reference_at text)))

-- the token that begins with a letter or a `$`
abbrev pub word_at : List ℕ → Option (Token × ℕ)
word_at text = word_found text (take_while is_name_byte text)

-- an operator that begins with `<`
abbrev pub less_at : List ℕ → Operator
less_at rest =
    if passes_at (λ b. b == 61) rest 0 then operators.Compare compare.Le
    else (if passes_at (λ b. b == 62) rest 0 then operators.Compare compare.Ne else operators.Compare compare.Lt)

-- an operator that begins with `>`
abbrev pub greater_at : List ℕ → Operator
greater_at rest = if passes_at (λ b. b == 61) rest 0 then operators.Compare compare.Ge else operators.Compare compare.Gt

-- the length of an operator
abbrev pub operator_len : Operator → ℕ
operator_len (operators.Compare compare.Ne) = 2
operator_len (operators.Compare compare.Le) = 2
operator_len (operators.Compare compare.Ge) = 2
operator_len other = 1

-- the operator that begins with a byte
abbrev pub operator_at : ℕ → List ℕ → Option Operator
operator_at b rest =
    if b == 61 then Some (operators.Compare compare.Eq)
    else (if b == 60 then Some (less_at rest)
    else (if b == 62 then Some (greater_at rest)
    else (if b == 38 then Some operators.Join
    else (if b == 43 then Some operators.Add
    else (if b == 45 then Some operators.Subtract
    else (if b == 42 then Some operators.Multiply
    else (if b == 47 then Some operators.Divide else None)))))))

-- the token that begins with a mark
abbrev pub mark_at : ℕ → List ℕ → Option (Token × ℕ)
mark_at b rest =
    if b == 40 then Some (tokens.Open, 1)
    else (if b == 41 then Some (tokens.Close, 1)
    else (if b == 44 then Some (tokens.Comma, 1)
    else option_map (λ op. (tokens.Operator op, operator_len op)) (operator_at b rest)))

-- the token that a text begins with, and its length
unfoldable pub token_at : List ℕ → Option (Token × ℕ)
token_at [] = None
token_at (b ∷ rest) =
    if is_ascii_digit b then number_at (b ∷ rest)
    else (if b == 34 then text_behind rest
    else (if b == 35 then error_at (b ∷ rest)
    else (if is_ascii_alphabetic b || b == 36 then word_at (b ∷ rest) else mark_at b rest)))

-- the length of the longest common prefix of two texts
abbrev pub common_len : List ℕ → List ℕ → ℕ
common_len [] text = 0
common_len (c ∷ cs) [] = 0
common_len (c ∷ cs) (d ∷ ds) = if c == d then common_len cs ds + 1 else 0

-- the greatest of numbers
abbrev pub greatest : List ℕ → ℕ
greatest [] = 0
greatest (n ∷ ns) = max n (greatest ns)

-- how much of a text an error word begins with
abbrev pub error_begun : List ℕ → ℕ
error_begun text = greatest (map (λ e. common_len (error_word e) (capitals text)) all_errors)

-- how much of a text a name begins with
abbrev pub name_begun : List ℕ → ℕ
name_begun text = if is_ascii_alphabetic (slice_index text 0) then min (length (take_while is_name_byte text)) 255 else 0

-- letters of a column inside the grid, as many as there can be
abbrev pub column_begun : ℕ → List ℕ → ℕ
column_begun column [] = 0
column_begun column (b ∷ bs) =
    let next = 26 * column + (to_ascii_uppercase b - 64) in
    if is_ascii_alphabetic b && nat_le next 16384 then column_begun next bs + 1 else 0

-- digits of a row inside the grid, as many as there can be
abbrev pub row_begun : ℕ → List ℕ → ℕ
row_begun row [] = 0
row_begun row (b ∷ bs) =
    let next = 10 * row + (b - 48) in
    if is_ascii_digit b && (nat_lt 0 next && nat_le next 1048576) then row_begun next bs + 1 else 0

-- 1 where the byte at a place is `$`, else 0
abbrev pub mark_len : List ℕ → ℕ → ℕ
mark_len text place = if passes_at (λ b. b == 36) text place then 1 else 0

-- how much of a text a reference without a sheet begins with
abbrev pub plain_begun : List ℕ → ℕ
plain_begun text =
    let first = mark_len text 0 in
    let letters = column_begun 0 (drop first text) in
    if letters == 0 then first
    else (let column = first + letters in
    let marked = column + mark_len text column in
    marked + row_begun 0 (drop marked text))

-- how much of a text an area begins with, where a first corner of this length stands
abbrev pub corner_begun : List ℕ → Option (RefText × ℕ) → ℕ
corner_begun text None = 0
corner_begun text (Some found) = if passes_at (λ b. b == 58) text found.1 then found.1 + 1 + plain_begun (drop (found.1 + 1) text) else 0

-- the length of the sheet part that a text begins with, 0 where there is none
abbrev pub sheet_len : List ℕ → Option (Option ℕ × List ℕ) → ℕ
sheet_len text None = 0
sheet_len text (Some found) = length text - length found.1

-- how much of a text a reference begins with
abbrev pub reference_begun : List ℕ → ℕ
reference_begun text =
    let sheet = sheet_len text (sheet_at (capitals text)) in
    sheet + plain_begun (drop sheet text)

-- how much of a text a call, a boolean, a reference or an area begins with
abbrev pub word_begun : List ℕ → ℕ
word_begun text = max (name_begun text) (max (reference_begun text) (corner_begun text (reference_at text)))

-- how much of a text an operand begins with that doesn't stand there whole
unfoldable pub begun_len : List ℕ → ℕ
begun_len [] = 0
begun_len (b ∷ rest) =
    if b == 34 then position_or_len is_ascii_control rest + 1
    else (if b == 35 then error_begun (b ∷ rest)
    else (if is_ascii_alphabetic b || b == 36 then word_begun (b ∷ rest) else 0))
