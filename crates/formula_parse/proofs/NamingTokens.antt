-- What holds of each token that a text spells, and how many of them a text has.
use Rattle.std.proofs.Common.{◌≡◌, ℕ, ◌*◌, ◌<◌, ◌≤◌, Bool, true, false, List, [], ◌∷◌, ◌++◌, length, Some, sym, ap, ◌∙◌, arith}
use Rattle.std.specs.List.{list_any}
use Rattle.std.specs.Str.{chars}
use Rattle.std.proofs.Math.Utf8.{encode, encodes}
use Rattle.std.proofs.lemmas.Bool.{or_parts}
use Rattle.std.proofs.lemmas.List.{length-append, length-map}
use Rattle.std.proofs.lemmas.Str.{IsUtf8-from_is_utf8, encodes-chars, length-encode, len_utf8_bounds}
use Rattle.cell_refs.specs.RefText.{IsReference}
use Rattle.cell_refs.specs.Written.{capitals, reference_at}
use Rattle.cell_refs.specs.declared.references.RefText.{RefText}
use Rattle.cell_refs.proofs.PublicLaws.{stands_from_read, stands_long}
use Rattle.cell_values.specs.Error.{error_word}
use Rattle.cell_values.specs.declared.comparison.CompareOp.TheVariants as compare
use Rattle.cell_values.specs.declared.errors.ErrorKind.{ErrorKind}
use Rattle.cell_values.specs.declared.errors.ErrorKind.TheVariants as errors
use Rattle.formula_parse.specs.declared.operators.Operator.{Operator}
use Rattle.formula_parse.specs.declared.operators.Operator.TheVariants as operators
use Rattle.formula_parse.specs.declared.tokens.Token.{Token}
use Rattle.formula_parse.specs.declared.tokens.Token.TheVariants as tokens
use Rattle.formula_parse.specs.Faults.{IsShort}
use Rattle.formula_parse.specs.Tokens.{Writes, IsSpelled, boolean_word, operator_text}

-- P holds of each token
abbrev pub Each : (Token → Type 0) → List Token → Type 0
Each P [] = Unit {0}
Each P (token ∷ tokens) = P token × Each P tokens

-- what holds of each token that some piece of text writes, holds of each token of a text
pub each_spelled : (P : Token → Type 0) → ((piece : List ℕ) (token : Token) → Writes piece token → P token) → (text : List ℕ) (written : List Token) → IsSpelled text written → Each P written
each_spelled P own text [] s = tt
each_spelled P own text (token ∷ written) s = (own s.1 token s.5, each_spelled P own s.2 written s.7)

-- a test that no token passes
pub each_fails : (test : Token → Bool) (written : List Token) → list_any test written ≡ false → Each (λ token. test token ≡ false) written
each_fails test [] h = tt
each_fails test (token ∷ written) h = let p = or_parts (test token) (list_any test written) h in (p.0, each_fails test written p.1)

-- ---- references stand inside the grid
-- a reference that is a whole piece of text
pub whole_reference : (piece : List ℕ) (r : RefText) → reference_at piece ≡ Some (r, length piece) → IsReference r
whole_reference piece r h = (stands_from_read piece r (length piece) h).inside

-- the references of a token stand inside the grid
abbrev pub StandsInside : Token → Type 0
StandsInside (tokens.Reference r) = IsReference r
StandsInside (tokens.Area a b) = IsReference a × IsReference b
StandsInside other = Unit {0}

-- what is written stands inside
pub written_inside : (piece : List ℕ) (token : Token) → Writes piece token → StandsInside token
written_inside piece (tokens.Reference r) w = whole_reference piece r w
written_inside piece (tokens.Area a b) w = (whole_reference w.0 a w.3, whole_reference w.1 b w.4)
written_inside piece other w = tt

-- ---- no piece is empty
-- an error word is not empty
error_word_long : (e : ErrorKind) → 0 < length (error_word e)
error_word_long errors.Null = omega arith
error_word_long errors.Div0 = omega arith
error_word_long errors.Value = omega arith
error_word_long errors.Ref = omega arith
error_word_long errors.Name = omega arith
error_word_long errors.Num = omega arith
error_word_long errors.Na = omega arith

-- a boolean's word is not empty
boolean_word_long : (b : Bool) → 0 < length (boolean_word b)
boolean_word_long true = omega arith
boolean_word_long false = omega arith

-- an operator is not empty
operator_long : (op : Operator) → 0 < length (operator_text op)
operator_long (operators.Compare compare.Eq) = omega arith
operator_long (operators.Compare compare.Ne) = omega arith
operator_long (operators.Compare compare.Lt) = omega arith
operator_long (operators.Compare compare.Gt) = omega arith
operator_long (operators.Compare compare.Le) = omega arith
operator_long (operators.Compare compare.Ge) = omega arith
operator_long operators.Join = omega arith
operator_long operators.Add = omega arith
operator_long operators.Subtract = omega arith
operator_long operators.Multiply = omega arith
operator_long operators.Divide = omega arith

-- a piece that is a word in any case is as long as the word
word_piece : (piece word : List ℕ) → capitals piece ≡ word → length piece ≡ length word
word_piece piece word h = sym (length-map piece _) ∙ ap length h

-- a piece with a byte behind its front is not empty
front_long : (piece front rest : List ℕ) (b : ℕ) → piece ≡ front ++ b ∷ rest → 0 < length piece
front_long piece front rest b h = omega (arith, ap length h, length-append front (b ∷ rest))

-- a piece that writes a token is not empty
pub piece_long : (piece : List ℕ) (token : Token) → Writes piece token → 0 < length piece
piece_long piece (tokens.Number n) w = w.0.0
piece_long piece (tokens.Text t) w = front_long piece [] _ 34 w.0
piece_long piece (tokens.Error e) w = omega (arith, word_piece piece (error_word e) w, error_word_long e)
piece_long piece (tokens.Boolean b) w = omega (arith, word_piece piece (boolean_word b) w, boolean_word_long b)
piece_long piece (tokens.Reference r) w = stands_long piece r (length piece) (stands_from_read piece r (length piece) w)
piece_long piece (tokens.Area a b) w = front_long piece w.0 w.1 58 w.2
piece_long piece (tokens.Call callee) w = front_long piece w.0 [] 40 w.1
piece_long piece tokens.Open w = front_long piece [] [] 40 w
piece_long piece tokens.Close w = front_long piece [] [] 41 w
piece_long piece tokens.Comma w = front_long piece [] [] 44 w
piece_long piece (tokens.Operator op) w = omega (arith, ap length w, operator_long op)

-- a text has no more tokens than bytes
pub tokens_are_few : (text : List ℕ) (written : List Token) → IsSpelled text written → length written ≤ length text
tokens_are_few text [] s = omega arith
tokens_are_few text (token ∷ written) s =
    omega (arith, piece_long s.1 token s.5, tokens_are_few s.2 written s.7, ap length s.3, length-append s.0 (s.1 ++ s.2), length-append s.1 s.2)

-- ---- how many bytes a text has
-- a character has at most four bytes
encodes_length : (cs : List ℕ) → length (encodes cs) ≤ 4 * length cs
encodes_length [] = omega arith
encodes_length (c ∷ cs) = omega (arith, length-append (encode c) (encodes cs), length-encode c, len_utf8_bounds c, encodes_length cs)

-- a text of at most 8,192 characters has at most 32,768 bytes
pub short_text : (text : List ℕ) → IsShort text → length text ≤ 32768
short_text text s =
    let u = encodes-chars text (IsUtf8-from_is_utf8 text s.0) in
    omega (arith, s.1, encodes_length (chars text), ap length u)
