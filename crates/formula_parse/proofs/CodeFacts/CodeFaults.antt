-- Reading never answers that a text is too long.
use Rattle.std.proofs.Common.{◌≡◌, ℕ, zero, suc, ◌+◌, ◌<◌, ◌≤◌, Bool, true, false, cond, eqb, List, [], ◌∷◌, length, drop, Option, Some, None, Result, Ok, Err, sym, ◌∙◌, ◌⊎◌, inl, inr, arith}
use Rattle.std.specs.Str.{chars}
use Rattle.formula_parse.specs.declared.faults.ParseFault.{ParseFault}
use Rattle.formula_parse.specs.declared.faults.ParseFault.TheVariants as faults
use Rattle.formula_parse.specs.declared.nodes.Node.{Node}
use Rattle.formula_parse.specs.declared.reader.Reader.{Reader}
use Rattle.formula_parse.specs.declared.tokens.Token.{Token}
use Rattle.formula_parse.specs.Lexing.{token_at}
use Rattle.formula_parse.specs.ReaderMachine.{Read, Answer, Onward, at_end, tree_at_end, begun_behind, is_too_deep, reader_behind, read_on, read_found, read_token, read_next, gap_len, answer_behind, read_from, first_reader, read_text}

-- an answer that isn't that the text is too long
abbrev IsOther : Result Node ParseFault → Type 0
IsOther answer = answer ≡ Err faults.TooLong → ⊥

abbrev IsOtherRead : Read → Type 0
IsOtherRead (Answer answer) = IsOther answer
IsOtherRead (Onward reader place text) = Unit {0}

syntax_is_other : (place : ℕ) → IsOther (Err (faults.Syntax place))
syntax_is_other place e = cc

too_deep_is_other : IsOther (Err faults.TooDeep)
too_deep_is_other e = cc

end_is_other : (reader : Reader) (place : ℕ) (o : Option Node) → IsOther (at_end reader place o)
end_is_other reader place None = syntax_is_other place
end_is_other reader place (Some tree) = by_flags reader.has_wide_area reader.has_large_number
  where
    by_flags : (wide large : Bool) → IsOther (cond wide (Err faults.BadRange) (cond large (Err faults.NumberTooLarge) (Ok tree)))
    by_flags true large e = cc
    by_flags false true e = cc
    by_flags false false e = cc

on_is_other : (reader : Reader) (place : ℕ) (text : List ℕ) (len : ℕ) (o : Option Reader) → IsOtherRead (read_on reader place text len o)
on_is_other reader place text len None = syntax_is_other (place + begun_behind reader.phase text)
on_is_other reader place text len (Some next) = by_depth (is_too_deep next.frames)
  where
    by_depth : (deep : Bool) → IsOtherRead (cond deep (Answer (Err faults.TooDeep)) (Onward next (place + len) (drop len text)))
    by_depth true = too_deep_is_other
    by_depth false = tt

found_is_other : (reader : Reader) (place : ℕ) (text : List ℕ) (o : Option (Token × ℕ)) → IsOtherRead (read_found reader place text o)
found_is_other reader place text None = syntax_is_other (place + begun_behind reader.phase text)
found_is_other reader place text (Some found) = on_is_other reader place text found.1 (reader_behind reader found.0)

token_is_other : (reader : Reader) (place : ℕ) (text : List ℕ) → IsOtherRead (read_token reader place text)
token_is_other reader place [] = end_is_other reader place (tree_at_end reader.phase reader.frames)
token_is_other reader place (b ∷ bs) = found_is_other reader place (b ∷ bs) (token_at (b ∷ bs))

followed_is_other : (fuel : ℕ) → ((reader : Reader) (place : ℕ) (text : List ℕ) → IsOther (read_from fuel reader place text)) → (read : Read) → IsOtherRead read → IsOther (answer_behind (read_from fuel) read)
followed_is_other fuel onward (Answer answer) other = other
followed_is_other fuel onward (Onward next behind rest) other = onward next behind rest

from_is_other : (fuel : ℕ) (reader : Reader) (place : ℕ) (text : List ℕ) → IsOther (read_from fuel reader place text)
from_is_other zero reader place text = syntax_is_other place
from_is_other (suc fuel) reader place text =
    followed_is_other fuel (λ next behind rest. from_is_other fuel next behind rest) (read_next reader place text) (token_is_other reader (place + gap_len text) (drop (gap_len text) text))

text_is_other : (text : List ℕ) → IsOther (read_text text)
text_is_other [] = syntax_is_other 0
text_is_other (b ∷ rest) = by_sign (eqb b 61)
  where
    by_sign : (t : Bool) → IsOther (cond t (read_from (suc (length rest)) first_reader 1 rest) (Err (faults.Syntax 0)))
    by_sign true = from_is_other (suc (length rest)) first_reader 1 rest
    by_sign false = syntax_is_other 0

-- a text that isn't too long isn't said to be
pub not_said : (text : List ℕ) (answer : Result Node ParseFault) → length (chars text) ≤ 8192 → (answer ≡ Err faults.Memory) ⊎ (answer ≡ read_text text) → (answer ≡ Err faults.TooLong → 8192 < length (chars text)) × (8192 < length (chars text) → answer ≡ Err faults.TooLong)
not_said text answer short h = ((λ e. absurd (never h e)), (λ long. absurd (omega arith)))
  where
    never : (answer ≡ Err faults.Memory) ⊎ (answer ≡ read_text text) → answer ≡ Err faults.TooLong → ⊥
    never (inl m) e = cc
    never (inr r) e = text_is_other text (sym r ∙ e)
