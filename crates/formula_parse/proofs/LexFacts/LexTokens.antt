-- The token at the front of a text, of every kind.
use Rattle.std.proofs.Common.{◌≡◌, ℕ, false, eqb, List, [], ◌∷◌, ◌++◌, length, Some, sym, ap, subst, ◌∙◌}
use Rattle.formula_parse.specs.declared.tokens.Token.{Token}
use Rattle.formula_parse.specs.declared.tokens.Token.TheVariants as tokens
use Rattle.formula_parse.specs.Lexing.{token_at}
use Rattle.formula_parse.specs.Tokens.{Writes, goes_on, is_word_byte}
use Rattle.formula_parse.proofs.LexFacts.LexFirst.{Found, first_passes, by_first}
use Rattle.formula_parse.proofs.LexFacts.LexErrors.{error_found, error_written}
use Rattle.formula_parse.proofs.LexFacts.LexMarks.{mark_found, operator_written, open_written, close_written, comma_written}
use Rattle.formula_parse.proofs.LexFacts.LexNumbers.{number_found, number_written}
use Rattle.formula_parse.proofs.LexFacts.LexReferences.{piece_refers}
use Rattle.formula_parse.proofs.LexFacts.LexTexts.{text_is_written, text_written}
use Rattle.formula_parse.proofs.LexFacts.LexWords.{word_token_found, first_parts}
use Rattle.formula_parse.proofs.LexFacts.LexWritten.{call_written, boolean_written, reference_written, area_written}

-- no token is found in no text
none_at_end : (token : Token) (n : ℕ) → token_at [] ≡ Some (token, n) → ⊥
unfolding token_at
none_at_end token n h = cc

-- what is found is written
pub token_found : (text : List ℕ) (token : Token) (n : ℕ) → token_at text ≡ Some (token, n) → Found text token n
token_found [] token n h = absurd (none_at_end token n h)
token_found (b ∷ rest) token n h =
    by_first b
    (λ d. number_found b rest token n d h)
    (λ q. subst (λ c. token_at (c ∷ rest) ≡ Some (token, n) → Found (c ∷ rest) token n) (sym q) (text_is_written rest token n) h)
    (λ q. subst (λ c. token_at (c ∷ rest) ≡ Some (token, n) → Found (c ∷ rest) token n) (sym q) (error_found rest token n) h)
    (λ w. word_token_found b rest token n w h)
    (λ m. mark_found b rest token n m h)

-- what is written is found
pub token_written : (piece rest : List ℕ) (token : Token) → Writes piece token → first_passes (goes_on token) rest ≡ false → token_at (piece ++ rest) ≡ Some (token, length piece)
token_written piece rest (tokens.Number n) w s = number_written piece rest w.0 s ∙ ap (λ m. Some (tokens.Number m, length piece)) (sym w.1)
token_written piece rest (tokens.Text t) w s = subst (λ p. token_at (p ++ rest) ≡ Some (tokens.Text t, length p)) (sym w.0) (text_written t rest w.1 s)
token_written piece rest (tokens.Error e) w s = error_written piece rest e w
token_written piece rest (tokens.Boolean v) w s = boolean_written piece rest v w s
token_written piece rest (tokens.Reference r) w s =
    let p = piece_refers piece r w in
    let q = first_parts is_word_byte (λ b. eqb b 58) rest s in
    reference_written piece rest r p.0 p.1 q.0 q.1
token_written piece rest (tokens.Area a b) w s =
    let p = piece_refers w.0 a w.3 in
    let q = piece_refers w.1 b w.4 in
    subst (λ x. token_at (x ++ rest) ≡ Some (tokens.Area a b, length x)) (sym w.2) (area_written w.0 w.1 rest a b p.0 p.1 q.0 q.1 w.5 s)
token_written piece rest (tokens.Call callee) w s =
    subst (λ x. token_at (x ++ rest) ≡ Some (tokens.Call callee, length x)) (sym w.1) (call_written w.0 rest w.2 ∙ ap (λ x. Some (tokens.Call x, length (w.0 ++ 40 ∷ []))) (sym w.3))
token_written piece rest tokens.Open w s = subst (λ x. token_at (x ++ rest) ≡ Some (tokens.Open, length x)) (sym w) (open_written rest)
token_written piece rest tokens.Close w s = subst (λ x. token_at (x ++ rest) ≡ Some (tokens.Close, length x)) (sym w) (close_written rest)
token_written piece rest tokens.Comma w s = subst (λ x. token_at (x ++ rest) ≡ Some (tokens.Comma, length x)) (sym w) (comma_written rest)
token_written piece rest (tokens.Operator op) w s = subst (λ x. token_at (x ++ rest) ≡ Some (tokens.Operator op, length x)) (sym w) (operator_written op rest s)
