-- A number at the front of a text.
use Rattle.std.proofs.Common.{◌≡◌, ℕ, ◌<◌, Bool, true, false, cond, List, [], ◌∷◌, ◌++◌, length, drop, take_while, Some, refl, sym, ap, ◌∙◌, arith}
use Rattle.std.proofs.lemmas.Bool.{and_parts, and_from, cond-true}
use Rattle.std.proofs.lemmas.Bool.Decides.{nat_tests}
use Rattle.std.proofs.lemmas.List.Sums.{take_while-cons}
use Rattle.std.proofs.lemmas.Str.Parse.{IsDigitsTest, IsNumeralModel, numerals_by_value}
use Rattle.std.specs.Char.{is_ascii_digit}
use Rattle.std.specs.List.{list_all}
use Rattle.std.specs.Str.Parse.{IsNumeral, digits_value}
use Rattle.cell_refs.proofs.PublicLaws.{take_while-append, front_and_rest, rest_stops}
use Rattle.formula_parse.specs.declared.tokens.Token.{Token}
use Rattle.formula_parse.specs.declared.tokens.Token.TheVariants as tokens
use Rattle.formula_parse.specs.Lexing.{token_at}
use Rattle.formula_parse.specs.Tokens.{numeral_value}
use Rattle.formula_parse.proofs.LexFacts.LexFirst.{Found, found_as, first_passes, passes_first, at_digit}

-- the test for digits
tells_by_all : IsDigitsTest (λ ds. list_all is_ascii_digit ds ≡ true)
tells_by_all = record {
  empty = refl;
  parts = λ c cs h. let p = and_parts (is_ascii_digit c) (list_all is_ascii_digit cs) h in (let d = p.0 in grind (arith, nat_tests), p.1);
  more = λ c cs d h. and_from (is_ascii_digit c) (list_all is_ascii_digit cs) (grind (arith, nat_tests)) h;
}

-- digits, in the words of `parse`
digits : IsNumeralModel (λ ds. list_all is_ascii_digit ds ≡ true) (digits_value 10)
digits = numerals_by_value _ tells_by_all

-- a front that passes passes throughout
pub all_pass : (p : ℕ → Bool) (text : List ℕ) → list_all p (take_while p text) ≡ true
all_pass p [] = refl
all_pass p (c ∷ cs) = rw take_while-cons (by_head (p c) refl (all_pass p cs))
  where
    by_head : (b : Bool) → p c ≡ b → list_all p (take_while p cs) ≡ true → list_all p (cond b (c ∷ take_while p cs) []) ≡ true
    by_head true is all = rw (is, all) refl
    by_head false is all = refl

-- behind a digit there is one
some_digits : (b : ℕ) (rest : List ℕ) → is_ascii_digit b ≡ true → 0 < length (take_while is_ascii_digit (b ∷ rest))
some_digits b rest d = let e = ap length (take_while-cons is_ascii_digit b rest ∙ cond-true _ _ _ d) in omega arith

-- the number that is found is written
pub number_found : (b : ℕ) (rest : List ℕ) (token : Token) (n : ℕ) → is_ascii_digit b ≡ true → token_at (b ∷ rest) ≡ Some (token, n) → Found (b ∷ rest) token n
number_found b rest token n d h =
    let text = b ∷ rest in
    let front = take_while is_ascii_digit text in
    found_as text (tokens.Number (numeral_value front)) token (length front) n (sym (at_digit b rest d) ∙ h) (record {
      piece = front;
      rest = drop (length front) text;
      whole = front_and_rest is_ascii_digit text;
      count = refl;
      some = some_digits b rest d;
      writes = ((some_digits b rest d, digits.to front (all_pass is_ascii_digit text)), refl);
      stops = sym (passes_first is_ascii_digit (drop (length front) text) refl) ∙ rest_stops is_ascii_digit text refl;
    })

-- a digit begins a number
pub number_begins : (b : ℕ) (rest : List ℕ) → is_ascii_digit b ≡ true → token_at (b ∷ rest) ≡ Some (tokens.Number (numeral_value (take_while is_ascii_digit (b ∷ rest))), length (take_while is_ascii_digit (b ∷ rest)))
number_begins b rest d = at_digit b rest d

-- a numeral begins with a digit
pub numeral_first : (b : ℕ) (bs : List ℕ) → IsNumeral 10 (b ∷ bs) → is_ascii_digit b ≡ true
numeral_first b bs w = (and_parts (is_ascii_digit b) _ (digits.from (b ∷ bs) w.1)).0

-- the number that is written is found
pub number_written : (piece rest : List ℕ) → IsNumeral 10 piece → first_passes is_ascii_digit rest ≡ false → token_at (piece ++ rest) ≡ Some (tokens.Number (numeral_value piece), length piece)
number_written [] rest w stops = absurd (omega (arith, w.0))
number_written (b ∷ bs) rest w stops =
    let all : list_all is_ascii_digit (b ∷ bs) ≡ true = digits.from (b ∷ bs) w.1 in
    let front : take_while is_ascii_digit (b ∷ bs ++ rest) ≡ b ∷ bs = take_while-append is_ascii_digit (b ∷ bs) rest refl all (passes_first is_ascii_digit rest refl ∙ stops) in
    at_digit b (bs ++ rest) (and_parts _ _ all).0 ∙ ap (λ ds. Some (tokens.Number (numeral_value ds), length ds)) front
