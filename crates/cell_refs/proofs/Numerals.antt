-- Digits that are read through a `&str`.
use Rattle.std.proofs.Common.{◌≡◌, ℕ, ◌<◌, ◌^◌, true, List, length, Option, Some, None, Result, Ok, Err}
use Rattle.std.proofs.lemmas.Fmt.{IsAscii-from_digits}
use Rattle.std.proofs.lemmas.Str.{IsUtf8-from_ascii}
use Rattle.std.proofs.lemmas.Str.Parse.{IsNumeralModel, numerals_by_value, tells_all_ascii_digits, parse_digits}
use Rattle.std.specs.Option.{SomeIff}
use Rattle.std.specs.Result.{MatchResult, OkIff, result_ok}
use Rattle.std.specs.Str.{all_ascii_digits, IsUtf8}
use Rattle.std.specs.Str.Parse.{digits_value, ParsesUnsigned}

-- std's word for digits, and for what they stand for
pub numerals : IsNumeralModel (λ ds. all_ascii_digits ds ≡ true) (digits_value 10)
numerals = numerals_by_value (λ ds. all_ascii_digits ds ≡ true) tells_all_ascii_digits

digits_utf8 : (ds : List ℕ) → all_ascii_digits ds ≡ true → IsUtf8 ds
digits_utf8 ds all = IsUtf8-from_ascii ds (IsAscii-from_digits ds (numerals.to ds all))

-- digits are text
pub digits_are_text : {A E : Type 0} (r : Result A E) (P : A → Type 0) (Q : E → Type 0) (ds : List ℕ) → MatchResult r P (λ e. (IsUtf8 ds → ⊥) × Q e) → result_ok r ≡ None → all_ascii_digits ds ≡ true → ⊥
digits_are_text (Ok x) P Q ds m none all = cc
digits_are_text (Err e) P Q ds m none all = m.0 (digits_utf8 ds all)

-- what the text of some bytes shows
pub text_shows : {A E : Type 0} (r : Result A E) (shown : A → List ℕ) (P : Type 0) (Q : E → Type 0) (ds : List ℕ) (text : A) → MatchResult r (λ s. (shown s ≡ ds) × P) Q → result_ok r ≡ Some text → shown text ≡ ds
text_shows (Ok x) shown P Q ds text m some = cc
text_shows (Err e) shown P Q ds text m some = cc

some_from_ok : {E : Type 0} (r : Result ℕ E) (o : Option ℕ) (A B : Type 0) (v : ℕ) → OkIff r (A × B) v → A → o ≡ result_ok r → SomeIff o B v
some_from_ok (Ok x) (Some y) A B v h a e = (h.0.1, cc)
some_from_ok (Ok x) None A B v h a e = cc
some_from_ok (Err x) (Some y) A B v h a e = cc
some_from_ok (Err x) None A B v h a e = λ b. h (a, b)

-- what is read of digits
pub parsed : {E : Type 0} (ds : List ℕ) (r : Result ℕ E) (o : Option ℕ) → ParsesUnsigned 64 10 ds r → all_ascii_digits ds ≡ true → 0 < length ds → o ≡ result_ok r → SomeIff o (digits_value 10 ds < 2 ^ 64) (digits_value 10 ds)
parsed ds r o h all some e = some_from_ok r o (0 < length ds) (digits_value 10 ds < 2 ^ 64) (digits_value 10 ds) (parse_digits numerals 64 ds r h all) some e
