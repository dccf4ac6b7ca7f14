-- What is written is read again.
use Rattle.std.proofs.Common.{◌≡◌, ℕ, zero, suc, ◌^◌, ◌≤◌, ◌<◌, ◌&&◌, Bool, true, false, cond, eqb, ltb, List, [], ◌∷◌, ◌++◌, length, get_or, Some, None, refl, sym, ap, ◌∙◌, arith, lit<, ℤ, pos, negsuc, unsigned_abs, append_assoc}
use Rattle.std.proofs.lemmas.Bool.{and_parts, eqb-true, false_from_ne_true, ltb-true}
use Rattle.std.proofs.lemmas.Bool.Decides.{nat_tests}
use Rattle.std.proofs.lemmas.Fmt.{digits_decimal, digits_value-decimal, decimal_nonempty, first_decimal, decimal_digit}
use Rattle.std.proofs.lemmas.Str.Parse.{tells_all_ascii_digits}
use Rattle.std.specs.Fmt.{signed_decimal, decimal}
use Rattle.std.specs.Option.{option_map, option_or, option_and_then}
use Rattle.std.specs.Str.{all_ascii_digits}
use Rattle.std.specs.Str.Parse.{digits_value}
use Rattle.cell_values.specs.declared.errors.ErrorKind.TheVariants as errors
use Rattle.cell_values.specs.declared.values.Value.{Value}
use Rattle.cell_values.specs.declared.values.Value.TheVariants as values
use Rattle.cell_values.specs.Digits.{whole_number, below_zero}
use Rattle.cell_values.specs.Text.{is_text}
use Rattle.cell_values.specs.Word.{HasWord, with_doubled_quotes, byte_within, quotation_of, value_text, begins_with_zero, number_word, bool_word, kind_of_word, before_closing_quote, text_word, text_of_bytes, value_of_word}
use Rattle.cell_values.proofs.DigitFacts.{own, whole_is}

undoubled_other : (c : ℕ) (xs : List ℕ) → eqb c 34 ≡ false → before_closing_quote (c ∷ xs) ≡ option_map (λ t. c ∷ t) (before_closing_quote xs)
undoubled_other c [] e = ap (λ b. cond b (Some []) None) e
undoubled_other c (d ∷ xs) e = ap (λ b. cond b (cond (eqb d 34) (option_map (λ t. 34 ∷ t) (before_closing_quote xs)) None) (option_map (λ t. c ∷ t) (before_closing_quote (d ∷ xs)))) e

undoubled_step : (c : ℕ) (b : Bool) (xs : List ℕ) → eqb c 34 ≡ b → before_closing_quote (cond b (34 ∷ 34 ∷ []) (c ∷ []) ++ xs) ≡ option_map (λ t. c ∷ t) (before_closing_quote xs)
undoubled_step c true xs e = ap (λ d. option_map (λ t. d ∷ t) (before_closing_quote xs)) (sym (eqb-true c 34 e))
undoubled_step c false xs e = undoubled_other c xs e

-- the quotes of a text are made two and one again
pub undoubled-doubled : (t : List ℕ) → before_closing_quote (with_doubled_quotes t ++ 34 ∷ []) ≡ Some t
undoubled-doubled [] = refl
undoubled-doubled (c ∷ cs) =
    ap before_closing_quote (append_assoc (byte_within c) (with_doubled_quotes cs) (34 ∷ []))
    ∙ undoubled_step c (eqb c 34) (with_doubled_quotes cs ++ 34 ∷ []) refl
    ∙ ap (option_map (λ t. c ∷ t)) (undoubled-doubled cs)

text_word-quoted : (t : List ℕ) → is_text t ≡ true → text_word (quotation_of t) ≡ Some t
text_word-quoted t e = ap (option_and_then text_of_bytes) (undoubled-doubled t) ∙ ap (λ b. cond b (Some t) None) e

no_minus : (c : ℕ) → 48 ≤ c → eqb c 45 ≡ false
no_minus c low = grind (arith, nat_tests)

lead_test : (c n : ℕ) → (c ≡ 48 → suc n ≡ 1) → (eqb c 48 && ltb 0 n) ≡ false
lead_test c n lead =
    false_from_ne_true (eqb c 48 && ltb 0 n)
    (λ h. let p = and_parts (eqb c 48) (ltb 0 n) h in
    let one = lead (eqb-true c 48 p.0) in
    let more = ltb-true 0 n p.1 in
    omega arith)

-- digits without a leading zero are a number word
number_word-digits : (ds : List ℕ) → 0 < length ds → all_ascii_digits ds ≡ true → (get_or ds 0 0 ≡ 48 → length ds ≡ 1) → digits_value 10 ds ≤ 999999999999999 → number_word ds ≡ Some (pos (digits_value 10 ds))
number_word-digits [] some all lead small = absurd (omega arith)
number_word-digits (c ∷ cs) some all lead small =
    let digit = (tells_all_ascii_digits.parts c cs all).0 in
    let whole = option_map (λ n. pos n) (whole_number (c ∷ cs)) in
    let below = cond (begins_with_zero cs) None (option_map below_zero (whole_number cs)) in
    ap (λ b. cond b below (cond (eqb c 48 && ltb 0 (length cs)) None whole)) (no_minus c digit.0)
    ∙ ap (λ b. cond b None whole) (lead_test c (length cs) lead)
    ∙ ap (option_map (λ n. pos n)) (whole_is (c ∷ cs) some all small)

decimal_lead : (n : ℕ) → n < 2 ^ 64 → get_or (decimal n) 0 0 ≡ 48 → length (decimal n) ≡ 1
decimal_lead zero small e = ap length (decimal_digit 0 (lit< tt))
decimal_lead (suc n) small e = absurd (omega (arith, first_decimal (suc n) (omega arith) small))

no_zero : (c : ℕ) → 48 < c → eqb c 48 ≡ false
no_zero c more = grind (arith, nat_tests)

-- the decimals of a number are its word
number_word-decimal : (z : ℤ) → unsigned_abs z ≤ 999999999999999 → number_word (signed_decimal z) ≡ Some z
number_word-decimal (pos n) small =
    let fits : n < 2 ^ 64 = omega arith in
    let value : digits_value 10 (decimal n) ≡ n = digits_value-decimal own n fits in
    number_word-digits (decimal n) (decimal_nonempty n fits) (digits_decimal own n fits) (decimal_lead n fits) (omega arith) ∙ ap (λ m. Some (pos m)) value
number_word-decimal (negsuc n) small =
    let fits : suc n < 2 ^ 64 = omega arith in
    let ds = decimal (suc n) in
    let value : digits_value 10 ds ≡ suc n = digits_value-decimal own (suc n) fits in
    ap (λ b. cond b None (option_map below_zero (whole_number ds))) (no_zero _ (first_decimal (suc n) (omega arith) fits))
    ∙ ap (option_map below_zero) (whole_is ds (decimal_nonempty (suc n) fits) (digits_decimal own (suc n) fits) (omega arith) ∙ ap Some value)

-- the word of a value says that value
pub value_of_word_again : (v : Value) → HasWord v → value_of_word (value_text v) ≡ Some v
value_of_word_again (values.Num n) h =
    let w = signed_decimal n in
    ap (λ o. option_or (option_map values.Num o) (option_or (option_map values.Bool (bool_word w)) (option_or (option_map values.Error (kind_of_word w)) (option_map values.Text (text_word w))))) (number_word-decimal n h)
value_of_word_again (values.Text t) h = ap (option_map values.Text) (text_word-quoted t h)
value_of_word_again (values.Bool true) h = refl
value_of_word_again (values.Bool false) h = refl
value_of_word_again (values.Error errors.Null) h = refl
value_of_word_again (values.Error errors.Div0) h = refl
value_of_word_again (values.Error errors.Value) h = refl
value_of_word_again (values.Error errors.Ref) h = refl
value_of_word_again (values.Error errors.Name) h = refl
value_of_word_again (values.Error errors.Num) h = refl
value_of_word_again (values.Error errors.Na) h = refl
value_of_word_again values.Blank h = absurd h
