-- The words of numbers and values are read as these.
use Rattle.std.proofs.Common.{◌≡◌, ℕ, zero, suc, ◌^◌, ◌≤◌, ◌<◌, ◌&&◌, Bool, true, false, cond, eqb, ltb, leb, List, [], ◌∷◌, ◌++◌, length, get_or, Some, None, refl, sym, ap, ◌∙◌, arith, lit<, ℤ, pos, negsuc, unsigned_abs, append_assoc}
use Rattle.std.proofs.lemmas.Bool.{and_from, and_parts, eqb-true, false_from_ne_true, le-leb, lt-ltb, ltb-true}
use Rattle.std.proofs.lemmas.Bool.Decides.{nat_tests}
use Rattle.std.proofs.lemmas.Fmt.{digits_decimal, digits_value-decimal, decimal_nonempty, first_decimal, decimal_digit}
use Rattle.std.proofs.lemmas.Str.Parse.{tells_all_ascii_digits}
use Rattle.std.specs.Char.{is_ascii_digit}
use Rattle.std.specs.Fmt.{signed_decimal, decimal}
use Rattle.std.specs.List.{list_all}
use Rattle.std.specs.Option.{option_map, option_or, option_and_then}
use Rattle.std.specs.Str.{all_ascii_digits}
use Rattle.std.specs.Str.Parse.{digits_value}
use Rattle.cell_refs.proofs.PublicLaws.{numerals}
use Rattle.cell_values.specs.declared.errors.ErrorKind.TheVariants as errors
use Rattle.cell_values.specs.declared.values.Value.{Value}
use Rattle.cell_values.specs.declared.values.Value.TheVariants as values
use Rattle.cell_values.specs.Digits.{are_digits, below_zero, has_number_form, number_of_digits, whole_number}
use Rattle.cell_values.specs.Text.{is_text}
use Rattle.cell_values.specs.Word.{HasWord, before_closing_quote, begins_with_zero, bool_word, byte_within, kind_of_word, number_word, quotation_of, text_of_bytes, text_word, value_of_word, value_text, with_doubled_quotes}

whole_is : (ds : List ℕ) → 0 < length ds → all_ascii_digits ds ≡ true → digits_value 10 ds ≤ 999999999999999 → whole_number ds ≡ Some (digits_value 10 ds)
whole_is ds some all small =
    ap (λ b. cond b (Some (digits_value 10 ds)) None)
    (and_from (all_ascii_digits ds) (ltb 0 (length ds) && leb (digits_value 10 ds) 999999999999999) all
    (and_from (ltb 0 (length ds)) (leb (digits_value 10 ds) 999999999999999) (lt-ltb 0 (length ds) some) (le-leb (digits_value 10 ds) 999999999999999 small)))

-- the decimals of a number within the magnitude
pub whole_decimal : (n : ℕ) → n ≤ 999999999999999 → whole_number (decimal n) ≡ Some n
whole_decimal n small =
    let fits : n < 2 ^ 64 = omega arith in
    let value : digits_value 10 (decimal n) ≡ n = digits_value-decimal numerals n fits in
    whole_is (decimal n) (decimal_nonempty n fits) (digits_decimal numerals n fits) (omega arith) ∙ ap (λ m. Some m) value

no_minus : (c : ℕ) → 48 ≤ c → eqb c 45 ≡ false
no_minus c low = grind (arith, nat_tests)

lead_test : (c n : ℕ) → (c ≡ 48 → suc n ≡ 1) → (eqb c 48 && ltb 0 n) ≡ false
lead_test c n lead =
    false_from_ne_true (eqb c 48 && ltb 0 n)
    (λ h. let p = and_parts (eqb c 48) (ltb 0 n) h in
    let one = lead (eqb-true c 48 p.0) in
    let more = ltb-true 0 n p.1 in
    omega arith)

-- digits without a leading zero are a number word
number_by_digits : (ds : List ℕ) (n : ℕ) → 0 < length ds → all_ascii_digits ds ≡ true → (get_or ds 0 0 ≡ 48 → length ds ≡ 1) → whole_number ds ≡ Some n → number_word ds ≡ Some (pos n)
number_by_digits [] n some all lead whole = absurd (omega arith)
number_by_digits (c ∷ cs) n some all lead whole =
    let digit = (tells_all_ascii_digits.parts c cs all).0 in
    let above = option_map (λ n. pos n) (whole_number (c ∷ cs)) in
    let below = cond (begins_with_zero cs) None (option_map below_zero (whole_number cs)) in
    ap (λ b. cond b below (cond (eqb c 48 && ltb 0 (length cs)) None above)) (no_minus c digit.0)
    ∙ ap (λ b. cond b None above) (lead_test c (length cs) lead)
    ∙ ap (option_map (λ n. pos n)) whole

decimal_lead : (n : ℕ) → n < 2 ^ 64 → get_or (decimal n) 0 0 ≡ 48 → length (decimal n) ≡ 1
decimal_lead zero small e = ap length (decimal_digit 0 (lit< tt))
decimal_lead (suc n) small e = absurd (omega (arith, first_decimal (suc n) (omega arith) small))

no_zero : (c : ℕ) → 48 < c → eqb c 48 ≡ false
no_zero c more = grind (arith, nat_tests)

-- the decimals of a number are its word
pub number_again : (z : ℤ) → unsigned_abs z ≤ 999999999999999 → number_word (signed_decimal z) ≡ Some z
number_again (pos n) small =
    let fits : n < 2 ^ 64 = omega arith in
    number_by_digits (decimal n) n (decimal_nonempty n fits) (digits_decimal numerals n fits) (decimal_lead n fits) (whole_decimal n small)
number_again (negsuc n) small =
    let fits : suc n < 2 ^ 64 = omega arith in
    ap (λ b. cond b None (option_map below_zero (whole_number (decimal (suc n))))) (no_zero _ (first_decimal (suc n) (omega arith) fits))
    ∙ ap (option_map below_zero) (whole_decimal (suc n) small)

all_digits : (ds : List ℕ) → all_ascii_digits ds ≡ true → list_all is_ascii_digit ds ≡ true
all_digits [] all = refl
all_digits (c ∷ cs) all =
    let parts = and_parts (is_ascii_digit c) (all_ascii_digits cs) all in
    and_from (is_ascii_digit c) (list_all is_ascii_digit cs) parts.0 (all_digits cs parts.1)

digits_are : (ds : List ℕ) → 0 < length ds → all_ascii_digits ds ≡ true → are_digits ds ≡ true
digits_are [] some all = absurd (omega arith)
digits_are (c ∷ cs) some all = all_digits (c ∷ cs) all

-- digits have the form of a number, which is theirs
form_by_digits : (ds : List ℕ) → 0 < length ds → all_ascii_digits ds ≡ true → (has_number_form ds ≡ true) × (number_of_digits ds ≡ option_map (λ n. pos n) (whole_number ds))
form_by_digits [] some all = absurd (omega arith)
form_by_digits (c ∷ cs) some all =
    let digit = (tells_all_ascii_digits.parts c cs all).0 in (
      ap (λ b. cond b (are_digits cs) (are_digits (c ∷ cs))) (no_minus c digit.0) ∙ digits_are (c ∷ cs) some all,
      ap (λ b. cond b (option_map below_zero (whole_number cs)) (option_map (λ n. pos n) (whole_number (c ∷ cs)))) (no_minus c digit.0),
    )

-- the decimals of a number have the form of that number
pub number_form_again : (z : ℤ) → unsigned_abs z ≤ 999999999999999 → (has_number_form (signed_decimal z) ≡ true) × (number_of_digits (signed_decimal z) ≡ Some z)
number_form_again (pos n) small =
    let fits : n < 2 ^ 64 = omega arith in
    let form = form_by_digits (decimal n) (decimal_nonempty n fits) (digits_decimal numerals n fits) in
    (form.0, form.1 ∙ ap (option_map (λ n. pos n)) (whole_decimal n small))
number_form_again (negsuc n) small =
    let fits : suc n < 2 ^ 64 = omega arith in (
      digits_are (decimal (suc n)) (decimal_nonempty (suc n) fits) (digits_decimal numerals (suc n) fits),
      ap (option_map below_zero) (whole_decimal (suc n) small),
    )

undoubled_other : (c : ℕ) (xs : List ℕ) → eqb c 34 ≡ false → before_closing_quote (c ∷ xs) ≡ option_map (λ t. c ∷ t) (before_closing_quote xs)
undoubled_other c [] e = ap (λ b. cond b (Some []) None) e
undoubled_other c (d ∷ xs) e = ap (λ b. cond b (cond (eqb d 34) (option_map (λ t. 34 ∷ t) (before_closing_quote xs)) None) (option_map (λ t. c ∷ t) (before_closing_quote (d ∷ xs)))) e

undoubled_step : (c : ℕ) (b : Bool) (xs : List ℕ) → eqb c 34 ≡ b → before_closing_quote (cond b (34 ∷ 34 ∷ []) (c ∷ []) ++ xs) ≡ option_map (λ t. c ∷ t) (before_closing_quote xs)
undoubled_step c true xs e = ap (λ d. option_map (λ t. d ∷ t) (before_closing_quote xs)) (sym (eqb-true c 34 e))
undoubled_step c false xs e = undoubled_other c xs e

-- the quotes of a text are made two and one again
undoubled-doubled : (t : List ℕ) → before_closing_quote (with_doubled_quotes t ++ 34 ∷ []) ≡ Some t
undoubled-doubled [] = refl
undoubled-doubled (c ∷ cs) =
    ap before_closing_quote (append_assoc (byte_within c) (with_doubled_quotes cs) (34 ∷ []))
    ∙ undoubled_step c (eqb c 34) (with_doubled_quotes cs ++ 34 ∷ []) refl
    ∙ ap (option_map (λ t. c ∷ t)) (undoubled-doubled cs)

quoted_again : (t : List ℕ) → is_text t ≡ true → text_word (quotation_of t) ≡ Some t
quoted_again t e = ap (option_and_then text_of_bytes) (undoubled-doubled t) ∙ ap (λ b. cond b (Some t) None) e

-- the word of a value is read as that value
pub value_again : (v : Value) → HasWord v → value_of_word (value_text v) ≡ Some v
value_again (values.Num n) h =
    let w = signed_decimal n in
    ap (λ o. option_or (option_map values.Num o) (option_or (option_map values.Bool (bool_word w)) (option_or (option_map values.Error (kind_of_word w)) (option_map values.Text (text_word w))))) (number_again n h)
value_again (values.Text t) h = ap (option_map values.Text) (quoted_again t h)
value_again (values.Bool true) h = refl
value_again (values.Bool false) h = refl
value_again (values.Error errors.Null) h = refl
value_again (values.Error errors.Div0) h = refl
value_again (values.Error errors.Value) h = refl
value_again (values.Error errors.Ref) h = refl
value_again (values.Error errors.Name) h = refl
value_again (values.Error errors.Num) h = refl
value_again (values.Error errors.Na) h = refl
value_again values.Blank h = absurd h
