-- Digits and letters in a text and in the same text in upper case.
use Rattle.std.proofs.Common.{◌≡◌, ℕ, ◌<◌, ◌≤◌, Bool, true, false, cond, ◌&&◌, nat_lt, nat_le, if◌then◌else◌, slice_index, Some, None, List, [], ◌∷◌, map, length, take, drop, take_while, refl, ap, sym, ◌∙◌, arith}
use Rattle.std.proofs.lemmas.Bool.Decides.{nat_tests}
use Rattle.std.proofs.lemmas.List.Sums.{take_while-cons}
use Rattle.std.proofs.lemmas.List.{length-map, drop-map}
use Rattle.std.specs.Char.{is_ascii_digit, is_ascii_alphabetic, is_ascii_uppercase, to_ascii_uppercase}
use Rattle.std.proofs.lemmas.List.Folds.{length-prefix_len}
use Rattle.std.specs.Str.{all_ascii_digits}
use Rattle.std.specs.Str.Parse.{digits_value}
use Rattle.cell_refs.specs.Reading.{column_at, column_number, number_at}
use Rattle.cell_refs.specs.Written.{capitals}

pub digit_upper : (c : ℕ) → is_ascii_digit (to_ascii_uppercase c) ≡ is_ascii_digit c
digit_upper c = grind (arith, nat_tests)

pub upper_digit : (c : ℕ) → is_ascii_digit c ≡ true → to_ascii_uppercase c ≡ c
upper_digit c h = grind (arith, nat_tests)

pub letter_upper : (c : ℕ) → is_ascii_uppercase (to_ascii_uppercase c) ≡ is_ascii_alphabetic c
letter_upper c = grind (arith, nat_tests)

-- one more element of a front that passes, seen through a function that keeps the test
step : (p q : ℕ → Bool) (f : ℕ → ℕ) (c : ℕ) (cs front rest : List ℕ) → q (f c) ≡ p c → rest ≡ map f front → cond (q (f c)) (f c ∷ rest) [] ≡ map f (cond (p c) (c ∷ front) [])
step p q f c cs front rest same kept = rw (same, kept) (elim (p c) as (λ b. cond b (f c ∷ map f front) [] ≡ map f (cond b (c ∷ front) [])) [ true ↦ refl | false ↦ refl ])

pub take_while_map : (p q : ℕ → Bool) (f : ℕ → ℕ) → ((c : ℕ) → q (f c) ≡ p c) → (text : List ℕ) → take_while q (map f text) ≡ map f (take_while p text)
take_while_map p q f same [] = refl
take_while_map p q f same (c ∷ cs) =
    take_while-cons q (f c) (map f cs) ∙ (step p q f c cs (take_while p cs) (take_while q (map f cs)) (same c) (take_while_map p q f same cs) ∙ ap (map f) (sym (take_while-cons p c cs)))

-- the letters at the front of a text in upper case are the text's letters in upper case
pub letters_capitals : (text : List ℕ) → take_while is_ascii_uppercase (capitals text) ≡ capitals (take_while is_ascii_alphabetic text)
letters_capitals text = take_while_map is_ascii_alphabetic is_ascii_uppercase to_ascii_uppercase letter_upper text

-- digits are the same in upper case
pub capitals_digits : (text : List ℕ) → capitals (take_while is_ascii_digit text) ≡ take_while is_ascii_digit text
capitals_digits [] = refl
capitals_digits (c ∷ cs) = rw take_while-cons (digit_step c (take_while is_ascii_digit cs) (capitals_digits cs))
  where
    digit_step : (c : ℕ) (front : List ℕ) → capitals front ≡ front → capitals (cond (is_ascii_digit c) (c ∷ front) []) ≡ cond (is_ascii_digit c) (c ∷ front) []
    digit_step c front same = grind (arith, nat_tests, same, upper_digit)

pub digits_capitals : (text : List ℕ) → take_while is_ascii_digit (capitals text) ≡ take_while is_ascii_digit text
digits_capitals text = take_while_map is_ascii_digit is_ascii_digit to_ascii_uppercase digit_upper text ∙ capitals_digits text

-- a front that passes, as the code cuts it off
front_cut : (p : ℕ → Bool) (text front : List ℕ) (n : ℕ) → n ≡ length (take_while p text) → front ≡ take n text → front ≡ take_while p text
front_cut p text front n e f = f ∙ ap (λ k. take k text) (e ∙ length-prefix_len p text)

length_cut : (p : ℕ → Bool) (text front : List ℕ) (n : ℕ) → n ≡ length (take_while p text) → front ≡ take n text → n ≡ length front
length_cut p text front n e f = e ∙ sym (ap length (front_cut p text front n e f))

-- the column at the front of a text, by the letters that stand there in any case
column_by_letters : (text letters rest : List ℕ) (n : ℕ) → n ≡ length (take_while is_ascii_alphabetic text) → letters ≡ take n text → rest ≡ drop n text → column_at (capitals text) ≡ (if nat_lt 0 (length letters) && nat_le (length letters) 3 && nat_le (column_number (capitals letters)) 16384 then Some (column_number (capitals letters), capitals rest) else None)
unfolding column_at
column_by_letters text letters rest n e f g =
    rw (front_cut is_ascii_alphabetic text letters n e f, g ∙ ap (λ k. drop k text) e) (simp (letters_capitals, length-map, drop-map))

pub column_found : (text letters rest : List ℕ) (n column : ℕ) → n ≡ length (take_while is_ascii_alphabetic text) → letters ≡ take n text → rest ≡ drop n text → (0 < length letters) × (length letters ≤ 3) → column ≡ column_number (capitals letters) → column ≤ 16384 → Some (column, capitals rest) ≡ column_at (capitals text)
column_found text letters rest n column e f g few is small = rw (column_by_letters text letters rest n e f g, is) (let h : column_number (capitals letters) ≤ 16384 = rw (← is) small in grind (arith, nat_tests, h, few.0, few.1))

pub column_none : (text letters rest : List ℕ) (n : ℕ) → n ≡ length (take_while is_ascii_alphabetic text) → letters ≡ take n text → rest ≡ drop n text → ((0 < length letters) × (length letters ≤ 3) → column_number (capitals letters) ≤ 16384 → ⊥) → None ≡ column_at (capitals text)
column_none text letters rest n e f g out = rw (column_by_letters text letters rest n e f g) (grind (arith, nat_tests, out))

-- the number at the front of a text, by the digits that stand there
number_by_digits : (limit : ℕ) (text digits rest : List ℕ) (n : ℕ) → n ≡ length (take_while is_ascii_digit text) → digits ≡ take n text → rest ≡ drop n text → number_at limit (capitals text) ≡ (if nat_lt 48 (slice_index digits 0) && nat_le (digits_value 10 digits) limit then Some (digits_value 10 digits, capitals rest) else None)
unfolding number_at
number_by_digits limit text digits rest n e f g =
    rw (front_cut is_ascii_digit text digits n e f, g ∙ ap (λ k. drop k text) e) (simp (digits_capitals, drop-map))

pub number_found : (limit : ℕ) (text digits rest : List ℕ) (n number : ℕ) → n ≡ length (take_while is_ascii_digit text) → digits ≡ take n text → rest ≡ drop n text → 48 < slice_index digits 0 → number ≡ digits_value 10 digits → number ≤ limit → Some (number, capitals rest) ≡ number_at limit (capitals text)
number_found limit text digits rest n number e f g some is small = rw (number_by_digits limit text digits rest n e f g, is) (let h : digits_value 10 digits ≤ limit = rw (← is) small in grind (arith, nat_tests, h, some))

pub number_none : (limit : ℕ) (text digits rest : List ℕ) (n : ℕ) → n ≡ length (take_while is_ascii_digit text) → digits ≡ take n text → rest ≡ drop n text → (48 < slice_index digits 0 → digits_value 10 digits ≤ limit → ⊥) → None ≡ number_at limit (capitals text)
number_none limit text digits rest n e f g out = rw (number_by_digits limit text digits rest n e f g) (grind (arith, nat_tests, out))

-- a front of digits has digits alone
pub all_digits : (text : List ℕ) → all_ascii_digits (take_while is_ascii_digit text) ≡ true
all_digits [] = refl
all_digits (c ∷ cs) = rw take_while-cons (more (is_ascii_digit c) c (take_while is_ascii_digit cs) refl (all_digits cs))
  where
    more : (b : Bool) (c : ℕ) (front : List ℕ) → is_ascii_digit c ≡ b → all_ascii_digits front ≡ true → all_ascii_digits (cond b (c ∷ front) []) ≡ true
    more true c front is all = rw (is, all) refl
    more false c front is all = refl

pub cut_digits : (text digits : List ℕ) (n : ℕ) → n ≡ length (take_while is_ascii_digit text) → digits ≡ take n text → all_ascii_digits digits ≡ true
cut_digits text digits n e f = rw (front_cut is_ascii_digit text digits n e f) (all_digits text)
