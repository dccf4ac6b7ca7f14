-- The sheet part at the front of a text.
use Rattle.std.proofs.Common.{◌≡◌, ℕ, ◌+◌, ◌<◌, ◌≤◌, Bool, true, false, cond, ◌&&◌, nat_lt, nat_le, slice_index, eqb, List, [], ◌∷◌, length, take, drop, take_while, get_or, Option, Some, None, codes, refl, ap, sym, ◌∙◌, arith, length-drop}
use Rattle.std.proofs.lemmas.Bool.Decides.{nat_tests}
use Rattle.std.proofs.lemmas.List.{at_drop_more, at_drop_all, length-map, drop-map}
use Rattle.std.specs.Char.{to_ascii_uppercase, is_ascii_digit}
use Rattle.std.specs.Str.{bytes_eq}
use Rattle.std.specs.Str.Parse.{digits_value}
use Rattle.cell_refs.specs.Reading.{rest_after, number_at, sheet_number_at, sheet_at}
use Rattle.cell_refs.specs.Written.{capitals}
use Rattle.cell_refs.proofs.PublicLaws.{number_found, number_none}
use Rattle.formula_parse.specs.Lexing.{begins_with, sheet_len}

-- what follows a word, where the text begins with it
rest_is : (word text : List ℕ) → rest_after word text ≡ cond (bytes_eq (take (length word) text) word) (Some (drop (length word) text)) None
rest_is [] text = refl
rest_is (w ∷ ws) [] = refl
rest_is (w ∷ ws) (c ∷ cs) = step (eqb c w) _ _ _ (rest_is ws cs)
  where
    step : (a b : Bool) (o p : Option (List ℕ)) → o ≡ cond b p None → cond a o None ≡ cond (a && b) p None
    step true b o p e = e
    step false b o p e = refl

-- without the word there is no sheet part
pub no_word : (text : List ℕ) → begins_with (codes "SHEET") text ≡ false → sheet_len text (sheet_at (capitals text)) ≡ 0
unfolding sheet_at
no_word text e =
    let none : rest_after (codes "SHEET") (capitals text) ≡ None = rest_is (codes "SHEET") (capitals text) ∙ ap (λ b. cond b (Some (drop 5 (capitals text))) None) e in
    rw none (omega (arith, length-map text to_ascii_uppercase))

-- behind the word stands the number
behind_word : (text rest : List ℕ) → rest ≡ drop 5 text → begins_with (codes "SHEET") text ≡ true → sheet_at (capitals text) ≡ sheet_number_at (capitals rest)
unfolding sheet_at
behind_word text rest r e =
    let some : rest_after (codes "SHEET") (capitals text) ≡ Some (capitals rest) = rest_is (codes "SHEET") (capitals text) ∙ (ap (λ b. cond b (Some (drop 5 (capitals text))) None) e ∙ ap Some (drop-map to_ascii_uppercase 5 text ∙ ap capitals (sym r))) in
    rw some refl

-- the `!` behind the number
mark_found : (rest : List ℕ) (n : ℕ) → n < length rest → get_or rest n 0 ≡ 33 → rest_after (codes "!") (capitals (drop n rest)) ≡ Some (capitals (drop (n + 1) rest))
mark_found rest n l e = at_drop_more (λ xs. rest_after (codes "!") (capitals xs)) rest n 0 l ∙ rw e refl

upper_33 : (c : ℕ) → (c ≡ 33 → ⊥) → eqb (to_ascii_uppercase c) 33 ≡ false
upper_33 c h = grind (arith, nat_tests)

-- no `!` behind it
mark_none : (rest : List ℕ) (n : ℕ) → (n < length rest → get_or rest n 0 ≡ 33 → ⊥) → rest_after (codes "!") (capitals (drop n rest)) ≡ None
mark_none rest n h = by_end (nat_lt n (length rest)) refl
  where
    by_end : (b : Bool) → nat_lt n (length rest) ≡ b → rest_after (codes "!") (capitals (drop n rest)) ≡ None
    by_end true e =
        let l : n < length rest = grind (arith, nat_tests, e) in
        at_drop_more (λ xs. rest_after (codes "!") (capitals xs)) rest n 0 l ∙ ap (λ b. cond b (Some (capitals (drop (n + 1) rest))) None) (upper_33 _ (h l))
    by_end false e =
        let l : length rest ≤ n = grind (arith, nat_tests, e) in
        at_drop_all (λ xs. rest_after (codes "!") (capitals xs)) rest n l

-- a number and its `!` are the sheet part behind the word
pub sheet_found : (text rest : List ℕ) (n : ℕ) → rest ≡ drop 5 text → begins_with (codes "SHEET") text ≡ true → n ≡ length (take_while is_ascii_digit rest) → 48 < slice_index (take n rest) 0 → digits_value 10 (take n rest) ≤ 64 → n < length rest → get_or rest n 0 ≡ 33 → sheet_len text (sheet_at (capitals text)) ≡ 6 + n
unfolding sheet_number_at
sheet_found text rest n r b e some small l m =
    let at : sheet_at (capitals text) ≡ sheet_number_at (capitals rest) = behind_word text rest r b in
    let number : number_at 64 (capitals rest) ≡ Some (digits_value 10 (take n rest), capitals (drop n rest)) = sym (number_found 64 rest (take n rest) (drop n rest) n (digits_value 10 (take n rest)) e refl refl some refl small) in
    let mark : rest_after (codes "!") (capitals (drop n rest)) ≡ Some (capitals (drop (n + 1) rest)) = mark_found rest n l m in
    rw (at, number, mark) (omega (arith, length-map (drop (n + 1) rest) to_ascii_uppercase, length-drop (n + 1) rest, length-drop 5 text, ap length r))

-- digits that are no number of a sheet, or have no `!` behind them, are no sheet part
pub no_number : (text rest : List ℕ) (n : ℕ) → rest ≡ drop 5 text → begins_with (codes "SHEET") text ≡ true → n ≡ length (take_while is_ascii_digit rest) → (48 < slice_index (take n rest) 0 → digits_value 10 (take n rest) ≤ 64 → ⊥) → sheet_len text (sheet_at (capitals text)) ≡ 0
unfolding sheet_number_at
no_number text rest n r b e out =
    let at : sheet_at (capitals text) ≡ sheet_number_at (capitals rest) = behind_word text rest r b in
    let number : number_at 64 (capitals rest) ≡ None = sym (number_none 64 rest (take n rest) (drop n rest) n e refl refl out) in
    rw (at, number) refl

pub no_mark : (text rest : List ℕ) (n : ℕ) → rest ≡ drop 5 text → begins_with (codes "SHEET") text ≡ true → n ≡ length (take_while is_ascii_digit rest) → 48 < slice_index (take n rest) 0 → digits_value 10 (take n rest) ≤ 64 → (n < length rest → get_or rest n 0 ≡ 33 → ⊥) → sheet_len text (sheet_at (capitals text)) ≡ 0
unfolding sheet_number_at
no_mark text rest n r b e some small out =
    let at : sheet_at (capitals text) ≡ sheet_number_at (capitals rest) = behind_word text rest r b in
    let number : number_at 64 (capitals rest) ≡ Some (digits_value 10 (take n rest), capitals (drop n rest)) = sym (number_found 64 rest (take n rest) (drop n rest) n (digits_value 10 (take n rest)) e refl refl some refl small) in
    rw (at, number, mark_none rest n out) refl

-- the code's tests in words: a byte stands at a place, and digits are the number of a sheet
pub both_parts : (m n x y : ℕ) → (nat_lt m n && eqb x y) ≡ true → (m < n) × (x ≡ y)
both_parts m n x y h = (grind (arith, nat_tests), grind (arith, nat_tests))

pub not_both : (m n x y : ℕ) → (nat_lt m n && eqb x y) ≡ false → m < n → x ≡ y → ⊥
not_both m n x y h l e = grind (arith, nat_tests)

pub sheet_parts : (first value : ℕ) → (nat_lt 48 first && nat_le value 64) ≡ true → (48 < first) × (value ≤ 64)
sheet_parts first value h = (grind (arith, nat_tests), grind (arith, nat_tests))

pub not_sheet : (first value : ℕ) → (nat_lt 48 first && nat_le value 64) ≡ false → 48 < first → value ≤ 64 → ⊥
not_sheet first value h f v = grind (arith, nat_tests)
