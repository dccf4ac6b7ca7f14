-- The token at a place of a text.
use Rattle.std.proofs.Common.{◌≡◌, ℕ, ◌+◌, ◌-◌, ◌<◌, ◌≤◌, Bool, true, false, nat_lt, List, length, take, drop, get_or, Some, None, refl, ap, ◌∙◌, take_all, length-drop, arith}
use Rattle.std.proofs.lemmas.Bool.Decides.{nat_tests}
use Rattle.std.proofs.lemmas.List.{at_drop_more, at_drop_all}
use Rattle.std.specs.List.{slice_get}
use Rattle.formula_parse.specs.Lexing.{token_at, text_behind}

-- the first byte of what is left of a text
pub byte_at : (bytes : List ℕ) (place byte : ℕ) → Some byte ≡ slice_get (take (length bytes - place) (drop place bytes)) 0 → (place < length bytes) × (get_or bytes place 0 ≡ byte)
byte_at bytes place byte e =
    let whole : take (length bytes - place) (drop place bytes) ≡ drop place bytes = take_all (length bytes - place) (drop place bytes) (omega (arith, length-drop place bytes)) in
    by_end (nat_lt place (length bytes)) refl (e ∙ ap (λ xs. slice_get xs 0) whole)
  where
    by_end : (b : Bool) → nat_lt place (length bytes) ≡ b → Some byte ≡ slice_get (drop place bytes) 0 → (place < length bytes) × (get_or bytes place 0 ≡ byte)
    by_end true l h =
        let within : place < length bytes = grind (arith, nat_tests, l) in
        let is : Some byte ≡ Some (get_or bytes place 0) = h ∙ at_drop_more (λ xs. slice_get xs 0) bytes place 0 within in
        (within, cc)
    by_end false l h =
        let past : length bytes ≤ place = grind (arith, nat_tests, l) in
        let none : Some byte ≡ None = h ∙ at_drop_all (λ xs. slice_get xs 0) bytes place past in
        absurd (cc)

-- behind a `"` stands a text
pub text_stands : (text : List ℕ) (place : ℕ) → place < length text → get_or text place 0 ≡ 34 → token_at (drop place text) ≡ text_behind (drop (place + 1) text)
unfolding token_at
text_stands text place l e = at_drop_more token_at text place 0 l ∙ rw e refl
