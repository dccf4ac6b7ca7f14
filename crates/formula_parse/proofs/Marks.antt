-- Where a mark stands, no operand has begun.
use Rattle.std.proofs.Common.{◌≡◌, ℕ, ◌+◌, Bool, true, false, ◌||◌, ◌==◌, if◌then◌else◌, List, [], ◌∷◌, length, drop, take_while, Option, Some, None, option_map, refl, subst}
use Rattle.std.specs.List.{find, list_any}
use Rattle.std.specs.Char.{is_ascii_digit, is_ascii_alphabetic, is_ascii_control}
use Rattle.cell_refs.specs.declared.references.RefText.{RefText}
use Rattle.cell_refs.specs.Written.{reference_at, capitals}
use Rattle.cell_values.specs.declared.errors.ErrorKind.{ErrorKind}
use Rattle.cell_values.specs.Error.{error_word}
use Rattle.cell_values.specs.Name.{is_name_byte}
use Rattle.formula_parse.specs.Callees.{callee_named}
use Rattle.formula_parse.specs.declared.tokens.Token.{Token}
use Rattle.formula_parse.specs.declared.tokens.Token.TheVariants as tokens
use Rattle.formula_parse.specs.Lexing.{token_at, begun_len, number_at, text_behind, text_found, content_at, error_at, word_at, word_found, reference_found, area_behind, mark_at, all_errors, begins_with}
use Rattle.formula_parse.proofs.Machine.{is_operand}

-- what is found, if anything, is an operand
abbrev IsOperandIf : Option (Token × ℕ) → Type 0
IsOperandIf found = (token : Token) (n : ℕ) → found ≡ Some (token, n) → is_operand token ≡ true

none_operand : IsOperandIf None
none_operand token n h = nothing (token, n) h
  where
    nothing : (found : Token × ℕ) → None ≡ Some found → is_operand token ≡ true
    nothing found h = cc

some_operand : (found : Token × ℕ) → is_operand found.0 ≡ true → IsOperandIf (Some found)
some_operand found o token n h = subst (λ f. is_operand f.0 ≡ true) (Rattle.std.proofs.lemmas.Option.same_Some found (token, n) h) o

either_operand : (test : Bool) (a b : Option (Token × ℕ)) → IsOperandIf a → IsOperandIf b → IsOperandIf (if test then a else b)
either_operand true a b x y = x
either_operand false a b x y = y

text_operand : (found : Option (List ℕ × ℕ)) → IsOperandIf (text_found found)
text_operand None = none_operand
text_operand (Some found) = either_operand (list_any is_ascii_control found.0) None (Some (tokens.Text found.0, found.1 + 1)) none_operand (some_operand (tokens.Text found.0, found.1 + 1) refl)

error_operand : (found : Option ErrorKind) → IsOperandIf (option_map (λ e. (tokens.Error e, length (error_word e))) found)
error_operand None = none_operand
error_operand (Some e) = some_operand (tokens.Error e, length (error_word e)) refl

area_operand : (text : List ℕ) (first : RefText) (len : ℕ) (found : Option (RefText × ℕ)) → IsOperandIf (area_behind text first len found)
area_operand text first len None = none_operand
area_operand text first len (Some second) = either_operand _ (Some (tokens.Area first second.0, len + 1 + second.1)) None (some_operand (tokens.Area first second.0, len + 1 + second.1) refl) none_operand

reference_operand : (text : List ℕ) (found : Option (RefText × ℕ)) → IsOperandIf (reference_found text found)
reference_operand text None = none_operand
reference_operand text (Some found) =
    either_operand _ (area_behind text found.0 found.1 (reference_at (drop (found.1 + 1) text))) _ (area_operand text found.0 found.1 (reference_at (drop (found.1 + 1) text)))
    (either_operand _ None (Some (tokens.Reference found.0, found.1)) none_operand (some_operand (tokens.Reference found.0, found.1) refl))

word_operand : (text word : List ℕ) → IsOperandIf (word_found text word)
word_operand text word =
    either_operand _ (Some (tokens.Call (callee_named (capitals word)), length word + 1)) _ (some_operand (tokens.Call (callee_named (capitals word)), length word + 1) refl)
    (either_operand _ (Some (tokens.Boolean true, 4)) _ (some_operand (tokens.Boolean true, 4) refl)
    (either_operand _ (Some (tokens.Boolean false, 5)) (reference_found text (reference_at text)) (some_operand (tokens.Boolean false, 5) refl) (reference_operand text (reference_at text))))

-- where the found token is no operand, its first byte begins none
by_tests : (b : ℕ) (rest : List ℕ) (token : Token) (n : ℕ) → is_operand token ≡ false → (digit quote hash word : Bool) → (if digit then number_at (b ∷ rest) else (if quote then text_behind rest else (if hash then error_at (b ∷ rest) else (if word then word_at (b ∷ rest) else mark_at b rest)))) ≡ Some (token, n) → (x y z : ℕ) → (if quote then x else (if hash then y else (if word then z else 0))) ≡ 0
by_tests b rest token n o true quote hash word h x y z = absurd (not_both (is_operand token) o (some_operand _ refl token n h))
  where
    not_both : (k : Bool) → k ≡ false → k ≡ true → ⊥
    not_both k f t = cc
by_tests b rest token n o false true hash word h x y z = absurd (not_both (is_operand token) o (text_operand (content_at rest) token n h))
  where
    not_both : (k : Bool) → k ≡ false → k ≡ true → ⊥
    not_both k f t = cc
by_tests b rest token n o false false true word h x y z = absurd (not_both (is_operand token) o (error_operand (find (λ e. begins_with (error_word e) (b ∷ rest)) all_errors) token n h))
  where
    not_both : (k : Bool) → k ≡ false → k ≡ true → ⊥
    not_both k f t = cc
by_tests b rest token n o false false false true h x y z = absurd (not_both (is_operand token) o (word_operand (b ∷ rest) (take_while is_name_byte (b ∷ rest)) token n h))
  where
    not_both : (k : Bool) → k ≡ false → k ≡ true → ⊥
    not_both k f t = cc
by_tests b rest token n o false false false false h x y z = refl

pub marks_begin_nothing : (text : List ℕ) (token : Token) (n : ℕ) → token_at text ≡ Some (token, n) → is_operand token ≡ false → begun_len text ≡ 0
unfolding token_at begun_len
marks_begin_nothing [] token n h o = refl
marks_begin_nothing (b ∷ rest) token n h o = by_tests b rest token n o (is_ascii_digit b) (b == 34) (b == 35) (is_ascii_alphabetic b || b == 36) h _ _ _
