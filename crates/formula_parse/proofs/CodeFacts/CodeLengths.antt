-- The token at the front of a text has some length, which is that of the text at most.
use Rattle.std.proofs.Common.{◌≡◌, ℕ, ◌+◌, suc, ◌<◌, ◌≤◌, Bool, true, false, not, cond, ◌&&◌, ◌||◌, ◌==◌, nat_lt, slice_index, is_none, List, [], ◌∷◌, length, take, drop, take_while, Option, Some, None, codes, refl, ap, subst, ◌∙◌, length-drop, arith}
use Rattle.std.proofs.lemmas.Bool.{ltb-true}
use Rattle.std.proofs.lemmas.List.{length-map, length-take}
use Rattle.std.proofs.lemmas.List.Folds.{length-prefix_len}
use Rattle.std.proofs.lemmas.List.Sums.{take_while-cons, prefix_len-le-length}
use Rattle.std.proofs.lemmas.Slice.Eq.{bytes_eq-Decides}
use Rattle.std.specs.Char.{is_ascii_digit, is_ascii_control, is_ascii_alphabetic, to_ascii_uppercase}
use Rattle.std.specs.List.{list_any, find}
use Rattle.std.specs.Option.{option_map}
use Rattle.std.specs.Str.{bytes_eq}
use Rattle.cell_refs.proofs.PublicLaws.{stands_from_read, stands_long}
use Rattle.cell_refs.specs.declared.references.RefText.{RefText}
use Rattle.cell_refs.specs.Written.{reference_at, capitals}
use Rattle.cell_values.proofs.PublicLaws.{both_true}
use Rattle.cell_values.specs.declared.errors.ErrorKind.{ErrorKind}
use Rattle.cell_values.specs.declared.errors.ErrorKind.TheVariants as errors
use Rattle.cell_values.specs.Error.{error_word}
use Rattle.cell_values.specs.Name.{is_name, is_name_byte}
use Rattle.formula_parse.specs.declared.operators.Operator.{Operator}
use Rattle.formula_parse.specs.declared.tokens.Token.{Token}
use Rattle.formula_parse.specs.declared.tokens.Token.TheVariants as tokens
use Rattle.formula_parse.specs.Lexing.{token_at, number_at, content_at, text_found, text_behind, all_errors, begins_with, passes_at, area_behind, reference_found, word_found, less_at, greater_at, operator_at, operator_len, mark_at}
use Rattle.formula_parse.specs.Tokens.{is_word_byte}
use Rattle.formula_parse.proofs.CodeFacts.CodeQuotes.{IsWithin, content_within}

-- what is found has a length within the text
abbrev pub IsFitting : List ℕ → Option (Token × ℕ) → Type 0
IsFitting text None = Unit {0}
IsFitting text (Some found) = (0 < found.1) × (found.1 ≤ length text)

-- a choice fits where both sides do
either : (text : List ℕ) (b : Bool) (x y : Option (Token × ℕ)) → (b ≡ true → IsFitting text x) → (b ≡ false → IsFitting text y) → IsFitting text (cond b x y)
either text true x y f g = f refl
either text false x y f g = g refl

number_fits : (b : ℕ) (rest : List ℕ) → is_ascii_digit b ≡ true → IsFitting (b ∷ rest) (number_at (b ∷ rest))
number_fits b rest d =
    let cut : take_while is_ascii_digit (b ∷ rest) ≡ b ∷ take_while is_ascii_digit rest = take_while-cons is_ascii_digit b rest ∙ ap (λ t. cond t (b ∷ take_while is_ascii_digit rest) []) d in
    let long : length (take_while is_ascii_digit (b ∷ rest)) ≡ suc (length (take_while is_ascii_digit rest)) = ap length cut in
    (omega (arith, long), omega (arith, long, length-prefix_len is_ascii_digit rest, prefix_len-le-length is_ascii_digit rest))

text_fits : (b : ℕ) (rest : List ℕ) → IsFitting (b ∷ rest) (text_behind rest)
text_fits b rest = by_content (content_at rest) (content_within rest)
  where
    by_content : (o : Option (List ℕ × ℕ)) → IsWithin rest o → IsFitting (b ∷ rest) (text_found o)
    by_content None w = tt
    by_content (Some found) w = either (b ∷ rest) (list_any is_ascii_control found.0) None (Some (tokens.Text found.0, found.1 + 1)) (λ _. tt) (λ _. (omega arith, omega arith))

-- a word that a text is in upper case, and one that it begins with, are no longer than the text
same_length : (text word : List ℕ) → bytes_eq text word ≡ true → length text ≡ length word
same_length text word e = ap length ((bytes_eq-Decides text word).0 e)

begins_long : (word text : List ℕ) → begins_with word text ≡ true → length word ≤ length text
begins_long word text e =
    let cut : length (take (length word) (capitals text)) ≡ length word = same_length (take (length word) (capitals text)) word e in
    omega (arith, cut, length-take (length word) (capitals text), length-map text to_ascii_uppercase)

some_word : (e : ErrorKind) → 0 < length (error_word e)
some_word errors.Null = omega arith
some_word errors.Div0 = omega arith
some_word errors.Value = omega arith
some_word errors.Ref = omega arith
some_word errors.Name = omega arith
some_word errors.Num = omega arith
some_word errors.Na = omega arith

abbrev error_token : Option ErrorKind → Option (Token × ℕ)
error_token o = option_map (λ e. (tokens.Error e, length (error_word e))) o

error_fits : (text : List ℕ) (kinds : List ErrorKind) → IsFitting text (error_token (find (λ e. begins_with (error_word e) text) kinds))
error_fits text [] = tt
error_fits text (e ∷ es) = step (begins_with (error_word e) text) (find (λ e. begins_with (error_word e) text) es) (λ h. begins_long (error_word e) text h) (error_fits text es)
  where
    step : (b : Bool) (o : Option ErrorKind) → (b ≡ true → length (error_word e) ≤ length text) → IsFitting text (error_token o) → IsFitting text (error_token (cond b (Some e) o))
    step true o l h = (some_word e, l refl)
    step false o l h = h

-- a byte that passes a test stands in the text
pub passes_within : (test : ℕ → Bool) (text : List ℕ) (place : ℕ) → passes_at test text place ≡ true → place < length text
passes_within test text place e = ltb-true place (length text) (both_true (nat_lt place (length text)) (test (slice_index text place)) e).0

abbrev IsFittingReference : List ℕ → Option (RefText × ℕ) → Type 0
IsFittingReference text None = Unit {0}
IsFittingReference text (Some found) = (0 < found.1) × (found.1 ≤ length text)

reference_fits : (text : List ℕ) → IsFittingReference text (reference_at text)
reference_fits text = by_read (reference_at text) refl
  where
    by_read : (o : Option (RefText × ℕ)) → reference_at text ≡ o → IsFittingReference text o
    by_read None e = tt
    by_read (Some found) e = let s = stands_from_read text found.0 found.1 e in (stands_long text found.0 found.1 s, s.within)

area_fits : (text : List ℕ) (first : RefText) (len : ℕ) (o : Option (RefText × ℕ)) → len < length text → IsFittingReference (drop (len + 1) text) o → IsFitting text (area_behind text first len o)
area_fits text first len None l h = tt
area_fits text first len (Some second) l h =
    either text (is_none second.0.sheet && not (passes_at is_word_byte text (len + 1 + second.1))) (Some (tokens.Area first second.0, len + 1 + second.1)) None (λ _. (omega arith, omega (arith, length-drop (len + 1) text))) (λ _. tt)

found_fits : (text : List ℕ) (o : Option (RefText × ℕ)) → IsFittingReference text o → IsFitting text (reference_found text o)
found_fits text None h = tt
found_fits text (Some found) h =
    either text (passes_at (λ b. b == 58) text found.1) _ _
    (λ e. area_fits text found.0 found.1 (reference_at (drop (found.1 + 1) text)) (passes_within (λ b. b == 58) text found.1 e) (reference_fits (drop (found.1 + 1) text)))
    (λ _. either text (passes_at is_word_byte text found.1) None (Some (tokens.Reference found.0, found.1)) (λ _. tt) (λ _. h))

upper_long : (text word upper : List ℕ) → length word ≤ length text → bytes_eq (capitals word) upper ≡ true → length upper ≤ length text
upper_long text word upper l e = omega (arith, same_length (capitals word) upper e, length-map word to_ascii_uppercase)

word_fits : (text word : List ℕ) → length word ≤ length text → IsFitting text (word_found text word)
word_fits text word l =
    either text (passes_at (λ b. b == 40) text (length word) && is_name word) _ _
    (λ e. let within : length word < length text = passes_within (λ b. b == 40) text (length word) (both_true _ _ e).0 in (omega arith, omega arith))
    (λ _. either text (bytes_eq (capitals word) (codes "TRUE")) _ _
    (λ e. (omega arith, upper_long text word (codes "TRUE") l e))
    (λ _. either text (bytes_eq (capitals word) (codes "FALSE")) _ _
    (λ e. (omega arith, upper_long text word (codes "FALSE") l e))
    (λ _. found_fits text (reference_at text) (reference_fits text))))

abbrev operator_token : Option Operator → Option (Token × ℕ)
operator_token o = option_map (λ op. (tokens.Operator op, operator_len op)) o

-- a choice between operators
either_operator : (text : List ℕ) (b : Bool) (x y : Option Operator) → (b ≡ true → IsFitting text (operator_token x)) → (b ≡ false → IsFitting text (operator_token y)) → IsFitting text (operator_token (cond b x y))
either_operator text true x y f g = f refl
either_operator text false x y f g = g refl

either_of : (text : List ℕ) (b : Bool) (x y : Operator) → (b ≡ true → IsFitting text (operator_token (Some x))) → (b ≡ false → IsFitting text (operator_token (Some y))) → IsFitting text (operator_token (Some (cond b x y)))
either_of text true x y f g = f refl
either_of text false x y f g = g refl

less_fits : (b : ℕ) (rest : List ℕ) → IsFitting (b ∷ rest) (operator_token (Some (less_at rest)))
less_fits b rest =
    either_of (b ∷ rest) (passes_at (λ b. b == 61) rest 0) _ _
    (λ e. (omega arith, omega (arith, passes_within (λ b. b == 61) rest 0 e)))
    (λ _. either_of (b ∷ rest) (passes_at (λ b. b == 62) rest 0) _ _ (λ e. (omega arith, omega (arith, passes_within (λ b. b == 62) rest 0 e))) (λ _. (omega arith, omega arith)))

greater_fits : (b : ℕ) (rest : List ℕ) → IsFitting (b ∷ rest) (operator_token (Some (greater_at rest)))
greater_fits b rest =
    either_of (b ∷ rest) (passes_at (λ b. b == 61) rest 0) _ _ (λ e. (omega arith, omega (arith, passes_within (λ b. b == 61) rest 0 e))) (λ _. (omega arith, omega arith))

operator_fits : (b : ℕ) (rest : List ℕ) → IsFitting (b ∷ rest) (operator_token (operator_at b rest))
operator_fits b rest =
    either_operator (b ∷ rest) (b == 61) _ _ (λ _. (omega arith, omega arith))
    (λ _. either_operator (b ∷ rest) (b == 60) _ _ (λ _. less_fits b rest)
    (λ _. either_operator (b ∷ rest) (b == 62) _ _ (λ _. greater_fits b rest)
    (λ _. either_operator (b ∷ rest) (b == 38) _ _ (λ _. (omega arith, omega arith))
    (λ _. either_operator (b ∷ rest) (b == 43) _ _ (λ _. (omega arith, omega arith))
    (λ _. either_operator (b ∷ rest) (b == 45) _ _ (λ _. (omega arith, omega arith))
    (λ _. either_operator (b ∷ rest) (b == 42) _ _ (λ _. (omega arith, omega arith))
    (λ _. either_operator (b ∷ rest) (b == 47) _ _ (λ _. (omega arith, omega arith)) (λ _. tt))))))))

mark_fits : (b : ℕ) (rest : List ℕ) → IsFitting (b ∷ rest) (mark_at b rest)
mark_fits b rest =
    either (b ∷ rest) (b == 40) _ _ (λ _. (omega arith, omega arith))
    (λ _. either (b ∷ rest) (b == 41) _ _ (λ _. (omega arith, omega arith))
    (λ _. either (b ∷ rest) (b == 44) _ _ (λ _. (omega arith, omega arith)) (λ _. operator_fits b rest)))

token_fits : (text : List ℕ) → IsFitting text (token_at text)
unfolding token_at
token_fits [] = tt
token_fits (b ∷ rest) =
    either (b ∷ rest) (is_ascii_digit b) _ _ (λ d. number_fits b rest d)
    (λ _. either (b ∷ rest) (b == 34) _ _ (λ _. text_fits b rest)
    (λ _. either (b ∷ rest) (b == 35) _ _ (λ _. error_fits (b ∷ rest) all_errors)
    (λ _. either (b ∷ rest) (is_ascii_alphabetic b || b == 36) _ _ (λ _. word_fits (b ∷ rest) (take_while is_name_byte (b ∷ rest)) (omega (arith, length-prefix_len is_name_byte (b ∷ rest), prefix_len-le-length is_name_byte (b ∷ rest)))) (λ _. mark_fits b rest))))

-- a token is longer than nothing, and no longer than the text
pub token_within : (text : List ℕ) (token : Token) (len : ℕ) → token_at text ≡ Some (token, len) → (0 < len) × (len ≤ length text)
token_within text token len e = subst (IsFitting text) e (token_fits text)
