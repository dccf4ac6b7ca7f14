-- How much of a text some operand begins with.
use Rattle.std.proofs.Common.{◌≡◌, ℕ, ◌+◌, ◌<◌, ◌≤◌, suc, max, Bool, true, false, eqb, List, [], ◌∷◌, ◌++◌, length, take, None, refl, sym, ap, subst, ◌∙◌, arith, ◌⊎◌, inl, inr, ⊎_elim}
use Rattle.std.proofs.lemmas.Bool.{cond-true, cond-false, and_parts, or_left, cases_lt}
use Rattle.std.proofs.lemmas.Bool.Decides.{nat_tests}
use Rattle.std.proofs.lemmas.Option.{none-some}
use Rattle.std.specs.Char.{is_ascii_digit, is_ascii_alphabetic, is_ascii_control, is_ascii_uppercase, to_ascii_uppercase}
use Rattle.std.specs.List.{list_all, position_or_len}
use Rattle.cell_refs.specs.declared.references.RefText.{RefText}
use Rattle.cell_refs.specs.Written.{capitals, reference_at}
use Rattle.cell_values.specs.declared.errors.ErrorKind.{ErrorKind}
use Rattle.cell_values.specs.Name.{is_name}
use Rattle.formula_parse.specs.declared.callees.Callee.{Callee}
use Rattle.formula_parse.specs.Callees.{callee_named}
use Rattle.formula_parse.specs.declared.tokens.Token.{Token}
use Rattle.formula_parse.specs.declared.tokens.Token.TheVariants as tokens
use Rattle.formula_parse.specs.Lexing.{token_at, begun_len, error_begun, word_begun, name_begun, reference_begun, corner_begun}
use Rattle.formula_parse.specs.Tokens.{Writes, boolean_word}
use Rattle.formula_parse.proofs.Machine.{is_operand}
use Rattle.formula_parse.proofs.LexFacts.LexFirst.{by_first, IsMark, begins_word, word_is, at_quote}
use Rattle.formula_parse.proofs.LexFacts.LexNumbers.{number_begins, numeral_first}
use Rattle.formula_parse.proofs.LexFacts.LexErrors.{error_begins}
use Rattle.formula_parse.proofs.LexFacts.LexReferences.{piece_refers, reference_begins}
use Rattle.formula_parse.proofs.LexFacts.LexTextFronts.{clean_within, text_goes_on, text_most}
use Rattle.formula_parse.proofs.LexFacts.LexErrorFronts.{error_begun_within, error_goes_on, error_most}
use Rattle.formula_parse.proofs.LexFacts.LexNameFronts.{name_within, name_goes_on, boolean_most, call_most}
use Rattle.formula_parse.proofs.LexFacts.LexSheetFronts.{reference_within, reference_goes_on}
use Rattle.formula_parse.proofs.LexFacts.LexReferenceFronts.{reference_most}
use Rattle.formula_parse.proofs.LexFacts.LexAreaFronts.{Begun, corner_within, area_goes_on, area_most}

-- ---- by the first byte
-- a `"` begins a text
begun_quote : (rest : List ℕ) → begun_len (34 ∷ rest) ≡ position_or_len is_ascii_control rest + 1
unfolding begun_len
begun_quote rest = refl

-- a `#` begins an error value
begun_hash : (rest : List ℕ) → begun_len (35 ∷ rest) ≡ error_begun (35 ∷ rest)
unfolding begun_len
begun_hash rest = refl

-- a letter or a `$` begins a word
begun_word : (b : ℕ) (rest : List ℕ) → begins_word b ≡ true → begun_len (b ∷ rest) ≡ word_begun (b ∷ rest)
unfolding begun_len
begun_word b rest w = let p = word_is b w in cond-false _ _ _ p.1 ∙ (cond-false _ _ _ p.2 ∙ cond-true _ _ _ w)

-- a mark begins nothing that isn't whole
begun_mark : (b : ℕ) (rest : List ℕ) → IsMark b → begun_len (b ∷ rest) ≡ 0
unfolding begun_len
begun_mark b rest m = cond-false _ _ _ m.no_quote ∙ (cond-false _ _ _ m.no_hash ∙ cond-false _ _ _ m.no_word)

-- a digit begins nothing else than a number
digit_is : (b : ℕ) → is_ascii_digit b ≡ true → (eqb b 34 ≡ false) × (eqb b 35 ≡ false) × (begins_word b ≡ false)
digit_is b d = (grind (arith, nat_tests), grind (arith, nat_tests), grind (arith, nat_tests))

-- a digit begins nothing that isn't whole
begun_digit : (b : ℕ) (rest : List ℕ) → is_ascii_digit b ≡ true → begun_len (b ∷ rest) ≡ 0
unfolding begun_len
begun_digit b rest d = let p = digit_is b d in cond-false _ _ _ p.0 ∙ (cond-false _ _ _ p.1 ∙ cond-false _ _ _ p.2)

-- nothing begins in no text
begun_none : begun_len [] ≡ 0
unfolding begun_len
begun_none = refl

-- ---- within the text
-- what begins a word is no more than the text
word_within : (text : List ℕ) → word_begun text ≤ length text
word_within text =
    let a = name_within text in
    let b = reference_within text in
    let c = corner_within text (reference_at text) in
    omega arith

-- what begins an operand is no more than the text
pub begun_within : (text : List ℕ) → begun_len text ≤ length text
begun_within [] = omega (arith, begun_none)
begun_within (b ∷ rest) =
    by_first b
    (λ d. omega (arith, begun_digit b rest d))
    (λ q. subst (λ c. begun_len (c ∷ rest) ≤ length (c ∷ rest)) (sym q) (omega (arith, begun_quote rest, clean_within rest)))
    (λ q. subst (λ c. begun_len (c ∷ rest) ≤ length (c ∷ rest)) (sym q) (omega (arith, begun_hash rest, error_begun_within (35 ∷ rest))))
    (λ w. omega (arith, begun_word b rest w, word_within (b ∷ rest)))
    (λ m. omega (arith, begun_mark b rest m))

-- ---- what has begun goes on
-- so many bytes of a text go on to an operand
abbrev pub GoesOn : List ℕ → ℕ → Type 0
GoesOn text n = (more : List ℕ) × (token : Token) × (is_operand token ≡ true) × Writes (take n text ++ more) token

-- the front of a text goes on to a text
quote_goes_on : (rest : List ℕ) → token_at (34 ∷ rest) ≡ None → GoesOn (34 ∷ rest) (begun_len (34 ∷ rest))
quote_goes_on rest none =
    let p = text_goes_on rest (sym (at_quote rest) ∙ none) in
    subst (λ n. GoesOn (34 ∷ rest) n) (sym (begun_quote rest)) (34 ∷ [], tokens.Text p.0, refl, p.1)

-- the front of an error word goes on to an error value
hash_goes_on : (rest : List ℕ) → GoesOn (35 ∷ rest) (begun_len (35 ∷ rest))
hash_goes_on rest =
    let p = error_goes_on (35 ∷ rest) in
    subst (λ n. GoesOn (35 ∷ rest) n) (sym (begun_hash rest)) (p.0, tokens.Error p.1, refl, p.2)

-- the greatest of three numbers is one of them
greatest_of : (a b c : ℕ) → (max a (max b c) ≡ a) ⊎ ((max a (max b c) ≡ b) ⊎ (max a (max b c) ≡ c))
greatest_of a b c = ⊎_elim
    (λ l. ⊎_elim (λ k. inr (inr (omega arith))) (λ k. inr (inl (omega arith))) (cases_lt b c))
    (λ l. inl (omega arith))
    (cases_lt a (max b c))

-- the front of a word goes on to a call, a reference or an area
word_goes_on : (text : List ℕ) → 0 < word_begun text → GoesOn text (word_begun text)
word_goes_on text some = ⊎_elim
    (λ e. subst (λ n. GoesOn text n) (sym e) (40 ∷ [], tokens.Call (callee_named (capitals (take (name_begun text) text))), refl, name_goes_on text (omega arith)))
    (λ other. ⊎_elim
    (λ e. let p = reference_goes_on text in subst (λ n. GoesOn text n) (sym e) (p.0, tokens.Reference p.1, refl, p.2))
    (λ e. let p = area_goes_on text (reference_at text) refl (omega arith) in subst (λ n. GoesOn text n) (sym e) (p.0, tokens.Area p.1 p.2, refl, p.3))
    other)
    (greatest_of (name_begun text) (reference_begun text) (corner_begun text (reference_at text)))

-- what has begun goes on to an operand, where no token stands whole
pub goes_on_to_operand : (text : List ℕ) → token_at text ≡ None → 0 < begun_len text → GoesOn text (begun_len text)
goes_on_to_operand [] none some = absurd (omega (arith, begun_none))
goes_on_to_operand (b ∷ rest) none some =
    by_first b
    (λ d. absurd (omega (arith, begun_digit b rest d)))
    (λ q. subst (λ c. token_at (c ∷ rest) ≡ None → GoesOn (c ∷ rest) (begun_len (c ∷ rest))) (sym q) (quote_goes_on rest) none)
    (λ q. subst (λ c. GoesOn (c ∷ rest) (begun_len (c ∷ rest))) (sym q) (hash_goes_on rest))
    (λ w. let e = begun_word b rest w in subst (λ n. GoesOn (b ∷ rest) n) (sym e) (word_goes_on (b ∷ rest) (omega arith)))
    (λ m. absurd (omega (arith, begun_mark b rest m)))

-- ---- no longer front goes on
-- what is a letter in upper case begins a word
upper_word : (b : ℕ) → is_ascii_uppercase (to_ascii_uppercase b) ≡ true → begins_word b ≡ true
upper_word b h = grind (arith, nat_tests)

-- the word of a boolean is in upper case
boolean_upper : (v : Bool) → list_all is_ascii_uppercase (boolean_word v) ≡ true
boolean_upper true = refl
boolean_upper false = refl

-- a name begins with a letter
first_letter : (b : ℕ) (bs written more : List ℕ) → b ∷ bs ≡ written ++ more → is_name written ≡ true → begins_word b ≡ true
first_letter b bs [] more e h = absurd (cc)
first_letter b bs (c ∷ cs) more e h =
    let same : c ≡ b = cc in
    ap begins_word (sym same) ∙ or_left _ _ (and_parts (is_ascii_alphabetic c) _ h).0

-- a boolean begins a word
pub boolean_first : (v : Bool) (b : ℕ) (bs : List ℕ) → Writes (b ∷ bs) (tokens.Boolean v) → begins_word b ≡ true
boolean_first v b bs w = upper_word b (and_parts (is_ascii_uppercase (to_ascii_uppercase b)) _ (ap (list_all is_ascii_uppercase) w ∙ boolean_upper v)).0

-- a reference begins a word
pub reference_first : (r : RefText) (b : ℕ) (bs : List ℕ) → Writes (b ∷ bs) (tokens.Reference r) → begins_word b ≡ true
reference_first r b bs w =
    let p = piece_refers (b ∷ bs) r w in
    let f = reference_begins (b ∷ bs) r p.0 p.1 in
    let same : b ≡ f.0 = cc (f.2) in
    ap begins_word same ∙ f.3

-- an area begins a word
pub area_first : (r s : RefText) (b : ℕ) (bs : List ℕ) → Writes (b ∷ bs) (tokens.Area r s) → begins_word b ≡ true
area_first r s b bs w =
    let p = piece_refers w.0 r w.3 in
    let f = reference_begins w.0 r p.0 p.1 in
    let whole : b ∷ bs ≡ f.0 ∷ (f.1 ++ 58 ∷ w.1) = w.2 ∙ ap (λ x. x ++ 58 ∷ w.1) f.2 in
    let same : b ≡ f.0 = cc (whole) in
    ap begins_word same ∙ f.3

-- a call begins a word
pub call_first : (callee : Callee) (b : ℕ) (bs : List ℕ) → Writes (b ∷ bs) (tokens.Call callee) → begins_word b ≡ true
call_first callee b bs w = first_letter b bs w.0 (40 ∷ []) w.1 w.2

-- the first byte of a written text
pub text_first : (t : List ℕ) (b : ℕ) (bs : List ℕ) → Writes (b ∷ bs) (tokens.Text t) → b ≡ 34
text_first t b bs w = let e = w.0 in cc

-- no text goes on with more than has begun
quote_most : (b : ℕ) (rest more t : List ℕ) (k : ℕ) → b ≡ 34 → suc k ≤ length (b ∷ rest) → Writes (b ∷ (take k rest ++ more)) (tokens.Text t) → suc k ≤ begun_len (b ∷ rest)
quote_most b rest more t k q inside w =
    subst (λ c. Writes (c ∷ (take k rest ++ more)) (tokens.Text t) → suc k ≤ begun_len (c ∷ rest)) (sym q)
    (λ w. let h = text_most rest more t k (omega arith) w in omega (arith, begun_quote rest)) w

-- no error value goes on with more than has begun
hash_most : (b : ℕ) (rest more : List ℕ) (e : ErrorKind) (k : ℕ) → b ≡ 35 → suc k ≤ length (b ∷ rest) → Writes (b ∷ (take k rest ++ more)) (tokens.Error e) → suc k ≤ begun_len (b ∷ rest)
hash_most b rest more e k q inside w =
    subst (λ c. Writes (c ∷ (take k rest ++ more)) (tokens.Error e) → suc k ≤ begun_len (c ∷ rest)) (sym q)
    (λ w. let h = error_most (35 ∷ rest) more e (suc k) (omega arith) w in omega (arith, begun_hash rest)) w

-- what begins a name, a reference or an area begins a word
word_most : (text : List ℕ) (m : ℕ) → Begun text m → m ≤ word_begun text
word_most text m h = ⊎_elim (λ other. ⊎_elim (λ l. omega arith) (λ l. omega arith) other) (λ l. omega arith) h

-- no word goes on with more than has begun
word_stops : (b : ℕ) (rest : List ℕ) (m : ℕ) → begins_word b ≡ true → Begun (b ∷ rest) m → m ≤ begun_len (b ∷ rest)
word_stops b rest m w h = let l = word_most (b ∷ rest) m h in omega (arith, begun_word b rest w)

-- where no token stands whole, no operand goes on with more than has begun
pub operand_most : (b : ℕ) (rest more : List ℕ) (token : Token) (k : ℕ) → is_operand token ≡ true → token_at (b ∷ rest) ≡ None → suc k ≤ length (b ∷ rest) → Writes (b ∷ (take k rest ++ more)) token → suc k ≤ begun_len (b ∷ rest)
operand_most b rest more (tokens.Number n) k o none inside w =
    absurd (none-some {A = Token × ℕ} _ (sym none ∙ number_begins b rest (numeral_first b (take k rest ++ more) w.0)))
operand_most b rest more (tokens.Text t) k o none inside w = quote_most b rest more t k (text_first t b (take k rest ++ more) w) inside w
operand_most b rest more (tokens.Error e) k o none inside w = hash_most b rest more e k (error_begins b (take k rest ++ more) e w) inside w
operand_most b rest more (tokens.Boolean v) k o none inside w =
    word_stops b rest (suc k) (boolean_first v b (take k rest ++ more) w) (inl (inl (boolean_most b rest more v k inside w)))
operand_most b rest more (tokens.Reference r) k o none inside w =
    let p = piece_refers (b ∷ (take k rest ++ more)) r w in
    word_stops b rest (suc k) (reference_first r b (take k rest ++ more) w) (inl (reference_most (b ∷ rest) more r (suc k) inside p.0 p.1))
operand_most b rest more (tokens.Area r s) k o none inside w =
    word_stops b rest (suc k) (area_first r s b (take k rest ++ more) w) (area_most (b ∷ rest) more r s (suc k) inside w)
operand_most b rest more (tokens.Call callee) k o none inside w =
    word_stops b rest (suc k) (call_first callee b (take k rest ++ more) w) (inl (inl (call_most b rest more callee k none inside w)))
operand_most b rest more tokens.Open k o none inside w = absurd (cc)
operand_most b rest more tokens.Close k o none inside w = absurd (cc)
operand_most b rest more tokens.Comma k o none inside w = absurd (cc)
operand_most b rest more (tokens.Operator op) k o none inside w = absurd (cc)
