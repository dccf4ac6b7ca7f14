-- Calls, booleans, references and areas at the front of a text, as they are written.
use Rattle.std.proofs.Common.{◌≡◌, ℕ, ◌+◌, ◌<◌, ◌≤◌, Bool, true, false, not, cond, ◌&&◌, eqb, List, [], ◌∷◌, ◌++◌, length, drop, take_while, Option, Some, None, is_none, codes, refl, sym, ap, subst, ◌∙◌, arith, ⊎_elim}
use Rattle.std.proofs.lemmas.Bool.{cases_Bool, cond-true, cond-false, and_parts, and_from, and_left, and_right, or_parts, or_left, not_from_false, false_from_ne_true, lt-leb}
use Rattle.std.proofs.lemmas.Bool.Decides.{nat_tests}
use Rattle.std.proofs.lemmas.List.{length-append, length-map, append_assoc, map-append}
use Rattle.std.proofs.lemmas.List.Sums.{take_while-cons}
use Rattle.std.proofs.lemmas.Slice.Eq.{bytes_eq-Decides}
use Rattle.std.specs.Char.{is_ascii_digit, is_ascii_alphabetic, is_ascii_uppercase, to_ascii_uppercase}
use Rattle.std.specs.List.{list_all}
use Rattle.std.specs.Str.{bytes_eq}
use Rattle.cell_refs.specs.declared.references.RefText.{RefText}
use Rattle.cell_refs.specs.Reading.{reference_in, sheet_at, mark_at, column_at}
use Rattle.cell_refs.specs.RefText.{IsReference}
use Rattle.cell_refs.specs.Written.{capitals, reference_at}
use Rattle.cell_refs.proofs.PublicLaws.{reference_capitals, nothing_read, take_while-append, front_and_rest}
use Rattle.cell_values.specs.Name.{is_name, is_name_byte}
use Rattle.formula_parse.specs.Callees.{callee_named}
use Rattle.formula_parse.specs.declared.tokens.Token.{Token}
use Rattle.formula_parse.specs.declared.tokens.Token.TheVariants as tokens
use Rattle.formula_parse.specs.Lexing.{token_at, word_at, word_found, reference_found, area_behind, passes_at}
use Rattle.formula_parse.specs.Tokens.{is_word_byte, boolean_word}
use Rattle.formula_parse.proofs.LexFacts.LexFirst.{first_passes, passes_first, passes_seam, at_word, begins_word}
use Rattle.formula_parse.proofs.LexFacts.LexReferences.{reference_joined, reference_begins, reference_no_open}
use Rattle.formula_parse.proofs.LexFacts.LexWords.{passes_split, first_parts, behind_colon, two_corners}

-- a letter begins a word, and can stand in a name
letter_begins : (b : ℕ) → is_ascii_alphabetic b ≡ true → (begins_word b ≡ true) × (is_name_byte b ≡ true)
letter_begins b l = (or_left _ _ l, grind (arith, nat_tests))

-- the word at the front of a text, where it is known
word_there : (b : ℕ) (bs rest : List ℕ) → is_ascii_alphabetic b ≡ true → list_all is_name_byte (b ∷ bs) ≡ true → first_passes is_name_byte rest ≡ false → token_at (b ∷ bs ++ rest) ≡ word_found (b ∷ bs ++ rest) (b ∷ bs)
word_there b bs rest l all ends =
    at_word b (bs ++ rest) (letter_begins b l).0
    ∙ ap (word_found (b ∷ bs ++ rest)) (take_while-append is_name_byte (b ∷ bs) rest refl all (passes_first is_name_byte rest refl ∙ ends))

-- a name and a `(` are found
name_there : (written rest : List ℕ) → is_name written ≡ true → token_at (written ++ 40 ∷ rest) ≡ Some (tokens.Call (callee_named (capitals written)), length written + 1)
name_there [] rest h = absurd (cc)
name_there (b ∷ bs) rest h =
    let p = and_parts (is_ascii_alphabetic b) _ h in
    let q = and_parts (list_all is_name_byte bs) _ p.1 in
    word_there b bs (40 ∷ rest) p.0 (and_from _ _ (letter_begins b p.0).1 q.0) refl
    ∙ cond-true _ _ _ (and_from _ _ (passes_seam (λ b. eqb b 40) (b ∷ bs) (40 ∷ rest)) h)

-- the call that is written is found
pub call_written : (written rest : List ℕ) → is_name written ≡ true → token_at ((written ++ 40 ∷ []) ++ rest) ≡ Some (tokens.Call (callee_named (capitals written)), length (written ++ 40 ∷ []))
call_written written rest h =
    let count : length written + 1 ≡ length (written ++ 40 ∷ []) = omega (arith, length-append written (40 ∷ [])) in
    ap token_at (append_assoc written (40 ∷ []) rest) ∙ (name_there written rest h ∙ ap (λ n. Some (tokens.Call (callee_named (capitals written)), n)) count)

-- ---- booleans
-- what is a capital letter in upper case is a letter, and can stand in a name
upper_letter : (b : ℕ) → is_ascii_uppercase (to_ascii_uppercase b) ≡ true → (is_ascii_alphabetic b ≡ true) × (is_name_byte b ≡ true)
upper_letter b h = (grind (arith, nat_tests), grind (arith, nat_tests))

-- letters can stand in a name
pub letters_name : (word : List ℕ) → list_all is_ascii_uppercase (capitals word) ≡ true → list_all is_name_byte word ≡ true
letters_name [] h = refl
letters_name (b ∷ bs) h = let p = and_parts (is_ascii_uppercase (to_ascii_uppercase b)) _ h in and_from _ _ (upper_letter b p.0).1 (letters_name bs p.1)

-- letters are the word at the front where no name goes on with them
letters_there : (word rest : List ℕ) → list_all is_ascii_uppercase (capitals word) ≡ true → 0 < length word → first_passes is_name_byte rest ≡ false → token_at (word ++ rest) ≡ word_found (word ++ rest) word
letters_there [] rest h some ends = absurd (omega arith)
letters_there (b ∷ bs) rest h some ends = word_there b bs rest (upper_letter b (and_parts (is_ascii_uppercase (to_ascii_uppercase b)) _ h).0).0 (letters_name (b ∷ bs) h) ends

-- what a word comes to that is no call
spelled_word : List ℕ → List ℕ → Option (Token × ℕ)
spelled_word text upper = cond (bytes_eq upper (codes "TRUE")) (Some (tokens.Boolean true, 4)) (cond (bytes_eq upper (codes "FALSE")) (Some (tokens.Boolean false, 5)) (reference_found text (reference_at text)))

-- a word that is no call
no_call_there : (text word : List ℕ) → (passes_at (λ b. eqb b 40) text (length word) && is_name word) ≡ false → word_found text word ≡ spelled_word text (capitals word)
unfolding spelled_word
no_call_there text word h = cond-false _ _ _ h

-- the word of a boolean is found
boolean_there : (text : List ℕ) (v : Bool) → spelled_word text (boolean_word v) ≡ Some (tokens.Boolean v, length (boolean_word v))
unfolding spelled_word
boolean_there text true = refl
boolean_there text false = refl

-- the word of a boolean is letters
boolean_letters : (v : Bool) → (list_all is_ascii_uppercase (boolean_word v) ≡ true) × (0 < length (boolean_word v))
boolean_letters true = (refl, omega arith)
boolean_letters false = (refl, omega arith)

-- the boolean that is written is found
pub boolean_written : (piece rest : List ℕ) (v : Bool) → capitals piece ≡ boolean_word v → first_passes is_word_byte rest ≡ false → token_at (piece ++ rest) ≡ Some (tokens.Boolean v, length piece)
boolean_written piece rest v e stops =
    let p = first_parts is_name_byte (λ b. eqb b 40) rest stops in
    let l = boolean_letters v in
    let count : length (boolean_word v) ≡ length piece = sym (ap length e) ∙ length-map piece to_ascii_uppercase in
    letters_there piece rest (ap (list_all is_ascii_uppercase) e ∙ l.0) (omega (arith, l.1, count)) p.0
    ∙ (no_call_there (piece ++ rest) piece (and_left _ _ (passes_seam (λ b. eqb b 40) piece rest ∙ p.1))
    ∙ (ap (spelled_word (piece ++ rest)) e ∙ (boolean_there (piece ++ rest) v ∙ ap (λ n. Some (tokens.Boolean v, n)) count)))

-- ---- no reference begins with the word of a boolean
-- a front that passes is no longer than the longest
pub front_short : (p : ℕ → Bool) (front x : List ℕ) → list_all p front ≡ true → length front ≤ length (take_while p (front ++ x))
front_short p [] x all = omega arith
front_short p (c ∷ cs) x all =
    let h = and_parts (p c) (list_all p cs) all in
    let more = front_short p cs x h.1 in
    let e = ap length (take_while-cons p c (cs ++ x) ∙ cond-true (p c) _ _ h.0) in
    omega arith

-- `TRUE` begins with four letters
four_true : (x : List ℕ) → 4 ≤ length (take_while is_ascii_uppercase (codes "TRUE" ++ x))
four_true x = front_short is_ascii_uppercase (codes "TRUE") x refl

-- so does `FALSE`
four_false : (x : List ℕ) → 4 ≤ length (take_while is_ascii_uppercase (codes "FALSE" ++ x))
four_false x = let h = front_short is_ascii_uppercase (codes "FALSE") x refl in omega arith

-- four letters are no column
pub column_none : (text : List ℕ) → 4 ≤ length (take_while is_ascii_uppercase text) → column_at text ≡ None
unfolding column_at
column_none text many = cond-false _ _ _ (and_left _ _ (and_right _ _ (lt-leb (length (take_while is_ascii_uppercase text)) 3 (omega arith))))

-- `TRUE` begins no reference
no_true : (x : List ℕ) → reference_in (codes "TRUE" ++ x) ≡ None
unfolding reference_in sheet_at mark_at
no_true x = rw (column_none (codes "TRUE" ++ x) (four_true x)) refl

-- nor does `FALSE`
no_false : (x : List ℕ) → reference_in (codes "FALSE" ++ x) ≡ None
unfolding reference_in sheet_at mark_at
no_false x = rw (column_none (codes "FALSE" ++ x) (four_false x)) refl

-- nor does any boolean
no_boolean : (v : Bool) (x : List ℕ) → reference_in (boolean_word v ++ x) ≡ None
no_boolean true x = no_true x
no_boolean false x = no_false x

-- where a reference is read, the word is no boolean
no_boolean_reference : (text word after : List ℕ) (v : Bool) (found : RefText × ℕ) → text ≡ word ++ after → reference_at text ≡ Some found → capitals word ≡ boolean_word v → ⊥
no_boolean_reference text word after v found whole read e =
    let upper : capitals text ≡ boolean_word v ++ capitals after = ap capitals whole ∙ (map-append to_ascii_uppercase word after ∙ ap (λ x. x ++ capitals after) e) in
    let none : reference_at text ≡ None = nothing_read text (ap reference_in upper ∙ no_boolean v (capitals after)) in
    let both : Some found ≡ None = sym read ∙ none in
    cc

-- ---- references and areas
-- what follows a front that begins with a byte that passes
span_yes : (p : ℕ → Bool) (x : ℕ) (xs : List ℕ) → p x ≡ true → drop (length (take_while p (x ∷ xs))) (x ∷ xs) ≡ drop (length (take_while p xs)) xs
span_yes p x xs h = ap (λ t. drop (length t) (x ∷ xs)) (take_while-cons p x xs ∙ cond-true (p x) _ _ h)

-- what follows no front
span_no : (p : ℕ → Bool) (x : ℕ) (xs : List ℕ) → p x ≡ false → drop (length (take_while p (x ∷ xs))) (x ∷ xs) ≡ x ∷ xs
span_no p x xs h = ap (λ t. drop (length t) (x ∷ xs)) (take_while-cons p x xs ∙ cond-false (p x) _ _ h)

-- what isn't so is false
not_open : (b : Bool) → not b ≡ true → b ≡ false
not_open true h = absurd (cc)
not_open false h = refl

-- no `(` stands behind the letters, digits, `.` and `_` of a text without one
no_open_behind : (piece rest : List ℕ) → list_all (λ b. not (eqb b 40)) piece ≡ true → first_passes is_word_byte rest ≡ false → first_passes (λ b. eqb b 40) (drop (length (take_while is_name_byte (piece ++ rest))) (piece ++ rest)) ≡ false
no_open_behind [] [] h stops = refl
no_open_behind [] (c ∷ cs) h stops =
    let p = or_parts (is_name_byte c) (eqb c 40) stops in
    ap (first_passes (λ b. eqb b 40)) (span_no is_name_byte c cs p.0) ∙ p.1
no_open_behind (b ∷ bs) rest h stops =
    let p = and_parts (not (eqb b 40)) _ h in
    ⊎_elim
    (λ y. ap (first_passes (λ b. eqb b 40)) (span_yes is_name_byte b (bs ++ rest) y) ∙ no_open_behind bs rest p.1 stops)
    (λ n. ap (first_passes (λ b. eqb b 40)) (span_no is_name_byte b (bs ++ rest) n) ∙ not_open (eqb b 40) p.0)
    (cases_Bool (is_name_byte b))

-- what goes on with no name is no digit
word_no_digit : (rest : List ℕ) → first_passes is_word_byte rest ≡ false → first_passes is_ascii_digit rest ≡ false
word_no_digit [] h = refl
word_no_digit (c ∷ cs) h = no_digit c h
  where
    no_digit : (c : ℕ) → is_word_byte c ≡ false → is_ascii_digit c ≡ false
    no_digit c h = grind (arith, nat_tests)

-- where a reference is read, it is what the word comes to
no_boolean_there : (text word after : List ℕ) (found : RefText × ℕ) → text ≡ word ++ after → reference_at text ≡ Some found → spelled_word text (capitals word) ≡ reference_found text (reference_at text)
unfolding spelled_word
no_boolean_there text word after found whole read =
    cond-false _ _ _ (false_from_ne_true _ (λ e. no_boolean_reference text word after true found whole read ((bytes_eq-Decides (capitals word) (codes "TRUE")).0 e)))
    ∙ cond-false _ _ _ (false_from_ne_true _ (λ e. no_boolean_reference text word after false found whole read ((bytes_eq-Decides (capitals word) (codes "FALSE")).0 e)))

-- a text that begins with a reference, before something that no name goes on with
pub reference_there : (piece rest : List ℕ) (r : RefText) → capitals piece ≡ reference_capitals r → IsReference r → first_passes is_word_byte rest ≡ false → token_at (piece ++ rest) ≡ reference_found (piece ++ rest) (Some (r, length piece))
reference_there piece rest r e inside stops =
    let text = piece ++ rest in
    let word = take_while is_name_byte text in
    let f = reference_begins piece r e inside in
    let at : token_at text ≡ word_at text = subst (λ x. token_at (x ++ rest) ≡ word_at (x ++ rest)) (sym f.2) (at_word f.0 (f.1 ++ rest) f.3) in
    let behind : passes_at (λ b. eqb b 40) text (length word) ≡ false = passes_split (λ b. eqb b 40) text word (drop (length word) text) (length word) (front_and_rest is_name_byte text) refl ∙ no_open_behind piece rest (reference_no_open piece r e inside) stops in
    let read = reference_joined piece rest r e inside (word_no_digit rest stops) in
    at ∙ (no_call_there text word (and_left _ _ behind)
    ∙ (no_boolean_there text word (drop (length word) text) (r, length piece) (front_and_rest is_name_byte text) read ∙ ap (reference_found text) read))

-- the reference that is written is found
pub reference_written : (piece rest : List ℕ) (r : RefText) → capitals piece ≡ reference_capitals r → IsReference r → first_passes is_word_byte rest ≡ false → first_passes (λ b. eqb b 58) rest ≡ false → token_at (piece ++ rest) ≡ Some (tokens.Reference r, length piece)
reference_written piece rest r e inside stops colon =
    reference_there piece rest r e inside stops
    ∙ (cond-false _ _ _ (passes_seam (λ b. eqb b 58) piece rest ∙ colon) ∙ cond-false _ _ _ (passes_seam is_word_byte piece rest ∙ stops))

-- a second corner ends an area
second_there : (text : List ℕ) (a b : RefText) (n m : ℕ) → b.sheet ≡ None → passes_at is_word_byte text (n + 1 + m) ≡ false → area_behind text a n (Some (b, m)) ≡ Some (tokens.Area a b, n + 1 + m)
second_there text a b n m none stops = cond-true _ _ _ (and_from _ _ (ap is_none none) (not_from_false _ stops))

-- an area is found, with what follows its second corner
area_there : (front back rest : List ℕ) (a b : RefText) → capitals front ≡ reference_capitals a → IsReference a → capitals back ≡ reference_capitals b → IsReference b → b.sheet ≡ None → first_passes is_word_byte rest ≡ false → token_at (front ++ 58 ∷ (back ++ rest)) ≡ Some (tokens.Area a b, length front + 1 + length back)
area_there front back rest a b ea ia eb ib none stops =
    let text = front ++ 58 ∷ (back ++ rest) in
    let whole : text ≡ (front ++ 58 ∷ back) ++ rest = sym (two_corners front back rest) in
    let count : length front + 1 + length back ≡ length (front ++ 58 ∷ back) = omega (arith, length-append front (58 ∷ back)) in
    let read : reference_at (drop (length front + 1) text) ≡ Some (b, length back) = ap reference_at (behind_colon text front (back ++ rest) (length front) refl refl) ∙ reference_joined back rest b eb ib (word_no_digit rest stops) in
    reference_there front (58 ∷ (back ++ rest)) a ea ia refl
    ∙ (cond-true _ _ _ (passes_seam (λ b. eqb b 58) front (58 ∷ (back ++ rest)))
    ∙ (ap (area_behind text a (length front)) read
    ∙ second_there text a b (length front) (length back) none (passes_split is_word_byte text (front ++ 58 ∷ back) rest (length front + 1 + length back) whole count ∙ stops)))

-- the area that is written is found
pub area_written : (front back rest : List ℕ) (a b : RefText) → capitals front ≡ reference_capitals a → IsReference a → capitals back ≡ reference_capitals b → IsReference b → b.sheet ≡ None → first_passes is_word_byte rest ≡ false → token_at ((front ++ 58 ∷ back) ++ rest) ≡ Some (tokens.Area a b, length (front ++ 58 ∷ back))
area_written front back rest a b ea ia eb ib none stops =
    let count : length front + 1 + length back ≡ length (front ++ 58 ∷ back) = omega (arith, length-append front (58 ∷ back)) in
    ap token_at (two_corners front back rest) ∙ (area_there front back rest a b ea ia eb ib none stops ∙ ap (λ n. Some (tokens.Area a b, n)) count)
