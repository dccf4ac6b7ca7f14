-- The canonical text of a token writes it, in ASCII and in no more bytes than any other piece that writes it, or is that piece.
use Rattle.std.proofs.Common.{◌≡◌, ◌⊎◌, inl, inr, ℕ, suc, ◌^◌, ◌<◌, ◌≤◌, pos, unsigned_abs, min, Bool, true, false, ◌&&◌, nat_lt, nat_le, List, [], ◌∷◌, ◌++◌, length, Some, codes, decimal, refl, sym, ap, ◌∙◌, subst, arith, append-nil, ltb-true, IsAscii}
use Rattle.std.specs.Char.{is_ascii_alphabetic, to_ascii_uppercase}
use Rattle.std.specs.List.{list_all}
use Rattle.std.specs.Str.Parse.{IsNumeral, digits_value}
use Rattle.std.proofs.Math.Seq.{take-length}
use Rattle.std.proofs.lemmas.Bool.{and_parts, and_from}
use Rattle.std.proofs.lemmas.Bool.Decides.{nat_tests}
use Rattle.std.proofs.lemmas.Fmt.{IsAscii-decimal, IsAscii-from_digits, decimal_is_IsNumeral, length-decimal-le}
use Rattle.std.proofs.lemmas.Int.Digits.{digits_value-lt}
use Rattle.std.proofs.lemmas.List.{length-append, length-map}
use Rattle.std.proofs.lemmas.Str.{IsAscii-append}
use Rattle.std.proofs.lemmas.Str.Ascii.{IsAscii-nil, IsAscii-cons, IsAscii-map}
use Rattle.cell_refs.specs.RefText.{IsReference}
use Rattle.cell_refs.specs.Written.{capitals, reference_at, reference_text}
use Rattle.cell_refs.specs.declared.references.RefText.{RefText}
use Rattle.cell_refs.proofs.PublicLaws.{ascii_reference, reference_reads_back, stands_from_read}
use Rattle.cell_values.specs.Error.{error_word}
use Rattle.cell_values.specs.Name.{is_name, is_name_byte}
use Rattle.cell_values.specs.Word.{with_doubled_quotes}
use Rattle.cell_values.specs.declared.comparison.CompareOp.TheVariants as compare
use Rattle.cell_values.specs.declared.errors.ErrorKind.{ErrorKind}
use Rattle.cell_values.specs.declared.errors.ErrorKind.TheVariants as errors
use Rattle.formula_parse.specs.Callees.{callee_named, callee_text}
use Rattle.formula_parse.specs.declared.operators.Operator.{Operator}
use Rattle.formula_parse.specs.declared.operators.Operator.TheVariants as operators
use Rattle.formula_parse.specs.declared.tokens.Token.{Token}
use Rattle.formula_parse.specs.declared.tokens.Token.TheVariants as tokens
use Rattle.formula_parse.specs.Printing.{token_text}
use Rattle.formula_parse.specs.Tokens.{Writes, boolean_word, numeral_value, operator_text}
use Rattle.formula_parse.proofs.NamingTokens.{whole_reference}
use Rattle.formula_parse.proofs.CalleeLaws.{text_of_callee}

-- ---- ASCII
-- each byte passes the test
abbrev are_ascii : List ℕ → Bool
are_ascii bytes = list_all (λ b. nat_lt b 128) bytes

-- what passes the test is ASCII
ascii_tested : (bytes : List ℕ) → are_ascii bytes ≡ true → IsAscii bytes
ascii_tested [] h = IsAscii-nil
ascii_tested (b ∷ bs) h = let p = and_parts (nat_lt b 128) (are_ascii bs) h in IsAscii-cons b bs (ltb-true b 128 p.0) (ascii_tested bs p.1)

-- a byte of which the upper case is ASCII
byte_back : (b : ℕ) → to_ascii_uppercase b < 128 → b < 128
byte_back b h = grind (arith, nat_tests)

-- an ASCII byte in upper case
upper_low : (b : ℕ) → b < 128 → to_ascii_uppercase b < 128
upper_low b h = grind (arith, nat_tests)

-- bytes of which the upper case is ASCII
ascii_back : (bytes : List ℕ) → IsAscii (capitals bytes) → IsAscii bytes
ascii_back [] h = IsAscii-nil
ascii_back (b ∷ bs) h = IsAscii-cons b bs (byte_back b (h 0)) (ascii_back bs (λ i. h (suc i)))

-- a byte of a name
name_byte_low : (b : ℕ) → is_name_byte b ≡ true → nat_lt b 128 ≡ true
name_byte_low b h = grind (arith, nat_tests)

-- bytes of a name
name_bytes_ascii : (bytes : List ℕ) → list_all is_name_byte bytes ≡ true → IsAscii bytes
name_bytes_ascii [] h = IsAscii-nil
name_bytes_ascii (b ∷ bs) h = let p = and_parts (is_name_byte b) (list_all is_name_byte bs) h in IsAscii-cons b bs (ltb-true b 128 (name_byte_low b p.0)) (name_bytes_ascii bs p.1)

-- a letter
letter_low : (b : ℕ) → is_ascii_alphabetic b ≡ true → nat_lt b 128 ≡ true
letter_low b h = grind (arith, nat_tests)

-- names are ASCII
name_ascii : (name : List ℕ) → is_name name ≡ true → IsAscii name
name_ascii [] h = IsAscii-nil
name_ascii (b ∷ bs) h =
    let p = and_parts (is_ascii_alphabetic b) (list_all is_name_byte bs && nat_le (length (b ∷ bs)) 255) h in
    IsAscii-cons b bs (ltb-true b 128 (letter_low b p.0)) (name_bytes_ascii bs (and_parts (list_all is_name_byte bs) (nat_le (length (b ∷ bs)) 255) p.1).0)

-- error words are ASCII
error_ascii : (e : ErrorKind) → IsAscii (error_word e)
error_ascii errors.Null = ascii_tested (error_word errors.Null) refl
error_ascii errors.Div0 = ascii_tested (error_word errors.Div0) refl
error_ascii errors.Value = ascii_tested (error_word errors.Value) refl
error_ascii errors.Ref = ascii_tested (error_word errors.Ref) refl
error_ascii errors.Name = ascii_tested (error_word errors.Name) refl
error_ascii errors.Num = ascii_tested (error_word errors.Num) refl
error_ascii errors.Na = ascii_tested (error_word errors.Na) refl

-- the words of booleans are ASCII
boolean_ascii : (b : Bool) → IsAscii (boolean_word b)
boolean_ascii true = ascii_tested (boolean_word true) refl
boolean_ascii false = ascii_tested (boolean_word false) refl

-- operators are ASCII
operator_ascii : (op : Operator) → IsAscii (operator_text op)
operator_ascii (operators.Compare compare.Eq) = ascii_tested (codes "=") refl
operator_ascii (operators.Compare compare.Ne) = ascii_tested (codes "<>") refl
operator_ascii (operators.Compare compare.Lt) = ascii_tested (codes "<") refl
operator_ascii (operators.Compare compare.Gt) = ascii_tested (codes ">") refl
operator_ascii (operators.Compare compare.Le) = ascii_tested (codes "<=") refl
operator_ascii (operators.Compare compare.Ge) = ascii_tested (codes ">=") refl
operator_ascii operators.Join = ascii_tested (codes "&") refl
operator_ascii operators.Add = ascii_tested (codes "+") refl
operator_ascii operators.Subtract = ascii_tested (codes "-") refl
operator_ascii operators.Multiply = ascii_tested (codes "*") refl
operator_ascii operators.Divide = ascii_tested (codes "/") refl

-- ---- words in upper case
-- upper case twice is upper case
byte_twice : (b : ℕ) → to_ascii_uppercase (to_ascii_uppercase b) ≡ to_ascii_uppercase b
byte_twice b = grind (arith, nat_tests)

-- the same of a text
capitals_twice : (bytes : List ℕ) → capitals (capitals bytes) ≡ capitals bytes
capitals_twice [] = refl
capitals_twice (b ∷ bs) = ap (λ c. c ∷ capitals (capitals bs)) (byte_twice b) ∙ ap (λ cs. to_ascii_uppercase b ∷ cs) (capitals_twice bs)

-- error words are in upper case
error_capitals : (e : ErrorKind) → capitals (error_word e) ≡ error_word e
error_capitals errors.Null = refl
error_capitals errors.Div0 = refl
error_capitals errors.Value = refl
error_capitals errors.Ref = refl
error_capitals errors.Name = refl
error_capitals errors.Num = refl
error_capitals errors.Na = refl

-- the words of booleans are in upper case
boolean_capitals : (b : Bool) → capitals (boolean_word b) ≡ boolean_word b
boolean_capitals true = refl
boolean_capitals false = refl

-- a letter in upper case is a letter
letter_upper : (b : ℕ) → is_ascii_alphabetic b ≡ true → is_ascii_alphabetic (to_ascii_uppercase b) ≡ true
letter_upper b h = grind (arith, nat_tests)

-- a byte of a name in upper case is one
name_byte_upper : (b : ℕ) → is_name_byte b ≡ true → is_name_byte (to_ascii_uppercase b) ≡ true
name_byte_upper b h = grind (arith, nat_tests)

-- bytes of a name in upper case
name_bytes_upper : (bytes : List ℕ) → list_all is_name_byte bytes ≡ true → list_all is_name_byte (capitals bytes) ≡ true
name_bytes_upper [] h = refl
name_bytes_upper (b ∷ bs) h = let p = and_parts (is_name_byte b) (list_all is_name_byte bs) h in and_from _ _ (name_byte_upper b p.0) (name_bytes_upper bs p.1)

-- a name in upper case is a name
name_upper : (name : List ℕ) → is_name name ≡ true → is_name (capitals name) ≡ true
name_upper [] h = h
name_upper (b ∷ bs) h =
    let p = and_parts (is_ascii_alphabetic b) (list_all is_name_byte bs && nat_le (length (b ∷ bs)) 255) h in
    let q = and_parts (list_all is_name_byte bs) (nat_le (length (b ∷ bs)) 255) p.1 in
    and_from _ _ (letter_upper b p.0) (and_from _ _ (name_bytes_upper bs q.0) (ap (λ n. nat_le (suc n) 255) (length-map bs to_ascii_uppercase) ∙ q.1))

-- ---- references and numbers
-- a reference is written whole
reference_whole : (r : RefText) → IsReference r → reference_at (reference_text r) ≡ Some (r, length (reference_text r))
reference_whole r i = ap reference_at (sym (append-nil (reference_text r))) ∙ reference_reads_back r [] i refl

-- the number that a piece writes, as it is printed
abbrev printed_number : List ℕ → ℕ
printed_number piece = min (digits_value 10 piece) 1000000000000000

-- it is no greater than the piece's
number_low : (v : ℕ) → min v 1000000000000000 < 2 ^ 64
number_low v = omega arith

-- the decimals of a number write it
number_writes : (piece : List ℕ) → IsNumeral 10 (decimal (printed_number piece)) × (numeral_value piece ≡ numeral_value (decimal (printed_number piece)))
number_writes piece =
    let d = decimal_is_IsNumeral (printed_number piece) (number_low (digits_value 10 piece)) in
    let least : min (printed_number piece) 1000000000000000 ≡ printed_number piece = omega arith in
    (d.0, sym (ap (λ v. pos (min v 1000000000000000)) d.1 ∙ ap pos least))

-- the decimals of a number are no longer than the digits that wrote it
number_short : (piece : List ℕ) → IsNumeral 10 piece → length (decimal (printed_number piece)) ≤ length piece
number_short piece h =
    let below = digits_value-lt 10 piece h.1 in
    length-decimal-le (length piece) (printed_number piece) h.0 (omega (arith, below)) (number_low (digits_value 10 piece))

-- ---- tokens
-- the canonical text of a token writes it
pub canonical : (piece : List ℕ) (token : Token) → Writes piece token → Writes (token_text token) token
canonical piece (tokens.Number n) w =
    let h = number_writes piece in
    let is : unsigned_abs n ≡ printed_number piece = ap unsigned_abs w.1 in
    (subst (λ v. IsNumeral 10 (decimal v)) (sym is) h.0, w.1 ∙ h.1 ∙ ap (λ v. numeral_value (decimal v)) (sym is))
canonical piece (tokens.Text t) w = (refl, w.1)
canonical piece (tokens.Error e) w = error_capitals e
canonical piece (tokens.Boolean b) w = boolean_capitals b
canonical piece (tokens.Reference r) w = reference_whole r (whole_reference piece r w)
canonical piece (tokens.Area a b) w = (reference_text a, reference_text b, refl, reference_whole a (whole_reference w.0 a w.3), reference_whole b (whole_reference w.1 b w.4), w.5)
canonical piece (tokens.Call callee) w =
    let text = text_of_callee callee (capitals w.0) w.3 in
    (callee_text callee, refl, ap is_name text ∙ name_upper w.0 w.2, w.3 ∙ ap callee_named (sym (ap capitals text ∙ capitals_twice w.0)))
canonical piece tokens.Open w = refl
canonical piece tokens.Close w = refl
canonical piece tokens.Comma w = refl
canonical piece (tokens.Operator op) w = refl

-- a piece and the canonical text are ASCII, and the text is no longer
pub record IsShorter (piece text : List ℕ) : Type 0 where
  pub before : IsAscii piece
  pub after : IsAscii text
  pub shorter : length text ≤ length piece

-- the canonical text is shorter, or it is the piece and ends in `"`
abbrev pub IsNoLonger : List ℕ → List ℕ → Type 0
IsNoLonger piece text = IsShorter piece text ⊎ ((front : List ℕ) × (piece ≡ front ++ 34 ∷ []) × (text ≡ piece))

-- a text that is ASCII itself
same_text : (piece text : List ℕ) → piece ≡ text → IsAscii text → IsShorter piece text
same_text piece text e a = record { before = subst IsAscii (sym e) a; after = a; shorter = omega (arith, ap length e) }

-- a word in any case
word_text : (piece word : List ℕ) → capitals piece ≡ word → IsAscii word → IsShorter piece word
word_text piece word e a = record {
  before = ascii_back piece (subst IsAscii (sym e) a);
  after = a;
  shorter = omega (arith, ap length e, length-map piece to_ascii_uppercase);
}

-- a reference in any case
reference_shorter : (piece : List ℕ) (r : RefText) → reference_at piece ≡ Some (r, length piece) → IsShorter piece (reference_text r)
reference_shorter piece r h =
    let s = stands_from_read piece r (length piece) h in
    let a = ascii_reference r s.inside in
    let same : capitals piece ≡ capitals (reference_text r) = ap capitals (sym (take-length piece)) ∙ s.spelled in
    record {
      before = ascii_back piece (subst IsAscii (sym same) (IsAscii-map to_ascii_uppercase (reference_text r) upper_low a));
      after = a;
      shorter = omega (arith, ap length same, length-map piece to_ascii_uppercase, length-map (reference_text r) to_ascii_uppercase);
    }

-- two parts with a byte between them
joined_shorter : (front back x y piece : List ℕ) (b : ℕ) → b < 128 → piece ≡ front ++ b ∷ back → IsShorter front x → IsShorter back y → IsShorter piece (x ++ b ∷ y)
joined_shorter front back x y piece b low e f g = record {
  before = subst IsAscii (sym e) (IsAscii-append front (b ∷ back) f.before (IsAscii-cons b back low g.before));
  after = IsAscii-append x (b ∷ y) f.after (IsAscii-cons b y low g.after);
  shorter = omega (arith, f.shorter, g.shorter, ap length e, length-append front (b ∷ back), length-append x (b ∷ y));
}

-- nothing
nothing_shorter : IsShorter [] []
nothing_shorter = same_text [] [] refl IsAscii-nil

-- a name in any case
name_shorter : (written name : List ℕ) → is_name written ≡ true → name ≡ capitals written → IsShorter written name
name_shorter written name n e = word_text written name (sym e) (subst IsAscii (sym e) (name_ascii (capitals written) (name_upper written n)))

-- a number
number_shorter : (piece : List ℕ) (v : ℕ) → IsNumeral 10 piece → v ≡ printed_number piece → IsShorter piece (decimal v)
number_shorter piece v h e = record {
  before = IsAscii-from_digits piece h.1;
  after = subst (λ n. IsAscii (decimal n)) (sym e) (IsAscii-decimal (printed_number piece) (number_low (digits_value 10 piece)));
  shorter = subst (λ n. length (decimal n) ≤ length piece) (sym e) (number_short piece h);
}

-- the canonical text of a token is no longer than a piece that writes it
pub no_longer : (piece : List ℕ) (token : Token) → Writes piece token → IsNoLonger piece (token_text token)
no_longer piece (tokens.Number n) w = inl (number_shorter piece (unsigned_abs n) w.0 (ap unsigned_abs w.1))
no_longer piece (tokens.Text t) w = inr (34 ∷ with_doubled_quotes t, w.0, sym w.0)
no_longer piece (tokens.Error e) w = inl (word_text piece (error_word e) w (error_ascii e))
no_longer piece (tokens.Boolean b) w = inl (word_text piece (boolean_word b) w (boolean_ascii b))
no_longer piece (tokens.Reference r) w = inl (reference_shorter piece r w)
no_longer piece (tokens.Area a b) w = inl (joined_shorter w.0 w.1 (reference_text a) (reference_text b) piece 58 (omega arith) w.2 (reference_shorter w.0 a w.3) (reference_shorter w.1 b w.4))
no_longer piece (tokens.Call callee) w =
    inl (joined_shorter w.0 [] (callee_text callee) [] piece 40 (omega arith) w.1 (name_shorter w.0 (callee_text callee) w.2 (text_of_callee callee (capitals w.0) w.3)) nothing_shorter)
no_longer piece tokens.Open w = inl (same_text piece (codes "(") w (ascii_tested (codes "(") refl))
no_longer piece tokens.Close w = inl (same_text piece (codes ")") w (ascii_tested (codes ")") refl))
no_longer piece tokens.Comma w = inl (same_text piece (codes ",") w (ascii_tested (codes ",") refl))
no_longer piece (tokens.Operator op) w = inl (same_text piece (operator_text op) w (operator_ascii op))
