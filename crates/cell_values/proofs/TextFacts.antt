-- When bytes are a text.
use Rattle.std.proofs.Common.{◌≡◌, ℕ, suc, ◌+◌, ◌^◌, ◌≤◌, ◌<◌, ◌&&◌, ◌||◌, Bool, true, false, not, cond, leb, List, [], ◌∷◌, ◌++◌, length, Option, Some, None, refl, sym, ap, ◌∙◌, arith, subst, ℤ, pos, negsuc}
use Rattle.std.proofs.lemmas.Bool.{and_parts, false_from_ne_true, le-leb, leb-true, lt-leb, not-true}
use Rattle.std.proofs.lemmas.Bool.Decides.{nat_tests}
use Rattle.std.proofs.lemmas.Fmt.{IsAscii-signed, length_signed_le, digits_decimal}
use Rattle.std.proofs.lemmas.Iterator.Adapters.{position_from-zero}
use Rattle.std.proofs.lemmas.List.Folds.{list_any-append}
use Rattle.std.proofs.lemmas.Str.{is_utf8-from_IsUtf8, IsUtf8-from_is_utf8, IsUtf8-from_ascii, IsUtf8-append, chars-IsAscii}
use Rattle.std.proofs.lemmas.Str.Parse.{tells_all_ascii_digits}
use Rattle.std.specs.Char.{is_ascii_control}
use Rattle.std.specs.Fmt.{signed_decimal, decimal}
use Rattle.std.specs.List.{position, position_from, list_any}
use Rattle.std.specs.Str.{IsUtf8, is_utf8, chars, all_ascii_digits}
use lib.Signed.{mag}
use lib.Chars.{codes}
use Rattle.cell_values.specs.declared.texts.TextFault.{TextFault}
use Rattle.cell_values.specs.declared.texts.TextFault.TheVariants.{TooLong, Control}
use Rattle.cell_values.specs.TextFault.{IsFaultOf}
use Rattle.cell_values.specs.Text.{is_text}
use Rattle.cell_values.specs.Word.{text_of_bytes}
use Rattle.cell_values.proofs.DigitFacts.{all_three, own}

-- UTF-8 of few enough characters, none of them a control character
pub text_from_parts : (s : List ℕ) → IsUtf8 s → length (chars s) ≤ 32767 → list_any is_ascii_control s ≡ false → is_text s ≡ true
text_from_parts s utf8 few none = all_three _ _ _ (is_utf8-from_IsUtf8 s utf8) (le-leb _ _ few) (ap not none)

-- the parts of a text
pub record TextParts (s : List ℕ) : Type 0 where
  pub utf8 : IsUtf8 s
  pub few : length (chars s) ≤ 32767
  pub none : list_any is_ascii_control s ≡ false

pub parts_of_text : (s : List ℕ) → is_text s ≡ true → TextParts s
parts_of_text s e =
    let p = and_parts (is_utf8 s) (leb (length (chars s)) 32767 && not (list_any is_ascii_control s)) e in
    let q = and_parts (leb (length (chars s)) 32767) (not (list_any is_ascii_control s)) p.1 in
    record { utf8 = IsUtf8-from_is_utf8 s p.0; few = leb-true _ _ q.0; none = not-true _ q.1 }

none_step : (b : Bool) (i : ℕ) (o : Option ℕ) (r : Bool) → cond b (Some i) o ≡ None → (o ≡ None → r ≡ false) → (b || r) ≡ false
none_step true i o r e h = absurd (cc)
none_step false i o r e h = h e

none_from : (test : ℕ → Bool) (i : ℕ) (xs : List ℕ) → position_from test i xs ≡ None → list_any test xs ≡ false
none_from test i [] e = refl
none_from test i (x ∷ xs) e = none_step (test x) i (position_from test (i + 1) xs) (list_any test xs) e (none_from test (i + 1) xs)

-- no place passes a test
pub none_passes : (test : ℕ → Bool) (xs : List ℕ) → position test xs ≡ None → list_any test xs ≡ false
none_passes test xs e = none_from test 0 xs (sym (position_from-zero test xs) ∙ e)

pub text_is : (s : List ℕ) → IsUtf8 s → length (chars s) ≤ 32767 → position is_ascii_control s ≡ None → is_text s ≡ true
text_is s utf8 few none = text_from_parts s utf8 few (none_passes is_ascii_control s none)

-- bytes that aren't UTF-8 are none
pub no_text_of_bytes : (s : List ℕ) → (IsUtf8 s → ⊥) → text_of_bytes s ≡ None
no_text_of_bytes s bad =
    let wrong : is_utf8 s ≡ false = false_from_ne_true (is_utf8 s) (λ h. bad (IsUtf8-from_is_utf8 s h)) in
    ap (λ b. cond (b && (leb (length (chars s)) 32767 && not (list_any is_ascii_control s))) (Some s) None) wrong

-- two texts one after another
pub text_append : (s t : List ℕ) → is_text s ≡ true → is_text t ≡ true → length (chars (s ++ t)) ≤ 32767 → is_text (s ++ t) ≡ true
text_append s t e f few =
    let p = parts_of_text s e in
    let q = parts_of_text t f in
    text_from_parts (s ++ t) (IsUtf8-append s t p.utf8 q.utf8) few
    (list_any-append is_ascii_control s t ∙ ap (λ b. b || list_any is_ascii_control t) p.none ∙ q.none)

digit_no_control : (c : ℕ) → 48 ≤ c → c ≤ 57 → is_ascii_control c ≡ false
digit_no_control c low high = grind (arith, nat_tests)

no_control_in_digits : (ds : List ℕ) → all_ascii_digits ds ≡ true → list_any is_ascii_control ds ≡ false
no_control_in_digits [] e = refl
no_control_in_digits (c ∷ cs) e =
    let p = tells_all_ascii_digits.parts c cs e in
    ap (λ b. b || list_any is_ascii_control cs) (digit_no_control c p.0.0 p.0.1) ∙ no_control_in_digits cs p.1

no_control_in_decimal : (z : ℤ) → mag z < 2 ^ 63 → list_any is_ascii_control (signed_decimal z) ≡ false
no_control_in_decimal (pos n) small = no_control_in_digits (decimal n) (digits_decimal own n (omega arith))
no_control_in_decimal (negsuc n) small = no_control_in_digits (decimal (suc n)) (digits_decimal own (suc n) (omega arith))

-- the decimals of a number are a text
pub decimal_is_text : (z : ℤ) → mag z < 2 ^ 63 → is_text (signed_decimal z) ≡ true
decimal_is_text z small =
    let ascii = IsAscii-signed z small in
    let short : length (signed_decimal z) ≤ 20 = length_signed_le 19 z (omega arith) small in
    text_from_parts (signed_decimal z) (IsUtf8-from_ascii _ ascii) (rw (chars-IsAscii (signed_decimal z) ascii) (omega arith)) (no_control_in_decimal z small)

-- the word of true, the word of false, and no characters at all
pub true_is_text : is_text (codes "TRUE") ≡ true
unfolding is_utf8 chars lib.Utf8.encode
true_is_text = refl

pub false_is_text : is_text (codes "FALSE") ≡ true
unfolding is_utf8 chars lib.Utf8.encode
false_is_text = refl

pub empty_is_text : is_text [] ≡ true
unfolding is_utf8 chars
empty_is_text = refl

some_step : (b : Bool) (i p : ℕ) (o : Option ℕ) (r : Bool) → cond b (Some i) o ≡ Some p → (o ≡ Some p → r ≡ true) → (b || r) ≡ true
some_step true i p o r e h = refl
some_step false i p o r e h = h e

some_from : (test : ℕ → Bool) (i p : ℕ) (xs : List ℕ) → position_from test i xs ≡ Some p → list_any test xs ≡ true
some_from test i p [] e = absurd (cc)
some_from test i p (x ∷ xs) e = some_step (test x) i p (position_from test (i + 1) xs) (list_any test xs) e (some_from test (i + 1) p xs)

last_fails : (a b d : Bool) → d ≡ false → (a && (b && d)) ≡ false
last_fails true true d e = e
last_fails true false d e = refl
last_fails false b d e = refl

no_text : (s : List ℕ) → is_text s ≡ false → text_of_bytes s ≡ None
no_text s e = ap (λ b. cond b (Some s) None) e

middle_fails : (a b d : Bool) → b ≡ false → (a && (b && d)) ≡ false
middle_fails true b d e = ap (λ t. t && d) e
middle_fails false b d e = refl

-- too many characters are no text
pub no_text_from_length : (s : List ℕ) (fault : TextFault) → fault ≡ TooLong → IsFaultOf fault s → text_of_bytes s ≡ None
no_text_from_length s fault is h =
    let long : 32767 < length (chars s) = subst (λ f. IsFaultOf f s) is h in
    no_text s (middle_fails (is_utf8 s) (leb (length (chars s)) 32767) (not (list_any is_ascii_control s)) (lt-leb _ _ long))

-- what holds a control character is no text
pub no_text_from_control : (s bytes : List ℕ) (fault : TextFault) (p : ℕ) → s ≡ bytes → fault ≡ Control p → IsFaultOf fault s → text_of_bytes bytes ≡ None
no_text_from_control s bytes fault p same is h =
    let found : (length (chars s) ≤ 32767) × (position is_ascii_control s ≡ Some p) = subst (λ f. IsFaultOf f s) is h in
    rw (← same)
    (no_text s (last_fails (is_utf8 s) (leb (length (chars s)) 32767) (not (list_any is_ascii_control s))
    (ap not (some_from is_ascii_control 0 p s (sym (position_from-zero is_ascii_control s) ∙ found.1)))))

-- a text made of two texts
pub text_of_both : (s t both shown : List ℕ) (n : ℕ) → is_text s ≡ true → is_text t ≡ true → both ≡ s ++ t → shown ≡ both → n ≡ length (chars shown) → n ≤ 32767 → is_text both ≡ true
text_of_both s t both shown n e f whole same count few =
    let counted : length (chars (s ++ t)) ≡ n = sym (count ∙ ap (λ u. length (chars u)) (same ∙ whole)) in
    ap is_text whole ∙ text_append s t e f (omega arith)

-- the decimals of a number under another name
pub shown_is_text : (y z : ℤ) → y ≡ z → mag z < 2 ^ 63 → is_text (signed_decimal y) ≡ true
shown_is_text y z same small = ap (λ n. is_text (signed_decimal n)) same ∙ decimal_is_text z small
