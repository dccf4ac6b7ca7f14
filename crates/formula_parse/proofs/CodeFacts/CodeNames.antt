-- Names and the words of booleans, in any case.
use Rattle.std.proofs.Common.{◌≡◌, ℕ, zero, suc, ◌<◌, Bool, true, false, cond, ◌&&◌, ◌==◌, List, [], ◌∷◌, length, take, take_while, get_or, Some, None, codes, refl, ap, sym, ◌∙◌, arith}
use Rattle.std.proofs.lemmas.Bool.Decides.{nat_tests}
use Rattle.std.proofs.lemmas.List.{length-map}
use Rattle.std.proofs.lemmas.List.Folds.{length-prefix_len}
use Rattle.std.proofs.lemmas.Str.{IsUtf8-from_ascii}
use Rattle.std.specs.Char.{to_ascii_uppercase, is_ascii_alphabetic}
use Rattle.std.specs.List.{list_all}
use Rattle.std.specs.Str.{bytes_eq, IsUtf8}
use Rattle.cell_refs.specs.Written.{capitals}
use Rattle.cell_values.specs.Name.{is_name, is_name_byte}
use Rattle.cell_values.proofs.PublicLaws.{both_true}
use Rattle.formula_parse.specs.Callees.{callee_named}
use Rattle.formula_parse.specs.declared.callees.Callee.{Callee}
use Rattle.formula_parse.specs.declared.tokens.Token.TheVariants as tokens
use Rattle.formula_parse.specs.Lexing.{word_at, word_found, passes_at}

byte_capital : (c : ℕ) → is_name_byte (to_ascii_uppercase c) ≡ is_name_byte c
byte_capital c = grind (arith, nat_tests)

letter_capital : (c : ℕ) → is_ascii_alphabetic (to_ascii_uppercase c) ≡ is_ascii_alphabetic c
letter_capital c = grind (arith, nat_tests)

all_capitals : (cs : List ℕ) → list_all is_name_byte (capitals cs) ≡ list_all is_name_byte cs
all_capitals [] = refl
all_capitals (c ∷ cs) = rw (byte_capital, all_capitals cs) refl

-- a name in upper case is a name
pub name_capitals : (word : List ℕ) → is_name (capitals word) ≡ is_name word
name_capitals [] = refl
name_capitals (c ∷ cs) = rw (letter_capital, all_capitals cs, length-map cs to_ascii_uppercase) refl

ascii_byte : (c : ℕ) → is_name_byte c ≡ true → c < 128
ascii_byte c h = grind (arith, nat_tests)

ascii_letter : (c : ℕ) → is_ascii_alphabetic c ≡ true → c < 128
ascii_letter c h = grind (arith, nat_tests)

all_ascii : (cs : List ℕ) → list_all is_name_byte cs ≡ true → (i : ℕ) → get_or cs i 0 < 128
all_ascii [] h i = omega arith
all_ascii (c ∷ cs) h zero = ascii_byte c (both_true _ _ h).0
all_ascii (c ∷ cs) h (suc i) = all_ascii cs (both_true _ _ h).1 i

name_ascii : (word : List ℕ) → is_name word ≡ true → (i : ℕ) → get_or word i 0 < 128
name_ascii [] h i = absurd (cc)
name_ascii (c ∷ cs) h zero = ascii_letter c (both_true _ _ h).0
name_ascii (c ∷ cs) h (suc i) = all_ascii cs (both_true _ _ (both_true (is_ascii_alphabetic c) _ h).1).0 i

-- what isn't UTF-8 is no name
pub not_name : (word : List ℕ) → (IsUtf8 word → ⊥) → is_name word ≡ false
not_name word h = by_test (is_name word) refl
  where
    by_test : (b : Bool) → is_name word ≡ b → b ≡ false
    by_test true e = absurd (h (IsUtf8-from_ascii word (name_ascii word e)))
    by_test false e = refl

-- a word is what the code cuts off
word_is : (text : List ℕ) (len : ℕ) → len ≡ length (take_while is_name_byte text) → word_at text ≡ word_found text (take len text)
word_is text len e = ap (λ k. word_found text (take k text)) (sym (e ∙ length-prefix_len is_name_byte text))

length_word : (text : List ℕ) (len : ℕ) → len ≡ length (take_while is_name_byte text) → length (take len text) ≡ len
length_word text len e = ap (λ k. length (take k text)) (e ∙ length-prefix_len is_name_byte text) ∙ sym e

-- no call stands where no `(` follows, or no name stands before it
pub no_call_mark : (mark name : Bool) → mark ≡ false → (mark && name) ≡ false
no_call_mark mark name e = rw e refl

pub no_call_name : (mark name : Bool) (callee : Callee) → None ≡ cond name (Some callee) None → (mark && name) ≡ false
no_call_name true true callee e = absurd (cc)
no_call_name true false callee e = refl
no_call_name false name callee e = refl

second : {A : Type 0} (a b : Bool) (x y z : A) → a ≡ false → b ≡ true → cond a x (cond b y z) ≡ y
second a b x y z e f = rw (e, f) refl

third : {A : Type 0} (a b d : Bool) (x y z w : A) → a ≡ false → b ≡ false → d ≡ true → cond a x (cond b y (cond d z w)) ≡ z
third a b d x y z w e f g = rw (e, f, g) refl

call_off : (text : List ℕ) (len : ℕ) → len ≡ length (take_while is_name_byte text) → (passes_at (λ b. b == 40) text len && is_name (take len text)) ≡ false → (passes_at (λ b. b == 40) text (length (take len text)) && is_name (take len text)) ≡ false
call_off text len e call = ap (λ k. passes_at (λ b. b == 40) text k && is_name (take len text)) (length_word text len e) ∙ call

-- a word that is no call, and is that of a boolean
pub true_found : (text : List ℕ) (len : ℕ) → len ≡ length (take_while is_name_byte text) → (passes_at (λ b. b == 40) text len && is_name (take len text)) ≡ false → bytes_eq (capitals (take len text)) (codes "TRUE") ≡ true → word_at text ≡ Some (tokens.Boolean true, 4)
true_found text len e call is = word_is text len e ∙ second _ _ _ _ _ (call_off text len e call) is

pub false_found : (text : List ℕ) (len : ℕ) → len ≡ length (take_while is_name_byte text) → (passes_at (λ b. b == 40) text len && is_name (take len text)) ≡ false → bytes_eq (capitals (take len text)) (codes "TRUE") ≡ false → bytes_eq (capitals (take len text)) (codes "FALSE") ≡ true → word_at text ≡ Some (tokens.Boolean false, 5)
false_found text len e call other is = word_is text len e ∙ third _ _ _ _ _ _ _ (call_off text len e call) other is

-- what a word names, by its upper case
pub callee_of_capitals : (word upper : List ℕ) → upper ≡ capitals word → cond (is_name upper) (Some (callee_named upper)) None ≡ cond (is_name word) (Some (callee_named (capitals word))) None
callee_of_capitals word upper e =
    let is : is_name upper ≡ is_name word = ap is_name e ∙ name_capitals word in
    ap (λ b. cond b (Some (callee_named upper)) None) is ∙ ap (λ u. cond (is_name word) (Some (callee_named u)) None) e

-- bytes that are no name name nothing
pub no_callee : (word : List ℕ) → is_name word ≡ false → None ≡ cond (is_name word) (Some (callee_named (capitals word))) None
no_callee word e = rw e refl

-- a word of over 255 bytes is no name
pub long_is_no_name : (word : List ℕ) → 255 < length word → is_name word ≡ false
long_is_no_name [] h = refl
long_is_no_name (c ∷ cs) h = grind (arith, nat_tests)

-- a word whose upper case isn't UTF-8 is no name
pub not_name_capitals : (word upper : List ℕ) → upper ≡ capitals word → (IsUtf8 upper → ⊥) → is_name word ≡ false
not_name_capitals word upper e h = sym (name_capitals word) ∙ (ap is_name (sym e) ∙ not_name upper h)
