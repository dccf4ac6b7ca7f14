-- Calls, booleans, references and areas at the front of a text, as they are found.
use Rattle.std.proofs.Common.{◌≡◌, ℕ, ◌+◌, ◌<◌, ◌≤◌, Bool, true, false, not, ◌||◌, ◌&&◌, eqb, List, [], ◌∷◌, ◌++◌, length, drop, take_while, Option, Some, None, is_none, codes, refl, sym, ap, ◌∙◌, arith, ⊎_elim, eqb-true}
use Rattle.std.proofs.lemmas.Bool.{and_parts, and_from, or_from, or_parts, not-true, le-leb}
use Rattle.std.proofs.lemmas.Bool.Decides.{nat_tests}
use Rattle.std.proofs.lemmas.List.{length-append, length-map, append_assoc}
use Rattle.std.proofs.lemmas.Slice.Eq.{bytes_eq-Decides}
use Rattle.std.proofs.Math.Seq.{drop-append-add}
use Rattle.std.specs.Char.{is_ascii_alphabetic, to_ascii_uppercase}
use Rattle.std.specs.List.{list_all}
use Rattle.std.specs.Str.{bytes_eq}
use Rattle.cell_refs.specs.declared.references.RefText.{RefText}
use Rattle.cell_refs.specs.Written.{capitals, reference_at}
use Rattle.cell_refs.proofs.PublicLaws.{front_and_rest, rest_stops}
use Rattle.cell_values.specs.Name.{is_name, is_name_byte}
use Rattle.formula_parse.specs.Callees.{callee_named}
use Rattle.formula_parse.specs.declared.tokens.Token.{Token}
use Rattle.formula_parse.specs.declared.tokens.Token.TheVariants as tokens
use Rattle.formula_parse.specs.Lexing.{token_at, word_found, reference_found, area_behind, passes_at}
use Rattle.formula_parse.specs.Tokens.{is_word_byte, boolean_word}
use Rattle.formula_parse.proofs.LexFacts.LexFirst.{Found, found_as, first_passes, passes_first, passes_seam, chosen, at_word, begins_word, never}
use Rattle.formula_parse.proofs.LexFacts.LexNumbers.{all_pass}
use Rattle.formula_parse.proofs.LexFacts.LexReferences.{Refers, reference_refers, reference_whole, reference_begins}

-- the byte at a place of a text, by its parts
pub passes_split : (p : ℕ → Bool) (text front rest : List ℕ) (n : ℕ) → text ≡ front ++ rest → n ≡ length front → passes_at p text n ≡ first_passes p rest
passes_split p text front rest n e f = ap (λ t. passes_at p t n) e ∙ (ap (passes_at p (front ++ rest)) f ∙ passes_seam p front rest)

-- the byte that passes a test for itself
pub first_is : (k : ℕ) (rest : List ℕ) → first_passes (λ b. eqb b k) rest ≡ true → (more : List ℕ) × (rest ≡ k ∷ more)
first_is k [] h = absurd (cc)
first_is k (c ∷ cs) h = (cs, ap (λ b. b ∷ cs) (eqb-true c k h))

-- neither of two tests passes
pub first_neither : (p q : ℕ → Bool) (rest : List ℕ) → first_passes p rest ≡ false → first_passes q rest ≡ false → first_passes (λ b. p b || q b) rest ≡ false
first_neither p q [] e f = refl
first_neither p q (c ∷ cs) e f = or_from _ _ e f

-- what passes neither of two tests passes none of them
pub first_parts : (p q : ℕ → Bool) (rest : List ℕ) → first_passes (λ b. p b || q b) rest ≡ false → (first_passes p rest ≡ false) × (first_passes q rest ≡ false)
first_parts p q [] h = (refl, refl)
first_parts p q (c ∷ cs) h = or_parts (p c) (q c) h

-- a word is a name where it begins with a letter and isn't too long
pub word_is_name : (b : ℕ) (bs : List ℕ) → is_ascii_alphabetic b ≡ true → list_all is_name_byte (b ∷ bs) ≡ true → length (b ∷ bs) ≤ 255 → is_name (b ∷ bs) ≡ true
word_is_name b bs l all few = and_from _ _ l (and_from _ _ (and_parts (is_name_byte b) _ all).1 (le-leb _ _ few))

-- what is a capital letter in upper case is a letter
letter_of : (b k : ℕ) → to_ascii_uppercase b ≡ k → 65 ≤ k → k ≤ 90 → is_ascii_alphabetic b ≡ true
letter_of b k e low high = grind (arith, nat_tests)

-- the word of a boolean in any case is a name
boolean_is_name : (word more : List ℕ) (k : ℕ) → capitals word ≡ k ∷ more → 65 ≤ k → k ≤ 90 → length more ≤ 4 → list_all is_name_byte word ≡ true → is_name word ≡ true
boolean_is_name [] more k e low high few all = absurd (cc)
boolean_is_name (b ∷ bs) more k e low high few all =
    let first : to_ascii_uppercase b ≡ k = cc in
    word_is_name b bs (letter_of b k first low high) all (omega (arith, ap length e, length-map (b ∷ bs) to_ascii_uppercase))

-- what stands behind a word that is a name is no `(` where no call is found
no_call : (behind name : Bool) → (behind && name) ≡ false → name ≡ true → behind ≡ false
no_call true true e f = absurd (cc)
no_call true false e f = absurd (cc)
no_call false name e f = refl

-- the token's word, and what follows it
record Word (text word : List ℕ) : Type 0 where
  after : List ℕ
  whole : text ≡ word ++ after
  all : list_all is_name_byte word ≡ true
  ends : first_passes is_name_byte after ≡ false

-- each text has its word
word_of : (text : List ℕ) → Word text (take_while is_name_byte text)
word_of text = record {
  after = drop (length (take_while is_name_byte text)) text;
  whole = front_and_rest is_name_byte text;
  all = all_pass is_name_byte text;
  ends = sym (passes_first is_name_byte (drop (length (take_while is_name_byte text)) text) refl) ∙ rest_stops is_name_byte text refl;
}

-- ---- calls and booleans
-- a call stands where it is found
call_found : (text word : List ℕ) (w : Word text word) → (passes_at (λ b. eqb b 40) text (length word) && is_name word) ≡ true → Found text (tokens.Call (callee_named (capitals word))) (length word + 1)
call_found text word w h =
    let p = and_parts _ _ h in
    let bracket = first_is 40 w.after (sym (passes_split (λ b. eqb b 40) text word w.after (length word) w.whole refl) ∙ p.0) in
    record {
      piece = word ++ 40 ∷ [];
      rest = bracket.0;
      whole = w.whole ∙ (ap (λ x. word ++ x) bracket.1 ∙ sym (append_assoc word (40 ∷ []) bracket.0));
      count = omega (arith, length-append word (40 ∷ []));
      some = omega arith;
      writes = (word, refl, p.1, refl);
      stops = never bracket.0;
    }

-- a boolean stands where it is found
boolean_found : (text word : List ℕ) (w : Word text word) (v : Bool) (n : ℕ) → (passes_at (λ b. eqb b 40) text (length word) && is_name word) ≡ false → capitals word ≡ boolean_word v → length (boolean_word v) ≡ n → is_name word ≡ true → 0 < n → Found text (tokens.Boolean v) n
boolean_found text word w v n alone e count name some =
    record {
      piece = word;
      rest = w.after;
      whole = w.whole;
      count = omega (arith, ap length e, count, length-map word to_ascii_uppercase);
      some = some;
      writes = e;
      stops = first_neither is_name_byte (λ b. eqb b 40) w.after w.ends (sym (passes_split (λ b. eqb b 40) text word w.after (length word) w.whole refl) ∙ no_call _ (is_name word) alone name);
    }

-- ---- references and areas
-- a reference stands where it is found without a `:` behind it
lone_reference : (text : List ℕ) (r : RefText) (n : ℕ) (f : Refers text r n) → 0 < n → passes_at (λ b. eqb b 58) text n ≡ false → passes_at is_word_byte text n ≡ false → Found text (tokens.Reference r) n
lone_reference text r n f some colon word = record {
  piece = f.piece;
  rest = f.rest;
  whole = f.whole;
  count = f.count;
  some = some;
  writes = reference_whole f.piece r f.spelled f.inside;
  stops = first_neither is_word_byte (λ b. eqb b 58) f.rest (sym (passes_split is_word_byte text f.piece f.rest n f.whole f.count) ∙ word) (sym (passes_split (λ b. eqb b 58) text f.piece f.rest n f.whole f.count) ∙ colon);
}

-- the text behind the `:` of an area
pub behind_colon : (text front more : List ℕ) (n : ℕ) → text ≡ front ++ 58 ∷ more → n ≡ length front → drop (n + 1) text ≡ more
behind_colon text front more n e f = ap (drop (n + 1)) e ∙ (ap (λ k. drop (k + 1) (front ++ 58 ∷ more)) f ∙ (drop-append-add front (58 ∷ more) 1))

-- what follows an area follows its second corner
pub two_corners : (front back rest : List ℕ) → (front ++ 58 ∷ back) ++ rest ≡ front ++ 58 ∷ (back ++ rest)
two_corners front back rest = append_assoc front (58 ∷ back) rest

-- what has no sheet has none
no_sheet_is : (o : Option ℕ) → is_none o ≡ true → o ≡ None
no_sheet_is None h = refl
no_sheet_is (Some x) h = absurd (cc)

-- an area stands where its two corners are found
area_found : (text : List ℕ) (a b : RefText) (n m : ℕ) (f : Refers text a n) (more : List ℕ) → f.rest ≡ 58 ∷ more → (g : Refers more b m) → is_none b.sheet ≡ true → passes_at is_word_byte text (n + 1 + m) ≡ false → Found text (tokens.Area a b) (n + 1 + m)
area_found text a b n m f more colon g none word =
    let whole : text ≡ (f.piece ++ 58 ∷ g.piece) ++ g.rest = f.whole ∙ (ap (λ x. f.piece ++ x) colon ∙ (ap (λ x. f.piece ++ 58 ∷ x) g.whole ∙ sym (two_corners f.piece g.piece g.rest))) in
    let count : n + 1 + m ≡ length (f.piece ++ 58 ∷ g.piece) = omega (arith, f.count, g.count, length-append f.piece (58 ∷ g.piece)) in
    record {
      piece = f.piece ++ 58 ∷ g.piece;
      rest = g.rest;
      whole = whole;
      count = count;
      some = omega arith;
      writes = (f.piece, g.piece, refl, reference_whole f.piece a f.spelled f.inside, reference_whole g.piece b g.spelled g.inside, no_sheet_is b.sheet none);
      stops = sym (passes_split is_word_byte text (f.piece ++ 58 ∷ g.piece) g.rest (n + 1 + m) whole count) ∙ word;
    }

-- what isn't so is false
not_is : (b : Bool) → not b ≡ true → b ≡ false
not_is b h = not-true b h

-- an area stands where it is found behind its first corner
area_from : (text : List ℕ) (a : RefText) (n : ℕ) (f : Refers text a n) (more : List ℕ) (token : Token) (len : ℕ) → f.rest ≡ 58 ∷ more → (o : Option (RefText × ℕ)) → reference_at more ≡ o → area_behind text a n o ≡ Some (token, len) → Found text token len
area_from text a n f more token len colon None e h = absurd (cc)
area_from text a n f more token len colon (Some second) e h =
    ⊎_elim (λ y.
    let p = and_parts (is_none second.0.sheet) _ y.0 in
    found_as text (tokens.Area a second.0) token (n + 1 + second.1) len y.1 (area_found text a second.0 n second.1 f more colon (reference_refers more second.0 second.1 e) p.0 (not_is _ p.1)))
    (λ no. let none = no.1 in absurd (cc))
    (chosen (is_none second.0.sheet && not (passes_at is_word_byte text (n + 1 + second.1))) _ _ _ h)

-- a reference takes at least one byte
pub refers_some : (text : List ℕ) (r : RefText) (n : ℕ) → Refers text r n → 0 < n
refers_some text r n f = let p = reference_begins f.piece r f.spelled f.inside in omega (arith, f.count, ap length p.2)

-- a reference or an area stands where it is found
reference_some : (text : List ℕ) (token : Token) (len : ℕ) (o : Option (RefText × ℕ)) → reference_at text ≡ o → reference_found text o ≡ Some (token, len) → Found text token len
reference_some text token len None e h = absurd (cc)
reference_some text token len (Some found) e h =
    let f = reference_refers text found.0 found.1 e in
    ⊎_elim (λ y.
    let colon = first_is 58 f.rest (sym (passes_split (λ b. eqb b 58) text f.piece f.rest found.1 f.whole f.count) ∙ y.0) in
    let more : drop (found.1 + 1) text ≡ colon.0 = behind_colon text f.piece colon.0 found.1 (f.whole ∙ ap (λ x. f.piece ++ x) colon.1) f.count in
    area_from text found.0 found.1 f colon.0 token len colon.1 (reference_at colon.0) refl (ap (λ x. area_behind text found.0 found.1 (reference_at x)) (sym more) ∙ y.1))
    (λ n. ⊎_elim (λ y. let none = y.1 in absurd (cc))
    (λ m. found_as text (tokens.Reference found.0) token found.1 len m.1 (lone_reference text found.0 found.1 f (refers_some text found.0 found.1 f) n.0 m.0))
    (chosen (passes_at is_word_byte text found.1) _ _ _ n.1))
    (chosen (passes_at (λ b. eqb b 58) text found.1) _ _ _ h)

-- the word `TRUE`
true_word : (word : List ℕ) → bytes_eq (capitals word) (codes "TRUE") ≡ true → capitals word ≡ codes "TRUE"
true_word word h = (bytes_eq-Decides (capitals word) (codes "TRUE")).0 h

-- the word `FALSE`
false_word : (word : List ℕ) → bytes_eq (capitals word) (codes "FALSE") ≡ true → capitals word ≡ codes "FALSE"
false_word word h = (bytes_eq-Decides (capitals word) (codes "FALSE")).0 h

-- what a word comes to stands where it is found
word_from : (text word : List ℕ) (token : Token) (len : ℕ) → Word text word → word_found text word ≡ Some (token, len) → Found text token len
word_from text word token len w h =
    ⊎_elim (λ y. found_as text (tokens.Call (callee_named (capitals word))) token (length word + 1) len y.1 (call_found text word w y.0))
    (λ n. ⊎_elim (λ y. let e = true_word word y.0 in found_as text (tokens.Boolean true) token 4 len y.1 (boolean_found text word w true 4 n.0 e refl (boolean_is_name word (codes "RUE") 84 e (omega arith) (omega arith) (omega arith) w.all) (omega arith)))
    (λ m. ⊎_elim (λ y. let e = false_word word y.0 in found_as text (tokens.Boolean false) token 5 len y.1 (boolean_found text word w false 5 n.0 e refl (boolean_is_name word (codes "ALSE") 70 e (omega arith) (omega arith) (omega arith) w.all) (omega arith)))
    (λ k. reference_some text token len (reference_at text) refl k.1)
    (chosen (bytes_eq (capitals word) (codes "FALSE")) _ _ _ m.1))
    (chosen (bytes_eq (capitals word) (codes "TRUE")) _ _ _ n.1))
    (chosen (passes_at (λ b. eqb b 40) text (length word) && is_name word) _ _ _ h)

-- the token that begins with a letter or a `$` is written where it is found
pub word_token_found : (b : ℕ) (rest : List ℕ) (token : Token) (n : ℕ) → begins_word b ≡ true → token_at (b ∷ rest) ≡ Some (token, n) → Found (b ∷ rest) token n
word_token_found b rest token n w h = word_from (b ∷ rest) (take_while is_name_byte (b ∷ rest)) token n (word_of (b ∷ rest)) (sym (at_word b rest w) ∙ h)
