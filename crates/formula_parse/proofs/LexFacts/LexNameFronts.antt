-- How much of a text a name begins with.
use Rattle.std.proofs.Common.{◌≡◌, ℕ, ◌<◌, ◌≤◌, zero, suc, min, Bool, true, false, cond, List, [], ◌∷◌, ◌++◌, length, take, drop, take_while, slice_index, None, refl, sym, ap, ◌∙◌, arith, ◌⊎◌, inl, inr, ⊎_elim}
use Rattle.std.proofs.lemmas.Bool.{cases_Bool, cond-true, cond-false, and_parts, and_from, leb-true}
use Rattle.std.proofs.lemmas.Bool.Decides.{nat_tests}
use Rattle.std.proofs.lemmas.List.{length-map, length-take-le, length-append, append_assoc}
use Rattle.std.proofs.lemmas.Option.{none-some}
use Rattle.std.proofs.Math.Seq.{take-append_seam}
use Rattle.std.specs.Char.{is_ascii_alphabetic, is_ascii_uppercase, to_ascii_uppercase}
use Rattle.std.specs.List.{list_all}
use Rattle.cell_refs.specs.Written.{capitals}
use Rattle.cell_values.specs.Name.{is_name, is_name_byte}
use Rattle.formula_parse.specs.declared.callees.Callee.{Callee}
use Rattle.formula_parse.specs.Callees.{callee_named}
use Rattle.formula_parse.specs.declared.tokens.Token.{Token}
use Rattle.formula_parse.specs.declared.tokens.Token.TheVariants as tokens
use Rattle.formula_parse.specs.Lexing.{token_at, name_begun}
use Rattle.formula_parse.specs.Tokens.{Writes, boolean_word}
use Rattle.formula_parse.proofs.LexFacts.LexFronts.{Beyond, compared, front_passes, short_passes, passing_short, passing_within}
use Rattle.formula_parse.proofs.LexFacts.LexWords.{word_is_name}
use Rattle.formula_parse.proofs.LexFacts.LexWritten.{call_written, letters_name}

-- what begins a name is no more than the text
pub name_within : (text : List ℕ) → name_begun text ≤ length text
name_within text = by_test (is_ascii_alphabetic (slice_index text 0))
  where
    by_test : (t : Bool) → cond t (min (length (take_while is_name_byte text)) 255) 0 ≤ length text
    by_test true = let h = passing_within is_name_byte text in omega arith
    by_test false = omega arith

-- the front of a name is a name
front_is_name : (b : ℕ) (bs : List ℕ) (k : ℕ) → is_ascii_alphabetic b ≡ true → 0 < k → k ≤ 255 → k ≤ length (take_while is_name_byte (b ∷ bs)) → is_name (take k (b ∷ bs)) ≡ true
front_is_name b bs zero l some few short = absurd (omega arith)
front_is_name b bs (suc k) l some few short =
    let within = passing_within is_name_byte (b ∷ bs) in
    let count : length (take (suc k) (b ∷ bs)) ≡ suc k = length-take-le (suc k) (b ∷ bs) (omega arith) in
    word_is_name b (take k bs) l (short_passes is_name_byte (b ∷ bs) (suc k) short) (omega arith)

-- the front of a name goes on to a call
pub name_goes_on : (text : List ℕ) → 0 < name_begun text → Writes (take (name_begun text) text ++ 40 ∷ []) (tokens.Call (callee_named (capitals (take (name_begun text) text))))
name_goes_on [] h = absurd (omega arith)
name_goes_on (b ∷ bs) h = ⊎_elim
    (λ l.
    let e : name_begun (b ∷ bs) ≡ min (length (take_while is_name_byte (b ∷ bs))) 255 = cond-true _ _ _ l in
    (take (name_begun (b ∷ bs)) (b ∷ bs), refl, front_is_name b bs (name_begun (b ∷ bs)) l h (omega arith) (omega arith), refl))
    (λ n. let e : name_begun (b ∷ bs) ≡ 0 = cond-false _ _ _ n in absurd (omega arith))
    (cases_Bool (is_ascii_alphabetic b))

-- letters, digits, `.` and `_` behind a letter are counted, as far as a name may go
pub name_most : (b : ℕ) (bs : List ℕ) (m : ℕ) → is_ascii_alphabetic b ≡ true → m ≤ length (b ∷ bs) → m ≤ 255 → list_all is_name_byte (take m (b ∷ bs)) ≡ true → m ≤ name_begun (b ∷ bs)
name_most b bs m l inside few all =
    let e : name_begun (b ∷ bs) ≡ min (length (take_while is_name_byte (b ∷ bs))) 255 = cond-true _ _ _ l in
    let short = passing_short is_name_byte (b ∷ bs) m inside all in
    omega arith

-- ---- booleans
-- the word of a boolean is in upper case, and short
boolean_upper : (v : Bool) → (list_all is_ascii_uppercase (boolean_word v) ≡ true) × (length (boolean_word v) ≤ 5)
boolean_upper true = (refl, omega arith)
boolean_upper false = (refl, omega arith)

-- what is a letter in upper case is one
upper_letter : (b : ℕ) → is_ascii_uppercase (to_ascii_uppercase b) ≡ true → is_ascii_alphabetic b ≡ true
upper_letter b h = grind (arith, nat_tests)

-- no boolean goes on with more than a name
pub boolean_most : (b : ℕ) (bs more : List ℕ) (v : Bool) (k : ℕ) → suc k ≤ length (b ∷ bs) → Writes (take (suc k) (b ∷ bs) ++ more) (tokens.Boolean v) → suc k ≤ name_begun (b ∷ bs)
boolean_most b bs more v k inside w =
    let u = boolean_upper v in
    let upper : list_all is_ascii_uppercase (capitals (take (suc k) (b ∷ bs) ++ more)) ≡ true = ap (list_all is_ascii_uppercase) w ∙ u.0 in
    let first = upper_letter b (and_parts (is_ascii_uppercase (to_ascii_uppercase b)) _ upper).0 in
    let count = ap length w in
    name_most b bs (suc k) first inside
    (omega (arith, count, u.1, length-map (take (suc k) (b ∷ bs) ++ more) to_ascii_uppercase, length-append (take (suc k) (b ∷ bs)) more, length-take-le (suc k) (b ∷ bs) inside))
    (front_passes is_name_byte (take (suc k) (b ∷ bs)) more (letters_name (take (suc k) (b ∷ bs) ++ more) upper))

-- ---- calls
-- a letter can stand in a name
letter_name : (c : ℕ) → is_ascii_alphabetic c ≡ true → is_name_byte c ≡ true
letter_name c h = grind (arith, nat_tests)

-- the parts of a name
record NameParts (written : List ℕ) : Type 0 where
  all : list_all is_name_byte written ≡ true
  some : 0 < length written
  few : length written ≤ 255
  first : is_ascii_alphabetic (slice_index written 0) ≡ true

-- a name has its parts
name_parts : (written : List ℕ) → is_name written ≡ true → NameParts written
name_parts [] h = absurd (cc)
name_parts (c ∷ cs) h =
    let p = and_parts (is_ascii_alphabetic c) _ h in
    let q = and_parts (list_all is_name_byte cs) _ p.1 in
    record { all = and_from _ _ (letter_name c p.0) q.0; some = omega arith; few = leb-true _ _ q.1; first = p.0 }

-- two texts that are equal have one first byte
first_same : (b : ℕ) (bs xs ys : List ℕ) → 0 < length xs → b ∷ bs ≡ xs ++ ys → slice_index xs 0 ≡ b
first_same b bs [] ys some e = absurd (omega arith)
first_same b bs (x ∷ xs) ys some e = cc

-- the bracket behind a whole name
bracket : (left more : List ℕ) (count : ℕ) → count ≤ length left → take count left ++ more ≡ 40 ∷ [] → 0 < count → (rest : List ℕ) × (left ≡ 40 ∷ rest)
bracket left more zero h e some = absurd (omega arith)
bracket [] more (suc n) h e some = absurd (omega arith)
bracket (c ∷ cs) more (suc n) h e some = let first : c ≡ 40 = cc in (cs, ap (λ b. b ∷ cs) first)

-- a whole call is found
call_stands : (text written rest : List ℕ) → text ≡ written ++ 40 ∷ rest → is_name written ≡ true → token_at text ≡ None → ⊥
call_stands text written rest e h none =
    let found = call_written written rest h in
    none-some {A = Token × ℕ} (tokens.Call (callee_named (capitals written)), length (written ++ 40 ∷ [])) (sym none ∙ (ap token_at (e ∙ sym (append_assoc written (40 ∷ []) rest)) ∙ found))

-- no call goes on with more than a name, where none stands whole
pub call_most : (b : ℕ) (bs more : List ℕ) (callee : Callee) (k : ℕ) → token_at (b ∷ bs) ≡ None → suc k ≤ length (b ∷ bs) → Writes (take (suc k) (b ∷ bs) ++ more) (tokens.Call callee) → suc k ≤ name_begun (b ∷ bs)
call_most b bs more callee k none inside w =
    let text = b ∷ bs in
    let written = w.0 in
    let p = name_parts written w.2 in
    let letter : is_ascii_alphabetic b ≡ true = ap is_ascii_alphabetic (sym (first_same b (take k bs ++ more) written (40 ∷ []) p.some w.1)) ∙ p.first in
    ⊎_elim
    (λ i. name_most b bs (suc k) letter inside (omega (arith, i.less, p.few)) (front_passes is_name_byte (take (suc k) text) (drop (suc k) written) (ap (list_all is_name_byte) i.whole ∙ p.all)))
    (λ y. by_count y (cases_count y.count))
    (compared text more written (40 ∷ []) (suc k) inside w.1)
  where
    cases_count : (n : ℕ) → (n ≡ 0) ⊎ (0 < n)
    cases_count zero = inl refl
    cases_count (suc n) = inr (omega arith)

    by_count : (y : Beyond (b ∷ bs) more w.0 (40 ∷ []) (suc k)) → (y.count ≡ 0) ⊎ (0 < y.count) → suc k ≤ name_begun (b ∷ bs)
    by_count y c =
        let p = name_parts w.0 w.2 in
        let letter : is_ascii_alphabetic b ≡ true = ap is_ascii_alphabetic (sym (first_same b (take k bs ++ more) w.0 (40 ∷ []) p.some w.1)) ∙ p.first in
        ⊎_elim
        (λ z.
        let place : suc k ≡ length w.0 = omega (arith, y.place) in
        let front : take (suc k) (b ∷ bs) ≡ w.0 = ap (take (suc k)) y.whole ∙ (ap (λ n. take n (w.0 ++ y.left)) place ∙ take-append_seam w.0 y.left) in
        name_most b bs (suc k) letter inside (omega (arith, p.few)) (ap (list_all is_name_byte) front ∙ p.all))
        (λ some.
        let r = bracket y.left more y.count y.within y.agrees some in
        absurd (call_stands (b ∷ bs) w.0 r.0 (y.whole ∙ ap (λ x. w.0 ++ x) r.1) w.2 none))
        c
