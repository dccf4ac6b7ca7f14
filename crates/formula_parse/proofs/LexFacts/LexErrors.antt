-- An error value at the front of a text.
use Rattle.std.proofs.Common.{◌≡◌, ℕ, ◌<◌, ◌≤◌, Bool, true, List, [], ◌∷◌, ◌++◌, length, take, drop, Some, option_map, refl, sym, ap, subst, ◌∙◌, arith, ⊎_elim, codes}
use Rattle.std.proofs.lemmas.Bool.Decides.{nat_tests}
use Rattle.std.proofs.lemmas.List.{length-map, length-take, map-append, take-append-drop, take-map}
use Rattle.std.proofs.lemmas.Slice.Eq.{bytes_eq-Decides}
use Rattle.std.specs.Char.{to_ascii_uppercase}
use Rattle.std.specs.List.{find}
use Rattle.std.specs.Str.{bytes_eq}
use Rattle.cell_refs.specs.Written.{capitals}
use Rattle.cell_values.specs.declared.errors.ErrorKind.{ErrorKind}
use Rattle.cell_values.specs.declared.errors.ErrorKind.TheVariants as errors
use Rattle.cell_values.specs.Error.{error_word}
use Rattle.formula_parse.specs.declared.tokens.Token.{Token}
use Rattle.formula_parse.specs.declared.tokens.Token.TheVariants as tokens
use Rattle.formula_parse.specs.Lexing.{token_at, error_at, all_errors, begins_with}
use Rattle.formula_parse.proofs.LexFacts.LexFirst.{Found, found_as, chosen, at_hash, never}
use Rattle.formula_parse.proofs.LexFacts.LexTexts.{mapped_some}

-- what is found passes the test
find_passes : {X : Type 0} (p : X → Bool) (xs : List X) (x : X) → find p xs ≡ Some x → p x ≡ true
find_passes p [] x h = absurd (cc)
find_passes p (y ∷ ys) x h =
    ⊎_elim (λ e. let same : y ≡ x = cc (e.1) in ap p (sym same) ∙ e.0)
    (λ n. find_passes p ys x n.1)
    (chosen (p y) _ _ _ h)

-- a text that begins with a word in any case is the word in some case and a rest
pub begins_parts : (word text : List ℕ) → begins_with word text ≡ true → (capitals (take (length word) text) ≡ word) × (length word ≤ length text)
begins_parts word text h =
    let front : take (length word) (capitals text) ≡ word = (bytes_eq-Decides (take (length word) (capitals text)) word).0 h in
    (sym (take-map to_ascii_uppercase (length word) text) ∙ front, omega (arith, ap length front, length-take (length word) (capitals text), length-map text to_ascii_uppercase))

-- an error word has a byte
word_some : (e : ErrorKind) → 0 < length (error_word e)
word_some errors.Null = omega arith
word_some errors.Div0 = omega arith
word_some errors.Value = omega arith
word_some errors.Ref = omega arith
word_some errors.Name = omega arith
word_some errors.Num = omega arith
word_some errors.Na = omega arith

-- the error that is found is written
pub error_found : (rest : List ℕ) (token : Token) (n : ℕ) → token_at (35 ∷ rest) ≡ Some (token, n) → Found (35 ∷ rest) token n
error_found rest token n h =
    let text = 35 ∷ rest in
    let m = mapped_some (λ e. (tokens.Error e, length (error_word e))) (find (λ e. begins_with (error_word e) text) all_errors) (token, n) (sym (at_hash rest) ∙ h) in
    let p = begins_parts (error_word m.0) text (find_passes (λ e. begins_with (error_word e) text) all_errors m.0 m.1) in
    let cut = length (error_word m.0) in
    found_as text (tokens.Error m.0) token cut n (ap Some m.2) (record {
      piece = take cut text;
      rest = drop cut text;
      whole = sym (take-append-drop cut text);
      count = sym (sym (length-map (take cut text) to_ascii_uppercase) ∙ ap length p.0);
      some = word_some m.0;
      writes = p.0;
      stops = never (drop cut text);
    })

-- the error whose word stands at the front
error_there : (e : ErrorKind) (rest : List ℕ) → find (λ other. bytes_eq (take (length (error_word other)) (error_word e ++ rest)) (error_word other)) all_errors ≡ Some e
error_there errors.Null rest = refl
error_there errors.Div0 rest = refl
error_there errors.Value rest = refl
error_there errors.Ref rest = refl
error_there errors.Name rest = refl
error_there errors.Num rest = refl
error_there errors.Na rest = refl

-- an error word begins with a `#`
hash_of : (e : ErrorKind) → (more : List ℕ) × (error_word e ≡ 35 ∷ more)
hash_of errors.Null = (codes "NULL!", refl)
hash_of errors.Div0 = (codes "DIV/0!", refl)
hash_of errors.Value = (codes "VALUE!", refl)
hash_of errors.Ref = (codes "REF!", refl)
hash_of errors.Name = (codes "NAME?", refl)
hash_of errors.Num = (codes "NUM!", refl)
hash_of errors.Na = (codes "N/A", refl)

-- what is a `#` in upper case is one
upper_hash : (b : ℕ) → to_ascii_uppercase b ≡ 35 → b ≡ 35
upper_hash b e = grind (arith, nat_tests)

-- an error word begins with `#`
pub error_begins : (b : ℕ) (bs : List ℕ) (e : ErrorKind) → capitals (b ∷ bs) ≡ error_word e → b ≡ 35
error_begins b bs e w = let h = hash_of e in upper_hash b (let same = w ∙ h.1 in cc)

-- the error that is written is found
pub error_written : (piece rest : List ℕ) (e : ErrorKind) → capitals piece ≡ error_word e → token_at (piece ++ rest) ≡ Some (tokens.Error e, length piece)
error_written [] rest e w = let some = word_some e in absurd (omega (arith, ap length w))
error_written (b ∷ bs) rest e w =
    let first : 35 ≡ b = sym (error_begins b bs e w) in
    let whole : capitals (b ∷ bs ++ rest) ≡ error_word e ++ capitals rest = map-append to_ascii_uppercase (b ∷ bs) rest ∙ ap (λ x. x ++ capitals rest) w in
    let count : length (error_word e) ≡ length (b ∷ bs) = sym (ap length w) ∙ length-map (b ∷ bs) to_ascii_uppercase in
    let at : token_at (b ∷ bs ++ rest) ≡ error_at (b ∷ bs ++ rest) = subst (λ c. token_at (c ∷ bs ++ rest) ≡ error_at (c ∷ bs ++ rest)) first (at_hash (bs ++ rest)) in
    at
    ∙ (ap (λ c. option_map (λ e. (tokens.Error e, length (error_word e))) (find (λ other. bytes_eq (take (length (error_word other)) c) (error_word other)) all_errors)) whole
    ∙ (ap (option_map (λ e. (tokens.Error e, length (error_word e)))) (error_there e (capitals rest))
    ∙ ap (λ n. Some (tokens.Error e, n)) count))
