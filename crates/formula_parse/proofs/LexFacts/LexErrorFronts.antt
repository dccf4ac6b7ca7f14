-- How much of a text an error word begins with.
use Rattle.std.proofs.Common.{◌≡◌, ℕ, ◌+◌, ◌<◌, ◌≤◌, zero, suc, true, eqb, List, [], ◌∷◌, ◌++◌, map, length, take, drop, get_or, refl, sym, ap, ◌∙◌, arith, ⊎_elim, eqb-true, add-one}
use Rattle.std.proofs.lemmas.Bool.{cases_Bool, cond-true, cond-false, cases_lt}
use Rattle.std.proofs.lemmas.Bool.Decides.{nat_tests}
use Rattle.std.proofs.lemmas.List.{length-map, map-append, take-append-drop, take-map, drop-map}
use Rattle.std.specs.Char.{to_ascii_uppercase}
use Rattle.cell_refs.specs.Written.{capitals}
use Rattle.cell_values.specs.declared.errors.ErrorKind.{ErrorKind}
use Rattle.cell_values.specs.declared.errors.ErrorKind.TheVariants as errors
use Rattle.cell_values.specs.Error.{error_word}
use Rattle.formula_parse.specs.declared.tokens.Token.TheVariants as tokens
use Rattle.formula_parse.specs.Lexing.{common_len, greatest, error_begun, all_errors}
use Rattle.formula_parse.specs.Tokens.{Writes}

-- ---- what two texts have in common
-- what two texts have in common is no more than the second
common_within : (xs ys : List ℕ) → common_len xs ys ≤ length ys
common_within [] ys = omega arith
common_within (x ∷ xs) [] = omega arith
common_within (x ∷ xs) (y ∷ ys) = ⊎_elim
    (λ e. let c : common_len (x ∷ xs) (y ∷ ys) ≡ common_len xs ys + 1 = cond-true _ _ _ e in let h = common_within xs ys in omega arith)
    (λ n. let c : common_len (x ∷ xs) (y ∷ ys) ≡ 0 = cond-false _ _ _ n in omega arith)
    (cases_Bool (eqb x y))

-- what two texts have in common is the front of both
common_front : (xs ys : List ℕ) → take (common_len xs ys) ys ≡ take (common_len xs ys) xs
common_front [] ys = refl
common_front (x ∷ xs) [] = refl
common_front (x ∷ xs) (y ∷ ys) = ⊎_elim
    (λ e.
    let c : common_len (x ∷ xs) (y ∷ ys) ≡ suc (common_len xs ys) = cond-true _ _ _ e ∙ add-one (common_len xs ys) in
    let first : y ≡ x = sym (eqb-true x y e) in
    ap (λ n. take n (y ∷ ys)) c ∙ (ap (λ z. y ∷ z) (common_front xs ys) ∙ (ap (λ b. b ∷ take (common_len xs ys) xs) first ∙ sym (ap (λ n. take n (x ∷ xs)) c))))
    (λ n.
    let c : common_len (x ∷ xs) (y ∷ ys) ≡ 0 = cond-false _ _ _ n in
    ap (λ n. take n (y ∷ ys)) c ∙ sym (ap (λ n. take n (x ∷ xs)) c))
    (cases_Bool (eqb x y))

-- a byte passes the test for itself
same_test : (x y : ℕ) → x ≡ y → eqb x y ≡ true
same_test x y e = grind (arith, nat_tests)

-- what is the front of both is no more than they have in common
common_most : (xs ys more : List ℕ) (n : ℕ) → n ≤ length ys → take n ys ++ more ≡ xs → n ≤ common_len xs ys
common_most xs ys more zero h e = omega arith
common_most xs [] more (suc n) h e = absurd (omega arith)
common_most [] (y ∷ ys) more (suc n) h e = absurd (cc)
common_most (x ∷ xs) (y ∷ ys) more (suc n) h e =
    let first : x ≡ y = cc in
    let rest : take n ys ++ more ≡ xs = cc in
    let c : common_len (x ∷ xs) (y ∷ ys) ≡ common_len xs ys + 1 = cond-true _ _ _ (same_test x y first) in
    let h = common_most xs ys more n (omega arith) rest in
    omega arith

-- ---- the greatest of numbers
-- the greatest of numbers is no more than what none of them exceeds
greatest_below : {X : Type 0} (f : X → ℕ) (k : ℕ) → ((x : X) → f x ≤ k) → (xs : List X) → greatest (map f xs) ≤ k
greatest_below f k h [] = omega arith
greatest_below f k h (x ∷ xs) = let more = greatest_below f k h xs in omega (arith, h x)

-- the greatest of numbers is one of them
greatest_one : {X : Type 0} (f : X → ℕ) (x : X) (xs : List X) → (y : X) × (greatest (map f (x ∷ xs)) ≡ f y)
greatest_one f x [] = (x, omega arith)
greatest_one f x (z ∷ zs) =
    let q = greatest_one f z zs in
    ⊎_elim (λ l. (q.0, (let g = q.1 in omega arith))) (λ l. (x, omega arith)) (cases_lt (f x) (greatest (map f (z ∷ zs))))

-- the greatest of numbers is at least each of them
greatest_at : {X : Type 0} (f : X → ℕ) (xs : List X) (i : ℕ) (d : X) → i < length xs → f (get_or xs i d) ≤ greatest (map f xs)
greatest_at f [] i d h = absurd (omega arith)
greatest_at f (x ∷ xs) zero d h = omega arith
greatest_at f (x ∷ xs) (suc i) d h = let more = greatest_at f xs i d (omega arith) in omega arith

-- the greatest for all error values is at least that for each
greatest_error : (f : ErrorKind → ℕ) (e : ErrorKind) → f e ≤ greatest (map f all_errors)
greatest_error f errors.Null = greatest_at f all_errors 0 errors.Null (omega arith)
greatest_error f errors.Div0 = greatest_at f all_errors 1 errors.Null (omega arith)
greatest_error f errors.Value = greatest_at f all_errors 2 errors.Null (omega arith)
greatest_error f errors.Ref = greatest_at f all_errors 3 errors.Null (omega arith)
greatest_error f errors.Name = greatest_at f all_errors 4 errors.Null (omega arith)
greatest_error f errors.Num = greatest_at f all_errors 5 errors.Null (omega arith)
greatest_error f errors.Na = greatest_at f all_errors 6 errors.Null (omega arith)

-- ---- error words
-- what begins an error word is no more than the text
pub error_begun_within : (text : List ℕ) → error_begun text ≤ length text
error_begun_within text =
    greatest_below (λ e. common_len (error_word e) (capitals text)) (length text) (λ e. let h = common_within (error_word e) (capitals text) in omega (arith, length-map text to_ascii_uppercase)) all_errors

-- an error word is in upper case
word_upper : (e : ErrorKind) → capitals (error_word e) ≡ error_word e
word_upper errors.Null = refl
word_upper errors.Div0 = refl
word_upper errors.Value = refl
word_upper errors.Ref = refl
word_upper errors.Name = refl
word_upper errors.Num = refl
word_upper errors.Na = refl

-- what a text has in common with an error word, and the rest of the word
completed : (text : List ℕ) (e : ErrorKind) (n : ℕ) → n ≡ common_len (error_word e) (capitals text) → capitals (take n text ++ drop n (error_word e)) ≡ error_word e
completed text e n is =
    let front : capitals (take n text) ≡ take n (error_word e) = sym (take-map to_ascii_uppercase n text) ∙ (ap (λ k. take k (capitals text)) is ∙ (common_front (error_word e) (capitals text) ∙ ap (λ k. take k (error_word e)) (sym is))) in
    let back : capitals (drop n (error_word e)) ≡ drop n (error_word e) = sym (drop-map to_ascii_uppercase n (error_word e)) ∙ ap (drop n) (word_upper e) in
    map-append to_ascii_uppercase (take n text) (drop n (error_word e)) ∙ (ap (λ x. x ++ capitals (drop n (error_word e))) front ∙ (ap (λ x. take n (error_word e) ++ x) back ∙ take-append-drop n (error_word e)))

-- the front of an error word goes on to the word
pub error_goes_on : (text : List ℕ) → (more : List ℕ) × (e : ErrorKind) × Writes (take (error_begun text) text ++ more) (tokens.Error e)
error_goes_on text =
    let q = greatest_one (λ e. common_len (error_word e) (capitals text)) errors.Null (errors.Div0 ∷ errors.Value ∷ errors.Ref ∷ errors.Name ∷ errors.Num ∷ errors.Na ∷ []) in
    (drop (error_begun text) (error_word q.0), q.0, completed text q.0 (error_begun text) q.1)

-- no error word goes on with more
pub error_most : (text more : List ℕ) (e : ErrorKind) (n : ℕ) → n ≤ length text → Writes (take n text ++ more) (tokens.Error e) → n ≤ error_begun text
error_most text more e n h w =
    let front : take n (capitals text) ++ capitals more ≡ error_word e = ap (λ x. x ++ capitals more) (take-map to_ascii_uppercase n text) ∙ (sym (map-append to_ascii_uppercase (take n text) more) ∙ w) in
    let most = common_most (error_word e) (capitals text) (capitals more) n (omega (arith, length-map text to_ascii_uppercase)) front in
    let least = greatest_error (λ e. common_len (error_word e) (capitals text)) e in
    omega arith
