-- A token at the front of a text, by the first byte.
use Rattle.std.proofs.Common.{◌≡◌, ℕ, ◌<◌, Bool, true, false, cond, ◌||◌, ◌&&◌, eqb, List, [], ◌∷◌, ◌++◌, length, slice_index, Option, Some, refl, ap, subst, ◌∙◌, arith, ◌⊎◌, inl, inr, ⊎_elim, eqb-true, lt-ltb, le-ltb}
use Rattle.std.proofs.lemmas.Bool.{cases_Bool, cond-true, cond-false}
use Rattle.std.proofs.lemmas.Bool.Decides.{nat_tests}
use Rattle.std.proofs.lemmas.List.{length-append}
use Rattle.std.proofs.Math.Seq.{get_or-append_seam}
use Rattle.std.specs.Char.{is_ascii_digit, is_ascii_alphabetic}
use Rattle.formula_parse.specs.declared.tokens.Token.{Token}
use Rattle.formula_parse.specs.Lexing.{token_at, number_at, text_behind, error_at, word_at, mark_at, passes_at}
use Rattle.formula_parse.specs.Tokens.{Writes, goes_on, goes_on_with}

-- whether the first byte passes a test
abbrev pub first_passes : (ℕ → Bool) → List ℕ → Bool
first_passes p [] = false
first_passes p (c ∷ cs) = p c

-- the byte behind a front is the first of the rest
pub passes_seam : (p : ℕ → Bool) (front rest : List ℕ) → passes_at p (front ++ rest) (length front) ≡ first_passes p rest
passes_seam p front [] = ap (λ b. b && p (slice_index (front ++ []) (length front))) (le-ltb (length front) (length (front ++ [])) (omega (arith, length-append front [])))
passes_seam p front (c ∷ cs) =
    ap (λ b. b && p (slice_index (front ++ c ∷ cs) (length front))) (lt-ltb (length front) (length (front ++ c ∷ cs)) (omega (arith, length-append front (c ∷ cs))))
    ∙ ap p (get_or-append_seam front c cs 0)

-- the same of the first byte, read where there may be none
pub passes_first : (p : ℕ → Bool) (rest : List ℕ) → p 0 ≡ false → p (slice_index rest 0) ≡ first_passes p rest
passes_first p [] none = none
passes_first p (c ∷ cs) none = refl

-- a token that goes on with a byte goes on with the text that begins with it
pub goes_on_first : (token : Token) (rest : List ℕ) → goes_on_with token rest ≡ first_passes (goes_on token) rest
goes_on_first token [] = refl
goes_on_first token (c ∷ cs) = refl

-- no byte goes on with a token that nothing goes on with
pub never : (rest : List ℕ) → first_passes (λ b. false) rest ≡ false
never [] = refl
never (c ∷ cs) = refl

-- a token of this length is written at the front of the text, and nothing goes on with it
pub record Found (text : List ℕ) (token : Token) (n : ℕ) : Type 0 where
  pub piece : List ℕ
  pub rest : List ℕ
  pub whole : text ≡ piece ++ rest
  pub count : n ≡ length piece
  pub some : 0 < n
  pub writes : Writes piece token
  pub stops : first_passes (goes_on token) rest ≡ false

-- the same token and length under other names
pub found_as : (text : List ℕ) (t token : Token) (m n : ℕ) → ◌≡◌ {A = Option (Token × ℕ)} (Some (t, m)) (Some (token, n)) → Found text t m → Found text token n
found_as text t token m n e f =
    let pair : ◌≡◌ {A = Token × ℕ} (t, m) (token, n) = cc in
    subst (λ (p : Token × ℕ). Found text p.0 p.1) pair f

-- one of two answers of a test
pub chosen : {A : Type 0} (b : Bool) (x y z : A) → cond b x y ≡ z → ((b ≡ true) × (x ≡ z)) ⊎ ((b ≡ false) × (y ≡ z))
chosen true x y z e = inl (refl, e)
chosen false x y z e = inr (refl, e)

-- ---- the five kinds of a first byte
-- a digit begins a number
pub at_digit : (b : ℕ) (rest : List ℕ) → is_ascii_digit b ≡ true → token_at (b ∷ rest) ≡ number_at (b ∷ rest)
unfolding token_at
at_digit b rest d = cond-true _ _ _ d

-- a `"` begins a text
pub at_quote : (rest : List ℕ) → token_at (34 ∷ rest) ≡ text_behind rest
unfolding token_at
at_quote rest = refl

-- a `#` begins an error value
pub at_hash : (rest : List ℕ) → token_at (35 ∷ rest) ≡ error_at (35 ∷ rest)
unfolding token_at
at_hash rest = refl

-- whether a byte begins a word: a letter or a `$`
abbrev pub begins_word : ℕ → Bool
begins_word b = is_ascii_alphabetic b || eqb b 36

-- a byte that begins no token but one of marks
pub record IsMark (b : ℕ) : Type 0 where
  pub no_digit : is_ascii_digit b ≡ false
  pub no_quote : eqb b 34 ≡ false
  pub no_hash : eqb b 35 ≡ false
  pub no_word : begins_word b ≡ false

-- a letter or a `$` is no digit, no `"` and no `#`
pub word_is : (b : ℕ) → begins_word b ≡ true → (is_ascii_digit b ≡ false) × (eqb b 34 ≡ false) × (eqb b 35 ≡ false)
word_is b w = (grind (arith, nat_tests), grind (arith, nat_tests), grind (arith, nat_tests))

-- a letter or a `$` begins a word
pub at_word : (b : ℕ) (rest : List ℕ) → begins_word b ≡ true → token_at (b ∷ rest) ≡ word_at (b ∷ rest)
unfolding token_at
at_word b rest w = let p = word_is b w in cond-false _ _ _ p.0 ∙ (cond-false _ _ _ p.1 ∙ (cond-false _ _ _ p.2 ∙ cond-true _ _ _ w))

-- another byte begins a mark or nothing
pub at_mark : (b : ℕ) (rest : List ℕ) → IsMark b → token_at (b ∷ rest) ≡ mark_at b rest
unfolding token_at
at_mark b rest m = cond-false _ _ _ m.no_digit ∙ (cond-false _ _ _ m.no_quote ∙ (cond-false _ _ _ m.no_hash ∙ cond-false _ _ _ m.no_word))

-- what holds by each kind of a first byte holds
pub by_first : {P : Type 0} (b : ℕ) → (is_ascii_digit b ≡ true → P) → (b ≡ 34 → P) → (b ≡ 35 → P) → (begins_word b ≡ true → P) → (IsMark b → P) → P
by_first b digit quote hash word mark =
    ⊎_elim digit
    (λ d. ⊎_elim (λ q. quote (eqb-true b 34 q))
    (λ q. ⊎_elim (λ h. hash (eqb-true b 35 h))
    (λ h. ⊎_elim word (λ w. mark (record { no_digit = d; no_quote = q; no_hash = h; no_word = w })) (cases_Bool (begins_word b)))
    (cases_Bool (eqb b 35)))
    (cases_Bool (eqb b 34)))
    (cases_Bool (is_ascii_digit b))
