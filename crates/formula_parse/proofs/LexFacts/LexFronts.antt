-- Fronts of lists.
use Rattle.std.proofs.Common.{◌≡◌, ℕ, ◌+◌, ◌<◌, ◌≤◌, zero, suc, Bool, true, List, [], ◌∷◌, ◌++◌, length, take, drop, take_while, refl, ap, ◌∙◌, arith, ◌⊎◌, ⊎_elim, inl, inr}
use Rattle.std.proofs.lemmas.Bool.{cases_Bool, cond-true, cond-false, and_parts, and_from}
use Rattle.std.proofs.lemmas.List.Sums.{take_while-cons}
use Rattle.std.specs.List.{list_all}

-- a front of a text that is a front of a piece too: it ends within the piece, or the piece is a front of the text
pub record Inside (text piece : List ℕ) (m : ℕ) : Type 0 where
  pub less : m < length piece
  pub whole : take m text ++ drop m piece ≡ piece

-- the piece is a front of the text, of which so many bytes more are taken
pub record Beyond (text more piece others : List ℕ) (m : ℕ) : Type 0 where
  pub left : List ℕ
  pub count : ℕ
  pub whole : text ≡ piece ++ left
  pub place : m ≡ length piece + count
  pub within : count ≤ length left
  pub agrees : take count left ++ more ≡ others

-- which of the two ends first
pub compared : (text more piece others : List ℕ) (m : ℕ) → m ≤ length text → take m text ++ more ≡ piece ++ others → Inside text piece m ⊎ Beyond text more piece others m
compared text more [] others m h e = inr (record { left = text; count = m; whole = refl; place = omega arith; within = h; agrees = e })
compared text more (c ∷ cs) others zero h e = inl (record { less = omega arith; whole = refl })
compared [] more (c ∷ cs) others (suc k) h e = absurd (omega arith)
compared (t ∷ ts) more (c ∷ cs) others (suc k) h e =
    let first : t ≡ c = cc in
    let rest : take k ts ++ more ≡ cs ++ others = cc in
    ⊎_elim
    (λ i. inl (record { less = (let l = i.less in omega arith); whole = ap (λ b. b ∷ (take k ts ++ drop k cs)) first ∙ ap (λ x. c ∷ x) i.whole }))
    (λ b. inr (record { left = b.left; count = b.count; whole = ap (λ d. d ∷ ts) first ∙ ap (λ x. c ∷ x) b.whole; place = (let p = b.place in omega arith); within = b.within; agrees = b.agrees }))
    (compared ts more cs others k (omega arith) rest)

-- the front of a text is a front of the piece that it goes on to
pub front_of_piece : (text more piece others : List ℕ) (m : ℕ) → m ≤ length text → m ≤ length piece → take m text ++ more ≡ piece ++ others → (left : List ℕ) × (take m text ++ left ≡ piece)
front_of_piece text more piece others zero h l e = (piece, refl)
front_of_piece [] more piece others (suc k) h l e = absurd (omega arith)
front_of_piece (t ∷ ts) more [] others (suc k) h l e = absurd (omega arith)
front_of_piece (t ∷ ts) more (c ∷ cs) others (suc k) h l e =
    let first : t ≡ c = cc in
    let rest : take k ts ++ more ≡ cs ++ others = cc in
    let f = front_of_piece ts more cs others k (omega arith) (omega arith) rest in
    (f.0, ap (λ b. b ∷ (take k ts ++ f.0)) first ∙ ap (λ x. c ∷ x) f.1)

-- the bytes of a front pass where all do
pub front_passes : (p : ℕ → Bool) (xs ys : List ℕ) → list_all p (xs ++ ys) ≡ true → list_all p xs ≡ true
front_passes p [] ys h = refl
front_passes p (x ∷ xs) ys h = let q = and_parts (p x) _ h in and_from _ _ q.0 (front_passes p xs ys q.1)

-- a front no longer than the longest that passes passes
pub short_passes : (p : ℕ → Bool) (text : List ℕ) (k : ℕ) → k ≤ length (take_while p text) → list_all p (take k text) ≡ true
short_passes p text zero h = refl
short_passes p [] (suc k) h = refl
short_passes p (c ∷ cs) (suc k) h = ⊎_elim
    (λ y. let e = ap length (take_while-cons p c cs ∙ cond-true (p c) _ _ y) in and_from _ _ y (short_passes p cs k (omega arith)))
    (λ n. let e = ap length (take_while-cons p c cs ∙ cond-false (p c) _ _ n) in absurd (omega arith))
    (cases_Bool (p c))

-- a front that passes is no longer than the longest
pub passing_short : (p : ℕ → Bool) (text : List ℕ) (k : ℕ) → k ≤ length text → list_all p (take k text) ≡ true → k ≤ length (take_while p text)
passing_short p text zero h all = omega arith
passing_short p [] (suc k) h all = absurd (omega arith)
passing_short p (c ∷ cs) (suc k) h all =
    let q = and_parts (p c) (list_all p (take k cs)) all in
    let more = passing_short p cs k (omega arith) q.1 in
    let e = ap length (take_while-cons p c cs ∙ cond-true (p c) _ _ q.0) in
    omega arith

-- the longest front that passes is no longer than the text
pub passing_within : (p : ℕ → Bool) (text : List ℕ) → length (take_while p text) ≤ length text
passing_within p [] = omega arith
passing_within p (c ∷ cs) = ⊎_elim
    (λ y. let e = ap length (take_while-cons p c cs ∙ cond-true (p c) _ _ y) in let h = passing_within p cs in omega arith)
    (λ n. let e = ap length (take_while-cons p c cs ∙ cond-false (p c) _ _ n) in omega arith)
    (cases_Bool (p c))
