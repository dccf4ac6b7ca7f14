-- The least place that passes a test, and a walk over the characters of a text.
use Rattle.std.proofs.Common.{◌≡◌, ◌≢◌, ◌⊎◌, inl, inr, ℕ, zero, suc, ◌+◌, ◌-◌, ◌<◌, ◌≤◌, Bool, cond, eqb, true, false, List, ◌++◌, length, drop, Option, Some, None, refl, sym, ap, ◌∙◌, subst, arith}
use Rattle.std.proofs.lemmas.Bool.{cases_eq}
use Rattle.std.proofs.lemmas.List.{length-drop, drop-drop}
use Rattle.std.proofs.lemmas.Str.{cons_from_encodes, length-le-encodes}
use Rattle.std.specs.List.{find, range_with_len, starts_with}
use Rattle.std.specs.Str.{chars}
use lib.Utf8.{encode, encodes}
use Rattle.functions.specs.Texts.{without_first, stands_behind, offset_of}

pub true_or_false : (b : Bool) → b ≡ true → b ≡ false → ⊥
true_or_false true e f = absurd (cc)
true_or_false false e f = absurd (cc)

first_or_later : (f : ℕ → Bool) (a k : ℕ) (later : Option ℕ) (b : Bool) → f a ≡ b → a ≤ k → f k ≡ true → ((j : ℕ) → a ≤ j → j < k → f j ≡ false) → (a + 1 ≤ k → later ≡ Some k) → cond b (Some a) later ≡ Some k
first_or_later f a k later true e low is none rest =
    let no : a < k → ⊥ = λ h. true_or_false (f a) e (none a (omega arith) h) in
    let same : a ≡ k = omega (arith, no) in
    ap Some same
first_or_later f a k later false e low is none rest =
    let no : a ≢ k = λ h. true_or_false (f k) is (subst (λ (i : ℕ). f i ≡ false) h e) in
    rest (omega (arith, no))

find_first : (f : ℕ → Bool) (a n k : ℕ) → a ≤ k → k < a + n → f k ≡ true → ((j : ℕ) → a ≤ j → j < k → f j ≡ false) → find f (range_with_len a n) ≡ Some k
find_first f a zero k low high is none = absurd (omega arith)
find_first f a (suc n) k low high is none =
    first_or_later f a k (find f (range_with_len (a + 1) n)) (f a) refl low is none
    (λ h. find_first f (a + 1) n k h (omega arith) is (λ j p q. none j (omega arith) q))

find_nowhere : (f : ℕ → Bool) (a n : ℕ) → ((j : ℕ) → a ≤ j → j < a + n → f j ≡ false) → find f (range_with_len a n) ≡ None
find_nowhere f a zero none = refl
find_nowhere f a (suc n) none =
    ap (λ c. cond c (Some a) (find f (range_with_len (a + 1) n))) (none a (omega arith) (omega arith)) ∙
    find_nowhere f (a + 1) n (λ j p q. none j (omega arith) (omega arith))

-- the least place at which a text stands
pub found_at : (p t : List ℕ) (least before : ℕ) → least ≤ before → before < length (chars t) + 1 → stands_behind p t before ≡ true → ((k : ℕ) → least ≤ k → k < before → stands_behind p t k ≡ false) →
    Some before ≡ offset_of p t least
found_at p t least before low high is none = sym (find_first (stands_behind p t) least (length (chars t) + 1 - least) before low (omega arith) is none)

-- a text stands nowhere
pub found_nowhere : (p t : List ℕ) (least : ℕ) → ((k : ℕ) → least ≤ k → k < length (chars t) + 1 → stands_behind p t k ≡ false) → None ≡ offset_of p t least
found_nowhere p t least none = sym (find_nowhere (stands_behind p t) least (length (chars t) + 1 - least) (λ j p q. none j p (omega arith)))

-- a step over one character
pub next_place : (rest tail t : List ℕ) (n c : ℕ) → rest ≡ without_first n t → rest ≡ encode c ++ tail → tail ≡ without_first (n + 1) t
next_place rest tail t n c here e =
    let split = cons_from_encodes (drop n (chars t)) tail c (sym here ∙ e) in
    let next : drop (n + 1) (chars t) ≡ split.0 = sym (drop-drop 1 n (chars t)) ∙ ap (drop 1) split.1 in
    sym split.2 ∙ ap encodes (sym next)

-- where nothing is left, the characters are behind
pub at_end : (rest t : List ℕ) (n : ℕ) → rest ≡ without_first n t → length rest ≡ 0 → length (chars t) ≤ n
at_end rest t n here none =
    let small : length (drop n (chars t)) ≤ length rest = subst (λ (r : List ℕ). length (drop n (chars t)) ≤ length r) (sym here) (length-le-encodes (drop n (chars t))) in
    omega (arith, length-drop n (chars t))

-- what a look at a place says
pub stands_here : (pattern shown_pattern rest shown t : List ℕ) (n : ℕ) (b : Bool) → shown ≡ rest → rest ≡ without_first n t → shown_pattern ≡ pattern → b ≡ starts_with eqb shown shown_pattern → stands_behind pattern t n ≡ b
stands_here pattern shown_pattern rest shown t n b same here is e =
    sym (e ∙ (ap (λ s. starts_with eqb s shown_pattern) (same ∙ here) ∙ ap (starts_with eqb (without_first n t)) is))

one_more : (f : ℕ → Bool) (least n k : ℕ) → (k ≡ n) ⊎ (k ≡ n → ⊥) → ((j : ℕ) → least ≤ j → j < n → f j ≡ false) → f n ≡ false → least ≤ k → k < n + 1 → f k ≡ false
one_more f least n k (inl same) below here low high = ap f same ∙ here
one_more f least n k (inr other) below here low high = below k low (omega (arith, other))

-- no place up to the last one that was looked at
pub until : (p t : List ℕ) (least n : ℕ) → ((k : ℕ) → least ≤ k → k < n → stands_behind p t k ≡ false) → stands_behind p t n ≡ false → (k : ℕ) → least ≤ k → k < n + 1 → stands_behind p t k ≡ false
until p t least n below here k low high = one_more (stands_behind p t) least n k (cases_eq k n) below here low high
