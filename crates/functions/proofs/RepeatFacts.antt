-- A text repeated.
use Rattle.std.proofs.Common.{◌≡◌, ℕ, zero, suc, ◌+◌, ◌*◌, ◌/◌, ◌<◌, cond, leb, true, false, List, [], ◌++◌, length, Some, None, refl, sym, ap, ◌∙◌, subst, add-one, zero-mul, append_assoc, arith}
use Rattle.std.proofs.lemmas.Bool.{lt-leb}
use Rattle.std.proofs.lemmas.Bool.Decides.{nat_tests}
use Rattle.std.proofs.lemmas.List.{append-nil, length-append, nil_from_length}
use Rattle.std.proofs.lemmas.Str.{chars-encodes, encodes-chars, encodes-append}
use Rattle.std.specs.List.{repeat}
use Rattle.std.specs.Str.{IsUtf8, chars}
use lib.Utf8.{encodes}
use Rattle.cell_values.specs.Text.{is_text, if_short}
use Rattle.cell_values.specs.Word.{text_of_bytes}
use Rattle.functions.proofs.PlainFacts.{Plain, plain_parts, plain_append, plain_nil, text_if_short}

past_quotient : (m k n : ℕ) → 0 < k → m / k < n → m < n * k
past_quotient m k n some h = grind arith

repeat_suc : (n : ℕ) (s : List ℕ) → repeat n s ++ s ≡ repeat (suc n) s
repeat_suc zero s = sym (append-nil s)
repeat_suc (suc n) s = append_assoc s (repeat n s) s ∙ ap (λ t. s ++ t) (repeat_suc n s)

-- once more
pub repeat_more : (n : ℕ) (s : List ℕ) → repeat n s ++ s ≡ repeat (n + 1) s
repeat_more n s = repeat_suc n s ∙ ap (λ k. repeat k s) (sym (add-one n))

repeat_encodes : (n : ℕ) (cs : List ℕ) → repeat n (encodes cs) ≡ encodes (repeat n cs)
repeat_encodes zero cs = refl
repeat_encodes (suc n) cs = ap (λ t. encodes cs ++ t) (repeat_encodes n cs) ∙ sym (encodes-append cs (repeat n cs))

plain_repeat : (n : ℕ) (cs : List ℕ) → Plain cs → Plain (repeat n cs)
plain_repeat zero cs plain = plain_nil
plain_repeat (suc n) cs plain = plain_append cs (repeat n cs) plain (plain_repeat n cs plain)

step_length : (n k : ℕ) → k + n * k ≡ suc n * k
step_length n k = grind arith

length_repeat : (n : ℕ) (cs : List ℕ) → length (repeat n cs) ≡ n * length cs
length_repeat zero cs = sym (zero-mul (length cs))
length_repeat (suc n) cs = length-append cs (repeat n cs) ∙ (ap (λ k. length cs + k) (length_repeat n cs) ∙ step_length n (length cs))

repeat_nil : (n : ℕ) → repeat n (encodes []) ≡ []
repeat_nil zero = refl
repeat_nil (suc n) = repeat_nil n

-- a text repeated, by its characters
repeat_text : (n : ℕ) (t : List ℕ) → IsUtf8 t → repeat n t ≡ encodes (repeat n (chars t))
repeat_text n t utf8 = ap (repeat n) (sym (encodes-chars t utf8)) ∙ repeat_encodes n (chars t)

-- a text repeated is a text unless it is too long
pub repeat_if_short : (n : ℕ) (t : List ℕ) → is_text t ≡ true → text_of_bytes (repeat n t) ≡ if_short (repeat n t)
repeat_if_short n t e =
    let p = plain_parts t e in
    let same = repeat_text n t p.utf8 in
    ap text_of_bytes same ∙ (text_if_short (repeat n (chars t)) (plain_repeat n (chars t) p.plain) ∙ ap if_short (sym same))

-- the empty text repeated
pub repeat_empty : (n : ℕ) (t : List ℕ) → is_text t ≡ true → length (chars t) ≡ 0 → text_of_bytes [] ≡ if_short (repeat n t)
repeat_empty n t e none =
    let p = plain_parts t e in
    let empty : t ≡ encodes [] = sym (encodes-chars t p.utf8) ∙ ap encodes (nil_from_length (chars t) none) in
    text_if_short [] plain_nil ∙ ap if_short (sym (ap (repeat n) empty ∙ repeat_nil n))

-- a text repeated too often
pub repeat_too_long : (n : ℕ) (t : List ℕ) → is_text t ≡ true → 0 < length (chars t) → 32767 / length (chars t) < n → None ≡ if_short (repeat n t)
repeat_too_long n t e some often =
    let p = plain_parts t e in
    let cs = repeat n (chars t) in
    let long : length (chars (encodes cs)) ≡ n * length (chars t) =
    ap length (chars-encodes cs (plain_repeat n (chars t) p.plain).scalar) ∙ length_repeat n (chars t) in
    let over : 32767 < n * length (chars t) = past_quotient 32767 (length (chars t)) n some often in
    sym (ap (λ b. cond b (Some (repeat n t)) None) (lt-leb (length (chars (repeat n t))) 32767 (subst (λ (k : ℕ). 32767 < k) (sym (ap (λ s. length (chars s)) (repeat_text n t p.utf8) ∙ long)) over)))
