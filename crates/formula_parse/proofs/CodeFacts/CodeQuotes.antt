-- The content of a text between quotes, as the code cuts it at each `"`.
use Rattle.std.proofs.Common.{◌≡◌, ℕ, ◌+◌, ◌-◌, ◌*◌, zero, suc, ◌<◌, ◌≤◌, Bool, true, false, cond, eqb, ◌||◌, List, [], ◌∷◌, ◌++◌, length, get_or, drop, Option, Some, None, refl, ap, sym, ◌∙◌, subst, append_assoc, append-nil, length-append, arith}
use Rattle.std.proofs.lemmas.Bool.Decides.{nat_tests}
use Rattle.std.proofs.lemmas.Iterator.Adapters.{position_from-zero}
use Rattle.std.proofs.Math.Seq.{get_or-append_seam}
use Rattle.std.proofs.lemmas.List.{drop_at}
use Rattle.std.proofs.lemmas.Str.{IsUtf8-drop, IsCharBoundary-after_ascii}
use Rattle.std.specs.Char.{is_ascii_control}
use Rattle.std.specs.List.{list_any, position, position_from}
use Rattle.std.specs.Option.{option_map}
use Rattle.std.specs.Str.{IsUtf8, chars, chars_after, continuation_len, lead_bits}
use Rattle.formula_parse.specs.Lexing.{content_at, text_behind}

-- no `"` among bytes
abbrev pub HasNoQuote : List ℕ → Type 0
HasNoQuote xs = (i : ℕ) → i < length xs → get_or xs i 0 ≡ 34 → ⊥

-- what is found behind bytes, and behind a byte of so many
abbrev pub behind : List ℕ → ℕ → Option (List ℕ × ℕ) → Option (List ℕ × ℕ)
behind done n o = option_map (λ found. (done ++ found.0, n + found.1)) o

abbrev behind_byte : ℕ → ℕ → Option (List ℕ × ℕ) → Option (List ℕ × ℕ)
behind_byte c k o = option_map (λ found. (c ∷ found.0, found.1 + k)) o

other_byte : {A : Type 0} (c : ℕ) (x y : A) → (c ≡ 34 → ⊥) → cond (eqb c 34) x y ≡ y
other_byte c x y h = let e : eqb c 34 ≡ false = grind (arith, nat_tests) in rw e refl

tail_has_none : (c : ℕ) (cs : List ℕ) → HasNoQuote (c ∷ cs) → HasNoQuote cs
tail_has_none c cs h i l e = h (suc i) (omega arith) e

head_is_none : (c : ℕ) (cs : List ℕ) → HasNoQuote (c ∷ cs) → c ≡ 34 → ⊥
head_is_none c cs h e = h 0 (omega arith) e

-- without a `"` nothing closes the content
content_none : (bs : List ℕ) → HasNoQuote bs → content_at bs ≡ None
content_none [] h = refl
content_none (c ∷ []) h = other_byte c _ _ (head_is_none c [] h)
content_none (c ∷ d ∷ cs) h = other_byte c _ _ (head_is_none c (d ∷ cs) h) ∙ ap (behind_byte c 1) (content_none (d ∷ cs) (tail_has_none c (d ∷ cs) h))

-- a byte that is no `"`
content_more : (c : ℕ) (rest : List ℕ) → (c ≡ 34 → ⊥) → 0 < length rest → content_at (c ∷ rest) ≡ behind_byte c 1 (content_at rest)
content_more c [] h l = absurd (omega arith)
content_more c (d ∷ ds) h l = other_byte c _ _ h

-- bytes without a `"` before more
content_before : (before rest : List ℕ) → 0 < length rest → HasNoQuote before → content_at (before ++ rest) ≡ behind before (length before) (content_at rest)
content_before [] rest l h = same (content_at rest)
  where
    same : (o : Option (List ℕ × ℕ)) → o ≡ behind [] 0 o
    same None = refl
    same (Some found) = ap (λ n. Some (found.0, n)) (omega arith)
content_before (c ∷ cs) rest l h =
    content_more c (cs ++ rest) (head_is_none c cs h) (omega (arith, length-append cs rest))
    ∙ (ap (behind_byte c 1) (content_before cs rest l (tail_has_none c cs h))
    ∙ both (content_at rest))
  where
    both : (o : Option (List ℕ × ℕ)) → behind_byte c 1 (behind cs (length cs) o) ≡ behind (c ∷ cs) (length (c ∷ cs)) o
    both None = refl
    both (Some found) = ap (λ n. Some (c ∷ (cs ++ found.0), n)) (omega arith)

content_closed : (after : List ℕ) → ((next : List ℕ) → after ≡ 34 ∷ next → ⊥) → content_at (34 ∷ after) ≡ Some ([], 1)
content_closed [] h = refl
content_closed (d ∷ ds) h = other_byte d _ _ (λ e. h ds (ap (λ x. x ∷ ds) e))

-- the content of the whole is what is done, and the content of the rest
abbrev pub IsDone : List ℕ → List ℕ → ℕ → List ℕ → Type 0
IsDone whole done n rest = content_at whole ≡ behind done n (content_at rest)

-- a doubled `"`
pub doubled : (whole done more rest before after next : List ℕ) (n m : ℕ) → IsDone whole done n rest → rest ≡ before ++ (34 ∷ after) → HasNoQuote before → after ≡ 34 ∷ next → more ≡ (done ++ before) ++ (34 ∷ []) → m ≡ n + length before + 2 → IsDone whole more m next
doubled whole done more rest before after next n m w r h a e k =
    w ∙ (ap (behind done n) (ap content_at (r ∙ ap (λ x. before ++ (34 ∷ x)) a) ∙ content_before before (34 ∷ 34 ∷ next) (omega arith) h)
    ∙ rw e (all (content_at next)))
  where
    all : (o : Option (List ℕ × ℕ)) → behind done n (behind before (length before) (behind_byte 34 2 o)) ≡ behind ((done ++ before) ++ (34 ∷ [])) m o
    all None = refl
    all (Some found) =
        ap (λ x. Some (x, n + (length before + (found.1 + 2)))) (sym (append_assoc (done ++ before) (34 ∷ []) found.0 ∙ append_assoc done before (34 ∷ found.0)))
        ∙ ap (λ x. Some (((done ++ before) ++ (34 ∷ [])) ++ found.0, x)) (omega arith)

-- a `"` that closes
pub closed : (whole done all rest before after : List ℕ) (n m : ℕ) → IsDone whole done n rest → rest ≡ before ++ (34 ∷ after) → HasNoQuote before → ((next : List ℕ) → after ≡ 34 ∷ next → ⊥) → all ≡ done ++ before → m ≡ n + length before + 1 → content_at whole ≡ Some (all, m)
closed whole done all rest before after n m w r h a e k =
    w ∙ (ap (behind done n) (ap content_at r ∙ (content_before before (34 ∷ after) (omega arith) h ∙ ap (behind before (length before)) (content_closed after a)))
    ∙ (ap (λ x. Some (done ++ x, n + (length before + 1))) (append-nil before) ∙ (ap (λ x. Some (x, n + (length before + 1))) (sym e) ∙ ap (λ x. Some (all, x)) (omega arith))))

-- no `"` in the rest
pub unclosed : (whole done rest : List ℕ) (n : ℕ) → IsDone whole done n rest → HasNoQuote rest → content_at whole ≡ None
unclosed whole done rest n w h = w ∙ ap (behind done n) (content_none rest h)

-- what is found is shorter than its length, which is that of the text at most
abbrev pub IsWithin : List ℕ → Option (List ℕ × ℕ) → Type 0
IsWithin text None = Unit {0}
IsWithin text (Some found) = (length found.0 < found.1) × (found.1 ≤ length text)

pub content_within : (text : List ℕ) → IsWithin text (content_at text)
content_within [] = tt
content_within (c ∷ []) = one (eqb c 34)
  where
    one : (b : Bool) → IsWithin (c ∷ []) (cond b (Some ([], 1)) None)
    one true = (omega arith, omega arith)
    one false = tt
content_within (c ∷ d ∷ cs) = two (eqb c 34) (eqb d 34) (content_at cs) (content_at (d ∷ cs)) (content_within cs) (content_within (d ∷ cs))
  where
    two : (a b : Bool) (o p : Option (List ℕ × ℕ)) → IsWithin cs o → IsWithin (d ∷ cs) p → IsWithin (c ∷ d ∷ cs) (cond a (cond b (behind_byte 34 2 o) (Some ([], 1))) (behind_byte c 1 p))
    two true true None p h k = tt
    two true true (Some x) p h k = (omega arith, omega arith)
    two true false o p h k = (omega arith, omega arith)
    two false b o None h k = tt
    two false b o (Some x) h k = (omega arith, omega arith)

pub found_within : (text : List ℕ) (found : List ℕ × ℕ) → content_at text ≡ Some found → (length found.0 < found.1) × (found.1 ≤ length text)
found_within text found e = subst (IsWithin text) e (content_within text)

-- there are no more characters than bytes
chars_after_short : (n c : ℕ) (bs : List ℕ) → length (chars_after n c bs) ≤ length bs + 1
chars_after_short zero c [] = omega arith
chars_after_short zero c (b ∷ bs) = omega (arith, chars_after_short (continuation_len b) (lead_bits b) bs)
chars_after_short (suc n) c [] = omega arith
chars_after_short (suc n) c (b ∷ bs) = omega (arith, chars_after_short n (c * 64 + (b - 128)) bs)

pub chars_short : (bs : List ℕ) → length (chars bs) ≤ length bs
unfolding chars
chars_short [] = omega arith
chars_short (b ∷ bs) = omega (arith, chars_after_short (continuation_len b) (lead_bits b) bs)

-- where some place passes a test, some byte does
some_from : (test : ℕ → Bool) (i p : ℕ) (xs : List ℕ) → position_from test i xs ≡ Some p → list_any test xs ≡ true
some_from test i p [] e = absurd (cc)
some_from test i p (x ∷ xs) e = step (test x) (list_any test xs) e (λ h. some_from test (i + 1) p xs h)
  where
    step : (b r : Bool) → cond b (Some i) (position_from test (i + 1) xs) ≡ Some p → (position_from test (i + 1) xs ≡ Some p → r ≡ true) → (b || r) ≡ true
    step true r e h = refl
    step false r e h = h e

pub some_passes : (test : ℕ → Bool) (p : ℕ) (xs : List ℕ) → position test xs ≡ Some p → list_any test xs ≡ true
some_passes test p xs e = some_from test 0 p xs (sym (position_from-zero test xs) ∙ e)

-- what stands behind a `"` in UTF-8 is UTF-8
utf8_after : (before after : List ℕ) → IsUtf8 (before ++ (34 ∷ after)) → IsUtf8 after
utf8_after before after u =
    let bs = before ++ (34 ∷ after) in
    let n : length bs ≡ length before + suc (length after) = length-append before (34 ∷ after) in
    let cut : drop (length before + 1) bs ≡ after = ap (drop (length before + 1)) (sym (append_assoc before (34 ∷ []) after)) ∙ drop_at (before ++ (34 ∷ [])) after (length before + 1) (length-append before (34 ∷ [])) in
    subst IsUtf8 cut (IsUtf8-drop bs (length before + 1) u (IsCharBoundary-after_ascii bs (length before) u (omega arith) (omega (arith, get_or-append_seam before 34 after 0))))

pub utf8_next : (rest before after next : List ℕ) → IsUtf8 rest → rest ≡ before ++ (34 ∷ after) → after ≡ 34 ∷ next → IsUtf8 next
utf8_next rest before after next u r a = utf8_after [] next (subst IsUtf8 a (utf8_after before after (subst IsUtf8 r u)))

-- a content with a control character is no text
pub control_found : (rest content : List ℕ) (len place : ℕ) → content_at rest ≡ Some (content, len) → position is_ascii_control content ≡ Some place → text_behind rest ≡ None
control_found rest content len place e f = rw (e, some_passes is_ascii_control place content f) refl

-- a content of a short text isn't too long
pub not_too_long : (rest content : List ℕ) (len : ℕ) → length rest ≤ 32768 → content_at rest ≡ Some (content, len) → 32767 < length (chars content) → ⊥
not_too_long rest content len short e long = omega (arith, chars_short content, found_within rest (content, len) e)
