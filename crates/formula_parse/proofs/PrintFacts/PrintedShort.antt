-- What is printed is UTF-8, and has no more characters than the text that was read.
use Rattle.std.proofs.Common.{◌≡◌, inl, inr, ℕ, suc, ◌+◌, ◌<◌, ◌≤◌, true, ◌==◌, List, [], ◌∷◌, ◌++◌, length, get_or, refl, sym, ap, ◌∙◌, subst, arith, append_assoc, IsAscii, eqb-true}
use Rattle.std.specs.List.{flat_map}
use Rattle.std.specs.Str.{IsUtf8, chars, IsCharBoundary}
use Rattle.std.proofs.Math.Seq.{take-append_seam, drop-append_seam}
use Rattle.std.proofs.lemmas.Bool.{and_parts}
use Rattle.std.proofs.lemmas.List.{length-append}
use Rattle.std.proofs.lemmas.Str.{IsUtf8-append, IsUtf8-nil, IsUtf8-from_ascii, IsUtf8-take, IsUtf8-drop, IsCharBoundary-from_take, IsCharBoundary-after_ascii, chars-append, chars-IsAscii, chars-nil, IsUtf8-from_is_utf8, is_utf8-from_IsUtf8}
use Rattle.std.proofs.lemmas.Str.Ascii.{IsAscii-nil, IsAscii-cons}
use Rattle.formula_parse.specs.declared.tokens.Token.{Token}
use Rattle.formula_parse.specs.Faults.{IsShort}
use Rattle.formula_parse.specs.Printing.{token_text}
use Rattle.formula_parse.specs.Tokens.{IsSpelled, are_spaces}
use Rattle.formula_parse.proofs.NamingTokens.{Each}
use Rattle.formula_parse.proofs.PrintFacts.PrintedPieces.{IsNoLonger, IsShorter, no_longer}
use Rattle.formula_parse.proofs.PrintFacts.PrintedThinned.{IsThinned}

-- ---- cutting UTF-8
-- a text behind a part that ends where a character ends
rest_utf8 : (xs ys : List ℕ) → IsUtf8 (xs ++ ys) → IsCharBoundary (xs ++ ys) (length xs) → IsUtf8 ys
rest_utf8 xs ys u b = subst IsUtf8 (drop-append_seam xs ys) (IsUtf8-drop (xs ++ ys) (length xs) u b)

-- the part before it
front_utf8 : (xs ys : List ℕ) → IsUtf8 (xs ++ ys) → IsCharBoundary (xs ++ ys) (length xs) → IsUtf8 xs
front_utf8 xs ys u b = subst IsUtf8 (take-append_seam xs ys) (IsUtf8-take (xs ++ ys) (length xs) u b)

-- behind UTF-8 a character ends
behind_utf8 : (xs ys : List ℕ) → IsUtf8 xs → IsUtf8 (xs ++ ys) → IsCharBoundary (xs ++ ys) (length xs)
behind_utf8 xs ys f u = IsCharBoundary-from_take (xs ++ ys) (length xs) u (omega (arith, length-append xs ys)) (subst IsUtf8 (sym (take-append_seam xs ys)) f)

-- the byte at a seam
byte_at : (front rest : List ℕ) (b : ℕ) → get_or (front ++ b ∷ rest) (length front) 0 ≡ b
byte_at [] rest b = refl
byte_at (x ∷ front) rest b = byte_at front rest b

-- behind a `"` a character ends
behind_quote : (front xs ys : List ℕ) → xs ≡ front ++ 34 ∷ [] → IsUtf8 (xs ++ ys) → IsCharBoundary (xs ++ ys) (length xs)
behind_quote front xs ys e u =
    let whole : xs ++ ys ≡ front ++ 34 ∷ ys = ap (λ zs. zs ++ ys) e ∙ append_assoc front (34 ∷ []) ys in
    let at : get_or (xs ++ ys) (length front) 0 ≡ 34 = ap (λ zs. get_or zs (length front) 0) whole ∙ byte_at front ys 34 in
    let len : length front + 1 ≡ length xs = omega (arith, ap length e, length-append front (34 ∷ [])) in
    let within : length front < length (xs ++ ys) = omega (arith, length-append xs ys) in
    subst (IsCharBoundary (xs ++ ys)) len (IsCharBoundary-after_ascii (xs ++ ys) (length front) u within (omega (arith, at)))

-- ---- one piece
-- spaces are ASCII
spaces_ascii : (gap : List ℕ) → are_spaces gap ≡ true → IsAscii gap
spaces_ascii [] h = IsAscii-nil
spaces_ascii (b ∷ bs) h =
    let p = and_parts (b == 32) (are_spaces bs) h in
    IsAscii-cons b bs (omega (arith, eqb-true b 32 p.0)) (spaces_ascii bs p.1)

-- what holds of a piece before a text: the canonical text is UTF-8 and has no more characters, and what follows is UTF-8
record IsCut (piece rest text : List ℕ) : Type 0 where
  pub own : IsUtf8 text
  pub next : IsUtf8 rest
  pub fewer : length (chars text) + length (chars rest) ≤ length (chars (piece ++ rest))

-- a piece in ASCII
shorter_cut : (piece rest text : List ℕ) → IsShorter piece text → IsUtf8 (piece ++ rest) → IsCut piece rest text
shorter_cut piece rest text s u =
    let p = IsUtf8-from_ascii piece s.before in
    record {
      own = IsUtf8-from_ascii text s.after;
      next = rest_utf8 piece rest u (behind_utf8 piece rest p u);
      fewer = omega (arith, s.shorter, ap length (chars-append piece rest p), length-append (chars piece) (chars rest), ap length (chars-IsAscii piece s.before), ap length (chars-IsAscii text s.after));
    }

-- a text between `"`
quoted_cut : (front piece rest text : List ℕ) → piece ≡ front ++ 34 ∷ [] → text ≡ piece → IsUtf8 (piece ++ rest) → IsCut piece rest text
quoted_cut front piece rest text e same u =
    let b = behind_quote front piece rest e u in
    let p = front_utf8 piece rest u b in
    record {
      own = subst IsUtf8 (sym same) p;
      next = rest_utf8 piece rest u b;
      fewer = omega (arith, ap length (chars-append piece rest p), length-append (chars piece) (chars rest), ap (λ bytes. length (chars bytes)) same);
    }

-- a piece
piece_cut : (piece rest text : List ℕ) → IsNoLonger piece text → IsUtf8 (piece ++ rest) → IsCut piece rest text
piece_cut piece rest text (inl s) u = shorter_cut piece rest text s u
piece_cut piece rest text (inr q) u = quoted_cut q.0 piece rest text q.1 q.2 u

-- spaces before a text
gap_cut : (gap rest text : List ℕ) → are_spaces gap ≡ true → text ≡ gap ++ rest → IsUtf8 text → IsUtf8 rest × (length (chars rest) ≤ length (chars text))
gap_cut gap rest text s e u =
    let g = IsUtf8-from_ascii gap (spaces_ascii gap s) in
    let v : IsUtf8 (gap ++ rest) = subst IsUtf8 e u in
    (rest_utf8 gap rest v (behind_utf8 gap rest g v), omega (arith, ap (λ bytes. length (chars bytes)) e, ap length (chars-append gap rest g), length-append (chars gap) (chars rest)))

-- ---- all tokens
-- a token's canonical text is UTF-8
abbrev IsUtf8Token : Token → Type 0
IsUtf8Token token = IsUtf8 (token_text token)

-- the canonical texts of tokens that a text spells are UTF-8, and have no more characters than the text
spelled_short : (text : List ℕ) (written : List Token) → IsSpelled text written → IsUtf8 text → Each IsUtf8Token written × (length (chars (flat_map token_text written)) ≤ length (chars text))
spelled_short text [] s u = (tt, omega (arith, ap length chars-nil))
spelled_short text (token ∷ written) s u =
    let g = gap_cut s.0 (s.1 ++ s.2) text s.4 s.3 u in
    let c = piece_cut s.1 s.2 (token_text token) (no_longer s.1 token s.5) g.0 in
    let k = spelled_short s.2 written s.7 c.next in
    ((c.own, k.0), omega (arith, g.1, c.fewer, k.1, ap length (chars-append (token_text token) (flat_map token_text written) c.own), length-append (chars (token_text token)) (chars (flat_map token_text written))))

-- the texts of tokens are UTF-8 together
tokens_utf8 : (written : List Token) → Each IsUtf8Token written → IsUtf8 (flat_map token_text written)
tokens_utf8 [] e = IsUtf8-nil
tokens_utf8 (token ∷ written) e = IsUtf8-append (token_text token) (flat_map token_text written) e.0 (tokens_utf8 written e.1)

-- fewer tokens have no more characters
thinned_short : (us ts : List Token) → IsThinned us ts → Each IsUtf8Token ts → Each IsUtf8Token us × (length (chars (flat_map token_text us)) ≤ length (chars (flat_map token_text ts)))
thinned_short us [] h e = (subst (Each IsUtf8Token) (sym h) tt, omega (arith, ap (λ xs. length (chars (flat_map token_text xs))) h))
thinned_short us (t ∷ ts) (inl h) e =
    let k = thinned_short h.0 ts h.2 e.1 in
    (subst (Each IsUtf8Token) (sym h.1) (e.0, k.0), omega (arith, k.1, ap (λ xs. length (chars (flat_map token_text xs))) h.1, ap length (chars-append (token_text t) (flat_map token_text ts) e.0), length-append (chars (token_text t)) (chars (flat_map token_text ts)), ap length (chars-append (token_text t) (flat_map token_text h.0) e.0), length-append (chars (token_text t)) (chars (flat_map token_text h.0))))
thinned_short us (t ∷ ts) (inr h) e =
    let k = thinned_short us ts h.1 e.1 in
    (k.0, omega (arith, k.1, ap length (chars-append (token_text t) (flat_map token_text ts) e.0), length-append (chars (token_text t)) (chars (flat_map token_text ts))))

-- a `=` before a text
equals_utf8 : (text : List ℕ) → IsUtf8 text → IsUtf8 (61 ∷ text)
equals_utf8 text u = IsUtf8-append (61 ∷ []) text (IsUtf8-from_ascii (61 ∷ []) (IsAscii-cons 61 [] (omega arith) IsAscii-nil)) u

-- is one character more
equals_count : (text : List ℕ) → length (chars (61 ∷ text)) ≡ suc (length (chars text))
equals_count text =
    let a : IsAscii (61 ∷ []) = IsAscii-cons 61 [] (omega arith) IsAscii-nil in
    omega (arith, ap length (chars-append (61 ∷ []) text (IsUtf8-from_ascii (61 ∷ []) a)), length-append (chars (61 ∷ [])) (chars text), ap length (chars-IsAscii (61 ∷ []) a))

-- what is printed is short where the text is
pub printed_short : (text rest : List ℕ) (us ts : List Token) → text ≡ 61 ∷ rest → IsShort text → IsSpelled rest ts → IsThinned us ts → IsShort (61 ∷ flat_map token_text us)
printed_short text rest us ts e s spelled thin =
    let u : IsUtf8 (61 ∷ rest) = subst IsUtf8 e (IsUtf8-from_is_utf8 text s.0) in
    let a : IsAscii (61 ∷ []) = IsAscii-cons 61 [] (omega arith) IsAscii-nil in
    let r : IsUtf8 rest = rest_utf8 (61 ∷ []) rest u (behind_utf8 (61 ∷ []) rest (IsUtf8-from_ascii (61 ∷ []) a) u) in
    let k = spelled_short rest ts spelled r in
    let t = thinned_short us ts thin k.0 in (
      is_utf8-from_IsUtf8 _ (equals_utf8 _ (tokens_utf8 us t.0)),
      omega (arith, s.1, k.1, t.1, ap (λ bytes. length (chars bytes)) e, equals_count rest, equals_count (flat_map token_text us)),
    )
