-- The canonical texts of a tree's tokens, one behind the other, spell these tokens.
use Rattle.std.proofs.Common.{◌≡◌, ⊎_elim, ℕ, ◌<◌, Bool, true, false, cond, ◌||◌, ◌==◌, List, [], ◌∷◌, ◌++◌, length, Option, Some, refl, sym, ap, ◌∙◌, arith, append-nil, eqb-true}
use Rattle.std.specs.Char.{is_ascii_digit}
use Rattle.std.specs.List.{flat_map}
use Rattle.std.proofs.lemmas.Bool.{and_parts, or_parts, cases_Bool}
use Rattle.std.proofs.lemmas.Bool.Decides.{nat_tests}
use Rattle.std.proofs.lemmas.Option.{same_Some}
use Rattle.cell_values.specs.declared.comparison.CompareOp.TheVariants as compare
use Rattle.formula_parse.specs.declared.operators.Operator.{Operator}
use Rattle.formula_parse.specs.declared.operators.Operator.TheVariants as operators
use Rattle.formula_parse.specs.declared.tokens.Token.{Token}
use Rattle.formula_parse.specs.declared.tokens.Token.TheVariants as tokens
use Rattle.formula_parse.specs.Lexing.{token_at, passes_at, greater_at}
use Rattle.formula_parse.specs.Printing.{token_text}
use Rattle.formula_parse.specs.Tokens.{IsSpelled, Writes, goes_on, goes_on_with, is_word_byte, operator_text}
use Rattle.formula_parse.proofs.LexFacts.LexingLaws.{written_is_found}
use Rattle.formula_parse.proofs.NamingTokens.{Each, piece_long}
use Rattle.formula_parse.proofs.PrintFacts.PrintedFlow.{ends_operand, flows, is_awaited, is_behind, is_sign}

-- a token is written by its canonical text
abbrev pub IsCanonical : Token → Type 0
IsCanonical token = Writes (token_text token) token

-- ---- behind an operand
-- whether a byte may go on with an operand
abbrev is_within : ℕ → Bool
is_within b = is_word_byte b || (b == 34 || b == 58)

-- the first bytes of two lists that are one
same_first : (x b : ℕ) (xs bs : List ℕ) → x ∷ xs ≡ b ∷ bs → x ≡ b
same_first x b xs bs e = cc

-- a byte that can't, where it is another's
not_within : (x b : ℕ) (xs bs : List ℕ) → is_within x ≡ false → x ∷ xs ≡ b ∷ bs → is_within b ≡ false
not_within x b xs bs h e = ap is_within (sym (same_first x b xs bs e)) ∙ h

-- operators begin with such a byte
operator_ends : (op : Operator) (b : ℕ) (bs : List ℕ) → operator_text op ≡ b ∷ bs → is_within b ≡ false
operator_ends (operators.Compare compare.Eq) b bs e = not_within 61 b [] bs refl e
operator_ends (operators.Compare compare.Ne) b bs e = not_within 60 b (62 ∷ []) bs refl e
operator_ends (operators.Compare compare.Lt) b bs e = not_within 60 b [] bs refl e
operator_ends (operators.Compare compare.Gt) b bs e = not_within 62 b [] bs refl e
operator_ends (operators.Compare compare.Le) b bs e = not_within 60 b (61 ∷ []) bs refl e
operator_ends (operators.Compare compare.Ge) b bs e = not_within 62 b (61 ∷ []) bs refl e
operator_ends operators.Join b bs e = not_within 38 b [] bs refl e
operator_ends operators.Add b bs e = not_within 43 b [] bs refl e
operator_ends operators.Subtract b bs e = not_within 45 b [] bs refl e
operator_ends operators.Multiply b bs e = not_within 42 b [] bs refl e
operator_ends operators.Divide b bs e = not_within 47 b [] bs refl e

-- what stands behind an operand begins with such a byte
behind_ends : (token : Token) (b : ℕ) (bs : List ℕ) → is_behind token ≡ true → token_text token ≡ b ∷ bs → is_within b ≡ false
behind_ends tokens.Close b bs h e = not_within 41 b [] bs refl e
behind_ends tokens.Comma b bs h e = not_within 44 b [] bs refl e
behind_ends (tokens.Operator op) b bs h e = operator_ends op b bs e
behind_ends other b bs h e = cc

-- a digit is a byte of a word
not_digit : (b : ℕ) → is_word_byte b ≡ false → is_ascii_digit b ≡ false
not_digit b h = grind (arith, nat_tests)

-- an operand's last token doesn't go on with such a byte
operand_stops : (token : Token) (b : ℕ) → ends_operand token ≡ true → is_word_byte b ≡ false → (b == 34) ≡ false → (b == 58) ≡ false → goes_on token b ≡ false
operand_stops (tokens.Number n) b e w q c = not_digit b w
operand_stops (tokens.Text t) b e w q c = q
operand_stops (tokens.Error x) b e w q c = refl
operand_stops (tokens.Boolean v) b e w q c = w
operand_stops (tokens.Reference r) b e w q c = ap (λ x. x || b == 58) w ∙ c
operand_stops (tokens.Area x y) b e w q c = w
operand_stops tokens.Close b e w q c = refl
operand_stops other b e w q c = cc

-- behind an operand no token goes on
stops_behind : (token next : Token) (b : ℕ) (bs : List ℕ) → ends_operand token ≡ true → is_behind next ≡ true → token_text next ≡ b ∷ bs → goes_on token b ≡ false
stops_behind token next b bs e h is =
    let p = or_parts (is_word_byte b) (b == 34 || b == 58) (behind_ends next b bs h is) in
    let q = or_parts (b == 34) (b == 58) p.1 in
    operand_stops token b e p.0 q.0 q.1

-- ---- where an operand is awaited
-- whether a byte may go on with `<` or `>`
abbrev is_comparing : ℕ → Bool
is_comparing b = b == 61 || b == 62

-- a token that is found and the one that is written there
pub same_found : (a b : Token) (m n : ℕ) (o : Option (Token × ℕ)) → o ≡ Some (a, m) → o ≡ Some (b, n) → (a ≡ b) × (m ≡ n)
same_found a b m n o h k =
    let e : (a, m) ≡ (b, n) = same_Some (a, m) (b, n) (sym h ∙ k) in
    (ap (λ x. x.0) e, ap (λ x. x.1) e)

-- no comparison is awaited
not_awaited : (token : Token) (op : Operator) → is_sign op ≡ false → token ≡ tokens.Operator op → is_awaited token ≡ true → ⊥
not_awaited token op s e a = let h : is_awaited token ≡ false = ap is_awaited e ∙ s in cc

-- the operator that begins with `>` is no sign
greater_no_sign : (b : Bool) → is_sign (cond b (operators.Compare compare.Ge) (operators.Compare compare.Gt)) ≡ false
greater_no_sign true = refl
greater_no_sign false = refl

-- what begins with `=` is an operator
equals_found : (rest : List ℕ) → token_at (61 ∷ rest) ≡ Some (tokens.Operator (operators.Compare compare.Eq), 1)
unfolding token_at
equals_found rest = refl

-- what begins with `>` is an operator
greater_found : (rest : List ℕ) → (n : ℕ) × (token_at (62 ∷ rest) ≡ Some (tokens.Operator (greater_at rest), n))
unfolding token_at
greater_found rest = (_, refl)

-- what is awaited doesn't begin with `=`
no_equals : (token : Token) (bytes more rest : List ℕ) (n : ℕ) → is_awaited token ≡ true → token_at (bytes ++ more) ≡ Some (token, n) → bytes ++ more ≡ 61 ∷ rest → ⊥
no_equals token bytes more rest n a h e =
    not_awaited token (operators.Compare compare.Eq) refl (same_found token (tokens.Operator (operators.Compare compare.Eq)) n 1 (token_at (bytes ++ more)) h (ap token_at e ∙ equals_found rest)).0 a

-- what is awaited doesn't begin with `>`
no_greater : (token : Token) (bytes more rest : List ℕ) (n : ℕ) → is_awaited token ≡ true → token_at (bytes ++ more) ≡ Some (token, n) → bytes ++ more ≡ 62 ∷ rest → ⊥
no_greater token bytes more rest n a h e =
    let f = greater_found rest in
    not_awaited token (greater_at rest) (greater_no_sign (passes_at (λ b. b == 61) rest 0)) (same_found token (tokens.Operator (greater_at rest)) n f.0 (token_at (bytes ++ more)) h (ap token_at e ∙ f.1)).0 a

-- what is awaited begins with neither
awaited_begins : (token : Token) (b : ℕ) (bs : List ℕ) → is_awaited token ≡ true → IsCanonical token → token_text token ≡ b ∷ bs → is_comparing b ≡ false
awaited_begins token b bs a w e =
    let h = written_is_found (token_text token) [] token w refl in
    let whole : token_text token ++ [] ≡ b ∷ bs = append-nil (token_text token) ∙ e in
    ⊎_elim
    (λ is. absurd (no_equals token (token_text token) [] bs _ a h (whole ∙ ap (λ x. x ∷ bs) (eqb-true b 61 is))))
    (λ no. ⊎_elim
    (λ is. absurd (no_greater token (token_text token) [] bs _ a h (whole ∙ ap (λ x. x ∷ bs) (eqb-true b 62 is))))
    (λ none. ap (λ x. x || b == 62) no ∙ none)
    (cases_Bool (b == 62)))
    (cases_Bool (b == 61))

-- a token behind which an operand is awaited goes on with `=` or `>` alone
opener_stops : (token : Token) (b : ℕ) → ends_operand token ≡ false → is_comparing b ≡ false → goes_on token b ≡ false
opener_stops (tokens.Call callee) b e h = refl
opener_stops tokens.Open b e h = refl
opener_stops tokens.Comma b e h = refl
opener_stops (tokens.Operator (operators.Compare compare.Eq)) b e h = refl
opener_stops (tokens.Operator (operators.Compare compare.Ne)) b e h = refl
opener_stops (tokens.Operator (operators.Compare compare.Lt)) b e h = h
opener_stops (tokens.Operator (operators.Compare compare.Gt)) b e h = (or_parts (b == 61) (b == 62) h).0
opener_stops (tokens.Operator (operators.Compare compare.Le)) b e h = refl
opener_stops (tokens.Operator (operators.Compare compare.Ge)) b e h = refl
opener_stops (tokens.Operator operators.Join) b e h = refl
opener_stops (tokens.Operator operators.Add) b e h = refl
opener_stops (tokens.Operator operators.Subtract) b e h = refl
opener_stops (tokens.Operator operators.Multiply) b e h = refl
opener_stops (tokens.Operator operators.Divide) b e h = refl
opener_stops other b e h = cc

-- ---- all tokens
-- a text that isn't empty, where its first byte doesn't go on with the token before
stops_before : (token : Token) (bytes more : List ℕ) → 0 < length bytes → ((b : ℕ) (bs : List ℕ) → bytes ≡ b ∷ bs → goes_on token b ≡ false) → goes_on_with token (bytes ++ more) ≡ false
stops_before token [] more some own = absurd (omega arith)
stops_before token (b ∷ bs) more some own = own b bs refl

-- a token and the one behind it
stops_at : (behind : Bool) (token next : Token) (rest : List Token) (b : ℕ) (bs : List ℕ) → ends_operand token ≡ behind → flows behind (next ∷ rest) ≡ true → IsCanonical next → token_text next ≡ b ∷ bs → goes_on token b ≡ false
stops_at true token next rest b bs e f w is = stops_behind token next b bs e (and_parts (is_behind next) (flows (ends_operand next) rest) f).0 is
stops_at false token next rest b bs e f w is = opener_stops token b e (awaited_begins next b bs (and_parts (is_awaited next) (flows (ends_operand next) rest) f).0 w is)

-- a token doesn't go on with what is printed behind it
pub stops : (token : Token) (rest : List Token) → flows (ends_operand token) rest ≡ true → Each IsCanonical rest → goes_on_with token (flat_map token_text rest) ≡ false
stops token [] f e = refl
stops token (next ∷ rest) f e =
    stops_before token (token_text next) (flat_map token_text rest) (piece_long (token_text next) next e.0) (λ b bs is. stops_at (ends_operand token) token next rest b bs refl f e.0 is)

-- what flows, flows behind its first token
pub flows_on : (behind : Bool) (token : Token) (rest : List Token) → flows behind (token ∷ rest) ≡ true → flows (ends_operand token) rest ≡ true
flows_on true token rest f = (and_parts (is_behind token) (flows (ends_operand token) rest) f).1
flows_on false token rest f = (and_parts (is_awaited token) (flows (ends_operand token) rest) f).1

-- the canonical texts spell the tokens
pub canonical_spelled : (behind : Bool) (written : List Token) → flows behind written ≡ true → Each IsCanonical written → IsSpelled (flat_map token_text written) written
canonical_spelled behind [] f e = refl
canonical_spelled behind (token ∷ rest) f e =
    let on = flows_on behind token rest f in
    ([], token_text token, flat_map token_text rest, refl, refl, e.0, stops token rest on e.1, canonical_spelled (ends_operand token) rest on e.1)
