-- The token at the front of a text is the one that the grammar writes there.
use Rattle.std.proofs.Common.{◌≡◌, ℕ, suc, ◌<◌, ◌≤◌, true, false, ◌+◌, ◌-◌, List, [], ◌∷◌, ◌++◌, length, take, drop, Some, None, refl, sym, ap, subst, ◌∙◌, arith, ⊎_elim}
use Rattle.std.proofs.lemmas.Bool.{cases_lt}
use Rattle.std.proofs.lemmas.List.{length-append, append_assoc, take-append-drop, take_at, length-take-le}
use Rattle.std.proofs.Math.Seq.{take-append_seam, drop-append_seam, take-append-add}
use Rattle.formula_parse.specs.declared.nodes.Node.{Node}
use Rattle.formula_parse.specs.declared.reader.Frame.{Frame}
use Rattle.formula_parse.specs.declared.reader.Phase.{Phase}
use Rattle.formula_parse.specs.declared.reader.Phase.TheVariants as phases
use Rattle.formula_parse.specs.declared.operators.Operator.{Operator}
use Rattle.formula_parse.specs.declared.tokens.Token.{Token}
use Rattle.formula_parse.specs.declared.tokens.Token.TheVariants as tokens
use Rattle.formula_parse.specs.Lexing.{token_at, begun_len}
use Rattle.formula_parse.specs.ReaderMachine.{turn_at, awaits_operand, operator_turn}
use Rattle.formula_parse.specs.Tokens.{Writes, goes_on, goes_on_with}
use Rattle.formula_parse.proofs.Machine.{is_operand}
use Rattle.formula_parse.proofs.LexFacts.LexBegun.{begun_within, goes_on_to_operand}
use Rattle.formula_parse.proofs.LexFacts.LexFronts.{front_of_piece}
use Rattle.formula_parse.proofs.LexFacts.LexTokens.{token_found, token_written}
use Rattle.formula_parse.proofs.LexFacts.LexTurns.{no_longer_stands}
use Rattle.formula_parse.proofs.LexFacts.LexFirst.{goes_on_first, first_passes}
use Rattle.formula_parse.proofs.LexFacts.LexMarks.{operator_begins, close_written, comma_written}

-- what is found is written there, and nothing goes on with it
pub found_is_written : (text : List ℕ) (token : Token) (n : ℕ) → token_at text ≡ Some (token, n) → (0 < n) × (n ≤ length text) × Writes (take n text) token × (goes_on_with token (drop n text) ≡ false)
found_is_written text token n h =
    let f = token_found text token n h in
    let front : take n text ≡ f.piece = ap (take n) f.whole ∙ (ap (λ k. take k (f.piece ++ f.rest)) f.count ∙ take-append_seam f.piece f.rest) in
    let back : drop n text ≡ f.rest = ap (drop n) f.whole ∙ (ap (λ k. drop k (f.piece ++ f.rest)) f.count ∙ drop-append_seam f.piece f.rest) in (
      f.some,
      omega (arith, f.count, ap length f.whole, length-append f.piece f.rest),
      subst (λ piece. Writes piece token) (sym front) f.writes,
      ap (goes_on_with token) back ∙ (goes_on_first token f.rest ∙ f.stops),
    )

-- what is written, and doesn't go on, is found
pub written_is_found : (piece rest : List ℕ) (token : Token) → Writes piece token → goes_on_with token rest ≡ false → token_at (piece ++ rest) ≡ Some (token, length piece)
written_is_found piece rest token w e = token_written piece rest token w (sym (goes_on_first token rest) ∙ e)

-- what is more is more by some number
more_than : (n m : ℕ) → n < m → (k : ℕ) × (m ≡ n + suc k)
more_than n m h = (m - suc n, omega arith)

-- what is written is found again where one byte behind it is kept
again : (piece left rest : List ℕ) (token : Token) (k : ℕ) → Writes piece token → first_passes (goes_on token) left ≡ false → 0 < length left → token_at (take (length piece + suc k) (piece ++ left) ++ rest) ≡ Some (token, length piece)
again piece [] rest token k w s some = absurd (omega arith)
again piece (c ∷ cs) rest token k w s some =
    let whole : take (length piece + suc k) (piece ++ c ∷ cs) ++ rest ≡ piece ++ (c ∷ take k cs ++ rest) = ap (λ x. x ++ rest) (take-append-add piece (c ∷ cs) (suc k)) ∙ append_assoc piece (c ∷ take k cs) rest in
    ap token_at whole ∙ token_written piece (c ∷ take k cs ++ rest) token w s

-- what is found depends on the token and on one byte behind it
pub found_again : (text rest : List ℕ) (token : Token) (n m : ℕ) → token_at text ≡ Some (token, n) → n < m → m ≤ length text → token_at (take m text ++ rest) ≡ Some (token, n)
found_again text rest token n m h l b =
    let f = token_found text token n h in
    let k = more_than n m l in
    let place : m ≡ length f.piece + suc k.0 = k.1 ∙ ap (λ x. x + suc k.0) f.count in
    let some : 0 < length f.rest = omega (arith, f.count, ap length f.whole, length-append f.piece f.rest) in
    ap (λ x. token_at (take m x ++ rest)) f.whole
    ∙ (ap (λ x. token_at (take x (f.piece ++ f.rest) ++ rest)) place
    ∙ (again f.piece f.rest rest token k.0 f.writes f.stops some ∙ ap (λ x. Some (token, x)) (sym f.count)))

-- how much of a text an operand begins with is no more than the text
pub begun_is_within : (text : List ℕ) → begun_len text ≤ length text
begun_is_within text = begun_within text

-- where no token stands whole and something has begun, an operand goes on with it
pub begun_goes_on : (text : List ℕ) → token_at text ≡ None → 0 < begun_len text → (more : List ℕ) × (token : Token) × (is_operand token ≡ true) × Writes (take (begun_len text) text ++ more) token
begun_goes_on text n b = goes_on_to_operand text n b

-- the token at the front of a text, written within so many bytes, is found there
stands_whole : (text rest : List ℕ) (token : Token) (n m : ℕ) → token_at (take m text ++ rest) ≡ Some (token, n) → n < m → m ≤ length text → token_at text ≡ Some (token, n)
stands_whole text rest token n m h less inside =
    let count : length (take m text) ≡ m = length-take-le m text inside in
    let same : take m (take m text ++ rest) ++ drop m text ≡ text = ap (λ x. x ++ drop m text) (take_at (take m text) rest m count) ∙ take-append-drop m text in
    sym (ap token_at same) ∙ found_again (take m text ++ rest) (drop m text) token n m h less (omega (arith, length-append (take m text) rest))

-- where an operand is awaited and the token at the front can't stand, no token that can begins with one byte more than has begun
pub no_operand_goes_on : (text rest piece more : List ℕ) (phase : Phase) (frames : List Frame) (token : Token) → awaits_operand phase ≡ true → ((other : Token) (n : ℕ) → token_at text ≡ Some (other, n) → turn_at phase frames other ≡ None) → begun_len text < length text → take (suc (begun_len text)) text ++ rest ≡ piece ++ more → Writes piece token → goes_on_with token more ≡ false → turn_at phase frames token ≡ None
no_operand_goes_on [] rest piece more phase frames token a s l e w g = absurd (omega arith)
no_operand_goes_on (c ∷ cs) rest piece more phase frames token a s l e w g =
    let text = c ∷ cs in
    let k = begun_len text in
    let found : token_at (take (suc k) text ++ rest) ≡ Some (token, length piece) = ap token_at e ∙ written_is_found piece more token w g in
    ⊎_elim
    (λ less. s token (length piece) (stands_whole text rest token (length piece) (suc k) found less l))
    (λ long.
    let f = front_of_piece text rest piece more (suc k) l long e in
    no_longer_stands c cs f.0 phase frames token k refl a s l (subst (λ x. Writes x token) (sym f.1) w))
    (cases_lt (length piece) (suc k))

-- an operator stands behind an operand wherever another does
no_frames : (operand : Node) (op other : Operator) (frames : List Frame) → operator_turn operand op frames ≡ None → operator_turn operand other frames ≡ None
no_frames operand op other [] h = refl
no_frames operand op other (frame ∷ frames) h = absurd (cc)

-- behind an operand, where the token at the front can't stand, no token that can begins with its first byte
pub no_operator_goes_on : (text rest piece more : List ℕ) (operand : Node) (frames : List Frame) (token : Token) → ((other : Token) (n : ℕ) → token_at text ≡ Some (other, n) → turn_at (phases.After operand) frames other ≡ None) → 0 < length text → take 1 text ++ rest ≡ piece ++ more → Writes piece token → turn_at (phases.After operand) frames token ≡ None
no_operator_goes_on [] rest piece more operand frames token s l e w = absurd (omega arith)
no_operator_goes_on (c ∷ cs) rest piece more operand frames (tokens.Number n) s l e w = refl
no_operator_goes_on (c ∷ cs) rest piece more operand frames (tokens.Text t) s l e w = refl
no_operator_goes_on (c ∷ cs) rest piece more operand frames (tokens.Error k) s l e w = refl
no_operator_goes_on (c ∷ cs) rest piece more operand frames (tokens.Boolean v) s l e w = refl
no_operator_goes_on (c ∷ cs) rest piece more operand frames (tokens.Reference r) s l e w = refl
no_operator_goes_on (c ∷ cs) rest piece more operand frames (tokens.Area a b) s l e w = refl
no_operator_goes_on (c ∷ cs) rest piece more operand frames (tokens.Call callee) s l e w = refl
no_operator_goes_on (c ∷ cs) rest piece more operand frames tokens.Open s l e w = refl
no_operator_goes_on (c ∷ cs) rest piece more operand frames tokens.Close s l e w =
    let first : c ≡ 41 = cc in s tokens.Close 1 (ap (λ b. token_at (b ∷ cs)) first ∙ close_written cs)
no_operator_goes_on (c ∷ cs) rest piece more operand frames tokens.Comma s l e w =
    let first : c ≡ 44 = cc in s tokens.Comma 1 (ap (λ b. token_at (b ∷ cs)) first ∙ comma_written cs)
no_operator_goes_on (c ∷ cs) rest piece more operand frames (tokens.Operator op) s l e w =
    let f = operator_begins op c cs rest more (e ∙ ap (λ x. x ++ more) w) in
    no_frames operand f.0 op frames (s (tokens.Operator f.0) f.1 f.2)
