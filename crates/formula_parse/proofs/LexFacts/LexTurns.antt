-- The tokens that can stand where an operand is awaited.
use Rattle.std.proofs.Common.{◌≡◌, ℕ, ◌≤◌, suc, Bool, true, false, eqb, List, [], ◌∷◌, ◌++◌, length, take, Option, Some, None, refl, sym, ap, subst, ◌∙◌, arith, ◌⊎◌, inl, inr, ⊎_elim}
use Rattle.std.proofs.lemmas.Bool.{both_ways}
use Rattle.cell_values.specs.declared.comparison.CompareOp.TheVariants as compare
use Rattle.formula_parse.specs.declared.operators.Operator.{Operator}
use Rattle.formula_parse.specs.declared.operators.Operator.TheVariants as operators
use Rattle.formula_parse.specs.declared.reader.Frame.{Frame}
use Rattle.formula_parse.specs.declared.reader.Phase.{Phase}
use Rattle.formula_parse.specs.declared.reader.Phase.TheVariants as phases
use Rattle.formula_parse.specs.declared.tokens.Token.{Token}
use Rattle.formula_parse.specs.declared.tokens.Token.TheVariants as tokens
use Rattle.formula_parse.specs.Lexing.{token_at, begun_len}
use Rattle.formula_parse.specs.ReaderMachine.{turn_at, awaits_operand, operand_turn, start_turn}
use Rattle.formula_parse.specs.Tokens.{Writes, operator_text}
use Rattle.formula_parse.proofs.Machine.{is_operand}
use Rattle.formula_parse.proofs.LexFacts.LexBegun.{operand_most, boolean_first, reference_first, area_first, call_first, text_first}
use Rattle.formula_parse.proofs.LexFacts.LexErrors.{error_begins}
use Rattle.formula_parse.proofs.LexFacts.LexFirst.{IsMark, never}
use Rattle.formula_parse.proofs.LexFacts.LexMarks.{open_written, close_written, comma_written, operator_written}
use Rattle.formula_parse.proofs.LexFacts.LexNumbers.{numeral_first}
use Rattle.formula_parse.proofs.LexFacts.LexTokens.{token_found}

-- ---- turns
-- an operand is taken where one is awaited
operand_taken : (minuses : ℕ) (frames : List Frame) (token : Token) → is_operand token ≡ true → operand_turn minuses frames token ≡ None → false ≡ true
operand_taken minuses frames (tokens.Number n) o h = cc
operand_taken minuses frames (tokens.Text t) o h = cc
operand_taken minuses frames (tokens.Error kind) o h = cc
operand_taken minuses frames (tokens.Boolean v) o h = cc
operand_taken minuses frames (tokens.Reference r) o h = cc
operand_taken minuses frames (tokens.Area r q) o h = cc
operand_taken minuses frames (tokens.Call callee) o h = cc
operand_taken minuses frames tokens.Open o h = cc
operand_taken minuses frames tokens.Close o h = cc
operand_taken minuses frames tokens.Comma o h = cc
operand_taken minuses frames (tokens.Operator op) o h = cc

-- directly behind a name and `(` an operand is taken as anywhere else
start_is : (frames : List Frame) (token : Token) → is_operand token ≡ true → start_turn frames token ≡ operand_turn 0 frames token
start_is frames (tokens.Number n) o = refl
start_is frames (tokens.Text t) o = refl
start_is frames (tokens.Error kind) o = refl
start_is frames (tokens.Boolean v) o = refl
start_is frames (tokens.Reference r) o = refl
start_is frames (tokens.Area r q) o = refl
start_is frames (tokens.Call callee) o = refl
start_is frames tokens.Open o = absurd (cc)
start_is frames tokens.Close o = absurd (cc)
start_is frames tokens.Comma o = absurd (cc)
start_is frames (tokens.Operator op) o = absurd (cc)

-- false isn't true
never_both : false ≡ true → ⊥
never_both h = both_ways false refl h

-- where an operand is awaited, each can stand
operand_stands : (phase : Phase) (frames : List Frame) (token : Token) → awaits_operand phase ≡ true → is_operand token ≡ true → turn_at phase frames token ≡ None → ⊥
operand_stands phases.Start frames token a o h = never_both (operand_taken 0 frames token o (sym (start_is frames token o) ∙ h))
operand_stands (phases.Signs minuses) frames token a o h = never_both (operand_taken minuses frames token o h)
operand_stands (phases.After operand) frames token a o h = never_both a

-- an operator that is no sign can't stand there
pub operator_refused : (phase : Phase) (frames : List Frame) (op : Operator) → awaits_operand phase ≡ true → ((frames : List Frame) (minuses : ℕ) → operand_turn minuses frames (tokens.Operator op) ≡ None) → turn_at phase frames (tokens.Operator op) ≡ None
operator_refused phases.Start frames op a none = none frames 0
operator_refused (phases.Signs minuses) frames op a none = none frames minuses
operator_refused (phases.After operand) frames op a none = absurd (never_both a)

-- ---- first bytes
-- an operator begins with a mark
operator_mark : (op : Operator) (b : ℕ) (rest more : List ℕ) → b ∷ rest ≡ operator_text op ++ more → IsMark b
operator_mark (operators.Compare compare.Eq) b rest more e = let same : 61 ≡ b = cc in subst IsMark same (record { no_digit = refl; no_quote = refl; no_hash = refl; no_word = refl })
operator_mark (operators.Compare compare.Ne) b rest more e = let same : 60 ≡ b = cc in subst IsMark same (record { no_digit = refl; no_quote = refl; no_hash = refl; no_word = refl })
operator_mark (operators.Compare compare.Lt) b rest more e = let same : 60 ≡ b = cc in subst IsMark same (record { no_digit = refl; no_quote = refl; no_hash = refl; no_word = refl })
operator_mark (operators.Compare compare.Gt) b rest more e = let same : 62 ≡ b = cc in subst IsMark same (record { no_digit = refl; no_quote = refl; no_hash = refl; no_word = refl })
operator_mark (operators.Compare compare.Le) b rest more e = let same : 60 ≡ b = cc in subst IsMark same (record { no_digit = refl; no_quote = refl; no_hash = refl; no_word = refl })
operator_mark (operators.Compare compare.Ge) b rest more e = let same : 62 ≡ b = cc in subst IsMark same (record { no_digit = refl; no_quote = refl; no_hash = refl; no_word = refl })
operator_mark operators.Join b rest more e = let same : 38 ≡ b = cc in subst IsMark same (record { no_digit = refl; no_quote = refl; no_hash = refl; no_word = refl })
operator_mark operators.Add b rest more e = let same : 43 ≡ b = cc in subst IsMark same (record { no_digit = refl; no_quote = refl; no_hash = refl; no_word = refl })
operator_mark operators.Subtract b rest more e = let same : 45 ≡ b = cc in subst IsMark same (record { no_digit = refl; no_quote = refl; no_hash = refl; no_word = refl })
operator_mark operators.Multiply b rest more e = let same : 42 ≡ b = cc in subst IsMark same (record { no_digit = refl; no_quote = refl; no_hash = refl; no_word = refl })
operator_mark operators.Divide b rest more e = let same : 47 ≡ b = cc in subst IsMark same (record { no_digit = refl; no_quote = refl; no_hash = refl; no_word = refl })

-- a mark of one byte is the first byte
mark_at_first : (b k : ℕ) (rest more piece : List ℕ) → b ∷ rest ≡ piece ++ more → piece ≡ k ∷ [] → b ≡ k
mark_at_first b k rest more piece e f = let whole : b ∷ rest ≡ k ∷ more = e ∙ ap (λ x. x ++ more) f in cc (whole)

-- a `(` is a mark
is_open : IsMark 40
is_open = record { no_digit = refl; no_quote = refl; no_hash = refl; no_word = refl }

-- a `)` is a mark
is_close : IsMark 41
is_close = record { no_digit = refl; no_quote = refl; no_hash = refl; no_word = refl }

-- a `,` is a mark
is_comma : IsMark 44
is_comma = record { no_digit = refl; no_quote = refl; no_hash = refl; no_word = refl }

-- a token is an operand, or begins with a mark
written_kind : (token : Token) (piece left : List ℕ) (b : ℕ) (rest : List ℕ) → b ∷ rest ≡ piece ++ left → Writes piece token → IsMark b ⊎ (is_operand token ≡ true)
written_kind (tokens.Number n) piece left b rest e w = inr refl
written_kind (tokens.Text t) piece left b rest e w = inr refl
written_kind (tokens.Error kind) piece left b rest e w = inr refl
written_kind (tokens.Boolean v) piece left b rest e w = inr refl
written_kind (tokens.Reference r) piece left b rest e w = inr refl
written_kind (tokens.Area r q) piece left b rest e w = inr refl
written_kind (tokens.Call callee) piece left b rest e w = inr refl
written_kind tokens.Open piece left b rest e w = inl (subst IsMark (sym (mark_at_first b 40 rest left piece e w)) is_open)
written_kind tokens.Close piece left b rest e w = inl (subst IsMark (sym (mark_at_first b 41 rest left piece e w)) is_close)
written_kind tokens.Comma piece left b rest e w = inl (subst IsMark (sym (mark_at_first b 44 rest left piece e w)) is_comma)
written_kind (tokens.Operator op) piece left b rest e w = inl (operator_mark op b rest left (e ∙ ap (λ x. x ++ left) w))

-- no test is both false and true
no_both : (x : Bool) → x ≡ false → x ≡ true → ⊥
no_both x e f = both_ways x e f

-- no operand begins with a mark
operand_no_mark : (token : Token) (b : ℕ) (bs : List ℕ) → is_operand token ≡ true → Writes (b ∷ bs) token → IsMark b → ⊥
operand_no_mark (tokens.Number n) b bs o w m = no_both _ m.no_digit (numeral_first b bs w.0)
operand_no_mark (tokens.Text t) b bs o w m = no_both _ m.no_quote (ap (λ c. eqb c 34) (text_first t b bs w))
operand_no_mark (tokens.Error kind) b bs o w m = no_both _ m.no_hash (ap (λ c. eqb c 35) (error_begins b bs kind w))
operand_no_mark (tokens.Boolean v) b bs o w m = no_both _ m.no_word (boolean_first v b bs w)
operand_no_mark (tokens.Reference r) b bs o w m = no_both _ m.no_word (reference_first r b bs w)
operand_no_mark (tokens.Area r q) b bs o w m = no_both _ m.no_word (area_first r q b bs w)
operand_no_mark (tokens.Call callee) b bs o w m = no_both _ m.no_word (call_first callee b bs w)
operand_no_mark tokens.Open b bs o w m = never_both o
operand_no_mark tokens.Close b bs o w m = never_both o
operand_no_mark tokens.Comma b bs o w m = never_both o
operand_no_mark (tokens.Operator op) b bs o w m = never_both o

-- ---- what can't stand
-- what is found can't stand
abbrev Refused : Phase → List Frame → List ℕ → Type 0
Refused phase frames text = (other : Token) (n : ℕ) → token_at text ≡ Some (other, n) → turn_at phase frames other ≡ None

-- an operand that goes on with one byte more than has begun would be found, or another would
operand_refused : (c : ℕ) (cs left : List ℕ) (phase : Phase) (frames : List Frame) (token : Token) (k : ℕ) → begun_len (c ∷ cs) ≡ k → awaits_operand phase ≡ true → Refused phase frames (c ∷ cs) → suc k ≤ length (c ∷ cs) → Writes (c ∷ (take k cs ++ left)) token → is_operand token ≡ true → (o : Option (Token × ℕ)) → token_at (c ∷ cs) ≡ o → ⊥
operand_refused c cs left phase frames token k is a s inside w o None e =
    let h = operand_most c cs left token k o e inside w in
    omega arith
operand_refused c cs left phase frames token k is a s inside w o (Some found) e =
    let f = token_found (c ∷ cs) found.0 found.1 e in
    ⊎_elim
    (λ m. operand_no_mark token c (take k cs ++ left) o w m)
    (λ other. operand_stands phase frames found.0 a other (s found.0 found.1 e))
    (written_kind found.0 f.piece f.rest c cs f.whole f.writes)

-- the one byte of a mark
first_of : (c k : ℕ) (rest : List ℕ) → c ∷ rest ≡ k ∷ [] → c ≡ k
first_of c k rest e = cc

-- no token goes on with one byte more than has begun, where what is found can't stand
pub no_longer_stands : (c : ℕ) (cs left : List ℕ) (phase : Phase) (frames : List Frame) (token : Token) (k : ℕ) → begun_len (c ∷ cs) ≡ k → awaits_operand phase ≡ true → ((other : Token) (n : ℕ) → token_at (c ∷ cs) ≡ Some (other, n) → turn_at phase frames other ≡ None) → suc k ≤ length (c ∷ cs) → Writes (c ∷ (take k cs ++ left)) token → turn_at phase frames token ≡ None
no_longer_stands c cs left phase frames (tokens.Number n) k is a s inside w = absurd (operand_refused c cs left phase frames (tokens.Number n) k is a s inside w refl (token_at (c ∷ cs)) refl)
no_longer_stands c cs left phase frames (tokens.Text t) k is a s inside w = absurd (operand_refused c cs left phase frames (tokens.Text t) k is a s inside w refl (token_at (c ∷ cs)) refl)
no_longer_stands c cs left phase frames (tokens.Error kind) k is a s inside w = absurd (operand_refused c cs left phase frames (tokens.Error kind) k is a s inside w refl (token_at (c ∷ cs)) refl)
no_longer_stands c cs left phase frames (tokens.Boolean v) k is a s inside w = absurd (operand_refused c cs left phase frames (tokens.Boolean v) k is a s inside w refl (token_at (c ∷ cs)) refl)
no_longer_stands c cs left phase frames (tokens.Reference r) k is a s inside w = absurd (operand_refused c cs left phase frames (tokens.Reference r) k is a s inside w refl (token_at (c ∷ cs)) refl)
no_longer_stands c cs left phase frames (tokens.Area r q) k is a s inside w = absurd (operand_refused c cs left phase frames (tokens.Area r q) k is a s inside w refl (token_at (c ∷ cs)) refl)
no_longer_stands c cs left phase frames (tokens.Call callee) k is a s inside w = absurd (operand_refused c cs left phase frames (tokens.Call callee) k is a s inside w refl (token_at (c ∷ cs)) refl)
no_longer_stands c cs left phase frames tokens.Open k is a s inside w = s tokens.Open 1 (ap (λ b. token_at (b ∷ cs)) (first_of c 40 (take k cs ++ left) w) ∙ open_written cs)
no_longer_stands c cs left phase frames tokens.Close k is a s inside w = s tokens.Close 1 (ap (λ b. token_at (b ∷ cs)) (first_of c 41 (take k cs ++ left) w) ∙ close_written cs)
no_longer_stands c cs left phase frames tokens.Comma k is a s inside w = s tokens.Comma 1 (ap (λ b. token_at (b ∷ cs)) (first_of c 44 (take k cs ++ left) w) ∙ comma_written cs)
no_longer_stands c cs left phase frames (tokens.Operator operators.Add) k is a s inside w = s (tokens.Operator operators.Add) 1 (ap (λ b. token_at (b ∷ cs)) (first_of c 43 (take k cs ++ left) w) ∙ operator_written operators.Add cs (never cs))
no_longer_stands c cs left phase frames (tokens.Operator operators.Subtract) k is a s inside w = s (tokens.Operator operators.Subtract) 1 (ap (λ b. token_at (b ∷ cs)) (first_of c 45 (take k cs ++ left) w) ∙ operator_written operators.Subtract cs (never cs))
no_longer_stands c cs left phase frames (tokens.Operator (operators.Compare op)) k is a s inside w = operator_refused phase frames (operators.Compare op) a (λ frames minuses. refl)
no_longer_stands c cs left phase frames (tokens.Operator operators.Join) k is a s inside w = operator_refused phase frames operators.Join a (λ frames minuses. refl)
no_longer_stands c cs left phase frames (tokens.Operator operators.Multiply) k is a s inside w = operator_refused phase frames operators.Multiply a (λ frames minuses. refl)
no_longer_stands c cs left phase frames (tokens.Operator operators.Divide) k is a s inside w = operator_refused phase frames operators.Divide a (λ frames minuses. refl)
