-- Behind an operand there stands an operator, a `,`, a `)` or nothing, and where an operand is awaited there stands no other operator than a sign.
use Rattle.std.proofs.Common.{◌≡◌, ℕ, suc, Bool, true, false, ◌&&◌, List, [], ◌∷◌, ◌++◌, map, All, refl, sym, ap, ◌∙◌, subst, append_assoc}
use Rattle.std.proofs.lemmas.List.Elements.{All-head, All-tail}
use Rattle.formula_parse.specs.declared.nodes.Node.{Node}
use Rattle.formula_parse.specs.declared.operators.Operator.{Operator}
use Rattle.formula_parse.specs.declared.operators.Operator.TheVariants as operators
use Rattle.formula_parse.specs.declared.tokens.Token.{Token}
use Rattle.formula_parse.specs.declared.tokens.Token.TheVariants as tokens
use Rattle.formula_parse.specs.Grammar.{Written, IsWritten, IsSigned, IsEnclosed, AreSigns, AreArguments, IsChain, IsChainAt, place_of}
use Rattle.formula_parse.proofs.NodeLaws.{node_induction, number_is_written, text_is_written, error_is_written, boolean_is_written, reference_is_written, area_is_written, call_is_written, parentheses_is_written, negation_is_written, chain_is_written}

-- whether an operand ends with a token
abbrev pub ends_operand : Token → Bool
ends_operand (tokens.Call callee) = false
ends_operand tokens.Open = false
ends_operand tokens.Comma = false
ends_operand (tokens.Operator op) = false
ends_operand other = true

-- whether an operator is a sign
abbrev pub is_sign : Operator → Bool
is_sign operators.Add = true
is_sign operators.Subtract = true
is_sign other = false

-- whether a token can stand where an operand is awaited, or directly behind a name and `(`
abbrev pub is_awaited : Token → Bool
is_awaited tokens.Comma = false
is_awaited (tokens.Operator op) = is_sign op
is_awaited other = true

-- whether a token can stand behind an operand
abbrev pub is_behind : Token → Bool
is_behind tokens.Close = true
is_behind tokens.Comma = true
is_behind (tokens.Operator op) = true
is_behind other = false

-- whether tokens can stand behind an operand (true), or where one is awaited (false), as far as each follows from the one before
abbrev pub flows : Bool → List Token → Bool
flows behind [] = true
flows true (token ∷ tokens) = is_behind token && flows (ends_operand token) tokens
flows false (token ∷ tokens) = is_awaited token && flows (ends_operand token) tokens

-- tokens are an operand: what stands behind them stands behind an operand
abbrev pub IsOperand : List Token → Type 0
IsOperand written = (rest : List Token) → flows false (written ++ rest) ≡ flows true rest

-- a tree is written as an operand
abbrev Flows : Node → Type 0
Flows tree = (place : ℕ) (written : List Token) → IsWritten tree place written → IsOperand written

-- signs before an operand
signs_flow : (count : ℕ) (signs operand : List Token) → AreSigns count signs → IsOperand operand → IsOperand (signs ++ operand)
signs_flow count [] operand h own rest = own rest
signs_flow count (tokens.Operator operators.Add ∷ signs) operand h own rest = signs_flow count signs operand h own rest
signs_flow count (tokens.Operator operators.Subtract ∷ signs) operand h own rest = signs_flow h.0 signs operand h.2 own rest
signs_flow count (other ∷ signs) operand h own rest = absurd h

-- an operand behind its signs
signed_flows : (place count : ℕ) (Operand : List Token → Type 0) (written : List Token) → ((operand : List Token) → Operand operand → IsOperand operand) → IsSigned place count Operand written → IsOperand written
signed_flows place count Operand written own s = subst IsOperand (sym s.both) (signs_flow count s.signs s.operand s.counted (own s.operand s.own))

-- an operand of one token
one_flows : (token : Token) (operand : List Token) → is_awaited token ≡ true → ends_operand token ≡ true → operand ≡ token ∷ [] → IsOperand operand
one_flows token operand a e is = subst IsOperand (sym is) (λ rest. ap (λ b. b && flows (ends_operand token) rest) a ∙ ap (λ b. flows b rest) e)

-- what stands between an opening token and a `)`
abbrev IsInner : List Token → Type 0
IsInner inner = (rest : List Token) → flows false (inner ++ tokens.Close ∷ rest) ≡ flows true rest

-- an operand can stand there
operand_inner : (inner : List Token) → IsOperand inner → IsInner inner
operand_inner inner own rest = own (tokens.Close ∷ rest)

-- an operand between an opening token and a `)`
enclosed_flows : (opening : Token) (Inner : List Token → Type 0) (operand : List Token) → is_awaited opening ≡ true → ends_operand opening ≡ false → ((inner : List Token) → Inner inner → IsInner inner) → IsEnclosed opening Inner operand → IsOperand operand
enclosed_flows opening Inner operand a e own h =
    subst IsOperand (sym h.1)
    (λ rest. ap (λ b. b && flows (ends_operand opening) ((h.0 ++ tokens.Close ∷ []) ++ rest)) a
    ∙ ap (λ b. flows b ((h.0 ++ tokens.Close ∷ []) ++ rest)) e
    ∙ ap (flows false) (append_assoc h.0 (tokens.Close ∷ []) rest)
    ∙ own h.0 h.2 rest)

-- arguments
arguments_flow : (xs : List Node) (inner : List Token) → All Flows xs → AreArguments (map IsWritten xs) inner → IsInner inner
arguments_flow [] inner all h = λ rest. ap (λ ts. flows false (ts ++ tokens.Close ∷ rest)) h
arguments_flow (x ∷ []) inner all h = operand_inner inner (All-head Flows x [] all 0 inner h)
arguments_flow (x ∷ y ∷ xs) inner all h = λ rest.
    ap (λ ts. flows false (ts ++ tokens.Close ∷ rest)) h.2
    ∙ ap (flows false) (append_assoc h.0 (tokens.Comma ∷ h.1) (tokens.Close ∷ rest))
    ∙ All-head Flows x (y ∷ xs) all 0 h.0 h.3 (tokens.Comma ∷ (h.1 ++ tokens.Close ∷ rest))
    ∙ arguments_flow (y ∷ xs) h.1 (All-tail Flows x (y ∷ xs) all) h.4 rest

-- the operands of a chain
chain_flows : (place : ℕ) (xs : List Node) (ops : List Operator) (written : List Token) → All Flows xs → IsChain place (map IsWritten xs) ops written → IsOperand written
chain_flows place [] ops written all h = absurd h
chain_flows place (x ∷ []) [] written all h = All-head Flows x [] all (suc place) written h
chain_flows place (x ∷ []) (op ∷ ops) written all h = absurd h
chain_flows place (x ∷ y ∷ xs) [] written all h = absurd h
chain_flows place (x ∷ y ∷ xs) (op ∷ ops) written all h = λ rest.
    ap (λ ts. flows false (ts ++ rest)) h.2
    ∙ ap (flows false) (append_assoc h.0 (tokens.Operator op ∷ h.1) rest)
    ∙ All-head Flows x (y ∷ xs) all (suc place) h.0 h.3 (tokens.Operator op ∷ (h.1 ++ rest))
    ∙ chain_flows place (y ∷ xs) ops h.1 (All-tail Flows x (y ∷ xs) all) h.5 rest

-- a chain where it stands
chain_at_flows : (place : ℕ) (xs : List Node) (ops : List Operator) (written : List Token) → All Flows xs → IsChainAt place (map IsWritten xs) ops written → IsOperand written
chain_at_flows place xs [] written all h = absurd h
chain_at_flows place xs (op ∷ ops) written all h = chain_flows (place_of op) xs (op ∷ ops) written all h.1

-- the tokens of a tree are an operand
pub tree_flows : (tree : Node) (place : ℕ) (written : List Token) → IsWritten tree place written → IsOperand written
tree_flows = node_induction Flows
    (λ n place written w. signed_flows place 0 _ written (λ operand. one_flows (tokens.Number n) operand refl refl) (subst (λ (W : Written). W place written) (number_is_written n) w))
    (λ t place written w. signed_flows place 0 _ written (λ operand. one_flows (tokens.Text t) operand refl refl) (subst (λ (W : Written). W place written) (text_is_written t) w))
    (λ e place written w. signed_flows place 0 _ written (λ operand. one_flows (tokens.Error e) operand refl refl) (subst (λ (W : Written). W place written) (error_is_written e) w))
    (λ b place written w. signed_flows place 0 _ written (λ operand. one_flows (tokens.Boolean b) operand refl refl) (subst (λ (W : Written). W place written) (boolean_is_written b) w))
    (λ r place written w. signed_flows place 0 _ written (λ operand. one_flows (tokens.Reference r) operand refl refl) (subst (λ (W : Written). W place written) (reference_is_written r) w))
    (λ a b place written w. signed_flows place 0 _ written (λ operand. one_flows (tokens.Area a b) operand refl refl) (subst (λ (W : Written). W place written) (area_is_written a b) w))
    (λ callee arguments all place written w. signed_flows place 0 _ written (λ operand. enclosed_flows (tokens.Call callee) _ operand refl refl (λ inner. arguments_flow arguments inner all)) (subst (λ (W : Written). W place written) (call_is_written callee arguments) w).1)
    (λ inner own place written w. signed_flows place 0 _ written (λ operand. enclosed_flows tokens.Open _ operand refl refl (λ part h. operand_inner part (own 0 part h))) (subst (λ (W : Written). W place written) (parentheses_is_written inner) w))
    (λ count operand own place written w. signed_flows place count _ written (own 5) (subst (λ (W : Written). W place written) (negation_is_written count operand) w).2)
    (λ operands ops all place written w. chain_at_flows place operands ops written all (subst (λ (W : Written). W place written) (chain_is_written operands ops) w))
