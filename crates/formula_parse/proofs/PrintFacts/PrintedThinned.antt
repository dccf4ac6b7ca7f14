-- The tokens of a tree are those that write it, without some `+` before operands.
use Rattle.std.proofs.Common.{◌≡◌, ◌⊎◌, inl, inr, ℕ, suc, Bool, List, [], ◌∷◌, ◌++◌, map, replicate, All, refl, sym, ap, ◌∙◌, subst}
use Rattle.std.proofs.lemmas.List.Elements.{All-head, All-tail}
use Rattle.formula_parse.specs.declared.nodes.Node.{Node}
use Rattle.formula_parse.specs.declared.operators.Operator.{Operator}
use Rattle.formula_parse.specs.declared.operators.Operator.TheVariants as operators
use Rattle.formula_parse.specs.declared.tokens.Token.{Token}
use Rattle.formula_parse.specs.declared.tokens.Token.TheVariants as tokens
use Rattle.formula_parse.specs.Faults.{open_behind}
use Rattle.formula_parse.specs.Grammar.{Written, IsWritten, IsSigned, IsEnclosed, AreSigns, AreArguments, IsChain, IsChainAt, place_of}
use Rattle.formula_parse.specs.Printing.{tokens_of, tokens_step, argument_tokens, chain_tokens}
use Rattle.formula_parse.proofs.NamingTokens.{Each}
use Rattle.formula_parse.proofs.NodeLaws.{node_induction, fold_number, fold_text, fold_error, fold_boolean, fold_reference, fold_area, fold_call, fold_parentheses, fold_negation, fold_chain, number_is_written, text_is_written, error_is_written, boolean_is_written, reference_is_written, area_is_written, call_is_written, parentheses_is_written, negation_is_written, chain_is_written}

-- the first tokens are the second ones without some `+`
abbrev pub IsThinned : List Token → List Token → Type 0
IsThinned us [] = us ≡ []
IsThinned us (t ∷ ts) = ((rest : List Token) × (us ≡ t ∷ rest) × IsThinned rest ts) ⊎ ((t ≡ tokens.Operator operators.Add) × IsThinned us ts)

-- a token before both
thinned_cons : (t : Token) (us ts : List Token) → IsThinned us ts → IsThinned (t ∷ us) (t ∷ ts)
thinned_cons t us ts h = inl (us, refl, h)

-- tokens behind both
thinned_append : (us ts vs ws : List Token) → IsThinned us ts → IsThinned vs ws → IsThinned (us ++ vs) (ts ++ ws)
thinned_append us [] vs ws h k = subst (λ xs. IsThinned (xs ++ vs) ws) (sym h) k
thinned_append us (t ∷ ts) vs ws (inl h) k = inl (h.0 ++ vs, ap (λ xs. xs ++ vs) h.1, thinned_append h.0 ts vs ws h.2 k)
thinned_append us (t ∷ ts) vs ws (inr h) k = inr (h.0, thinned_append us ts vs ws h.1 k)

-- what holds of each token holds of each that is left
pub thinned_each : (P : Token → Type 0) (us ts : List Token) → IsThinned us ts → Each P ts → Each P us
thinned_each P us [] h e = subst (Each P) (sym h) tt
thinned_each P us (t ∷ ts) (inl h) e = subst (Each P) (sym h.1) (e.0, thinned_each P h.0 ts h.2 e.1)
thinned_each P us (t ∷ ts) (inr h) e = thinned_each P us ts h.1 e.1

-- a token before others opens and closes the same before fewer
opens_step : (t : Token) (us ts : List Token) → ((outer : List Bool) → open_behind outer us ≡ open_behind outer ts) → (outer : List Bool) → open_behind outer (t ∷ us) ≡ open_behind outer (t ∷ ts)
opens_step (tokens.Call callee) us ts h outer = h _
opens_step tokens.Open us ts h outer = h _
opens_step tokens.Close us ts h outer = h _
opens_step other us ts h outer = h outer

-- as much is left open
pub thinned_opens : (us ts : List Token) → IsThinned us ts → (outer : List Bool) → open_behind outer us ≡ open_behind outer ts
thinned_opens us [] h outer = ap (open_behind outer) h
thinned_opens us (t ∷ ts) (inl h) outer = ap (open_behind outer) h.1 ∙ opens_step t h.0 ts (thinned_opens h.0 ts h.2) outer
thinned_opens us (t ∷ ts) (inr h) outer = thinned_opens us ts h.1 outer ∙ ap (λ x. open_behind outer (x ∷ ts)) (sym h.0)

-- a front of the tokens that are left, and the front that it comes from
pub thinned_front : (us vs ts : List Token) → IsThinned (us ++ vs) ts → (front back : List Token) × (ts ≡ front ++ back) × IsThinned us front
thinned_front [] vs ts h = ([], ts, refl, refl)
thinned_front (u ∷ us) vs [] h = cc
thinned_front (u ∷ us) vs (t ∷ ts) (inl h) =
    let same : us ++ vs ≡ h.0 = cc (h.1) in
    let first : u ≡ t = cc (h.1) in
    let k = thinned_front us vs ts (subst (λ xs. IsThinned xs ts) (sym same) h.2) in
    (t ∷ k.0, k.1, ap (λ xs. t ∷ xs) k.2, inl (us, ap (λ x. x ∷ us) first, k.3))
thinned_front (u ∷ us) vs (t ∷ ts) (inr h) =
    let k = thinned_front (u ∷ us) vs ts h.1 in
    (t ∷ k.0, k.1, ap (λ xs. t ∷ xs) k.2, inr (h.0, k.3))

-- ---- the tokens of a tree
-- the sign that is left
abbrev pub minus : Token
minus = tokens.Operator operators.Subtract

-- the tokens of a tree are left of those that write it
abbrev Thins : Node → Type 0
Thins tree = (place : ℕ) (written : List Token) → IsWritten tree place written → IsThinned (tokens_of tree) written

-- of signs the `-` are left
thinned_signs : (count : ℕ) (signs us ts : List Token) → AreSigns count signs → IsThinned us ts → IsThinned (replicate count minus ++ us) (signs ++ ts)
thinned_signs count [] us ts h k = subst (λ n. IsThinned (replicate n minus ++ us) ts) (sym h) k
thinned_signs count (tokens.Operator operators.Add ∷ signs) us ts h k = inr (refl, thinned_signs count signs us ts h k)
thinned_signs count (tokens.Operator operators.Subtract ∷ signs) us ts h k = inl (replicate h.0 minus ++ us, ap (λ n. replicate n minus ++ us) h.1, thinned_signs h.0 signs us ts h.2 k)
thinned_signs count (other ∷ signs) us ts h k = absurd h

-- an operand behind its signs
signed_thins : (place count : ℕ) (Operand : List Token → Type 0) (written us : List Token) → ((operand : List Token) → Operand operand → IsThinned us operand) → IsSigned place count Operand written → IsThinned (replicate count minus ++ us) written
signed_thins place count Operand written us own s = subst (IsThinned (replicate count minus ++ us)) (sym s.both) (thinned_signs count s.signs us s.operand s.counted (own s.operand s.own))

-- an operand of one token
one_thins : (token : Token) (operand : List Token) → operand ≡ token ∷ [] → IsThinned (token ∷ []) operand
one_thins token operand e = subst (IsThinned (token ∷ [])) (sym e) (inl ([], refl, refl))

-- the same tokens before and behind
enclosed_thins : (opening : Token) (Inner : List Token → Type 0) (operand us : List Token) → ((inner : List Token) → Inner inner → IsThinned us inner) → IsEnclosed opening Inner operand → IsThinned (opening ∷ (us ++ tokens.Close ∷ [])) operand
enclosed_thins opening Inner operand us own h =
    subst (IsThinned (opening ∷ (us ++ tokens.Close ∷ []))) (sym h.1)
    (thinned_cons opening _ _ (thinned_append us h.0 (tokens.Close ∷ []) (tokens.Close ∷ []) (own h.0 h.2) (inl ([], refl, refl))))

-- arguments
arguments_thin : (xs : List Node) (inner : List Token) → All Thins xs → AreArguments (map IsWritten xs) inner → IsThinned (argument_tokens (map tokens_of xs)) inner
arguments_thin [] inner all h = subst (IsThinned []) (sym h) refl
arguments_thin (x ∷ []) inner all h = All-head Thins x [] all 0 inner h
arguments_thin (x ∷ y ∷ xs) inner all h =
    subst (IsThinned (argument_tokens (map tokens_of (x ∷ y ∷ xs)))) (sym h.2)
    (thinned_append (tokens_of x) h.0 _ _ (All-head Thins x (y ∷ xs) all 0 h.0 h.3) (thinned_cons tokens.Comma _ _ (arguments_thin (y ∷ xs) h.1 (All-tail Thins x (y ∷ xs) all) h.4)))

-- the operands of a chain
chain_thins : (place : ℕ) (xs : List Node) (ops : List Operator) (written : List Token) → All Thins xs → IsChain place (map IsWritten xs) ops written → IsThinned (chain_tokens (map tokens_of xs) ops) written
chain_thins place [] ops written all h = absurd h
chain_thins place (x ∷ []) [] written all h = All-head Thins x [] all (suc place) written h
chain_thins place (x ∷ []) (op ∷ ops) written all h = absurd h
chain_thins place (x ∷ y ∷ xs) [] written all h = absurd h
chain_thins place (x ∷ y ∷ xs) (op ∷ ops) written all h =
    subst (IsThinned (chain_tokens (map tokens_of (x ∷ y ∷ xs)) (op ∷ ops))) (sym h.2)
    (thinned_append (tokens_of x) h.0 _ _ (All-head Thins x (y ∷ xs) all (suc place) h.0 h.3) (thinned_cons (tokens.Operator op) _ _ (chain_thins place (y ∷ xs) ops h.1 (All-tail Thins x (y ∷ xs) all) h.5)))

-- a chain where it stands
chain_at_thins : (place : ℕ) (xs : List Node) (ops : List Operator) (written : List Token) → All Thins xs → IsChainAt place (map IsWritten xs) ops written → IsThinned (chain_tokens (map tokens_of xs) ops) written
chain_at_thins place xs [] written all h = absurd h
chain_at_thins place xs (op ∷ ops) written all h = chain_thins (place_of op) xs (op ∷ ops) written all h.1

-- by the tokens that a layer has
from_step : (written us vs : List Token) → us ≡ vs → IsThinned vs written → IsThinned us written
from_step written us vs e h = subst (λ xs. IsThinned xs written) (sym e) h

-- the tokens of a tree are those that write it, without some `+`
pub tree_thins : (tree : Node) (place : ℕ) (written : List Token) → IsWritten tree place written → IsThinned (tokens_of tree) written
tree_thins = node_induction Thins
    (λ n place written w. from_step written _ _ (fold_number (List Token) tokens_step n) (signed_thins place 0 _ written _ (one_thins (tokens.Number n)) (subst (λ (W : Written). W place written) (number_is_written n) w)))
    (λ t place written w. from_step written _ _ (fold_text (List Token) tokens_step t) (signed_thins place 0 _ written _ (one_thins (tokens.Text t)) (subst (λ (W : Written). W place written) (text_is_written t) w)))
    (λ e place written w. from_step written _ _ (fold_error (List Token) tokens_step e) (signed_thins place 0 _ written _ (one_thins (tokens.Error e)) (subst (λ (W : Written). W place written) (error_is_written e) w)))
    (λ b place written w. from_step written _ _ (fold_boolean (List Token) tokens_step b) (signed_thins place 0 _ written _ (one_thins (tokens.Boolean b)) (subst (λ (W : Written). W place written) (boolean_is_written b) w)))
    (λ r place written w. from_step written _ _ (fold_reference (List Token) tokens_step r) (signed_thins place 0 _ written _ (one_thins (tokens.Reference r)) (subst (λ (W : Written). W place written) (reference_is_written r) w)))
    (λ a b place written w. from_step written _ _ (fold_area (List Token) tokens_step a b) (signed_thins place 0 _ written _ (one_thins (tokens.Area a b)) (subst (λ (W : Written). W place written) (area_is_written a b) w)))
    (λ callee arguments all place written w. from_step written _ _ (fold_call (List Token) tokens_step callee arguments) (signed_thins place 0 _ written _ (λ operand. enclosed_thins (tokens.Call callee) _ operand _ (λ inner. arguments_thin arguments inner all)) (subst (λ (W : Written). W place written) (call_is_written callee arguments) w).1))
    (λ inner own place written w. from_step written _ _ (fold_parentheses (List Token) tokens_step inner) (signed_thins place 0 _ written _ (λ operand. enclosed_thins tokens.Open _ operand _ (own 0)) (subst (λ (W : Written). W place written) (parentheses_is_written inner) w)))
    (λ count operand own place written w. from_step written _ _ (fold_negation (List Token) tokens_step count operand) (signed_thins place count _ written _ (own 5) (subst (λ (W : Written). W place written) (negation_is_written count operand) w).2))
    (λ operands ops all place written w. from_step written _ _ (fold_chain (List Token) tokens_step operands ops) (chain_at_thins place operands ops written all (subst (λ (W : Written). W place written) (chain_is_written operands ops) w)))
