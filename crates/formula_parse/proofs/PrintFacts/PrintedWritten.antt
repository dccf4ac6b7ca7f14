-- The tokens of a tree write the tree.
use Rattle.std.proofs.Common.{◌≡◌, inl, inr, ℕ, zero, suc, List, [], ◌∷◌, map, replicate, All, refl, sym, subst}
use Rattle.std.proofs.lemmas.List.Elements.{All-head, All-tail}
use Rattle.formula_parse.specs.declared.nodes.Node.{Node}
use Rattle.formula_parse.specs.declared.operators.Operator.{Operator}
use Rattle.formula_parse.specs.declared.tokens.Token.{Token}
use Rattle.formula_parse.specs.Grammar.{Written, IsWritten, IsSigned, AreSigns, AreArguments, IsChain, IsChainAt, place_of}
use Rattle.formula_parse.specs.Printing.{tokens_of, tokens_step, argument_tokens, chain_tokens}
use Rattle.formula_parse.proofs.NodeLaws.{node_induction, fold_number, fold_text, fold_error, fold_boolean, fold_reference, fold_area, fold_call, fold_parentheses, fold_negation, fold_chain, number_is_written, text_is_written, error_is_written, boolean_is_written, reference_is_written, area_is_written, call_is_written, parentheses_is_written, negation_is_written, chain_is_written}
use Rattle.formula_parse.proofs.PrintFacts.PrintedThinned.{minus}

-- a tree is written with its own tokens wherever it is written
abbrev WritesItself : Node → Type 0
WritesItself tree = (place : ℕ) (written : List Token) → IsWritten tree place written → IsWritten tree place (tokens_of tree)

-- so many `-`
minuses : (count : ℕ) → AreSigns count (replicate count minus)
minuses zero = refl
minuses (suc n) = (n, refl, minuses n)

-- an operand without signs
plain : (place : ℕ) (Operand : List Token → Type 0) (us : List Token) → Operand us → IsSigned place 0 Operand us
plain place Operand us own = record { signs = []; operand = us; both = refl; room = inr refl; counted = refl; own = own }

-- arguments
arguments_write : (xs : List Node) (inner : List Token) → All WritesItself xs → AreArguments (map IsWritten xs) inner → AreArguments (map IsWritten xs) (argument_tokens (map tokens_of xs))
arguments_write [] inner all h = refl
arguments_write (x ∷ []) inner all h = All-head WritesItself x [] all 0 inner h
arguments_write (x ∷ y ∷ xs) inner all h =
    (tokens_of x, argument_tokens (map tokens_of (y ∷ xs)), refl, All-head WritesItself x (y ∷ xs) all 0 h.0 h.3, arguments_write (y ∷ xs) h.1 (All-tail WritesItself x (y ∷ xs) all) h.4)

-- the operands of a chain
chain_writes : (place : ℕ) (xs : List Node) (ops : List Operator) (written : List Token) → All WritesItself xs → IsChain place (map IsWritten xs) ops written → IsChain place (map IsWritten xs) ops (chain_tokens (map tokens_of xs) ops)
chain_writes place [] ops written all h = absurd h
chain_writes place (x ∷ []) [] written all h = All-head WritesItself x [] all (suc place) written h
chain_writes place (x ∷ []) (op ∷ ops) written all h = absurd h
chain_writes place (x ∷ y ∷ xs) [] written all h = absurd h
chain_writes place (x ∷ y ∷ xs) (op ∷ ops) written all h =
    (tokens_of x, chain_tokens (map tokens_of (y ∷ xs)) ops, refl, All-head WritesItself x (y ∷ xs) all (suc place) h.0 h.3, h.4, chain_writes place (y ∷ xs) ops h.1 (All-tail WritesItself x (y ∷ xs) all) h.5)

-- a chain where it stands
chain_at_writes : (place : ℕ) (xs : List Node) (ops : List Operator) (written : List Token) → All WritesItself xs → IsChainAt place (map IsWritten xs) ops written → IsChainAt place (map IsWritten xs) ops (chain_tokens (map tokens_of xs) ops)
chain_at_writes place xs [] written all h = absurd h
chain_at_writes place xs (op ∷ ops) written all h = (h.0, chain_writes (place_of op) xs (op ∷ ops) written all h.1)

-- the grammar's words for a node, and the node's own tokens
to_node : (tree : Node) (W : Written) (place : ℕ) (us : List Token) → IsWritten tree ≡ W → tokens_of tree ≡ us → W place us → IsWritten tree place (tokens_of tree)
to_node tree W place us e own w = subst (IsWritten tree place) (sym own) (subst (λ (V : Written). V place us) (sym e) w)

-- a tree is written with its own tokens
pub tree_writes : (tree : Node) (place : ℕ) (written : List Token) → IsWritten tree place written → IsWritten tree place (tokens_of tree)
tree_writes = node_induction WritesItself
    (λ n place written w. to_node (_) _ place _ (number_is_written n) (fold_number (List Token) tokens_step n) (plain place _ _ refl))
    (λ t place written w. to_node (_) _ place _ (text_is_written t) (fold_text (List Token) tokens_step t) (plain place _ _ refl))
    (λ e place written w. to_node (_) _ place _ (error_is_written e) (fold_error (List Token) tokens_step e) (plain place _ _ refl))
    (λ b place written w. to_node (_) _ place _ (boolean_is_written b) (fold_boolean (List Token) tokens_step b) (plain place _ _ refl))
    (λ r place written w. to_node (_) _ place _ (reference_is_written r) (fold_reference (List Token) tokens_step r) (plain place _ _ refl))
    (λ a b place written w. to_node (_) _ place _ (area_is_written a b) (fold_area (List Token) tokens_step a b) (plain place _ _ refl))
    (λ name arguments all place written w.
    let h = subst (λ (W : Written). W place written) (call_is_written name arguments) w in
    to_node (_) _ place _ (call_is_written name arguments) (fold_call (List Token) tokens_step name arguments)
    (h.0, plain place _ _ (argument_tokens (map tokens_of arguments), refl, arguments_write arguments h.1.own.0 all h.1.own.2)))
    (λ inner own place written w.
    let h = subst (λ (W : Written). W place written) (parentheses_is_written inner) w in
    to_node (_) _ place _ (parentheses_is_written inner) (fold_parentheses (List Token) tokens_step inner) (plain place _ _ (tokens_of inner, refl, own 0 h.own.0 h.own.2)))
    (λ count operand own place written w.
    let h = subst (λ (W : Written). W place written) (negation_is_written count operand) w in
    to_node (_) _ place _ (negation_is_written count operand) (fold_negation (List Token) tokens_step count operand)
    (h.0, h.1, record { signs = replicate count minus; operand = tokens_of operand; both = refl; room = inl h.0; counted = minuses count; own = own 5 h.2.operand h.2.own }))
    (λ operands ops all place written w.
    let h = subst (λ (W : Written). W place written) (chain_is_written operands ops) w in
    to_node (_) _ place _ (chain_is_written operands ops) (fold_chain (List Token) tokens_step operands ops) (chain_at_writes place operands ops written all h))
