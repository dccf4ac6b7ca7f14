-- What is written at a tight place is written at a looser one; signs in front of an operand.
use Rattle.std.proofs.Common.{◌≡◌, ◌⊎◌, inl, inr, ℕ, zero, suc, ◌<◌, ◌≤◌, List, [], ◌∷◌, ◌++◌, refl, sym, ap, ◌∙◌, subst, arith, le_trans, false}
use Rattle.std.specs.Prelude.{◌==◌}
use Rattle.std.proofs.lemmas.Bool.{cond-false}
use Rattle.std.proofs.lemmas.Bool.Decides.{nat_tests}
use Rattle.formula_parse.specs.declared.nodes.Node.{Node}
use Rattle.formula_parse.specs.declared.nodes.Node.TheVariants as nodes
use Rattle.formula_parse.specs.declared.operators.Operator.{Operator}
use Rattle.formula_parse.specs.declared.operators.Operator.TheVariants as operators
use Rattle.formula_parse.specs.declared.tokens.Token.{Token}
use Rattle.formula_parse.specs.declared.tokens.Token.TheVariants as tokens
use Rattle.formula_parse.specs.Grammar.{place_of, Written, AreSigns, IsSigned, IsChainAt, IsWritten}
use Rattle.formula_parse.specs.ReaderMachine.{signed_node}
use Rattle.formula_parse.proofs.NodeLaws.{node_induction, number_is_written, text_is_written, error_is_written, boolean_is_written, reference_is_written, area_is_written, call_is_written, parentheses_is_written, negation_is_written, chain_is_written}

-- from what a tree is written with to the grammar's words for it
pub written_to : {X Y : Written} (e : X ≡ Y) (place : ℕ) (written : List Token) → X place written → Y place written
written_to e place written w = subst (λ (W : Written). W place written) e w

-- from the grammar's words for it to what a tree is written with
pub written_from : {X Y : Written} (e : X ≡ Y) (place : ℕ) (written : List Token) → Y place written → X place written
written_from e place written w = subst (λ (W : Written). W place written) (sym e) w

-- an operator's place is one of the first four
pub place_is_low : (op : Operator) → place_of op ≤ 3
place_is_low (operators.Compare op) = omega arith
place_is_low operators.Join = omega arith
place_is_low operators.Add = omega arith
place_is_low operators.Subtract = omega arith
place_is_low operators.Multiply = omega arith
place_is_low operators.Divide = omega arith

-- ---- signs
-- no signs where none may stand
pub no_signs : (place : ℕ) (signs : List Token) → 4 < place → (place ≤ 4) ⊎ (signs ≡ []) → signs ≡ []
no_signs place signs tight (inl low) = absurd (omega arith)
no_signs place signs tight (inr none) = none

-- signs may stand at a looser place
room_below : (low place : ℕ) (signs : List Token) → low ≤ place → (place ≤ 4) ⊎ (signs ≡ []) → (low ≤ 4) ⊎ (signs ≡ [])
room_below low place signs le (inl within) = inl (omega arith)
room_below low place signs le (inr none) = inr none

-- a signed operand at a looser place
signed_below : (low place count : ℕ) (Operand : List Token → Type 0) (written : List Token) → low ≤ place → IsSigned place count Operand written → IsSigned low count Operand written
signed_below low place count Operand written le w = record {
  signs = w.signs;
  operand = w.operand;
  both = w.both;
  room = room_below low place w.signs le w.room;
  counted = w.counted;
  own = w.own;
}

-- an operand alone, with signs of which none is `-` in front
signed_alone : (signs : List Token) (Operand : List Token → Type 0) (written : List Token) → AreSigns 0 signs → IsSigned 5 0 Operand written → IsSigned 4 0 Operand (signs ++ written)
signed_alone signs Operand written counted w =
    let none = no_signs 5 w.signs (omega arith) w.room in
    let both : written ≡ w.operand = w.both ∙ ap (λ s. s ++ w.operand) none in
    record {
      signs = signs;
      operand = written;
      both = refl;
      room = inl (omega arith);
      counted = counted;
      own = subst Operand (sym both) w.own;
    }

-- one more `+` behind signs
pub signs_with_plus : (count : ℕ) (signs : List Token) → AreSigns count signs → AreSigns count (signs ++ tokens.Operator operators.Add ∷ [])
signs_with_plus count [] h = h
signs_with_plus count (tokens.Operator operators.Add ∷ signs) h = signs_with_plus count signs h
signs_with_plus count (tokens.Operator operators.Subtract ∷ signs) h = (h.0, h.1, signs_with_plus h.0 signs h.2)
signs_with_plus count (other ∷ signs) h = absurd h

-- one more `-` behind signs
pub signs_with_minus : (count : ℕ) (signs : List Token) → AreSigns count signs → AreSigns (suc count) (signs ++ tokens.Operator operators.Subtract ∷ [])
signs_with_minus count [] h = (count, refl, h)
signs_with_minus count (tokens.Operator operators.Add ∷ signs) h = signs_with_minus count signs h
signs_with_minus count (tokens.Operator operators.Subtract ∷ signs) h = (count, refl, subst (λ n. AreSigns n (signs ++ tokens.Operator operators.Subtract ∷ [])) (sym h.1) (signs_with_minus h.0 signs h.2))
signs_with_minus count (other ∷ signs) h = absurd h

-- ---- looser places
-- a chain at a looser place
chain_below : (low place : ℕ) (Xs : List Written) (ops : List Operator) (written : List Token) → low ≤ place → IsChainAt place Xs ops written → IsChainAt low Xs ops written
chain_below low place Xs [] written le w = absurd w
chain_below low place Xs (op ∷ ops) written le w = (le_trans le w.0, w.1)

-- a tree at each looser place
abbrev IsLoosened : Node → Type 0
IsLoosened tree = (low place : ℕ) (written : List Token) → low ≤ place → IsWritten tree place written → IsWritten tree low written

-- what a tree is written with at a place, it is written with at a looser one
pub written_below : (tree : Node) → IsLoosened tree
written_below = node_induction IsLoosened
    (λ n low place written le w. written_from (number_is_written n) low written (signed_below low place 0 _ written le (written_to (number_is_written n) place written w)))
    (λ t low place written le w. written_from (text_is_written t) low written (signed_below low place 0 _ written le (written_to (text_is_written t) place written w)))
    (λ e low place written le w. written_from (error_is_written e) low written (signed_below low place 0 _ written le (written_to (error_is_written e) place written w)))
    (λ b low place written le w. written_from (boolean_is_written b) low written (signed_below low place 0 _ written le (written_to (boolean_is_written b) place written w)))
    (λ r low place written le w. written_from (reference_is_written r) low written (signed_below low place 0 _ written le (written_to (reference_is_written r) place written w)))
    (λ a b low place written le w. written_from (area_is_written a b) low written (signed_below low place 0 _ written le (written_to (area_is_written a b) place written w)))
    (λ name arguments each low place written le w. let u = written_to (call_is_written name arguments) place written w in written_from (call_is_written name arguments) low written (u.0, signed_below low place 0 _ written le u.1))
    (λ inner own low place written le w. written_from (parentheses_is_written inner) low written (signed_below low place 0 _ written le (written_to (parentheses_is_written inner) place written w)))
    (λ count operand own low place written le w. let u = written_to (negation_is_written count operand) place written w in written_from (negation_is_written count operand) low written (le_trans le u.0, u.1, signed_below low place count _ written le u.2))
    (λ operands ops each low place written le w. written_from (chain_is_written operands ops) low written (chain_below low place _ ops written le (written_to (chain_is_written operands ops) place written w)))

-- ---- signed operands
-- a number above 0 is not 0
is_not_zero : (count : ℕ) → 0 < count → count == 0 ≡ false
is_not_zero count some = grind (arith, nat_tests)

-- no chain is an operand alone
pub no_chain_alone : (place : ℕ) (Xs : List Written) (ops : List Operator) (written : List Token) → 3 < place → IsChainAt place Xs ops written → ⊥
no_chain_alone place Xs [] written tight w = w
no_chain_alone place Xs (op ∷ ops) written tight w = let low = place_is_low op in omega (arith, w.0)

-- a tree that is an operand alone, behind signs of which none is `-`
abbrev IsUnsigned : Node → Type 0
IsUnsigned tree = (signs written : List Token) → AreSigns 0 signs → IsWritten tree 5 written → IsWritten tree 4 (signs ++ written)

-- an operand alone, behind signs of which none is `-`
written_unsigned : (tree : Node) → IsUnsigned tree
written_unsigned = node_induction IsUnsigned
    (λ n signs written s w. written_from (number_is_written n) 4 (signs ++ written) (signed_alone signs _ written s (written_to (number_is_written n) 5 written w)))
    (λ t signs written s w. written_from (text_is_written t) 4 (signs ++ written) (signed_alone signs _ written s (written_to (text_is_written t) 5 written w)))
    (λ e signs written s w. written_from (error_is_written e) 4 (signs ++ written) (signed_alone signs _ written s (written_to (error_is_written e) 5 written w)))
    (λ b signs written s w. written_from (boolean_is_written b) 4 (signs ++ written) (signed_alone signs _ written s (written_to (boolean_is_written b) 5 written w)))
    (λ r signs written s w. written_from (reference_is_written r) 4 (signs ++ written) (signed_alone signs _ written s (written_to (reference_is_written r) 5 written w)))
    (λ a b signs written s w. written_from (area_is_written a b) 4 (signs ++ written) (signed_alone signs _ written s (written_to (area_is_written a b) 5 written w)))
    (λ name arguments each signs written s w. let u = written_to (call_is_written name arguments) 5 written w in written_from (call_is_written name arguments) 4 (signs ++ written) (u.0, signed_alone signs _ written s u.1))
    (λ inner own signs written s w. written_from (parentheses_is_written inner) 4 (signs ++ written) (signed_alone signs _ written s (written_to (parentheses_is_written inner) 5 written w)))
    (λ count operand own signs written s w. absurd (omega (arith, (written_to (negation_is_written count operand) 5 written w).0)))
    (λ operands ops each signs written s w. absurd (no_chain_alone 5 _ ops written (omega arith) (written_to (chain_is_written operands ops) 5 written w)))

-- signs of which some are `-` make a negation
pub negated_some : (count : ℕ) (tree : Node) → 0 < count → signed_node count tree ≡ nodes.Negation count tree
negated_some count tree some = cond-false (count == 0) tree (nodes.Negation count tree) (is_not_zero count some)

-- signs of which none is `-` leave an operand as it is
pub negated_none : (count : ℕ) (tree : Node) → count ≡ 0 → signed_node count tree ≡ tree
negated_none count tree none = ap (λ n. signed_node n tree) none

-- an operand alone, behind signs
pub written_signed : (count : ℕ) (tree : Node) (signs written : List Token) → AreSigns count signs → IsWritten tree 5 written → IsWritten (signed_node count tree) 4 (signs ++ written)
written_signed zero tree signs written s w = written_unsigned tree signs written s w
written_signed (suc count) tree signs written s w =
    subst (λ node. IsWritten node 4 (signs ++ written)) (sym (negated_some (suc count) tree (omega arith)))
    (written_from (negation_is_written (suc count) tree) 4 (signs ++ written) (
      omega arith,
      omega arith,
      record {
        signs = signs;
        operand = written;
        both = refl;
        room = inl (omega arith);
        counted = s;
        own = w;
      },
    ))
