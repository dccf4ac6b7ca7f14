-- The equations of recursions over trees, and an induction over trees.
use Rattle.std.proofs.Common.{◌≡◌, ℕ, ◌≤◌, ℤ, Bool, List, [], ◌∷◌, map, length, All, refl, sym, ap, ◌∙◌, subst}
use Rattle.std.proofs.lemmas.List.{length-map}
use Rattle.std.proofs.lemmas.List.Elements.{All-nil, All-cons}
use Rattle.cell_refs.specs.declared.references.RefText.{RefText}
use Rattle.cell_values.specs.declared.errors.ErrorKind.{ErrorKind}
use Rattle.cell_values.specs.declared.texts.Text.{Text}
use Rattle.formula_parse.specs.declared.callees.Callee.{Callee}
use Rattle.formula_parse.specs.declared.nodes.Node.{Node}
use Rattle.formula_parse.specs.declared.nodes.Node.TheFolds.{fold-Node, fold-roll-Node, rec-roll-Node, ind-Node, map-Node}
use Rattle.formula_parse.specs.declared.nodes.Node.TheOpen.{Node-F}
use Rattle.formula_parse.specs.declared.nodes.Node.TheOpen as layer
use Rattle.formula_parse.specs.declared.nodes.Node.TheVariants as nodes
use Rattle.formula_parse.specs.declared.nodes.Node.TheViews.{roll-Node}
use Rattle.formula_parse.specs.declared.operators.Operator.{Operator}
use Rattle.formula_parse.specs.declared.tokens.Token.TheVariants as tokens
use Rattle.formula_parse.specs.Grammar.{Written, written_step, IsWritten, IsSigned, IsEnclosed, AreArguments, IsChainAt}

-- ---- what a fold makes of each kind of node
module _ (A : Type 0) (step : Node-F A → A) where
  -- a fold of a number
  pub fold_number : (n : ℤ) → fold-Node A step (nodes.Number n) ≡ step (layer.Number n)
  fold_number n = ap (fold-Node A step) (sym (nodes.rolls-Number n)) ∙ fold-roll-Node A step (layer.Number n)

  -- a fold of a text
  pub fold_text : (t : Text) → fold-Node A step (nodes.Text t) ≡ step (layer.Text t)
  fold_text t = ap (fold-Node A step) (sym (nodes.rolls-Text t)) ∙ fold-roll-Node A step (layer.Text t)

  -- a fold of an error
  pub fold_error : (e : ErrorKind) → fold-Node A step (nodes.Error e) ≡ step (layer.Error e)
  fold_error e = ap (fold-Node A step) (sym (nodes.rolls-Error e)) ∙ fold-roll-Node A step (layer.Error e)

  -- a fold of a Boolean
  pub fold_boolean : (b : Bool) → fold-Node A step (nodes.Boolean b) ≡ step (layer.Boolean b)
  fold_boolean b = ap (fold-Node A step) (sym (nodes.rolls-Boolean b)) ∙ fold-roll-Node A step (layer.Boolean b)

  -- a fold of a reference
  pub fold_reference : (r : RefText) → fold-Node A step (nodes.Reference r) ≡ step (layer.Reference r)
  fold_reference r = ap (fold-Node A step) (sym (nodes.rolls-Reference r)) ∙ fold-roll-Node A step (layer.Reference r)

  -- a fold of an area
  pub fold_area : (a : RefText) (b : RefText) → fold-Node A step (nodes.Area a b) ≡ step (layer.Area a b)
  fold_area a b = ap (fold-Node A step) (sym (nodes.rolls-Area a b)) ∙ fold-roll-Node A step (layer.Area a b)

  -- a fold of a call
  pub fold_call : (callee : Callee) (arguments : List Node) → fold-Node A step (nodes.Call callee arguments) ≡ step (layer.Call callee (map (fold-Node A step) arguments))
  fold_call callee arguments = ap (fold-Node A step) (sym (nodes.rolls-Call callee arguments)) ∙ fold-roll-Node A step (layer.Call callee arguments)

  -- a fold of parentheses
  pub fold_parentheses : (inner : Node) → fold-Node A step (nodes.Parentheses inner) ≡ step (layer.Parentheses (fold-Node A step inner))
  fold_parentheses inner = ap (fold-Node A step) (sym (nodes.rolls-Parentheses inner)) ∙ fold-roll-Node A step (layer.Parentheses inner)

  -- a fold of a negation
  pub fold_negation : (count : ℕ) (operand : Node) → fold-Node A step (nodes.Negation count operand) ≡ step (layer.Negation count (fold-Node A step operand))
  fold_negation count operand = ap (fold-Node A step) (sym (nodes.rolls-Negation count operand)) ∙ fold-roll-Node A step (layer.Negation count operand)

  -- a fold of a chain
  pub fold_chain : (operands : List Node) (operators : List Operator) → fold-Node A step (nodes.Chain operands operators) ≡ step (layer.Chain (map (fold-Node A step) operands) operators)
  fold_chain operands operators = ap (fold-Node A step) (sym (nodes.rolls-Chain operands operators)) ∙ fold-roll-Node A step (layer.Chain operands operators)

-- ---- what each kind of node is written with
-- two functions in turn over a list
map_twice {ℓ} : {X Y : Type 0} {Z : Type ℓ} (f : X → Y) (g : Y → Z) (xs : List X) → map (λ x. g (f x)) xs ≡ map g (map f xs)
map_twice f g [] = refl
map_twice f g (x ∷ xs) = ap (λ zs. g (f x) ∷ zs) (map_twice f g xs)

-- what a call is written with, of so many arguments
abbrev written_call : Callee → ℕ → List Written → Written
written_call callee few parts place written = (few ≤ 255) × IsSigned place 0 (IsEnclosed (tokens.Call callee) (AreArguments parts)) written

-- one step reads the parts of a tree through its two functions alone
written_natural : (X : Type 0) (v : X → Node) (k : Node → Written) (x : Node-F X) → written_step X v (λ p. k (v p)) x ≡ written_step Node (λ y. y) k (map-Node X Node v x)
written_natural X v k (layer.Number n) = refl
written_natural X v k (layer.Text t) = refl
written_natural X v k (layer.Error e) = refl
written_natural X v k (layer.Boolean b) = refl
written_natural X v k (layer.Reference r) = refl
written_natural X v k (layer.Area a b) = refl
written_natural X v k (layer.Call callee arguments) = ap (λ few. written_call callee few (map (λ p. k (v p)) arguments)) (sym (length-map arguments v)) ∙ ap (written_call callee (length (map v arguments))) (map_twice v k arguments)
written_natural X v k (layer.Parentheses inner) = refl
written_natural X v k (layer.Negation count operand) = refl
written_natural X v k (layer.Chain operands ops) = ap (λ parts. λ place written. IsChainAt place parts ops written) (map_twice v k operands)

-- what a layer is written with
written_roll : (d : Node-F Node) → IsWritten (roll-Node d) ≡ written_step Node (λ y. y) IsWritten d
written_roll d = rec-roll-Node Written written_step written_natural d

-- what a number is written with
pub number_is_written : (n : ℤ) → IsWritten (nodes.Number n) ≡ written_step Node (λ y. y) IsWritten (layer.Number n)
number_is_written n = ap IsWritten (sym (nodes.rolls-Number n)) ∙ written_roll (layer.Number n)

-- what a text is written with
pub text_is_written : (t : Text) → IsWritten (nodes.Text t) ≡ written_step Node (λ y. y) IsWritten (layer.Text t)
text_is_written t = ap IsWritten (sym (nodes.rolls-Text t)) ∙ written_roll (layer.Text t)

-- what an error is written with
pub error_is_written : (e : ErrorKind) → IsWritten (nodes.Error e) ≡ written_step Node (λ y. y) IsWritten (layer.Error e)
error_is_written e = ap IsWritten (sym (nodes.rolls-Error e)) ∙ written_roll (layer.Error e)

-- what a Boolean is written with
pub boolean_is_written : (b : Bool) → IsWritten (nodes.Boolean b) ≡ written_step Node (λ y. y) IsWritten (layer.Boolean b)
boolean_is_written b = ap IsWritten (sym (nodes.rolls-Boolean b)) ∙ written_roll (layer.Boolean b)

-- what a reference is written with
pub reference_is_written : (r : RefText) → IsWritten (nodes.Reference r) ≡ written_step Node (λ y. y) IsWritten (layer.Reference r)
reference_is_written r = ap IsWritten (sym (nodes.rolls-Reference r)) ∙ written_roll (layer.Reference r)

-- what an area is written with
pub area_is_written : (a : RefText) (b : RefText) → IsWritten (nodes.Area a b) ≡ written_step Node (λ y. y) IsWritten (layer.Area a b)
area_is_written a b = ap IsWritten (sym (nodes.rolls-Area a b)) ∙ written_roll (layer.Area a b)

-- what a call is written with
pub call_is_written : (callee : Callee) (arguments : List Node) → IsWritten (nodes.Call callee arguments) ≡ written_step Node (λ y. y) IsWritten (layer.Call callee arguments)
call_is_written callee arguments = ap IsWritten (sym (nodes.rolls-Call callee arguments)) ∙ written_roll (layer.Call callee arguments)

-- what parentheses are written with
pub parentheses_is_written : (inner : Node) → IsWritten (nodes.Parentheses inner) ≡ written_step Node (λ y. y) IsWritten (layer.Parentheses inner)
parentheses_is_written inner = ap IsWritten (sym (nodes.rolls-Parentheses inner)) ∙ written_roll (layer.Parentheses inner)

-- what a negation is written with
pub negation_is_written : (count : ℕ) (operand : Node) → IsWritten (nodes.Negation count operand) ≡ written_step Node (λ y. y) IsWritten (layer.Negation count operand)
negation_is_written count operand = ap IsWritten (sym (nodes.rolls-Negation count operand)) ∙ written_roll (layer.Negation count operand)

-- what a chain is written with
pub chain_is_written : (operands : List Node) (operators : List Operator) → IsWritten (nodes.Chain operands operators) ≡ written_step Node (λ y. y) IsWritten (layer.Chain operands operators)
chain_is_written operands operators = ap IsWritten (sym (nodes.rolls-Chain operands operators)) ∙ written_roll (layer.Chain operands operators)

-- ---- induction over trees
-- what holds of each pair holds of each first part
all_of : (P : Node → Type 0) (es : List ((e : Node) × P e)) → All P (map (λ e. e.0) es)
all_of P [] = All-nil P
all_of P (e ∷ es) = All-cons P e.0 (map (λ e. e.0) es) e.1 (all_of P es)

module _
    (P : Node → Type 0)
    (number : (n : ℤ) → P (nodes.Number n))
    (text : (t : Text) → P (nodes.Text t))
    (error : (e : ErrorKind) → P (nodes.Error e))
    (boolean : (b : Bool) → P (nodes.Boolean b))
    (reference : (r : RefText) → P (nodes.Reference r))
    (area : (a b : RefText) → P (nodes.Area a b))
    (call : (callee : Callee) (arguments : List Node) → All P arguments → P (nodes.Call callee arguments))
    (parentheses : (inner : Node) → P inner → P (nodes.Parentheses inner))
    (negation : (count : ℕ) (operand : Node) → P operand → P (nodes.Negation count operand))
    (chain : (operands : List Node) (ops : List Operator) → All P operands → P (nodes.Chain operands ops))
  where
    -- one layer over parts of which each has a proof beside it
    layer_holds : (y : Node-F ((e : Node) × P e)) → P (roll-Node (map-Node ((e : Node) × P e) Node (λ e. e.0) y))
    layer_holds (layer.Number n) = subst P (sym (nodes.rolls-Number n)) (number n)
    layer_holds (layer.Text t) = subst P (sym (nodes.rolls-Text t)) (text t)
    layer_holds (layer.Error e) = subst P (sym (nodes.rolls-Error e)) (error e)
    layer_holds (layer.Boolean b) = subst P (sym (nodes.rolls-Boolean b)) (boolean b)
    layer_holds (layer.Reference r) = subst P (sym (nodes.rolls-Reference r)) (reference r)
    layer_holds (layer.Area a b) = subst P (sym (nodes.rolls-Area a b)) (area a b)
    layer_holds (layer.Call callee arguments) = subst P (sym (nodes.rolls-Call callee (map (λ e. e.0) arguments))) (call callee (map (λ e. e.0) arguments) (all_of P arguments))
    layer_holds (layer.Parentheses inner) = subst P (sym (nodes.rolls-Parentheses inner.0)) (parentheses inner.0 inner.1)
    layer_holds (layer.Negation count operand) = subst P (sym (nodes.rolls-Negation count operand.0)) (negation count operand.0 operand.1)
    layer_holds (layer.Chain operands ops) = subst P (sym (nodes.rolls-Chain (map (λ e. e.0) operands) ops)) (chain (map (λ e. e.0) operands) ops (all_of P operands))

    -- what holds of a node where it holds of its parts, holds of each tree
    pub node_induction : (tree : Node) → P tree
    node_induction = ind-Node P (λ x y is. subst (λ d. P (roll-Node d)) is (layer_holds y))
