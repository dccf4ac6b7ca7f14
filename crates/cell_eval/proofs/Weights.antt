-- How much there is to evaluate below a part of a tree: a number that falls with each call of the recursion.
use Rattle.std.proofs.Common.{◌≡◌, ℕ, zero, suc, ◌+◌, ◌<◌, List, [], ◌∷◌, map, length, get_or, refl, ap, ◌∙◌, arith}
use Rattle.formula_parse.proofs.PublicLaws.{fold_call, fold_parentheses, fold_negation, fold_chain}
use Rattle.formula_parse.specs.declared.callees.Callee.{Callee}
use Rattle.formula_parse.specs.declared.nodes.Node.{Node}
use Rattle.formula_parse.specs.declared.nodes.Node.TheFolds.{fold-Node}
use Rattle.formula_parse.specs.declared.nodes.Node.TheOpen.{Node-F}
use Rattle.formula_parse.specs.declared.nodes.Node.TheOpen as layer
use Rattle.formula_parse.specs.declared.nodes.Node.TheVariants as nodes
use Rattle.formula_parse.specs.declared.operators.Operator.{Operator}

-- the weights of several parts together
unfoldable pub weighed : List ℕ → ℕ
weighed [] = 0
weighed (w ∷ ws) = w + 2 + weighed ws

-- a part weighs more than its own parts
unfoldable pub weight_step : Node-F ℕ → ℕ
weight_step (layer.Number n) = 0
weight_step (layer.Text t) = 0
weight_step (layer.Error e) = 0
weight_step (layer.Boolean b) = 0
weight_step (layer.Reference r) = 0
weight_step (layer.Area a b) = 0
weight_step (layer.Call callee arguments) = weighed arguments + 3
weight_step (layer.Parentheses inner) = inner + 1
weight_step (layer.Negation count operand) = operand + 1
weight_step (layer.Chain operands operators) = weighed operands + 3

-- the weight of a part
unfoldable pub weight : Node → ℕ
weight = fold-Node ℕ weight_step

-- the weight of several parts
unfoldable pub weights : List Node → ℕ
weights ns = weighed (map weight ns)

-- the weight of a call
pub weight_call : (node : Node) (callee : Callee) (arguments : List Node) → node ≡ nodes.Call callee arguments → weight node ≡ weights arguments + 3
unfolding weight weights weight_step
weight_call node callee arguments is = ap weight is ∙ fold_call ℕ weight_step callee arguments

-- the weight of a chain
pub weight_chain : (node : Node) (operands : List Node) (ops : List Operator) → node ≡ nodes.Chain operands ops → weight node ≡ weights operands + 3
unfolding weight weights weight_step
weight_chain node operands ops is = ap weight is ∙ fold_chain ℕ weight_step operands ops

-- the weight of parentheses
pub weight_parentheses : (node inner : Node) → node ≡ nodes.Parentheses inner → weight node ≡ weight inner + 1
unfolding weight weight_step
weight_parentheses node inner is = ap weight is ∙ fold_parentheses ℕ weight_step inner

-- the weight of a negation
pub weight_negation : (node : Node) (count : ℕ) (operand : Node) → node ≡ nodes.Negation count operand → weight node ≡ weight operand + 1
unfolding weight weight_step
weight_negation node count operand is = ap weight is ∙ fold_negation ℕ weight_step count operand

-- the first part weighs less than all, and so do the others
pub weights_first : (n : Node) (ns : List Node) → weights (n ∷ ns) ≡ weight n + 2 + weights ns
unfolding weights weighed
weights_first n ns = refl

-- each part weighs less than all
pub weight_at : (ns : List Node) (i : ℕ) (d : Node) → i < length ns → weight (get_or ns i d) + 1 < weights ns
weight_at [] i d lt = absurd (omega arith)
weight_at (n ∷ ns) zero d lt = omega (arith, weights_first n ns)
weight_at (n ∷ ns) (suc i) d lt = let h = weight_at ns i d (omega arith) in omega (arith, weights_first n ns)
