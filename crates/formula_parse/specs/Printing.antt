-- The canonical text of a tree: `=` and its tokens without spaces.
use Rattle.std.specs.Prelude.{ℕ, unsigned_abs, List, [], ◌∷◌, ◌++◌, replicate, codes, decimal}
use Rattle.std.specs.List.{flat_map}
use Rattle.cell_refs.specs.Written.{reference_text}
use Rattle.cell_values.specs.Error.{error_word}
use Rattle.cell_values.specs.Word.{quotation_of}
use Rattle.formula_parse.specs.declared.nodes.Node.{Node}
use Rattle.formula_parse.specs.declared.nodes.Node.TheFolds.{fold-Node}
use Rattle.formula_parse.specs.declared.nodes.Node.TheOpen.{Node-F}
use Rattle.formula_parse.specs.declared.nodes.Node.TheOpen as layer
use Rattle.formula_parse.specs.declared.operators.Operator.{Operator}
use Rattle.formula_parse.specs.declared.operators.Operator.TheVariants as operators
use Rattle.formula_parse.specs.declared.tokens.Token.{Token}
use Rattle.formula_parse.specs.declared.tokens.Token.TheVariants as tokens
use Rattle.formula_parse.specs.Callees.{callee_text}
use Rattle.formula_parse.specs.Tokens.{boolean_word, operator_text}

-- a token in its canonical form
abbrev pub token_text : Token → List ℕ
token_text (tokens.Number n) = decimal (unsigned_abs n)
token_text (tokens.Text t) = quotation_of t
token_text (tokens.Error e) = error_word e
token_text (tokens.Boolean b) = boolean_word b
token_text (tokens.Reference r) = reference_text r
token_text (tokens.Area a b) = reference_text a ++ 58 ∷ reference_text b
token_text (tokens.Call callee) = callee_text callee ++ 40 ∷ []
token_text tokens.Open = codes "("
token_text tokens.Close = codes ")"
token_text tokens.Comma = codes ","
token_text (tokens.Operator op) = operator_text op

-- arguments with a `,` between each two
abbrev pub argument_tokens : List (List Token) → List Token
argument_tokens [] = []
argument_tokens (argument ∷ []) = argument
argument_tokens (argument ∷ next ∷ arguments) = argument ++ tokens.Comma ∷ argument_tokens (next ∷ arguments)

-- operands with their operators between them
abbrev pub chain_tokens : List (List Token) → List Operator → List Token
chain_tokens [] ops = []
chain_tokens (operand ∷ operands) [] = operand
chain_tokens (operand ∷ operands) (op ∷ ops) = operand ++ tokens.Operator op ∷ chain_tokens operands ops

-- the tokens of one part of a tree, over those of its parts
abbrev pub tokens_step : Node-F (List Token) → List Token
tokens_step (layer.Number n) = tokens.Number n ∷ []
tokens_step (layer.Text t) = tokens.Text t ∷ []
tokens_step (layer.Error e) = tokens.Error e ∷ []
tokens_step (layer.Boolean b) = tokens.Boolean b ∷ []
tokens_step (layer.Reference r) = tokens.Reference r ∷ []
tokens_step (layer.Area a b) = tokens.Area a b ∷ []
tokens_step (layer.Call callee arguments) = tokens.Call callee ∷ (argument_tokens arguments ++ tokens.Close ∷ [])
tokens_step (layer.Parentheses inner) = tokens.Open ∷ (inner ++ tokens.Close ∷ [])
tokens_step (layer.Negation count operand) = replicate count (tokens.Operator operators.Subtract) ++ operand
tokens_step (layer.Chain operands ops) = chain_tokens operands ops

-- the tokens of a tree, without any `+` before an operand
abbrev pub tokens_of : Node → List Token
tokens_of = fold-Node (List Token) tokens_step

-- the canonical text of a tree
unfoldable pub canonical_text : Node → List ℕ
canonical_text tree = 61 ∷ flat_map token_text (tokens_of tree)
