-- The reader's turns over lists of tokens.
use Rattle.std.specs.Prelude.{Bool, true, false, List, [], ◌∷◌, Option, Some, option_and_then}
use Rattle.formula_parse.specs.declared.nodes.Node.{Node}
use Rattle.formula_parse.specs.declared.reader.Opened.TheVariants as opened
use Rattle.formula_parse.specs.declared.reader.Phase.TheVariants as phases
use Rattle.formula_parse.specs.declared.tokens.Token.{Token}
use Rattle.formula_parse.specs.declared.tokens.Token.TheVariants as tokens
use Rattle.formula_parse.specs.ReaderMachine.{Turn, turn_at, tree_at_end}

-- the turn behind the `=` of a formula
abbrev pub first_turn : Turn
first_turn = (phases.Signs 0, (record { opened = opened.Formula; minuses = 0; calls = 0; chains = [] }) ∷ [])

-- the turn behind tokens, where each can stand in its place
abbrev pub ran : Turn → List Token → Option Turn
ran turn [] = Some turn
ran turn (token ∷ tokens) = option_and_then (λ next. ran next tokens) (turn_at turn.0 turn.1 token)

-- the tree of tokens that end behind a turn
abbrev pub ended_behind : Turn → Option Node
ended_behind turn = tree_at_end turn.0 turn.1

-- whether a token is an operand by itself, or begins a call
abbrev pub is_operand : Token → Bool
is_operand (tokens.Number n) = true
is_operand (tokens.Text t) = true
is_operand (tokens.Error e) = true
is_operand (tokens.Boolean b) = true
is_operand (tokens.Reference r) = true
is_operand (tokens.Area a b) = true
is_operand (tokens.Call callee) = true
is_operand other = false
