-- How many `-` a turn may add.
use Rattle.std.proofs.Common.{◌≡◌, ℕ, ◌+◌, ◌≤◌, ◌||◌, List, [], ◌∷◌, Option, Some, None, subst, arith}
use Rattle.std.specs.Option.{option_map}
use Rattle.formula_parse.specs.declared.nodes.Node.{Node}
use Rattle.formula_parse.specs.declared.operators.Operator.{Operator}
use Rattle.formula_parse.specs.declared.operators.Operator.TheVariants as operators
use Rattle.formula_parse.specs.declared.reader.Frame.{Frame}
use Rattle.formula_parse.specs.declared.reader.OpenChain.{OpenChain}
use Rattle.formula_parse.specs.declared.reader.Opened.{Opened}
use Rattle.formula_parse.specs.declared.reader.Opened.TheVariants as opened
use Rattle.formula_parse.specs.declared.reader.Phase.{Phase}
use Rattle.formula_parse.specs.declared.reader.Phase.TheVariants as phases
use Rattle.formula_parse.specs.declared.reader.Reader.{Reader}
use Rattle.formula_parse.specs.declared.tokens.Token.{Token}
use Rattle.formula_parse.specs.declared.tokens.Token.TheVariants as tokens
use Rattle.formula_parse.specs.ReaderMachine.{Turn, minuses_in, after_operand, operand_turn, empty_call, start_turn, operator_turn, closing, close_turn, with_frame, with_argument, comma_turn, after_turn, tree_of_chains, turn_at, reader_behind}
use Rattle.formula_parse.specs.Tokens.{is_wide_area, is_large_number}

-- no more `-` than this
abbrev IsUpTo : ℕ → Option Turn → Type 0
IsUpTo most None = Unit {0}
IsUpTo most (Some turn) = minuses_in turn.0 ≤ most

behind_operand : (most minuses : ℕ) (frames : List Frame) (operand : Option Node) → IsUpTo most (after_operand minuses frames operand)
behind_operand most minuses frames None = tt
behind_operand most minuses frames (Some node) = omega arith

at_operand : (minuses : ℕ) (frames : List Frame) (token : Token) → IsUpTo (minuses + 1) (operand_turn minuses frames token)
at_operand minuses frames (tokens.Number n) = omega arith
at_operand minuses frames (tokens.Text t) = omega arith
at_operand minuses frames (tokens.Error e) = omega arith
at_operand minuses frames (tokens.Boolean b) = omega arith
at_operand minuses frames (tokens.Reference r) = omega arith
at_operand minuses frames (tokens.Area a b) = omega arith
at_operand minuses frames (tokens.Call callee) = omega arith
at_operand minuses frames tokens.Open = omega arith
at_operand minuses frames tokens.Close = tt
at_operand minuses frames tokens.Comma = tt
at_operand minuses frames (tokens.Operator (operators.Compare op)) = tt
at_operand minuses frames (tokens.Operator operators.Join) = tt
at_operand minuses frames (tokens.Operator operators.Add) = omega arith
at_operand minuses frames (tokens.Operator operators.Subtract) = omega arith
at_operand minuses frames (tokens.Operator operators.Multiply) = tt
at_operand minuses frames (tokens.Operator operators.Divide) = tt

empty_frame : (what : Opened) (minuses calls : ℕ) (chains : List OpenChain) (frames : List Frame) → IsUpTo 1 (empty_call ((record { opened = what; minuses = minuses; calls = calls; chains = chains }) ∷ frames))
empty_frame opened.Formula minuses calls chains frames = tt
empty_frame opened.Parentheses minuses calls chains frames = tt
empty_frame (opened.Call callee arguments) minuses calls chains frames = omega arith

at_empty : (frames : List Frame) → IsUpTo 1 (empty_call frames)
at_empty [] = tt
at_empty (frame ∷ frames) = empty_frame frame.opened frame.minuses frame.calls frame.chains frames

at_start : (frames : List Frame) (token : Token) → IsUpTo 1 (start_turn frames token)
at_start frames (tokens.Number n) = omega arith
at_start frames (tokens.Text t) = omega arith
at_start frames (tokens.Error e) = omega arith
at_start frames (tokens.Boolean b) = omega arith
at_start frames (tokens.Reference r) = omega arith
at_start frames (tokens.Area a b) = omega arith
at_start frames (tokens.Call callee) = omega arith
at_start frames tokens.Open = omega arith
at_start frames tokens.Close = at_empty frames
at_start frames tokens.Comma = tt
at_start frames (tokens.Operator op) = at_operand 0 frames (tokens.Operator op)

at_operator : (operand : Node) (op : Operator) (frames : List Frame) → IsUpTo 1 (operator_turn operand op frames)
at_operator operand op [] = tt
at_operator operand op (frame ∷ frames) = omega arith

at_close : (operand : Node) (frames : List Frame) → IsUpTo 1 (close_turn operand frames)
at_close operand [] = tt
at_close operand (frame ∷ frames) = behind_operand 1 frame.minuses frames (closing frame.opened (tree_of_chains operand frame.chains))

at_argument : (minuses calls : ℕ) (frames : List Frame) (o : Option Opened) → IsUpTo 1 (option_map (λ what. (phases.Signs 0, with_frame what minuses calls frames)) o)
at_argument minuses calls frames None = tt
at_argument minuses calls frames (Some what) = omega arith

at_comma : (operand : Node) (frames : List Frame) → IsUpTo 1 (comma_turn operand frames)
at_comma operand [] = tt
at_comma operand (frame ∷ frames) = at_argument frame.minuses frame.calls frames (with_argument frame.opened (tree_of_chains operand frame.chains))

at_after : (operand : Node) (frames : List Frame) (token : Token) → IsUpTo 1 (after_turn operand frames token)
at_after operand frames (tokens.Number n) = tt
at_after operand frames (tokens.Text t) = tt
at_after operand frames (tokens.Error e) = tt
at_after operand frames (tokens.Boolean b) = tt
at_after operand frames (tokens.Reference r) = tt
at_after operand frames (tokens.Area a b) = tt
at_after operand frames (tokens.Call callee) = tt
at_after operand frames tokens.Open = tt
at_after operand frames tokens.Close = at_close operand frames
at_after operand frames tokens.Comma = at_comma operand frames
at_after operand frames (tokens.Operator op) = at_operator operand op frames

at_turn : (phase : Phase) (frames : List Frame) (token : Token) → IsUpTo (minuses_in phase + 1) (turn_at phase frames token)
at_turn phases.Start frames token = at_start frames token
at_turn (phases.Signs minuses) frames token = at_operand minuses frames token
at_turn (phases.After operand) frames token = at_after operand frames token

-- a token adds one `-` at most
pub one_more : (reader next : Reader) (token : Token) → reader_behind reader token ≡ Some next → minuses_in next.phase ≤ minuses_in reader.phase + 1
unfolding reader_behind
one_more reader next token e = by_turn (turn_at reader.phase reader.frames token) (at_turn reader.phase reader.frames token) e
  where
    by_turn : (o : Option Turn) → IsUpTo (minuses_in reader.phase + 1) o → option_map (λ turn. record { phase = turn.0; frames = turn.1; has_wide_area = reader.has_wide_area || is_wide_area token; has_large_number = reader.has_large_number || is_large_number token }) o ≡ Some next → minuses_in next.phase ≤ minuses_in reader.phase + 1
    by_turn None u h = absurd (cc)
    by_turn (Some turn) u h =
        let is : record { phase = turn.0; frames = turn.1; has_wide_area = reader.has_wide_area || is_wide_area token; has_large_number = reader.has_large_number || is_large_number token } ≡ next = cc in
        subst (λ r. minuses_in r.phase ≤ minuses_in reader.phase + 1) is u
