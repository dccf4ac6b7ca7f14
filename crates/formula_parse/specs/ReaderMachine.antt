-- For the crate's own functions: reading a text from left to right, token by token.
use Rattle.std.specs.Prelude.{ℕ, zero, suc, ◌+◌, ◌==◌, Bool, true, false, ◌||◌, if◌then◌else◌, nat_lt, List, [], ◌∷◌, ◌++◌, length, drop, take_while, Option, Some, None, option_map, Result, Ok, Err}
use Rattle.formula_parse.specs.declared.faults.ParseFault.{ParseFault}
use Rattle.formula_parse.specs.declared.faults.ParseFault.TheVariants as faults
use Rattle.formula_parse.specs.declared.nodes.Node.{Node}
use Rattle.formula_parse.specs.declared.nodes.Node.TheVariants as nodes
use Rattle.formula_parse.specs.declared.operators.Operator.{Operator}
use Rattle.formula_parse.specs.declared.operators.Operator.TheVariants as operators
use Rattle.formula_parse.specs.declared.reader.Frame.{Frame}
use Rattle.formula_parse.specs.declared.reader.OpenChain.{OpenChain}
use Rattle.formula_parse.specs.declared.reader.Opened.{Opened}
use Rattle.formula_parse.specs.declared.reader.Opened.TheVariants as opened
use Rattle.formula_parse.specs.declared.reader.Phase.{Phase}
use Rattle.formula_parse.specs.declared.reader.Phase.TheVariants as phases
use Rattle.formula_parse.specs.declared.reader.Reader.{Reader}
use Rattle.formula_parse.specs.declared.tokens.Token.{Token}
use Rattle.formula_parse.specs.declared.tokens.Token.TheVariants as tokens
use Rattle.formula_parse.specs.Grammar.{place_of}
use Rattle.formula_parse.specs.Lexing.{token_at, begun_len}
use Rattle.formula_parse.specs.Tokens.{is_wide_area, is_large_number}

-- an operand behind signs of which so many are `-`
abbrev pub signed_node : ℕ → Node → Node
signed_node count operand = if count == 0 then operand else nodes.Negation count operand

-- the place of a chain: that of its operators
abbrev pub place_of_chain : OpenChain → ℕ
place_of_chain chain = place_of_first chain.operators
  where
    place_of_first : List Operator → ℕ
    place_of_first [] = 0
    place_of_first (op ∷ ops) = place_of op

-- a chain with its last operand
abbrev pub chain_node : OpenChain → Node → Node
chain_node chain last = nodes.Chain (chain.operands ++ last ∷ []) chain.operators

-- whether the tightest chain is tighter than a place
abbrev pub is_tighter : ℕ → List OpenChain → Bool
is_tighter place [] = false
is_tighter place (chain ∷ chains) = nat_lt place (place_of_chain chain)

-- an operand with the chains closed round it that are tighter than a place, and the other chains
abbrev pub operand_in_chains : ℕ → Node → List OpenChain → Node × List OpenChain
operand_in_chains place operand [] = (operand, [])
operand_in_chains place operand (chain ∷ chains) = if nat_lt place (place_of_chain chain) then operand_in_chains place (chain_node chain operand) chains else (operand, chain ∷ chains)

-- an operand with all chains closed round it
abbrev pub tree_of_chains : Node → List OpenChain → Node
tree_of_chains operand [] = operand
tree_of_chains operand (chain ∷ chains) = tree_of_chains (chain_node chain operand) chains

-- the chains with an operand and the operator behind it, where none is tighter than the operator
abbrev pub chains_with : Operator → Node × List OpenChain → List OpenChain
chains_with op (operand, []) = (record { operands = operand ∷ []; operators = op ∷ [] }) ∷ []
chains_with op (operand, chain ∷ chains) =
    if place_of_chain chain == place_of op
    then (record { operands = chain.operands ++ operand ∷ []; operators = chain.operators ++ op ∷ [] }) ∷ chains
    else (record { operands = operand ∷ []; operators = op ∷ [] }) ∷ chain ∷ chains

-- the chains with an operand and the operator behind it
abbrev pub chains_behind : Node → Operator → List OpenChain → List OpenChain
chains_behind operand op chains = chains_with op (operand_in_chains (place_of op) operand chains)

-- the operand that a token is by itself
abbrev pub operand_of : Token → Option Node
operand_of (tokens.Number n) = Some (nodes.Number n)
operand_of (tokens.Text t) = Some (nodes.Text t)
operand_of (tokens.Error e) = Some (nodes.Error e)
operand_of (tokens.Boolean b) = Some (nodes.Boolean b)
operand_of (tokens.Reference r) = Some (nodes.Reference r)
operand_of (tokens.Area a b) = Some (nodes.Area a b)
operand_of other = None

-- how many calls are open
abbrev pub calls_open : List Frame → ℕ
calls_open [] = 0
calls_open (frame ∷ frames) = frame.calls

-- a new frame behind signs of which so many are `-`
abbrev pub with_frame : Opened → ℕ → ℕ → List Frame → List Frame
with_frame what minuses calls frames = (record { opened = what; minuses = minuses; calls = calls; chains = [] }) ∷ frames

-- how many `-` stand before the operand that is awaited
abbrev pub minuses_in : Phase → ℕ
minuses_in phases.Start = 0
minuses_in (phases.Signs minuses) = minuses
minuses_in (phases.After operand) = 0

-- a phase and the frames
abbrev pub Turn : Type 0
Turn = Phase × List Frame

-- an operand, behind its signs, or none
abbrev pub after_operand : ℕ → List Frame → Option Node → Option Turn
after_operand minuses frames operand = option_map (λ node. (phases.After (signed_node minuses node), frames)) operand

-- a token where an operand or a sign may stand, behind so many `-`
abbrev pub operand_turn : ℕ → List Frame → Token → Option Turn
operand_turn minuses frames (tokens.Operator operators.Add) = Some (phases.Signs minuses, frames)
operand_turn minuses frames (tokens.Operator operators.Subtract) = Some (phases.Signs (suc minuses), frames)
operand_turn minuses frames tokens.Open = Some (phases.Signs 0, with_frame opened.Parentheses minuses (calls_open frames) frames)
operand_turn minuses frames (tokens.Call callee) = Some (phases.Start, with_frame (opened.Call callee []) minuses (suc (calls_open frames)) frames)
operand_turn minuses frames other = after_operand minuses frames (operand_of other)

-- the `)` of a call without arguments
abbrev pub empty_call : List Frame → Option Turn
empty_call [] = None
empty_call (frame ∷ frames) = empty_call_of frame.opened frame.minuses frames
  where
    empty_call_of : Opened → ℕ → List Frame → Option Turn
    empty_call_of (opened.Call callee arguments) minuses frames = Some (phases.After (signed_node minuses (nodes.Call callee arguments)), frames)
    empty_call_of opened.Formula minuses frames = None
    empty_call_of opened.Parentheses minuses frames = None

-- a token directly behind a name and `(`
abbrev pub start_turn : List Frame → Token → Option Turn
start_turn frames tokens.Close = empty_call frames
start_turn frames other = operand_turn 0 frames other

-- an operator behind an operand
abbrev pub operator_turn : Node → Operator → List Frame → Option Turn
operator_turn operand op [] = None
operator_turn operand op (frame ∷ frames) = Some (phases.Signs 0, record frame { chains = chains_behind operand op frame.chains } ∷ frames)

-- what a `)` makes of what is open, whose last part this is
abbrev pub closing : Opened → Node → Option Node
closing opened.Formula last = None
closing opened.Parentheses last = Some (nodes.Parentheses last)
closing (opened.Call callee arguments) last = Some (nodes.Call callee (arguments ++ last ∷ []))

-- a `)` behind an operand
abbrev pub close_turn : Node → List Frame → Option Turn
close_turn operand [] = None
close_turn operand (frame ∷ frames) = after_operand frame.minuses frames (closing frame.opened (tree_of_chains operand frame.chains))

-- a call with one more argument, where a further one may follow
abbrev pub with_argument : Opened → Node → Option Opened
with_argument opened.Formula last = None
with_argument opened.Parentheses last = None
with_argument (opened.Call callee arguments) last = if nat_lt (length arguments) 254 then Some (opened.Call callee (arguments ++ last ∷ [])) else None

-- a `,` behind an operand
abbrev pub comma_turn : Node → List Frame → Option Turn
comma_turn operand [] = None
comma_turn operand (frame ∷ frames) = option_map (λ what. (phases.Signs 0, with_frame what frame.minuses frame.calls frames)) (with_argument frame.opened (tree_of_chains operand frame.chains))

-- a token behind an operand
abbrev pub after_turn : Node → List Frame → Token → Option Turn
after_turn operand frames (tokens.Operator op) = operator_turn operand op frames
after_turn operand frames tokens.Close = close_turn operand frames
after_turn operand frames tokens.Comma = comma_turn operand frames
after_turn operand frames other = None

-- a token
abbrev pub turn_at : Phase → List Frame → Token → Option Turn
turn_at phases.Start frames token = start_turn frames token
turn_at (phases.Signs minuses) frames token = operand_turn minuses frames token
turn_at (phases.After operand) frames token = after_turn operand frames token

-- the reader behind a token, where some formula goes on with it
unfoldable pub reader_behind : Reader → Token → Option Reader
reader_behind reader token =
    option_map (λ turn. record {
      phase = turn.0;
      frames = turn.1;
      has_wide_area = reader.has_wide_area || is_wide_area token;
      has_large_number = reader.has_large_number || is_large_number token;
    }) (turn_at reader.phase reader.frames token)

-- the reader behind the `=` of a formula
abbrev pub first_reader : Reader
first_reader = record {
  phase = phases.Signs 0;
  frames = (record { opened = opened.Formula; minuses = 0; calls = 0; chains = [] }) ∷ [];
  has_wide_area = false;
  has_large_number = false;
}

-- whether more than 64 calls, or more than 128 calls and parentheses, are open; the formula itself is a frame too
abbrev pub is_too_deep : List Frame → Bool
is_too_deep frames = nat_lt 64 (calls_open frames) || nat_lt 129 (length frames)

-- the whole formula, where nothing else is open
abbrev pub whole_tree : Node → List Frame → Option Node
whole_tree operand [] = None
whole_tree operand (frame ∷ []) = Some (tree_of_chains operand frame.chains)
whole_tree operand (frame ∷ other ∷ frames) = None

-- the formula's tree, where it may end here
abbrev pub tree_at_end : Phase → List Frame → Option Node
tree_at_end phases.Start frames = None
tree_at_end (phases.Signs minuses) frames = None
tree_at_end (phases.After operand) frames = whole_tree operand frames

-- whether an operand is awaited
abbrev pub awaits_operand : Phase → Bool
awaits_operand phases.Start = true
awaits_operand (phases.Signs minuses) = true
awaits_operand (phases.After operand) = false

-- how much of a text some formula goes on with where its first token can't stand
abbrev pub begun_behind : Phase → List ℕ → ℕ
begun_behind phase text = if awaits_operand phase then begun_len text else 0

-- the tree of a formula within the limits, or the fault
abbrev pub tree_or_fault : Reader → Node → Result Node ParseFault
tree_or_fault reader tree = if reader.has_wide_area then Err faults.BadRange else (if reader.has_large_number then Err faults.NumberTooLarge else Ok tree)

-- how many spaces a text begins with
abbrev pub gap_len : List ℕ → ℕ
gap_len text = length (take_while (λ b. b == 32) text)

-- what the end of the text gives, at this place
abbrev pub at_end : Reader → ℕ → Option Node → Result Node ParseFault
at_end reader place None = Err (faults.Syntax place)
at_end reader place (Some tree) = tree_or_fault reader tree

-- what a token, or the end of the text, comes to: an answer, or the reader behind the token with its place and the text behind it
pub data Read : Type 0 where
  Answer : Result Node ParseFault → Read
  Onward : Reader → ℕ → List ℕ → Read

-- a token of this length, which makes this of the reader
abbrev pub read_on : Reader → ℕ → List ℕ → ℕ → Option Reader → Read
read_on reader place text len None = Answer (Err (faults.Syntax (place + begun_behind reader.phase text)))
read_on reader place text len (Some next) = if is_too_deep next.frames then Answer (Err faults.TooDeep) else Onward next (place + len) (drop len text)

-- the token that a text begins with, where there is one
abbrev pub read_found : Reader → ℕ → List ℕ → Option (Token × ℕ) → Read
read_found reader place text None = Answer (Err (faults.Syntax (place + begun_behind reader.phase text)))
read_found reader place text (Some found) = read_on reader place text found.1 (reader_behind reader found.0)

-- what a text comes to behind its spaces
abbrev pub read_token : Reader → ℕ → List ℕ → Read
read_token reader place [] = Answer (at_end reader place (tree_at_end reader.phase reader.frames))
read_token reader place (b ∷ bs) = read_found reader place (b ∷ bs) (token_at (b ∷ bs))

-- what a text comes to, up to behind its first token
abbrev pub read_next : Reader → ℕ → List ℕ → Read
read_next reader place text = read_token reader (place + gap_len text) (drop (gap_len text) text)

-- the answer, or what is read on
abbrev pub answer_behind : (Reader → ℕ → List ℕ → Result Node ParseFault) → Read → Result Node ParseFault
answer_behind onward (Answer answer) = answer
answer_behind onward (Onward reader place text) = onward reader place text

-- what is read behind the reader, from this place on, of a text of less than so many tokens
abbrev pub read_from : ℕ → Reader → ℕ → List ℕ → Result Node ParseFault
read_from zero reader place text = Err (faults.Syntax place)
read_from (suc fuel) reader place text = answer_behind (read_from fuel) (read_next reader place text)

-- the tree of a text of any length, or its first fault
abbrev pub read_text : List ℕ → Result Node ParseFault
read_text [] = Err (faults.Syntax 0)
read_text (b ∷ rest) = if b == 61 then read_from (suc (length rest)) first_reader 1 rest else Err (faults.Syntax 0)
