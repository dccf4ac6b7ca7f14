-- The reader's turns read exactly what the grammar writes.
use Rattle.std.specs.Prelude.{◌≡◌, ◌⊎◌, ℕ, suc, true, false, List, [], ◌∷◌, length, replicate, Some, IsSome}
use Rattle.std.proofs.Common.{ap, arith}
use Rattle.std.specs.List.{count_by}
use Rattle.formula_parse.specs.declared.nodes.Node.{Node}
use Rattle.formula_parse.specs.declared.reader.Opened.TheVariants as opened
use Rattle.formula_parse.specs.declared.reader.Phase.TheVariants as phases
use Rattle.formula_parse.specs.declared.tokens.Token.{Token}
use Rattle.formula_parse.specs.declared.tokens.Token.TheVariants as tokens
use Rattle.formula_parse.specs.Faults.{open_behind}
use Rattle.formula_parse.specs.Grammar.{IsWritten}
use Rattle.formula_parse.specs.ReaderMachine.{Turn, turn_at, awaits_operand, calls_open}
use Rattle.formula_parse.proofs.Machine.{first_turn, ran, ended_behind, is_operand}
use Rattle.formula_parse.proofs.ChainTaken.{tree_taken}
use Rattle.formula_parse.proofs.TurnCloses.{turn_ends}
use Rattle.formula_parse.proofs.TurnOpens.{operand_is_awaited, run_opens, opens_counted}
use Rattle.formula_parse.proofs.TurnRuns.{of_some}
use Rattle.formula_parse.proofs.TurnStands.{run_stands, ended_stands}

-- what the turns read, the grammar writes
pub what_is_read_is_written : (written : List Token) (turn : Turn) (tree : Node) → ran first_turn written ≡ Some turn → ended_behind turn ≡ Some tree → IsWritten tree 0 written
what_is_read_is_written written turn tree h e = of_some (λ t. IsWritten t 0 written) (ended_behind turn) tree e (ended_stands turn.0 turn.1 written (run_stands written turn h))

-- what the grammar writes, the turns read
pub what_is_written_is_read : (written : List Token) (tree : Node) → IsWritten tree 0 written → (turn : Turn) × (ran first_turn written ≡ Some turn) × (ended_behind turn ≡ Some tree)
what_is_written_is_read written tree w =
    let taken = (tree_taken tree).placed 0 written (omega arith) w (record { opened = opened.Formula; minuses = 0; calls = 0; chains = [] }) [] [] tt in
    ((phases.After taken.operand, (record { opened = opened.Formula; minuses = 0; calls = 0; chains = taken.left }) ∷ []), taken.runs, ap Some taken.ends)

-- an operand can stand wherever one is awaited
pub operands_are_taken : (turn : Turn) (token : Token) → awaits_operand turn.0 ≡ true → is_operand token ≡ true → IsSome (turn_at turn.0 turn.1 token)
operands_are_taken turn token a o = operand_is_awaited turn.0 turn.1 token a o

-- behind an operand, or directly behind a name and `(`, closing all that is open ends a formula
pub closing_ends : (written : List Token) (turn : Turn) → ran first_turn written ≡ Some turn → (awaits_operand turn.0 ≡ false) ⊎ (turn.0 ≡ phases.Start) → (count : ℕ) × (last : Turn) × (ran turn (replicate count tokens.Close) ≡ Some last) × IsSome (ended_behind last)
closing_ends written turn h a = turn_ends turn.0 turn.1 written (run_stands written turn h) a

-- what is open is what the tokens left open
pub open_is_counted : (written : List Token) (turn : Turn) → ran first_turn written ≡ Some turn → (calls_open turn.1 ≡ count_by (λ is_call. is_call) (open_behind [] written)) × (length turn.1 ≡ suc (length (open_behind [] written)))
open_is_counted written turn h = opens_counted turn.1 (open_behind [] written) (run_opens written turn h)
