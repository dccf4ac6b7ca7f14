-- For the crate's own functions: what a session has read and written at its end.
use Rattle.std.specs.Prelude.{◌≡◌, ℕ, ◌<◌, ◌≤◌, Option, Some, List, [], length, take, drop}
use Rattle.desk_run.specs.Output.{commands_in, replies_from, replies_within}
use Rattle.host_io.specs.declared.limits.TheConstants.{MAX_INPUT}
use Rattle.host_io.specs.declared.run_faults.RunFault.{RunFault}
use Rattle.host_io.specs.declared.run_faults.RunFault.TheVariants as run_faults
use Rattle.host_io.specs.Lines.{lines_of, whole_lines}
use Rattle.host_io.specs.Sink.{Appends, AppendsPrefix}
use Rattle.workbook.specs.State.{first_state}
use Rattle.rtdhost.specs.Output.{program_terms}

-- all bytes were read, all commands were answered, and the answers to all lines are written
pub record HasFinished (all : List ℕ) (before left written : Option (List ℕ)) : Type 0 where
  pub within : length all ≤ MAX_INPUT
  pub fits : commands_in (lines_of all) ≤ program_terms.limit
  pub read : left ≡ Some []
  pub wrote : Appends before (replies_from program_terms first_state (lines_of all)) written

-- The answers to the whole lines among the bytes that were taken are written, where the source failed or had too many
-- bytes, and these say no more commands than are answered; the answers up to the first refused command are, where the
-- lines say too many commands.
abbrev pub HasAnsweredWhole : RunFault → List ℕ → Option (List ℕ) → Option (List ℕ) → Option (List ℕ) → Type 0
HasAnsweredWhole run_faults.Read all before left written =
    (n : ℕ) × (left ≡ Some (drop n all)) × Appends before (replies_from program_terms first_state (whole_lines (take n all))) written
    × (commands_in (whole_lines (take n all)) ≤ program_terms.limit)
HasAnsweredWhole run_faults.Limit all before left written =
    (MAX_INPUT < length all) × Appends before (replies_from program_terms first_state (whole_lines (take MAX_INPUT all))) written
    × (commands_in (whole_lines (take MAX_INPUT all)) ≤ program_terms.limit)
HasAnsweredWhole run_faults.Write all before left written = Unit {0}
HasAnsweredWhole run_faults.Memory all before left written = Unit {0}
HasAnsweredWhole run_faults.Full all before left written =
    (program_terms.limit < commands_in (lines_of all))
    × Appends before (replies_within program_terms program_terms.limit first_state (lines_of all)) written

-- what is written where the session stops early is a prefix of the answers to all lines
abbrev pub HasStopped : RunFault → List ℕ → Option (List ℕ) → Option (List ℕ) → Option (List ℕ) → Type 0
HasStopped stop all before left written =
    AppendsPrefix before (replies_from program_terms first_state (lines_of all)) written × HasAnsweredWhole stop all before left written
