-- For the crate's own functions: what was read and written with each status.
use Rattle.std.specs.Prelude.{◌≡◌, ℕ, true, false, Option, List}
use Rattle.rtdhost.specs.declared.program.Status.{Status}
use Rattle.rtdhost.specs.declared.program.Status.TheVariants as statuses
use Rattle.host_io.specs.declared.run_faults.RunFault.{RunFault}
use Rattle.host_io.specs.declared.run_faults.RunFault.TheVariants as run_faults
use Rattle.rtdhost.specs.Output.{output_of}
use Rattle.rtdhost.specs.Words.{is_run, usage_line}
use Rattle.rtdhost.specs.Session.{HasFinished, HasStopped}
use Rattle.host_io.specs.Count.{Rose}
use Rattle.host_io.specs.Sink.{Appends, AppendsPrefix}

-- the status of a session that stopped early
abbrev pub status_of : RunFault → Status
status_of run_faults.Read = statuses.ReadFault
status_of run_faults.Write = statuses.WriteFault
status_of run_faults.Limit = statuses.InputLimit
status_of run_faults.Memory = statuses.Memory
status_of run_faults.Full = statuses.SessionFull

-- what was read and written with each status: these words, all bytes of the source, and what the sink held before
abbrev pub HasEnded : Status → List (List ℕ) → List ℕ → Option (List ℕ) → Option (List ℕ) → Option (List ℕ) → Type 0
HasEnded statuses.Ok words all before left written = (is_run words ≡ true) × HasFinished all before left written
HasEnded statuses.Usage words all before left written = (is_run words ≡ false) × Appends before usage_line written
HasEnded statuses.ReadFault words all before left written = (is_run words ≡ true) × HasStopped run_faults.Read all before left written
HasEnded statuses.WriteFault words all before left written = AppendsPrefix before (output_of words all) written
HasEnded statuses.Memory words all before left written = (is_run words ≡ true) × HasStopped run_faults.Memory all before left written
HasEnded statuses.InputLimit words all before left written = (is_run words ≡ true) × HasStopped run_faults.Limit all before left written
HasEnded statuses.SessionFull words all before left written = (is_run words ≡ true) × HasStopped run_faults.Full all before left written

-- a failed read or write was counted, and every other count of faults stands
abbrev pub IsFaultCounted : Status → ℕ → ℕ → ℕ → ℕ → Type 0
IsFaultCounted statuses.ReadFault reads reads' writes writes' = Rose reads reads' × (writes' ≡ writes)
IsFaultCounted statuses.WriteFault reads reads' writes writes' = (reads' ≡ reads) × Rose writes writes'
IsFaultCounted statuses.Ok reads reads' writes writes' = (reads' ≡ reads) × (writes' ≡ writes)
IsFaultCounted statuses.Usage reads reads' writes writes' = (reads' ≡ reads) × (writes' ≡ writes)
IsFaultCounted statuses.Memory reads reads' writes writes' = (reads' ≡ reads) × (writes' ≡ writes)
IsFaultCounted statuses.InputLimit reads reads' writes writes' = (reads' ≡ reads) × (writes' ≡ writes)
IsFaultCounted statuses.SessionFull reads reads' writes writes' = (reads' ≡ reads) × (writes' ≡ writes)
