-- A host: what is its own, and the history of the commands that it answered, from which its state follows.
use Rattle.std.specs.Prelude.{◌≡◌, ℕ, ◌<◌, Bool, List, [], ◌∷◌, ◌++◌, length}
use Rattle.cell_values.specs.declared.values.Value.{Value}
use Rattle.workbook.specs.declared.commands.Command.{Command}
use Rattle.workbook.specs.declared.commands.Command.TheVariants as commands
use Rattle.workbook.specs.declared.history.Entry.{Entry}
use Rattle.workbook.specs.Desk.{DeskState}
use Rattle.workbook.specs.History.{state_of}
use Rattle.workbook.specs.State.{HostTerms, State}
use Rattle.host_core.specs.declared.hosts.ActFault.{ActFault}
use Rattle.host_core.specs.declared.hosts.ActFault.TheVariants as faults

-- a host
pub record HostState : Type 0 where
  -- the number of its session, from 1
  pub session : ℕ
  -- the most entries of its history
  pub limit : ℕ
  -- the answered commands, the oldest first
  pub history : List Entry

-- what add-in functions answer
abbrev pub Answers : Type 0
Answers = List ℕ → List Value → Value

-- what is the host's own, where add-in functions answer so
abbrev pub terms_of : Answers → HostState → HostTerms
terms_of answer host = record { session = host.session; limit = host.limit; answer = answer }

-- the state of a host: what evaluation from nothing gives after its history
abbrev pub state_now : Answers → HostState → State
state_now answer host = state_of (terms_of answer host) host.history

-- the host with one more entry
abbrev pub with_entry : HostState → ℕ → Command → HostState
with_entry host actor command = record host {
  history = host.history ++ (record { actor = actor; command = command }) ∷ [];
}

-- the desk at a host, of whose servers none ever fails, or not
abbrev pub desk_of : Bool → HostState → DeskState
desk_of steady host = record { session = host.session; limit = host.limit; steady = steady; history = host.history }

-- the commands that act takes: all but Settle
abbrev pub IsTaken : Command → Type 0
IsTaken commands.Settle = ⊥
IsTaken command = Unit {0}

-- the commands that aren't the return of a value
abbrev pub IsNoReturn : Command → Type 0
IsNoReturn (commands.Return handle value) = ⊥
IsNoReturn command = Unit {0}

-- why a command isn't answered: exactly where the history is full, that; else want of memory. It is given back.
abbrev pub IsActFault : HostState → Command → ActFault → Type 0
IsActFault host command (faults.Full back) = (back ≡ command) × (length host.history ≡ host.limit)
IsActFault host command (faults.Memory back) = (back ≡ command) × (length host.history < host.limit)
