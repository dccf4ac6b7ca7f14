-- A desk: what takes commands, keeps those that it answered, and answers by the step of a host.
use Rattle.std.specs.Prelude.{◌≡◌, ℕ, ◌<◌, Bool, List, [], ◌∷◌, ◌++◌, length}
use Rattle.cell_values.specs.declared.values.Value.{Value}
use Rattle.workbook.specs.declared.commands.Command.{Command}
use Rattle.workbook.specs.declared.desks.DeskFault.{DeskFault}
use Rattle.workbook.specs.declared.desks.DeskFault.TheVariants as faults
use Rattle.workbook.specs.declared.history.Entry.{Entry}
use Rattle.workbook.specs.declared.replies.Reply.{Reply}
use Rattle.workbook.specs.History.{state_of}
use Rattle.workbook.specs.State.{HostTerms, State}
use Rattle.workbook.specs.Step.{reply_to}

-- a desk
pub record DeskState : Type 0 where
  -- the number of its session, from 1
  pub session : ℕ
  -- the most entries of its history
  pub limit : ℕ
  -- none of its servers ever fails
  pub steady : Bool
  -- the answered commands, the oldest first
  pub history : List Entry

-- what is the desk's own, where add-in functions answer so
abbrev pub desk_terms : (List ℕ → List Value → Value) → DeskState → HostTerms
desk_terms answer desk = record { session = desk.session; limit = desk.limit; answer = answer }

-- what evaluation from nothing gives after the desk's history, where no server fails
abbrev pub desk_state : (List ℕ → List Value → Value) → DeskState → State
desk_state answer desk = state_of (desk_terms answer desk) desk.history

-- what the step answers to a command where no server fails
abbrev pub desk_reply : (List ℕ → List Value → Value) → DeskState → Command → Reply
desk_reply answer desk command = reply_to (desk_terms answer desk) [] (desk_state answer desk) command

-- the desk after a command was answered: the command is the next entry, given by the actor 0
abbrev pub desk_with : DeskState → Command → DeskState
desk_with desk command = record desk { history = desk.history ++ (record { actor = 0; command = command }) ∷ [] }

-- why a command isn't answered: exactly where the history is full, that; else want of memory. It is given back.
abbrev pub IsDeskFault : DeskState → Command → DeskFault → Type 0
IsDeskFault desk command (faults.Full back) = (back ≡ command) × (length desk.history ≡ desk.limit)
IsDeskFault desk command (faults.Memory back) = (back ≡ command) × (length desk.history < desk.limit)
