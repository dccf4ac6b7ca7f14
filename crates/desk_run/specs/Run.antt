-- What a session over a desk does.
use Rattle.std.specs.Prelude.{◌≡◌, ℕ, ◌-◌, ◌<◌, ◌≤◌, IsTrue, List, [], ◌++◌, map, length, take, drop, Option, None, Some}
use Rattle.cell_values.specs.declared.values.Value.{Value}
use Rattle.host_io.specs.Count.{Rose}
use Rattle.host_io.specs.declared.run_faults.RunFault.{RunFault}
use Rattle.host_io.specs.declared.run_faults.RunFault.TheVariants as run_faults
use Rattle.host_io.specs.declared.limits.TheConstants.{MAX_INPUT}
use Rattle.host_io.specs.Lines.{lines_of, whole_lines}
use Rattle.host_io.specs.Sink.{Appends, AppendsPrefix}
use Rattle.workbook.specs.declared.commands.Command.{Command}
use Rattle.workbook.specs.declared.history.Entry.{Entry}
use Rattle.workbook.specs.declared.replies.Reply.{Reply}
use Rattle.workbook.specs.Desk.{DeskState, desk_state, desk_terms}
use Rattle.workbook.specs.History.{replies_to_all}
use Rattle.desk_run.specs.Output.{commands_of, lines_text}

-- what add-in functions answer
abbrev pub Answers : Type 0
Answers = List ℕ → List Value → Value

-- an answered command of a session
abbrev pub session_entry : Command → Entry
session_entry command = record { actor = 0; command = command }

-- the desk after these commands were answered: they are the next entries of its history
abbrev pub desk_after : DeskState → List Command → DeskState
desk_after desk commands = record desk { history = desk.history ++ map session_entry commands }

-- ---- what was read
-- these lines are the first of a source that told its bytes
abbrev pub AreFirst : Option (List ℕ) → List (List ℕ) → Type 0
AreFirst None lines = Unit {0}
AreFirst (Some all) lines = (more : List (List ℕ)) × (lines_of all ≡ lines ++ more)

-- they are all its lines, and it was read to its end
abbrev pub HasReadAll : Option (List ℕ) → Option (List ℕ) → List (List ℕ) → Type 0
HasReadAll None left lines = Unit {0}
HasReadAll (Some all) left lines = (lines ≡ lines_of all) × (left ≡ Some []) × (length all ≤ MAX_INPUT)

-- they are the whole lines of the bytes that were taken of it
abbrev pub HasReadWhole : Option (List ℕ) → Option (List ℕ) → List (List ℕ) → Type 0
HasReadWhole None left lines = Unit {0}
HasReadWhole (Some all) left lines = (n : ℕ) × (left ≡ Some (drop n all)) × (lines ≡ whole_lines (take n all))

-- it has too many bytes, and they are the whole lines of those that may be taken
abbrev pub HasReadToLimit : Option (List ℕ) → List (List ℕ) → Type 0
HasReadToLimit None lines = Unit {0}
HasReadToLimit (Some all) lines = (MAX_INPUT < length all) × (lines ≡ whole_lines (take MAX_INPUT all))

-- ---- what was answered
-- how many commands more a desk answers
abbrev pub room_of : DeskState → ℕ
room_of desk = desk.limit - length desk.history

-- a desk's replies to these commands, one after another, for all of which it has room: where it is steady, those of the
-- step in the state that its history gives, from nothing
pub record AreReplies (answer : Answers) (desk : DeskState) (commands : List Command) (replies : List Reply) : Type 0 where
  pub count : length replies ≡ length commands
  pub fits : length commands ≤ room_of desk
  pub steady : IsTrue desk.steady → replies ≡ replies_to_all (desk_terms answer desk) (desk_state answer desk) commands

-- These commands of these lines were answered, and what the lines are answered with, up to the first other command, is
-- written: a desk before and after, and what a sink tells before and after.
pub record HasAnswered (answer : Answers) (lines : List (List ℕ)) (commands : List Command) (desk desk' : DeskState) (written written' : Option (List ℕ)) : Type 0 where
  pub replies : List Reply
  pub are : AreReplies answer desk commands replies
  pub acted : desk' ≡ desk_after desk commands
  pub wrote : Appends written (lines_text lines replies) written'

-- the same, but a part of what was to be written may be missing at its end
pub record HasBegun (answer : Answers) (lines : List (List ℕ)) (commands : List Command) (desk desk' : DeskState) (written written' : Option (List ℕ)) : Type 0 where
  pub replies : List Reply
  pub are : AreReplies answer desk commands replies
  pub acted : desk' ≡ desk_after desk commands
  pub wrote : AppendsPrefix written (lines_text lines replies) written'

-- a session that stopped early: of the first lines of its source these commands were answered and no others
pub record HasRunPart (answer : Answers) (told : Option (List ℕ)) (desk desk' : DeskState) (written written' : Option (List ℕ)) : Type 0 where
  pub lines : List (List ℕ)
  pub read : AreFirst told lines
  pub commands : List Command
  pub others : List Command
  pub split : commands_of lines ≡ commands ++ others
  pub begun : HasBegun answer lines commands desk desk' written written'

-- of some lines, of which this is so, all commands are answered
pub record HasRunWhole (answer : Answers) (desk desk' : DeskState) (written written' : Option (List ℕ)) (Read : List (List ℕ) → Type 0) : Type 0 where
  pub lines : List (List ℕ)
  pub read : Read lines
  pub answered : HasAnswered answer lines (commands_of lines) desk desk' written written'

-- a session that came to the end of its source
abbrev pub HasRun : Answers → Option (List ℕ) → Option (List ℕ) → DeskState → DeskState → Option (List ℕ) → Option (List ℕ) → Type 0
HasRun answer told left desk desk' written written' = HasRunWhole answer desk desk' written written' (HasReadAll told left)

-- of the first lines these commands were answered, and with them the history is full, and there is another
pub record HasRunFull (answer : Answers) (told : Option (List ℕ)) (desk desk' : DeskState) (written written' : Option (List ℕ)) : Type 0 where
  pub lines : List (List ℕ)
  pub read : AreFirst told lines
  pub commands : List Command
  pub others : List Command
  pub split : commands_of lines ≡ commands ++ others
  pub more : 0 < length others
  pub answered : HasAnswered answer lines commands desk desk' written written'
  pub full : length desk'.history ≡ desk'.limit

-- what each cause of an early stop leaves: after a failed read and at the limit the whole lines that were taken are
-- answered; where the history is full, all commands that it has
abbrev pub HasRunTo : Answers → Option (List ℕ) → Option (List ℕ) → DeskState → DeskState → Option (List ℕ) → Option (List ℕ) → RunFault → Type 0
HasRunTo answer told left desk desk' written written' run_faults.Read = HasRunWhole answer desk desk' written written' (HasReadWhole told left)
HasRunTo answer told left desk desk' written written' run_faults.Limit = HasRunWhole answer desk desk' written written' (HasReadToLimit told)
HasRunTo answer told left desk desk' written written' run_faults.Full = HasRunFull answer told desk desk' written written'
HasRunTo answer told left desk desk' written written' run_faults.Write = Unit {0}
HasRunTo answer told left desk desk' written written' run_faults.Memory = Unit {0}

-- a failed read or write was counted, and every other count of faults stands
abbrev pub IsCaused : RunFault → ℕ → ℕ → ℕ → ℕ → Type 0
IsCaused run_faults.Read reads reads' writes writes' = Rose reads reads' × (writes' ≡ writes)
IsCaused run_faults.Write reads reads' writes writes' = (reads' ≡ reads) × Rose writes writes'
IsCaused run_faults.Limit reads reads' writes writes' = (reads' ≡ reads) × (writes' ≡ writes)
IsCaused run_faults.Memory reads reads' writes writes' = (reads' ≡ reads) × (writes' ≡ writes)
IsCaused run_faults.Full reads reads' writes writes' = (reads' ≡ reads) × (writes' ≡ writes)
