-- For the crate's own functions: what a session has read, answered, held and written.
use Rattle.std.specs.Prelude.{◌≡◌, ℕ, ◌<◌, Bool, true, false, Option, Some, None, List, [], ◌++◌, length, Result}
use Rattle.host_io.specs.Count.{Rose}
use Rattle.host_io.specs.declared.reader.Line.{Line}
use Rattle.host_io.specs.declared.reader.Line.TheVariants as answers
use Rattle.host_io.specs.declared.reader.LineFault.{LineFault}
use Rattle.host_io.specs.declared.reader.LineFault.TheVariants as faults
use Rattle.host_io.specs.declared.run_faults.RunFault.{RunFault}
use Rattle.host_io.specs.declared.run_faults.RunFault.TheVariants as run_faults
use Rattle.host_io.specs.LineReader.{LineReader, HasGiven}
use Rattle.host_io.specs.Sink.{Appends}
use Rattle.session_script.specs.declared.faults.BadLine.{BadLine}
use Rattle.session_script.specs.declared.parsed.Parsed.{Parsed}
use Rattle.workbook.specs.declared.commands.Command.{Command}
use Rattle.workbook.specs.declared.replies.Reply.{Reply}
use Rattle.workbook.specs.declared.desks.DeskFault.{DeskFault}
use Rattle.workbook.specs.declared.desks.DeskFault.TheVariants as desk_faults
use Rattle.workbook.specs.Desk.{DeskState}
use Rattle.desk_run.specs.declared.answering.Refusal.{Refusal}
use Rattle.desk_run.specs.declared.answering.Refusal.TheVariants as refusals
use Rattle.desk_run.specs.Output.{commands_of, commands_said, lines_text, replies_text, said_text}
use Rattle.desk_run.specs.Run.{Answers, AreFirst, AreReplies, HasReadAll, HasReadToLimit, HasReadWhole, desk_after}

-- ---- a line
-- why a line isn't answered whose command a desk gives back
abbrev pub refusal_of : DeskFault → Refusal
refusal_of (desk_faults.Full command) = refusals.Full
refusal_of (desk_faults.Memory command) = refusals.Memory

-- a desk answered these commands, and the lines of its replies are held behind what was held
pub record HasActed (answer : Answers) (commands : List Command) (desk desk' : DeskState) (held held' : List ℕ) : Type 0 where
  pub replies : List Reply
  pub are : AreReplies answer desk commands replies
  pub acted : desk' ≡ desk_after desk commands
  pub text : held' ≡ held ++ replies_text replies

-- the same of what a line says
pub record HasSaid (answer : Answers) (said : Result Parsed BadLine) (desk desk' : DeskState) (held held' : List ℕ) : Type 0 where
  pub replies : List Reply
  pub are : AreReplies answer desk (commands_said said) replies
  pub acted : desk' ≡ desk_after desk (commands_said said)
  pub text : held' ≡ held ++ said_text said replies

-- Of these commands the first ones were answered, and the lines of their replies are held, but maybe for those at their
-- end. Where the history is full, a command was left, and all these lines are held.
pub record HasRefused (answer : Answers) (commands : List Command) (desk desk' : DeskState) (held held' : List ℕ) (refusal : Refusal) : Type 0 where
  pub first : List Command
  pub others : List Command
  pub split : commands ≡ first ++ others
  pub replies : List Reply
  pub are : AreReplies answer desk first replies
  pub acted : desk' ≡ desk_after desk first
  pub text : List ℕ
  pub missing : List ℕ
  pub cut : replies_text replies ≡ text ++ missing
  pub holds : held' ≡ held ++ text
  pub full : refusal ≡ refusals.Full → (missing ≡ []) × (0 < length others) × (length desk'.history ≡ desk'.limit)

-- ---- a session
-- where a session is: its reader, the desk, the bytes that it holds, those that are left in the source and those that
-- were written to the sink, where they are told
pub record Place : Type 0 where
  pub reading : LineReader
  pub desk : DeskState
  pub held : List ℕ
  pub left : Option (List ℕ)
  pub written : Option (List ℕ)

abbrev pub place : LineReader → DeskState → List ℕ → Option (List ℕ) → Option (List ℕ) → Place
place reading desk held left written = record { reading = reading; desk = desk; held = held; left = left; written = written }

-- since `before` was written, what was written and what is held are together this text
pub record HasText (before : Option (List ℕ)) (text held : List ℕ) (written : Option (List ℕ)) : Type 0 where
  pub out : List ℕ
  pub whole : text ≡ out ++ held
  pub wrote : Appends before out written

-- ---- what was read of a source
-- of a source that told these bytes these lines were given out
pub record HasRead (all : List ℕ) (lines : List (List ℕ)) (reading : LineReader) (left : Option (List ℕ)) : Type 0 where
  pub rest : List ℕ
  pub told : left ≡ Some rest
  pub given : HasGiven all lines reading rest
  pub ended : reading.ended ≡ true → (reading.pending ≡ []) × (rest ≡ [])

-- the same, where the source told its bytes
abbrev pub HasReadIfTold : Option (List ℕ) → LineReader → Option (List ℕ) → List (List ℕ) → Type 0
HasReadIfTold None reading left lines = Unit {0}
HasReadIfTold (Some all) reading left lines = HasRead all lines reading left

-- ---- what was answered
-- the lines that were given out, of which this is so, are answered, and their answers are written or held
pub record HasDone (answer : Answers) (start now : Place) (Given : List (List ℕ) → Type 0) : Type 0 where
  pub lines : List (List ℕ)
  pub given : Given lines
  pub replies : List Reply
  pub are : AreReplies answer start.desk (commands_of lines) replies
  pub acted : now.desk ≡ desk_after start.desk (commands_of lines)
  pub text : HasText start.written (lines_text lines replies) now.held now.written

-- a session that goes on
abbrev pub IsBetween : Answers → Place → Place → Type 0
IsBetween answer start now = HasDone answer start now (HasReadIfTold start.left now.reading now.left)

-- a session that came to the end of its source
abbrev pub IsFinished : Answers → Place → Place → Type 0
IsFinished answer start now = HasDone answer start now (HasReadAll start.left now.left)

-- The first commands of the lines that were given out are answered, and their answers are written or held, but maybe for
-- those at the end. Where the history is full, a command was left, and all these are written or held.
pub record HasLeft (answer : Answers) (start now : Place) (stop : RunFault) : Type 0 where
  pub lines : List (List ℕ)
  pub given : AreFirst start.left lines
  pub first : List Command
  pub others : List Command
  pub split : commands_of lines ≡ first ++ others
  pub replies : List Reply
  pub are : AreReplies answer start.desk first replies
  pub acted : now.desk ≡ desk_after start.desk first
  pub kept : List ℕ
  pub missing : List ℕ
  pub cut : lines_text lines replies ≡ kept ++ missing
  pub text : HasText start.written kept now.held now.written
  pub full : stop ≡ run_faults.Full → (missing ≡ []) × (0 < length others) × (length now.desk.history ≡ now.desk.limit)

-- a session that stopped early; where the source failed or had too many bytes, nothing is held
abbrev pub IsStopped : Answers → Place → Place → RunFault → Type 0
IsStopped answer start now run_faults.Read =
    HasLeft answer start now run_faults.Read × HasDone answer start now (HasReadWhole start.left now.left) × (now.held ≡ [])
IsStopped answer start now run_faults.Limit =
    HasLeft answer start now run_faults.Limit × HasDone answer start now (HasReadToLimit start.left) × (now.held ≡ [])
IsStopped answer start now run_faults.Write = HasLeft answer start now run_faults.Write
IsStopped answer start now run_faults.Memory = HasLeft answer start now run_faults.Memory
IsStopped answer start now run_faults.Full = HasLeft answer start now run_faults.Full

-- ---- faults
-- why a reader that gives no more lines stops a session
abbrev pub stop_of : LineFault → RunFault
stop_of faults.Read = run_faults.Read
stop_of faults.Limit = run_faults.Limit
stop_of faults.Memory = run_faults.Memory

-- why a line that isn't answered stops a session
abbrev pub refused_stop : Refusal → RunFault
refused_stop refusals.Full = run_faults.Full
refused_stop refusals.Memory = run_faults.Memory

-- a line that was read stops a session because its commands are refused alone
abbrev pub IsRefusal : RunFault → Type 0
IsRefusal run_faults.Read = ⊥
IsRefusal run_faults.Write = ⊥
IsRefusal run_faults.Limit = ⊥
IsRefusal run_faults.Memory = Unit {0}
IsRefusal run_faults.Full = Unit {0}

-- a failed read was counted, and no other stops a session before a write
abbrev pub IsReadCaused : RunFault → ℕ → ℕ → Type 0
IsReadCaused run_faults.Read reads reads' = Rose reads reads'
IsReadCaused run_faults.Write reads reads' = ⊥
IsReadCaused run_faults.Limit reads reads' = reads' ≡ reads
IsReadCaused run_faults.Memory reads reads' = reads' ≡ reads
IsReadCaused run_faults.Full reads reads' = reads' ≡ reads

-- whether the answer of a reader is a line
abbrev pub has_text : Line → Bool
has_text (answers.Bytes line) = true
has_text answers.TooLong = true
has_text answers.End = false
