-- For the crate's own functions: the states for which a book with the number of its recalculation stands.
use Rattle.std.specs.Prelude.{◌≡◌, ℕ, ◌+◌, ◌≤◌, ◌<◌, [], Bool, true, List}
use Rattle.async_handles.specs.OpenCalls.{is_live}
use Rattle.cell_refs.specs.declared.handles.Handle.{Handle}
use Rattle.cell_values.specs.declared.values.Value.{Value}
use Rattle.workbook.specs.declared.commands.Command.TheVariants as commands
use Rattle.cell_refs.specs.declared.grid.Cell.{Cell}
use Rattle.command_log.specs.Log.{LogParts}
use Rattle.rtd_server.specs.Server.{ServerState}
use Rattle.rtd_topics.specs.Parts.{rtd_of}
use Rattle.workbook.specs.declared.commands.Command.{Command}
use Rattle.workbook.specs.declared.replies.Reply.{Reply}
use Rattle.workbook.specs.State.{HostTerms, State, open_calls}
use Rattle.workbook.specs.Step.{is_open_handle, reply_to, state_after}
use Rattle.host_core.specs.HostKeeping.{IsSettledBook, Keeps}
use Rattle.host_core.specs.HostState.{Answers}
use Rattle.host_core.specs.declared.round_books.RoundBook.{RoundBook}

-- a book with the number of its recalculation stands for a state of a host with these terms
pub record Stands {S : Type 0} (state : S → ServerState) (terms : HostTerms) (b : RoundBook S) (s : State) : Type 0 where
  pub noted : List Cell
  pub kept : Keeps terms b.calc (rtd_of state b.rtd) b.events b.log b.round b.running s noted

-- what is a host's own, with these answers
abbrev pub terms_with : Answers → ℕ → ℕ → HostTerms
terms_with answer session limit = record { session = session; limit = limit; answer = answer }

-- it stands for some state where add-in functions answer so
abbrev pub StandsIn : {S : Type 0} → (S → ServerState) → Answers → RoundBook S → Type 0
StandsIn state answer b = (session : ℕ) × (limit : ℕ) × (s : State) × Stands state (terms_with answer session limit) b s

-- it stands for some state
abbrev pub StandsForSome : {S : Type 0} → (S → ServerState) → RoundBook S → Type 0
StandsForSome state b = (answer : Answers) × StandsIn state answer b

-- from old to new a command is answered by the step of the state for which old stands
abbrev pub IsStep : {S : Type 0} → (S → ServerState) → Answers → RoundBook S → RoundBook S → Command → Reply → Type 0
IsStep state answer old new command reply = (session limit : ℕ) (s : State) → Stands state (terms_with answer session limit) old s
    → (reply ≡ reply_to (terms_with answer session limit) [] s command)
    × Stands state (terms_with answer session limit) new (state_after (terms_with answer session limit) [] s command)

-- new stands for each state for which old does
abbrev pub KeepsStates : {S : Type 0} → (S → ServerState) → Answers → RoundBook S → RoundBook S → Type 0
KeepsStates state answer old new = (session limit : ℕ) (s : State) → Stands state (terms_with answer session limit) old s
    → Stands state (terms_with answer session limit) new s

-- it stands for a state in whose recalculation all that can be evaluated has been
pub record StandsSettled {S : Type 0} (state : S → ServerState) (terms : HostTerms) (b : RoundBook S) (s : State) : Type 0 where
  pub noted : List Cell
  pub kept : Keeps terms b.calc (rtd_of state b.rtd) b.events b.log b.round true s noted
  pub settled : IsSettledBook terms b.round b.calc s noted

-- for each state for which old stands, new does, and all that can be evaluated has been
abbrev pub SettlesStates : {S : Type 0} → (S → ServerState) → Answers → RoundBook S → RoundBook S → Type 0
SettlesStates state answer old new = (session limit : ℕ) (s : State) → Stands state (terms_with answer session limit) old s
    → StandsSettled state (terms_with answer session limit) new s

-- from old to new a command is answered by the step of the state for which old stands, where all that can be evaluated
-- has been
abbrev pub IsSettledStep : {S : Type 0} → (S → ServerState) → Answers → RoundBook S → RoundBook S → Command → Reply → Type 0
IsSettledStep state answer old new command reply = (session limit : ℕ) (s : State) → StandsSettled state (terms_with answer session limit) old s
    → (reply ≡ reply_to (terms_with answer session limit) [] s command)
    × Stands state (terms_with answer session limit) new (state_after (terms_with answer session limit) [] s command)

-- no call is open where all that can be evaluated has been
abbrev pub IsNoCallAsked : {S : Type 0} → (S → ServerState) → RoundBook S → Type 0
IsNoCallAsked state b = (terms : HostTerms) (s : State) → StandsSettled state terms b s → open_calls terms s ≡ []

-- whether the call of a handle is open
abbrev pub TellsCall : {S : Type 0} → (S → ServerState) → Answers → RoundBook S → Handle → Bool → Type 0
TellsCall state answer old handle asks = (session limit : ℕ) (s : State) → Stands state (terms_with answer session limit) old s
    → asks ≡ is_open_handle (terms_with answer session limit) s handle

-- from old to new a recalculation runs in which the call of a handle is open, and there is room for its value
pub record AsksForCall {S : Type 0} (state : S → ServerState) (answer : Answers) (old new : RoundBook S) (handle : Handle) : Type 0 where
  pub runs : new.running ≡ true
  pub spare : 0 < new.log.spare
  pub live : is_live new.calc.work.calls.calls handle ≡ true

-- from old to new a value is accepted, in every state for which old stands
abbrev pub IsAccepted : {S : Type 0} → (S → ServerState) → Answers → RoundBook S → RoundBook S → Handle → Value → Type 0
IsAccepted state answer old new handle value = (session limit : ℕ) (s : State) → Stands state (terms_with answer session limit) old s
    → is_open_handle (terms_with answer session limit) s handle ≡ true
    → Stands state (terms_with answer session limit) new (state_after (terms_with answer session limit) [] s (commands.Return handle value))

-- the same entries, and as much room for more
pub record SameLog (old new : LogParts) : Type 0 where
  pub entries : new.entries ≡ old.entries
  pub room : new.room ≡ old.room

-- the number of the recalculation, the room for events, and the log stay
pub record KeepsNumbers {S : Type 0} (old new : RoundBook S) : Type 0 where
  pub round : new.round ≡ old.round
  pub room : new.events.room ≡ old.events.room
  pub log : SameLog old.log new.log

-- the number of the recalculation rises by one at most, at most one event is fired, and the log stays
pub record MovesNumbers {S : Type 0} (old new : RoundBook S) : Type 0 where
  pub round : new.round ≤ old.round + 1
  pub room : old.events.room ≤ new.events.room + 1
  pub log : SameLog old.log new.log
