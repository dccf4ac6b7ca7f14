-- The state of a host: what it keeps from command to command.
use Rattle.std.specs.Prelude.{ℕ, ℤ, pos, ◌==◌, Bool, ◌&&◌, if◌then◌else◌, Option, None, Some, unwrap_or, List, [], ◌∷◌, ◌++◌, map}
use Rattle.std.specs.List.{filter_map}
use Rattle.std.specs.Map.{lookup}
use Rattle.std.specs.Option.{option_map_or}
use Rattle.addin_types.specs.declared.calls.Call.{Call}
use Rattle.cell_refs.specs.declared.grid.Cell.{Cell}
use Rattle.cell_refs.specs.Cell.{same_cell}
use Rattle.cell_values.specs.declared.errors.ErrorKind.TheVariants as errors
use Rattle.cell_values.specs.declared.events.Event.{Event}
use Rattle.cell_values.specs.declared.topics.Topic.{Topic}
use Rattle.cell_values.specs.declared.values.Value.{Value}
use Rattle.cell_values.specs.declared.values.Value.TheVariants as values
use Rattle.cell_values.specs.Topic.{same_topic}
use Rattle.workbook.specs.Book.{BookState}
use Rattle.workbook.specs.Meaning.{Setting, Meaning, Val, Circ, Asks, Open, meaning, sheet_of}
use Rattle.workbook.specs.Registry.{registration_of}
use Rattle.workbook.specs.Stale.{stale_cells}

-- what is a host's own, and never changes: its session, the most entries of its history, and what add-in functions answer
pub record HostTerms : Type 0 where
  pub session : ℕ
  pub limit : ℕ
  pub answer : List ℕ → List Value → Value

-- a known server: its name, and its flag: whether it told that it published since its values were last taken
pub record KnownServer : Type 0 where
  pub name : List ℕ
  pub flag : Bool

-- the throttle: the interval between pulls in milliseconds, 0 for none and -1 for forced pulls alone, and the moment of the last pull that wasn't forced
pub record ThrottleState : Type 0 where
  pub interval : ℤ
  pub last : Option ℕ

-- a value that was accepted for the asynchronous call at a site of a cell
pub record AcceptedValue : Type 0 where
  pub cell : Cell
  pub site : ℕ
  pub value : Value

-- what a recalculation completed with: the book, the values of topics, and the accepted values
pub record Completion : Type 0 where
  pub book : BookState
  pub topics : List (Topic × Value)
  pub accepted : List AcceptedValue

-- a recalculation that runs: the values that were published when it began, and the topics that failed to connect in it
pub record RunningRound : Type 0 where
  pub opening : List (Topic × Value)
  pub failed : List Topic

-- a listener, with the events that it hasn't fetched yet, the oldest first
pub record Listener : Type 0 where
  pub name : List ℕ
  pub events : List Event

-- the state of a host
pub record State : Type 0 where
  -- the cells with content, and the registered functions
  pub book : BookState
  -- the known servers, in the order in which they were named
  pub servers : List KnownServer
  -- the topics that servers published, each once with its last value
  pub published : List (Topic × Value)
  -- the connected topics, each once with the value that was taken last
  pub taken : List (Topic × Value)
  pub throttle : ThrottleState
  -- the cells that were changed since the last completed recalculation
  pub changed : List Cell
  -- the accepted values, the newest first
  pub accepted : List AcceptedValue
  -- what the last completed recalculation completed with
  pub completed : Completion
  -- the number of the last begun recalculation, from 0
  pub round : ℕ
  -- that recalculation, where it runs
  pub running : Option RunningRound
  pub listeners : List Listener

-- a book without cells and functions
abbrev pub empty_book : BookState
empty_book = record { contents = []; functions = [] }

-- the state of a host that was opened and got no command yet
abbrev pub first_state : State
first_state = record {
  book = empty_book;
  servers = [];
  published = [];
  taken = [];
  throttle = record { interval = pos 2000; last = None };
  changed = [];
  accepted = [];
  completed = record { book = empty_book; topics = []; accepted = [] };
  round = 0;
  running = None;
  listeners = [];
}

-- ---- what formulas are evaluated over
-- the error value of what isn't available
abbrev pub not_available : Value
not_available = values.Error errors.Na

-- the value of a topic among these, the first one counting; #N/A where it isn't among them
abbrev pub value_among : List (Topic × Value) → Topic → Value
value_among topics topic = unwrap_or (lookup (same_topic topic) topics) not_available

-- the accepted value of a site of a cell, the first one counting
abbrev pub accepted_value_at : List AcceptedValue → Cell → ℕ → Option Value
accepted_value_at [] cell site = None
accepted_value_at (a ∷ others) cell site =
    if same_cell a.cell cell && a.site == site then Some a.value else accepted_value_at others cell site

-- the setting of a book with these values of topics and these accepted values
abbrev pub setting_over : HostTerms → BookState → List (Topic × Value) → List AcceptedValue → Setting
setting_over terms book topics accepted = record {
  snapshot = value_among topics;
  accepted = accepted_value_at accepted;
  registered = registration_of book.functions;
  answer = terms.answer;
}

-- the topics of a recalculation with their values, the first one counting: #N/A where the topic failed to connect; else
-- the value that was taken last, where it is connected; else the one that was published when the recalculation began.
-- Only a known server publishes, and a server stays known.
abbrev pub topics_of_round : List (Topic × Value) → RunningRound → List (Topic × Value)
topics_of_round taken running = (map (λ topic. (topic, not_available)) running.failed ++ taken) ++ running.opening

-- the topics with their values in the snapshot; where no recalculation runs, the connected ones
abbrev pub snapshot_topics : State → List (Topic × Value)
snapshot_topics s = option_map_or (topics_of_round s.taken) s.running s.taken

-- the snapshot: the one value that each topic has throughout a recalculation
abbrev pub snapshot : State → Topic → Value
snapshot s = value_among (snapshot_topics s)

-- the setting in which the host's formulas are evaluated
abbrev pub setting_of : HostTerms → State → Setting
setting_of terms s = setting_over terms s.book (snapshot_topics s) s.accepted

-- the setting of the last completed recalculation
abbrev pub completed_setting : HostTerms → State → Setting
completed_setting terms s = setting_over terms s.completed.book s.completed.topics s.completed.accepted

-- the sheet that is shown: what the cells of the last completed recalculation mean in its setting
abbrev pub shown_sheet : HostTerms → State → List (Cell × Option Value)
shown_sheet terms s = sheet_of (completed_setting terms s) s.completed.book.contents

-- ---- open calls
-- the stale cells of a host, in cell order
abbrev pub stale_of : State → List Cell
stale_of s = stale_cells s.book.contents s.changed

-- the call that a cell of this meaning asks for
abbrev pub call_of_meaning : HostTerms → ℕ → Cell → Meaning → Option Call
call_of_meaning terms round cell (Val v) = None
call_of_meaning terms round cell Circ = None
call_of_meaning terms round cell (Asks site name args) = Some (record {
  handle = record { session = terms.session; round = round; cell = cell; site = site };
  name = name;
  args = args;
})
call_of_meaning terms round cell Open = None

-- the call that a cell of the host asks for
abbrev pub call_at : HostTerms → State → Cell → Option Call
call_at terms s cell = call_of_meaning terms s.round cell (meaning (setting_of terms s) s.book.contents cell)

-- the open calls: those for which stale cells ask, in cell order; none where no recalculation runs
abbrev pub open_calls : HostTerms → State → List Call
open_calls terms s = option_map_or (λ running. filter_map (call_at terms s) (stale_of s)) s.running []
