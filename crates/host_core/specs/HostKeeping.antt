-- For the crate's own functions: what a book, its real-time data, its log and its events keep of a host's state.
use Rattle.std.specs.Prelude.{◌≡◌, ℕ, Bool, true, false, ◌&&◌, Option, None, Some, is_some, List, [], map, nat_eq}
use Rattle.std.specs.Map.{lookup}
use Rattle.calc_events.specs.Listening.{Listening}
use Rattle.calc_events.specs.Listening as heard
use Rattle.cell_refs.specs.declared.grid.Cell.{Cell}
use Rattle.cell_refs.specs.Cell.{is_among}
use Rattle.cell_values.specs.declared.topics.Topic.{Topic}
use Rattle.cell_values.specs.declared.values.Value.{Value}
use Rattle.cell_values.specs.Topic.{same_topic}
use Rattle.clean_cells.specs.Keeping.{KeepsClean, opening_topics}
use Rattle.command_log.specs.Log.{LogParts, results_of}
use Rattle.topic_source.specs.Source.{RtdStanding}
use Rattle.workbook.specs.Book.{is_formula}
use Rattle.workbook.specs.Pulling.{is_named}
use Rattle.workbook.specs.Reads.{cell_reads}
use Rattle.workbook.specs.State.{HostTerms, KnownServer, Listener, State, accepted_value_at, completed_setting, setting_of}
use Rattle.calc_book.specs.CalcState.{CalcState}
use Rattle.calc_book.specs.declared.calc_books.CalcBook.{CalcBook}
use Rattle.calc_book.specs.Keeping.{AtRest, InRound, IsSettled, ReadsInRound}
use Rattle.rtd_topics.specs.RtdState.{RtdState, source_of, standing_of}

-- a listener with its events, in the words of a host's state
abbrev pub listener_as : heard.Listener → Listener
listener_as listener = record { name = listener.name; events = listener.events }

-- listeners with their events
abbrev pub listeners_as : List heard.Listener → List Listener
listeners_as listeners = map listener_as listeners

-- whether a server is known
abbrev pub is_known : List KnownServer → List ℕ → Bool
is_known servers name = is_named (map (λ (server : KnownServer). server.name) servers) name

-- the part of a state that a book that recalculates stands for, with the changed cells as it noted them
abbrev pub calc_of : HostTerms → State → List Cell → CalcState
calc_of terms s noted = record {
  session = terms.session;
  book = s.book.contents;
  functions = s.book.functions;
  changed = noted;
  completed = s.completed.book.contents;
  setting = completed_setting terms s;
}

-- the book stands for this state, whether its recalculation of this number runs or not
abbrev pub Recalculates : HostTerms → Bool → ℕ → CalcBook → State → List Cell → Type 0
Recalculates terms true round calc s noted = InRound (setting_of terms s) round calc (calc_of terms s noted)
Recalculates terms false round calc s noted = AtRest calc (calc_of terms s noted)

-- what was published when a recalculation began is this, where one runs
abbrev pub IsOpening : Bool → Option (Topic → Option Value) → List (Topic × Value) → Type 0
IsOpening true opening topics = (found : Topic → Option Value) × (opening ≡ Some found) × ((topic : Topic) → found topic ≡ lookup (same_topic topic) topics)
IsOpening false opening topics = opening ≡ None

-- what is kept of real-time data is that of this state
pub record StandsFor (terms : HostTerms) (r : RtdStanding) (s : State) (running : Bool) : Type 0 where
  pub servers : r.servers ≡ s.servers
  pub published : (topic : Topic) → r.published topic ≡ lookup (same_topic topic) s.published
  pub taken : (topic : Topic) → lookup (same_topic topic) r.taken ≡ lookup (same_topic topic) s.taken
  pub throttle : r.throttle ≡ s.throttle
  pub opening : IsOpening running r.opening (opening_topics s)
  pub readers : (topic : Topic) (cell : Cell)
      → r.readers topic cell
      ≡ (is_some (lookup (same_topic topic) s.taken) && cell_reads (completed_setting terms s) s.completed.book.contents cell topic)

-- only formula cells have accepted values: those of the book where a recalculation runs, else those of the last completed
-- one, beside the changed cells
abbrev pub AreOfFormulas : Bool → State → Type 0
AreOfFormulas true s = (cell : Cell) (site : ℕ) → is_formula s.book.contents cell ≡ false → accepted_value_at s.accepted cell site ≡ None
AreOfFormulas false s = (cell : Cell) (site : ℕ) → is_formula s.completed.book.contents cell ≡ false → is_among s.changed cell ≡ false
    → accepted_value_at s.accepted cell site ≡ None

-- the log has the accepted values of a state
abbrev pub HasAccepted : LogParts → State → Type 0
HasAccepted log s = (cell : Cell) (site : ℕ) → accepted_value_at s.accepted cell site ≡ lookup (nat_eq site) (results_of log cell)

-- book, real-time data, log and events stand for this state, in which what commands keep holds
pub record Keeps (terms : HostTerms) (calc : CalcBook) (r : RtdState) (events : Listening) (log : LogParts) (round : ℕ)
    (running : Bool) (s : State) (noted : List Cell) : Type 0 where
  pub clean : KeepsClean terms s
  pub runs : is_some s.running ≡ running
  pub numbered : s.round ≡ round
  pub changed : (cell : Cell) → is_among noted cell ≡ is_among s.changed cell
  pub book : Recalculates terms running round calc s noted
  pub rtd : StandsFor terms (standing_of r) s running
  pub reads : running ≡ true → ReadsInRound (setting_of terms s) (source_of r) calc
  pub number : r.round ≡ round
  pub accepted : HasAccepted log s
  pub formulas : AreOfFormulas running s
  pub listeners : s.listeners ≡ listeners_as events.listeners

-- and in the recalculation that runs all that can be evaluated has been
abbrev pub IsSettledBook : HostTerms → ℕ → CalcBook → State → List Cell → Type 0
IsSettledBook terms round calc s noted = IsSettled (setting_of terms s) round calc (calc_of terms s noted)
