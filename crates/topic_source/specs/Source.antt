-- What a recalculation gets of topics, and who reads which.
use Rattle.std.specs.Prelude.{◌≡◌, ℕ, pos, Bool, false, ◌&&◌, ◌||◌, Option, None, List, []}
use Rattle.cell_refs.specs.declared.grid.Cell.{Cell}
use Rattle.cell_refs.specs.Cell.{same_cell}
use Rattle.cell_values.specs.declared.errors.ErrorKind.TheVariants as errors
use Rattle.cell_values.specs.declared.topics.Topic.{Topic}
use Rattle.cell_values.specs.declared.values.Value.{Value}
use Rattle.cell_values.specs.declared.values.Value.TheVariants as values
use Rattle.cell_values.specs.Topic.{same_topic}
use Rattle.workbook.specs.State.{KnownServer, ThrottleState}

-- what a host keeps of real-time data, beside what is noted in a recalculation
pub record RtdStanding : Type 0 where
  -- the known servers, in the order in which they were named
  pub servers : List KnownServer
  -- what servers published for topics
  pub published : Topic → Option Value
  -- the topics that were connected in the last completed recalculation, each once with the value that was taken last
  pub taken : List (Topic × Value)
  pub throttle : ThrottleState
  -- where a recalculation runs, what was published when it began
  pub opening : Option (Topic → Option Value)
  -- which cells read a topic in the last completed recalculation
  pub readers : Topic → Cell → Bool
  -- the number of the last recalculation that began
  pub round : ℕ

-- without servers
abbrev pub no_standing : RtdStanding
no_standing = record {
  servers = [];
  published = λ topic. None;
  taken = [];
  throttle = record { interval = pos 2000; last = None };
  opening = None;
  readers = λ topic cell. false;
  round = 0;
}

-- the value of each topic, whether a server serves it, whether a cell was noted as its reader, and what is kept beside
pub record SourceState : Type 0 where
  pub snapshot : Topic → Value
  pub is_served : Topic → Bool
  pub has_read : Topic → Cell → Bool
  pub standing : RtdStanding

-- without servers: each topic is #N/A, and nothing is noted
abbrev pub no_topics : SourceState
no_topics = record {
  snapshot = λ topic. values.Error errors.Na;
  is_served = λ topic. false;
  has_read = λ topic cell. false;
  standing = no_standing;
}

-- each topic has the value that it had, and is served where it was, and all is kept beside what is noted
pub record KeepsValues (old new : SourceState) : Type 0 where
  pub snapshot : new.snapshot ≡ old.snapshot
  pub served : new.is_served ≡ old.is_served
  pub standing : new.standing ≡ old.standing

-- the same cells were noted
abbrev pub KeepsReaders : SourceState → SourceState → Type 0
KeepsReaders old new = (topic : Topic) (cell : Cell) → new.has_read topic cell ≡ old.has_read topic cell

-- this cell is noted for this topic, where it is served, beside those that were noted
abbrev pub NotesReader : SourceState → SourceState → Topic → Cell → Type 0
NotesReader old new topic reader = (t : Topic) (cell : Cell)
    → new.has_read t cell ≡ ((old.is_served topic && (same_topic topic t && same_cell reader cell)) || old.has_read t cell)
