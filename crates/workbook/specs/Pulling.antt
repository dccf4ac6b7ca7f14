-- Pulling: when a pull is due, and what it takes.
use Rattle.std.specs.Prelude.{ℕ, ◌+◌, ◌-◌, ℤ, pos, negsuc, nat_lt, Bool, not, ◌&&◌, if◌then◌else◌, Option, None, Some, unwrap_or, List, ◌++◌, map}
use Rattle.std.specs.List.{filter, list_any}
use Rattle.std.specs.Map.{keys_of, lookup}
use Rattle.std.specs.Str.{bytes_eq}
use Rattle.cell_refs.specs.declared.grid.Cell.{Cell}
use Rattle.cell_values.specs.declared.topics.Topic.{Topic}
use Rattle.cell_values.specs.declared.values.Value.{Value}
use Rattle.cell_values.specs.SameValue.{same_value}
use Rattle.cell_values.specs.Topic.{same_topic}
use Rattle.workbook.specs.declared.commands.Moment.{Moment}
use Rattle.workbook.specs.declared.commands.Moment.TheVariants as moments
use Rattle.workbook.specs.Book.{formula_cells}
use Rattle.workbook.specs.Reads.{is_listed, topics_of_cell}
use Rattle.workbook.specs.State.{HostTerms, KnownServer, ThrottleState, State, completed_setting}

-- whether a name is among those
abbrev pub is_named : List (List ℕ) → List ℕ → Bool
is_named names name = list_any (bytes_eq name) names

-- whether a pull is due: now, in so many milliseconds, or only by force
pub data Due : Type 0 where
  Now : Due
  Early : ℕ → Due
  Manual : Due

-- whether a pull at a moment is due by this interval and the moment of the last one: early where the interval is positive
-- and hasn't passed since the last one
abbrev pub due_by : ℤ → Option ℕ → ℕ → Due
due_by (negsuc n) last moment = Manual
due_by (pos interval) None moment = Now
due_by (pos interval) (Some last) moment =
    if nat_lt 0 interval && nat_lt moment (last + interval) then Early (last + interval - moment) else Now

-- whether a pull is due; a forced one always is
abbrev pub pull_due : ThrottleState → Moment → Due
pull_due throttle (moments.At moment) = due_by throttle.interval throttle.last moment
pull_due throttle moments.Force = Now

-- the throttle after a pull: a forced one leaves no trace
abbrev pub pulled_throttle : ThrottleState → Moment → ThrottleState
pulled_throttle throttle (moments.At moment) = record throttle { last = Some moment }
pulled_throttle throttle moments.Force = throttle

-- whether a server tells that it published
abbrev pub is_flagged : List KnownServer → Bool
is_flagged servers = list_any (λ (server : KnownServer). server.flag) servers

-- the flagged servers that fail, in the order in which servers were named
abbrev pub names_of_failed : List KnownServer → List (List ℕ) → List (List ℕ)
names_of_failed servers failed =
    map (λ (server : KnownServer). server.name) (filter (λ (server : KnownServer). server.flag && is_named failed server.name) servers)

-- whether the values of a server are taken: it is flagged and doesn't fail
abbrev pub gives_values : List KnownServer → List (List ℕ) → List ℕ → Bool
gives_values servers failed name =
    list_any (λ (server : KnownServer). server.flag && (bytes_eq name server.name && not (is_named failed name))) servers

-- the value that a connected topic has after a pull: what was published, where its server gives its values and has published it; else what it had
abbrev pub pulled_value : List KnownServer → List (List ℕ) → List (Topic × Value) → Topic × Value → Value
pulled_value servers failed published entry =
    if gives_values servers failed entry.0.server then unwrap_or (lookup (same_topic entry.0) published) entry.1 else entry.1

-- the connected topics with their values after a pull
abbrev pub pulled_topics : List KnownServer → List (List ℕ) → List (Topic × Value) → List (Topic × Value) → List (Topic × Value)
pulled_topics servers failed published taken = map (λ entry. (entry.0, pulled_value servers failed published entry)) taken

-- the connected topics whose value a pull changes
abbrev pub changed_topics : List KnownServer → List (List ℕ) → List (Topic × Value) → List (Topic × Value) → List Topic
changed_topics servers failed published taken =
    keys_of (filter (λ entry. not (same_value entry.1 (pulled_value servers failed published entry))) taken)

-- the servers after a pull: the flags of those that didn't fail are down
abbrev pub pulled_servers : List KnownServer → List (List ℕ) → List KnownServer
pulled_servers servers failed = map (λ (server : KnownServer). record server { flag = server.flag && is_named failed server.name }) servers

-- the formula cells that read one of these topics in the last completed recalculation
abbrev pub readers_of_topics : HostTerms → State → List Topic → List Cell
readers_of_topics terms s topics =
    filter (λ cell. list_any (is_listed topics) (topics_of_cell (completed_setting terms s) s.completed.book.contents cell))
    (formula_cells s.completed.book.contents)

-- the state after a pull at which these servers failed
abbrev pub after_pull : HostTerms → List (List ℕ) → State → Moment → State
after_pull terms failed s moment = record s {
  servers = pulled_servers s.servers failed;
  taken = pulled_topics s.servers failed s.published s.taken;
  throttle = pulled_throttle s.throttle moment;
  changed = readers_of_topics terms s (changed_topics s.servers failed s.published s.taken) ++ s.changed;
}
