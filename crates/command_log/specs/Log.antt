-- The answered commands of a host, and the values that were accepted for asynchronous calls.
use Rattle.std.specs.Prelude.{◌≡◌, ◌≤◌, ℕ, zero, suc, Bool, true, List, [], ◌++◌, Option, None, Some, is_some, length, nat_eq, option_to_list, slice_get, unwrap_or}
use Rattle.std.specs.Option.{option_and_then}
use Rattle.std.specs.List.{list_any}
use Rattle.std.specs.Map.{lookup}
use Rattle.cell_refs.specs.declared.grid.Cell.{Cell}
use Rattle.cell_refs.specs.declared.handles.Handle.{Handle}
use Rattle.cell_refs.specs.Cell.{same_cell}
use Rattle.cell_values.specs.declared.values.Value.{Value}
use Rattle.workbook.specs.declared.commands.Command.{Command}
use Rattle.workbook.specs.declared.commands.Command.TheVariants as commands
use Rattle.workbook.specs.declared.history.Entry.{Entry}

-- the answered commands, the oldest first; for each of them the place behind that of the accepted value of its cell before
-- it, or 0; for cells the place behind that of the newest accepted value; and how many entries, and how many first accepted
-- values of cells, can come without memory being taken
pub record LogParts : Type 0 where
  pub entries : List Entry
  pub links : List ℕ
  pub heads : List (Cell × ℕ)
  pub room : ℕ
  pub spare : ℕ

-- the entry of a returned value
abbrev pub accepted_entry : ℕ → Handle → Value → Entry
accepted_entry actor handle value = record { actor = actor; command = commands.Return handle value }

-- whether a site is among these
abbrev pub has_site : List (ℕ × Value) → ℕ → Bool
has_site results site = list_any (λ e. nat_eq site e.0) results

-- ---- how they are kept
-- the place behind that of the newest accepted value of each cell, and for how many more cells there is room
pub record HeadsState : Type 0 where
  pub places : List (Cell × ℕ)
  pub spare : ℕ

-- the same places
abbrev pub HasSamePlaces : HeadsState → HeadsState → Type 0
HasSamePlaces old new = (cell : Cell) → lookup (same_cell cell) new.places ≡ lookup (same_cell cell) old.places

-- the place behind that of the newest accepted value of a cell; 0 where it has none
abbrev pub head_of : List (Cell × ℕ) → Cell → ℕ
head_of places cell = unwrap_or (lookup (same_cell cell) places) 0

-- the returned value of a command with its site, if it is a return
abbrev pub result_of_command : Command → Option (ℕ × Value)
result_of_command (commands.Return handle value) = Some (handle.site, value)
result_of_command command = None

-- the returned value of the entry at a place, with its site, if it is a return
abbrev pub result_at : List Entry → ℕ → Option (ℕ × Value)
result_at entries place = option_and_then (λ (entry : Entry). result_of_command entry.command) (slice_get entries place)

-- the link of the entry at a place; 0 past the end
abbrev pub link_at : List ℕ → ℕ → ℕ
link_at links place = unwrap_or (slice_get links place) 0

-- the returned value before a place, with its site, if there is one
abbrev pub result_before : List Entry → ℕ → Option (ℕ × Value)
result_before entries zero = None
result_before entries (suc place) = result_at entries place

-- the link of the entry before a place
abbrev pub link_before : List ℕ → ℕ → ℕ
link_before links zero = 0
link_before links (suc place) = link_at links place

-- the accepted values along the links from this place, at most so many
abbrev pub results_from : List Entry → List ℕ → ℕ → ℕ → List (ℕ × Value)
results_from entries links zero head = []
results_from entries links (suc steps) zero = []
results_from entries links (suc steps) (suc place) =
    option_to_list (result_at entries place) ++ results_from entries links steps (link_at links place)

-- the accepted values of a cell with their sites, the newest first
abbrev pub results_of : LogParts → Cell → List (ℕ × Value)
results_of log cell = results_from log.entries log.links (head_of log.heads cell) (head_of log.heads cell)

-- there is nothing in front of this place, or a return
abbrev pub IsBehindReturn : List Entry → ℕ → Type 0
IsBehindReturn entries zero = Unit {0}
IsBehindReturn entries (suc place) = is_some (result_at entries place) ≡ true

-- each entry has a link, which leads back, and heads and links stand behind returns
pub record AreLinked (entries : List Entry) (links : List ℕ) (heads : List (Cell × ℕ)) : Type 0 where
  pub lengths : length links ≡ length entries
  pub back : (place : ℕ) → link_at links place ≤ place
  pub returns : (place : ℕ) → IsBehindReturn entries (link_at links place)
  pub within : (cell : Cell) → head_of heads cell ≤ length entries
  pub newest : (cell : Cell) → IsBehindReturn entries (head_of heads cell)
