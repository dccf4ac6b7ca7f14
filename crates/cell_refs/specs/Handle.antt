-- Handles of asynchronous calls: whether two are one, and how they are written.
use Rattle.std.specs.Prelude.{ℕ, Bool, ◌&&◌, ◌==◌, ◌<◌, ◌≤◌, ◌^◌, if◌then◌else◌, List, [], ◌++◌, Option, Some, codes, decimal}
use Rattle.cell_refs.specs.declared.handles.Handle.{Handle}
use Rattle.cell_refs.specs.Cell.{IsCell, same_cell}
use Rattle.cell_refs.specs.HandleReading.{cell_at_front, count_at, session_at, site_of}
use Rattle.cell_refs.specs.Reading.{◌>>=◌, rest_after}
use Rattle.cell_refs.specs.Written.{cell_text}

-- whether two handles have the same session, recalculation, cell and site
abbrev pub same_handle : Handle → Handle → Bool
same_handle a b =
    a.session == b.session
    && (a.round == b.round && (same_cell a.cell b.cell && a.site == b.site))

-- a handle that a session gives: sessions begin at 1, its cell lies in the grid, and its numbers fit their types
pub record IsHandle (h : Handle) : Type 0 where
  pub session : (1 ≤ h.session) × (h.session < 2 ^ 64)
  pub round : h.round < 2 ^ 64
  pub cell : IsCell h.cell
  pub site : h.site < 2 ^ 16

-- the session and a `/`, where the session isn't the first
abbrev pub session_part : ℕ → List ℕ
session_part session = if session == 1 then [] else decimal session ++ codes "/"

-- a handle as it is written: its session where that isn't the first, its recalculation, cell and site
unfoldable pub handle_text : Handle → List ℕ
handle_text h =
    session_part h.session
    ++ (decimal h.round ++ (codes ":" ++ (cell_text h.cell ++ (codes "#" ++ decimal h.site))))

-- the handle that a text is, if it is one
unfoldable pub handle_in : List ℕ → Option Handle
handle_in text = do
  session ← session_at text
  round ← count_at session.1
  at_cell ← rest_after (codes ":") round.1
  cell ← cell_at_front at_cell
  at_site ← rest_after (codes "#") cell.1
  site ← site_of at_site
  Some (record { session = session.0; round = round.0; cell = cell.0; site = site })
