-- The part of a host's state that a recalculating book stands for, and what each call makes of it.
use Rattle.std.specs.Prelude.{ℕ, List, [], ◌∷◌, ◌++◌}
use Rattle.std.specs.BTreeMap.{insert_entry}
use Rattle.std.specs.List.{filter_map}
use Rattle.std.specs.Map.{remove_entry}
use Rattle.cell_refs.specs.declared.grid.Cell.{Cell}
use Rattle.cell_refs.specs.Cell.{cell_cmp, same_cell}
use Rattle.addin_types.specs.declared.calls.Call.{Call}
use Rattle.addin_types.specs.declared.registrations.Registration.{Registration}
use Rattle.workbook.specs.declared.commands.BeginKind.{BeginKind}
use Rattle.workbook.specs.declared.contents.Content.{Content}
use Rattle.workbook.specs.Meaning.{Setting, meaning}
use Rattle.workbook.specs.Registry.{name_cmp}
use Rattle.workbook.specs.Stale.{stale_cells}
use Rattle.workbook.specs.State.{HostTerms, call_of_meaning}
use Rattle.workbook.specs.Step.{callers_of, changed_at_begin}

-- a book with its registered functions, and what is shown of it
pub record CalcState : Type 0 where
  -- the session, of which the handles of its calls are
  pub session : ℕ
  -- the cells with content, in cell order
  pub book : List (Cell × Content)
  -- the registered functions, in the order of their names
  pub functions : List (List ℕ × Registration)
  -- the cells that were changed since the last completed recalculation
  pub changed : List Cell
  -- the cells with content at the last completed recalculation
  pub completed : List (Cell × Content)
  -- what the last completed recalculation evaluated its cells over
  pub setting : Setting

-- before the first command
abbrev pub first_calc : ℕ → Setting → CalcState
first_calc session setting = record {
  session = session;
  book = [];
  functions = [];
  changed = [];
  completed = [];
  setting = setting;
}

-- with this content at a cell, which is changed
abbrev pub calc_set : CalcState → Cell → Content → CalcState
calc_set s cell content = record s {
  book = insert_entry cell_cmp s.book cell content;
  changed = cell ∷ s.changed;
}

-- without a content at a cell, which is changed
abbrev pub calc_clear : CalcState → Cell → CalcState
calc_clear s cell = record s {
  book = remove_entry (same_cell cell) s.book;
  changed = cell ∷ s.changed;
}

-- with these cells changed too
abbrev pub calc_note : CalcState → List Cell → CalcState
calc_note s cells = record s { changed = cells ++ s.changed }

-- with a function registered in place of any of its name; the formula cells that call the name are changed
abbrev pub calc_register : CalcState → List ℕ → Registration → CalcState
calc_register s name registration = record s {
  functions = insert_entry name_cmp s.functions name registration;
  changed = callers_of s.book name ++ s.changed;
}

-- with the cells changed that a begin of this kind changes
abbrev pub calc_begin : CalcState → BeginKind → CalcState
calc_begin s kind = record s { changed = changed_at_begin kind s.book s.changed }

-- completed in this setting
abbrev pub calc_settle : CalcState → Setting → CalcState
calc_settle s setting = record s { changed = []; completed = s.book; setting = setting }

-- the calls for which stale cells ask in a recalculation of this number in this setting, in cell order
abbrev pub asked_calls : HostTerms → Setting → ℕ → CalcState → List Call
asked_calls terms now round s =
    filter_map (λ cell. call_of_meaning terms round cell (meaning now s.book cell)) (stale_cells s.book s.changed)
