-- The written replies.
use Rattle.std.specs.Prelude.{ℕ, Option, List, [], ◌∷◌, ◌++◌, map, length, codes, decimal}
use Rattle.std.specs.List.{flat_map, join_with_byte}
use Rattle.addin_types.specs.declared.calls.Call.{Call}
use Rattle.cell_refs.specs.declared.grid.Cell.{Cell}
use Rattle.cell_refs.specs.Handle.{handle_text}
use Rattle.cell_refs.specs.Written.{cell_text}
use Rattle.cell_values.specs.declared.events.Event.{Event}
use Rattle.cell_values.specs.declared.events.Event.TheVariants as events
use Rattle.cell_values.specs.declared.values.Value.{Value}
use Rattle.cell_values.specs.Word.{value_text}
use Rattle.sheet_print.specs.Records.{bare_text, kind_word, record_text, shown_text}
use Rattle.workbook.specs.declared.commands.Form.{Form}
use Rattle.workbook.specs.declared.commands.Form.TheVariants as forms
use Rattle.workbook.specs.declared.replies.Reply.{Reply}
use Rattle.workbook.specs.declared.replies.Reply.TheVariants as replies

-- a line: its text and LF
abbrev pub line_of : List ℕ → List ℕ
line_of text = text ++ 10 ∷ []

-- a cell of a sheet: its name and what it shows
abbrev pub cell_line : Cell × Option Value → List ℕ
cell_line c = line_of (cell_text c.0 ++ 61 ∷ shown_text c.1)

-- a cell of a sheet as a record: its name, the kind of what it shows, and that
abbrev pub record_line : Cell × Option Value → List ℕ
record_line c = line_of (record_text (cell_text c.0 ∷ kind_word c.1 ∷ bare_text c.1 ∷ []))

-- the cells of a sheet, in its form
abbrev pub sheet_text : Form → List (Cell × Option Value) → List ℕ
sheet_text forms.Lines cells = flat_map cell_line cells
sheet_text forms.Csv cells = flat_map record_line cells

-- a server that failed
abbrev pub failed_line : List ℕ → List ℕ
failed_line server = line_of (codes " failed " ++ server)

-- an event
abbrev pub event_line : Event → List ℕ
event_line (events.Ended round) = line_of (codes " ended " ++ decimal round)
event_line (events.Cancelled round) = line_of (codes " cancelled " ++ decimal round)

-- the value words of arguments, with a comma between two
abbrev pub arguments_text : List Value → List ℕ
arguments_text args = join_with_byte 44 (map value_text args)

-- a function with its arguments
abbrev pub applied_text : List ℕ → List Value → List ℕ
applied_text function args = function ++ codes "(" ++ arguments_text args ++ codes ")"

-- an asynchronous call: its handle, and the function with its arguments
abbrev pub call_line : Call → List ℕ
call_line call =
    line_of (codes " " ++ handle_text call.handle ++ codes " " ++ applied_text call.name call.args)

-- the lines of a reply
abbrev pub reply_text : Reply → List ℕ
reply_text replies.Ok = line_of (codes "ok")
reply_text replies.Known = line_of (codes "known")
reply_text replies.Builtin = line_of (codes "builtin")
reply_text replies.NoServer = line_of (codes "no server")
reply_text replies.NoListener = line_of (codes "no listener")
reply_text replies.Idle = line_of (codes "idle")
reply_text replies.Nothing = line_of (codes "nothing")
reply_text replies.Manual = line_of (codes "manual")
reply_text replies.CellLimit = line_of (codes "full cells")
reply_text replies.FormulaLimit = line_of (codes "full formulas")
reply_text (replies.Busy n) = line_of (codes "busy " ++ decimal n)
reply_text (replies.Early wait) = line_of (codes "early " ++ decimal wait)
reply_text (replies.Begun n) = line_of (codes "begun " ++ decimal n)
reply_text (replies.Cancelled n) = line_of (codes "cancelled " ++ decimal n)
reply_text (replies.Code code) = line_of (decimal code)
reply_text (replies.Failed server) = line_of (codes "failed " ++ server)
reply_text (replies.Pulled changed failed) =
    line_of (codes "pulled " ++ decimal changed) ++ flat_map failed_line failed
reply_text (replies.Done n cells) =
    line_of (codes "done " ++ decimal n ++ codes " cells " ++ decimal cells)
reply_text (replies.Waiting n calls) =
    line_of (codes "waiting " ++ decimal n ++ codes " count " ++ decimal (length calls))
    ++ flat_map call_line calls
reply_text (replies.Events events) = flat_map event_line events ++ line_of (codes "end")
reply_text (replies.Sheet form cells) = sheet_text form cells ++ line_of (codes "end")

-- the line for a line that isn't read, with the word that says why
abbrev pub bad_text : List ℕ → List ℕ
bad_text word = line_of (codes "bad " ++ word)
