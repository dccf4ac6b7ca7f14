-- The arguments of a line, and what each of them says.
use Rattle.std.specs.Prelude.{ℕ, ℤ, pos, unsigned_abs, int_le, Bool, ◌==◌, ◌&&◌, if◌then◌else◌, List, length, map, Option, Some, None, Result, Ok, Err, codes}
use Rattle.std.specs.Char.{to_ascii_uppercase}
use Rattle.std.specs.List.{list_any}
use Rattle.std.specs.Option.{ok_or}
use Rattle.std.specs.Result.{result_map_both}
use Rattle.std.specs.Str.{bytes_eq}
use Rattle.addin_types.specs.declared.registrations.Registration.{Registration}
use Rattle.addin_types.specs.TypeText.{registration_in}
use Rattle.cell_refs.specs.declared.grid.Cell.{Cell}
use Rattle.cell_refs.specs.declared.handles.Handle.{Handle}
use Rattle.cell_refs.specs.declared.references.RefText.{RefText}
use Rattle.cell_refs.specs.Handle.{handle_in}
use Rattle.cell_refs.specs.RefText.{cell_at}
use Rattle.cell_refs.specs.Written.{reference_at}
use Rattle.cell_values.specs.declared.values.Value.{Value}
use Rattle.cell_values.specs.Name.{is_name}
use Rattle.cell_values.specs.Word.{number_word, value_of_word}
use Rattle.throttle.specs.declared.limits.TheConstants.{MAX_INTERVAL, MAX_MOMENT, MIN_INTERVAL}
use Rattle.workbook.specs.declared.commands.Moment.{Moment}
use Rattle.workbook.specs.declared.commands.Moment.TheVariants as moments
use Rattle.session_script.specs.declared.faults.BadLine.{BadLine}
use Rattle.session_script.specs.declared.faults.BadLine.TheVariants as faults

infixl 10 ◌>>=◌
-- the first fault, or what comes of the value
abbrev pub ◌>>=◌ : {A B : Type 0} → Result A BadLine → (A → Result B BadLine) → Result B BadLine
(Ok x) >>= f = f x
(Err fault) >>= f = Err fault

-- whether a byte is a space
abbrev pub is_space : ℕ → Bool
is_space byte = byte == 32

-- whether a space stands in a text: whether it has more than one part
abbrev pub has_space : List ℕ → Bool
has_space text = list_any is_space text

-- the cell of a reference that is the whole text; without a sheet it is on the first
abbrev pub whole_cell : List ℕ → Option (RefText × ℕ) → Option Cell
whole_cell text None = None
whole_cell text (Some found) =
    if found.1 == length text then Some (cell_at found.0 1) else None

-- CELL: a reference
abbrev pub cell_said : List ℕ → Result Cell BadLine
cell_said text = ok_or (whole_cell text (reference_at text)) faults.Ref

-- NAME
abbrev pub name_said : List ℕ → Result (List ℕ) BadLine
name_said text = if is_name text then Ok text else Err faults.Name

-- NAME of a function, which is made upper case
abbrev pub function_said : List ℕ → Result (List ℕ) BadLine
function_said text = name_said (map to_ascii_uppercase text)

-- TYPE: a type text
abbrev pub type_said : List ℕ → Result Registration BadLine
type_said text = result_map_both (λ registration. registration) faults.Type (registration_in text)

-- HANDLE
abbrev pub handle_said : List ℕ → Result Handle BadLine
handle_said text = ok_or (handle_in text) faults.Handle

-- VALUE: a value word
abbrev pub value_said : List ℕ → Result Value BadLine
value_said text = ok_or (value_of_word text) faults.Value

-- a number from one to another
abbrev pub number_within : ℤ → ℤ → Option ℤ → Result ℤ BadLine
number_within least most None = Err faults.Value
number_within least most (Some number) =
    if int_le least number && int_le number most then Ok number else Err faults.Value

-- N of a throttle: a number word from -1 to 2,147,483,647
abbrev pub interval_said : List ℕ → Result ℤ BadLine
interval_said text = number_within MIN_INTERVAL MAX_INTERVAL (number_word text)

-- M of a pull: `force`, or a number word from 0 to 999,999,999,999,999
abbrev pub moment_said : List ℕ → Result Moment BadLine
moment_said text =
    if bytes_eq text (codes "force") then Ok moments.Force
    else (number_within (pos 0) (pos MAX_MOMENT) (number_word text)
    >>= (λ moment. Ok (moments.At (unsigned_abs moment))))
