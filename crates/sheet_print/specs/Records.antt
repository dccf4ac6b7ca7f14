-- Records of comma-separated values, and what a cell shows.
use Rattle.std.specs.Prelude.{ℕ, Bool, ◌==◌, ◌||◌, if◌then◌else◌, Option, Some, None, List, map, codes}
use Rattle.std.specs.List.{list_any, join_with_byte}
use Rattle.cell_values.specs.declared.values.Value.{Value}
use Rattle.cell_values.specs.declared.values.Value.TheVariants as values
use Rattle.cell_values.specs.Word.{quotation_of, value_text}

-- what a cell shows: its value word, or the mark of a circular cell
abbrev pub shown_text : Option Value → List ℕ
shown_text None = codes "#CIRC!"
shown_text (Some value) = value_text value

-- whether a byte calls for quotes: a comma or a `"`
abbrev pub calls_for_quotes : ℕ → Bool
calls_for_quotes c = (c == 44) || (c == 34)

-- a field of a record: between quotes, each `"` doubled, where it holds a comma or a `"`
abbrev pub field_text : List ℕ → List ℕ
field_text field = if list_any calls_for_quotes field then quotation_of field else field

-- a record: its fields, with a comma between two
abbrev pub record_text : List (List ℕ) → List ℕ
record_text fields = join_with_byte 44 (map field_text fields)

-- the kind of what a cell shows; a Blank shows 0
abbrev pub kind_word : Option Value → List ℕ
kind_word None = codes "circular"
kind_word (Some (values.Num n)) = codes "number"
kind_word (Some (values.Text t)) = codes "text"
kind_word (Some (values.Bool b)) = codes "bool"
kind_word (Some (values.Error e)) = codes "error"
kind_word (Some values.Blank) = codes "number"

-- what a cell shows, a text as its bytes alone
abbrev pub bare_text : Option Value → List ℕ
bare_text (Some (values.Text t)) = t
bare_text shown = shown_text shown
