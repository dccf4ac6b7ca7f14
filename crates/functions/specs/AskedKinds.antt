-- For the crate's own functions: the kinds that a value can be asked for.
use Rattle.std.specs.Prelude.{Bool}
use Rattle.cell_values.specs.declared.values.Value.{Value}
use Rattle.functions.specs.declared.kinds.ValueKind.{ValueKind}
use Rattle.functions.specs.declared.kinds.ValueKind.TheVariants as kinds
use Rattle.functions.specs.Kinds.{is_number, is_text_value, is_logical, is_error, is_na, is_blank}

-- whether a value is of a kind
abbrev pub is_of : ValueKind → Value → Bool
is_of kinds.Number v = is_number v
is_of kinds.Text v = is_text_value v
is_of kinds.Logical v = is_logical v
is_of kinds.Error v = is_error v
is_of kinds.Na v = is_na v
is_of kinds.Blank v = is_blank v
