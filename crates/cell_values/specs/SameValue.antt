-- Whether two values are one.
use Rattle.std.specs.Prelude.{Bool, true, false, ◌==◌}
use Rattle.std.specs.Bool.{beq}
use Rattle.std.specs.Ordering.{int_eq}
use Rattle.std.specs.Str.{bytes_eq}
use Rattle.cell_values.specs.declared.values.Value.{Value}
use Rattle.cell_values.specs.declared.values.Value.TheVariants.{Num, Text, Bool as Boolean, Error, Blank}
use Rattle.cell_values.specs.Error.{error_code}

-- whether two values are of one kind, and alike
abbrev pub same_value : Value → Value → Bool
same_value (Num m) (Num n) = int_eq m n
same_value (Text t) (Text u) = bytes_eq t u
same_value (Boolean b) (Boolean c) = beq b c
same_value (Error d) (Error e) = error_code d == error_code e
same_value Blank Blank = true
same_value v w = false
