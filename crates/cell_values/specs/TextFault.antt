-- Why a list of bytes is no text.
use Rattle.std.specs.Prelude.{◌≡◌, ℕ, ◌<◌, ◌≤◌, List, length, Some}
use Rattle.std.specs.List.{position}
use Rattle.std.specs.Char.{is_ascii_control}
use Rattle.std.specs.Str.{chars}
use Rattle.cell_values.specs.declared.limits.TheConstants.{LONGEST_TEXT}
use Rattle.cell_values.specs.declared.texts.TextFault.{TextFault}
use Rattle.cell_values.specs.declared.texts.TextFault.TheVariants.{Memory, TooLong, Control}

-- when each fault is answered: too many characters come first, then the first control character
abbrev pub IsFaultOf : TextFault → List ℕ → Type 0
IsFaultOf Memory s = Unit {0}
IsFaultOf TooLong s = LONGEST_TEXT < length (chars s)
IsFaultOf (Control place) s =
    (length (chars s) ≤ LONGEST_TEXT) × (position is_ascii_control s ≡ Some place)
