-- Names of servers, functions and listeners.
use Rattle.std.specs.Prelude.{ℕ, Bool, false, ◌&&◌, ◌||◌, ◌==◌, nat_le, List, [], ◌∷◌, length}
use Rattle.std.specs.List.{list_all}
use Rattle.std.specs.Char.{is_ascii_alphabetic, is_ascii_alphanumeric}
use Rattle.cell_values.specs.declared.limits.TheConstants.{LONGEST_NAME}

-- a letter, a digit, `.` or `_`
abbrev pub is_name_byte : ℕ → Bool
is_name_byte c = is_ascii_alphanumeric c || (c == 46 || c == 95)

-- a letter, then letters, digits, `.` and `_`, at most 255 bytes in all
abbrev pub is_name : List ℕ → Bool
is_name [] = false
is_name (c ∷ cs) =
    is_ascii_alphabetic c && (list_all is_name_byte cs && nat_le (length (c ∷ cs)) LONGEST_NAME)
