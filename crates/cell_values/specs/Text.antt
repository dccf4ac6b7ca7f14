-- Texts: which lists of bytes are texts.
use Rattle.std.specs.Prelude.{ℕ, Bool, ◌&&◌, not, nat_le, if◌then◌else◌, List, length, Option, Some, None}
use Rattle.std.specs.List.{list_any}
use Rattle.std.specs.Char.{is_ascii_control}
use Rattle.std.specs.Str.{is_utf8, chars}
use Rattle.cell_values.specs.declared.limits.TheConstants.{LONGEST_TEXT}

-- the bytes of a text: UTF-8, at most 32,767 characters, no character below U+0020 and no U+007F
abbrev pub is_text : List ℕ → Bool
is_text t =
    is_utf8 t && (nat_le (length (chars t)) LONGEST_TEXT && not (list_any is_ascii_control t))

-- bytes of at most 32,767 characters
abbrev pub if_short : List ℕ → Option (List ℕ)
if_short t = if nat_le (length (chars t)) LONGEST_TEXT then Some t else None
