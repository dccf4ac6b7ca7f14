-- The words behind the program's name.
use Rattle.std.specs.Prelude.{ℕ, Bool, false, List, [], ◌∷◌, map, codes, String, string_bytes}
use Rattle.std.specs.declared.alloc.Global.{Global}
use Rattle.std.specs.Str.{bytes_eq}
use Rattle.sheet_print.specs.Replies.{line_of}

-- the words as texts
abbrev pub texts : List (String Global) → List (List ℕ)
texts words = map string_bytes words

-- whether the words are the one word `run`
abbrev pub is_run : List (List ℕ) → Bool
is_run [] = false
is_run (word ∷ []) = bytes_eq word (codes "run")
is_run (word ∷ next ∷ words) = false

-- the line for words that are not the program's
abbrev pub usage_line : List ℕ
usage_line = line_of (codes "usage: rtdhost run")
