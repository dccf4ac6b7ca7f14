-- The registered functions: names with their registrations, in the order of the names' bytes.
use Rattle.std.specs.Prelude.{ℕ, Bool, true, Option, None, Some, List}
use Rattle.std.specs.List.{find}
use Rattle.std.specs.List.Sorted.{IsStrictlySortedBy}
use Rattle.std.specs.Map.{lookup, keys_of}
use Rattle.std.specs.Ordering.{nat_cmp, is_lt}
use Rattle.std.specs.Cmp.Lexicographic.{slice_cmp}
use Rattle.std.specs.Str.{bytes_eq}
use Rattle.std.specs.declared.cmp.Ordering.{Ordering}
use Rattle.addin_types.specs.declared.registrations.Registration.{Registration}

-- the order of names, by their bytes
abbrev pub name_cmp : List ℕ → List ℕ → Ordering
name_cmp = slice_cmp nat_cmp

-- the names of functions stand in the order of their bytes, each once
abbrev pub AreInOrder : List (List ℕ × Registration) → Type 0
AreInOrder functions = IsStrictlySortedBy name_cmp (keys_of functions)

-- what a name is registered with
abbrev pub registration_of : List (List ℕ × Registration) → List ℕ → Option Registration
registration_of functions name = lookup (bytes_eq name) functions

-- whether a name is greater than after, or no name is given
abbrev pub is_past : Option (List ℕ) → List ℕ → Bool
is_past None name = true
is_past (Some after) name = is_lt (name_cmp after name)

-- the least registered name among those greater than after, or among all
abbrev pub next_name : List (List ℕ × Registration) → Option (List ℕ) → Option (List ℕ)
next_name functions after = find (is_past after) (keys_of functions)
