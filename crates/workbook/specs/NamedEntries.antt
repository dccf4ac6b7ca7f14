-- For the crate's own functions: the map that the registry is kept in, from a name's bytes to the name with its registration.
use Rattle.std.specs.Prelude.{◌≡◌, ℕ, List, map}
use Rattle.std.specs.List.{AllByRecursion}
use Rattle.std.specs.String.{string_bytes}
use Rattle.std.specs.declared.cmp.Ordering.{Ordering}
use Rattle.std.specs.declared.string.String.{String}
use Rattle.addin_types.specs.declared.registrations.Registration.{Registration}
use Rattle.workbook.specs.Registry.{name_cmp}

-- the order of keys, which is that of their bytes
abbrev pub key_cmp : {Z : Type 0} → String Z → String Z → Ordering
key_cmp a b = name_cmp (string_bytes a) (string_bytes b)

-- the functions of a map from a name's bytes to the name and its registration
abbrev pub functions_of : {Z : Type 0} → List (String Z × (List ℕ × Registration)) → List (List ℕ × Registration)
functions_of entries = map (λ e. (string_bytes e.0, e.1.1)) entries

-- each name stands at its own bytes
abbrev pub AreNamed : {Z : Type 0} → List (String Z × (List ℕ × Registration)) → Type 0
AreNamed entries = AllByRecursion (λ e. e.1.0 ≡ string_bytes e.0) entries
