-- What the laws of the functions on texts speak of.
use Rattle.std.specs.Prelude.{◌≡◌, ℕ, pos, ◌+◌, ◌<◌, ◌≤◌, List, ◌++◌, length}
use Rattle.std.specs.Str.{IsUtf8, chars}
use Rattle.cell_values.specs.declared.values.Value.TheVariants as values
use Rattle.functions.specs.declared.arguments.Arg.{Arg}
use Rattle.functions.specs.declared.arguments.Arg.TheVariants.{Direct}

-- a text as an argument, and a number
abbrev pub text_argument : List ℕ → Arg
text_argument t = Direct (values.Text t)

abbrev pub number_argument : ℕ → Arg
number_argument n = Direct (values.Num (pos n))

-- a text stands in another at a place: so many characters less one stand in front of it
abbrev pub StandsIn : List ℕ → List ℕ → ℕ → Type 0
StandsIn p t place =
    (front : List ℕ) × (back : List ℕ) × IsUtf8 front
    × (t ≡ front ++ (p ++ back)) × (length (chars front) + 1 ≡ place)

-- the least place, and not under n, at which a text stands in another
abbrev pub IsLeastPlace : List ℕ → List ℕ → ℕ → ℕ → Type 0
IsLeastPlace p t n place =
    (n ≤ place) × StandsIn p t place × ((k : ℕ) → n ≤ k → k < place → ¬ (StandsIn p t k))
