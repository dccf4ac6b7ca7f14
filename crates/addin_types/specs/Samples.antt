-- What the sample add-in functions answer.
use Rattle.std.specs.Prelude.{ℕ, pos, if◌then◌else◌, List, [], ◌∷◌, codes}
use Rattle.std.specs.Str.{bytes_eq}
use Rattle.cell_values.specs.declared.errors.ErrorKind.TheVariants as errors
use Rattle.cell_values.specs.declared.values.Value.{Value}
use Rattle.cell_values.specs.declared.values.Value.TheVariants as values
use Rattle.cell_values.specs.Value.{mul_of}

-- DOUBLE: its one argument times 2
abbrev pub double_of : List Value → Value
double_of [] = values.Error errors.Value
double_of (v ∷ []) = mul_of v (values.Num (pos 2))
double_of (v ∷ w ∷ vs) = values.Error errors.Value

-- ECHO: its one argument
abbrev pub echo_of : List Value → Value
echo_of [] = values.Error errors.Value
echo_of (v ∷ []) = v
echo_of (v ∷ w ∷ vs) = values.Error errors.Value

-- the answer to a name and arguments
abbrev pub sample_answer : List ℕ → List Value → Value
sample_answer name args =
    if bytes_eq name (codes "DOUBLE") then double_of args
    else (if bytes_eq name (codes "ECHO") then echo_of args else values.Error errors.Name)
