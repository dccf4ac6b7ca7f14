-- For the crate's own functions: what becomes of calls of added functions.
use Rattle.std.specs.Prelude.{ℕ, ◌==◌, if◌then◌else◌, Option, Some, None, Result, Ok, Err}
use Rattle.addin_types.specs.declared.registrations.Kind.{Kind}
use Rattle.addin_types.specs.declared.registrations.Registration.{Registration}
use Rattle.cell_values.specs.declared.errors.ErrorKind.{ErrorKind}
use Rattle.cell_values.specs.declared.errors.ErrorKind.TheVariants as errors

-- the kind of a function that takes so many arguments, by what its name was registered with, or what is wrong with the call
abbrev pub kind_called : Option Registration → ℕ → Result Kind ErrorKind
kind_called None count = Err errors.Name
kind_called (Some registration) count = if count == registration.arguments then Ok registration.kind else Err errors.Value
