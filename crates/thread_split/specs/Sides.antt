-- On which thread a formula is to be evaluated.
use Rattle.std.specs.Prelude.{ℕ, Bool, true, false, not, if◌then◌else◌, List, Option}
use Rattle.std.specs.List.{list_any}
use Rattle.std.specs.Option.{option_map_or}
use Rattle.addin_types.specs.declared.registrations.Registration.{Registration}
use Rattle.formula_parse.specs.Tree.{calls_of}
use Rattle.formula_parse.specs.declared.callees.Callee.{Callee}
use Rattle.formula_parse.specs.declared.callees.Callee.TheVariants as callees
use Rattle.formula_parse.specs.declared.nodes.Node.{Node}
use Rattle.thread_split.specs.declared.sides.Side.{Side}
use Rattle.thread_split.specs.declared.sides.Side.TheVariants as sides
use Rattle.workbook.specs.Registry.{registration_of}

-- whether what is called runs on the main thread alone: RTD, and a registered function that isn't thread safe
abbrev pub is_bound : (List ℕ → Option Registration) → Callee → Bool
is_bound registered (callees.BuiltIn f) = false
is_bound registered callees.Rtd = true
is_bound registered (callees.Added name) = option_map_or (λ (r : Registration). not r.thread_safe) (registered name) false

-- where a formula is evaluated, with these registrations: on the main thread where some call in it is bound to that
abbrev pub side_of : List (List ℕ × Registration) → Node → Side
side_of functions tree = if list_any (is_bound (registration_of functions)) (calls_of tree) then sides.Main else sides.Any
