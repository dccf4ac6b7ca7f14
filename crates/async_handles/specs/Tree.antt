-- For the crate's own functions: trees of open calls, and calls that are split at a cell.
use Rattle.std.specs.Prelude.{◌≡◌, Bool, true, not, List, [], ◌∷◌, ◌++◌, Option, IfSome}
use Rattle.std.specs.List.{list_any, AllByRecursion}
use Rattle.std.specs.Option.{option_to_list}
use Rattle.std.specs.declared.cmp.Ordering.TheVariants.{Greater}
use Rattle.cell_refs.specs.declared.grid.Cell.{Cell}
use Rattle.cell_refs.specs.Cell.{cell_cmp, same_cell}
use Rattle.async_handles.specs.OpenCalls.{AreBehind, cell_of}
use Rattle.async_handles.specs.declared.open_calls.OpenCall.{OpenCall}
use Rattle.async_handles.specs.declared.tree.Node.{Node}
use Rattle.async_handles.specs.declared.tree.Node.TheVariants.{Leaf, Fork}

-- whether a call wasn't served
abbrev pub any_unserved : List OpenCall → Bool
any_unserved calls = list_any (λ entry. not entry.is_served) calls

-- the calls of a node, in order
abbrev pub calls_of : Node → List OpenCall
calls_of Leaf = []
calls_of (Fork entry waits sides) = sides.value.0 ++ entry ∷ sides.value.1

-- the node's mark says whether a call of it wasn't served
abbrev pub HasRightMark : Node → Type 0
HasRightMark Leaf = Unit {0}
HasRightMark (Fork entry waits sides) = waits ≡ any_unserved (sides.value.0 ++ entry ∷ sides.value.1)

-- each of these calls is of a cell before this one
abbrev pub AreBefore : Cell → List OpenCall → Type 0
AreBefore cell calls = AllByRecursion (λ entry. cell_cmp cell (cell_of entry) ≡ Greater) calls

-- calls that are split at a cell: those before it, that of it, and those behind it
pub record IsSplitAt (cell : Cell) (calls less : List OpenCall) (found : Option OpenCall) (greater : List OpenCall) : Type 0 where
  pub all : calls ≡ less ++ (option_to_list found ++ greater)
  pub before : AreBefore cell less
  pub at : IfSome found (λ entry. same_cell cell (cell_of entry) ≡ true)
  pub behind : AreBehind cell greater
