-- What a tree names and calls, from left to right.
use Rattle.std.specs.Prelude.{ℕ, Bool, List, [], ◌∷◌, length}
use Rattle.std.specs.List.{filter_map, flat_map, list_any}
use Rattle.cell_refs.specs.declared.areas.Area.{Area}
use Rattle.cell_refs.specs.declared.grid.Cell.{Cell}
use Rattle.cell_refs.specs.Area.{area_of, cells_of}
use Rattle.formula_parse.specs.Callees.{added_name, is_rtd}
use Rattle.formula_parse.specs.declared.callees.Callee.{Callee}
use Rattle.formula_parse.specs.declared.nodes.Node.{Node}
use Rattle.formula_parse.specs.declared.nodes.Node.TheFolds.{fold-Node}
use Rattle.formula_parse.specs.declared.nodes.Node.TheOpen.{Node-F}
use Rattle.formula_parse.specs.declared.nodes.Node.TheOpen as layer
use Rattle.formula_parse.specs.Faults.{IsFormula}

-- a tree is what some formula writes
abbrev pub IsTree : Node → Type 0
IsTree tree = (text : List ℕ) × IsFormula text tree

-- lists one behind the other
abbrev pub concat : {A : Type 0} → List (List A) → List A
concat lists = flat_map (λ xs. xs) lists

-- the areas of one part of a tree, over those of its parts
abbrev pub areas_step : ℕ → Node-F (List Area) → List Area
areas_step home (layer.Number n) = []
areas_step home (layer.Text t) = []
areas_step home (layer.Error e) = []
areas_step home (layer.Boolean b) = []
areas_step home (layer.Reference r) = area_of r r home ∷ []
areas_step home (layer.Area a b) = area_of a b home ∷ []
areas_step home (layer.Call name arguments) = concat arguments
areas_step home (layer.Parentheses inner) = inner
areas_step home (layer.Negation count operand) = operand
areas_step home (layer.Chain operands operators) = concat operands

-- the areas that a formula on the sheet home names: one for each written reference or area, from left to right
abbrev pub areas_named : Node → ℕ → List Area
areas_named tree home = fold-Node (List Area) (areas_step home) tree

-- the cells that a formula on the sheet home names
abbrev pub precedents : Node → ℕ → List Cell
precedents tree home = flat_map cells_of (areas_named tree home)

-- the callees of one part of a tree, over those of its parts
abbrev pub calls_step : Node-F (List Callee) → List Callee
calls_step (layer.Number n) = []
calls_step (layer.Text t) = []
calls_step (layer.Error e) = []
calls_step (layer.Boolean b) = []
calls_step (layer.Reference r) = []
calls_step (layer.Area a b) = []
calls_step (layer.Call callee arguments) = callee ∷ concat arguments
calls_step (layer.Parentheses inner) = inner
calls_step (layer.Negation count operand) = operand
calls_step (layer.Chain operands operators) = concat operands

-- the callees of a tree, one for each call, by the place of the name in the text
abbrev pub calls_of : Node → List Callee
calls_of = fold-Node (List Callee) calls_step

-- the names of added functions that a tree calls, one for each call of them
abbrev pub sites_named : Node → List (List ℕ)
sites_named tree = filter_map added_name (calls_of tree)

-- how many such calls there are
abbrev pub site_count : Node → ℕ
site_count tree = length (sites_named tree)

-- whether a tree calls RTD
abbrev pub has_rtd_call : Node → Bool
has_rtd_call tree = list_any is_rtd (calls_of tree)
