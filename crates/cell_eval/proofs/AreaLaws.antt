-- The areas that parts refer to.
use Rattle.std.proofs.Common.{◌≡◌, ◌≢◌, ℕ, ◌+◌, ◌-◌, ◌%◌, ◌≤◌, ◌<◌, List, [], All, Some, None, refl, ap, ◌∙◌, subst, arith}
use Rattle.std.proofs.Math.Nat.{mul-mod_left, mul-lt-mul_of_pos_right}
use Rattle.std.proofs.lemmas.List.Elements.{All-head}
use Rattle.cell_refs.specs.declared.areas.Area.{Area}
use Rattle.cell_refs.specs.declared.references.RefText.{RefText}
use Rattle.cell_refs.specs.Area.{area_of, size_of}
use Rattle.cell_eval.specs.Steps.{NamesSmallAreas, area_at}
use Rattle.formula_parse.proofs.PublicLaws.{fold_number, fold_text, fold_error, fold_boolean, fold_reference, fold_area, fold_call, fold_parentheses, fold_negation, fold_chain, node_induction}
use Rattle.formula_parse.specs.declared.nodes.Node.{Node}
use Rattle.formula_parse.specs.declared.nodes.Node.TheVariants as nodes
use Rattle.formula_parse.specs.Tree.{areas_named, areas_step}
use Rattle.workbook.specs.Evaluation.{World, Part, part_of, part_step}

-- a reference refers to its cell
pub area_reference : (world : World) (home : ℕ) (r : RefText) (node : Node) → world.home ≡ home → node ≡ nodes.Reference r → area_at world node ≡ Some (area_of r r home)
unfolding area_at
area_reference world home r node e is =
    ap (λ n. (part_of world n).area) is ∙ ap (λ (part : Part). part.area) (fold_reference Part (part_step world) r) ∙ ap (λ h. Some (area_of r r h)) e

-- an area to its cells
pub area_corners : (world : World) (home : ℕ) (a b : RefText) (node : Node) → world.home ≡ home → node ≡ nodes.Area a b → area_at world node ≡ Some (area_of a b home)
unfolding area_at
area_corners world home a b node e is =
    ap (λ n. (part_of world n).area) is ∙ ap (λ (part : Part). part.area) (fold_area Part (part_step world) a b) ∙ ap (λ h. Some (area_of a b h)) e

-- no other part refers to an area
abbrev ReferOrNot : World → Node → Type 0
ReferOrNot world node = ((r : RefText) → node ≢ nodes.Reference r) → ((a b : RefText) → node ≢ nodes.Area a b) → area_at world node ≡ None

pub area_none : (world : World) (node : Node) → ReferOrNot world node
unfolding area_at
area_none world = node_induction (ReferOrNot world)
    (λ n p q. ap (λ (part : Part). part.area) (fold_number Part (part_step world) n))
    (λ t p q. ap (λ (part : Part). part.area) (fold_text Part (part_step world) t))
    (λ e p q. ap (λ (part : Part). part.area) (fold_error Part (part_step world) e))
    (λ b p q. ap (λ (part : Part). part.area) (fold_boolean Part (part_step world) b))
    (λ r p q. absurd (p r refl))
    (λ a b p q. absurd (q a b refl))
    (λ name arguments h p q. ap (λ (part : Part). part.area) (fold_call Part (part_step world) name arguments))
    (λ inner h p q. ap (λ (part : Part). part.area) (fold_parentheses Part (part_step world) inner))
    (λ count operand h p q. ap (λ (part : Part). part.area) (fold_negation Part (part_step world) count operand))
    (λ operands ops h p q. ap (λ (part : Part). part.area) (fold_chain Part (part_step world) operands ops))

-- an area that is named alone is small
pub corners_small : (home : ℕ) (a b : RefText) (node : Node) → node ≡ nodes.Area a b → NamesSmallAreas home node → size_of (area_of a b home) ≤ 65536
unfolding NamesSmallAreas
corners_small home a b node is h =
    All-head (λ area. size_of area ≤ 65536) (area_of a b home) []
    (subst (All (λ area. size_of area ≤ 65536)) (ap (λ n. areas_named n home) is ∙ fold_area (List Area) (areas_step home) a b) h)

-- the values of an area stand in whole rows
pub whole_rows : (area : Area) (count : ℕ) → count ≡ size_of area → size_of area ≤ 65536 → area.top ≤ area.bottom → area.left ≤ area.right
    → (0 < area.right + 1 - area.left) × (0 < count) × (count ≤ 65536) × (count % (area.right + 1 - area.left) ≡ 0)
whole_rows area count e small rows columns =
    let wide : 0 < area.right + 1 - area.left = omega arith in
    let high : 0 < area.bottom + 1 - area.top = omega arith in
    let some : 0 < size_of area = omega (arith, mul-lt-mul_of_pos_right high wide) in
    (wide, omega arith, omega arith, ap (λ n. n % (area.right + 1 - area.left)) e ∙ mul-mod_left (area.bottom + 1 - area.top) (area.right + 1 - area.left))
