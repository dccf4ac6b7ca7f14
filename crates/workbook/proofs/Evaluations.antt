-- The evaluation of a formula depends on the values of the cells that it names, and on what the names that it calls
-- are registered with, alone.
use Rattle.std.proofs.Common.{◌≡◌, ℕ, ℤ, suc, ◌+◌, ◌-◌, Bool, true, false, cond, List, [], ◌∷◌, ◌++◌, map, flat_map, length, All, Option, Some, None, refl, ap, sym, subst, ◌∙◌, arith}
use mathlib.Core.Path.{fun_ext}
use Rattle.std.specs.List.{AllByRecursion}
use Rattle.std.proofs.lemmas.Grind.{flat_map-append}
use Rattle.std.proofs.lemmas.List.Elements.{All-head, All-tail}
use Rattle.addin_types.specs.declared.registrations.Registration.{Registration}
use Rattle.cell_refs.specs.declared.areas.Area.{Area}
use Rattle.cell_refs.specs.declared.grid.Cell.{Cell}
use Rattle.cell_refs.specs.declared.references.RefText.{RefText}
use Rattle.cell_refs.specs.Area.{area_of, cells_of}
use Rattle.cell_refs.specs.RefText.{cell_at}
use Rattle.cell_refs.proofs.PublicLaws.{from_first, no_next}
use Rattle.cell_values.specs.declared.errors.ErrorKind.{ErrorKind}
use Rattle.cell_values.specs.declared.errors.ErrorKind.TheVariants as errors
use Rattle.cell_values.specs.declared.texts.Text.{Text}
use Rattle.cell_values.specs.declared.values.Value.{Value}
use Rattle.formula_parse.specs.declared.callees.Callee.{Callee}
use Rattle.formula_parse.specs.declared.callees.Callee.TheVariants as callees
use Rattle.formula_parse.specs.declared.nodes.Node.{Node}
use Rattle.formula_parse.specs.declared.nodes.Node.TheVariants as nodes
use Rattle.formula_parse.specs.declared.nodes.Node.TheOpen as layer
use Rattle.formula_parse.specs.declared.operators.Operator.{Operator}
use Rattle.formula_parse.specs.Tree.{areas_named, areas_step, concat, precedents, sites_named}
use Rattle.formula_parse.proofs.PublicLaws.{fold_number, fold_text, fold_error, fold_boolean, fold_reference, fold_area, fold_call, fold_parentheses, fold_negation, fold_chain, node_induction, sites_of_built_in, sites_of_rtd, sites_of_added, sites_of_parentheses, sites_of_negation, sites_of_chain}
use Rattle.functions.specs.Applied.{result_of}
use Rattle.functions.specs.Functions.{arity_of, takes_area, is_within}
use Rattle.functions.specs.declared.arguments.Arg.{Arg}
use Rattle.functions.specs.declared.arguments.Arg.TheVariants as inputs
use Rattle.functions.specs.declared.functions.Function.{Function}
use Rattle.functions.specs.declared.functions.Function.TheVariants as functions
use Rattle.workbook.specs.Evaluation.{World, Answer, Val, Part, Argument, answer_of, part_of, part_step, final_answer, error_answer, with_input, with_inputs, function_answer, added_answer, call_answer, own_site, sites_in, arguments_of}

-- ---- lists
-- what holds of each of two lists together, holds of each of the first
each_front : {X : Type 0} (P : X → Type 0) (xs ys : List X) → AllByRecursion P (xs ++ ys) → AllByRecursion P xs
each_front P [] ys each = tt
each_front P (x ∷ xs) ys each = (each.0, each_front P xs ys each.1)

-- and of each of the second
each_back : {X : Type 0} (P : X → Type 0) (xs ys : List X) → AllByRecursion P (xs ++ ys) → AllByRecursion P ys
each_back P [] ys each = each
each_back P (x ∷ xs) ys each = each_back P xs ys each.1

-- two functions that agree on each of a list give the same list
map_alike : {X Y : Type 0} (f g : X → Y) (xs : List X) → AllByRecursion (λ x. f x ≡ g x) xs → map f xs ≡ map g xs
map_alike f g [] each = refl
map_alike f g (x ∷ xs) each = ap (λ y. y ∷ map f xs) each.0 ∙ ap (λ ys. g x ∷ ys) (map_alike f g xs each.1)

-- ---- the area of one reference
-- an area between equal corners has the cell of its corner alone
one_cell : (area : Area) (row col : ℕ) → area.top ≡ row → area.left ≡ col → area.bottom ≡ row → area.right ≡ col
    → cells_of area ≡ (record { sheet = area.sheet; row = row; col = col }) ∷ []
one_cell area row col top left bottom right =
    from_first area (omega arith)
    ∙ no_next area.sheet area.left area.right area.bottom area.top area.left (omega arith) (omega arith)
    ∙ ap (λ r. (record { sheet = area.sheet; row = r; col = area.left }) ∷ []) top
    ∙ ap (λ c. (record { sheet = area.sheet; row = row; col = c }) ∷ []) left

-- a reference names its cell alone
referred : (r : RefText) (home : ℕ) → cells_of (area_of r r home) ≡ cell_at r home ∷ []
referred r home = one_cell (area_of r r home) r.row r.col (omega arith) (omega arith) (omega arith) (omega arith)

-- ---- two worlds that differ in the values of cells and in what names are registered with
module _ (world : World) (f g : Cell → Value) (r q : List ℕ → Option Registration) where
  -- the first world
  abbrev over_f : World
  over_f = record world { input = f; registered = r }

  -- the second world
  abbrev over_g : World
  over_g = record world { input = g; registered = q }

  -- both give a cell the same value
  abbrev SameValue : Cell → Type 0
  SameValue cell = f cell ≡ g cell

  -- both have a name registered alike
  abbrev SameRegistration : List ℕ → Type 0
  SameRegistration name = r name ≡ q name

  -- both have the name of an added callee registered alike
  abbrev SameCallee : Callee → Type 0
  SameCallee (callees.BuiltIn function) = Unit {0}
  SameCallee callees.Rtd = Unit {0}
  SameCallee (callees.Added name) = SameRegistration name

  -- both give the cells of an area the same values, where there is one
  abbrev SameArea : Option Area → Type 0
  SameArea None = Unit {0}
  SameArea (Some area) = map f (cells_of area) ≡ map g (cells_of area)

  -- ---- functions
  -- an argument as a function takes it
  input_alike : (takes : Bool) (area : Option Area) (value : Answer) (next : Arg → Answer) → SameArea area
      → with_input over_f takes (record { area = area; value = value }) next ≡ with_input over_g takes (record { area = area; value = value }) next
  input_alike true None value next same = refl
  input_alike true (Some area) value next same = ap (λ vs. next (inputs.Cells (area.right + 1 - area.left) vs)) same
  input_alike false area value next same = refl

  -- all arguments as a function takes them
  inputs_alike : (function : Function) (place : ℕ) (arguments : List Argument) (next : List Arg → Answer) → AllByRecursion (λ (a : Argument). SameArea a.area) arguments
      → with_inputs over_f function place arguments next ≡ with_inputs over_g function place arguments next
  inputs_alike function place [] next same = refl
  inputs_alike function place (a ∷ arguments) next same =
      input_alike (takes_area function place) a.area a.value (λ first. with_inputs over_f function (suc place) arguments (λ others. next (first ∷ others))) same.0
      ∙ ap (with_input over_g (takes_area function place) a) (fun_ext (λ first. inputs_alike function (suc place) arguments (λ others. next (first ∷ others)) same.1))

  -- a built-in function
  function_alike : (function : Function) (arguments : List Argument) → AllByRecursion (λ (a : Argument). SameArea a.area) arguments
      → function_answer over_f function arguments ≡ function_answer over_g function arguments
  function_alike functions.If arguments same = refl
  function_alike functions.IfError arguments same = refl
  function_alike functions.IfNa arguments same = refl
  function_alike functions.Choose arguments same = refl
  function_alike other arguments same = inputs_alike other 0 arguments (λ args. Val (result_of other args)) same

  -- an added name
  added_alike : (registration : Option Registration) (site : ℕ) (name : List ℕ) (arguments : List Argument)
      → added_answer over_f registration site name arguments ≡ added_answer over_g registration site name arguments
  added_alike None site name arguments = refl
  added_alike (Some registration) site name arguments = refl

  -- a call
  call_alike : (callee : Callee) (site : ℕ) (arguments : List Argument) → SameCallee callee → AllByRecursion (λ (a : Argument). SameArea a.area) arguments
      → call_answer over_f callee site arguments ≡ call_answer over_g callee site arguments
  call_alike (callees.BuiltIn function) site arguments own same =
      ap (λ answer. cond (is_within (arity_of function) (length arguments)) answer (error_answer errors.Value)) (function_alike function arguments same)
  call_alike callees.Rtd site arguments own same = refl
  call_alike (callees.Added name) site arguments own same =
      added_alike (r name) site name arguments ∙ ap (λ registration. added_answer over_g registration site name arguments) own

  -- what the names that a call names are registered with: its own, and those of its arguments
  call_registered : (callee : Callee) (arguments : List Node) → AllByRecursion SameRegistration (sites_named (nodes.Call callee arguments))
      → SameCallee callee × AllByRecursion SameRegistration (concat (map sites_named arguments))
  call_registered (callees.BuiltIn function) arguments each = (tt, subst (AllByRecursion SameRegistration) (sites_of_built_in function arguments) each)
  call_registered callees.Rtd arguments each = (tt, subst (AllByRecursion SameRegistration) (sites_of_rtd arguments) each)
  call_registered (callees.Added name) arguments each = subst (AllByRecursion SameRegistration) (sites_of_added name arguments) each

  -- ---- parts
  -- one part in both worlds, which refers to an area of the same values if to any
  record Alike (part other : Part) : Type 0 where
    same : part ≡ other
    area : SameArea part.area

  -- many such parts
  record AllAlike (parts others : List Part) : Type 0 where
    same : parts ≡ others
    areas : AllByRecursion (λ (part : Part). SameArea part.area) parts

  -- in both worlds a node is such a part, where the cells that it names have the same values, and the names that it
  -- calls are registered alike
  abbrev DependsOnNamed : Node → Type 0
  DependsOnNamed node =
      AllByRecursion SameValue (precedents node world.home) → AllByRecursion SameRegistration (sites_named node) → Alike (part_of over_f node) (part_of over_g node)

  -- the areas of arguments are those of their parts
  placed_areas : (before : ℕ) (parts : List Part) → AllByRecursion (λ (part : Part). SameArea part.area) parts → AllByRecursion (λ (a : Argument). SameArea a.area) (arguments_of before parts)
  placed_areas before [] same = tt
  placed_areas before (part ∷ parts) same = (same.0, placed_areas (before + part.sites) parts same.1)

  -- the parts of several nodes
  parts_alike : (ns : List Node) → All DependsOnNamed ns → AllByRecursion SameValue (flat_map cells_of (concat (map (λ n. areas_named n world.home) ns)))
      → AllByRecursion SameRegistration (concat (map sites_named ns))
      → AllAlike (map (part_of over_f) ns) (map (part_of over_g) ns)
  parts_alike [] h each names = record { same = refl; areas = tt }
  parts_alike (n ∷ ns) h each names =
      let both = subst (AllByRecursion SameValue) (flat_map-append cells_of (areas_named n world.home) (concat (map (λ m. areas_named m world.home) ns))) each in
      let first = All-head DependsOnNamed n ns h (each_front SameValue (precedents n world.home) (flat_map cells_of (concat (map (λ m. areas_named m world.home) ns))) both) (each_front SameRegistration (sites_named n) (concat (map sites_named ns)) names) in
      let others = parts_alike ns (All-tail DependsOnNamed n ns h) (each_back SameValue (precedents n world.home) (flat_map cells_of (concat (map (λ m. areas_named m world.home) ns))) both) (each_back SameRegistration (sites_named n) (concat (map sites_named ns)) names) in
      record {
        same = ap (λ part. part ∷ map (part_of over_f) ns) first.same ∙ ap (λ parts. part_of over_g n ∷ parts) others.same;
        areas = (first.area, others.areas);
      }

  -- parts that are equal to such parts
  alike_as : (part other step step_other : Part) → part ≡ step → other ≡ step_other → Alike step step_other → Alike part other
  alike_as part other step step_other e e_other alike = record {
    same = e ∙ alike.same ∙ sym e_other;
    area = subst (λ (p : Part). SameArea p.area) (sym e) alike.area;
  }

  -- the cells that a node names, where its areas are known
  names_known : (node : Node) (areas : List Area) → areas_named node world.home ≡ areas → AllByRecursion SameValue (precedents node world.home) → AllByRecursion SameValue (flat_map cells_of areas)
  names_known node areas e each = subst (λ list. AllByRecursion SameValue (flat_map cells_of list)) e each

  -- a call over its parts
  step_call : (callee : Callee) (parts others : List Part) → SameCallee callee → AllAlike parts others → Alike (part_step over_f (layer.Call callee parts)) (part_step over_g (layer.Call callee others))
  step_call callee parts others own alike = record {
    same =
        ap (λ (value : ℕ → Answer). record { sites = own_site callee + sites_in parts; area = None; value = value })
        (fun_ext (λ before. ap final_answer (call_alike callee (suc before) (arguments_of (before + own_site callee) parts) own (placed_areas (before + own_site callee) parts alike.areas))))
        ∙ ap (λ list. part_step over_g (layer.Call callee list)) alike.same;
    area = tt;
  }

  -- a reference
  step_reference : (ref : RefText) → AllByRecursion SameValue (flat_map cells_of (area_of ref ref world.home ∷ [])) → Alike (part_step over_f (layer.Reference ref)) (part_step over_g (layer.Reference ref))
  step_reference ref each =
      let cell = subst (λ cells. AllByRecursion SameValue (cells ++ [])) (referred ref world.home) each in
      record {
        same = ap (λ v. record { sites = 0; area = Some (area_of ref ref world.home); value = λ (before : ℕ). Val v }) cell.0;
        area = map_alike f g (cells_of (area_of ref ref world.home)) (each_front SameValue (cells_of (area_of ref ref world.home)) [] each);
      }

  -- a number
  depends_number : (n : ℤ) → DependsOnNamed (nodes.Number n)
  depends_number n each names = alike_as _ _ _ _ (fold_number Part (part_step over_f) n) (fold_number Part (part_step over_g) n) (record { same = refl; area = tt })

  -- a text
  depends_text : (t : Text) → DependsOnNamed (nodes.Text t)
  depends_text t each names = alike_as _ _ _ _ (fold_text Part (part_step over_f) t) (fold_text Part (part_step over_g) t) (record { same = refl; area = tt })

  -- an error
  depends_error : (e : ErrorKind) → DependsOnNamed (nodes.Error e)
  depends_error e each names = alike_as _ _ _ _ (fold_error Part (part_step over_f) e) (fold_error Part (part_step over_g) e) (record { same = refl; area = tt })

  -- a Boolean
  depends_boolean : (b : Bool) → DependsOnNamed (nodes.Boolean b)
  depends_boolean b each names = alike_as _ _ _ _ (fold_boolean Part (part_step over_f) b) (fold_boolean Part (part_step over_g) b) (record { same = refl; area = tt })

  -- a reference
  depends_reference : (ref : RefText) → DependsOnNamed (nodes.Reference ref)
  depends_reference ref each names =
      alike_as _ _ _ _ (fold_reference Part (part_step over_f) ref) (fold_reference Part (part_step over_g) ref)
      (step_reference ref (names_known (nodes.Reference ref) (area_of ref ref world.home ∷ []) (fold_reference (List Area) (areas_step world.home) ref) each))

  -- an area
  depends_area : (a b : RefText) → DependsOnNamed (nodes.Area a b)
  depends_area a b each names =
      let named = names_known (nodes.Area a b) (area_of a b world.home ∷ []) (fold_area (List Area) (areas_step world.home) a b) each in
      alike_as _ _ _ _ (fold_area Part (part_step over_f) a b) (fold_area Part (part_step over_g) a b)
      (record { same = refl; area = map_alike f g (cells_of (area_of a b world.home)) (each_front SameValue (cells_of (area_of a b world.home)) [] named) })

  -- a call
  depends_call : (callee : Callee) (arguments : List Node) → All DependsOnNamed arguments → DependsOnNamed (nodes.Call callee arguments)
  depends_call callee arguments h each names =
      let registered = call_registered callee arguments names in
      alike_as _ _ _ _ (fold_call Part (part_step over_f) callee arguments) (fold_call Part (part_step over_g) callee arguments)
      (step_call callee (map (part_of over_f) arguments) (map (part_of over_g) arguments) registered.0
      (parts_alike arguments h (names_known (nodes.Call callee arguments) (concat (map (λ n. areas_named n world.home) arguments)) (fold_call (List Area) (areas_step world.home) callee arguments) each) registered.1))

  -- what stands in parentheses
  depends_parentheses : (inner : Node) → DependsOnNamed inner → DependsOnNamed (nodes.Parentheses inner)
  depends_parentheses inner h each names =
      let alike = h (names_known (nodes.Parentheses inner) (areas_named inner world.home) (fold_parentheses (List Area) (areas_step world.home) inner) each) (subst (AllByRecursion SameRegistration) (sites_of_parentheses inner) names) in
      alike_as _ _ _ _ (fold_parentheses Part (part_step over_f) inner) (fold_parentheses Part (part_step over_g) inner)
      (record { same = ap (λ part. part_step over_g (layer.Parentheses part)) alike.same; area = tt })

  -- an operand behind signs
  depends_negation : (count : ℕ) (operand : Node) → DependsOnNamed operand → DependsOnNamed (nodes.Negation count operand)
  depends_negation count operand h each names =
      let alike = h (names_known (nodes.Negation count operand) (areas_named operand world.home) (fold_negation (List Area) (areas_step world.home) count operand) each) (subst (AllByRecursion SameRegistration) (sites_of_negation count operand) names) in
      alike_as _ _ _ _ (fold_negation Part (part_step over_f) count operand) (fold_negation Part (part_step over_g) count operand)
      (record { same = ap (λ part. part_step over_g (layer.Negation count part)) alike.same; area = tt })

  -- a chain
  depends_chain : (operands : List Node) (ops : List Operator) → All DependsOnNamed operands → DependsOnNamed (nodes.Chain operands ops)
  depends_chain operands ops h each names =
      let alike = parts_alike operands h (names_known (nodes.Chain operands ops) (concat (map (λ n. areas_named n world.home) operands)) (fold_chain (List Area) (areas_step world.home) operands ops) each) (subst (AllByRecursion SameRegistration) (sites_of_chain operands ops) names) in
      alike_as _ _ _ _ (fold_chain Part (part_step over_f) operands ops) (fold_chain Part (part_step over_g) operands ops)
      (record { same = ap (λ parts. part_step over_g (layer.Chain parts ops)) alike.same; area = tt })

  -- each tree
  depends_on_named : (tree : Node) → DependsOnNamed tree
  depends_on_named = node_induction DependsOnNamed
      depends_number depends_text depends_error depends_boolean depends_reference depends_area
      depends_call depends_parentheses depends_negation depends_chain

-- the answer of a formula is the same over the same values of the cells that it names, where the names that it calls
-- are registered alike
pub answered_alike : (world : World) (f g : Cell → Value) (r q : List ℕ → Option Registration) (tree : Node)
    → AllByRecursion (λ d. f d ≡ g d) (precedents tree world.home) → AllByRecursion (λ name. r name ≡ q name) (sites_named tree)
    → answer_of (record world { input = f; registered = r }) tree ≡ answer_of (record world { input = g; registered = q }) tree
answered_alike world f g r q tree each names = ap (λ (part : Part). final_answer (part.value 0)) (depends_on_named world f g r q tree each names).same

-- what holds of all holds of each of a list
each_same : (r : List ℕ → Option Registration) (names : List (List ℕ)) → AllByRecursion (λ name. r name ≡ r name) names
each_same r [] = tt
each_same r (name ∷ names) = (refl, each_same r names)

-- the answer of a formula is the same over the same values of the cells that it names
pub evaluated_alike : (world : World) (f g : Cell → Value) (tree : Node) → AllByRecursion (λ d. f d ≡ g d) (precedents tree world.home)
    → answer_of (record world { input = f }) tree ≡ answer_of (record world { input = g }) tree
evaluated_alike world f g tree each = answered_alike world f g world.registered world.registered tree each (each_same world.registered (sites_named tree))
