use Rattle.std.proofs.Common.{rules, ◌≡◌, ◌<◌, ◌≤◌, ◌+◌, ◌++◌, ◌∙◌, ℕ, length, ap, sym, subst}
use Rattle.area_index.specs.declared.nodes.TheConstants.{NONE}
use Rattle.area_index.specs.Shapes.{depth_of}
use Rattle.area_index.specs.Standing.{number_of}
use Rattle.area_index.specs.Forests.{forest_of, tree_in}
use Rattle.area_index.specs.Walk.{found, visits}
use Rattle.area_index.proofs.Kept.{depth-in, root-in, standing-in, tree-past, tree_in-is}
use Rattle.area_index.proofs.TreeLists.{any_default, shape_at}
use Rattle.area_index.proofs.indexes.find_in.Goals as goal

pub returns-in_err-visit-clause-steps : goal.returns-in_err-visit-clause-steps
returns-in_err-visit-clause-steps g c kept =
    let old = forest_of c.args.store.now in
    let sheet : ℕ = c.from-sheet.result in
    let at_sheet : sheet ≡ c.args.cell.sheet = c.from-sheet.ensures in
    let t = shape_at kept.shapes sheet in
    let within : sheet < length old.trees = search rules in
    let root : c.index.result.now ≡ number_of t = c.index.ensures ∙ any_default old.trees sheet c.index.result.now NONE within ∙ root-in old kept sheet in
    let deep : depth_of t ≤ c.count-levels.result = subst (λ n. depth_of t ≤ n) (sym c.count-levels.ensures) (depth-in old kept sheet) in
    let is : t ≡ tree_in old c.args.cell.sheet = sym (tree_in-is old kept sheet) ∙ ap (tree_in old) at_sheet in
    subst (λ z. c.visit.new.steps ≤ c.args.steps.now + visits z c.args.cell.row) is (c.visit.ensures.steps t deep root (standing-in old kept sheet))

pub returns-clause-steps : goal.returns-clause-steps
returns-clause-steps g c kept =
    let old = forest_of c.args.store.now in
    let sheet : ℕ = c.from-sheet.result in
    let at_sheet : sheet ≡ c.args.cell.sheet = c.from-sheet.ensures in
    let t = shape_at kept.shapes sheet in
    let within : sheet < length old.trees = search rules in
    let root : c.index.result.now ≡ number_of t = c.index.ensures ∙ any_default old.trees sheet c.index.result.now NONE within ∙ root-in old kept sheet in
    let deep : depth_of t ≤ c.count-levels.result = subst (λ n. depth_of t ≤ n) (sym c.count-levels.ensures) (depth-in old kept sheet) in
    let is : t ≡ tree_in old c.args.cell.sheet = sym (tree_in-is old kept sheet) ∙ ap (tree_in old) at_sheet in
    subst (λ z. c.visit.new.steps ≤ c.args.steps.now + visits z c.args.cell.row) is (c.visit.ensures.steps t deep root (standing-in old kept sheet))

pub returns-clause-found : goal.returns-clause-found
returns-clause-found g c kept =
    let old = forest_of c.args.store.now in
    let sheet : ℕ = c.from-sheet.result in
    let at_sheet : sheet ≡ c.args.cell.sheet = c.from-sheet.ensures in
    let t = shape_at kept.shapes sheet in
    let within : sheet < length old.trees = search rules in
    let root : c.index.result.now ≡ number_of t = c.index.ensures ∙ any_default old.trees sheet c.index.result.now NONE within ∙ root-in old kept sheet in
    let deep : depth_of t ≤ c.count-levels.result = subst (λ n. depth_of t ≤ n) (sym c.count-levels.ensures) (depth-in old kept sheet) in
    let is : t ≡ tree_in old c.args.cell.sheet = sym (tree_in-is old kept sheet) ∙ ap (tree_in old) at_sheet in
    c.in_ok-visit.ensures.found t deep root kept.parts.few (standing-in old kept sheet) ∙ ap (λ xs. xs ++ found t c.args.cell) c.new-readers.ensures.items ∙ ap (λ z. found z c.args.cell) is

pub returns-then-len-sheet-clause-found : goal.returns-then-len-sheet-clause-found
returns-then-len-sheet-clause-found g c kept =
    let old = forest_of c.args.store.now in
    let past : length old.trees ≤ c.args.cell.sheet = search rules in
    c.new-readers.ensures.items ∙ sym (ap (λ z. found z c.args.cell) (tree-past old kept c.args.cell.sheet past))
