use Rattle.std.proofs.Common.{rules, ◌≡◌, ◌∷◌, ◌++◌, ◌∙◌, ◌<◌, ◌≤◌, ℕ, length, ap, sym, subst, refl, arith}
use Rattle.std.specs.Prelude.{slice_set}
use Rattle.area_index.specs.declared.nodes.TheConstants.{NONE}
use Rattle.area_index.specs.Shapes.{depth_of, empty, removed}
use Rattle.area_index.specs.Standing.{AreParts, number_of, rooted, row_of, taken_out}
use Rattle.area_index.specs.Forests.{Forest, ChangesAt, forest_of, rooted_all, tree_in}
use Rattle.area_index.proofs.Kept.{changed, depth-in, entry_with, free_in-is, many-in, picked, root-in, tree-past, tree_in-is}
use Rattle.area_index.proofs.TreeLists.{any_default, shape_at}
use Rattle.area_index.proofs.Orders.{to_ba, to_cba}
use Rattle.area_index.proofs.stores.remove_from.Goals as goal

pub returns-in-Some : goal.returns-in-Some
returns-in-Some c kept =
    let old = forest_of c.args.store.now in
    let sheet : ℕ = c.from-sheet.result in
    let at_sheet : sheet ≡ c.args.pair.area.sheet = c.from-sheet.ensures in
    let t = shape_at kept.shapes sheet in
    let many = many-in old kept in
    let within : sheet < length old.trees = search rules in
    let free = free_in-is old kept in
    let root : c.index.result.now ≡ number_of t = c.index.ensures ∙ any_default old.trees sheet c.index.result.now NONE within ∙ root-in old kept sheet in
    let p1 = picked old.nodes (rooted old.free (row_of kept.frees)) kept.shapes sheet c.index.result.now (subst (λ n. sheet < n) many within) root kept.parts in
    let deep : depth_of t ≤ c.count-levels.result = subst (λ n. depth_of t ≤ n) (sym c.count-levels.ensures) (depth-in old kept sheet) in
    let p2 = c.remove-removed.ensures.turns t deep _ p1 in
    let made = ap (λ z. removed z c.args.pair) (sym (tree_in-is old kept sheet)) in
    let p3 = subst (λ taken. AreParts c.remove-removed.new.nodes.items.items (rooted c.remove-removed.result.root (removed t c.args.pair) ∷ (taken_out taken ++ rooted old.free (row_of kept.frees) ∷ rooted_all (slice_set kept.shapes sheet empty)))) c.in-Some.is p2 in
    let p4 = c.give_back.ensures.parts kept.frees _ (to_cba p3) in
    let new : Forest = record { nodes = c.give_back.new.nodes.items.items; free = c.give_back.new.free; trees = slice_set c.args.store.now.trees.items sheet c.remove-removed.result.root; links = 0 } in
    let ch = changed old new kept sheet c.remove-removed.result.root (removed t c.args.pair) (entry_with c.in-Some.at c.args.pair ∷ kept.frees) (c.give_back.ensures.count ∙ c.remove-removed.ensures.count) within refl (to_ba p4) in
    let more = ch.1 in
    (subst (λ s. ChangesAt old new s (removed (tree_in old s) c.args.pair)) at_sheet (subst (λ z. ChangesAt old new sheet z) made ch.0), omega arith)

pub returns-in_default : goal.returns-in_default
returns-in_default c kept =
    let old = forest_of c.args.store.now in
    let sheet : ℕ = c.from-sheet.result in
    let at_sheet : sheet ≡ c.args.pair.area.sheet = c.from-sheet.ensures in
    let t = shape_at kept.shapes sheet in
    let many = many-in old kept in
    let within : sheet < length old.trees = search rules in
    let free = free_in-is old kept in
    let root : c.index.result.now ≡ number_of t = c.index.ensures ∙ any_default old.trees sheet c.index.result.now NONE within ∙ root-in old kept sheet in
    let p1 = picked old.nodes (rooted old.free (row_of kept.frees)) kept.shapes sheet c.index.result.now (subst (λ n. sheet < n) many within) root kept.parts in
    let deep : depth_of t ≤ c.count-levels.result = subst (λ n. depth_of t ≤ n) (sym c.count-levels.ensures) (depth-in old kept sheet) in
    let p2 = c.remove-removed.ensures.turns t deep _ p1 in
    let made = ap (λ z. removed z c.args.pair) (sym (tree_in-is old kept sheet)) in
    let p3 = subst (λ taken. AreParts c.remove-removed.new.nodes.items.items (rooted c.remove-removed.result.root (removed t c.args.pair) ∷ (taken_out taken ++ rooted old.free (row_of kept.frees) ∷ rooted_all (slice_set kept.shapes sheet empty)))) c.in_default.is p2 in
    let new : Forest = record { nodes = c.remove-removed.new.nodes.items.items; free = c.args.store.now.free; trees = slice_set c.args.store.now.trees.items sheet c.remove-removed.result.root; links = 0 } in
    let ch = changed old new kept sheet c.remove-removed.result.root (removed t c.args.pair) kept.frees c.remove-removed.ensures.count within refl p3 in
    let more = ch.1 in
    (subst (λ s. ChangesAt old new s (removed (tree_in old s) c.args.pair)) at_sheet (subst (λ z. ChangesAt old new sheet z) made ch.0), omega arith)

pub returns-else-sheet-len : goal.returns-else-sheet-len
returns-else-sheet-len c kept =
    let old = forest_of c.args.store.now in
    let past : length old.trees ≤ c.args.pair.area.sheet = search rules in
    let none = tree-past old kept c.args.pair.area.sheet past in
    let same : ChangesAt old old c.args.pair.area.sheet (removed (tree_in old c.args.pair.area.sheet) c.args.pair) = record {
      kept = kept;
      here = none ∙ sym (ap (λ z. removed z c.args.pair) none);
      others = λ other apart. refl;
      as_many = refl;
      as_large = refl;
    } in
    (same, omega arith)
