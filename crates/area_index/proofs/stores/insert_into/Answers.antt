use Rattle.std.proofs.Common.{rules, ◌≡◌, ◌∷◌, ◌++◌, ◌∙◌, ◌<◌, ◌≤◌, ℕ, length, ap, sym, subst, refl, arith}
use Rattle.std.specs.Prelude.{slice_set}
use Rattle.area_index.specs.declared.nodes.TheConstants.{NONE}
use Rattle.area_index.specs.Shapes.{depth_of, empty, inserted}
use Rattle.area_index.specs.Standing.{AreParts, alone, left_over, number_of, rooted, row_of}
use Rattle.area_index.specs.Forests.{Forest, ChangesAt, forest_of, rooted_all, tree_in}
use Rattle.area_index.proofs.Kept.{changed, depth-in, entry_with, free_in-is, many-in, not_false, not_true, picked, root-in, some_free, tree_in-is}
use Rattle.area_index.proofs.TreeLists.{any_default, shape_at}
use Rattle.area_index.proofs.Orders.{to_acb, to_ba, to_cba}
use Rattle.area_index.proofs.Turning.{same_parts}
use Rattle.area_index.proofs.stores.insert_into.Goals as goal

pub returns-then-not-inserted : goal.returns-then-not-inserted
returns-then-not-inserted c kept some =
    let old = forest_of c.args.store.now in
    let sheet : ℕ = c.from-sheet.result in
    let at_sheet : sheet ≡ c.args.pair.area.sheet = c.from-sheet.ensures in
    let t = shape_at kept.shapes sheet in
    let many = many-in old kept in
    let within : sheet < length old.trees = search rules in
    let free = free_in-is old kept in
    let f = some_free kept.frees (subst (λ n. 0 < n) free some) in
    let root : c.index.result.now ≡ number_of t = c.index.ensures ∙ any_default old.trees sheet c.index.result.now NONE within ∙ root-in old kept sheet in
    let p1 = subst (λ es. AreParts old.nodes (rooted old.free (row_of es) ∷ rooted_all kept.shapes)) f.is kept.parts in
    let p2 = picked old.nodes (rooted old.free (row_of (f.first ∷ f.rest))) kept.shapes sheet c.index.result.now (subst (λ n. sheet < n) many within) root p1 in
    let p3 = c.take-at.ensures.taken f.first f.rest (rooted c.index.result.now t ∷ rooted_all (slice_set kept.shapes sheet empty)) (to_ba p2) in
    let p4 = same_parts c.args.store.now.nodes c.take-at.new.nodes _ c.take-at.ensures.same (to_acb p3) in
    let p5 = subst (λ n. AreParts c.take-at.new.nodes.items.items (alone n ∷ rooted c.index.result.now t ∷ rooted c.take-at.new.free (row_of f.rest) ∷ rooted_all (slice_set kept.shapes sheet empty))) (sym c.take-at.ensures.number) p4 in
    let deep : depth_of t ≤ c.count-levels.result = subst (λ n. depth_of t ≤ n) (sym c.count-levels.ensures) (depth-in old kept sheet) in
    let p6 = c.insert-inserted.ensures.turns t deep _ p5 in
    let entry = entry_with c.take-at.result c.args.pair in
    let made = ap (λ z. inserted z entry) (sym (tree_in-is old kept sheet)) ∙ ap (λ n. inserted (tree_in old sheet) (entry_with n c.args.pair)) c.take-at.ensures.number in
    let large = c.insert-inserted.ensures.count ∙ ap (λ nodes. length nodes.items.items) c.take-at.ensures.same in
    let p7 = subst (λ u. AreParts c.insert-inserted.new.nodes.items.items (rooted c.insert-inserted.result.root (inserted t entry) ∷ (left_over u c.take-at.result ++ rooted c.take-at.new.free (row_of f.rest) ∷ rooted_all (slice_set kept.shapes sheet empty)))) (not_true c.insert-inserted.result.is_used c.if-not-inserted.true) p6 in
    let p8 = c.give_back.ensures.parts f.rest _ (to_cba p7) in
    let new : Forest = record { nodes = c.give_back.new.nodes.items.items; free = c.give_back.new.free; trees = slice_set c.args.store.now.trees.items sheet c.insert-inserted.result.root; links = 0 } in
    let ch = changed old new kept sheet c.insert-inserted.result.root (inserted t entry) (entry ∷ f.rest) (c.give_back.ensures.count ∙ large) within refl (to_ba p8) in
    let first = ap length f.is in
    let more = ch.1 in
    (subst (λ s. ChangesAt old new s (inserted (tree_in old s) (entry_with c.args.store.now.free c.args.pair))) at_sheet (subst (λ z. ChangesAt old new sheet z) made ch.0), omega arith)

pub returns-else-not-inserted : goal.returns-else-not-inserted
returns-else-not-inserted c kept some =
    let old = forest_of c.args.store.now in
    let sheet : ℕ = c.from-sheet.result in
    let at_sheet : sheet ≡ c.args.pair.area.sheet = c.from-sheet.ensures in
    let t = shape_at kept.shapes sheet in
    let many = many-in old kept in
    let within : sheet < length old.trees = search rules in
    let free = free_in-is old kept in
    let f = some_free kept.frees (subst (λ n. 0 < n) free some) in
    let root : c.index.result.now ≡ number_of t = c.index.ensures ∙ any_default old.trees sheet c.index.result.now NONE within ∙ root-in old kept sheet in
    let p1 = subst (λ es. AreParts old.nodes (rooted old.free (row_of es) ∷ rooted_all kept.shapes)) f.is kept.parts in
    let p2 = picked old.nodes (rooted old.free (row_of (f.first ∷ f.rest))) kept.shapes sheet c.index.result.now (subst (λ n. sheet < n) many within) root p1 in
    let p3 = c.take-at.ensures.taken f.first f.rest (rooted c.index.result.now t ∷ rooted_all (slice_set kept.shapes sheet empty)) (to_ba p2) in
    let p4 = same_parts c.args.store.now.nodes c.take-at.new.nodes _ c.take-at.ensures.same (to_acb p3) in
    let p5 = subst (λ n. AreParts c.take-at.new.nodes.items.items (alone n ∷ rooted c.index.result.now t ∷ rooted c.take-at.new.free (row_of f.rest) ∷ rooted_all (slice_set kept.shapes sheet empty))) (sym c.take-at.ensures.number) p4 in
    let deep : depth_of t ≤ c.count-levels.result = subst (λ n. depth_of t ≤ n) (sym c.count-levels.ensures) (depth-in old kept sheet) in
    let p6 = c.insert-inserted.ensures.turns t deep _ p5 in
    let entry = entry_with c.take-at.result c.args.pair in
    let made = ap (λ z. inserted z entry) (sym (tree_in-is old kept sheet)) ∙ ap (λ n. inserted (tree_in old sheet) (entry_with n c.args.pair)) c.take-at.ensures.number in
    let large = c.insert-inserted.ensures.count ∙ ap (λ nodes. length nodes.items.items) c.take-at.ensures.same in
    let p7 = subst (λ u. AreParts c.insert-inserted.new.nodes.items.items (rooted c.insert-inserted.result.root (inserted t entry) ∷ (left_over u c.take-at.result ++ rooted c.take-at.new.free (row_of f.rest) ∷ rooted_all (slice_set kept.shapes sheet empty)))) (not_false c.insert-inserted.result.is_used c.if-not-inserted.false) p6 in
    let new : Forest = record { nodes = c.insert-inserted.new.nodes.items.items; free = c.take-at.new.free; trees = slice_set c.args.store.now.trees.items sheet c.insert-inserted.result.root; links = 0 } in
    let ch = changed old new kept sheet c.insert-inserted.result.root (inserted t entry) f.rest large within refl p7 in
    let first = ap length f.is in
    let more = ch.1 in
    (subst (λ s. ChangesAt old new s (inserted (tree_in old s) (entry_with c.args.store.now.free c.args.pair))) at_sheet (subst (λ z. ChangesAt old new sheet z) made ch.0), omega arith)
