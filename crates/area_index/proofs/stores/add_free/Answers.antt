use Rattle.std.proofs.Common.{length, ap, ◌∷◌, ◌∙◌, sym, arith}
use Rattle.area_index.specs.Standing.{rooted, row_of}
use Rattle.area_index.specs.Forests.{Forest, IsKept, forest_of, rooted_all}
use Rattle.area_index.proofs.FreeNodes.{many-more, grown}
use Rattle.area_index.proofs.Kept.{entry_with, free_in-is, tree_in-is}
use Rattle.area_index.proofs.stores.add_free.Goals as goal

pub returns-clause-same : goal.returns-clause-same
returns-clause-same c = record {
  kept = λ kept.
      let old = forest_of c.args.store.now in
      let new : Forest = record { nodes = c.give_back.new.nodes.items.items; free = c.give_back.new.free; trees = c.args.store.now.trees.items; links = 0 } in
      let number = c.in_ok-at.ensures.number in
      let p1 = grown old.nodes c.add.new.self.items.items c.args.node c.in_ok-at.at (rooted old.free (row_of kept.frees)) (rooted_all kept.shapes) c.in_ok-at.ensures.added number.0 number.1 kept.parts in
      let p2 = c.give_back.ensures.parts kept.frees (rooted_all kept.shapes) p1 in
      let now : IsKept new = record { shapes = kept.shapes; frees = entry_with c.in_ok-at.at c.args.node.pair ∷ kept.frees; roots = kept.roots; parts = p2 } in
      now;
  trees = λ kept sheet.
      let old = forest_of c.args.store.now in
      let new : Forest = record { nodes = c.give_back.new.nodes.items.items; free = c.give_back.new.free; trees = c.args.store.now.trees.items; links = 0 } in
      let number = c.in_ok-at.ensures.number in
      let p1 = grown old.nodes c.add.new.self.items.items c.args.node c.in_ok-at.at (rooted old.free (row_of kept.frees)) (rooted_all kept.shapes) c.in_ok-at.ensures.added number.0 number.1 kept.parts in
      let p2 = c.give_back.ensures.parts kept.frees (rooted_all kept.shapes) p1 in
      let now : IsKept new = record { shapes = kept.shapes; frees = entry_with c.in_ok-at.at c.args.node.pair ∷ kept.frees; roots = kept.roots; parts = p2 } in
      tree_in-is new now sheet ∙ sym (tree_in-is old kept sheet);
}

pub returns-clause-free : goal.returns-clause-free
returns-clause-free c kept =
    let old = forest_of c.args.store.now in
    let new : Forest = record { nodes = c.give_back.new.nodes.items.items; free = c.give_back.new.free; trees = c.args.store.now.trees.items; links = 0 } in
    let number = c.in_ok-at.ensures.number in
    let p1 = grown old.nodes c.add.new.self.items.items c.args.node c.in_ok-at.at (rooted old.free (row_of kept.frees)) (rooted_all kept.shapes) c.in_ok-at.ensures.added number.0 number.1 kept.parts in
    let p2 = c.give_back.ensures.parts kept.frees (rooted_all kept.shapes) p1 in
    let now : IsKept new = record { shapes = kept.shapes; frees = entry_with c.in_ok-at.at c.args.node.pair ∷ kept.frees; roots = kept.roots; parts = p2 } in
    let before = free_in-is old kept in
    let after = free_in-is new now in
    omega arith

pub returns-clause-most : goal.returns-clause-most
returns-clause-most c kept =
    let old = forest_of c.args.store.now in
    let new : Forest = record { nodes = c.give_back.new.nodes.items.items; free = c.give_back.new.free; trees = c.args.store.now.trees.items; links = 0 } in
    let number = c.in_ok-at.ensures.number in
    let p1 = grown old.nodes c.add.new.self.items.items c.args.node c.in_ok-at.at (rooted old.free (row_of kept.frees)) (rooted_all kept.shapes) c.in_ok-at.ensures.added number.0 number.1 kept.parts in
    let p2 = c.give_back.ensures.parts kept.frees (rooted_all kept.shapes) p1 in
    let now : IsKept new = record { shapes = kept.shapes; frees = entry_with c.in_ok-at.at c.args.node.pair ∷ kept.frees; roots = kept.roots; parts = p2 } in
    let before = free_in-is old kept in
    let after = free_in-is new now in
    omega arith

pub returns-clause-used : goal.returns-clause-used
returns-clause-used c kept =
    let old = forest_of c.args.store.now in
    let new : Forest = record { nodes = c.give_back.new.nodes.items.items; free = c.give_back.new.free; trees = c.args.store.now.trees.items; links = 0 } in
    let number = c.in_ok-at.ensures.number in
    let p1 = grown old.nodes c.add.new.self.items.items c.args.node c.in_ok-at.at (rooted old.free (row_of kept.frees)) (rooted_all kept.shapes) c.in_ok-at.ensures.added number.0 number.1 kept.parts in
    let p2 = c.give_back.ensures.parts kept.frees (rooted_all kept.shapes) p1 in
    let now : IsKept new = record { shapes = kept.shapes; frees = entry_with c.in_ok-at.at c.args.node.pair ∷ kept.frees; roots = kept.roots; parts = p2 } in
    let before = free_in-is old kept in
    let after = free_in-is new now in
    let more = c.give_back.ensures.count ∙ ap length c.in_ok-at.ensures.added ∙ many-more old.nodes c.args.node in
    omega arith
