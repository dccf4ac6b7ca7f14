use Rattle.std.proofs.Common.{◌≡◌, ◌++◌, ap, sym, ◌∙◌, arith}
use Rattle.std.proofs.lemmas.List.{append-nil}
use Rattle.area_index.specs.Shapes.{empty}
use Rattle.area_index.specs.Walk.{found}
use Rattle.area_index.proofs.Standing.{no_levels, no_root}
use Rattle.area_index.proofs.trees.+visit.Goals as goal
use Rattle.area_index.proofs.trees.+visit.Goals.{then-root-eq-NONE-via-then-root-eq-NONE, then-root-eq-NONE-via-else-root-eq-NONE+then-levels-eq0}

pub returns-then-root-eq-NONE-clause-found : goal.returns-then-root-eq-NONE-clause-found
returns-then-root-eq-NONE-clause-found g u c t deep is few standing =
    let none : t ≡ empty = elim c.then-root-eq-NONE.branch [
      | then-root-eq-NONE-via-then-root-eq-NONE w ↦ no_root c.args.nodes.now.items.items c.args.root t w.if-root-eq-NONE.true is few standing
      | then-root-eq-NONE-via-else-root-eq-NONE+then-levels-eq0 w ↦ no_levels t c.args.levels deep (let z = w.if-levels-eq0.true in omega arith)
    ] in
    sym (ap (λ z. c.args.readers.now.items ++ found z c.args.cell) none ∙ append-nil c.args.readers.now.items)
