use Rattle.std.proofs.Common.{◌≡◌, ◌++◌, ◌∷◌, [], cond, true, arith, ap, sym, ◌∙◌, ⊎_elim}
use Rattle.std.specs.Prelude.{slice_index_or}
use Rattle.std.specs.Result.{is_ok}
use Rattle.std.proofs.lemmas.List.Folds.{list_any_at}
use Rattle.cell_refs.specs.Cell.{same_cell}
use Rattle.cell_refs.proofs.PublicLaws.{same_cells}
use Rattle.calc_chain.proofs.PublicLaws.{has-push}
use Rattle.calc_chain.specs.Chain.{has}
use Rattle.cell_chain.specs.Numbering.{cell_at, is_used}
use Rattle.cell_chain.proofs.Mapped.{pushed-length, pushed-mapped}
use Rattle.cell_chain.proofs.NumberLaws.{at_cell, used_at}
use Rattle.cell_chain.proofs.numbering.Numbering.fill.Goals as goal

pub number_at-requires : goal.number_at-requires
number_at-requires c =
    let cell = slice_index_or c.args.cells.now c.loop-cell.cell-index (record { sheet = 0; col = 0; row = 0 }) in
    c.requires.numbered cell (list_any_at (same_cell cell) c.args.cells.now c.loop-cell.cell-index (record { sheet = 0; col = 0; row = 0 }) c.loop-cell-test.true (same_cells.refl cell))

pub loop-cell-preserved : goal.loop-cell-preserved
loop-cell-preserved c =
    let f = cell_at c.args.self.now in
    let items = c.loop-cell.numbers.items in
    let so_far = c.loop-cell.invariant.cells in
    let inside = c.loop-cell-test.true in
    let count = pushed-length f items c.args.cells.now c.loop-cell.cell-index so_far inside in
    let len = c.loop-cell.numbers.ok.0 in
    let room = c.loop-cell.invariant.room in
    let enough = c.requires.room in
    let ok : is_ok c.push.result ≡ true = c.push.ensures.succeeds (omega (arith, inside, count, len, room, enough)) in
    let pushed : c.push.new.self.items ≡ items ++ c.number_at.result ∷ [] = c.push.ensures.items ∙ ap (λ b. cond b (items ++ c.number_at.result ∷ []) items) ok in
    let grown = c.push.ensures.capacity in
    record {
      cells = pushed-mapped f items c.push.new.self.items c.args.cells.now c.loop-cell.cell-index c.number_at.result (record { sheet = 0; col = 0; row = 0 }) (is_ok c.push.result)
          so_far inside (at_cell c.args.self.now c.number_at.result _ c.number_at.ensures) ok c.push.ensures.items;
      used = λ number h. ⊎_elim
          (λ old. c.loop-cell.invariant.used number old)
          (λ new. ap (is_used c.args.self.now) new ∙ used_at c.args.self.now c.number_at.result _ c.number_at.ensures)
          (has-push items c.number_at.result number (ap (λ xs. has xs number) (sym pushed) ∙ h));
      room = omega (arith, room, grown);
    }
