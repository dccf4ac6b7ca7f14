use Rattle.std.proofs.Common.{◌≡◌, false, Some, [], ◌∷◌, ap, sym, subst, ◌∙◌, arith}
use Rattle.cell_store.specs.Gathering.{is_less}
use Rattle.cell_store.specs.Scanning.{IsNext, corner}
use Rattle.cell_store.proofs.AreaOrder.{corner-sheet, next-below, next-corner, next-end, next-left, next-right, next-row}
use Rattle.cell_store.proofs.scanning.next_of.Goals as goal
use Rattle.cell_store.proofs.scanning.next_of.Goals.{then-cell-area-via-then-cell-area, then-cell-area-via-else-cell-area+then-cell-area-2}

pub returns-then-lt : goal.returns-then-lt
returns-then-lt c = subst (λ first. IsNext (c.args.area.now ∷ []) c.args.cell (Some first)) (sym c.corner-then-lt.ensures) (next-corner c.args.area.now c.args.cell (ap (is_less c.args.cell) (sym c.corner.ensures) ∙ sym c.lt.ensures ∙ c.if-lt.true))

pub returns-then-cell-area : goal.returns-then-cell-area
returns-then-cell-area c =
    let behind : is_less c.args.cell (corner c.args.area.now) ≡ false = ap (is_less c.args.cell) (sym c.corner.ensures) ∙ sym c.lt.ensures ∙ c.if-lt.false in
    elim c.then-cell-area.branch [
      | then-cell-area-via-then-cell-area w ↦ next-below c.args.area.now c.args.cell (corner-sheet c.args.area.now c.args.cell behind) (λ same. absurd (omega (arith, w.if-cell-area.true)))
      | then-cell-area-via-else-cell-area+then-cell-area-2 w ↦ next-below c.args.area.now c.args.cell (corner-sheet c.args.area.now c.args.cell behind) (λ _. w.if-cell-area-2.true)
    ]

pub returns-then-cell-area-3 : goal.returns-then-cell-area-3
returns-then-cell-area-3 c = next-left c.args.area.now c.args.cell c.if-cell-area-3.true

pub returns-then-cell-area-4 : goal.returns-then-cell-area-4
returns-then-cell-area-4 c = next-right c.args.area.now c.args.cell

pub returns-then-cell-area-5 : goal.returns-then-cell-area-5
returns-then-cell-area-5 c =
    let behind : is_less c.args.cell (corner c.args.area.now) ≡ false = ap (is_less c.args.cell) (sym c.corner.ensures) ∙ sym c.lt.ensures ∙ c.if-lt.false in
    next-row c.args.area.now c.args.cell (omega (arith, corner-sheet c.args.area.now c.args.cell behind)) c.if-cell-area-4.false

pub returns : goal.returns
returns c =
    let behind : is_less c.args.cell (corner c.args.area.now) ≡ false = ap (is_less c.args.cell) (sym c.corner.ensures) ∙ sym c.lt.ensures ∙ c.if-lt.false in
    next-end c.args.area.now c.args.cell (omega (arith, corner-sheet c.args.area.now c.args.cell behind)) c.if-cell-area-4.false c.if-cell-area-5.false
