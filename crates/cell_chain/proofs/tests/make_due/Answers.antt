use Rattle.std.proofs.Common.{◌≡◌, true, false, ◌||◌, List, [], ◌∷◌, ◌++◌, refl, ap, sym, subst, ◌∙◌, ⊎_elim}
use Rattle.std.specs.List.{IsDistinct, list_any}
use Rattle.std.proofs.lemmas.Bool.{or_cases}
use Rattle.std.proofs.lemmas.List.Folds.{list_any-append}
use Rattle.std.proofs.lemmas.Map.Keys.{IsDistinct-push}
use Rattle.cell_refs.specs.declared.grid.Cell.{Cell}
use Rattle.cell_refs.specs.Cell.{is_among, same_cell}
use Rattle.cell_refs.proofs.PublicLaws.{same_cell_is, same_cells}
use Rattle.cell_chain.proofs.tests.make_due.Goals as goal
use Rattle.cell_chain.proofs.tests.make_due.Goals.{then-has+then-not-contains+in_ok-push, else-has}

none_once : IsDistinct same_cell []
unfolding IsDistinct
none_once = tt

pub loop-row-init : goal.loop-row-init
loop-row-init c = record {
  entries = λ cell h. let none : is_among [] cell ≡ true = ap (λ cells. is_among cells cell) (sym c.new-due.ensures.items) ∙ h in cc;
  once = subst (IsDistinct same_cell) (sym c.new-due.ensures.items) none_once;
}

more : (entries due : List Cell) (cell : Cell) → ((q : Cell) → is_among due q ≡ true → is_among entries q ≡ true) → is_among entries cell ≡ true
    → (q : Cell) → is_among (due ++ cell ∷ []) q ≡ true → is_among entries q ≡ true
more entries due cell before here q h = ⊎_elim
    (λ old. before q old)
    (λ last. ⊎_elim (λ same. ap (is_among entries) (same_cell_is q cell same) ∙ here) (λ none. cc) (or_cases (same_cell q cell) false last))
    (or_cases (is_among due q) (is_among (cell ∷ []) q) (sym (list_any-append (same_cell q) due (cell ∷ [])) ∙ h))

flipped_any : (cells : List Cell) (cell : Cell) → list_any (λ c. same_cell c cell) cells ≡ is_among cells cell
flipped_any [] cell = refl
flipped_any (c ∷ cells) cell = ap (λ b. b || list_any (λ d. same_cell d cell) cells) (same_cells.symm c cell) ∙ ap (λ b. same_cell cell c || b) (flipped_any cells cell)

pub loop-row-preserved : goal.loop-row-preserved
loop-row-preserved c = elim c.if-has.branch [
  | then-has+then-not-contains+in_ok-push w ↦
      let due = c.loop-row.due.items in
      let cell = c.cell-cell.result in
      let is : c.if-has.due.items ≡ due ++ cell ∷ [] = ap (λ v. v.items) w.due-is ∙ w.in_ok-push.ensures.items in
      let absent : is_among due cell ≡ false =
      sym (flipped_any due cell) ∙ ap (λ cells. list_any (λ d. same_cell d cell) cells) (sym w.deref.ensures.value) ∙ sym w.contains.ensures.value ∙ w.if-not-contains.true in
      record {
        entries = λ q h. more c.args.chain.now.entries due cell c.loop-row.invariant.entries (sym c.has.ensures.entry ∙ w.if-has.true) q (ap (λ cells. is_among cells q) (sym is) ∙ h);
        once = subst (IsDistinct same_cell) (sym is) (IsDistinct-push same_cells due cell c.loop-row.invariant.once absent);
      }
  | else-has w ↦
      let is : c.if-has.due.items ≡ c.loop-row.due.items = ap (λ v. v.items) w.due-is in
      record {
        entries = λ q h. c.loop-row.invariant.entries q (ap (λ cells. is_among cells q) (sym is) ∙ h);
        once = subst (IsDistinct same_cell) (sym is) c.loop-row.invariant.once;
      }
]
