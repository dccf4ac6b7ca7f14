-- A value that comes back for an open call: what is forgotten of its cell, and that the cell has a formula.
use Rattle.std.proofs.Common.{◌≡◌, Bool, true, false, not, ◌&&◌, ◌||◌, [], ◌∷◌, refl, ap, ◌∙◌}
use Rattle.std.specs.Option.{is_some}
use Rattle.calc_round.specs.Accepting.{ForgetsReader}
use Rattle.cell_refs.specs.declared.grid.Cell.{Cell}
use Rattle.cell_refs.specs.declared.handles.Handle.{Handle}
use Rattle.cell_refs.specs.Cell.{is_among, same_cell}
use Rattle.cell_refs.proofs.PublicLaws.{same_cells}
use Rattle.cell_values.specs.declared.topics.Topic.{Topic}
use Rattle.clean_cells.proofs.PublicLaws.{open_stale}
use Rattle.rtd_topics.specs.RtdState.{RtdState, knows_topic, source_of}
use Rattle.workbook.specs.Book.{formula_count, is_formula}
use Rattle.workbook.specs.Stale.{reaches}
use Rattle.workbook.specs.State.{HostTerms, State}
use Rattle.workbook.specs.Step.{is_open_handle}
use Rattle.host_core.proofs.TopicLists.{first_of_two}

turned : (a c : Bool) → (a && not (c || false)) ≡ (not c && a)
turned true true = refl
turned true false = refl
turned false true = refl
turned false false = refl

-- real-time data that forgot what a cell has read
pub forgets_reader : (r after : RtdState) (cell : Cell) → after.servers ≡ r.servers → after.opening ≡ r.opening
    → ((topic : Topic) (q : Cell) → after.reading topic q ≡ (r.reading topic q && not (is_among (cell ∷ []) q)))
    → ForgetsReader (source_of r) (source_of after) cell
forgets_reader r after cell servers opening reading = record {
  noted = λ topic q.
      reading topic q
      ∙ ap (λ b. r.reading topic q && not (b || false)) (same_cells.symm q cell)
      ∙ turned (r.reading topic q) (same_cell cell q);
  served = λ topic. ap (λ o. is_some o && knows_topic after.servers topic) opening ∙ ap (λ all. is_some r.opening && knows_topic all topic) servers;
}

-- the cell of an open call has a formula
pub open_formula : (t : HostTerms) (s : State) (handle : Handle) → is_open_handle t s handle ≡ true → is_formula s.book.contents handle.cell ≡ true
open_formula t s handle asked =
    first_of_two (is_formula s.book.contents handle.cell) (reaches s.book.contents s.changed (formula_count s.book.contents) handle.cell) (open_stale t s handle asked)
