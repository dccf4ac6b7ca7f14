-- An edit whose cell is noted leaves all as it is kept at rest.
use Rattle.std.proofs.Common.{◌≡◌, Bool, true, false, not, cond, ◌||◌, ◌&&◌, Option, List, ◌∷◌, Result, Ok, Err, OnOk, refl, ap, sym, subst, ◌∙◌}
use Rattle.std.proofs.lemmas.Bool.{or_parts, or_right}
use Rattle.calc_book.specs.declared.calc_books.CalcBook.{CalcBook}
use Rattle.calc_book.specs.CalcState.{CalcState}
use Rattle.calc_book.specs.Edits.{SetsAmong}
use Rattle.calc_book.specs.Keeping.{AtRest}
use Rattle.calc_round.specs.declared.open_work.OpenWork.{OpenWork}
use Rattle.book_sync.specs.Following.{ShowsWhereClean, TableFollows}
use Rattle.cell_chain.specs.CellOrder.{CellOrder, without}
use Rattle.cell_chain.proofs.PublicLaws.{among-without}
use Rattle.cell_refs.specs.declared.grid.Cell.{Cell}
use Rattle.cell_refs.specs.Cell.{is_among, same_cell}
use Rattle.cell_refs.proofs.PublicLaws.{same_cells}
use Rattle.cell_store.specs.Store.{shown_at}
use Rattle.workbook.specs.declared.contents.Content.{Content}
use Rattle.workbook.specs.Book.{IsInOrder, PutsContent, content_at, has_formula}

-- ---- a cell is taken out of a chain

gone : (b a : Bool) → (a && not b) ≡ cond b false a
gone true true = refl
gone true false = refl
gone false true = refl
gone false false = refl

pub removed : (old new : CellOrder) (cell : Cell) → new ≡ record old { entries = without old.entries cell; due = without old.due cell }
    → SetsAmong old.entries new.entries cell false
removed old new cell is q =
    ap (λ chain. is_among chain.entries q) is
    ∙ among-without old.entries cell q
    ∙ ap (λ b. is_among old.entries q && not b) (same_cells.symm q cell)
    ∙ gone (same_cell cell q) (is_among old.entries q)

-- where it isn't wanted
pub removed-unwanted : (old new : CellOrder) (cell : Cell) (wanted : Bool) → wanted ≡ false → new ≡ record old { entries = without old.entries cell; due = without old.due cell }
    → SetsAmong old.entries new.entries cell (wanted && is_among old.entries cell)
removed-unwanted old new cell wanted out is q =
    removed old new cell is q ∙ ap (λ b. cond (same_cell cell q) (b && is_among old.entries cell) (is_among old.entries q)) (sym out)

-- ---- an edit

either : (a b : Bool) → cond a true b ≡ (a || b)
either true b = refl
either false b = refl

by_cases : {A B : Type 0} (f : A → B) (b : Bool) (x y : A) → cond b (f x) (f y) ≡ f (cond b x y)
by_cases f true x y = refl
by_cases f false x y = refl

-- the cell has this content in the book that is made of the one before, or none
module _ (b b' : CalcBook) (s : CalcState) (cell : Cell) (o : Option Content) (made : List (Cell × Content)) (before : AtRest b s)
    (book : b'.book.contents ≡ made) (functions : b'.book.functions ≡ b.book.functions) (contents : PutsContent s.book made cell o) (ordered : IsInOrder made)
    (changed : SetsAmong b.changed.keys b'.changed.keys cell true) (chain : SetsAmong b.chain.entries b'.chain.entries cell (has_formula o))
    (table : b'.table ≡ b.table) (store : b'.store ≡ b.store) (work : b'.work ≡ b.work) where
  kept : (q : Cell) → is_among (cell ∷ s.changed) q ≡ false → content_at s.book q ≡ content_at made q
  kept q none =
      let apart = (or_parts (same_cell q cell) (is_among s.changed q) none).0 in
      sym (contents q ∙ ap (λ c. cond c o (content_at s.book q)) (same_cells.symm cell q ∙ apart))

  more : (q : Cell) → is_among s.changed q ≡ true → is_among (cell ∷ s.changed) q ≡ true
  more q h = or_right (same_cell q cell) (is_among s.changed q) h

  module _ (follows : TableFollows made (cell ∷ s.changed) b.table) (shows : ShowsWhereClean made (cell ∷ s.changed) b.store) where
    edited : AtRest b' (record s { book = made; changed = cell ∷ s.changed })
    edited = record {
      holds = record {
        session = ap (λ (w : OpenWork). w.calls.session) work ∙ before.holds.session;
        book = book;
        functions = functions ∙ before.holds.functions;
        ordered = ordered;
        completed = before.holds.completed;
        changed = λ q.
            changed q
            ∙ ap (λ c. cond (same_cell cell q) true c) (before.holds.changed q)
            ∙ either (same_cell cell q) (is_among s.changed q)
            ∙ ap (λ c. c || is_among s.changed q) (same_cells.symm cell q);
        chain = λ q.
            chain q
            ∙ ap (λ c. cond (same_cell cell q) (has_formula o) c) (before.holds.chain q)
            ∙ by_cases has_formula (same_cell cell q) o (content_at s.book q)
            ∙ ap has_formula (sym (contents q));
        shown = λ q. ap (λ t. shown_at t q) store ∙ before.holds.shown q;
        closed = before.holds.closed;
      };
      table = subst (TableFollows made (cell ∷ s.changed)) (sym table) follows;
      clean = subst (ShowsWhereClean made (cell ∷ s.changed)) (sym store) shows;
      others = λ q none.
          before.others q (or_parts (same_cell q cell) (is_among s.changed q) none).1 ∙ kept q none;
      calls = ap (λ (w : OpenWork). w.calls.calls) work ∙ before.calls;
    }

-- a book before an edit and the one behind it, of which this is made
module _ {E : Type 0} (r : Result (Unit {0}) E) (b b' : CalcBook) (s : CalcState) (cell : Cell) (o : Option Content)
    (make : List (Cell × Content) → List (Cell × Content)) where
  pub edit-rests : AtRest b s
      → OnOk r (b'.book ≡ record b.book { contents = make b.book.contents })
      → OnOk r (PutsContent b.book.contents b'.book.contents cell o)
      → OnOk r (IsInOrder b'.book.contents)
      → OnOk r (SetsAmong b.changed.keys b'.changed.keys cell true)
      → OnOk r (SetsAmong b.chain.entries b'.chain.entries cell (has_formula o))
      → b'.table ≡ b.table → b'.store ≡ b.store → b'.work ≡ b.work
      → (((q : Cell) → is_among (cell ∷ s.changed) q ≡ false → content_at s.book q ≡ content_at (make s.book) q) → ((q : Cell) → is_among s.changed q ≡ true → is_among (cell ∷ s.changed) q ≡ true)
      → TableFollows s.book s.changed b.table → TableFollows (make s.book) (cell ∷ s.changed) b.table)
      → (((q : Cell) → is_among (cell ∷ s.changed) q ≡ false → content_at s.book q ≡ content_at (make s.book) q) → ((q : Cell) → is_among s.changed q ≡ true → is_among (cell ∷ s.changed) q ≡ true)
      → ShowsWhereClean s.book s.changed b.store → ShowsWhereClean (make s.book) (cell ∷ s.changed) b.store)
      → OnOk r (AtRest b' (record s { book = make s.book; changed = cell ∷ s.changed }))
  edit-rests before is contents ordered changed chain table store work follows shows = elim r as (λ (r : Result (Unit {0}) E).
      OnOk r (b'.book ≡ record b.book { contents = make b.book.contents }) → OnOk r (PutsContent b.book.contents b'.book.contents cell o) → OnOk r (IsInOrder b'.book.contents)
      → OnOk r (SetsAmong b.changed.keys b'.changed.keys cell true) → OnOk r (SetsAmong b.chain.entries b'.chain.entries cell (has_formula o))
      → OnOk r (AtRest b' (record s { book = make s.book; changed = cell ∷ s.changed }))) [
        | Ok done ↦ λ is contents ordered changed chain.
            let book : b'.book.contents ≡ make s.book = ap (λ k. k.contents) is ∙ ap make before.holds.book in
            let puts : PutsContent s.book (make s.book) cell o =
            λ q. ap (λ es. content_at es q) (sym book) ∙ contents q ∙ ap (λ es. cond (same_cell cell q) o (content_at es q)) before.holds.book in
            let still = kept b b' s cell o (make s.book) before book (ap (λ k. k.functions) is) puts (subst IsInOrder book ordered) changed chain table store work in
            let all = more b b' s cell o (make s.book) before book (ap (λ k. k.functions) is) puts (subst IsInOrder book ordered) changed chain table store work in
            edited b b' s cell o (make s.book) before book (ap (λ k. k.functions) is) puts (subst IsInOrder book ordered) changed chain table store work
            (follows still all before.table) (shows still all before.clean)
        | Err e ↦ λ _ _ _ _ _. tt
      ] is contents ordered changed chain
