-- A recalculation that is worked out: what is shown then, and how many cells were stale.
use Rattle.std.proofs.Common.{◌≡◌, ℕ, Bool, true, false, cond, Option, None, Some, is_some, List, [], ◌∷◌, length, refl, ap, sym, subst, ◌∙◌, arith, ⊎_elim, inl, inr, zero}
use Rattle.std.specs.List.{filter}
use Rattle.std.specs.List.Sorted.{IsStrictlySortedBy}
use Rattle.std.specs.Map.{keys_of}
use Rattle.std.specs.Option.{option_map}
use Rattle.std.proofs.lemmas.Bool.{and_parts, or_cases}
use Rattle.std.proofs.lemmas.List.Kept.{IsStrictlySortedBy-filter}
use Rattle.std.proofs.lemmas.List.Sums.{length-filter}
use Rattle.std.proofs.lemmas.Map.Entries.{length-keys_of, lookup-filter-keys}
use Rattle.std.proofs.lemmas.Map.Keys.{IsDistinct-from_sorted}
use Rattle.std.proofs.lemmas.Map.Made.{IsDistinct-keys_filter, is_some-lookup, length-le_from_is_member}
use Rattle.calc_book.specs.declared.calc_books.CalcBook.{CalcBook}
use Rattle.calc_book.specs.CalcState.{CalcState, calc_settle}
use Rattle.calc_book.specs.Keeping.{AtRest, InRound, IsSettled, shown_in}
use Rattle.calc_book.proofs.BeginningLists.{unreached}
use Rattle.calc_book.proofs.BeginningMeans.{clean-shown, three}
use Rattle.calc_book.proofs.Readings.{none-asks}
use Rattle.calc_round.specs.Rounds.{HasRoom, HasSameCells, IsWorkedOut, IsWorking, KeepsFinished, PresentMeans}
use Rattle.calc_round.specs.declared.open_work.OpenWork.{OpenWork}
use Rattle.async_handles.specs.declared.open_calls.OpenCall.{OpenCall}
use Rattle.book_sync.specs.Following.{ShowsWhereClean, TableFollows}
use Rattle.cell_refs.specs.declared.grid.Cell.{Cell}
use Rattle.cell_refs.specs.Cell.{cell_cmp, is_among, same_cell}
use Rattle.cell_refs.proofs.PublicLaws.{same_cell_is, same_cells}
use Rattle.cell_store.specs.Gathering.{has_no_value}
use Rattle.cell_store.specs.Store.{KeepsPresent, StoreState, present_at, shown_at}
use Rattle.cell_values.specs.declared.values.Value.{Value}
use Rattle.workbook.specs.declared.contents.Content.{Content}
use Rattle.workbook.specs.Circular.{is_circular}
use Rattle.workbook.specs.Agreement.{IsAlikeBesideChanged}
use Rattle.workbook.specs.Book.{IsInOrder, content_at, formula_count, has_formula, is_formula}
use Rattle.workbook.specs.Meaning.{Circ, Setting, is_open, meaning, shown_value}
use Rattle.workbook.proofs.PublicLaws.{all_closed, shows_circle}
use Rattle.workbook.specs.Stale.{is_stale, reaches, stale_cells, stale_count}

-- ---- how many cells are stale

formula_there : (o : Option Content) → has_formula o ≡ true → is_some o ≡ true
formula_there None h = cc
formula_there (Some content) h = refl

-- the stale cells stand in cell order
keys-filter : (p : Cell → Bool) (book : List (Cell × Content)) → keys_of (filter (λ e. p e.0) book) ≡ filter p (keys_of book)
keys-filter p [] = refl
keys-filter p (e ∷ book) = elim (p e.0) as (λ b. keys_of (cond b (e ∷ filter (λ e. p e.0) book) (filter (λ e. p e.0) book)) ≡ cond b (e.0 ∷ filter p (keys_of book)) (filter p (keys_of book))) [
  | true ↦ ap (λ ks. e.0 ∷ ks) (keys-filter p book)
  | false ↦ keys-filter p book
]

pub stale-sorted : (book : List (Cell × Content)) (changed : List Cell) → IsInOrder book → IsStrictlySortedBy cell_cmp (stale_cells book changed)
stale-sorted book changed ordered =
    subst (IsStrictlySortedBy cell_cmp) (sym (keys-filter (is_stale book changed) book)) (IsStrictlySortedBy-filter cell_cmp (is_stale book changed) (keys_of book) ordered)

-- the list of the stale cells has exactly those
pub stale-has : (book : List (Cell × Content)) (changed : List Cell) (q : Cell) → is_among (stale_cells book changed) q ≡ is_stale book changed q
stale-has book changed q =
    sym (is_some-lookup (same_cell q) (filter (λ e. is_stale book changed e.0) book))
    ∙ ap is_some (lookup-filter-keys (same_cell q) (is_stale book changed) (is_stale book changed q) (λ k same. ap (is_stale book changed) (sym (same_cell_is q k same))) book)
    ∙ either (is_stale book changed q) refl
  where
    either : (b : Bool) → is_stale book changed q ≡ b → is_some (cond b (content_at book q) None) ≡ b
    either true stale = formula_there (content_at book q) (and_parts (is_formula book q) (reaches book changed (formula_count book) q) stale).0
    either false _ = refl

-- marks in order that are the stale cells are as many
pub marks-counted : (marks : List Cell) (book : List (Cell × Content)) (changed : List Cell) → IsStrictlySortedBy cell_cmp marks → IsInOrder book
    → ((q : Cell) → is_among marks q ≡ is_stale book changed q) → length marks ≡ stale_count book changed
marks-counted marks book changed sorted ordered marked =
    let few = length-le_from_is_member same_cells marks (stale_cells book changed) (IsDistinct-from_sorted cell_cmp marks sorted)
    (λ q h. stale-has book changed q ∙ sym (marked q) ∙ h) in
    let many = length-le_from_is_member same_cells (stale_cells book changed) marks
    (IsDistinct-keys_filter same_cell (λ e. is_stale book changed e.0) book (IsDistinct-from_sorted cell_cmp (keys_of book) ordered))
    (λ q h. marked q ∙ sym (stale-has book changed q) ∙ h) in
    let count : length (stale_cells book changed) ≡ stale_count book changed =
    length-keys_of (filter (λ e. is_stale book changed e.0) book) ∙ length-filter (λ e. is_stale book changed e.0) book in
    omega (arith, few, many, count)

-- ---- what is shown

module _ (setting : Setting) (book : List (Cell × Content)) (ordered : IsInOrder book) (store : StoreState) (calls : List OpenCall) (none : calls ≡ [])
    (out : IsWorkedOut setting book store calls) (q : Cell) where
  circle : present_at store q ≡ Some None → meaning setting book q ≡ Circ
  circle is = ⊎_elim (shows_circle setting book q)
      (λ waits. let no : false ≡ true = sym (all_closed setting book ordered (none-asks setting book store calls none out) q) ∙ waits in cc)
      (or_cases (is_circular book q) (is_open (meaning setting book q)) (out.left q (ap has_no_value is)))

  -- where all is worked out, what is present of a cell is what its book shows
  worked-shown : present_at store q ≡ shown_in setting book q
  worked-shown = either (present_at store q) refl (content_at book q) refl
    where
      either : (p : Option (Option Value)) → present_at store q ≡ p → (o : Option Content) → content_at book q ≡ o
          → p ≡ option_map (λ content. shown_value (meaning setting book q)) o
      either None is None there = refl
      either None is (Some content) there = absurd (let no : false ≡ true = ap is_some (sym is) ∙ out.means.content q ∙ ap is_some there in cc)
      either (Some p) is None there = absurd (let no : true ≡ false = ap is_some (sym is) ∙ out.means.content q ∙ ap is_some there in cc)
      either (Some None) is (Some content) there = sym (ap (λ m. Some (shown_value m)) (circle is))
      either (Some (Some v)) is (Some content) there = sym (ap (λ m. Some (shown_value m)) (out.means.value q v is))

-- a recalculation that is worked out and completed, in which no cell is changed any more
pub completed : (now : Setting) (round : ℕ) (b b' : CalcBook) (s : CalcState) → IsSettled now round b s → b.work.calls.calls ≡ []
    → b'.book ≡ b.book → b'.table ≡ b.table → b'.chain ≡ b.chain → b'.work ≡ b.work
    → ((q : Cell) → shown_at b'.store q ≡ present_at b.store q) → KeepsPresent b.store b'.store → b'.changed.keys ≡ []
    → AtRest b' (calc_settle s now)
completed now round b b' s settled none book table chain work shown present empty =
    let before = settled.running in
    record {
      holds = record {
        session = ap (λ (w : OpenWork). w.calls.session) work ∙ before.holds.session;
        book = ap (λ k. k.contents) book ∙ before.holds.book;
        functions = ap (λ k. k.functions) book ∙ before.holds.functions;
        ordered = before.holds.ordered;
        completed = before.holds.ordered;
        changed = λ q. ap (λ ks. is_among ks q) empty;
        chain = λ q. ap (λ c. is_among c.entries q) chain ∙ before.holds.chain q;
        shown = λ q. shown q ∙ worked-shown now s.book before.holds.ordered b.store b.work.calls.calls none settled.worked q;
        closed = none-asks now s.book b.store b.work.calls.calls none settled.worked;
      };
      table = subst (TableFollows s.book []) (sym table) before.table;
      clean = λ q. inl (present q ∙ sym (shown q));
      others = λ q _. refl;
      calls = ap (λ (w : OpenWork). w.calls.calls) work ∙ none;
    }

-- ---- a recalculation that goes on, or is given up

-- what is clean is still present as it is shown, where values came up and each is what its cell means
still-clean : (earlier later : Setting) (completed book : List (Cell × Content)) (changed : List Cell) → IsInOrder completed → IsInOrder book
    → IsAlikeBesideChanged earlier later completed book changed → (old new : StoreState) → ((q : Cell) → shown_at old q ≡ shown_in earlier completed q)
    → KeepsFinished old new → PresentMeans later book new → ShowsWhereClean book changed old → ShowsWhereClean book changed new
still-clean earlier later completed book changed completed_ordered ordered alike old new shown kept means clean q = three _ (is_stale book changed q) (is_among changed q)
    (λ stale. inr (formula_count book, (and_parts (is_formula book q) _ stale).1))
    (λ fresh here. inr (zero, here))
    (λ fresh unchanged.
    let was = clean-shown earlier later completed book changed completed_ordered ordered alike old shown q fresh unchanged in
    let before = ⊎_elim (λ same. same) (λ r. absurd (unreached book ordered changed q unchanged fresh r)) (clean q) in
    inl (still (present_at new q) refl (present_at old q) refl (content_at book q) refl (before ∙ was) ∙ sym was ∙ sym (kept.shown q)))
  where
    still : (p : Option (Option Value)) → present_at new q ≡ p → (p' : Option (Option Value)) → present_at old q ≡ p' → (o : Option Content) → content_at book q ≡ o
        → p' ≡ option_map (λ content. shown_value (meaning later book q)) o → p ≡ option_map (λ content. shown_value (meaning later book q)) o
    still None is p' is' None there same = refl
    still None is p' is' (Some content) there same = absurd (let no : false ≡ true = ap is_some (sym is) ∙ means.content q ∙ ap is_some there in cc)
    still (Some p) is p' is' None there same = absurd (let no : true ≡ false = ap is_some (sym is) ∙ means.content q ∙ ap is_some there in cc)
    still (Some (Some v)) is p' is' (Some content) there same = sym (ap (λ m. Some (shown_value m)) (means.value q v is))
    still (Some None) is None is' (Some content) there same = absurd (cc)
    still (Some None) is (Some None) is' (Some content) there same = same
    still (Some None) is (Some (Some v)) is' (Some content) there same = absurd (let no : Some None ≡ Some (Some v) = sym is ∙ kept.values q v is' in cc)

-- a recalculation in which some values came up
pub goes-on : (now : Setting) (round : ℕ) (b b' : CalcBook) (s : CalcState) → InRound now round b s
    → b'.book ≡ b.book → b'.changed ≡ b.changed → b'.table ≡ b.table → b'.marks ≡ b.marks
    → IsWorking now b.book.contents b'.store b'.chain.entries b'.work.waiting.items b'.work.calls.calls round
    → KeepsFinished b.store b'.store → HasSameCells b.chain.entries b'.chain.entries
    → b'.chain.due ≡ [] → HasRoom b'.work → b'.work.calls.session ≡ b.work.calls.session
    → InRound now round b' s
goes-on now round b b' s before book changed table marks working kept cells idle room session =
    let works = subst (λ es. IsWorking now es b'.store b'.chain.entries b'.work.waiting.items b'.work.calls.calls round) before.holds.book working in
    record {
      holds = record {
        session = session ∙ before.holds.session;
        book = ap (λ k. k.contents) book ∙ before.holds.book;
        functions = ap (λ k. k.functions) book ∙ before.holds.functions;
        ordered = before.holds.ordered;
        completed = before.holds.completed;
        changed = λ q. ap (λ c. is_among c.keys q) changed ∙ before.holds.changed q;
        chain = λ q. cells q ∙ before.holds.chain q;
        shown = λ q. kept.shown q ∙ before.holds.shown q;
        closed = before.holds.closed;
      };
      table = subst (TableFollows s.book []) (sym table) before.table;
      marked = λ q. ap (λ m. is_among m q) marks ∙ before.marked q;
      working = works;
      idle = idle;
      room = room;
      clean = still-clean s.setting now s.completed s.book s.changed before.holds.completed before.holds.ordered before.alike
          b.store b'.store before.holds.shown kept works.means before.clean;
      alike = before.alike;
    }

-- a recalculation that is given up: nothing but the marks and the calls is otherwise
pub given-up : (now : Setting) (round : ℕ) (b : CalcBook) (marks : List Cell) (work : OpenWork) (s : CalcState) → InRound now round b s
    → work.calls.calls ≡ [] → work.calls.session ≡ b.work.calls.session → AtRest (record b { marks = marks; work = work }) s
given-up now round b marks work s running none session = record {
  holds = record {
    session = session ∙ running.holds.session;
    book = running.holds.book;
    functions = running.holds.functions;
    ordered = running.holds.ordered;
    completed = running.holds.completed;
    changed = running.holds.changed;
    chain = running.holds.chain;
    shown = running.holds.shown;
    closed = running.holds.closed;
  };
  table = λ q _. running.table q refl;
  clean = running.clean;
  others = running.alike.contents;
  calls = none;
}
