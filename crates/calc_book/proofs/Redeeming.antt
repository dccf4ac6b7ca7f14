-- A recalculation in which an open call has ended.
use Rattle.std.proofs.Common.{◌≡◌, ℕ, ◌+◌, ◌≤◌, ◌==◌, Bool, true, false, cond, not, ◌&&◌, ⊎_elim, Option, None, Some, is_some, List, [], ◌∷◌, ◌++◌, length, vec_capacity, refl, ap, sym, subst, ◌∙◌, arith}
use Rattle.std.proofs.lemmas.Bool.{and_parts, or_cases}
use Rattle.std.proofs.lemmas.List.{length-append}
use Rattle.async_handles.specs.declared.open_calls.OpenCall.{OpenCall}
use Rattle.async_handles.specs.OpenCalls.{call_at, calls_without, cell_of, is_live}
use Rattle.calc_book.specs.CalcState.{CalcState}
use Rattle.calc_book.specs.Keeping.{InRound, IsAlikeNow, ReadsInRound}
use Rattle.calc_book.specs.declared.calc_books.CalcBook.{CalcBook}
use Rattle.calc_book.proofs.AskedCalls.{asks-stale, found-home}
use Rattle.calc_round.specs.declared.open_work.OpenWork.{OpenWork}
use Rattle.calc_round.specs.Accepting.{DifferAtCell, ForgetsReader}
use Rattle.calc_round.specs.Readings.{ReadsFollow}
use Rattle.calc_round.specs.Rounds.{HasRoom, IsWorking, has_call}
use Rattle.calc_round.proofs.PublicLaws.{accepted-reads, accepted-working}
use Rattle.cell_refs.specs.declared.grid.Cell.{Cell}
use Rattle.cell_refs.specs.declared.handles.Handle.{Handle}
use Rattle.cell_refs.specs.Cell.{same_cell}
use Rattle.cell_refs.specs.Handle.{same_handle}
use Rattle.cell_refs.proofs.PublicLaws.{same_cell_is, same_cells}
use Rattle.topic_source.specs.Source.{SourceState}
use Rattle.workbook.specs.Meaning.{Setting, asks_call, meaning}
use Rattle.workbook.specs.Stale.{is_stale}

not_both : (b : Bool) → b ≡ true → b ≡ false → ⊥
not_both b h k = let e : true ≡ false = sym h ∙ k in cc

-- a handle is that of its cell
handle-cell : (a b c d : Bool) → (a && (b && (c && d))) ≡ true → c ≡ true
handle-cell a b c d h = (and_parts c d (and_parts b (c && d) (and_parts a (b && (c && d)) h).1).1).0

-- a cell of a live handle has an open call
pub live-called : (calls : List OpenCall) (handle : Handle) → is_live calls handle ≡ true → has_call calls handle.cell ≡ true
live-called [] handle live = absurd (not_both false live refl)
live-called (e ∷ calls) handle live = elim (same_cell handle.cell (cell_of e)) as (λ b. same_cell handle.cell (cell_of e) ≡ b → is_some (cond b (Some e) (call_at calls handle.cell)) ≡ true) [
  | true ↦ λ _. refl
  | false ↦ λ apart. ⊎_elim
      (λ here. absurd (not_both (same_cell handle.cell (cell_of e))
      (same_cells.symm handle.cell (cell_of e)
      ∙ handle-cell (e.call.handle.session == handle.session) (e.call.handle.round == handle.round) (same_cell (cell_of e) handle.cell) (e.call.handle.site == handle.site) here) apart))
      (λ later. live-called calls handle later)
      (or_cases (same_handle e.call.handle handle) (is_live calls handle) live)
] refl

-- without the call of a cell there are fewer calls
no-more : (calls : List OpenCall) (x : Cell) → length (calls_without calls x) ≤ length calls
no-more [] x = omega arith
no-more (e ∷ calls) x = elim (same_cell x (cell_of e)) as (λ b. length (cond (not b) (e ∷ calls_without calls x) (calls_without calls x)) ≤ length (e ∷ calls)) [
  | true ↦ omega (arith, no-more calls x)
  | false ↦ omega (arith, no-more calls x)
]

fewer : (calls : List OpenCall) (x : Cell) → has_call calls x ≡ true → length (calls_without calls x) + 1 ≤ length calls
fewer [] x called = absurd (not_both false called refl)
fewer (e ∷ calls) x called = elim (same_cell x (cell_of e)) as (λ b. is_some (cond b (Some e) (call_at calls x)) ≡ true
    → length (cond (not b) (e ∷ calls_without calls x) (calls_without calls x)) + 1 ≤ length (e ∷ calls)) [
      | true ↦ λ _. omega (arith, no-more calls x)
      | false ↦ λ there. omega (arith, fewer calls x there)
    ] called

-- a cell with an open call is stale
called-stale : (now : Setting) (round : ℕ) (b : CalcBook) (s : CalcState) → InRound now round b s → (q : Cell) → has_call b.work.calls.calls q ≡ true → is_stale s.book s.changed q ≡ true
called-stale now round b s running q called = found (call_at b.work.calls.calls q) refl
  where
    found : (o : Option OpenCall) → call_at b.work.calls.calls q ≡ o → is_stale s.book s.changed q ≡ true
    found None is = absurd (not_both (has_call b.work.calls.calls q) called (ap is_some is))
    found (Some entry) is =
        asks-stale now round b s running q
        (ap (λ c. asks_call (meaning now s.book c)) (sym (found-home q b.work.calls.calls entry is)) ∙ ap asks_call (running.working.asked q entry is).asks)

module _ (earlier later : Setting) (cell : Cell) (differ : DifferAtCell earlier later cell) (round : ℕ) (b : CalcBook) (s : CalcState) (running : InRound earlier round b s)
    (called : has_call b.work.calls.calls cell ≡ true) where
  -- what isn't stale is evaluated over the same
  still-alike : IsAlikeNow later s
  still-alike = record {
    contents = running.alike.contents;
    answer = running.alike.answer ∙ differ.answer;
    formulas = λ q tree is fresh.
        let before = running.alike.formulas q tree is fresh in
        let apart = other q fresh in
        record {
          registered = λ k d below. before.registered k d below ∙ differ.registered _;
          accepted = λ site some within. before.accepted site some within ∙ differ.accepted q site apart;
          topics = λ topic reads. before.topics topic reads ∙ differ.snapshot topic;
        };
  }
    where
      other : (q : Cell) → is_stale s.book s.changed q ≡ false → same_cell cell q ≡ false
      other q fresh = elim (same_cell cell q) as (λ b. same_cell cell q ≡ b → b ≡ false) [
        | true ↦ λ same. absurd (not_both (is_stale s.book s.changed q)
            (ap (is_stale s.book s.changed) (sym (same_cell_is cell q same)) ∙ called-stale earlier round b s running cell called) fresh)
        | false ↦ λ _. refl
      ] refl

  -- the room that the ended call leaves is that of its cell
  module _ (work : OpenWork) (waiting : work.waiting.items ≡ b.work.waiting.items ++ cell ∷ []) (calls : work.calls.calls ≡ calls_without b.work.calls.calls cell)
      (session : work.calls.session ≡ b.work.calls.session) (spare : work.calls.spare ≡ b.work.calls.spare + 1)
      (capacity : vec_capacity work.waiting ≡ vec_capacity b.work.waiting) where
    still-room : HasRoom work
    still-room =
        let longer = ap length waiting ∙ length-append b.work.waiting.items (cell ∷ []) in
        let less = fewer b.work.calls.calls cell called in
        let left = ap length calls in
        let room = running.room in
        (omega (arith, longer, less, left, room.0, capacity), omega (arith, longer, spare, room.1))

    pub still-runs : InRound later round (record b { work = work }) s
    still-runs = record {
      holds = record {
        session = session ∙ running.holds.session;
        book = running.holds.book;
        functions = running.holds.functions;
        ordered = running.holds.ordered;
        completed = running.holds.completed;
        changed = running.holds.changed;
        chain = running.holds.chain;
        shown = running.holds.shown;
        closed = running.holds.closed;
      };
      table = running.table;
      marked = running.marked;
      working =
          subst (λ ws. IsWorking later s.book b.store b.chain.entries ws work.calls.calls round) (sym waiting)
          (subst (λ cs. IsWorking later s.book b.store b.chain.entries (b.work.waiting.items ++ cell ∷ []) cs round) (sym calls)
          (accepted-working earlier later s.book cell differ b.store b.chain.entries b.work.waiting.items b.work.calls.calls round called running.working));
      idle = running.idle;
      room = still-room;
      clean = running.clean;
      alike = still-alike;
    }

  pub still-reads : (old new : SourceState) → ForgetsReader old new cell → ReadsInRound earlier old b → ReadsInRound later new b
  still-reads old new forgets reads =
      subst (λ book. ReadsFollow later new book b.store) (sym running.holds.book)
      (accepted-reads earlier later s.book cell differ b.store b.chain.entries b.work.waiting.items b.work.calls.calls round called running.working old new forgets
      (subst (λ book. ReadsFollow earlier old book b.store) running.holds.book reads))

-- what a handle that was redeemed tells of its calls
pub redeemed-live : {X : Type 0} (live : Bool) (found : X) (result : Option X) (none : Bool) → result ≡ cond live (Some found) None → is_some result ≡ not none → none ≡ false → live ≡ true
redeemed-live true found result none is some out = refl
redeemed-live false found result none is some out = let e : false ≡ true = sym (ap is_some is) ∙ some ∙ ap not out in cc
