-- A recalculation goes on where one more value is accepted: what doesn't wait for the cell means the same.
use Rattle.std.proofs.Common.{◌≡◌, ℕ, zero, suc, Bool, true, false, not, cond, ◌||◌, ◌&&◌, ◌⊎◌, inl, inr, Option, None, Some, is_some, List, [], ◌∷◌, ◌++◌, refl, ap, sym, subst, ◌∙◌}
use Rattle.std.specs.List.{All, AllByRecursion, IsDistinct, list_any}
use Rattle.std.proofs.lemmas.Bool.{or_cases, or_left, or_right, and_parts, and_from, true≢false}
use Rattle.std.proofs.lemmas.List.Elements.{All-from_recursion}
use Rattle.std.proofs.lemmas.Map.Keys.{IsDistinct-push}
use Rattle.async_handles.specs.declared.open_calls.OpenCall.{OpenCall}
use Rattle.async_handles.specs.OpenCalls.{call_at, calls_without, cell_of}
use Rattle.cell_chain.proofs.PublicLaws.{among-append}
use Rattle.cell_refs.specs.declared.grid.Cell.{Cell}
use Rattle.cell_refs.specs.Cell.{is_among, same_cell}
use Rattle.cell_refs.proofs.PublicLaws.{same_cell_is, same_cells}
use Rattle.cell_store.specs.Gathering.{has_no_value}
use Rattle.cell_store.specs.Store.{StoreState, is_touched, present_at}
use Rattle.cell_values.specs.declared.topics.Topic.{Topic}
use Rattle.cell_values.specs.declared.values.Value.{Value}
use Rattle.formula_parse.specs.declared.nodes.Node.{Node}
use Rattle.formula_parse.specs.Tree.{precedents, site_count, sites_named}
use Rattle.topic_source.specs.Source.{SourceState}
use Rattle.workbook.specs.declared.contents.Content.{Content}
use Rattle.workbook.specs.declared.contents.Content.TheVariants as contents
use Rattle.workbook.specs.Agreement.{AgreesBesideCells, IsAlikeBesideChanged}
use Rattle.workbook.specs.Book.{IsInOrder, by_content, cell_precedents, content_at, content_precedents, formula_count, has_formula, is_formula}
use Rattle.workbook.specs.Circular.{is_circular}
use Rattle.workbook.specs.Meaning.{Asks, Circ, Meaning, Open, Setting, Val, asks_call, is_open, meaning}
use Rattle.workbook.specs.Reads.{cell_reads, is_evaluated, reads_topic, world_in}
use Rattle.workbook.specs.Stale.{is_stale, reaches}
use Rattle.workbook.proofs.PublicLaws.{any_leads, circular-names, meaning_between, reads_between}
use Rattle.calc_round.specs.Accepting.{DifferAtCell, ForgetsReader, ReadsOnAfterAccepting, WorksOnAfterAccepting}
use Rattle.calc_round.specs.Readings.{ReadsFollow}
use Rattle.calc_round.specs.Rounds.{IsAsked, IsWorking, has_call, is_unfinished}
use Rattle.calc_round.proofs.Asking.{any-either, asks-unblocked, blocked-or, names-blocked, value-unblocked}
use Rattle.calc_round.proofs.OpenCells.{call-home, has-ended, still-open}

-- what holds of each of a list
each_of : {X : Type 0} (P : X → Type 0) → ((x : X) → P x) → (xs : List X) → AllByRecursion P xs
each_of P each [] = tt
each_of P each (x ∷ xs) = (each x, each_of P each xs)

passes_not : (b : Bool) → not b ≡ true → b ≡ false
passes_not true h = cc
passes_not false h = refl

second_of : (a b : Bool) → (a && b) ≡ true → b ≡ true
second_of true b h = h
second_of false b h = cc

some_of : {X : Type 0} (o : Option X) → is_some o ≡ true → (x : X) × (o ≡ Some x)
some_of None h = cc
some_of (Some x) h = (x, refl)

-- a meaning that asks is open
asks-open : (m : Meaning) → asks_call m ≡ true → is_open m ≡ true
asks-open (Val v) h = h
asks-open Circ h = h
asks-open (Asks site name args) h = refl
asks-open Open h = refl

-- a cell that reads a topic isn't circular, and names none that asks or waits
reads-closed : (setting : Setting) (book : List (Cell × Content)) (q : Cell) (t : Topic) (content : Option Content)
    → by_content (λ v. false) (λ tree. is_evaluated setting book q tree && reads_topic (world_in setting book q) setting.snapshot tree t) content ≡ true
    → (is_circular book q ≡ false) × (list_any (λ d. is_open (meaning setting book d)) (content_precedents content q.sheet) ≡ false)
reads-closed setting book q t None h = cc
reads-closed setting book q t (Some (contents.Num n)) h = cc
reads-closed setting book q t (Some (contents.Text text)) h = cc
reads-closed setting book q t (Some (contents.Bool b)) h = cc
reads-closed setting book q t (Some (contents.Error e)) h = cc
reads-closed setting book q t (Some (contents.Formula tree)) h =
    let evaluated = (and_parts (is_evaluated setting book q tree) _ h).0 in
    let both = and_parts (not (is_circular book q)) _ evaluated in
    (passes_not (is_circular book q) both.0, passes_not (list_any (λ d. is_open (meaning setting book d)) (precedents tree q.sheet)) both.1)

module _ (earlier later : Setting) (book : List (Cell × Content)) (cell : Cell) (differ : DifferAtCell earlier later cell) where
  -- the cell alone
  abbrev changed : List Cell
  changed = cell ∷ []

  alone : (q : Cell) → is_among changed q ≡ true → q ≡ cell
  alone q h = elim (or_cases (same_cell q cell) false h) as (λ _. q ≡ cell) [
    | inl same ↦ same_cell_is q cell same
    | inr never ↦ absurd (true≢false (sym never))
  ]

  itself : is_among changed cell ≡ true
  itself = or_left (same_cell cell cell) false (same_cells.refl cell)

  reaches_itself : (n : ℕ) → reaches book changed n cell ≡ true
  reaches_itself zero = itself
  reaches_itself (suc n) = or_left (is_among changed cell) _ itself

  -- a formula cell that doesn't reach the cell is another
  fresh_apart : (q : Cell) → is_formula book q ≡ true → is_stale book changed q ≡ false → same_cell cell q ≡ false
  fresh_apart q formula fresh = elim (same_cell cell q) as (λ b. same_cell cell q ≡ b → b ≡ false) [
    | true ↦ λ same. absurd (true≢false (sym (and_from (is_formula book q) _ formula
        (ap (reaches book changed (formula_count book)) (sym (same_cell_is cell q same)) ∙ reaches_itself (formula_count book))) ∙ fresh))
    | false ↦ λ other. refl
  ] refl

  -- so all is alike beside the cell
  alike : IsAlikeBesideChanged earlier later book book changed
  alike = record {
    contents = λ q unchanged. refl;
    answer = differ.answer;
    formulas = λ q tree is fresh. record {
      registered = All-from_recursion _ (sites_named tree) (each_of _ differ.registered (sites_named tree));
      accepted = λ site low high. differ.accepted q site (fresh_apart q (formula_there q tree is) fresh);
      topics = λ topic reads. differ.snapshot topic;
    };
  }
    where
      formula_there : (q : Cell) (tree : Node) → content_at book q ≡ Some (contents.Formula tree) → is_formula book q ≡ true
      formula_there q tree is = ap has_formula is

  -- ---- where the cell asks, what reaches it is circular or waits
  module _ (ordered : IsInOrder book) (asks : asks_call (meaning earlier book cell) ≡ true) where
    -- whether a cell is circular, asks or waits
    abbrev is_blocked : Cell → Bool
    is_blocked q = is_circular book q || is_open (meaning earlier book q)

    -- whether a cell names one that is
    abbrev names_blocked : Cell → Bool
    names_blocked q = list_any is_blocked (cell_precedents book q)

    blocked_itself : (q : Cell) → q ≡ cell → is_blocked q ≡ true
    blocked_itself q same = or_right (is_circular book q) _ (ap (λ d. is_open (meaning earlier book d)) same ∙ asks-open (meaning earlier book cell) asks)

    reaches_blocked : (n : ℕ) (q : Cell) → reaches book changed n q ≡ true → is_blocked q ≡ true
    reaches_blocked zero q h = blocked_itself q (alone q h)
    reaches_blocked (suc n) q h =
        elim (or_cases (is_among changed q) (list_any (reaches book changed n) (cell_precedents book q)) h) as (λ _. is_blocked q ≡ true) [
          | inl here ↦ blocked_itself q (alone q here)
          | inr later ↦ blocked-or earlier book ordered q (names-blocked earlier book ordered q
              (any_leads (reaches book changed n) is_blocked (reaches_blocked n) (cell_precedents book q) later))
        ]

    other_apart : (q : Cell) → same_cell cell q ≡ false → is_among changed q ≡ true → ⊥
    other_apart q other h = true≢false (sym (same_cells.refl cell) ∙ ap (same_cell cell) (sym (alone q h)) ∙ other)

    -- another one that reaches it names such a cell
    reaches_named : (n : ℕ) (q : Cell) → same_cell cell q ≡ false → reaches book changed n q ≡ true → names_blocked q ≡ true
    reaches_named zero q other h = absurd (other_apart q other h)
    reaches_named (suc n) q other h =
        elim (or_cases (is_among changed q) (list_any (reaches book changed n) (cell_precedents book q)) h) as (λ _. names_blocked q ≡ true) [
          | inl here ↦ absurd (other_apart q other here)
          | inr later ↦ any_leads (reaches book changed n) is_blocked (reaches_blocked n) (cell_precedents book q) later
        ]

    module _ (q : Cell) (other : same_cell cell q ≡ false) (unblocked : names_blocked q ≡ true → ⊥) where
      fresh : is_stale book changed q ≡ false
      fresh = elim (is_stale book changed q) as (λ b. is_stale book changed q ≡ b → b ≡ false) [
        | true ↦ λ stale. absurd (unblocked (reaches_named (formula_count book) q other (second_of (is_formula book q) _ stale)))
        | false ↦ λ _. refl
      ] refl

      unchanged : is_among changed q ≡ false
      unchanged = ap (λ b. b || false) (same_cells.symm q cell ∙ other)

      means_same : meaning earlier book q ≡ meaning later book q
      means_same = meaning_between earlier later book book changed ordered ordered alike q unchanged fresh

      reads_same : (t : Topic) → cell_reads earlier book q t ≡ cell_reads later book q t
      reads_same = reads_between earlier later book book changed ordered ordered alike q unchanged fresh

    -- a cell that has a value names none
    value_unblocked : (q : Cell) (v : Value) → meaning earlier book q ≡ Val v → names_blocked q ≡ true → ⊥
    value_unblocked q v means blocked = value-unblocked earlier book ordered q v means (names-blocked earlier book ordered q blocked)

    -- nor does one that asks
    asks_unblocked : (q : Cell) → asks_call (meaning earlier book q) ≡ true → names_blocked q ≡ true → ⊥
    asks_unblocked q asks_too blocked = asks-unblocked earlier book ordered q asks_too (names-blocked earlier book ordered q blocked)

    -- nor one that reads a topic
    reads_unblocked : (q : Cell) (t : Topic) → cell_reads earlier book q t ≡ true → names_blocked q ≡ true → ⊥
    reads_unblocked q t read blocked =
        let closed = reads-closed earlier book q t (content_at book q) read in
        elim (any-either (is_circular book) (λ d. is_open (meaning earlier book d)) (cell_precedents book q) blocked) as (λ _. ⊥) [
          | inl circular ↦ true≢false (sym (circular-names book ordered q ∙ circular) ∙ closed.0)
          | inr waits ↦ true≢false (sym waits ∙ closed.1)
        ]

  -- ---- the bookkeeping
  module _ (store : StoreState) (entries pending : List Cell) (calls : List OpenCall) (round : ℕ) (called : has_call calls cell ≡ true)
      (working : IsWorking earlier book store entries pending calls round) where
    its : (entry : OpenCall) × (call_at calls cell ≡ Some entry)
    its = some_of (call_at calls cell) called

    home : cell_of its.0 ≡ cell
    home = call-home calls cell its.0 its.1

    here : IsAsked earlier book store entries round its.0
    here = working.asked cell its.0 its.1

    asks : asks_call (meaning earlier book cell) ≡ true
    asks = ap (λ d. asks_call (meaning earlier book d)) (sym home) ∙ ap asks_call here.asks

    entry_here : (is_among entries cell && is_unfinished store cell) ≡ true
    entry_here = ap (λ d. is_among entries d && is_unfinished store d) (sym home) ∙ here.entry

    -- a cell that has its value is another
    value_apart : (q : Cell) (v : Value) → present_at store q ≡ Some (Some v) → same_cell cell q ≡ false
    value_apart q v h = elim (same_cell cell q) as (λ b. same_cell cell q ≡ b → b ≡ false) [
      | true ↦ λ same.
          let unfinished = second_of (is_among entries cell) (is_unfinished store cell) entry_here in
          let no : false ≡ true = ap has_no_value (sym h) ∙ ap (is_unfinished store) (sym (same_cell_is cell q same)) ∙ unfinished in
          absurd (true≢false (sym no))
      | false ↦ λ other. refl
    ] refl

    value_after : (q : Cell) (v : Value) → present_at store q ≡ Some (Some v) → meaning later book q ≡ Val v
    value_after q v h =
        let means = working.means.value q v h in
        sym (means_same working.ordered asks q (value_apart q v h) (value_unblocked working.ordered asks q v means)) ∙ means

    lacking : is_among pending cell ≡ false
    lacking = elim (is_among pending cell) as (λ b. is_among pending cell ≡ b → b ≡ false) [
      | true ↦ λ among.
          let parts = and_parts (is_among entries cell) _ (working.pending_open cell among) in
          let uncalled = (and_parts (is_unfinished store cell) (not (has_call calls cell)) parts.1).1 in
          absurd (true≢false (sym uncalled ∙ ap not called))
      | false ↦ λ _. refl
    ] refl

    has_after : (q : Cell) → same_cell cell q ≡ false → has_call (calls_without calls cell) q ≡ has_call calls q
    has_after q other = has-ended calls cell q ∙ ap (λ b. not b && has_call calls q) (same_cells.symm q cell ∙ other)

    gone : has_call (calls_without calls cell) cell ≡ false
    gone = has-ended calls cell cell ∙ ap (λ b. not b && has_call calls cell) (same_cells.refl cell)

    -- what holds of the cell and of the others
    either : (P : Cell → Type 0) (q : Cell) → P cell → (same_cell cell q ≡ false → P q) → P q
    either P q one others = elim (same_cell cell q) as (λ b. same_cell cell q ≡ b → P q) [
      | true ↦ λ same. subst P (same_cell_is cell q same) one
      | false ↦ others
    ] refl

    among_other : (q : Cell) → same_cell cell q ≡ false → is_among (pending ++ cell ∷ []) q ≡ is_among pending q
    among_other q other = among-append pending cell q ∙ lone (is_among pending q) (same_cell q cell) (same_cells.symm q cell ∙ other)
      where
        lone : (a b : Bool) → b ≡ false → (a || b) ≡ a
        lone true b h = refl
        lone false b h = h

    among_here : is_among (pending ++ cell ∷ []) cell ≡ true
    among_here = among-append pending cell cell ∙ or_right (is_among pending cell) _ (same_cells.refl cell)

    open_after : (q : Cell) → is_among (pending ++ cell ∷ []) q ≡ true
        → (is_among entries q && (is_unfinished store q && not (has_call (calls_without calls cell) q))) ≡ true
    open_after q = either (λ d. is_among (pending ++ cell ∷ []) d ≡ true → (is_among entries d && (is_unfinished store d && not (has_call (calls_without calls cell) d))) ≡ true) q
        (λ _. let parts = and_parts (is_among entries cell) (is_unfinished store cell) entry_here in
        and_from _ _ parts.0 (and_from _ _ parts.1 (ap not gone)))
        (λ other h. ap (λ b. is_among entries q && (is_unfinished store q && not b)) (has_after q other) ∙ working.pending_open q (sym (among_other q other) ∙ h))

    touched_after : (q : Cell) → is_among (pending ++ cell ∷ []) q ≡ true → is_touched store q ≡ true
    touched_after q = either (λ d. is_among (pending ++ cell ∷ []) d ≡ true → is_touched store d ≡ true) q
        (λ _. ap (is_touched store) (sym home) ∙ here.touched)
        (λ other h. working.touched q (sym (among_other q other) ∙ h))

    asked_after : (q : Cell) (entry : OpenCall) → call_at (calls_without calls cell) q ≡ Some entry → IsAsked later book store entries round entry
    asked_after q entry h =
        let still = still-open calls cell q entry h in
        let is = working.asked q entry still.1 in
        let other : same_cell cell (cell_of entry) ≡ false = ap (same_cell cell) (call-home calls q entry still.1) ∙ same_cells.symm cell q ∙ still.0 in
        record {
          in_round = is.in_round;
          asks = sym (means_same working.ordered asks (cell_of entry) other (asks_unblocked working.ordered asks (cell_of entry) (ap asks_call is.asks))) ∙ is.asks;
          entry = is.entry;
          touched = is.touched;
        }

    left_after : (q : Cell) → is_unfinished store q ≡ true → (is_circular book q || (is_among (pending ++ cell ∷ []) q || has_call (calls_without calls cell) q)) ≡ true
    left_after q = either (λ d. is_unfinished store d ≡ true → (is_circular book d || (is_among (pending ++ cell ∷ []) d || has_call (calls_without calls cell) d)) ≡ true) q
        (λ _. or_right (is_circular book cell) _ (or_left _ _ among_here))
        (λ other h. ap (λ b. is_circular book q || (b || has_call (calls_without calls cell) q)) (among_other q other)
        ∙ ap (λ b. is_circular book q || (is_among pending q || b)) (has_after q other) ∙ working.left q h)

    works_on : IsWorking later book store entries (pending ++ cell ∷ []) (calls_without calls cell) round
    works_on = record {
      means = record {
        content = working.means.content;
        value = value_after;
        formula = working.means.formula;
      };
      ordered = working.ordered;
      entries_once = working.entries_once;
      pending_once = IsDistinct-push same_cells pending cell working.pending_once lacking;
      pending_open = open_after;
      touched = touched_after;
      asked = asked_after;
      left = left_after;
    }

    -- ---- the readings
    module _ (old new : SourceState) (forgets : ForgetsReader old new cell) (follow : ReadsFollow earlier old book store) where
      noted_before : (t : Topic) (q : Cell) → new.has_read t q ≡ true → (same_cell cell q ≡ false) × (old.has_read t q ≡ true)
      noted_before t q h =
          let both = and_parts (not (same_cell cell q)) (old.has_read t q) (sym (forgets.noted t q) ∙ h) in
          (passes_not (same_cell cell q) both.0, both.1)

      reads_on : ReadsFollow later new book store
      reads_on = record {
        sound = λ t q h.
            let before = noted_before t q h in
            let read = follow.sound t q before.1 in
            sym (reads_same working.ordered asks q before.0 (reads_unblocked working.ordered asks q t read) t) ∙ read;
        served = λ t q h. forgets.served t ∙ follow.served t q (noted_before t q h).1;
        complete = λ t q v h read served.
            let other = value_apart q v h in
            let same = reads_same working.ordered asks q other (value_unblocked working.ordered asks q v (working.means.value q v h)) t in
            forgets.noted t q ∙ and_from _ _ (ap not other) (follow.complete t q v h (same ∙ read) (sym (forgets.served t) ∙ served));
      }

  pub accepted-working : WorksOnAfterAccepting earlier later book cell
  accepted-working store entries pending calls round called working = works_on store entries pending calls round called working

  pub accepted-reads : ReadsOnAfterAccepting earlier later book cell
  accepted-reads store entries pending calls round called working old new forgets follow = reads_on store entries pending calls round called working old new forgets follow
