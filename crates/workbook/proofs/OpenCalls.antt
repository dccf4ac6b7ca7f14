-- Open calls over a history: a call that was open and is so no more is never open again.
use Rattle.std.proofs.Common.{◌≡◌, ℕ, ◌==◌, Bool, true, false, ◌&&◌, ◌||◌, ◌⊎◌, inl, inr, cond, List, [], ◌∷◌, Option, Some, None, refl, ap, sym, subst, ◌∙◌}
use Rattle.std.specs.List.{cons_option, filter_map, list_any}
use Rattle.std.specs.Option.{option_map_or}
use Rattle.std.proofs.lemmas.Bool.{and_parts}
use Rattle.std.proofs.lemmas.Bool.Decides.{Decides-eqb}
use Rattle.addin_types.specs.declared.calls.Call.{Call}
use Rattle.cell_refs.specs.declared.grid.Cell.{Cell}
use Rattle.cell_refs.specs.declared.handles.Handle.{Handle}
use Rattle.cell_refs.specs.Cell.{same_cell}
use Rattle.cell_refs.specs.Handle.{same_handle}
use Rattle.cell_refs.proofs.PublicLaws.{same_cell_is}
use Rattle.cell_values.specs.declared.values.Value.{Value}
use Rattle.workbook.specs.Book.{IsInOrder}
use Rattle.workbook.specs.History.{Attempt, state_after_attempt, state_after_attempts}
use Rattle.workbook.specs.State.{AcceptedValue, HostTerms, State, accepted_value_at, call_at, call_of_meaning, first_state, setting_of, stale_of}
use Rattle.workbook.specs.Step.{after_return, is_open_handle}
use Rattle.workbook.proofs.Asking.{meaning_asks_still}
use Rattle.workbook.proofs.Handles.{Course, Begins, Idles, Stays, Accepts, IsSpent, Past, Over, Written, asked, asked_unaccepted, asking, course, handle_parts, later_past, spent_shut, spent_stays, spent_step}
use Rattle.workbook.proofs.InOrder.{book_ordered}

-- ---- lists of cells
-- where each cell that asks for the call of a handle asks for it later too, the call is found later too
found_still : (now later : Cell → Option Call) (handle : Handle)
    → ((cell : Cell) (call : Call) → now cell ≡ Some call → same_handle handle call.handle ≡ true → later cell ≡ Some call)
    → (cells : List Cell) → list_any (λ (call : Call). same_handle handle call.handle) (filter_map now cells) ≡ true
    → list_any (λ (call : Call). same_handle handle call.handle) (filter_map later cells) ≡ true
found_still now later handle still [] h = h
found_still now later handle still (cell ∷ cells) h =
    elim (now cell) as (λ o. now cell ≡ o → list_any (λ (call : Call). same_handle handle call.handle) (cons_option o (filter_map now cells)) ≡ true
    → list_any (λ (call : Call). same_handle handle call.handle) (cons_option (later cell) (filter_map later cells)) ≡ true) [
      | None ↦ λ _ k. behind (later cell) (found_still now later handle still cells k)
      | Some call ↦ λ e k.
          elim (same_handle handle call.handle) as (λ b. same_handle handle call.handle ≡ b
          → (b || list_any (λ (call : Call). same_handle handle call.handle) (filter_map now cells)) ≡ true
          → list_any (λ (call : Call). same_handle handle call.handle) (cons_option (later cell) (filter_map later cells)) ≡ true) [
            | true ↦ λ same _.
                ap (λ o. list_any (λ (call : Call). same_handle handle call.handle) (cons_option o (filter_map later cells))) (still cell call e same)
                ∙ ap (λ b. b || list_any (λ (call : Call). same_handle handle call.handle) (filter_map later cells)) same
            | false ↦ λ _ others. behind (later cell) (found_still now later handle still cells others)
          ] refl k
    ] refl h
  where
    behind : (o : Option Call) → list_any (λ (call : Call). same_handle handle call.handle) (filter_map later cells) ≡ true
        → list_any (λ (call : Call). same_handle handle call.handle) (cons_option o (filter_map later cells)) ≡ true
    behind None k = k
    behind (Some call) k = either (same_handle handle call.handle) k
      where
        either : (b : Bool) {c : Bool} → c ≡ true → (b || c) ≡ true
        either true e = refl
        either false e = e

-- ---- an accepted value
-- what is accepted stays, where nothing is accepted for the site of a further value
accepted_grows : (a : AcceptedValue) (others : List AcceptedValue) → accepted_value_at others a.cell a.site ≡ None
    → (cell : Cell) (site : ℕ) (v : Value) → accepted_value_at others cell site ≡ Some v → accepted_value_at (a ∷ others) cell site ≡ Some v
accepted_grows a others none cell site v h =
    elim (same_cell a.cell cell && a.site == site) as (λ b. (same_cell a.cell cell && a.site == site) ≡ b → cond b (Some a.value) (accepted_value_at others cell site) ≡ Some v) [
      | true ↦ λ e.
          let parts = and_parts (same_cell a.cell cell) (a.site == site) e in
          not_both (sym none
          ∙ ap (λ c. accepted_value_at others c a.site) (same_cell_is a.cell cell parts.0)
          ∙ ap (accepted_value_at others cell) ((Decides-eqb a.site site).0 parts.1)
          ∙ h)
      | false ↦ λ _. h
    ] refl
  where
    not_both : None ≡ Some v → Some a.value ≡ Some v
    not_both k = cc

module _ (terms : HostTerms) (s : State) (ordered : IsInOrder s.book.contents) (a : AcceptedValue) (none : accepted_value_at s.accepted a.cell a.site ≡ None) where
  -- the state in which this value is accepted too
  abbrev accepting : State
  accepting = record s { accepted = a ∷ s.accepted }

  -- a cell asks for the same call as long as no value is accepted for it
  call_still : (handle : Handle) → accepted_value_at (a ∷ s.accepted) handle.cell handle.site ≡ None
      → (cell : Cell) (call : Call) → call_at terms s cell ≡ Some call → same_handle handle call.handle ≡ true → call_at terms accepting cell ≡ Some call
  call_still handle free cell call h same =
      let found = asking terms s cell call h in
      let parts = handle_parts handle call.handle same in
      let at_cell = parts.1 ∙ ap (λ (h : Handle). h.cell) found.handle in
      let at_site = parts.2 ∙ ap (λ (h : Handle). h.site) found.handle in
      let free_here = subst (λ c. accepted_value_at (a ∷ s.accepted) c found.site ≡ None) at_cell (subst (λ n. accepted_value_at (a ∷ s.accepted) handle.cell n ≡ None) at_site free) in
      ap (call_of_meaning terms s.round cell)
      (meaning_asks_still (setting_of terms s) (accepted_value_at (a ∷ s.accepted)) (accepted_grows a s.accepted none) s.book.contents ordered cell found.site found.name found.args free_here found.asks
      ∙ sym found.asks)
      ∙ h

  -- an open handle is open still, where no value is accepted for it
  open_still : (handle : Handle) → accepted_value_at (a ∷ s.accepted) handle.cell handle.site ≡ None → is_open_handle terms s handle ≡ true → is_open_handle terms accepting handle ≡ true
  open_still handle free h =
      elim s.running as (λ o. list_any (λ (call : Call). same_handle handle call.handle) (option_map_or (λ running. filter_map (call_at terms s) (stale_of s)) o []) ≡ true
      → list_any (λ (call : Call). same_handle handle call.handle) (option_map_or (λ running. filter_map (call_at terms accepting) (stale_of s)) o []) ≡ true) [
        | None ↦ λ k. k
        | Some running ↦ λ k. found_still (call_at terms s) (call_at terms accepting) handle (call_still handle free) (stale_of s) k
      ] h

-- ---- every history
-- an open handle in a book in order, or a spent one
abbrev IsOpenOrSpent : HostTerms → Handle → State → Type 0
IsOpenOrSpent terms handle s = IsSpent handle s ⊎ ((is_open_handle terms s handle ≡ true) × IsInOrder s.book.contents)

module _ (terms : HostTerms) (handle : Handle) where
  -- a value is accepted
  accepting_step : (s : State) (other : Handle) (value : Value) → is_open_handle terms s other ≡ true → is_open_handle terms s handle ≡ true → IsInOrder s.book.contents
      → IsOpenOrSpent terms handle (after_return s other value)
  accepting_step s other value open_other opened ordered =
      elim (accepted_value_at (after_return s other value).accepted handle.cell handle.site) as (λ o. accepted_value_at (after_return s other value).accepted handle.cell handle.site ≡ o
      → IsOpenOrSpent terms handle (after_return s other value)) [
        | Some v ↦ λ e. inl (Written (asked terms s handle opened).round v e)
        | None ↦ λ e. inr (
          open_still terms s ordered (record { cell = other.cell; site = other.site; value = value }) (asked_unaccepted terms s other (asked terms s other open_other)) handle e opened,
          ordered,
        )
      ] refl

  -- an open handle is open or spent behind a step
  open_step : (s later : State) → Course terms s later → is_open_handle terms s handle ≡ true → IsInOrder s.book.contents → IsOpenOrSpent terms handle later
  open_step s later (Begins next) opened ordered = inl (Past (later_past handle s later (asked terms s handle opened).round next))
  open_step s later (Idles none same) opened ordered = inl (Over ((asked terms s handle opened).round ∙ sym same) none)
  open_step s later (Stays same) opened ordered = inr (same.open_same handle ∙ opened, subst IsInOrder (sym same.contents) ordered)
  open_step s later (Accepts other value open_other is) opened ordered = subst (IsOpenOrSpent terms handle) (sym is) (accepting_step s other value open_other opened ordered)

  -- and so is one that is open or spent
  either_step : (s later : State) → Course terms s later → IsOpenOrSpent terms handle s → IsOpenOrSpent terms handle later
  either_step s later steps (inl spent) = inl (spent_step terms handle s later steps spent)
  either_step s later steps (inr opened) = open_step s later steps opened.0 opened.1

  -- behind any attempts too
  either_stays : (s : State) (attempts : List Attempt) → IsOpenOrSpent terms handle s → IsOpenOrSpent terms handle (state_after_attempts terms s attempts)
  either_stays s [] h = h
  either_stays s (attempt ∷ attempts) h =
      either_stays (state_after_attempt terms s attempt) attempts
      (either_step s (state_after_attempt terms s attempt) (course terms attempt.failed s attempt.command) h)

  -- one that isn't open is spent
  shut_spent : (s : State) → is_open_handle terms s handle ≡ false → IsOpenOrSpent terms handle s → IsSpent handle s
  shut_spent s shut (inl spent) = spent
  shut_spent s shut (inr opened) = not_both (sym shut ∙ opened.0)
    where
      not_both : false ≡ true → IsSpent handle s
      not_both k = cc

-- a handle that was open and isn't any more is never open again
pub asked_no_more : (terms : HostTerms) (before between behind : List Attempt) (handle : Handle)
    → is_open_handle terms (state_after_attempts terms first_state before) handle ≡ true
    → is_open_handle terms (state_after_attempts terms (state_after_attempts terms first_state before) between) handle ≡ false
    → is_open_handle terms (state_after_attempts terms (state_after_attempts terms (state_after_attempts terms first_state before) between) behind) handle ≡ false
asked_no_more terms before between behind handle opened shut =
    let s = state_after_attempts terms first_state before in
    let t = state_after_attempts terms s between in
    spent_shut terms handle (state_after_attempts terms t behind)
    (spent_stays terms handle t behind
    (shut_spent terms handle t shut (either_stays terms handle s between (inr (opened, book_ordered terms before)))))
