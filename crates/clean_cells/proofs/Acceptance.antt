-- The accepted values of a cell that isn't stale: a begin keeps them, and a return is of a stale cell.
use Rattle.std.proofs.Common.{◌≡◌, ℕ, ◌==◌, Bool, true, false, not, ◌||◌, ◌&&◌, cond, List, [], ◌∷◌, Some, None, refl, ap, sym, subst, ◌∙◌}
use Rattle.std.specs.List.{AllByRecursion, cons_option, filter, filter_map, list_any}
use Rattle.std.specs.Map.{keys_of}
use Rattle.std.specs.Option.{option_map_or}
use Rattle.std.proofs.lemmas.Bool.{and_parts}
use Rattle.addin_types.specs.declared.calls.Call.{Call}
use Rattle.cell_refs.specs.declared.grid.Cell.{Cell}
use Rattle.cell_refs.specs.declared.handles.Handle.{Handle}
use Rattle.cell_refs.specs.Cell.{is_among, same_cell}
use Rattle.cell_refs.specs.Handle.{same_handle}
use Rattle.cell_refs.proofs.PublicLaws.{same_cell_is}
use Rattle.workbook.specs.declared.contents.Content.{Content}
use Rattle.workbook.specs.Book.{IsInOrder, formula_cells, is_formula}
use Rattle.workbook.specs.Meaning.{Meaning, Val, Circ, Asks, Open, meaning}
use Rattle.workbook.specs.Stale.{is_stale}
use Rattle.workbook.specs.State.{AcceptedValue, HostTerms, State, accepted_value_at, call_at, call_of_meaning, setting_of, stale_of}
use Rattle.workbook.specs.Step.{is_open_handle, values_of_clean}
use Rattle.workbook.proofs.PublicLaws.{formula_cells-has}

-- ---- a begin
-- what a test lets pass has the values of a cell where it lets the cell's values pass
kept_values : (p : AcceptedValue → Bool) (cell : Cell) → ((a : AcceptedValue) → same_cell a.cell cell ≡ true → p a ≡ true) → (accepted : List AcceptedValue) (site : ℕ)
    → accepted_value_at (filter p accepted) cell site ≡ accepted_value_at accepted cell site
kept_values p cell passes [] site = refl
kept_values p cell passes (a ∷ accepted) site =
    elim (p a) as (λ b. p a ≡ b → accepted_value_at (cond b (a ∷ filter p accepted) (filter p accepted)) cell site
    ≡ cond (same_cell a.cell cell && a.site == site) (Some a.value) (accepted_value_at accepted cell site)) [
      | true ↦ λ e. ap (λ o. cond (same_cell a.cell cell && a.site == site) (Some a.value) o) (kept_values p cell passes accepted site)
      | false ↦ λ e. kept_values p cell passes accepted site ∙ sym (ap (λ b. cond (b && a.site == site) (Some a.value) (accepted_value_at accepted cell site)) (another e (same_cell a.cell cell) refl))
    ] refl
  where
    another : p a ≡ false → (b : Bool) → same_cell a.cell cell ≡ b → same_cell a.cell cell ≡ false
    another e false is = is
    another e true is = absurd (cc (passes a is, e))

-- a formula cell that isn't stale has the values that it had
pub values-clean : (book : List (Cell × Content)) → IsInOrder book → (changed : List Cell) (accepted : List AcceptedValue) (cell : Cell) → is_formula book cell ≡ true → is_stale book changed cell ≡ false → (site : ℕ)
    → accepted_value_at (values_of_clean book changed accepted) cell site ≡ accepted_value_at accepted cell site
values-clean book ordered changed accepted cell formula fresh site =
    kept_values (λ (a : AcceptedValue). is_among (formula_cells book) a.cell && not (is_stale book changed a.cell)) cell passes accepted site
  where
    passes : (a : AcceptedValue) → same_cell a.cell cell ≡ true → (is_among (formula_cells book) a.cell && not (is_stale book changed a.cell)) ≡ true
    passes a same =
        ap (λ c. is_among (formula_cells book) c && not (is_stale book changed c)) (same_cell_is a.cell cell same)
        ∙ ap (λ b. b && not (is_stale book changed cell)) (formula_cells-has book ordered cell ∙ formula)
        ∙ ap not fresh

-- ---- a return
-- the cell of a call that a cell asks for
call_cell : (terms : HostTerms) (round : ℕ) (cell : Cell) (m : Meaning) (call : Call) → call_of_meaning terms round cell m ≡ Some call → call.handle.cell ≡ cell
call_cell terms round cell (Val v) call h = cc
call_cell terms round cell Circ call h = cc
call_cell terms round cell (Asks site name args) call h = same_handle_cell h
  where
    own : Call
    own = record { handle = record { session = terms.session; round = round; cell = cell; site = site }; name = name; args = args }

    same_handle_cell : Some own ≡ Some call → call.handle.cell ≡ cell
    same_handle_cell e = let is : own ≡ call = cc in sym (ap (λ (c : Call). c.handle.cell) is)
call_cell terms round cell Open call h = cc

-- equal handles are of one cell
handle_cell : (a b : Handle) → same_handle a b ≡ true → a.cell ≡ b.cell
handle_cell a b h =
    let rest = (and_parts (a.session == b.session) (a.round == b.round && (same_cell a.cell b.cell && a.site == b.site)) h).1 in
    let within = (and_parts (a.round == b.round) (same_cell a.cell b.cell && a.site == b.site) rest).1 in
    same_cell_is a.cell b.cell (and_parts (same_cell a.cell b.cell) (a.site == b.site) within).0

module _ (terms : HostTerms) (s : State) (handle : Handle) where
  -- one of these cells has the call of the handle
  found_cell : (P : Cell → Type 0) (cells : List Cell) → AllByRecursion P cells
      → list_any (λ (call : Call). same_handle handle call.handle) (filter_map (call_at terms s) cells) ≡ true → P handle.cell
  found_cell P [] each h = cc
  found_cell P (cell ∷ cells) each h =
      elim (call_at terms s cell) as (λ o. call_at terms s cell ≡ o
      → list_any (λ (call : Call). same_handle handle call.handle) (cons_option o (filter_map (call_at terms s) cells)) ≡ true → P handle.cell) [
        | None ↦ λ e k. found_cell P cells each.1 k
        | Some call ↦ λ e k.
            elim (same_handle handle call.handle) as (λ b. same_handle handle call.handle ≡ b
            → (b || list_any (λ (call : Call). same_handle handle call.handle) (filter_map (call_at terms s) cells)) ≡ true → P handle.cell) [
              | true ↦ λ same _. subst P (sym (handle_cell handle call.handle same ∙ call_cell terms s.round cell (meaning (setting_of terms s) s.book.contents cell) call e)) each.0
              | false ↦ λ _ others. found_cell P cells each.1 others
            ] refl k
      ] refl h

  each_stale : (book : List (Cell × Content)) → AllByRecursion (λ c. is_stale s.book.contents s.changed c ≡ true) (keys_of (filter (λ e. is_stale s.book.contents s.changed e.0) book))
  each_stale [] = tt
  each_stale (e ∷ book) =
      elim (is_stale s.book.contents s.changed e.0) as (λ b. is_stale s.book.contents s.changed e.0 ≡ b
      → AllByRecursion (λ c. is_stale s.book.contents s.changed c ≡ true) (keys_of (cond b (e ∷ filter (λ e. is_stale s.book.contents s.changed e.0) book) (filter (λ e. is_stale s.book.contents s.changed e.0) book)))) [
        | true ↦ λ is. (is, each_stale book)
        | false ↦ λ is. each_stale book
      ] refl

  -- the cell of an open handle is stale
  pub open_stale : is_open_handle terms s handle ≡ true → is_stale s.book.contents s.changed handle.cell ≡ true
  open_stale h =
      elim s.running as (λ o. list_any (λ (call : Call). same_handle handle call.handle) (option_map_or (λ running. filter_map (call_at terms s) (stale_of s)) o []) ≡ true
      → is_stale s.book.contents s.changed handle.cell ≡ true) [
        | None ↦ λ k. cc
        | Some running ↦ λ k. found_cell (λ c. is_stale s.book.contents s.changed c ≡ true) (stale_of s) (each_stale s.book.contents) k
      ] h

-- what is accepted for another cell is nothing for this one
pub value_elsewhere : (a : AcceptedValue) (accepted : List AcceptedValue) (cell : Cell) (site : ℕ) → same_cell a.cell cell ≡ false → accepted_value_at (a ∷ accepted) cell site ≡ accepted_value_at accepted cell site
value_elsewhere a accepted cell site other = ap (λ b. cond (b && a.site == site) (Some a.value) (accepted_value_at accepted cell site)) other
