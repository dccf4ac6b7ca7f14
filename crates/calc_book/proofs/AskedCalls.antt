-- The open calls of a recalculation that is settled are those for which stale cells ask.
use Rattle.std.proofs.Common.{◌≡◌, ℕ, ◌==◌, nat_lt, Bool, true, false, cond, ◌||◌, ◌&&◌, length, Option, None, Some, is_some, List, [], ◌∷◌, map, refl, ap, sym, subst, ◌∙◌, arith}
use Rattle.std.specs.List.{AllByRecursion, filter, filter_map, cons_option, list_any}
use Rattle.std.specs.List.Sorted.{IsStrictlySortedBy}
use Rattle.std.specs.Map.{keys_of, lookup}
use Rattle.std.specs.Option.{option_map}
use Rattle.std.specs.declared.cmp.Ordering.TheVariants.{Less}
use Rattle.std.specs.Cmp.{nat_eq_equiv}
use Rattle.std.proofs.lemmas.Bool.{and_from, lt-ltb}
use Rattle.std.proofs.lemmas.List.Kept.{IsStrictlySortedBy-filter}
use Rattle.std.proofs.lemmas.Option.{none-some}
use Rattle.addin_types.specs.declared.calls.Call.{Call}
use Rattle.async_handles.specs.declared.open_calls.OpenCall.{OpenCall}
use Rattle.async_handles.specs.OpenCalls.{AreBehind, AreOpenCalls, IsInCellOrder, call_at, cell_of, first_call, handle_of, is_live}
use Rattle.async_handles.proofs.PublicLaws.{is_its, live_is}
use Rattle.calc_book.specs.CalcState.{CalcState, asked_calls}
use Rattle.calc_book.specs.Keeping.{InRound, IsSettled}
use Rattle.calc_book.specs.declared.calc_books.CalcBook.{CalcBook}
use Rattle.calc_book.proofs.BeginningMeans.{asks-formula, three}
use Rattle.calc_book.proofs.SettleLaws.{stale-has, stale-sorted}
use Rattle.calc_round.specs.Rounds.{has_call}
use Rattle.cell_refs.specs.declared.grid.Cell.{Cell}
use Rattle.cell_refs.specs.Cell.{cell_cmp, is_among, same_cell}
use Rattle.cell_refs.specs.declared.handles.Handle.{Handle}
use Rattle.cell_refs.specs.Handle.{same_handle}
use Rattle.cell_refs.proofs.PublicLaws.{same_cell_is, same_cells}
use Rattle.cell_store.proofs.PublicLaws.{equal-alike}
use Rattle.workbook.specs.Book.{formula_count}
use Rattle.workbook.specs.Meaning.{Meaning, Setting, Val, Circ, Asks, Open, asks_call, meaning}
use Rattle.workbook.specs.Stale.{is_stale, stale_cells}
use Rattle.workbook.specs.State.{HostTerms, call_of_meaning}
use Rattle.workbook.proofs.PublicLaws.{meaning_between, reaches-among}

not_both : (b : Bool) → b ≡ true → b ≡ false → ⊥
not_both b h k = let e : true ≡ false = sym h ∙ k in cc

-- ---- a cell that asks
-- it is stale
pub asks-stale : (now : Setting) (round : ℕ) (b : CalcBook) (s : CalcState) → InRound now round b s → (q : Cell) → asks_call (meaning now s.book q) ≡ true → is_stale s.book s.changed q ≡ true
asks-stale now round b s running q asks = three (is_stale s.book s.changed q ≡ true) (is_stale s.book s.changed q) (is_among s.changed q)
    (λ stale. stale)
    (λ fresh here. and_from _ _ (asks-formula s.book running.holds.ordered now q asks) (reaches-among s.book running.holds.ordered s.changed (formula_count s.book) q here))
    (λ fresh unchanged. absurd (not_both (asks_call (meaning now s.book q)) asks
    (ap asks_call (sym (meaning_between s.setting now s.completed s.book s.changed running.holds.completed running.holds.ordered running.alike q unchanged fresh)) ∙ running.holds.closed q)))

-- a meaning that doesn't ask gives no call
unasked : (terms : HostTerms) (round : ℕ) (q : Cell) (m : Meaning) → (asks_call m ≡ true → ⊥) → call_of_meaning terms round q m ≡ None
unasked terms round q (Val v) silent = refl
unasked terms round q Circ silent = refl
unasked terms round q (Asks site name args) silent = absurd (silent refl)
unasked terms round q Open silent = refl

-- ---- an open call
-- what holds of all calls holds of the one that is found
found-holds : (P : OpenCall → Type 0) (q : Cell) (calls : List OpenCall) (entry : OpenCall) → AllByRecursion P calls → call_at calls q ≡ Some entry → P entry
found-holds P q [] entry all is = absurd (none-some entry is)
found-holds P q (e ∷ calls) entry all is = elim (same_cell q (cell_of e)) as (λ b. cond b (Some e) (call_at calls q) ≡ Some entry → P entry) [
  | true ↦ λ is. let same : e ≡ entry = cc in subst P same all.0
  | false ↦ λ is. found-holds P q calls entry all.1 is
] is

-- and it is the call of the cell
pub found-home : (q : Cell) (calls : List OpenCall) (entry : OpenCall) → call_at calls q ≡ Some entry → cell_of entry ≡ q
found-home q [] entry is = absurd (none-some entry is)
found-home q (e ∷ calls) entry is = elim (same_cell q (cell_of e)) as (λ b. same_cell q (cell_of e) ≡ b → cond b (Some e) (call_at calls q) ≡ Some entry → cell_of entry ≡ q) [
  | true ↦ λ same is. let one : e ≡ entry = cc in ap cell_of (sym one) ∙ sym (same_cell_is q (cell_of e) same)
  | false ↦ λ _ is. found-home q calls entry is
] refl is

-- a call with another handle, of the same site
abbrev handled : Call → ℕ → ℕ → Cell → Call
handled call session round q =
    record { handle = record { session = session; round = round; cell = q; site = call.handle.site }; name = call.name; args = call.args }

own-call : (call : Call) (session round : ℕ) (q : Cell) → call.handle.session ≡ session → call.handle.round ≡ round → call.handle.cell ≡ q → call ≡ handled call session round q
own-call call session round q one two three =
    ap (λ n. handled call n call.handle.round call.handle.cell) one
    ∙ ap (λ n. handled call session n call.handle.cell) two
    ∙ ap (handled call session round) three

-- ---- lists of calls by their cells
-- calls with their cells
abbrev with_cells : List OpenCall → List (Cell × Call)
with_cells calls = map (λ entry. (cell_of entry, entry.call)) calls

with_cells-found : (calls : List OpenCall) (q : Cell) → lookup (same_cell q) (with_cells calls) ≡ option_map (λ entry. entry.call) (call_at calls q)
with_cells-found [] q = refl
with_cells-found (e ∷ calls) q = elim (same_cell q (cell_of e)) as (λ b. cond b (Some e.call) (lookup (same_cell q) (with_cells calls)) ≡ option_map (λ entry. entry.call) (cond b (Some e) (call_at calls q))) [
  | true ↦ refl
  | false ↦ with_cells-found calls q
]

with_cells-behind : (c : Cell) (calls : List OpenCall) → AreBehind c calls → AllByRecursion (λ y. cell_cmp c y ≡ Less) (keys_of (with_cells calls))
with_cells-behind c [] behind = tt
with_cells-behind c (e ∷ calls) behind = (behind.0, with_cells-behind c calls behind.1)

with_cells-ordered : (calls : List OpenCall) → IsInCellOrder calls → IsStrictlySortedBy cell_cmp (keys_of (with_cells calls))
unfolding IsStrictlySortedBy
with_cells-ordered [] order = tt
with_cells-ordered (e ∷ calls) order = (with_cells-behind (cell_of e) calls order.0, with_cells-ordered calls order.1)

with_cells-calls : (calls : List OpenCall) → map (λ e. e.1) (with_cells calls) ≡ map (λ entry. entry.call) calls
with_cells-calls [] = refl
with_cells-calls (e ∷ calls) = ap (λ cs. e.call ∷ cs) (with_cells-calls calls)

module _ (f : Cell → Option Call) where
  abbrev at_cell : Cell → Option (Cell × Call)
  at_cell c = option_map (λ call. (c, call)) (f c)

  asked-keys : (cells : List Cell) → keys_of (filter_map at_cell cells) ≡ filter (λ c. is_some (f c)) cells
  asked-keys [] = refl
  asked-keys (c ∷ cells) = elim (f c) as (λ o. keys_of (cons_option (option_map (λ call. (c, call)) o) (filter_map at_cell cells)) ≡ cond (is_some o) (c ∷ filter (λ d. is_some (f d)) cells) (filter (λ d. is_some (f d)) cells)) [
    | None ↦ asked-keys cells
    | Some call ↦ ap (λ cs. c ∷ cs) (asked-keys cells)
  ]

  asked-calls : (cells : List Cell) → map (λ e. e.1) (filter_map at_cell cells) ≡ filter_map f cells
  asked-calls [] = refl
  asked-calls (c ∷ cells) = elim (f c) as (λ o. map (λ e. e.1) (cons_option (option_map (λ call. (c, call)) o) (filter_map at_cell cells)) ≡ cons_option o (filter_map f cells)) [
    | None ↦ asked-calls cells
    | Some call ↦ ap (λ cs. call ∷ cs) (asked-calls cells)
  ]

  cond-none : (b : Bool) (o : Option Call) → o ≡ None → cond b o None ≡ None
  cond-none true o is = is
  cond-none false o is = refl

  asked-there : (q c : Cell) (rest : List (Cell × Call)) → same_cell q c ≡ false → (o : Option Call)
      → lookup (same_cell q) (cons_option (option_map (λ call. (c, call)) o) rest) ≡ lookup (same_cell q) rest
  asked-there q c rest apart None = refl
  asked-there q c rest apart (Some call) = ap (λ b. cond b (Some call) (lookup (same_cell q) rest)) apart

  asked-here : (q c : Cell) (rest : List (Cell × Call)) (b : Bool) → same_cell q c ≡ true → lookup (same_cell q) rest ≡ cond b (f q) None → (o : Option Call) → f q ≡ o
      → lookup (same_cell q) (cons_option (option_map (λ call. (c, call)) o) rest) ≡ o
  asked-here q c rest b same found None is = found ∙ cond-none b (f q) is
  asked-here q c rest b same found (Some call) is = ap (λ b. cond b (Some call) (lookup (same_cell q) rest)) same

  -- what is asked for at the cells of the list
  asked-found : (q : Cell) (cells : List Cell) → lookup (same_cell q) (filter_map at_cell cells) ≡ cond (is_among cells q) (f q) None
  asked-found q [] = refl
  asked-found q (c ∷ cells) = elim (same_cell q c) as (λ b. same_cell q c ≡ b → lookup (same_cell q) (filter_map at_cell (c ∷ cells)) ≡ cond (b || is_among cells q) (f q) None) [
    | true ↦ λ same.
        let is = same_cell_is q c same in
        asked-here q c (filter_map at_cell cells) (is_among cells q) same (asked-found q cells) (f c) (ap f is) ∙ sym (ap f is)
    | false ↦ λ apart. asked-there q c (filter_map at_cell cells) apart (f c) ∙ asked-found q cells
  ] refl

  -- calls in cell order that are asked for at their cells, and are all that is asked for, are the ones asked for
  asked-are : (cells : List Cell) (calls : List OpenCall) → IsStrictlySortedBy cell_cmp cells → IsInCellOrder calls
      → ((q : Cell) → cond (is_among cells q) (f q) None ≡ option_map (λ entry. entry.call) (call_at calls q))
      → map (λ entry. entry.call) calls ≡ filter_map f cells
  asked-are cells calls sorted order alike =
      sym (with_cells-calls calls)
      ∙ ap (map (λ e. e.1))
      (equal-alike (with_cells calls) (filter_map at_cell cells) (with_cells-ordered calls order)
      (subst (IsStrictlySortedBy cell_cmp) (sym (asked-keys cells)) (IsStrictlySortedBy-filter cell_cmp (λ c. is_some (f c)) cells sorted))
      (λ q. with_cells-found calls q ∙ sym (alike q) ∙ sym (asked-found q cells)))
      ∙ asked-calls cells

-- ---- the calls of a recalculation
module _ (terms : HostTerms) (now : Setting) (round : ℕ) (b : CalcBook) (s : CalcState) (same : terms.session ≡ s.session) (settled : IsSettled now round b s)
    (opened : AreOpenCalls b.work.calls) where
  abbrev asked : Cell → Option Call
  asked q = call_of_meaning terms round q (meaning now s.book q)

  asked-at : (q : Cell) → asked q ≡ option_map (λ entry. entry.call) (call_at b.work.calls.calls q)
  asked-at q = either (call_at b.work.calls.calls q) refl
    where
      either : (o : Option OpenCall) → call_at b.work.calls.calls q ≡ o → asked q ≡ option_map (λ entry. entry.call) o
      either None is = unasked terms round q (meaning now s.book q)
          (λ asks. not_both (has_call b.work.calls.calls q) (settled.worked.asked q asks) (ap is_some is))
      either (Some entry) is =
          let its = settled.running.working.asked q entry is in
          let home = found-home q b.work.calls.calls entry is in
          let session = found-holds (λ e. e.call.handle.session ≡ b.work.calls.session) q b.work.calls.calls entry opened.session is
          ∙ settled.running.holds.session ∙ sym same in
          ap (call_of_meaning terms round q) (ap (meaning now s.book) (sym home) ∙ its.asks)
          ∙ sym (ap Some (own-call entry.call terms.session round q session its.in_round home))

  stale-asked : (q : Cell) → cond (is_among (stale_cells s.book s.changed) q) (asked q) None ≡ asked q
  stale-asked q = either (is_among (stale_cells s.book s.changed) q) refl
    where
      either : (there : Bool) → is_among (stale_cells s.book s.changed) q ≡ there → cond there (asked q) None ≡ asked q
      either true _ = refl
      either false none = sym (unasked terms round q (meaning now s.book q)
          (λ asks. not_both (is_stale s.book s.changed q) (asks-stale now round b s settled.running q asks) (sym (stale-has s.book s.changed q) ∙ none)))

  pub open-asked : map (λ entry. entry.call) b.work.calls.calls ≡ asked_calls terms now round s
  open-asked = asked-are asked (stale_cells s.book s.changed) b.work.calls.calls (stale-sorted s.book s.changed settled.running.holds.ordered) opened.order
      (λ q. stale-asked q ∙ asked-at q)

-- ---- whether there is one
any-there : (calls : List OpenCall) → is_some (option_map (λ (entry : OpenCall). entry.call.handle) (first_call calls)) ≡ nat_lt 0 (length (map (λ (entry : OpenCall). entry.call) calls))
any-there [] = refl
any-there (entry ∷ calls) = sym (lt-ltb 0 (length (map (λ (entry : OpenCall). entry.call) (entry ∷ calls))) (omega arith))

pub none-there : (calls : List OpenCall) (first : Option Handle) (any : Bool) → first ≡ option_map (λ entry. entry.call.handle) (first_call calls) → any ≡ is_some first → any ≡ false → calls ≡ []
none-there [] first any is some none = refl
none-there (entry ∷ calls) first any is some none = let no : true ≡ false = sym (some ∙ ap is_some is) ∙ none in cc

pub some-asked : (terms : HostTerms) (now : Setting) (round : ℕ) (b : CalcBook) (s : CalcState) → terms.session ≡ s.session → IsSettled now round b s → AreOpenCalls b.work.calls
    → (first : Option Handle) (any : Bool) → first ≡ option_map (λ entry. entry.call.handle) (first_call b.work.calls.calls) → any ≡ is_some first
    → any ≡ nat_lt 0 (length (asked_calls terms now round s))
some-asked terms now round b s same settled opened first any is some =
    some ∙ ap is_some is ∙ any-there b.work.calls.calls ∙ ap (λ calls. nat_lt 0 (length calls)) (open-asked terms now round b s same settled opened)

-- ---- whether one has this handle
handle-turned : (a b : Handle) → same_handle a b ≡ same_handle b a
handle-turned a b =
    ap (λ t. t && (a.round == b.round && (same_cell a.cell b.cell && a.site == b.site))) (nat_eq_equiv.symm a.session b.session)
    ∙ ap (λ t. b.session == a.session && (t && (same_cell a.cell b.cell && a.site == b.site))) (nat_eq_equiv.symm a.round b.round)
    ∙ ap (λ t. b.session == a.session && (b.round == a.round && (t && a.site == b.site))) (same_cells.symm a.cell b.cell)
    ∙ ap (λ t. b.session == a.session && (b.round == a.round && (same_cell b.cell a.cell && t))) (nat_eq_equiv.symm a.site b.site)

live-listed : (handle : Handle) (calls : List OpenCall) → is_live calls handle ≡ list_any (λ (call : Call). same_handle handle call.handle) (map (λ (entry : OpenCall). entry.call) calls)
live-listed handle [] = refl
live-listed handle (entry ∷ calls) =
    ap (λ b. b || is_live calls handle) (handle-turned entry.call.handle handle)
    ∙ ap (λ b. same_handle handle entry.call.handle || b) (live-listed handle calls)

pub live-asked : (terms : HostTerms) (now : Setting) (round : ℕ) (b : CalcBook) (s : CalcState) → terms.session ≡ s.session → IsSettled now round b s → AreOpenCalls b.work.calls
    → (handle : Handle) → is_live b.work.calls.calls handle ≡ list_any (λ (call : Call). same_handle handle call.handle) (asked_calls terms now round s)
live-asked terms now round b s same settled opened handle =
    live-listed handle b.work.calls.calls ∙ ap (list_any (λ (call : Call). same_handle handle call.handle)) (open-asked terms now round b s same settled opened)

-- of the handle that a cell has
pub its-live : (calls : List OpenCall) (handle : Handle) → IsInCellOrder calls → (found : Option Handle) → found ≡ handle_of calls handle.cell → is_live calls handle ≡ is_its found handle
its-live calls handle order found is = live_is calls handle order ∙ ap (λ o. is_its o handle) (sym is)
