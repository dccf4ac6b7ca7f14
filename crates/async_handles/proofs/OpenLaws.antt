-- Open calls, when one is opened, ended or served.
use Rattle.std.proofs.Common.{◌≡◌, ℕ, ◌+◌, Bool, true, false, cond, not, ◌&&◌, ◌||◌, nat_eq, Option, None, Some, is_some, List, [], ◌∷◌, length, refl, sym, ap, subst, ◌∙◌, true≢false, arith}
use Rattle.std.specs.List.{AllByRecursion}
use Rattle.std.specs.Option.{option_map}
use Rattle.std.proofs.lemmas.Option.{none-some}
use Rattle.std.specs.declared.cmp.Ordering.{Ordering}
use Rattle.std.specs.declared.cmp.Ordering.TheVariants.{Less, Equal, Greater}
use Rattle.std.specs.Ordering.{is_eq, is_lt}
use Rattle.cell_refs.specs.declared.grid.Cell.{Cell}
use Rattle.cell_refs.specs.declared.handles.Handle.{Handle}
use Rattle.cell_refs.specs.Cell.{cell_cmp, same_cell}
use Rattle.cell_refs.specs.Handle.{same_handle}
use Rattle.cell_refs.proofs.PublicLaws.{exact_cells}
use Rattle.async_handles.specs.declared.open_calls.OpenCall.{OpenCall}
use Rattle.async_handles.specs.OpenCalls.{AreBehind, AreOpenCalls, IsInCellOrder, call_at, calls_after_serving, calls_without, cell_of, first_unserved, handle_of, is_live, with_call}
use Rattle.async_handles.proofs.OrderLaws.{behind_further, turned_greater, turned_less}
use Rattle.async_handles.proofs.SplitLaws.{without-behind}

-- where a cell has no handle, it has no call
pub no_call : (calls : List OpenCall) (x : Cell) → handle_of calls x ≡ None → call_at calls x ≡ None
no_call calls x h =
    elim (call_at calls x) as (λ o. option_map (λ entry. entry.call.handle) o ≡ None → o ≡ None) [
      | None ↦ λ h. refl
      | Some e ↦ λ h. absurd (none-some e.call.handle (sym h))
    ] h

-- what holds of all calls and of a new one
pub all_with : (P : OpenCall → Type 0) (calls : List OpenCall) (new : OpenCall) → AllByRecursion P calls → P new → AllByRecursion P (with_call calls new)
all_with P [] new all here = (here, tt)
all_with P (e ∷ calls) new all here =
    elim (is_lt (cell_cmp (cell_of new) (cell_of e))) as (λ b. AllByRecursion P (cond b (new ∷ e ∷ calls) (e ∷ with_call calls new))) [
      | true ↦ (here, all)
      | false ↦ (all.0, all_with P calls new all.1 here)
    ]

-- what holds of all calls holds of some of them
pub all_without : (P : OpenCall → Type 0) (calls : List OpenCall) (x : Cell) → AllByRecursion P calls → AllByRecursion P (calls_without calls x)
all_without P [] x all = tt
all_without P (e ∷ calls) x all =
    elim (same_cell x (cell_of e)) as (λ b. AllByRecursion P (cond (not b) (e ∷ calls_without calls x) (calls_without calls x))) [
      | true ↦ all_without P calls x all.1
      | false ↦ (all.0, all_without P calls x all.1)
    ]

-- what holds of all calls, also of those served, holds after serving
pub all_serving : (P : OpenCall → Type 0) → ((e : OpenCall) → P e → P (record e { is_served = true })) → (calls : List OpenCall) → AllByRecursion P calls → AllByRecursion P (calls_after_serving calls)
all_serving P served [] all = tt
all_serving P served (e ∷ calls) all =
    elim e.is_served as (λ b. AllByRecursion P (cond b (e ∷ calls_after_serving calls) ((record e { is_served = true }) ∷ calls))) [
      | true ↦ (all.0, all_serving P served calls all.1)
      | false ↦ (served e all.0, all.1)
    ]

-- a new call takes its place in the order
order_with_cases : (o : Ordering) (new e : OpenCall) (calls : List OpenCall) → cell_cmp (cell_of new) (cell_of e) ≡ o
    → IsInCellOrder (e ∷ calls) → cond (is_eq o) (Some e) (call_at calls (cell_of new)) ≡ None
    → (call_at calls (cell_of new) ≡ None → IsInCellOrder (with_call calls new))
    → IsInCellOrder (cond (is_lt o) (new ∷ e ∷ calls) (e ∷ with_call calls new))
order_with_cases Less new e calls is order free rest = ((is, behind_further (cell_of new) (cell_of e) calls is order.0), order)
order_with_cases Equal new e calls is order free rest = absurd (none-some e (sym free))
order_with_cases Greater new e calls is order free rest =
    (all_with (λ entry. cell_cmp (cell_of e) (cell_of entry) ≡ Less) calls new order.0 (turned_greater (cell_of new) (cell_of e) is), rest free)

pub order_with : (calls : List OpenCall) (new : OpenCall) → IsInCellOrder calls → call_at calls (cell_of new) ≡ None → IsInCellOrder (with_call calls new)
order_with [] new order free = (tt, tt)
order_with (e ∷ calls) new order free =
    order_with_cases (cell_cmp (cell_of new) (cell_of e)) new e calls refl order free (order_with calls new order.1)

pub order_without : (calls : List OpenCall) (x : Cell) → IsInCellOrder calls → IsInCellOrder (calls_without calls x)
order_without [] x order = tt
order_without (e ∷ calls) x order =
    elim (same_cell x (cell_of e)) as (λ b. IsInCellOrder (cond (not b) (e ∷ calls_without calls x) (calls_without calls x))) [
      | true ↦ order_without calls x order.1
      | false ↦ (all_without (λ entry. cell_cmp (cell_of e) (cell_of entry) ≡ Less) calls x order.0, order_without calls x order.1)
    ]

pub order_serving : (calls : List OpenCall) → IsInCellOrder calls → IsInCellOrder (calls_after_serving calls)
order_serving [] order = tt
order_serving (e ∷ calls) order =
    elim e.is_served as (λ b. IsInCellOrder (cond b (e ∷ calls_after_serving calls) ((record e { is_served = true }) ∷ calls))) [
      | true ↦ (all_serving (λ entry. cell_cmp (cell_of e) (cell_of entry) ≡ Less) (λ f h. h) calls order.0, order_serving calls order.1)
      | false ↦ order
    ]

-- one call more
pub length_with : (calls : List OpenCall) (new : OpenCall) → length (with_call calls new) ≡ length calls + 1
length_with [] new = refl
length_with (e ∷ calls) new =
    elim (is_lt (cell_cmp (cell_of new) (cell_of e))) as (λ b. length (cond b (new ∷ e ∷ calls) (e ∷ with_call calls new)) ≡ length (e ∷ calls) + 1) [
      | true ↦ omega arith
      | false ↦ omega (arith, length_with calls new)
    ]

-- one call less
length_without_cases : (o : Ordering) (x : Cell) (e : OpenCall) (calls : List OpenCall) → cell_cmp x (cell_of e) ≡ o
    → AreBehind (cell_of e) calls → is_some (cond (is_eq o) (Some e) (call_at calls x)) ≡ true
    → (is_some (call_at calls x) ≡ true → length (calls_without calls x) + 1 ≡ length calls)
    → length (cond (not (is_eq o)) (e ∷ calls_without calls x) (calls_without calls x)) + 1 ≡ length (e ∷ calls)
length_without_cases Less x e calls is behind found rest = omega (arith, rest found)
length_without_cases Equal x e calls is behind found rest =
    let same : AreBehind x calls = subst (λ c. AreBehind c calls) (sym (exact_cells x (cell_of e) is)) behind in
    omega (arith, ap length (without-behind x calls same))
length_without_cases Greater x e calls is behind found rest = omega (arith, rest found)

pub length_without : (calls : List OpenCall) (x : Cell) → IsInCellOrder calls → is_some (call_at calls x) ≡ true → length (calls_without calls x) + 1 ≡ length calls
length_without [] x order found = absurd (true≢false (sym found))
length_without (e ∷ calls) x order found =
    length_without_cases (cell_cmp x (cell_of e)) x e calls refl order.0 found (length_without calls x order.1)

-- as many calls
pub length_serving : (calls : List OpenCall) → length (calls_after_serving calls) ≡ length calls
length_serving [] = refl
length_serving (e ∷ calls) =
    elim e.is_served as (λ b. length (cond b (e ∷ calls_after_serving calls) ((record e { is_served = true }) ∷ calls)) ≡ length (e ∷ calls)) [
      | true ↦ omega (arith, length_serving calls)
      | false ↦ refl
    ]

-- whether a handle is that of a cell
abbrev pub is_its : Option Handle → Handle → Bool
is_its None h = false
is_its (Some g) h = same_handle g h

-- handles of two cells differ
apart : (a b c : Bool) → (a && (b && (false && c))) ≡ false
apart true true c = refl
apart true false c = refl
apart false b c = refl

not_its : (g h : Handle) → is_eq (cell_cmp g.cell h.cell) ≡ false → same_handle g h ≡ false
not_its g h other =
    subst (λ b. (nat_eq g.session h.session && (nat_eq g.round h.round && (b && nat_eq g.site h.site))) ≡ false) (sym other)
    (apart (nat_eq g.session h.session) (nat_eq g.round h.round) (nat_eq g.site h.site))

-- a handle isn't live among calls behind its cell
live-behind : (calls : List OpenCall) (h : Handle) → AreBehind h.cell calls → is_live calls h ≡ false
live-behind [] h all = refl
live-behind (e ∷ calls) h all =
    let other = not_its e.call.handle h (ap is_eq (turned_less h.cell (cell_of e) all.0)) in
    ap (λ b. b || is_live calls h) other ∙ live-behind calls h all.1

or_false : (b c : Bool) → c ≡ false → (b || c) ≡ b
or_false true c h = refl
or_false false c h = h

live_cases : (o : Ordering) (e : OpenCall) (calls : List OpenCall) (h : Handle) → cell_cmp h.cell (cell_of e) ≡ o → AreBehind (cell_of e) calls
    → is_live calls h ≡ is_its (handle_of calls h.cell) h
    → (same_handle e.call.handle h || is_live calls h) ≡ is_its (option_map (λ entry. entry.call.handle) (cond (is_eq o) (Some e) (call_at calls h.cell))) h
live_cases Less e calls h is behind rest =
    ap (λ b. b || is_live calls h) (not_its e.call.handle h (ap is_eq (turned_less h.cell (cell_of e) is))) ∙ rest
live_cases Equal e calls h is behind rest =
    or_false (same_handle e.call.handle h) (is_live calls h)
    (live-behind calls h (subst (λ c. AreBehind c calls) (sym (exact_cells h.cell (cell_of e) is)) behind))
live_cases Greater e calls h is behind rest =
    ap (λ b. b || is_live calls h) (not_its e.call.handle h (ap is_eq (turned_greater h.cell (cell_of e) is))) ∙ rest

-- a handle is live where it is that of its cell
pub live_is : (calls : List OpenCall) (h : Handle) → IsInCellOrder calls → is_live calls h ≡ is_its (handle_of calls h.cell) h
live_is [] h order = refl
live_is (e ∷ calls) h order = live_cases (cell_cmp h.cell (cell_of e)) e calls h refl order.0 (live_is calls h order.1)

-- a cell of a live handle has a call
pub live_some : (calls : List OpenCall) (h : Handle) → IsInCellOrder calls → is_live calls h ≡ true → is_some (call_at calls h.cell) ≡ true
live_some calls h order live =
    elim (call_at calls h.cell) as (λ o. is_its (option_map (λ entry. entry.call.handle) o) h ≡ true → is_some o ≡ true) [
      | None ↦ λ its. its
      | Some e ↦ λ its. refl
    ] (sym (live_is calls h order) ∙ live)

-- where all were served, serving changes nothing
pub serving_none : (calls : List OpenCall) → first_unserved calls ≡ None → calls_after_serving calls ≡ calls
serving_none [] h = refl
serving_none (e ∷ calls) h =
    elim e.is_served as (λ b. cond (not b) (Some e) (first_unserved calls) ≡ None → cond b (e ∷ calls_after_serving calls) ((record e { is_served = true }) ∷ calls) ≡ e ∷ calls) [
      | true ↦ λ h. ap (λ v. e ∷ v) (serving_none calls h)
      | false ↦ λ h. absurd (none-some e (sym h))
    ] h

-- open calls of a session stay so with one more of the session, of a cell without one
pub open_with : (session n m : ℕ) (calls : List OpenCall) (new : OpenCall) → AreOpenCalls (record { session = session; calls = calls; spare = n })
    → new.call.handle.session ≡ session → call_at calls (cell_of new) ≡ None → AreOpenCalls (record { session = session; calls = with_call calls new; spare = m })
open_with session n m calls new are its free = record {
  order = order_with calls new are.order free;
  session = all_with (λ entry. entry.call.handle.session ≡ session) calls new are.session its;
}

-- and without that of a cell
pub open_without : (session n m : ℕ) (calls : List OpenCall) (x : Cell) → AreOpenCalls (record { session = session; calls = calls; spare = n })
    → AreOpenCalls (record { session = session; calls = calls_without calls x; spare = m })
open_without session n m calls x are = record {
  order = order_without calls x are.order;
  session = all_without (λ entry. entry.call.handle.session ≡ session) calls x are.session;
}

-- and when one is served
pub open_serving : (session n m : ℕ) (calls : List OpenCall) → AreOpenCalls (record { session = session; calls = calls; spare = n })
    → AreOpenCalls (record { session = session; calls = calls_after_serving calls; spare = m })
open_serving session n m calls are = record {
  order = order_serving calls are.order;
  session = all_serving (λ entry. entry.call.handle.session ≡ session) (λ e h. h) calls are.session;
}
