-- Calls in cell order, round one of them.
use Rattle.std.proofs.Common.{◌≡◌, cond, None, Some, List, [], ◌∷◌, ◌++◌, ◌<◌, length, refl, sym, ap, subst, ◌∙◌, arith, length-append}
use Rattle.std.specs.declared.cmp.Ordering.TheVariants.{Less, Equal, Greater}
use Rattle.std.specs.Ordering.{is_eq, ordering_reverse}
use Rattle.cell_refs.specs.declared.grid.Cell.{Cell}
use Rattle.cell_refs.specs.Cell.{cell_cmp, same_cell}
use Rattle.cell_refs.proofs.PublicLaws.{cells_total, exact_cells}
use Rattle.async_handles.specs.declared.open_calls.OpenCall.{OpenCall}
use Rattle.async_handles.specs.OpenCalls.{AreBehind, IsInCellOrder, call_at, cell_of}
use Rattle.async_handles.specs.Tree.{AreBefore}

-- what is less one way is greater the other way
pub turned_less : (x y : Cell) → cell_cmp x y ≡ Less → cell_cmp y x ≡ Greater
turned_less x y h = cells_total.antisymm y x ∙ ap ordering_reverse h

pub turned_greater : (x y : Cell) → cell_cmp x y ≡ Greater → cell_cmp y x ≡ Less
turned_greater x y h = cells_total.antisymm y x ∙ ap ordering_reverse h

-- what is behind a cell is behind those before it
pub behind_further : (x y : Cell) (r : List OpenCall) → cell_cmp x y ≡ Less → AreBehind y r → AreBehind x r
behind_further x y [] h all = tt
behind_further x y (e ∷ r) h all = (cells_total.trans x y (cell_of e) h all.0, behind_further x y r h all.1)

-- what is before a cell is before those behind it
pub before_further : (x y : Cell) (l : List OpenCall) → cell_cmp x y ≡ Greater → AreBefore y l → AreBefore x l
before_further x y [] h all = tt
before_further x y (e ∷ l) h all =
    (turned_less (cell_of e) x (cells_total.trans (cell_of e) y x (turned_greater y (cell_of e) all.0) (turned_greater x y h)), before_further x y l h all.1)

pub behind_front : (x : Cell) (l r : List OpenCall) → AreBehind x (l ++ r) → AreBehind x l
behind_front x [] r all = tt
behind_front x (e ∷ l) r all = (all.0, behind_front x l r all.1)

pub behind_back : (x : Cell) (l r : List OpenCall) → AreBehind x (l ++ r) → AreBehind x r
behind_back x [] r all = all
behind_back x (e ∷ l) r all = behind_back x l r all.1

pub behind_both : (x : Cell) (l r : List OpenCall) → AreBehind x l → AreBehind x r → AreBehind x (l ++ r)
behind_both x [] r h all = all
behind_both x (e ∷ l) r h all = (h.0, behind_both x l r h.1 all)

pub before_both : (x : Cell) (l r : List OpenCall) → AreBefore x l → AreBefore x r → AreBefore x (l ++ r)
before_both x [] r h all = all
before_both x (e ∷ l) r h all = (h.0, before_both x l r h.1 all)

-- the front of calls in order is in order
pub order_front : (l r : List OpenCall) → IsInCellOrder (l ++ r) → IsInCellOrder l
order_front [] r order = tt
order_front (e ∷ l) r order = (behind_front (cell_of e) l r order.0, order_front l r order.1)

-- and so is the back
pub order_back : (l r : List OpenCall) → IsInCellOrder (l ++ r) → IsInCellOrder r
order_back [] r order = order
order_back (e ∷ l) r order = order_back l r order.1

-- what is in front of a call is before it
pub order_before : (l : List OpenCall) (e : OpenCall) (r : List OpenCall) → IsInCellOrder (l ++ e ∷ r) → AreBefore (cell_of e) l
order_before [] e r order = tt
order_before (f ∷ l) e r order = (turned_less (cell_of f) (cell_of e) (behind_back (cell_of f) l (e ∷ r) order.0).0, order_before l e r order.1)

-- the side of a call in the order
pub order_right : (l : List OpenCall) (e : OpenCall) (r : List OpenCall) → IsInCellOrder (l ++ e ∷ r) → IsInCellOrder r
order_right l e r order = (order_back l (e ∷ r) order).1

pub order_behind : (l : List OpenCall) (e : OpenCall) (r : List OpenCall) → IsInCellOrder (l ++ e ∷ r) → AreBehind (cell_of e) r
order_behind l e r order = (order_back l (e ∷ r) order).0

-- a cell is looked for among what isn't before it
pub call_at-before : (x : Cell) (l r : List OpenCall) → AreBefore x l → call_at (l ++ r) x ≡ call_at r x
call_at-before x [] r all = refl
call_at-before x (e ∷ l) r all =
    let rest = call_at-before x l r all.1 in
    subst (λ o. cond (is_eq o) (Some e) (call_at (l ++ r) x) ≡ call_at r x) (sym all.0) rest

-- and not among what is behind it
pub call_at-behind : (x : Cell) (r : List OpenCall) → AreBehind x r → call_at r x ≡ None
call_at-behind x [] all = refl
call_at-behind x (e ∷ r) all =
    let rest = call_at-behind x r all.1 in
    subst (λ o. cond (is_eq o) (Some e) (call_at r x) ≡ None) (sym all.0) rest

-- calls in which a cell isn't found may be left out behind others
pub call_at-front : (x : Cell) (l r : List OpenCall) → call_at r x ≡ None → call_at (l ++ r) x ≡ call_at l x
call_at-front x [] r h = h
call_at-front x (e ∷ l) r h = ap (cond (same_cell x (cell_of e)) (Some e)) (call_at-front x l r h)

pub call_at-less : (x : Cell) (l : List OpenCall) (e : OpenCall) (r : List OpenCall) → IsInCellOrder (l ++ e ∷ r) → cell_cmp x (cell_of e) ≡ Less → call_at (l ++ e ∷ r) x ≡ call_at l x
call_at-less x l e r order h =
    call_at-front x l (e ∷ r) (call_at-behind x (e ∷ r) (h, behind_further x (cell_of e) r h (order_behind l e r order)))

pub call_at-equal : (x : Cell) (l : List OpenCall) (e : OpenCall) (r : List OpenCall) → IsInCellOrder (l ++ e ∷ r) → cell_cmp x (cell_of e) ≡ Equal → call_at (l ++ e ∷ r) x ≡ Some e
call_at-equal x l e r order h =
    let same : cell_of e ≡ x = sym (exact_cells x (cell_of e) h) in
    call_at-before x l (e ∷ r) (subst (λ c. AreBefore c l) same (order_before l e r order))
    ∙ ap (λ o. cond (is_eq o) (Some e) (call_at r x)) h

pub call_at-greater : (x : Cell) (l : List OpenCall) (e : OpenCall) (r : List OpenCall) → IsInCellOrder (l ++ e ∷ r) → cell_cmp x (cell_of e) ≡ Greater → call_at (l ++ e ∷ r) x ≡ call_at r x
call_at-greater x l e r order h =
    call_at-before x l (e ∷ r) (before_further x (cell_of e) l h (order_before l e r order))
    ∙ ap (λ o. cond (is_eq o) (Some e) (call_at r x)) h

-- each side of a call is shorter than the whole
pub sides_shorter : (l : List OpenCall) (e : OpenCall) (r : List OpenCall) → (length l < length (l ++ e ∷ r)) × (length r < length (l ++ e ∷ r))
sides_shorter l e r = omega (arith, length-append l (e ∷ r))
