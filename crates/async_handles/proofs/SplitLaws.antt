-- Calls that are split at a cell.
use Rattle.std.proofs.Common.{◌≡◌, cond, not, Option, None, Some, is_some, List, [], ◌∷◌, ◌++◌, refl, sym, ap, subst, ◌∙◌, append_assoc}
use Rattle.std.specs.Option.{option_map, option_to_list}
use Rattle.std.proofs.lemmas.Option.{none-some}
use Rattle.std.specs.declared.cmp.Ordering.TheVariants.{Less, Equal, Greater}
use Rattle.std.specs.Ordering.{is_eq, is_lt}
use Rattle.cell_refs.specs.declared.grid.Cell.{Cell}
use Rattle.cell_refs.specs.Cell.{cell_cmp}
use Rattle.cell_refs.proofs.PublicLaws.{exact_cells}
use Rattle.async_handles.specs.declared.open_calls.OpenCall.{OpenCall}
use Rattle.async_handles.specs.OpenCalls.{AreBehind, IsInCellOrder, call_at, calls_without, cell_of, with_call}
use Rattle.async_handles.specs.Tree.{AreBefore, IsSplitAt}
use Rattle.async_handles.proofs.OrderLaws.{before_both, before_further, behind_both, behind_further, call_at-before, call_at-behind, order_before, order_behind}

-- the left side is split where the cell is before a call
pub split_less : (x : Cell) (l : List OpenCall) (e : OpenCall) (r less : List OpenCall) (found : Option OpenCall) (greater : List OpenCall)
    → IsInCellOrder (l ++ e ∷ r) → cell_cmp x (cell_of e) ≡ Less → IsSplitAt x l less found greater → IsSplitAt x (l ++ e ∷ r) less found (greater ++ e ∷ r)
split_less x l e r less found greater order h s = record {
  all =
      ap (λ c. c ++ e ∷ r) s.all
      ∙ append_assoc less (option_to_list found ++ greater) (e ∷ r)
      ∙ ap (λ c. less ++ c) (append_assoc (option_to_list found) greater (e ∷ r));
  before = s.before;
  at = s.at;
  behind = behind_both x greater (e ∷ r) s.behind (h, behind_further x (cell_of e) r h (order_behind l e r order));
}

-- both sides are the parts where the cell is a call's
pub split_equal : (x : Cell) (l : List OpenCall) (e : OpenCall) (r : List OpenCall)
    → IsInCellOrder (l ++ e ∷ r) → cell_cmp x (cell_of e) ≡ Equal → IsSplitAt x (l ++ e ∷ r) l (Some e) r
split_equal x l e r order h =
    let same : cell_of e ≡ x = sym (exact_cells x (cell_of e) h) in
    record {
      all = refl;
      before = subst (λ c. AreBefore c l) same (order_before l e r order);
      at = ap is_eq h;
      behind = subst (λ c. AreBehind c r) same (order_behind l e r order);
    }

-- the right side is split where the cell is behind a call
pub split_greater : (x : Cell) (l : List OpenCall) (e : OpenCall) (r less : List OpenCall) (found : Option OpenCall) (greater : List OpenCall)
    → IsInCellOrder (l ++ e ∷ r) → cell_cmp x (cell_of e) ≡ Greater → IsSplitAt x r less found greater → IsSplitAt x (l ++ e ∷ r) (l ++ e ∷ less) found greater
split_greater x l e r less found greater order h s = record {
  all =
      ap (λ c. l ++ e ∷ c) s.all
      ∙ sym (append_assoc l (e ∷ less) (option_to_list found ++ greater));
  before = before_both x l (e ∷ less) (before_further x (cell_of e) l h (order_before l e r order)) (h, s.before);
  at = s.at;
  behind = s.behind;
}

-- a call comes behind those before it
pub with_call-before : (new : OpenCall) (l r : List OpenCall) → AreBefore (cell_of new) l → with_call (l ++ r) new ≡ l ++ with_call r new
with_call-before new [] r all = refl
with_call-before new (e ∷ l) r all =
    let rest = ap (λ c. e ∷ c) (with_call-before new l r all.1) in
    subst (λ o. cond (is_lt o) (new ∷ e ∷ (l ++ r)) (e ∷ with_call (l ++ r) new) ≡ e ∷ (l ++ with_call r new)) (sym all.0) rest

-- and before those behind it
pub with_call-behind : (new : OpenCall) (r : List OpenCall) → AreBehind (cell_of new) r → with_call r new ≡ new ∷ r
with_call-behind new [] all = refl
with_call-behind new (e ∷ r) all = ap (λ o. cond (is_lt o) (new ∷ e ∷ r) (e ∷ with_call r new)) all.0

-- a call is found where the split found one
pub found_at : (x : Cell) (calls less : List OpenCall) (found : Option OpenCall) (greater : List OpenCall) → IsSplitAt x calls less found greater → call_at calls x ≡ found
found_at x calls less None greater s =
    ap (λ c. call_at c x) s.all ∙ call_at-before x less greater s.before ∙ call_at-behind x greater s.behind
found_at x calls less (Some e) greater s =
    ap (λ c. call_at c x) s.all
    ∙ call_at-before x less (e ∷ greater) s.before
    ∙ ap (λ b. cond b (Some e) (call_at greater x)) s.at

-- a call is put between the two parts
pub with_call-split : (new : OpenCall) (calls less : List OpenCall) (found : Option OpenCall) (greater : List OpenCall)
    → IsSplitAt (cell_of new) calls less found greater → call_at calls (cell_of new) ≡ None → with_call calls new ≡ less ++ new ∷ greater
with_call-split new calls less None greater s free =
    ap (λ c. with_call c new) s.all
    ∙ with_call-before new less greater s.before
    ∙ ap (λ c. less ++ c) (with_call-behind new greater s.behind)
with_call-split new calls less (Some e) greater s free = absurd (none-some e (sym free ∙ found_at (cell_of new) calls less (Some e) greater s))

-- nothing before a cell is of it
pub without-before : (x : Cell) (l r : List OpenCall) → AreBefore x l → calls_without (l ++ r) x ≡ l ++ calls_without r x
without-before x [] r all = refl
without-before x (e ∷ l) r all =
    let rest = ap (λ c. e ∷ c) (without-before x l r all.1) in
    subst (λ o. cond (not (is_eq o)) (e ∷ calls_without (l ++ r) x) (calls_without (l ++ r) x) ≡ e ∷ (l ++ calls_without r x)) (sym all.0) rest

-- nor is what is behind it
pub without-behind : (x : Cell) (r : List OpenCall) → AreBehind x r → calls_without r x ≡ r
without-behind x [] all = refl
without-behind x (e ∷ r) all =
    let rest = ap (λ c. e ∷ c) (without-behind x r all.1) in
    subst (λ o. cond (not (is_eq o)) (e ∷ calls_without r x) (calls_without r x) ≡ e ∷ r) (sym all.0) rest

-- without the cell's call the two parts stay
pub without-split : (x : Cell) (calls less : List OpenCall) (found : Option OpenCall) (greater : List OpenCall)
    → IsSplitAt x calls less found greater → calls_without calls x ≡ less ++ greater
without-split x calls less None greater s =
    ap (λ c. calls_without c x) s.all
    ∙ without-before x less greater s.before
    ∙ ap (λ c. less ++ c) (without-behind x greater s.behind)
without-split x calls less (Some e) greater s =
    ap (λ c. calls_without c x) s.all
    ∙ without-before x less (e ∷ greater) s.before
    ∙ ap (λ c. less ++ c) (ap (λ b. cond (not b) (e ∷ calls_without greater x) (calls_without greater x)) s.at ∙ without-behind x greater s.behind)

-- something is there of which a part is
pub is_some_part : {X Y : Type 0} (f : X → Y) (o : Option X) → is_some (option_map f o) ≡ is_some o
is_some_part f None = refl
is_some_part f (Some x) = refl
