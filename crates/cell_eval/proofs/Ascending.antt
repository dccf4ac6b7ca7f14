-- Whether entries are in order, cell by cell.
use Rattle.std.proofs.Common.{◌≡◌, ℕ, ◌+◌, ◌<◌, Bool, true, false, ◌&&◌, List, [], ◌∷◌, length, drop, get_or, refl, sym, ap, subst, ◌∙◌}
use Rattle.std.proofs.lemmas.List.{drop_more}
use Rattle.std.specs.List.Sorted.{IsStrictlySortedBy}
use Rattle.std.specs.Map.{keys_of}
use Rattle.std.specs.Ordering.{is_lt}
use Rattle.cell_refs.specs.declared.grid.Cell.{Cell}
use Rattle.cell_refs.specs.Cell.{cell_cmp}
use Rattle.cell_values.specs.declared.values.Value.{Value}
use Rattle.cell_eval.specs.Inputs.{ascends_from}
use Rattle.cell_eval.proofs.InputLaws.{below_later, not_below}

-- two tests that are both passed
both : (a b : Bool) → (a && b) ≡ true → (a ≡ true) × (b ≡ true)
both true b h = (refl, h)
both false b h = absurd (cc)

-- entries that ascend from a cell on are in order behind it
ascending_sorted : (k : Cell) (es : List (Cell × Value)) → ascends_from k es ≡ true → IsStrictlySortedBy cell_cmp (k ∷ keys_of es)
unfolding IsStrictlySortedBy
ascending_sorted k [] h = (tt, tt)
ascending_sorted k (e ∷ es) h =
    let tests = both (is_lt (cell_cmp k e.0)) (ascends_from e.0 es) h in
    let below = not_below (cell_cmp k e.0) tests.0 in
    let rest = ascending_sorted e.0 es tests.1 in
    ((below, below_later es k e.0 below rest.0), rest)

-- and entries in order ascend
sorted_ascending : (k : Cell) (es : List (Cell × Value)) → IsStrictlySortedBy cell_cmp (k ∷ keys_of es) → ascends_from k es ≡ true
unfolding IsStrictlySortedBy
sorted_ascending k [] h = refl
sorted_ascending k (e ∷ es) h = ap (λ o. is_lt o && ascends_from e.0 es) h.0.0 ∙ sorted_ascending e.0 es h.1

-- the same of entries by their first
pub first_sorted : (es : List (Cell × Value)) (e : Cell × Value) (rest : List (Cell × Value)) (b : Bool) → es ≡ e ∷ rest → b ≡ ascends_from e.0 rest → b ≡ true → IsStrictlySortedBy cell_cmp (keys_of es)
first_sorted es e rest b is test passed = subst (λ (xs : List (Cell × Value)). IsStrictlySortedBy cell_cmp (keys_of xs)) (sym is) (ascending_sorted e.0 rest (sym test ∙ passed))

pub first_ascends : (es : List (Cell × Value)) (e : Cell × Value) (rest : List (Cell × Value)) (b : Bool) → es ≡ e ∷ rest → b ≡ ascends_from e.0 rest → IsStrictlySortedBy cell_cmp (keys_of es) → b ≡ true
first_ascends es e rest b is test sorted = test ∙ sorted_ascending e.0 rest (subst (λ (xs : List (Cell × Value)). IsStrictlySortedBy cell_cmp (keys_of xs)) is sorted)

-- one entry more
pub ascends_step : (es : List (Cell × Value)) (i : ℕ) (last : Cell) (x : Cell × Value) (b : Bool) → i < length es → x ≡ get_or es i x → is_lt (cell_cmp last x.0) ≡ b → ascends_from last (drop i es) ≡ (b && ascends_from x.0 (drop (i + 1) es))
ascends_step es i last x b lt is test =
    ap (ascends_from last) (drop_more es i x lt)
    ∙ ap (λ (y : Cell × Value). is_lt (cell_cmp last y.0) && ascends_from y.0 (drop (i + 1) es)) (sym is)
    ∙ ap (λ t. t && ascends_from x.0 (drop (i + 1) es)) test
