-- A walk over the unfinished cells ends: each next one has fewer cells behind it.
use Rattle.std.proofs.Common.{◌≡◌, ℕ, ◌<◌, ◌≤◌, Bool, true, false, cond, Option, None, Some, List, [], ◌∷◌, length, refl, ap, sym, ◌∙◌, arith}
use Rattle.std.specs.List.{filter}
use Rattle.std.specs.Map.{lookup}
use Rattle.std.specs.Ordering.{is_eq, is_lt}
use Rattle.std.specs.declared.cmp.Ordering.{Ordering}
use Rattle.std.specs.declared.cmp.Ordering.TheVariants.{Less, Equal, Greater}
use Rattle.std.proofs.lemmas.Bool.{and_parts}
use Rattle.cell_refs.specs.declared.areas.Area.{Area}
use Rattle.cell_refs.specs.declared.grid.Cell.{Cell}
use Rattle.cell_refs.specs.Area.{lies_in}
use Rattle.cell_refs.specs.Cell.{cell_cmp, same_cell}
use Rattle.cell_refs.proofs.PublicLaws.{cells_total, same_cell_is, same_cells}
use Rattle.cell_store.specs.Gathering.{has_no_value, is_behind, is_less, is_sought}
use Rattle.cell_store.specs.Store.{StoreState, present_at}
use Rattle.cell_values.specs.declared.values.Value.{Value}

-- ---- the order of cells
is_less_than : (o : Ordering) → is_lt o ≡ true → o ≡ Less
is_less_than Less h = refl
is_less_than Equal h = cc
is_less_than Greater h = cc

equal_not_less : (o : Ordering) → is_eq o ≡ true → is_lt o ≡ false
equal_not_less Less h = cc
equal_not_less Equal h = refl
equal_not_less Greater h = cc

behind-on : (after : Option Cell) (c d : Cell) → is_behind after c ≡ true → is_less c d ≡ true → is_behind after d ≡ true
behind-on None c d h less = refl
behind-on (Some a) c d h less =
    ap is_lt (cells_total.trans a c d (is_less_than (cell_cmp a c) h) (is_less_than (cell_cmp c d) less))

not_itself : (c : Cell) → is_less c c ≡ false
not_itself c = equal_not_less (cell_cmp c c) (same_cells.refl c)

-- ---- cells behind a cell
module _ {X : Type 0} (after : Option Cell) (cell : Cell) (behind : is_behind after cell ≡ true) where
  -- the entries behind a cell, and those behind an earlier one
  abbrev later : List (Cell × X) → List (Cell × X)
  later es = filter (λ e. is_less cell e.0) es

  abbrev earlier : List (Cell × X) → List (Cell × X)
  earlier es = filter (λ e. is_behind after e.0) es

  no_more : (es : List (Cell × X)) → length (later es) ≤ length (earlier es)
  no_more [] = omega arith
  no_more (e ∷ es) = step (is_less cell e.0) (is_behind after e.0) (λ h. behind-on after cell e.0 behind h) (no_more es)
    where
      step : (a b : Bool) → (a ≡ true → b ≡ true) → length (later es) ≤ length (earlier es)
          → length (cond a (e ∷ later es) (later es)) ≤ length (cond b (e ∷ earlier es) (earlier es))
      step true true leads m = omega (arith, m)
      step true false leads m = let no : false ≡ true = leads refl in cc
      step false true leads m = omega (arith, m)
      step false false leads m = m

  fewer : (es : List (Cell × X)) (x : X) → lookup (same_cell cell) es ≡ Some x → length (later es) < length (earlier es)
  fewer [] x h = cc
  fewer (e ∷ es) x h = found (same_cell cell e.0) refl (λ k. fewer es x k) h
    where
      rest : (a b : Bool) → (a ≡ true → b ≡ true) → length (later es) < length (earlier es)
          → length (cond a (e ∷ later es) (later es)) < length (cond b (e ∷ earlier es) (earlier es))
      rest true true leads m = omega (arith, m)
      rest true false leads m = let no : false ≡ true = leads refl in cc
      rest false true leads m = omega (arith, m)
      rest false false leads m = m

      here : (a b : Bool) → a ≡ false → b ≡ true → length (cond a (e ∷ later es) (later es)) < length (cond b (e ∷ earlier es) (earlier es))
      here true b h k = cc
      here false true h k = let m = no_more es in omega (arith, m)
      here false false h k = cc

      found : (b : Bool) → same_cell cell e.0 ≡ b → (lookup (same_cell cell) es ≡ Some x → length (later es) < length (earlier es))
          → cond b (Some e.1) (lookup (same_cell cell) es) ≡ Some x
          → length (cond (is_less cell e.0) (e ∷ later es) (later es)) < length (cond (is_behind after e.0) (e ∷ earlier es) (earlier es))
      found true same more k = here (is_less cell e.0) (is_behind after e.0)
          (ap (is_less cell) (sym (same_cell_is cell e.0 same)) ∙ not_itself cell) (ap (is_behind after) (sym (same_cell_is cell e.0 same)) ∙ behind)
      found false other more k = rest (is_less cell e.0) (is_behind after e.0) (λ less. behind-on after cell e.0 behind less) (more k)

-- ---- a cell that was sought
absent_or : (o : Option (Option Value)) → has_no_value o ≡ true → o ≡ Some None
absent_or None h = cc
absent_or (Some None) h = refl
absent_or (Some (Some v)) h = cc

-- how many cells that are present stand behind another
abbrev pub ahead : StoreState → Option Cell → ℕ
ahead store after = length (filter (λ e. is_behind after e.0) store.present)

pub fewer-ahead : (store : StoreState) (areas : List Area) (after : Option Cell) (cell : Cell) → is_sought (present_at store) areas after cell ≡ true
    → ahead store (Some cell) < ahead store after
fewer-ahead store areas after cell sought =
    let both = and_parts (is_behind after cell) _ sought in
    let unknown = and_parts (lies_in areas cell) (has_no_value (present_at store cell)) both.1 in
    fewer after cell both.0 store.present None (absent_or (present_at store cell) unknown.1)
