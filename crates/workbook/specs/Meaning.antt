-- What each cell of a book means, by recursion along the references.
use Rattle.std.specs.Prelude.{ℕ, zero, suc, Bool, true, false, if◌then◌else◌, Option, None, Some, List, map}
use Rattle.std.specs.List.{list_any}
use Rattle.addin_types.specs.declared.registrations.Registration.{Registration}
use Rattle.cell_refs.specs.declared.grid.Cell.{Cell}
use Rattle.cell_values.specs.declared.topics.Topic.{Topic}
use Rattle.cell_values.specs.declared.values.Value.{Value}
use Rattle.cell_values.specs.declared.values.Value.TheVariants as values
use Rattle.formula_parse.specs.declared.nodes.Node.{Node}
use Rattle.formula_parse.specs.Tree.{precedents}
use Rattle.workbook.specs.declared.contents.Content.{Content}
use Rattle.workbook.specs.Book.{by_content, content_at, formula_count}
use Rattle.workbook.specs.Circular.{is_circular}
use Rattle.workbook.specs.Evaluation as evaluation
use Rattle.workbook.specs.Evaluation.{World, Answer, answer_of}

-- what the formulas of a book are evaluated over beside its cells
pub record Setting : Type 0 where
  -- the snapshot: the value of each topic
  pub snapshot : Topic → Value
  -- the value that was accepted for the asynchronous call at a site of a cell's formula, if one was
  pub accepted : Cell → ℕ → Option Value
  -- what a name was registered with, if it was
  pub registered : List ℕ → Option Registration
  -- what an add-in function answers
  pub answer : List ℕ → List Value → Value

-- the world of a cell's formula, where the cells that it names have these values
abbrev pub world_at : Setting → Cell → (Cell → Value) → World
world_at setting cell input = record {
  home = cell.sheet;
  input = input;
  known = λ topic. Some (setting.snapshot topic);
  accepted = setting.accepted cell;
  registered = setting.registered;
  answer = setting.answer;
}

-- what a cell means: a value; that it is circular; the asynchronous call that it asks for; or that it waits for a cell that asks
pub data Meaning : Type 0 where
  Val : Value → Meaning
  Circ : Meaning
  Asks : ℕ → List ℕ → List Value → Meaning
  Open : Meaning

-- what an answer means; in a setting each topic has a value, so that none is needed
abbrev pub meaning_of_answer : Answer → Meaning
meaning_of_answer (evaluation.Val v) = Val v
meaning_of_answer (evaluation.Asks site name args) = Asks site name args
meaning_of_answer (evaluation.Needs topic) = Open

-- the value of a meaning; Blank where it is none
abbrev pub value_in : Meaning → Value
value_in (Val v) = v
value_in Circ = values.Blank
value_in (Asks site name args) = values.Blank
value_in Open = values.Blank

-- whether a cell that names one of this meaning waits
abbrev pub is_open : Meaning → Bool
is_open (Val v) = false
is_open Circ = false
is_open (Asks site name args) = true
is_open Open = true

-- whether a cell of this meaning asks for a call
abbrev pub asks_call : Meaning → Bool
asks_call (Val v) = false
asks_call Circ = false
asks_call (Asks site name args) = true
asks_call Open = false

-- the meaning of a formula in this cell, where cells mean so: it waits where a cell that it names asks or waits
abbrev pub formula_meaning : Setting → Cell → (Cell → Meaning) → Node → Meaning
formula_meaning setting cell meanings tree =
    if list_any (λ d. is_open (meanings d)) (precedents tree cell.sheet) then Open
    else meaning_of_answer (answer_of (world_at setting cell (λ d. value_in (meanings d))) tree)

-- the meaning of a content of this cell, where cells mean so
abbrev pub content_meaning : Setting → Cell → (Cell → Meaning) → Option Content → Meaning
content_meaning setting cell meanings content = by_content Val (formula_meaning setting cell meanings) content

-- the meaning of a cell from which walks along formula cells have fewer steps than this
abbrev pub meaning_within : Setting → List (Cell × Content) → ℕ → Cell → Meaning
meaning_within setting book zero cell = content_meaning setting cell (λ d. Val values.Blank) (content_at book cell)
meaning_within setting book (suc steps) cell = content_meaning setting cell (meaning_within setting book steps) (content_at book cell)

-- the meaning of a cell
abbrev pub meaning : Setting → List (Cell × Content) → Cell → Meaning
meaning setting book cell = if is_circular book cell then Circ else meaning_within setting book (formula_count book) cell

-- what a cell shows of its meaning: its value, or None where it has none
abbrev pub shown_value : Meaning → Option Value
shown_value (Val v) = Some v
shown_value Circ = None
shown_value (Asks site name args) = None
shown_value Open = None

-- the sheet of a book: what its cells show, in cell order
abbrev pub sheet_of : Setting → List (Cell × Content) → List (Cell × Option Value)
sheet_of setting book = map (λ e. (e.0, shown_value (meaning setting book e.0))) book
