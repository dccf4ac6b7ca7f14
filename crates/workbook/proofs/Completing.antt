-- Where no cell asks for a call, each cell has a value or is circular.
use Rattle.std.proofs.Common.{◌≡◌, true, false, ◌⊎◌, inl, inr, cond, List, Option, Some, None, refl, ap, sym, ◌∙◌}
use Rattle.std.specs.List.{AllByRecursion}
use Rattle.std.proofs.lemmas.List.Folds.{list_any_none}
use Rattle.std.proofs.lemmas.List.Elements.{All-from_recursion}
use Rattle.cell_refs.specs.declared.grid.Cell.{Cell}
use Rattle.cell_values.specs.declared.values.Value.{Value}
use Rattle.formula_parse.specs.declared.nodes.Node.{Node}
use Rattle.formula_parse.specs.Tree.{precedents}
use Rattle.workbook.specs.declared.contents.Content.{Content}
use Rattle.workbook.specs.declared.contents.Content.TheVariants as contents
use Rattle.workbook.specs.Book.{IsInOrder, content_at, content_precedents, cell_precedents}
use Rattle.workbook.specs.Circular.{is_circular}
use Rattle.workbook.specs.Evaluation.{Answer, answer_of}
use Rattle.workbook.specs.Evaluation as evaluation
use Rattle.workbook.specs.Meaning.{Setting, Meaning, Val, Circ, Asks, Open, world_at, meaning_of_answer, value_in, is_open, asks_call, formula_meaning, content_meaning, meaning}
use Rattle.workbook.specs.Reads.{needed_topic}
use Rattle.workbook.proofs.Agreeing.{full_needs_none}
use Rattle.workbook.proofs.Meanings.{along_precedents, meaning-unfolds, shows_circle}

-- an answer that needs no topic and doesn't ask is a value
closed_answer : (answer : Answer) → needed_topic answer ≡ None → asks_call (meaning_of_answer answer) ≡ false → is_open (meaning_of_answer answer) ≡ false
closed_answer (evaluation.Val v) known unasked = refl
closed_answer (evaluation.Asks site name args) known unasked = cc
closed_answer (evaluation.Needs topic) known unasked = cc

-- a meaning that doesn't wait is a value, or circular
closed_meaning : (m : Meaning) → is_open m ≡ false → (m ≡ Circ) ⊎ ((v : Value) × (m ≡ Val v))
closed_meaning (Val v) h = inr (v, refl)
closed_meaning Circ h = inl refl
closed_meaning (Asks site name args) h = cc
closed_meaning Open h = cc

module _ (setting : Setting) (book : List (Cell × Content)) (ordered : IsInOrder book) (unasked : (cell : Cell) → asks_call (meaning setting book cell) ≡ false) where
  -- a cell doesn't wait
  abbrev IsClosed : Cell → Type 0
  IsClosed cell = is_open (meaning setting book cell) ≡ false

  -- no topic is needed
  none_needed : (cell : Cell) (input : Cell → Value) (tree : Node) → needed_topic (answer_of (world_at setting cell input) tree) ≡ None
  none_needed cell input tree = full_needs_none (world_at setting cell input) tree setting.snapshot

  -- a formula over cells that don't wait
  formula_closed : (cell : Cell) (tree : Node) → AllByRecursion IsClosed (precedents tree cell.sheet) → asks_call (formula_meaning setting cell (meaning setting book) tree) ≡ false
      → is_open (formula_meaning setting cell (meaning setting book) tree) ≡ false
  formula_closed cell tree each h =
      let none = list_any_none (λ d. is_open (meaning setting book d)) (precedents tree cell.sheet) (All-from_recursion IsClosed (precedents tree cell.sheet) each) in
      let means = ap (λ b. cond b Open (meaning_of_answer (answer_of (world_at setting cell (λ d. value_in (meaning setting book d))) tree))) none in
      ap is_open means
      ∙ closed_answer (answer_of (world_at setting cell (λ d. value_in (meaning setting book d))) tree) (none_needed cell (λ d. value_in (meaning setting book d)) tree) (ap asks_call (sym means) ∙ h)

  -- a content
  content_closed : (cell : Cell) (content : Option Content) → AllByRecursion IsClosed (content_precedents content cell.sheet) → asks_call (content_meaning setting cell (meaning setting book) content) ≡ false
      → is_open (content_meaning setting cell (meaning setting book) content) ≡ false
  content_closed cell None each h = refl
  content_closed cell (Some (contents.Num n)) each h = refl
  content_closed cell (Some (contents.Text t)) each h = refl
  content_closed cell (Some (contents.Bool b)) each h = refl
  content_closed cell (Some (contents.Error e)) each h = refl
  content_closed cell (Some (contents.Formula tree)) each h = formula_closed cell tree each h

  -- a cell that isn't circular
  step_closed : (cell : Cell) → is_circular book cell ≡ false → AllByRecursion IsClosed (cell_precedents book cell) → IsClosed cell
  step_closed cell acyclic each =
      let unfolds = meaning-unfolds setting book ordered cell acyclic in
      ap is_open unfolds ∙ content_closed cell (content_at book cell) each (ap asks_call (sym unfolds) ∙ unasked cell)

  -- each cell
  pub all_closed : (cell : Cell) → IsClosed cell
  all_closed cell = elim (is_circular book cell) as (λ b. is_circular book cell ≡ b → IsClosed cell) [
    | true ↦ λ e. ap is_open (shows_circle setting book cell e)
    | false ↦ λ e. along_precedents book ordered IsClosed step_closed cell e
  ] refl

  -- each cell has a value or is circular
  pub all_valued : (cell : Cell) → (meaning setting book cell ≡ Circ) ⊎ ((v : Value) × (meaning setting book cell ≡ Val v))
  all_valued cell = closed_meaning (meaning setting book cell) (all_closed cell)
