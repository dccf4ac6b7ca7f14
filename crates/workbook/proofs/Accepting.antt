-- A cell that has a value or is circular keeps its meaning where more values are accepted.
use Rattle.std.proofs.Common.{◌≡◌, ℕ, true, false, cond, List, Option, Some, None, refl, ap, sym, ◌∙◌}
use mathlib.Core.Path.{fun_ext}
use Rattle.std.specs.List.{list_any, AllByRecursion}
use Rattle.cell_refs.specs.declared.grid.Cell.{Cell}
use Rattle.cell_values.specs.declared.values.Value.{Value}
use Rattle.formula_parse.specs.declared.nodes.Node.{Node}
use Rattle.formula_parse.specs.Tree.{precedents}
use Rattle.workbook.specs.declared.contents.Content.{Content}
use Rattle.workbook.specs.declared.contents.Content.TheVariants as contents
use Rattle.workbook.specs.Agreement.{AcceptsAsMuch}
use Rattle.workbook.specs.Book.{IsInOrder, content_at, content_precedents, cell_precedents}
use Rattle.workbook.specs.Circular.{is_circular}
use Rattle.workbook.specs.Evaluation.{Answer, Val, Asks, Needs, answer_of}
use Rattle.workbook.specs.Meaning.{Setting, Open, world_at, meaning_of_answer, value_in, is_open, formula_meaning, content_meaning, meaning}
use Rattle.workbook.proofs.Deciding.{decides_formula}
use Rattle.workbook.proofs.Evaluations.{evaluated_alike}
use Rattle.workbook.proofs.Keeping.{each_applied}
use Rattle.workbook.proofs.Meanings.{along_precedents, any_each, each_leads, meaning-unfolds, none_where, shows_circle}
use Rattle.workbook.proofs.Reading.{run_accepting}

-- an answer whose meaning doesn't wait is a value
valued : (answer : Answer) → is_open (meaning_of_answer answer) ≡ false → (v : Value) × (answer ≡ Val v)
valued (Val v) h = (v, refl)
valued (Asks site name args) h = cc
valued (Needs topic) h = cc

module _ (setting : Setting) (more : Cell → ℕ → Option Value) (grows : (cell : Cell) (site : ℕ) (v : Value) → setting.accepted cell site ≡ Some v → more cell site ≡ Some v) where
  -- the setting in which more is accepted
  abbrev accepting : Setting
  accepting = record setting { accepted = more }

  -- a formula that has a value has it in both
  value_stays : (cell : Cell) (input : Cell → Value) (tree : Node) (v : Value) → answer_of (world_at setting cell input) tree ≡ Val v → answer_of (world_at accepting cell input) tree ≡ Val v
  value_stays cell input tree v h =
      let d = decides_formula (world_at setting cell input) tree in
      d.runs (record { topic = λ topic. Some (setting.snapshot topic); site = more cell })
      ∙ run_accepting (λ topic. Some (setting.snapshot topic)) (setting.accepted cell) (more cell) (grows cell) d.decision v
      (sym (d.runs (record { topic = λ topic. Some (setting.snapshot topic); site = setting.accepted cell })) ∙ h)

  -- the answer of a formula that has a value, over the same inputs
  answer_stays : (cell : Cell) (f g : Cell → Value) (tree : Node) → AllByRecursion (λ d. f d ≡ g d) (precedents tree cell.sheet) → is_open (meaning_of_answer (answer_of (world_at setting cell f) tree)) ≡ false
      → answer_of (world_at setting cell f) tree ≡ answer_of (world_at accepting cell g) tree
  answer_stays cell f g tree same closed =
      let found = valued (answer_of (world_at setting cell f) tree) closed in
      let inputs = evaluated_alike (world_at setting cell f) f g tree same in
      found.1 ∙ sym (value_stays cell g tree found.0 (sym inputs ∙ found.1))

  module _ (book : List (Cell × Content)) (ordered : IsInOrder book) where
    -- a cell that doesn't wait keeps its meaning
    abbrev Stays : Cell → Type 0
    Stays cell = is_open (meaning setting book cell) ≡ false → meaning setting book cell ≡ meaning accepting book cell

    -- a formula none of whose cells waits
    closed_stays : (cell : Cell) (tree : Node) → AllByRecursion (λ d. meaning setting book d ≡ meaning accepting book d) (precedents tree cell.sheet)
        → list_any (λ d. is_open (meaning setting book d)) (precedents tree cell.sheet) ≡ false
        → is_open (meaning_of_answer (answer_of (world_at setting cell (λ d. value_in (meaning setting book d))) tree)) ≡ false
        → meaning_of_answer (answer_of (world_at setting cell (λ d. value_in (meaning setting book d))) tree) ≡ formula_meaning accepting cell (meaning accepting book) tree
    closed_stays cell tree same none closed =
        let waits = any_each (λ d. is_open (meaning setting book d)) (λ d. is_open (meaning accepting book d)) (precedents tree cell.sheet)
        (each_leads _ _ (λ d h. ap is_open h) (precedents tree cell.sheet) same) in
        ap meaning_of_answer (answer_stays cell (λ d. value_in (meaning setting book d)) (λ d. value_in (meaning accepting book d)) tree
        (each_leads _ _ (λ d h. ap value_in h) (precedents tree cell.sheet) same) closed)
        ∙ ap (λ b. cond b Open (meaning_of_answer (answer_of (world_at accepting cell (λ d. value_in (meaning accepting book d))) tree))) (sym none ∙ waits)

    -- a formula
    formula_stays : (cell : Cell) (tree : Node) → AllByRecursion Stays (precedents tree cell.sheet) → is_open (formula_meaning setting cell (meaning setting book) tree) ≡ false
        → formula_meaning setting cell (meaning setting book) tree ≡ formula_meaning accepting cell (meaning accepting book) tree
    formula_stays cell tree each h =
        elim (list_any (λ d. is_open (meaning setting book d)) (precedents tree cell.sheet)) as (λ b. list_any (λ d. is_open (meaning setting book d)) (precedents tree cell.sheet) ≡ b
        → is_open (cond b Open (meaning_of_answer (answer_of (world_at setting cell (λ d. value_in (meaning setting book d))) tree))) ≡ false
        → cond b Open (meaning_of_answer (answer_of (world_at setting cell (λ d. value_in (meaning setting book d))) tree)) ≡ formula_meaning accepting cell (meaning accepting book) tree) [
          | true ↦ λ e closed. cc
          | false ↦ λ e closed. closed_stays cell tree
              (each_applied (λ d. is_open (meaning setting book d) ≡ false) (λ d. meaning setting book d ≡ meaning accepting book d) (precedents tree cell.sheet) each
              (none_where (λ d. is_open (meaning setting book d)) (λ d. is_open (meaning setting book d) ≡ false) (λ d closed. closed) (precedents tree cell.sheet) e))
              e closed
        ] refl h

    -- a content
    content_stays : (cell : Cell) (content : Option Content) → AllByRecursion Stays (content_precedents content cell.sheet) → is_open (content_meaning setting cell (meaning setting book) content) ≡ false
        → content_meaning setting cell (meaning setting book) content ≡ content_meaning accepting cell (meaning accepting book) content
    content_stays cell None each h = refl
    content_stays cell (Some (contents.Num n)) each h = refl
    content_stays cell (Some (contents.Text t)) each h = refl
    content_stays cell (Some (contents.Bool b)) each h = refl
    content_stays cell (Some (contents.Error e)) each h = refl
    content_stays cell (Some (contents.Formula tree)) each h = formula_stays cell tree each h

    -- a cell that isn't circular
    step_stays : (cell : Cell) → is_circular book cell ≡ false → AllByRecursion Stays (cell_precedents book cell) → Stays cell
    step_stays cell acyclic each closed =
        let unfolds = meaning-unfolds setting book ordered cell acyclic in
        unfolds
        ∙ content_stays cell (content_at book cell) each (ap is_open (sym unfolds) ∙ closed)
        ∙ sym (meaning-unfolds accepting book ordered cell acyclic)

    -- each cell that doesn't wait
    closed_meaning : (cell : Cell) → Stays cell
    closed_meaning cell = elim (is_circular book cell) as (λ b. is_circular book cell ≡ b → Stays cell) [
      | true ↦ λ e closed. shows_circle setting book cell e ∙ sym (shows_circle accepting book cell e)
      | false ↦ λ e. along_precedents book ordered Stays step_stays cell e
    ] refl

-- a cell that has a value or is circular keeps its meaning in a setting that accepts as much
pub meaning_stays : (earlier later : Setting) → AcceptsAsMuch earlier later → (book : List (Cell × Content)) → IsInOrder book → (cell : Cell) → is_open (meaning earlier book cell) ≡ false
    → meaning earlier book cell ≡ meaning later book cell
meaning_stays earlier later accepts book ordered cell closed =
    closed_meaning earlier later.accepted accepts.accepted book ordered cell closed
    ∙ ap (λ snapshot. meaning (record earlier { accepted = later.accepted; snapshot = snapshot }) book cell) (fun_ext accepts.snapshot)
    ∙ ap (λ registered. meaning (record earlier { accepted = later.accepted; snapshot = later.snapshot; registered = registered }) book cell) (fun_ext accepts.registered)
    ∙ ap (λ answer. meaning (record later { answer = answer }) book cell) accepts.answer
