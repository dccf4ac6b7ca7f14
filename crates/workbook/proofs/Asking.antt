-- A cell asks for the call at a site only where nothing is accepted there, and asks for it as long as that is so.
use Rattle.std.proofs.Common.{◌≡◌, ℕ, zero, suc, true, false, cond, List, Option, Some, None, refl, ap, sym, subst, ◌∙◌}
use Rattle.std.specs.List.{list_any, AllByRecursion}
use Rattle.cell_refs.specs.declared.grid.Cell.{Cell}
use Rattle.cell_values.specs.declared.topics.Topic.{Topic}
use Rattle.cell_values.specs.declared.values.Value.{Value}
use Rattle.cell_values.specs.declared.values.Value.TheVariants.{Blank}
use Rattle.formula_parse.specs.declared.nodes.Node.{Node}
use Rattle.formula_parse.specs.Tree.{precedents}
use Rattle.workbook.specs.declared.contents.Content.{Content}
use Rattle.workbook.specs.declared.contents.Content.TheVariants as contents
use Rattle.workbook.specs.Book.{IsInOrder, content_at, formula_count}
use Rattle.workbook.specs.Circular.{is_circular}
use Rattle.workbook.specs.Evaluation.{Answer, answer_of}
use Rattle.workbook.specs.Evaluation as evaluation
use Rattle.workbook.specs.Meaning.{Setting, Meaning, Val, Circ, Asks, Open, world_at, meaning_of_answer, value_in, is_open, formula_meaning, content_meaning, meaning_within, meaning}
use Rattle.workbook.proofs.Accepting.{meaning_stays}
use Rattle.workbook.proofs.Deciding.{decides_formula}
use Rattle.workbook.proofs.Decisions.{Given, Decision, Gives, Takes, Looks, taken, looked, run}
use Rattle.workbook.proofs.Evaluations.{evaluated_alike}
use Rattle.workbook.proofs.Meanings.{any_each, each_leads, meaning-unfolds, none_where, shows_circle}

-- ---- decisions
-- two answers that ask for one call ask at one site
one_site : (at site : ℕ) (called name : List ℕ) (given args : List Value) → evaluation.Asks at called given ≡ evaluation.Asks site name args → at ≡ site
one_site at site called name given args h = cc

-- a decision that asks at a site has nothing accepted there
run_asks : (given : Given) (d : Decision) (site : ℕ) (name : List ℕ) (args : List Value) → run given d ≡ evaluation.Asks site name args → given.site site ≡ None
run_asks given (Gives v) site name args h = cc
run_asks given (Takes at called values next) site name args h =
    elim (given.site at) as (λ o. given.site at ≡ o → taken at called values o (λ v. run given (next v)) ≡ evaluation.Asks site name args → given.site site ≡ None) [
      | None ↦ λ e k. subst (λ x. given.site x ≡ None) (one_site at site called name values args k) e
      | Some v ↦ λ e k. run_asks given (next v) site name args k
    ] refl h
run_asks given (Looks topic next) site name args h =
    elim (given.topic topic) as (λ o. looked topic o (λ v. run given (next v)) ≡ evaluation.Asks site name args → given.site site ≡ None) [
      | None ↦ λ k. cc
      | Some v ↦ λ k. run_asks given (next v) site name args k
    ] h

-- it asks where more is accepted, as long as nothing is there
run_asks_still : (known : Topic → Option Value) (accepted more : ℕ → Option Value) → ((site : ℕ) (v : Value) → accepted site ≡ Some v → more site ≡ Some v)
    → (d : Decision) (site : ℕ) (name : List ℕ) (args : List Value) → more site ≡ None
    → run (record { topic = known; site = accepted }) d ≡ evaluation.Asks site name args → run (record { topic = known; site = more }) d ≡ evaluation.Asks site name args
run_asks_still known accepted more grows (Gives v) site name args none h = h
run_asks_still known accepted more grows (Takes at called values next) site name args none h =
    elim (accepted at) as (λ o. accepted at ≡ o → taken at called values o (λ v. run (record { topic = known; site = accepted }) (next v)) ≡ evaluation.Asks site name args
    → taken at called values (more at) (λ v. run (record { topic = known; site = more }) (next v)) ≡ evaluation.Asks site name args) [
      | None ↦ λ _ k.
          ap (λ o. taken at called values o (λ v. run (record { topic = known; site = more }) (next v)))
          (ap more (one_site at site called name values args k) ∙ none)
          ∙ k
      | Some w ↦ λ e k.
          ap (λ o. taken at called values o (λ v. run (record { topic = known; site = more }) (next v))) (grows at w e)
          ∙ run_asks_still known accepted more grows (next w) site name args none k
    ] refl h
run_asks_still known accepted more grows (Looks topic next) site name args none h =
    elim (known topic) as (λ o. looked topic o (λ v. run (record { topic = known; site = accepted }) (next v)) ≡ evaluation.Asks site name args
    → looked topic o (λ v. run (record { topic = known; site = more }) (next v)) ≡ evaluation.Asks site name args) [
      | None ↦ λ k. cc
      | Some w ↦ λ k. run_asks_still known accepted more grows (next w) site name args none k
    ] h

-- ---- formulas
-- an answer that means an asked call asks for it
asked_answer : (a : Answer) (site : ℕ) (name : List ℕ) (args : List Value) → meaning_of_answer a ≡ Asks site name args → a ≡ evaluation.Asks site name args
asked_answer (evaluation.Val v) site name args h = cc
asked_answer (evaluation.Asks at called values) site name args h = cc
asked_answer (evaluation.Needs topic) site name args h = cc

-- a formula asks at a site where nothing is accepted
answer_asks : (setting : Setting) (cell : Cell) (input : Cell → Value) (tree : Node) (site : ℕ) (name : List ℕ) (args : List Value)
    → answer_of (world_at setting cell input) tree ≡ evaluation.Asks site name args → setting.accepted cell site ≡ None
answer_asks setting cell input tree site name args h =
    let d = decides_formula (world_at setting cell input) tree in
    let given : Given = record { topic = λ topic. Some (setting.snapshot topic); site = setting.accepted cell } in
    run_asks given d.decision site name args (sym (d.runs given) ∙ h)

-- ---- meanings
-- in any meanings of cells
formula_asks : (setting : Setting) (cell : Cell) (meanings : Cell → Meaning) (tree : Node) (site : ℕ) (name : List ℕ) (args : List Value)
    → formula_meaning setting cell meanings tree ≡ Asks site name args → setting.accepted cell site ≡ None
formula_asks setting cell meanings tree site name args h =
    elim (list_any (λ d. is_open (meanings d)) (precedents tree cell.sheet)) as (λ b.
    cond b Open (meaning_of_answer (answer_of (world_at setting cell (λ d. value_in (meanings d))) tree)) ≡ Asks site name args → setting.accepted cell site ≡ None) [
      | true ↦ λ k. cc
      | false ↦ λ k. answer_asks setting cell (λ d. value_in (meanings d)) tree site name args (asked_answer _ site name args k)
    ] h

-- a content that asks
content_asks : (setting : Setting) (cell : Cell) (meanings : Cell → Meaning) (content : Option Content) (site : ℕ) (name : List ℕ) (args : List Value)
    → content_meaning setting cell meanings content ≡ Asks site name args → setting.accepted cell site ≡ None
content_asks setting cell meanings None site name args h = cc
content_asks setting cell meanings (Some (contents.Num n)) site name args h = cc
content_asks setting cell meanings (Some (contents.Text t)) site name args h = cc
content_asks setting cell meanings (Some (contents.Bool b)) site name args h = cc
content_asks setting cell meanings (Some (contents.Error e)) site name args h = cc
content_asks setting cell meanings (Some (contents.Formula tree)) site name args h = formula_asks setting cell meanings tree site name args h

-- within any number of steps
within_asks : (setting : Setting) (book : List (Cell × Content)) (steps : ℕ) (cell : Cell) (site : ℕ) (name : List ℕ) (args : List Value)
    → meaning_within setting book steps cell ≡ Asks site name args → setting.accepted cell site ≡ None
within_asks setting book zero cell site name args h = content_asks setting cell (λ d. Val Blank) (content_at book cell) site name args h
within_asks setting book (suc steps) cell site name args h = content_asks setting cell (meaning_within setting book steps) (content_at book cell) site name args h

-- a cell that asks at a site has nothing accepted there
pub meaning_asks : (setting : Setting) (book : List (Cell × Content)) (cell : Cell) (site : ℕ) (name : List ℕ) (args : List Value)
    → meaning setting book cell ≡ Asks site name args → setting.accepted cell site ≡ None
meaning_asks setting book cell site name args h =
    elim (is_circular book cell) as (λ b. cond b Circ (meaning_within setting book (formula_count book) cell) ≡ Asks site name args → setting.accepted cell site ≡ None) [
      | true ↦ λ k. cc
      | false ↦ λ k. within_asks setting book (formula_count book) cell site name args k
    ] h

-- ---- where more is accepted
module _ (setting : Setting) (more : Cell → ℕ → Option Value) (grows : (cell : Cell) (site : ℕ) (v : Value) → setting.accepted cell site ≡ Some v → more cell site ≡ Some v) (book : List (Cell × Content)) (ordered : IsInOrder book) where
  -- the setting in which more is accepted
  abbrev accepting : Setting
  accepting = record setting { accepted = more }

  -- a cell that doesn't wait means the same
  closed_stays : (cell : Cell) → is_open (meaning setting book cell) ≡ false → meaning setting book cell ≡ meaning accepting book cell
  closed_stays cell closed = meaning_stays setting accepting (record { accepted = grows; snapshot = λ topic. refl; registered = λ name. refl; answer = refl }) book ordered cell closed

  module _ (cell : Cell) (site : ℕ) (name : List ℕ) (args : List Value) (none : more cell site ≡ None) where
    -- the answer of a formula that asks, over the same inputs
    answer_asks_still : (f g : Cell → Value) (tree : Node) → AllByRecursion (λ d. f d ≡ g d) (precedents tree cell.sheet)
        → answer_of (world_at setting cell f) tree ≡ evaluation.Asks site name args → answer_of (world_at accepting cell g) tree ≡ evaluation.Asks site name args
    answer_asks_still f g tree same h =
        let d = decides_formula (world_at setting cell g) tree in
        d.runs (record { topic = λ topic. Some (setting.snapshot topic); site = more cell })
        ∙ run_asks_still (λ topic. Some (setting.snapshot topic)) (setting.accepted cell) (more cell) (grows cell) d.decision site name args none
        (sym (d.runs (record { topic = λ topic. Some (setting.snapshot topic); site = setting.accepted cell }))
        ∙ sym (evaluated_alike (world_at setting cell f) f g tree same) ∙ h)

    -- a formula none of whose cells waits
    closed_asks_still : (tree : Node) → list_any (λ d. is_open (meaning setting book d)) (precedents tree cell.sheet) ≡ false
        → meaning_of_answer (answer_of (world_at setting cell (λ d. value_in (meaning setting book d))) tree) ≡ Asks site name args
        → formula_meaning accepting cell (meaning accepting book) tree ≡ Asks site name args
    closed_asks_still tree closed h =
        let same = none_where (λ d. is_open (meaning setting book d)) (λ d. meaning setting book d ≡ meaning accepting book d) closed_stays (precedents tree cell.sheet) closed in
        let waits = any_each (λ d. is_open (meaning setting book d)) (λ d. is_open (meaning accepting book d)) (precedents tree cell.sheet)
        (each_leads _ _ (λ d e. ap is_open e) (precedents tree cell.sheet) same) in
        ap (λ b. cond b Open (meaning_of_answer (answer_of (world_at accepting cell (λ d. value_in (meaning accepting book d))) tree))) (sym waits ∙ closed)
        ∙ ap meaning_of_answer (answer_asks_still (λ d. value_in (meaning setting book d)) (λ d. value_in (meaning accepting book d)) tree
        (each_leads _ _ (λ d e. ap value_in e) (precedents tree cell.sheet) same) (asked_answer _ site name args h))

    -- a formula
    formula_asks_still : (tree : Node) → formula_meaning setting cell (meaning setting book) tree ≡ Asks site name args
        → formula_meaning accepting cell (meaning accepting book) tree ≡ Asks site name args
    formula_asks_still tree h =
        elim (list_any (λ d. is_open (meaning setting book d)) (precedents tree cell.sheet)) as (λ b. list_any (λ d. is_open (meaning setting book d)) (precedents tree cell.sheet) ≡ b
        → cond b Open (meaning_of_answer (answer_of (world_at setting cell (λ d. value_in (meaning setting book d))) tree)) ≡ Asks site name args
        → formula_meaning accepting cell (meaning accepting book) tree ≡ Asks site name args) [
          | true ↦ λ e k. cc
          | false ↦ λ e k. closed_asks_still tree e k
        ] refl h

    -- a content
    content_asks_still : (content : Option Content) → content_meaning setting cell (meaning setting book) content ≡ Asks site name args
        → content_meaning accepting cell (meaning accepting book) content ≡ Asks site name args
    content_asks_still None h = cc
    content_asks_still (Some (contents.Num n)) h = cc
    content_asks_still (Some (contents.Text t)) h = cc
    content_asks_still (Some (contents.Bool b)) h = cc
    content_asks_still (Some (contents.Error e)) h = cc
    content_asks_still (Some (contents.Formula tree)) h = formula_asks_still tree h

    -- a cell that asks at a site asks there as long as nothing is accepted
    pub meaning_asks_still : meaning setting book cell ≡ Asks site name args → meaning accepting book cell ≡ Asks site name args
    meaning_asks_still h = elim (is_circular book cell) as (λ b. is_circular book cell ≡ b → meaning accepting book cell ≡ Asks site name args) [
      | true ↦ λ e. circle_asks (sym (shows_circle setting book cell e) ∙ h)
      | false ↦ λ e.
          meaning-unfolds accepting book ordered cell e
          ∙ content_asks_still (content_at book cell) (sym (meaning-unfolds setting book ordered cell e) ∙ h)
    ] refl
      where
        circle_asks : Circ ≡ Asks site name args → meaning accepting book cell ≡ Asks site name args
        circle_asks k = cc
