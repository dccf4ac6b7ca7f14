-- The job of a cell comes to the cell's meaning, and reads the topics that the cell reads.
use Rattle.std.proofs.Common.{◌≡◌, ℕ, Bool, true, false, not, cond, ◌||◌, ◌&&◌, nat_eq, Option, None, Some, is_some, unwrap_or, List, [], ◌∷◌, refl, ap, sym, subst, ◌∙◌}
use Rattle.std.specs.List.{All, AllByRecursion, flat_map, list_any}
use Rattle.std.specs.Map.{lookup}
use Rattle.std.specs.Option.{option_map}
use Rattle.std.proofs.lemmas.Bool.{or_left, or_right}
use Rattle.std.proofs.lemmas.List.Elements.{All-from_recursion}
use Rattle.cell_eval.specs.declared.jobs.Job.{Job}
use Rattle.cell_eval.specs.Jobs.{input_of, result_at, world_of}
use Rattle.cell_refs.specs.declared.areas.Area.{Area}
use Rattle.cell_refs.specs.declared.grid.Cell.{Cell}
use Rattle.cell_refs.specs.Area.{cells_of}
use Rattle.cell_refs.specs.Cell.{is_among, same_cell}
use Rattle.cell_refs.proofs.PublicLaws.{lies_in-among, same_cells, some_among}
use Rattle.cell_store.specs.Gathering.{AreGathered, HasUnknown, has_no_value}
use Rattle.cell_store.specs.Store.{StoreState, entry_at, present_at}
use Rattle.cell_values.specs.declared.topics.Topic.{Topic}
use Rattle.cell_values.specs.declared.values.Value.{Value}
use Rattle.cell_values.specs.declared.values.Value.TheVariants as values
use Rattle.formula_parse.specs.declared.nodes.Node.{Node}
use Rattle.formula_parse.specs.Tree.{areas_named, precedents, sites_named}
use Rattle.workbook.specs.declared.contents.Content.{Content}
use Rattle.workbook.specs.declared.contents.Content.TheVariants as contents
use Rattle.workbook.specs.Agreement.{AgreesBesideTopics}
use Rattle.workbook.specs.Book.{BookState, IsInOrder, by_content, cell_precedents, content_at, content_precedents, formula_count, has_formula, is_formula}
use Rattle.workbook.specs.Circular.{is_circular, walks_on}
use Rattle.workbook.specs.Evaluation as answers
use Rattle.workbook.specs.Evaluation.{Answer}
use Rattle.workbook.specs.Meaning.{Asks, Circ, Meaning, Open, Setting, Val, content_meaning, is_open, meaning, meaning_of_answer, value_in}
use Rattle.workbook.specs.Reads.{answer_knowing, cell_reads, is_evaluated, is_listed, topics_read, world_in}
use Rattle.workbook.specs.Registry.{registration_of}
use Rattle.workbook.proofs.PublicLaws.{answer_alike, cell_listed, circular-names, each_leads, meaning-unfolds, read_alike, shows_circle, walks-formula}
use Rattle.calc_round.specs.Looks.{IsJobOf}
use Rattle.calc_round.specs.Rounds.{PresentMeans, is_unfinished, names_unfinished, round_setting}
use Rattle.calc_round.proofs.Registered.{each-registered}

-- ---- lists and tests

along : (P : Cell → Type 0) (cells : List Cell) → ((q : Cell) → is_among cells q ≡ true → P q) → AllByRecursion P cells
along P [] each = tt
along P (c ∷ cells) each = (each c (or_left (same_cell c c) _ (same_cells.refl c)), along P cells (λ q h. each q (or_right (same_cell q c) _ h)))

none_of : (p : Cell → Bool) (cells : List Cell) → AllByRecursion (λ d. p d ≡ false) cells → list_any p cells ≡ false
none_of p [] each = refl
none_of p (c ∷ cells) each = ap (λ b. b || list_any p cells) each.0 ∙ none_of p cells each.1

-- ---- a cell that isn't ready

-- a formula names the cells of its areas
pub names-unknown : (book : List (Cell × Content)) (store : StoreState) (cell : Cell) (tree : Node) (areas : List Area) → content_at book cell ≡ Some (contents.Formula tree)
    → areas ≡ areas_named tree cell.sheet → HasUnknown (present_at store) areas → names_unfinished book store cell ≡ true
names-unknown book store cell tree areas is named found =
    ap (λ o. list_any (is_unfinished store) (content_precedents o cell.sheet)) is
    ∙ ap (λ all. list_any (is_unfinished store) (flat_map cells_of all)) (sym named)
    ∙ some_among (is_unfinished store) (flat_map cells_of areas) found.0 (sym (lies_in-among areas found.0) ∙ found.1) (ap has_no_value found.2)

-- ---- meanings of cells

absent : (o : Option Content) → is_some o ≡ false → o ≡ None
absent None h = refl
absent (Some content) h = cc

module _ (answer : List ℕ → List Value → Value) (snapshot : Topic → Value) (results : Cell → List (ℕ × Value)) (state : BookState) (ordered : IsInOrder state.contents) (store : StoreState)
    (means : PresentMeans (round_setting answer snapshot results state.functions) state.contents store) where
  abbrev setting : Setting
  setting = round_setting answer snapshot results state.functions

  abbrev book : List (Cell × Content)
  book = state.contents

  -- a cell without content is Blank
  no_walk : (n : ℕ) (c : Cell) → is_formula book c ≡ false → walks_on book n c ≡ false
  no_walk n c constant = elim (walks_on book n c) as (λ b. walks_on book n c ≡ b → b ≡ false) [
    | true ↦ λ e. sym (walks-formula book n c e) ∙ constant
    | false ↦ λ _. refl
  ] refl

  blank_means : (c : Cell) → content_at book c ≡ None → meaning setting book c ≡ Val values.Blank
  blank_means c none =
      meaning-unfolds setting book ordered c (no_walk (formula_count book) c (ap has_formula none))
      ∙ ap (content_meaning setting c (meaning setting book)) none

  -- an input is what the cell means
  input_cases : (q : Cell) (o : Option (Option Value)) (e : Option Value) → present_at store q ≡ o → option_map Some e ≡ o
      → meaning setting book q ≡ Val (unwrap_or e values.Blank)
  input_cases q None None is h = blank_means q (absent (content_at book q) (sym (means.content q) ∙ ap is_some is))
  input_cases q None (Some w) is h = cc
  input_cases q (Some None) None is h = cc
  input_cases q (Some None) (Some w) is h = cc
  input_cases q (Some (Some v)) None is h = cc
  input_cases q (Some (Some v)) (Some w) is h = let same : v ≡ w = cc in means.value q v is ∙ ap Val same

  inputs_mean : (areas : List Area) (inputs : List (Cell × Value)) → AreGathered (present_at store) areas inputs
      → AllByRecursion (λ d. meaning setting book d ≡ Val (input_of inputs d)) (flat_map cells_of areas)
  inputs_mean areas inputs gathered = along _ (flat_map cells_of areas) (λ q h.
      input_cases q (present_at store q) (entry_at inputs q) refl (gathered.values q (lies_in-among areas q ∙ h)))

  -- a cell that means a value isn't circular
  straight : (c : Cell) (v : Value) → meaning setting book c ≡ Val v → is_circular book c ≡ false
  straight c v h = elim (is_circular book c) as (λ b. is_circular book c ≡ b → b ≡ false) [
    | true ↦ λ e. let no : Circ ≡ Val v = sym (shows_circle setting book c e) ∙ h in cc
    | false ↦ λ _. refl
  ] refl

  shut : (b : Bool) (m : Meaning) → b ≡ false → cond b Open m ≡ m
  shut true m h = cc
  shut false m h = refl

  both_not : (a b : Bool) → a ≡ false → b ≡ false → (not a && not b) ≡ true
  both_not true b h k = cc
  both_not false true h k = cc
  both_not false false h k = refl

  module _ (cell : Cell) (job : Job) (is : IsJobOf state results store cell job) where
    -- the cells that the formula names mean its inputs
    each_means : AllByRecursion (λ d. meaning setting book d ≡ Val (input_of job.inputs d)) (precedents job.tree cell.sheet)
    each_means = inputs_mean (areas_named job.tree cell.sheet) job.inputs is.inputs

    named : cell_precedents book cell ≡ precedents job.tree cell.sheet
    named = ap (λ o. content_precedents o cell.sheet) is.tree

    -- so the formula is evaluated
    apart : is_circular book cell ≡ false
    apart =
        circular-names book ordered cell ∙ ap (list_any (is_circular book)) named
        ∙ none_of (is_circular book) (precedents job.tree cell.sheet) (each_leads _ _ (λ d m. straight d (input_of job.inputs d) m) (precedents job.tree cell.sheet) each_means)

    shut_all : list_any (λ d. is_open (meaning setting book d)) (precedents job.tree cell.sheet) ≡ false
    shut_all = none_of _ (precedents job.tree cell.sheet) (each_leads _ _ (λ d m. ap is_open m) (precedents job.tree cell.sheet) each_means)

    evaluated : is_evaluated setting book cell job.tree ≡ true
    evaluated = both_not (is_circular book cell) (list_any (λ d. is_open (meaning setting book d)) (precedents job.tree cell.sheet)) apart shut_all

    -- the world of the job is the cell's, beside topics
    agrees : AgreesBesideTopics (world_of answer job) (world_in setting book cell) job.tree
    unfolding world_of
    agrees = record {
      home = ap (λ (c : Cell). c.sheet) is.home;
      input = subst (λ (c : Cell). All (λ d. input_of job.inputs d ≡ value_in (meaning setting book d)) (precedents job.tree c.sheet)) (sym is.home)
          (All-from_recursion _ (precedents job.tree cell.sheet) (each_leads _ _ (λ d m. sym (ap value_in m)) (precedents job.tree cell.sheet) each_means));
      registered = subst (λ functions. All (λ name. registration_of functions name ≡ registration_of state.functions name) (sites_named job.tree)) (sym is.functions)
          (each-registered state.functions (sites_named job.tree));
      accepted = λ site low high. ap (λ entries. result_at entries site) is.results;
      answer = refl;
    }

    -- what it comes to with all topics known is what the cell means
    job_means : meaning setting book cell ≡ meaning_of_answer (answer_knowing (world_of answer job) job.tree (λ topic. Some (snapshot topic)))
    job_means =
        meaning-unfolds setting book ordered cell apart ∙ ap (content_meaning setting cell (meaning setting book)) is.tree
        ∙ shut (list_any (λ d. is_open (meaning setting book d)) (precedents job.tree cell.sheet)) _ shut_all
        ∙ ap meaning_of_answer (sym (answer_alike (world_of answer job) (world_in setting book cell) job.tree agrees (λ topic. Some (snapshot topic))))

    -- a value that it comes to is the cell's
    pub job-value : (v : Value) → answers.Val v ≡ answer_knowing (world_of answer job) job.tree (λ topic. Some (snapshot topic)) → meaning setting book cell ≡ Val v
    job-value v told = job_means ∙ ap meaning_of_answer (sym told)

    -- a call that it asks for is the cell's
    pub job-asks : (site : ℕ) (name : List ℕ) (args : List Value) → answers.Asks site name args ≡ answer_knowing (world_of answer job) job.tree (λ topic. Some (snapshot topic))
        → meaning setting book cell ≡ Asks site name args
    job-asks site name args told = job_means ∙ ap meaning_of_answer (sym told)

    -- the topics that it reads are those that the cell reads
    pub job-reads : (topic : Topic) → cell_reads setting book cell topic ≡ is_listed (topics_read (world_of answer job) snapshot job.tree) topic
    job-reads topic =
        sym (cell_listed setting book cell topic)
        ∙ ap (λ o. is_listed (by_content (λ v. []) (λ tree. cond (is_evaluated setting book cell tree) (topics_read (world_in setting book cell) snapshot tree) []) o) topic) is.tree
        ∙ ap (λ b. is_listed (cond b (topics_read (world_in setting book cell) snapshot job.tree) []) topic) evaluated
        ∙ ap (λ topics. is_listed topics topic) (sym (read_alike (world_of answer job) (world_in setting book cell) job.tree agrees snapshot snapshot (λ t read. refl)))
