-- Which cells are among those that read a topic, that call a name, or whose formula passes a test.
use Rattle.std.proofs.Common.{◌≡◌, Bool, true, false, ◌||◌, ◌&&◌, cond, List, [], ◌∷◌, Option, Some, None, refl, ap, sym, ◌∙◌}
use Rattle.std.specs.List.{filter, list_any}
use Rattle.std.specs.Map.{keys_of}
use Rattle.std.specs.Option.{is_some}
use Rattle.std.proofs.lemmas.Map.Entries.{lookup-filter-values, option_filter}
use Rattle.std.proofs.lemmas.Map.Keys.{IsDistinct-from_sorted}
use Rattle.std.proofs.lemmas.Map.Made.{is_some-lookup}
use Rattle.std.proofs.lemmas.Map.Views.{any-filter_same}
use Rattle.cell_refs.specs.declared.grid.Cell.{Cell}
use Rattle.cell_refs.specs.Cell.{cell_cmp, is_among, same_cell}
use Rattle.cell_refs.proofs.PublicLaws.{same_cell_is, same_cells}
use Rattle.cell_values.specs.declared.topics.Topic.{Topic}
use Rattle.cell_values.specs.Topic.{same_topic}
use Rattle.formula_parse.specs.declared.nodes.Node.{Node}
use Rattle.workbook.specs.declared.contents.Content.{Content}
use Rattle.workbook.specs.declared.contents.Content.TheVariants as contents
use Rattle.workbook.specs.Book.{IsInOrder, by_content, content_at, formula_cells, has_formula, is_formula}
use Rattle.workbook.specs.Meaning.{Setting}
use Rattle.workbook.specs.Reads.{cell_reads, is_listed, topics_of_cell}
use Rattle.workbook.specs.Step.{formulas_where}
use Rattle.workbook.proofs.PublicLaws.{cell_listed, formula_cells-has}
use Rattle.clean_cells.proofs.TopicLists.{same_topic_is}
use Rattle.clean_cells.proofs.WithoutRtd.{calls_rtd, readers_call}

either_alike : (test : Node → Bool) (o : Option Content) → is_some (option_filter (λ content. by_content (λ v. false) test (Some content)) o) ≡ by_content (λ v. false) test o
either_alike test None = refl
either_alike test (Some content) = elim (by_content (λ v. false) test (Some content)) as (λ b. is_some (cond b (Some content) None) ≡ b) [ true ↦ refl | false ↦ refl ]

-- the formula cells whose formula passes
pub among-formulas_where : (test : Node → Bool) (book : List (Cell × Content)) → IsInOrder book → (cell : Cell) → is_among (formulas_where book test) cell ≡ by_content (λ v. false) test (content_at book cell)
among-formulas_where test book ordered cell =
    sym (is_some-lookup (same_cell cell) (filter (λ e. by_content (λ v. false) test (Some e.1)) book))
    ∙ ap is_some (lookup-filter-values same_cells (λ content. by_content (λ v. false) test (Some content)) cell book (IsDistinct-from_sorted cell_cmp (keys_of book) ordered))
    ∙ either_alike test (content_at book cell)

-- a cell that reads a topic has a formula
pub reads_formula : (setting : Setting) (book : List (Cell × Content)) (cell : Cell) (topic : Topic) → cell_reads setting book cell topic ≡ true → is_formula book cell ≡ true
reads_formula setting book cell topic h = by_calls (content_at book cell) (readers_call setting book cell topic h)
  where
    by_calls : (content : Option Content) → calls_rtd content ≡ true → has_formula content ≡ true
    by_calls None h = h
    by_calls (Some (contents.Num n)) h = h
    by_calls (Some (contents.Text t)) h = h
    by_calls (Some (contents.Bool b)) h = h
    by_calls (Some (contents.Error e)) h = h
    by_calls (Some (contents.Formula tree)) h = refl

some_listed : (p : Topic → Bool) (topics : List Topic) (t : Topic) → is_listed topics t ≡ true → p t ≡ true → list_any p topics ≡ true
some_listed p [] t h met = h
some_listed p (u ∷ topics) t h met =
    elim (same_topic t u) as (λ b. same_topic t u ≡ b → (b || is_listed topics t) ≡ true → (p u || list_any p topics) ≡ true) [
      | true ↦ λ is _. ap (λ b. b || list_any p topics) (ap p (sym (same_topic_is t u is)) ∙ met)
      | false ↦ λ is later. right (p u) (some_listed p topics t later met)
    ] refl h
  where
    right : (b : Bool) → list_any p topics ≡ true → (b || list_any p topics) ≡ true
    right true h = refl
    right false h = h

-- a cell that reads one of these topics is among the formula cells that do
pub reader_among : (setting : Setting) (book : List (Cell × Content)) → IsInOrder book → (topics : List Topic) (cell : Cell) (t : Topic) → cell_reads setting book cell t ≡ true → is_listed topics t ≡ true
    → is_among (filter (λ c. list_any (is_listed topics) (topics_of_cell setting book c)) (formula_cells book)) cell ≡ true
reader_among setting book ordered topics cell t reads listed =
    any-filter_same (same_cell cell) reads_one (reads_one cell) (λ c is. ap reads_one (sym (same_cell_is cell c is))) (formula_cells book)
    ∙ ap (λ b. b && is_among (formula_cells book) cell) (some_listed (is_listed topics) (topics_of_cell setting book cell) t (cell_listed setting book cell t ∙ reads) listed)
    ∙ formula_cells-has book ordered cell
    ∙ reads_formula setting book cell t reads
  where
    reads_one : Cell → Bool
    reads_one c = list_any (is_listed topics) (topics_of_cell setting book c)
