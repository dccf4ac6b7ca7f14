-- Where two worlds, or two settings, agree on what a formula is evaluated over.
use Rattle.std.specs.Prelude.{◌≡◌, ℕ, ◌<◌, ◌≤◌, true, false, Some, List, All}
use Rattle.cell_refs.specs.declared.grid.Cell.{Cell}
use Rattle.cell_refs.specs.Cell.{is_among}
use Rattle.cell_values.specs.declared.topics.Topic.{Topic}
use Rattle.cell_values.specs.declared.values.Value.{Value}
use Rattle.formula_parse.specs.declared.nodes.Node.{Node}
use Rattle.formula_parse.specs.Tree.{precedents, site_count, sites_named}
use Rattle.workbook.specs.declared.contents.Content.{Content}
use Rattle.workbook.specs.declared.contents.Content.TheVariants.{Formula}
use Rattle.workbook.specs.Book.{content_at}
use Rattle.workbook.specs.Evaluation.{World}
use Rattle.workbook.specs.Meaning.{Setting}
use Rattle.workbook.specs.Reads.{cell_reads}
use Rattle.workbook.specs.Stale.{is_stale}

-- two worlds agree for a formula, beside topics: on the sheet, the values of the cells that it names, what the names
-- that it calls are registered with, the accepted values at its sites, and what add-in functions answer
pub record AgreesBesideTopics (world other : World) (tree : Node) : Type 0 where
  pub home : world.home ≡ other.home
  pub input : All (λ cell. world.input cell ≡ other.input cell) (precedents tree world.home)
  pub registered : All (λ name. world.registered name ≡ other.registered name) (sites_named tree)
  pub accepted : (site : ℕ) → 0 < site → site ≤ site_count tree → world.accepted site ≡ other.accepted site
  pub answer : world.answer ≡ other.answer

-- two settings agree for the formula of a cell, beside the values of cells: on what the names that it calls are
-- registered with, the accepted values at its sites, and the topics that the cell reads in a book in the first one
pub record AgreesBesideCells (earlier later : Setting) (book : List (Cell × Content)) (cell : Cell) (tree : Node) : Type 0 where
  pub registered : All (λ name. earlier.registered name ≡ later.registered name) (sites_named tree)
  pub accepted : (site : ℕ) → 0 < site → site ≤ site_count tree → earlier.accepted cell site ≡ later.accepted cell site
  pub topics : (topic : Topic) → cell_reads earlier book cell topic ≡ true → earlier.snapshot topic ≡ later.snapshot topic

-- a book in a setting and a later one in another are alike beside what is changed: the content of each cell that isn't
-- changed, what add-in functions answer, and what the formula of each cell that isn't stale is evaluated over
pub record IsAlikeBesideChanged (earlier later : Setting) (before now : List (Cell × Content)) (changed : List Cell) : Type 0 where
  pub contents : (cell : Cell) → is_among changed cell ≡ false → content_at before cell ≡ content_at now cell
  pub answer : earlier.answer ≡ later.answer
  pub formulas : (cell : Cell) (tree : Node) → content_at now cell ≡ Some (Formula tree)
      → is_stale now changed cell ≡ false → AgreesBesideCells earlier later before cell tree

-- a later setting accepts what an earlier one accepts, with the same values, and is the same else
pub record AcceptsAsMuch (earlier later : Setting) : Type 0 where
  pub accepted : (cell : Cell) (site : ℕ) (v : Value) → earlier.accepted cell site ≡ Some v → later.accepted cell site ≡ Some v
  pub snapshot : (topic : Topic) → earlier.snapshot topic ≡ later.snapshot topic
  pub registered : (name : List ℕ) → earlier.registered name ≡ later.registered name
  pub answer : earlier.answer ≡ later.answer
