-- For the crate's own laws: what every command keeps of a host's state.
use Rattle.std.specs.Prelude.{◌≡◌, ◌⊎◌, ℕ, true, false, Some, None, List, []}
use Rattle.std.specs.List.{IsDistinct}
use Rattle.std.specs.Map.{keys_of, lookup}
use Rattle.std.specs.Option.{option_map_or}
use Rattle.cell_refs.specs.declared.grid.Cell.{Cell}
use Rattle.cell_refs.specs.Cell.{is_among}
use Rattle.cell_values.specs.declared.topics.Topic.{Topic}
use Rattle.cell_values.specs.declared.values.Value.{Value}
use Rattle.cell_values.specs.Topic.{same_topic}
use Rattle.formula_parse.specs.declared.nodes.Node.{Node}
use Rattle.formula_parse.specs.Tree.{sites_named}
use Rattle.workbook.specs.declared.contents.Content.TheVariants.{Formula}
use Rattle.workbook.specs.Book.{IsInOrder, content_at}
use Rattle.workbook.specs.Pulling.{is_named}
use Rattle.workbook.specs.Reads.{cell_reads}
use Rattle.workbook.specs.Registry.{registration_of}
use Rattle.workbook.specs.Stale.{is_stale}
use Rattle.workbook.specs.State.{HostTerms, State, accepted_value_at, completed_setting, not_available, value_among}
use Rattle.workbook.specs.Step.{failed_topics, knows_server}

-- what was published when the recalculation that runs began; nothing where none runs
abbrev pub opening_topics : State → List (Topic × Value)
opening_topics s = option_map_or (λ running. running.opening) s.running []

-- only a known server's topics are among these
abbrev pub AreOfKnown : State → List (Topic × Value) → Type 0
AreOfKnown s topics = (topic : Topic) → knows_server s topic.server ≡ false → lookup (same_topic topic) topics ≡ None

-- a topic is connected with the value that it had in the last completed recalculation, or its server is unknown, and it
-- was #N/A
abbrev pub IsAsCompleted : State → Topic → Type 0
IsAsCompleted s topic =
    (lookup (same_topic topic) s.taken ≡ Some (value_among s.completed.topics topic))
    ⊎ ((knows_server s topic.server ≡ false) × (value_among s.completed.topics topic ≡ not_available))

-- both books are in order, topics are a known server's, each connected once, and none failed to connect; and beside what
-- is changed the contents, the topics that were read, registrations and accepted values are those of the last completion
pub record KeepsClean (terms : HostTerms) (s : State) : Type 0 where
  pub ordered : IsInOrder s.book.contents
  pub completed_ordered : IsInOrder s.completed.book.contents
  pub once : IsDistinct same_topic (keys_of s.taken)
  pub published : AreOfKnown s s.published
  pub taken : AreOfKnown s s.taken
  pub opening : AreOfKnown s (opening_topics s)
  -- no command adds to the topics that failed
  pub failed : failed_topics s ≡ []
  pub contents : (cell : Cell) → is_among s.changed cell ≡ false
      → content_at s.completed.book.contents cell ≡ content_at s.book.contents cell
  pub seen : (cell : Cell) (topic : Topic) → is_among s.changed cell ≡ false
      → cell_reads (completed_setting terms s) s.completed.book.contents cell topic ≡ true → IsAsCompleted s topic
  pub registered : (cell : Cell) (tree : Node) → is_among s.changed cell ≡ false
      → content_at s.book.contents cell ≡ Some (Formula tree) → (name : List ℕ) → is_named (sites_named tree) name ≡ true
      → registration_of s.completed.book.functions name ≡ registration_of s.book.functions name
  pub accepted : (cell : Cell) (tree : Node) → content_at s.book.contents cell ≡ Some (Formula tree)
      → is_stale s.book.contents s.changed cell ≡ false
      → (site : ℕ) → accepted_value_at s.completed.accepted cell site ≡ accepted_value_at s.accepted cell site
