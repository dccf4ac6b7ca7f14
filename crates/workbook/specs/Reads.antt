-- The topics that a cell reads: those without whose value its formula can't be evaluated.
use Rattle.std.specs.Prelude.{ℕ, zero, suc, Bool, false, not, ◌&&◌, if◌then◌else◌, Option, None, Some, List, [], ◌∷◌, ◌++◌, length}
use Rattle.std.specs.List.{list_any}
use Rattle.std.specs.Option.{option_map_or}
use Rattle.cell_refs.specs.declared.grid.Cell.{Cell}
use Rattle.cell_values.specs.declared.topics.Topic.{Topic}
use Rattle.cell_values.specs.declared.values.Value.{Value}
use Rattle.cell_values.specs.Topic.{same_topic}
use Rattle.formula_parse.specs.declared.nodes.Node.{Node}
use Rattle.formula_parse.specs.Tree.{calls_of, precedents}
use Rattle.workbook.specs.declared.contents.Content.{Content}
use Rattle.workbook.specs.Book.{by_content, content_at}
use Rattle.workbook.specs.Circular.{is_circular}
use Rattle.workbook.specs.Evaluation.{World, Answer, Val, Asks, Needs, answer_of}
use Rattle.workbook.specs.Meaning.{Setting, is_open, meaning, value_in, world_at}

-- whether a topic stands in a list
abbrev pub is_listed : List Topic → Topic → Bool
is_listed topics topic = list_any (same_topic topic) topics

-- the answer of a formula where these topics are known
abbrev pub answer_knowing : World → Node → (Topic → Option Value) → Answer
answer_knowing world tree known = answer_of (record world { known = known }) tree

-- the topic that an answer needs, if it needs one
abbrev pub needed_topic : Answer → Option Topic
needed_topic (Val v) = None
needed_topic (Asks site name args) = None
needed_topic (Needs topic) = Some topic

-- every topic but this one has its value of the snapshot
abbrev pub all_but : Topic → (Topic → Value) → Topic → Option Value
all_but topic snapshot other = if same_topic topic other then None else Some (snapshot other)

-- whether a formula reads a topic: with every topic known but this one, it needs it
abbrev pub reads_topic : World → (Topic → Value) → Node → Topic → Bool
reads_topic world snapshot tree topic = option_map_or (same_topic topic) (needed_topic (answer_knowing world tree (all_but topic snapshot))) false

-- these topics alone have their values of the snapshot
abbrev pub these_alone : List Topic → (Topic → Value) → Topic → Option Value
these_alone topics snapshot topic = if is_listed topics topic then Some (snapshot topic) else None

-- known topics, and behind them at most so many more: each is the next one that the formula needs, and is known from then on
abbrev pub topics_behind : World → (Topic → Value) → Node → ℕ → List Topic → List Topic
topics_behind world snapshot tree zero topics = topics
topics_behind world snapshot tree (suc more) topics =
    option_map_or (λ topic. topics_behind world snapshot tree more (topics ++ topic ∷ []))
    (needed_topic (answer_knowing world tree (these_alone topics snapshot))) topics

-- the topics that a formula reads, in the order in which it needs them; a formula has no more of them than calls
abbrev pub topics_read : World → (Topic → Value) → Node → List Topic
topics_read world snapshot tree = topics_behind world snapshot tree (length (calls_of tree)) []

-- whether the formula of a cell is evaluated, where cells mean so: the cell isn't circular, and no cell that it names asks or waits
abbrev pub is_evaluated : Setting → List (Cell × Content) → Cell → Node → Bool
is_evaluated setting book cell tree =
    not (is_circular book cell) && not (list_any (λ d. is_open (meaning setting book d)) (precedents tree cell.sheet))

-- the world of a cell's formula, over what the cells of the book mean
abbrev pub world_in : Setting → List (Cell × Content) → Cell → World
world_in setting book cell = world_at setting cell (λ d. value_in (meaning setting book d))

-- the topics that a cell reads, in the order in which its formula needs them; none where it has no formula, or its formula isn't evaluated
abbrev pub topics_of_cell : Setting → List (Cell × Content) → Cell → List Topic
topics_of_cell setting book cell =
    by_content (λ v. [])
    (λ tree. if is_evaluated setting book cell tree then topics_read (world_in setting book cell) setting.snapshot tree else [])
    (content_at book cell)

-- whether a cell reads a topic
abbrev pub cell_reads : Setting → List (Cell × Content) → Cell → Topic → Bool
cell_reads setting book cell topic =
    by_content (λ v. false)
    (λ tree. is_evaluated setting book cell tree && reads_topic (world_in setting book cell) setting.snapshot tree topic)
    (content_at book cell)
