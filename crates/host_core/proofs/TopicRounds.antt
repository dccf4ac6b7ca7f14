-- What cells read of topics where a recalculation begins and where it completes.
use Rattle.std.proofs.Common.{◌≡◌, ◌⊎◌, inl, inr, ℕ, zero, suc, Bool, true, false, not, ◌&&◌, ◌||◌, cond, List, [], Option, Some, None, refl, ap, sym, ◌∙◌}
use Rattle.std.specs.List.{count_by, filter, flat_map, list_any}
use Rattle.std.specs.Map.{keys_of, lookup}
use Rattle.std.specs.Option.{is_some}
use Rattle.cell_refs.specs.declared.grid.Cell.{Cell}
use Rattle.cell_refs.specs.Cell.{is_among}
use Rattle.cell_refs.proofs.PublicLaws.{some_among}
use Rattle.cell_values.specs.declared.topics.Topic.{Topic}
use Rattle.cell_values.specs.declared.values.Value.{Value}
use Rattle.cell_values.specs.Topic.{same_topic}
use Rattle.clean_cells.specs.Keeping.{IsAsCompleted, KeepsClean}
use Rattle.workbook.specs.declared.contents.Content.{Content}
use Rattle.workbook.specs.Book.{IsInOrder, cell_precedents, formula_cells, formula_count, is_formula}
use Rattle.workbook.specs.Reads.{cell_reads, is_listed, topics_of_cell}
use Rattle.workbook.specs.Stale.{is_stale, reaches, stale_cells, stale_count}
use Rattle.workbook.specs.State.{HostTerms, State, completed_setting, setting_of, snapshot}
use Rattle.workbook.specs.Step.{failed_topics, knows_server, taken_at_end, topics_in_use}
use Rattle.workbook.proofs.PublicLaws.{any_alike, cell_listed, formula_cells-has}
use Rattle.host_core.specs.HostKeeping.{is_known}
use Rattle.clean_cells.proofs.PublicLaws.{listed-filter, listed-flat_map, listed-topics_once, lookup-of_topics}
use Rattle.host_core.proofs.TopicSteps.{reads_formula}

-- ---- changed cells in another order
module _ (book : List (Cell × Content)) (changed others : List Cell) (alike : (cell : Cell) → is_among changed cell ≡ is_among others cell) where
  reaches_alike : (steps : ℕ) (cell : Cell) → reaches book changed steps cell ≡ reaches book others steps cell
  reaches_alike zero cell = alike cell
  reaches_alike (suc steps) cell =
      ap (λ b. b || list_any (reaches book changed steps) (cell_precedents book cell)) (alike cell)
      ∙ ap (λ b. is_among others cell || b) (any_alike (reaches book changed steps) (reaches book others steps) (reaches_alike steps) (cell_precedents book cell))

  pub stale_alike : (cell : Cell) → is_stale book changed cell ≡ is_stale book others cell
  stale_alike cell = ap (λ b. is_formula book cell && b) (reaches_alike (formula_count book) cell)

  -- as many cells are stale
  pub counted_stale : stale_count book changed ≡ stale_count book others
  counted_stale = λ i. count_by (λ (e : Cell × Content). stale_alike e.0 i) book

  -- the same ones
  pub listed_stale : stale_cells book changed ≡ stale_cells book others
  listed_stale = λ i. keys_of (filter (λ (e : Cell × Content). stale_alike e.0 i) book)

-- ---- a begin
module _ (t : HostTerms) (s : State) (clean : KeepsClean t s) where
  -- whether a cell read a topic in the last completed recalculation
  abbrev was_read : Topic → Cell → Bool
  was_read topic cell = cell_reads (completed_setting t s) s.completed.book.contents cell topic

  -- what a cell that isn't changed read is noted where its server is known
  pub noted-begun : (topic : Topic) (cell : Cell) (stays : Bool) → (stays ≡ true → is_among s.changed cell ≡ false)
      → ((is_some (lookup (same_topic topic) s.taken) && cell_reads (completed_setting t s) s.completed.book.contents cell topic) && stays)
      ≡ ((is_known s.servers topic.server && cell_reads (completed_setting t s) s.completed.book.contents cell topic) && stays)
  noted-begun topic cell false unchanged = nothing (is_some (lookup (same_topic topic) s.taken) && was_read topic cell) ∙ sym (nothing (is_known s.servers topic.server && was_read topic cell))
    where
      nothing : (b : Bool) → (b && false) ≡ false
      nothing true = refl
      nothing false = refl
  noted-begun topic cell true unchanged = ap (λ b. b && true) (by_reading (was_read topic cell) refl)
    where
      none : (b c : Bool) → (b && false) ≡ (c && false)
      none true true = refl
      none true false = refl
      none false true = refl
      none false false = refl

      by_seen : IsAsCompleted s topic → is_some (lookup (same_topic topic) s.taken) ≡ is_known s.servers topic.server
      by_seen (inl connected) = ap is_some connected ∙ sym (known_if (is_known s.servers topic.server) refl)
        where
          known_if : (b : Bool) → is_known s.servers topic.server ≡ b → is_known s.servers topic.server ≡ true
          known_if true is = is
          known_if false is = absurd (cc (clean.taken topic is, connected))
      by_seen (inr unknown) = ap is_some (clean.taken topic unknown.0) ∙ sym unknown.0

      by_reading : (b : Bool) → was_read topic cell ≡ b
          → (is_some (lookup (same_topic topic) s.taken) && was_read topic cell) ≡ (is_known s.servers topic.server && was_read topic cell)
      by_reading true reads = ap (λ b. b && was_read topic cell) (by_seen (clean.seen cell topic (unchanged refl) reads))
      by_reading false reads =
          ap (λ b. is_some (lookup (same_topic topic) s.taken) && b) reads
          ∙ none (is_some (lookup (same_topic topic) s.taken)) (is_known s.servers topic.server)
          ∙ sym (ap (λ b. is_known s.servers topic.server && b) reads)

-- ---- the end of a recalculation
module _ (t : HostTerms) (s : State) where
  -- whether a cell reads a topic in it
  abbrev is_read : Topic → Cell → Bool
  is_read topic cell = cell_reads (setting_of t s) s.book.contents cell topic

  -- what the formula cells read
  abbrev pub is_in_use : Topic → Bool
  is_in_use topic = list_any (λ cell. cell_reads (setting_of t s) s.book.contents cell topic) (formula_cells s.book.contents)

  listed_in_use : (topic : Topic) → is_listed (topics_in_use t s) topic ≡ is_in_use topic
  listed_in_use topic =
      listed-topics_once (flat_map (topics_of_cell (setting_of t s) s.book.contents) (formula_cells s.book.contents)) topic
      ∙ listed-flat_map (topics_of_cell (setting_of t s) s.book.contents) (formula_cells s.book.contents) topic
      ∙ any_alike (λ cell. is_listed (topics_of_cell (setting_of t s) s.book.contents cell) topic) (λ cell. is_read topic cell) (λ cell. cell_listed (setting_of t s) s.book.contents cell topic) (formula_cells s.book.contents)

  swapped : (a b : Bool) → (a && b) ≡ (b && a)
  swapped true true = refl
  swapped true false = refl
  swapped false true = refl
  swapped false false = refl

  also_true : (b : Bool) → (b && true) ≡ b
  also_true true = refl
  also_true false = refl

  -- the topics that stay connected
  abbrev stays : Topic → Bool
  stays u = knows_server s u.server && not (is_listed (failed_topics s) u)

  module _ (none : failed_topics s ≡ []) where
    -- what is found of a topic
    pub lookup-left : (topic : Topic) → lookup (same_topic topic) (taken_at_end t s) ≡ cond (is_in_use topic && is_known s.servers topic.server) (Some (snapshot s topic)) None
    lookup-left topic =
        lookup-of_topics (snapshot s) (filter stays (topics_in_use t s)) topic
        ∙ ap (λ b. cond b (Some (snapshot s topic)) None)
        (listed-filter stays (topics_in_use t s) topic
        ∙ swapped (stays topic) (is_listed (topics_in_use t s) topic)
        ∙ ap (λ b. b && stays topic) (listed_in_use topic)
        ∙ ap (λ failed. is_in_use topic && (is_known s.servers topic.server && not (is_listed failed topic))) none
        ∙ ap (λ b. is_in_use topic && b) (also_true (is_known s.servers topic.server)))

    module _ (ordered : IsInOrder s.book.contents) where
      -- what a cell reads is in use
      pub read_in_use : (cell : Cell) (topic : Topic) → cell_reads (setting_of t s) s.book.contents cell topic ≡ true → is_in_use topic ≡ true
      read_in_use cell topic reads =
          some_among (λ c. is_read topic c) (formula_cells s.book.contents) cell
          (formula_cells-has s.book.contents ordered cell ∙ reads_formula (setting_of t s) s.book.contents cell topic reads) reads

      -- the readers of what stays connected are the readers of what is served
      pub readers-done : (topic : Topic) (cell : Cell)
          → (cell_reads (setting_of t s) s.book.contents cell topic && is_known s.servers topic.server)
          ≡ (is_some (lookup (same_topic topic) (taken_at_end t s)) && cell_reads (setting_of t s) s.book.contents cell topic)
      readers-done topic cell = by_reading (is_read topic cell) refl
        where
          found_if : (b : Bool) → is_some (cond b (Some (snapshot s topic)) None) ≡ b
          found_if true = refl
          found_if false = refl

          found : is_some (lookup (same_topic topic) (taken_at_end t s)) ≡ (is_in_use topic && is_known s.servers topic.server)
          found = ap is_some (lookup-left topic) ∙ found_if (is_in_use topic && is_known s.servers topic.server)

          nothing : (b : Bool) → (b && false) ≡ false
          nothing true = refl
          nothing false = refl

          by_reading : (b : Bool) → is_read topic cell ≡ b
              → (is_read topic cell && is_known s.servers topic.server) ≡ (is_some (lookup (same_topic topic) (taken_at_end t s)) && is_read topic cell)
          by_reading true reads =
              ap (λ b. b && is_known s.servers topic.server) reads
              ∙ sym (ap (λ b. is_some (lookup (same_topic topic) (taken_at_end t s)) && b) reads ∙ also_true (is_some (lookup (same_topic topic) (taken_at_end t s))) ∙ found ∙ ap (λ b. b && is_known s.servers topic.server) (read_in_use cell topic reads))
          by_reading false reads =
              ap (λ b. b && is_known s.servers topic.server) reads
              ∙ sym (ap (λ b. is_some (lookup (same_topic topic) (taken_at_end t s)) && b) reads ∙ nothing (is_some (lookup (same_topic topic) (taken_at_end t s))))
