-- Recalculations keep what commands keep: their begin, the values that are accepted in them, their cancelling, and
-- their completion.
use Rattle.std.proofs.Common.{◌≡◌, inl, inr, Bool, true, false, not, ◌&&◌, cond, [], Some, None, refl, ap, sym, subst, ◌∙◌}
use Rattle.std.specs.List.{IsDistinct, filter, flat_map, list_any}
use Rattle.std.specs.Map.{lookup}
use Rattle.cell_refs.specs.declared.grid.Cell.{Cell}
use Rattle.cell_refs.specs.declared.handles.Handle.{Handle}
use Rattle.cell_refs.specs.Cell.{same_cell}
use Rattle.cell_refs.proofs.PublicLaws.{same_cell_is, some_among}
use Rattle.cell_values.specs.declared.topics.Topic.{Topic}
use Rattle.cell_values.specs.declared.values.Value.{Value}
use Rattle.cell_values.specs.Topic.{same_topic}
use Rattle.workbook.specs.declared.commands.BeginKind.{BeginKind}
use Rattle.workbook.specs.declared.commands.BeginKind.TheVariants as kinds
use Rattle.workbook.specs.Book.{formula_cells, has_formula}
use Rattle.workbook.specs.Reads.{cell_reads, is_listed, topics_of_cell}
use Rattle.workbook.specs.Stale.{is_stale}
use Rattle.workbook.specs.State.{HostTerms, State, setting_of, snapshot}
use Rattle.workbook.specs.Step.{after_begin, after_cancel, after_done, after_return, changed_at_begin, failed_topics, is_open_handle, knows_server, taken_at_end, topics_in_use}
use Rattle.workbook.proofs.PublicLaws.{any_alike, cell_listed, formula_cells-has}
use Rattle.clean_cells.specs.Keeping.{IsAsCompleted, KeepsClean}
use Rattle.clean_cells.proofs.Acceptance.{open_stale, value_elsewhere, values-clean}
use Rattle.clean_cells.proofs.Edits.{changed_kept, edited}
use Rattle.clean_cells.proofs.Readers.{reads_formula}
use Rattle.clean_cells.proofs.Snapshots.{value_of_unknown}
use Rattle.clean_cells.proofs.TopicLists.{distinct-filter, distinct-topics_once, keys-of_topics, listed-filter, listed-flat_map, listed-topics_once, lookup-of_topics}

module _ (terms : HostTerms) (s : State) (kept : KeepsClean terms s) where
  -- ---- a begin
  -- its changed cells
  begin_changed : (kind : BeginKind) → KeepsClean terms (edited terms s kept s.book.contents (changed_at_begin kind s.book.contents s.changed))
  begin_changed kinds.Dirty = changed_kept terms s kept []
  begin_changed kinds.All = changed_kept terms s kept (formula_cells s.book.contents)
  begin_changed kinds.Rebuild = changed_kept terms s kept (formula_cells s.book.contents)

  pub begin_kept : (kind : BeginKind) → KeepsClean terms (after_begin s kind)
  begin_kept kind =
      let e = begin_changed kind in record {
        ordered = e.ordered;
        completed_ordered = e.completed_ordered;
        once = e.once;
        published = e.published;
        taken = e.taken;
        contents = e.contents;
        seen = e.seen;
        registered = e.registered;
        opening = kept.published;
        failed = refl;
        accepted = λ cell tree content fresh site.
            e.accepted cell tree content fresh site
            ∙ sym (values-clean s.book.contents kept.ordered (changed_at_begin kind s.book.contents s.changed) s.accepted cell (ap has_formula content) fresh site);
      }

  -- ---- a return
  another_cell : (stale cell : Cell) → is_stale s.book.contents s.changed stale ≡ true → is_stale s.book.contents s.changed cell ≡ false → (b : Bool) → same_cell stale cell ≡ b → same_cell stale cell ≡ false
  another_cell stale cell is_so fresh false is = is
  another_cell stale cell is_so fresh true is =
      let one : stale ≡ cell = same_cell_is stale cell is in
      absurd (cc (ap (is_stale s.book.contents s.changed) one, is_so, fresh))

  pub return_kept : (handle : Handle) (value : Value) → is_open_handle terms s handle ≡ true → KeepsClean terms (after_return s handle value)
  return_kept handle value asked = record {
    ordered = kept.ordered;
    completed_ordered = kept.completed_ordered;
    once = kept.once;
    published = kept.published;
    taken = kept.taken;
    opening = kept.opening;
    failed = kept.failed;
    contents = kept.contents;
    seen = kept.seen;
    registered = kept.registered;
    accepted = λ cell tree content fresh site.
        kept.accepted cell tree content fresh site
        ∙ sym (value_elsewhere (record { cell = handle.cell; site = handle.site; value = value }) s.accepted cell site
        (another_cell handle.cell cell (open_stale terms s handle asked) fresh (same_cell handle.cell cell) refl));
  }

  -- ---- an end
  pub cancel_kept : KeepsClean terms (after_cancel s)
  cancel_kept = record {
    ordered = kept.ordered;
    completed_ordered = kept.completed_ordered;
    once = kept.once;
    published = kept.published;
    taken = kept.taken;
    contents = kept.contents;
    seen = kept.seen;
    registered = kept.registered;
    accepted = kept.accepted;
    opening = λ t unknown. refl;
    failed = refl;
  }

  -- what the formula cells read
  abbrev is_in_use : Topic → Bool
  is_in_use topic = list_any (λ cell. cell_reads (setting_of terms s) s.book.contents cell topic) (formula_cells s.book.contents)

  -- whether a topic in use stays connected
  abbrev stays : Topic → Bool
  stays topic = knows_server s topic.server && not (is_listed (failed_topics s) topic)

  listed_in_use : (topic : Topic) → is_listed (topics_in_use terms s) topic ≡ is_in_use topic
  listed_in_use topic =
      listed-topics_once (flat_map (topics_of_cell (setting_of terms s) s.book.contents) (formula_cells s.book.contents)) topic
      ∙ listed-flat_map (topics_of_cell (setting_of terms s) s.book.contents) (formula_cells s.book.contents) topic
      ∙ any_alike (λ cell. is_listed (topics_of_cell (setting_of terms s) s.book.contents cell) topic) (λ cell. cell_reads (setting_of terms s) s.book.contents cell topic)
      (λ cell. cell_listed (setting_of terms s) s.book.contents cell topic) (formula_cells s.book.contents)

  -- what is found of a topic
  lookup-left : (topic : Topic) → lookup (same_topic topic) (taken_at_end terms s) ≡ cond (stays topic && is_in_use topic) (Some (snapshot s topic)) None
  lookup-left topic =
      lookup-of_topics (snapshot s) (filter stays (topics_in_use terms s)) topic
      ∙ ap (λ b. cond b (Some (snapshot s topic)) None) (listed-filter stays (topics_in_use terms s) topic ∙ ap (λ b. stays topic && b) (listed_in_use topic))

  -- what a cell reads is in use
  read_in_use : (cell : Cell) (topic : Topic) → cell_reads (setting_of terms s) s.book.contents cell topic ≡ true → is_in_use topic ≡ true
  read_in_use cell topic reads =
      some_among (λ c. cell_reads (setting_of terms s) s.book.contents c topic) (formula_cells s.book.contents) cell
      (formula_cells-has s.book.contents kept.ordered cell ∙ reads_formula (setting_of terms s) s.book.contents cell topic reads) reads

  -- what is an unknown server's doesn't stay connected, and what is a known one's does
  unknown_leaves : (topic : Topic) → knows_server s topic.server ≡ false → lookup (same_topic topic) (taken_at_end terms s) ≡ None
  unknown_leaves topic unknown =
      lookup-left topic
      ∙ ap (λ b. cond ((b && not (is_listed (failed_topics s) topic)) && is_in_use topic) (Some (snapshot s topic)) None) unknown

  known_stays : (topic : Topic) → knows_server s topic.server ≡ true → stays topic ≡ true
  known_stays topic known = ap (λ b. b && not (is_listed (failed_topics s) topic)) known ∙ ap (λ topics. not (is_listed topics topic)) kept.failed

  pub done_kept : KeepsClean terms (after_done terms s)
  done_kept = record {
    ordered = kept.ordered;
    completed_ordered = kept.ordered;
    once = subst (IsDistinct same_topic) (sym (keys-of_topics (snapshot s) (filter stays (topics_in_use terms s))))
        (distinct-filter stays (topics_in_use terms s) (distinct-topics_once (flat_map (topics_of_cell (setting_of terms s) s.book.contents) (formula_cells s.book.contents))));
    published = kept.published;
    taken = unknown_leaves;
    opening = λ t unknown. refl;
    failed = refl;
    contents = λ cell unchanged. refl;
    seen = λ cell topic unchanged reads. by_server cell topic reads (knows_server s topic.server) refl;
    registered = λ cell tree unchanged content name named. refl;
    accepted = λ cell tree content fresh site. refl;
  }
    where
      by_server : (cell : Cell) (topic : Topic) → cell_reads (setting_of terms s) s.book.contents cell topic ≡ true → (b : Bool) → knows_server s topic.server ≡ b → IsAsCompleted (after_done terms s) topic
      by_server cell topic reads true known =
          inl (lookup-left topic ∙ ap (λ b. cond b (Some (snapshot s topic)) None) (ap (λ b. b && is_in_use topic) (known_stays topic known) ∙ read_in_use cell topic reads))
      by_server cell topic reads false unknown = inr (unknown, value_of_unknown s kept.failed kept.taken kept.opening topic unknown)
