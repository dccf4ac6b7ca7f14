-- A pull keeps what commands keep, whichever servers fail in it.
use Rattle.std.proofs.Common.{◌≡◌, inl, inr, ℕ, true, false, not, List, map, Some, None, refl, ap, sym, subst, ◌∙◌}
use Rattle.std.specs.List.{IsDistinct}
use Rattle.std.specs.Map.{lookup}
use Rattle.std.specs.Option.{option_map_or}
use Rattle.cell_refs.specs.declared.grid.Cell.{Cell}
use Rattle.cell_refs.specs.Cell.{is_among}
use Rattle.cell_values.specs.declared.topics.Topic.{Topic}
use Rattle.cell_values.specs.declared.values.Value.{Value}
use Rattle.cell_values.specs.SameValue.{same_value}
use Rattle.cell_values.specs.Topic.{same_topic}
use Rattle.workbook.specs.declared.commands.Moment.{Moment}
use Rattle.workbook.specs.Pulling.{after_pull, changed_topics, is_named, pulled_servers, pulled_topics, pulled_value, readers_of_topics}
use Rattle.workbook.specs.Reads.{cell_reads}
use Rattle.workbook.specs.State.{HostTerms, State, completed_setting, value_among}
use Rattle.workbook.specs.Step.{knows_server}
use Rattle.clean_cells.specs.Keeping.{IsAsCompleted, KeepsClean}
use Rattle.clean_cells.proofs.Edits.{changed_kept, not_more}
use Rattle.clean_cells.proofs.Readers.{reader_among}
use Rattle.clean_cells.proofs.SameValues.{same_value_is}
use Rattle.clean_cells.proofs.Servers.{names_pulled}
use Rattle.clean_cells.proofs.TopicLists.{keys-map_entries, listed-passing, lookup-map_entries}

module _ (terms : HostTerms) (failed : List (List ℕ)) (s : State) (kept : KeepsClean terms s) where
  -- the value of a connected topic after the pull
  abbrev pulled : Topic × Value → Value
  pulled = pulled_value s.servers failed s.published

  -- the connected topics whose value it changes
  abbrev news : List Topic
  news = changed_topics s.servers failed s.published s.taken

  -- what is found of a topic
  lookup-pulled : (t : Topic) → lookup (same_topic t) (pulled_topics s.servers failed s.published s.taken) ≡ option_map_or (λ v. Some (pulled (t, v))) (lookup (same_topic t) s.taken) None
  lookup-pulled t = lookup-map_entries pulled s.taken t

  same_names : (t : Topic) → is_named (map (λ server. server.name) (pulled_servers s.servers failed)) t.server ≡ knows_server s t.server
  same_names t = ap (λ names. is_named names t.server) (names_pulled s.servers failed)

  -- a connected topic that no reader's change tells has the value that it had
  still_connected : (cell : Cell) (t : Topic) (v : Value) → cell_reads (completed_setting terms s) s.completed.book.contents cell t ≡ true → is_among (readers_of_topics terms s news) cell ≡ false
      → lookup (same_topic t) s.taken ≡ Some v → lookup (same_topic t) (pulled_topics s.servers failed s.published s.taken) ≡ Some v
  still_connected cell t v reads untold found =
      elim (same_value v (pulled (t, v))) as (λ b. same_value v (pulled (t, v)) ≡ b → lookup (same_topic t) (pulled_topics s.servers failed s.published s.taken) ≡ Some v) [
        | true ↦ λ same. lookup-pulled t ∙ ap (λ o. option_map_or (λ w. Some (pulled (t, w))) o None) found ∙ ap Some (sym (same_value_is v (pulled (t, v)) same))
        | false ↦ λ other.
            let told = listed-passing (λ entry. not (same_value entry.1 (pulled entry))) s.taken kept.once t
            ∙ ap (λ o. option_map_or (λ w. not (same_value w (pulled (t, w)))) o false) found
            ∙ ap not other in
            absurd (cc (reader_among (completed_setting terms s) s.completed.book.contents kept.completed_ordered news cell t reads told, untold))
      ] refl

  pub pull_kept : (moment : Moment) → KeepsClean terms (after_pull terms failed s moment)
  pull_kept moment =
      let e = changed_kept terms s kept (readers_of_topics terms s news) in record {
        ordered = e.ordered;
        completed_ordered = e.completed_ordered;
        failed = e.failed;
        contents = e.contents;
        registered = e.registered;
        accepted = e.accepted;
        once = subst (IsDistinct same_topic) (sym (keys-map_entries pulled s.taken)) kept.once;
        published = λ t unknown. kept.published t (sym (same_names t) ∙ unknown);
        taken = λ t unknown. lookup-pulled t ∙ ap (λ o. option_map_or (λ v. Some (pulled (t, v))) o None) (kept.taken t (sym (same_names t) ∙ unknown));
        opening = λ t unknown. kept.opening t (sym (same_names t) ∙ unknown);
        seen = λ cell topic unchanged reads. still cell topic reads (not_more (readers_of_topics terms s news) s.changed cell unchanged) (e.seen cell topic unchanged reads);
      }
    where
      still : (cell : Cell) (t : Topic) → cell_reads (completed_setting terms s) s.completed.book.contents cell t ≡ true → is_among (readers_of_topics terms s news) cell ≡ false
          → IsAsCompleted s t → IsAsCompleted (after_pull terms failed s moment) t
      still cell t reads untold (inl connected) = inl (still_connected cell t (value_among s.completed.topics t) reads untold connected)
      still cell t reads untold (inr unknown) = inr (same_names t ∙ unknown.0, unknown.1)
