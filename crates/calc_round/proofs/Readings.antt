-- The cells that were noted for topics, from one look to the next.
use Rattle.std.proofs.Common.{◌≡◌, Bool, true, false, cond, ◌&&◌, Some, List, refl, ap, sym, ◌∙◌, inl, inr}
use Rattle.std.proofs.lemmas.Bool.{and_from, and_parts, or_cases, or_left}
use Rattle.cell_refs.specs.declared.grid.Cell.{Cell}
use Rattle.cell_refs.specs.Cell.{same_cell}
use Rattle.cell_refs.proofs.PublicLaws.{same_cell_is}
use Rattle.cell_store.specs.Store.{PutsPresent, StoreState, present_at}
use Rattle.cell_values.specs.declared.topics.Topic.{Topic}
use Rattle.cell_values.specs.declared.values.Value.{Value}
use Rattle.topic_source.specs.Source.{KeepsValues, SourceState}
use Rattle.workbook.specs.declared.contents.Content.{Content}
use Rattle.workbook.specs.Meaning.{Setting}
use Rattle.workbook.specs.Reads.{cell_reads}
use Rattle.calc_round.specs.Noting.{NotesSome, NotesTopics}
use Rattle.calc_round.specs.Readings.{ReadsFollow}
use Rattle.calc_round.proofs.TopicsRead.{notes-some}

module _ (setting : Setting) (book : List (Cell × Content)) (old new : SourceState) (cell : Cell) (is_read : Topic → Bool)
    (values : KeepsValues old new) (reads : (t : Topic) → cell_reads setting book cell t ≡ is_read t) where
  served_same : (t : Topic) → new.is_served t ≡ old.is_served t
  served_same t = ap (λ served. served t) values.served

  module _ (store : StoreState) (follow : ReadsFollow setting old book store) (some : NotesSome old new cell is_read) where
    -- what is noted is either read by this cell and served, or was noted
    sound_after : (t : Topic) (c : Cell) → new.has_read t c ≡ true → cell_reads setting book c t ≡ true
    sound_after t c h =
        elim (or_cases (old.is_served t && (is_read t && same_cell cell c)) (old.has_read t c) (some.among t c h)) as (λ _. cell_reads setting book c t ≡ true) [
          | inl here ↦
              let both = and_parts (is_read t) (same_cell cell c) (and_parts (old.is_served t) _ here).1 in
              ap (λ d. cell_reads setting book d t) (sym (same_cell_is cell c both.1)) ∙ reads t ∙ both.0
          | inr before ↦ follow.sound t c before
        ]

    served_after : (t : Topic) (c : Cell) → new.has_read t c ≡ true → new.is_served t ≡ true
    served_after t c h =
        served_same t
        ∙ elim (or_cases (old.is_served t && (is_read t && same_cell cell c)) (old.has_read t c) (some.among t c h)) as (λ _. old.is_served t ≡ true) [
          | inl here ↦ (and_parts (old.is_served t) _ here).0
          | inr before ↦ follow.served t c before
        ]

    -- some of the cell's topics are noted, and nothing is finished
    pub follow-some : ReadsFollow setting new book store
    follow-some = record {
      sound = sound_after;
      served = served_after;
      complete = λ t c v h read served. some.kept t c (follow.complete t c v h read (sym (served_same t) ∙ served));
    }

  -- all of them are noted, and the cell has its value
  pub follow-finished : (store store' : StoreState) (v : Value) → ReadsFollow setting old book store → NotesTopics old new cell is_read
      → PutsPresent store store' cell (Some (Some v)) → ReadsFollow setting new book store'
  follow-finished store store' v follow notes puts = record {
    sound = sound_after store follow some;
    served = served_after store follow some;
    complete = λ t c w h read served. elim (same_cell cell c) as (λ b. same_cell cell c ≡ b → new.has_read t c ≡ true) [
      | true ↦ λ same.
          notes t c
          ∙ or_left _ (old.has_read t c) (and_from _ _ (sym (served_same t) ∙ served) (and_from _ _
          (sym (reads t) ∙ ap (λ d. cell_reads setting book d t) (same_cell_is cell c same) ∙ read) same))
      | false ↦ λ other. some.kept t c (follow.complete t c w
          (ap (λ b. cond b (Some (Some v)) (present_at store c)) (sym other) ∙ sym (puts c) ∙ h) read (sym (served_same t) ∙ served))
    ] refl;
  }
    where
      some : NotesSome old new cell is_read
      some = notes-some old new cell is_read is_read notes (λ t h. h)
