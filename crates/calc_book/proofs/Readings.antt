-- Who reads which topic: as a recalculation begins, and as it is completed.
use Rattle.std.proofs.Common.{◌≡◌, Bool, true, false, not, ◌&&◌, ◌||◌, List, [], ℕ, Option, None, Some, refl, ap, sym, subst, ◌∙◌}
use Rattle.std.specs.List.{list_any}
use Rattle.std.specs.Option.{is_some}
use Rattle.std.proofs.lemmas.Bool.{and_from, and_parts, false_from_ne_true, not-true, or_from, or_parts}
use Rattle.calc_book.specs.CalcState.{CalcState}
use Rattle.calc_book.specs.Keeping.{InRound, NotesCleanReaders, NotesReaders, ReadsInRound, is_forgotten, reads_served}
use Rattle.calc_book.specs.declared.calc_books.CalcBook.{CalcBook}
use Rattle.calc_book.proofs.BeginningMeans.{formula-some, three}
use Rattle.calc_round.specs.Readings.{ReadsFollow}
use Rattle.calc_round.specs.Rounds.{IsWorkedOut, has_call}
use Rattle.async_handles.specs.declared.open_calls.OpenCall.{OpenCall}
use Rattle.cell_refs.specs.declared.grid.Cell.{Cell}
use Rattle.cell_refs.specs.Cell.{is_among}
use Rattle.cell_store.specs.Gathering.{has_no_value}
use Rattle.cell_store.specs.Store.{StoreState, present_at}
use Rattle.cell_values.specs.declared.topics.Topic.{Topic}
use Rattle.cell_values.specs.declared.values.Value.{Value}
use Rattle.formula_parse.specs.declared.nodes.Node.{Node}
use Rattle.formula_parse.specs.Tree.{precedents}
use Rattle.topic_source.specs.Source.{SourceState}
use Rattle.workbook.specs.declared.contents.Content.{Content}
use Rattle.workbook.specs.declared.contents.Content.TheVariants as contents
use Rattle.workbook.specs.Book.{IsInOrder, by_content, content_at, formula_count, has_formula, is_formula}
use Rattle.workbook.specs.Circular.{is_circular}
use Rattle.workbook.specs.Meaning.{Setting, asks_call, is_open, meaning}
use Rattle.workbook.specs.Reads.{cell_reads, reads_topic, world_in}
use Rattle.workbook.specs.Stale.{is_stale}
use Rattle.workbook.proofs.PublicLaws.{all_closed, reaches-among, reads_between}

not_both : (b : Bool) → b ≡ true → b ≡ false → ⊥
not_both b h k = let e : true ≡ false = sym h ∙ k in cc

both_ways : (a b : Bool) → (a ≡ true → b ≡ true) → (b ≡ true → a ≡ true) → a ≡ b
both_ways true b there back = sym (there refl)
both_ways false true there back = back refl
both_ways false false there back = refl

-- ---- a cell that reads a topic
-- it has a formula
reads-formula : (reads : Node → Bool) (o : Option Content) → by_content (λ v. false) reads o ≡ true → has_formula o ≡ true
reads-formula reads None h = cc
reads-formula reads (Some (contents.Num n)) h = cc
reads-formula reads (Some (contents.Text t)) h = cc
reads-formula reads (Some (contents.Bool b)) h = cc
reads-formula reads (Some (contents.Error e)) h = cc
reads-formula reads (Some (contents.Formula tree)) h = refl

-- it isn't circular
acyclic_of : (circular waits reads : Bool) → ((not circular && not waits) && reads) ≡ true → circular ≡ false
acyclic_of circular waits reads h = not-true circular (and_parts (not circular) (not waits) (and_parts (not circular && not waits) reads h).0).0

acyclic_content : (circular : Bool) (waits reads : Node → Bool) (o : Option Content) → by_content (λ v. false) (λ tree. (not circular && not (waits tree)) && reads tree) o ≡ true
    → circular ≡ false
acyclic_content circular waits reads None h = cc
acyclic_content circular waits reads (Some (contents.Num n)) h = cc
acyclic_content circular waits reads (Some (contents.Text t)) h = cc
acyclic_content circular waits reads (Some (contents.Bool b)) h = cc
acyclic_content circular waits reads (Some (contents.Error e)) h = cc
acyclic_content circular waits reads (Some (contents.Formula tree)) h = acyclic_of circular (waits tree) (reads tree) h

reader-formula : (setting : Setting) (book : List (Cell × Content)) (cell : Cell) (topic : Topic) → cell_reads setting book cell topic ≡ true → is_formula book cell ≡ true
reader-formula setting book cell topic h = reads-formula _ (content_at book cell) h

reader-acyclic : (setting : Setting) (book : List (Cell × Content)) (cell : Cell) (topic : Topic) → cell_reads setting book cell topic ≡ true → is_circular book cell ≡ false
reader-acyclic setting book cell topic h =
    acyclic_content (is_circular book cell) (λ tree. list_any (λ d. is_open (meaning setting book d)) (precedents tree cell.sheet))
    (λ tree. reads_topic (world_in setting book cell) setting.snapshot tree topic) (content_at book cell) h

-- ---- as a recalculation begins
module _ (now : Setting) (number : ℕ) (source : SourceState) (b : CalcBook) (s : CalcState) (round : InRound now number b s)
    (empty : (q : Cell) → is_among b.marks q ≡ true → present_at b.store q ≡ Some None) (noted : NotesCleanReaders source s) where
  -- a cell that is neither stale nor changed reads what it read
  kept : (topic : Topic) (cell : Cell) → is_stale s.book s.changed cell ≡ false → is_among s.changed cell ≡ false
      → cell_reads s.setting s.completed cell topic ≡ cell_reads now s.book cell topic
  kept topic cell fresh unchanged =
      reads_between s.setting now s.completed s.book s.changed round.holds.completed round.holds.ordered round.alike cell unchanged fresh topic

  -- what was noted
  parts_of : (topic : Topic) (cell : Cell) → source.has_read topic cell ≡ true
      → (reads_served s.setting s.completed source topic cell ≡ true) × (not (is_forgotten s cell) ≡ true)
  parts_of topic cell h = and_parts (reads_served s.setting s.completed source topic cell) (not (is_forgotten s cell)) (sym (noted topic cell) ∙ h)

  served : (topic : Topic) (cell : Cell) → source.has_read topic cell ≡ true → source.is_served topic ≡ true
  served topic cell h = (and_parts (cell_reads s.setting s.completed cell topic) (source.is_served topic) (parts_of topic cell h).0).1

  sound : (topic : Topic) (cell : Cell) → source.has_read topic cell ≡ true → cell_reads now s.book cell topic ≡ true
  sound topic cell h =
      let clean = or_parts (is_stale s.book s.changed cell) (is_among s.changed cell) (not-true (is_forgotten s cell) (parts_of topic cell h).1) in
      sym (kept topic cell clean.0 clean.1)
      ∙ (and_parts (cell_reads s.setting s.completed cell topic) (source.is_served topic) (parts_of topic cell h).0).0

  -- a formula cell that has a value
  complete : (topic : Topic) (cell : Cell) (v : Value) → present_at b.store cell ≡ Some (Some v) → cell_reads now s.book cell topic ≡ true
      → source.is_served topic ≡ true → source.has_read topic cell ≡ true
  complete topic cell v there reads serves = three (source.has_read topic cell ≡ true) (is_stale s.book s.changed cell) (is_among s.changed cell)
      (λ stale. let no : Some None ≡ Some (Some v) = sym (empty cell (round.marked cell ∙ stale)) ∙ there in cc)
      (λ fresh here. absurd (not_both (is_stale s.book s.changed cell)
      (and_from _ _ (reader-formula now s.book cell topic reads) (reaches-among s.book round.holds.ordered s.changed (formula_count s.book) cell here))
      fresh))
      (λ fresh unchanged. noted topic cell
      ∙ and_from _ _ (and_from _ _ (kept topic cell fresh unchanged ∙ reads) serves) (ap not (or_from (is_stale s.book s.changed cell) (is_among s.changed cell) fresh unchanged)))

  -- what clean cells have read is what they read now
  pub begun-reads : ReadsInRound now source b
  begun-reads = subst (λ book. ReadsFollow now source book b.store) (sym round.holds.book) (record { served = served; sound = sound; complete = complete })

-- ---- as a recalculation is completed
-- where no call is open, no cell asks for one
pub none-asks : (setting : Setting) (book : List (Cell × Content)) (store : StoreState) (calls : List OpenCall) → calls ≡ [] → IsWorkedOut setting book store calls
    → (cell : Cell) → asks_call (meaning setting book cell) ≡ false
none-asks setting book store calls none out cell = false_from_ne_true (asks_call (meaning setting book cell))
    (λ asks. let no : false ≡ true = ap (λ es. has_call es cell) (sym none) ∙ out.asked cell asks in cc)

module _ (now : Setting) (source : SourceState) (book : List (Cell × Content)) (ordered : IsInOrder book) (store : StoreState) (calls : List OpenCall) (none : calls ≡ [])
    (out : IsWorkedOut now book store calls) (follow : ReadsFollow now source book store) where
  -- a formula cell that isn't circular has a value
  valued : (cell : Cell) → is_formula book cell ≡ true → is_circular book cell ≡ false → (v : Value) × (present_at store cell ≡ Some (Some v))
  valued cell formula acyclic = found (present_at store cell) refl
    where
      found : (p : Option (Option Value)) → present_at store cell ≡ p → (v : Value) × (present_at store cell ≡ Some (Some v))
      found None is = absurd (let no : false ≡ true = ap is_some (sym is) ∙ out.means.content cell ∙ formula-some (content_at book cell) formula in cc)
      found (Some None) is = absurd (not_both (is_circular book cell || is_open (meaning now book cell)) (out.left cell (ap has_no_value is))
          (or_from (is_circular book cell) (is_open (meaning now book cell)) acyclic (all_closed now book ordered (none-asks now book store calls none out) cell)))
      found (Some (Some v)) is = (v, is)

  -- each reader of a topic that is served was noted
  pub readers-noted : NotesReaders now book source
  readers-noted topic cell = both_ways (source.has_read topic cell) (reads_served now book source topic cell)
      (λ h. and_from _ _ (follow.sound topic cell h) (follow.served topic cell h))
      (λ h.
      let parts = and_parts (cell_reads now book cell topic) (source.is_served topic) h in
      let value = valued cell (reader-formula now book cell topic parts.0) (reader-acyclic now book cell topic parts.0) in
      follow.complete topic cell value.0 value.1 parts.0 parts.1)
