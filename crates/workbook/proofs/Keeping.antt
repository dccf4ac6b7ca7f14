-- A cell from which no changed cell is reached keeps its meaning from one setting to another, and the topics that it
-- reads, where both settings agree on what its formula is evaluated over.
use Rattle.std.proofs.Common.{◌≡◌, Bool, true, false, not, ◌&&◌, cond, List, [], ◌∷◌, Option, Some, None, refl, ap, sym, subst, ◌∙◌}
use Rattle.std.specs.List.{list_any, AllByRecursion}
use Rattle.std.proofs.lemmas.List.Elements.{All-from_recursion}
use Rattle.cell_refs.specs.declared.grid.Cell.{Cell}
use Rattle.cell_refs.specs.Cell.{is_among}
use Rattle.cell_values.specs.declared.topics.Topic.{Topic}
use Rattle.formula_parse.specs.declared.nodes.Node.{Node}
use Rattle.formula_parse.specs.Tree.{precedents}
use Rattle.workbook.specs.declared.contents.Content.{Content}
use Rattle.workbook.specs.declared.contents.Content.TheVariants as contents
use Rattle.workbook.specs.Agreement.{AgreesBesideTopics, IsAlikeBesideChanged}
use Rattle.workbook.specs.Book.{IsInOrder, by_content, content_at, content_precedents, cell_precedents}
use Rattle.workbook.specs.Circular.{is_circular}
use Rattle.workbook.specs.Evaluation.{answer_of}
use Rattle.workbook.specs.Meaning.{Setting, Open, meaning_of_answer, value_in, is_open, formula_meaning, content_meaning, meaning}
use Rattle.workbook.specs.Reads.{cell_reads, is_evaluated, is_listed, reads_topic, topics_of_cell, topics_read, world_in}
use Rattle.workbook.specs.Stale.{is_stale}
use Rattle.workbook.proofs.Agreeing.{answer_over, cell_listed, read_alike}
use Rattle.workbook.proofs.Clean.{IsClean, circular_alike, clean-content, clean-fresh, clean-named, fresh-clean, named_alike}
use Rattle.workbook.proofs.Meanings.{along_precedents, any_each, each_leads, meaning-unfolds, shows_circle}

-- what holds of each of a list where something holds of it, holds of each where that does
pub each_applied : {X : Type 0} (P Q : X → Type 0) (xs : List X) → AllByRecursion (λ x. P x → Q x) xs → AllByRecursion P xs → AllByRecursion Q xs
each_applied P Q [] leads each = tt
each_applied P Q (x ∷ xs) leads each = (leads.0 each.0, each_applied P Q xs leads.1 each.1)

-- neither of two
neither : (a b : Bool) → a ≡ false → b ≡ false → (not a && not b) ≡ true
neither a b e f = cc

module _ (earlier later : Setting) (before now : List (Cell × Content)) (changed : List Cell) (before_ordered : IsInOrder before) (now_ordered : IsInOrder now) (alike : IsAlikeBesideChanged earlier later before now changed) where
  -- a cell means the same in both
  abbrev MeansSame : Cell → Type 0
  MeansSame cell = meaning earlier before cell ≡ meaning later now cell

  -- a cell from which no changed cell is reached
  abbrev IsKept : Cell → Type 0
  IsKept = IsClean now changed

  -- ---- a formula over cells that mean the same
  module _ (cell : Cell) (tree : Node) (content : content_at now cell ≡ Some (contents.Formula tree)) (clean : IsKept cell) (same : AllByRecursion MeansSame (precedents tree cell.sheet)) where
    -- the cells that it names wait in both or in none
    waits_alike : list_any (λ d. is_open (meaning earlier before d)) (precedents tree cell.sheet) ≡ list_any (λ d. is_open (meaning later now d)) (precedents tree cell.sheet)
    waits_alike = any_each (λ d. is_open (meaning earlier before d)) (λ d. is_open (meaning later now d)) (precedents tree cell.sheet)
        (each_leads MeansSame _ (λ d h. ap is_open h) (precedents tree cell.sheet) same)

    -- it is evaluated in both or in none
    evaluated_alike : is_evaluated earlier before cell tree ≡ is_evaluated later now cell tree
    evaluated_alike =
        ap (λ b. not b && not (list_any (λ d. is_open (meaning earlier before d)) (precedents tree cell.sheet))) (circular_alike before now changed before_ordered now_ordered alike.contents cell clean)
        ∙ ap (λ b. not (is_circular now cell) && not b) waits_alike

    -- it is evaluated in worlds that agree beside topics
    worlds_agree : AgreesBesideTopics (world_in earlier before cell) (world_in later now cell) tree
    worlds_agree =
        let formula = alike.formulas cell tree content (clean-fresh now changed cell clean) in
        record {
          home = refl;
          input = All-from_recursion (λ d. value_in (meaning earlier before d) ≡ value_in (meaning later now d)) (precedents tree cell.sheet)
              (each_leads MeansSame _ (λ d h. ap value_in h) (precedents tree cell.sheet) same);
          registered = formula.registered;
          accepted = formula.accepted;
          answer = alike.answer;
        }

    -- the snapshots agree on the topics that it reads
    topics_agree : is_evaluated earlier before cell tree ≡ true
        → (topic : Topic) → reads_topic (world_in earlier before cell) earlier.snapshot tree topic ≡ true → earlier.snapshot topic ≡ later.snapshot topic
    topics_agree evaluated topic reads =
        (alike.formulas cell tree content (clean-fresh now changed cell clean)).topics topic
        (ap (λ o. by_content (λ v. false) (λ formula. is_evaluated earlier before cell formula && reads_topic (world_in earlier before cell) earlier.snapshot formula topic) o)
        (clean-content before now changed before_ordered now_ordered alike.contents cell clean ∙ content)
        ∙ ap (λ b. b && reads_topic (world_in earlier before cell) earlier.snapshot tree topic) evaluated
        ∙ reads)

    -- it means the same where the cell isn't circular
    formula_kept : is_circular before cell ≡ false → formula_meaning earlier cell (meaning earlier before) tree ≡ formula_meaning later cell (meaning later now) tree
    formula_kept acyclic =
        elim (list_any (λ d. is_open (meaning earlier before d)) (precedents tree cell.sheet)) as (λ b. list_any (λ d. is_open (meaning earlier before d)) (precedents tree cell.sheet) ≡ b
        → cond b Open (meaning_of_answer (answer_of (world_in earlier before cell) tree)) ≡ cond b Open (meaning_of_answer (answer_of (world_in later now cell) tree))) [
          | true ↦ λ e. refl
          | false ↦ λ e. ap meaning_of_answer (answer_over (world_in earlier before cell) (world_in later now cell) tree worlds_agree earlier.snapshot later.snapshot
              (topics_agree (neither (is_circular before cell) (list_any (λ d. is_open (meaning earlier before d)) (precedents tree cell.sheet)) acyclic e)))
        ] refl
        ∙ ap (λ b. cond b Open (meaning_of_answer (answer_of (world_in later now cell) tree))) waits_alike

    -- it reads the same topics
    topics_kept : cond (is_evaluated earlier before cell tree) (topics_read (world_in earlier before cell) earlier.snapshot tree) []
        ≡ cond (is_evaluated later now cell tree) (topics_read (world_in later now cell) later.snapshot tree) []
    topics_kept =
        elim (is_evaluated earlier before cell tree) as (λ b. is_evaluated earlier before cell tree ≡ b
        → cond b (topics_read (world_in earlier before cell) earlier.snapshot tree) [] ≡ cond b (topics_read (world_in later now cell) later.snapshot tree) []) [
          | true ↦ λ e. read_alike (world_in earlier before cell) (world_in later now cell) tree worlds_agree earlier.snapshot later.snapshot (topics_agree e)
          | false ↦ λ e. refl
        ] refl
        ∙ ap (λ b. cond b (topics_read (world_in later now cell) later.snapshot tree) []) evaluated_alike

  -- ---- contents over cells that mean the same
  content_kept : (cell : Cell) (content : Option Content) → content_at now cell ≡ content → IsKept cell → AllByRecursion MeansSame (content_precedents content cell.sheet) → is_circular before cell ≡ false
      → content_meaning earlier cell (meaning earlier before) content ≡ content_meaning later cell (meaning later now) content
  content_kept cell None is clean same acyclic = refl
  content_kept cell (Some (contents.Num n)) is clean same acyclic = refl
  content_kept cell (Some (contents.Text t)) is clean same acyclic = refl
  content_kept cell (Some (contents.Bool b)) is clean same acyclic = refl
  content_kept cell (Some (contents.Error e)) is clean same acyclic = refl
  content_kept cell (Some (contents.Formula tree)) is clean same acyclic = formula_kept cell tree is clean same acyclic

  -- a cell that isn't circular, over the cells that it names
  step_kept : (cell : Cell) → is_circular before cell ≡ false → AllByRecursion (λ d. IsKept d → MeansSame d) (cell_precedents before cell) → IsKept cell → MeansSame cell
  step_kept cell acyclic each clean =
      let same = each_applied IsKept MeansSame (cell_precedents now cell)
      (subst (AllByRecursion (λ d. IsKept d → MeansSame d)) (named_alike before now changed before_ordered now_ordered alike.contents cell clean) each)
      (clean-named before now changed before_ordered now_ordered alike.contents cell clean) in
      meaning-unfolds earlier before before_ordered cell acyclic
      ∙ ap (content_meaning earlier cell (meaning earlier before)) (clean-content before now changed before_ordered now_ordered alike.contents cell clean)
      ∙ content_kept cell (content_at now cell) refl clean same acyclic
      ∙ sym (meaning-unfolds later now now_ordered cell (sym (circular_alike before now changed before_ordered now_ordered alike.contents cell clean) ∙ acyclic))

  -- a cell from which no changed cell is reached means the same
  clean_kept : (cell : Cell) → IsKept cell → MeansSame cell
  clean_kept cell clean = elim (is_circular before cell) as (λ b. is_circular before cell ≡ b → MeansSame cell) [
    | true ↦ λ e.
        shows_circle earlier before cell e
        ∙ sym (shows_circle later now cell (sym (circular_alike before now changed before_ordered now_ordered alike.contents cell clean) ∙ e))
    | false ↦ λ e. along_precedents before before_ordered (λ d. IsKept d → MeansSame d) step_kept cell e clean
  ] refl

  -- the topics of contents
  content_topics : (cell : Cell) (content : Option Content) → content_at now cell ≡ content → IsKept cell → AllByRecursion MeansSame (content_precedents content cell.sheet)
      → by_content (λ v. []) (λ tree. cond (is_evaluated earlier before cell tree) (topics_read (world_in earlier before cell) earlier.snapshot tree) []) content
      ≡ by_content (λ v. []) (λ tree. cond (is_evaluated later now cell tree) (topics_read (world_in later now cell) later.snapshot tree) []) content
  content_topics cell None is clean same = refl
  content_topics cell (Some (contents.Num n)) is clean same = refl
  content_topics cell (Some (contents.Text t)) is clean same = refl
  content_topics cell (Some (contents.Bool b)) is clean same = refl
  content_topics cell (Some (contents.Error e)) is clean same = refl
  content_topics cell (Some (contents.Formula tree)) is clean same = topics_kept cell tree is clean same

  -- it reads the same topics
  clean_topics : (cell : Cell) → IsKept cell → topics_of_cell earlier before cell ≡ topics_of_cell later now cell
  clean_topics cell clean =
      ap (by_content (λ v. []) (λ tree. cond (is_evaluated earlier before cell tree) (topics_read (world_in earlier before cell) earlier.snapshot tree) []))
      (clean-content before now changed before_ordered now_ordered alike.contents cell clean)
      ∙ content_topics cell (content_at now cell) refl clean
      (each_leads IsKept MeansSame clean_kept (cell_precedents now cell) (clean-named before now changed before_ordered now_ordered alike.contents cell clean))

  -- a cell that is neither changed nor stale means the same
  pub meaning_between : (cell : Cell) → is_among changed cell ≡ false → is_stale now changed cell ≡ false → meaning earlier before cell ≡ meaning later now cell
  meaning_between cell unchanged fresh = clean_kept cell (fresh-clean now changed cell unchanged fresh)

  -- its topics are the same
  pub topics_between : (cell : Cell) → is_among changed cell ≡ false → is_stale now changed cell ≡ false → topics_of_cell earlier before cell ≡ topics_of_cell later now cell
  topics_between cell unchanged fresh = clean_topics cell (fresh-clean now changed cell unchanged fresh)

  -- it reads the same topics
  pub reads_between : (cell : Cell) → is_among changed cell ≡ false → is_stale now changed cell ≡ false → (topic : Topic) → cell_reads earlier before cell topic ≡ cell_reads later now cell topic
  reads_between cell unchanged fresh topic =
      sym (cell_listed earlier before cell topic)
      ∙ ap (λ topics. is_listed topics topic) (topics_between cell unchanged fresh)
      ∙ cell_listed later now cell topic

-- in one setting
pub meaning-kept_clean : (setting : Setting) (before now : List (Cell × Content)) (changed : List Cell) → IsInOrder before → IsInOrder now
    → ((cell : Cell) → is_among changed cell ≡ false → content_at before cell ≡ content_at now cell)
    → (cell : Cell) → is_among changed cell ≡ false → is_stale now changed cell ≡ false → meaning setting before cell ≡ meaning setting now cell
meaning-kept_clean setting before now changed before_ordered now_ordered kept =
    meaning_between setting setting before now changed before_ordered now_ordered
    (record {
      contents = kept;
      answer = refl;
      formulas = λ cell tree content fresh. record {
        registered = λ k d below. refl;
        accepted = λ site some within. refl;
        topics = λ topic reads. refl;
      };
    })
