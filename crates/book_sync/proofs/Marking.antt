-- Marks of a table that follows a book.
use Rattle.std.proofs.Common.{◌≡◌, ℕ, Bool, true, false, ◌||◌, ◌&&◌, List, [], ◌∷◌, Option, Some, None, flat_map, ⊎_elim, ◌⊎◌, inr, refl, ap, sym, subst, ◌∙◌}
use Rattle.std.specs.Option.{is_some, option_map, unwrap_or}
use Rattle.cell_refs.specs.declared.areas.Area.{Area}
use Rattle.cell_refs.specs.declared.grid.Cell.{Cell}
use Rattle.cell_refs.specs.Area.{cells_of}
use Rattle.cell_refs.specs.Cell.{is_among, same_cell}
use Rattle.cell_refs.specs.Reaching.{Reaches, reaches}
use Rattle.dep_table.specs.Table.{is_reader, precedents_at}
use Rattle.formula_parse.specs.declared.nodes.Node.{Node}
use Rattle.formula_parse.specs.Tree.{areas_named}
use Rattle.stale_marks.specs.Marks.{AreMarked, IsClosed, IsClosedBut, IsDependent, KeepsMarks}
use Rattle.stale_marks.proofs.PublicLaws.{edit-marked}
use Rattle.workbook.specs.declared.contents.Content.{Content}
use Rattle.workbook.specs.declared.contents.Content.TheVariants as contents
use Rattle.workbook.specs.Book.{IsInOrder, by_content, cell_precedents, content_at, content_precedents, formula_count, has_formula, is_formula}
use Rattle.workbook.specs.Stale.{is_stale}
use Rattle.book_sync.specs.Following.{TableFollows, present_by_content}
use Rattle.book_sync.specs.Steps.{formula_of}
use Rattle.book_sync.proofs.Reaching.{reaches-alike, reaches-none, reaches-some, reaches-within}

-- ---- one mark after another
-- at first there is neither a mark nor a cell to reach
pub none-marked : (table : List (Cell × List Area)) → AreMarked table [] []
none-marked table = record {
  closed = λ cell reader h reads. absurd (cc);
  marked = λ q reader. (λ h. absurd (cc), λ r. absurd (let e : true ≡ false = sym r.1 ∙ reaches-none (precedents_at table) r.0 q in cc));
}

-- marks for some cells are marks for the same cells
pub marked-same : (table : List (Cell × List Area)) (marks cells same : List Cell) → ((q : Cell) → is_among cells q ≡ is_among same q) → AreMarked table marks cells → AreMarked table marks same
marked-same table marks cells same alike marked = record {
  closed = marked.closed;
  marked = λ q reader. (
    λ h. let r = (marked.marked q reader).0 h in (r.0, sym (reached r.0 q) ∙ r.1),
    λ r. (marked.marked q reader).1 (r.0, reached r.0 q ∙ r.1),
  );
}
  where
    reached : (n : ℕ) (q : Cell) → reaches (precedents_at table) cells n q ≡ reaches (precedents_at table) same n q
    reached = reaches-alike (precedents_at table) (precedents_at table) cells same (λ q. refl) alike

-- one more mark
pub marked-next : (table : List (Cell × List Area)) (old new done : List Cell) (cell : Cell) → AreMarked table old done → KeepsMarks old new
    → ((q : Cell) → is_among new q ≡ true → (is_among old q ≡ true) ⊎ IsDependent table cell q)
    → (IsClosedBut cell table old → (q : Cell) → IsDependent table cell q → is_among new q ≡ true)
    → (IsClosedBut cell table old → IsClosed table new) → AreMarked table new (cell ∷ done)
marked-next table old new done cell marked keeps only all closed =
    edit-marked table table cell (λ q apart. refl) old new done marked keeps only (all but) (closed but)
  where
    but : IsClosedBut cell table old
    but c reader m reads = inr (marked.closed c reader m reads)

-- what is marked is a reader, also after one more mark
pub readers-next : (table : List (Cell × List Area)) (old new : List Cell) (cell : Cell)
    → ((q : Cell) → is_among new q ≡ true → (is_among old q ≡ true) ⊎ IsDependent table cell q)
    → ((q : Cell) → is_among old q ≡ true → is_reader table q ≡ true) → (q : Cell) → is_among new q ≡ true → is_reader table q ≡ true
readers-next table old new cell only readers q h = ⊎_elim (λ before. readers q before) (λ d. d.reader) (only q h)

or_turned : (a b c : Bool) → (a || (b || c)) ≡ ((b || a) || c)
or_turned true true c = refl
or_turned true false c = refl
or_turned false true c = refl
or_turned false false c = refl

-- the cells that are done and those that are left, one further
pub done-next : (cells done left rest : List Cell) (cell : Cell) → left ≡ cell ∷ rest → ((q : Cell) → is_among cells q ≡ (is_among done q || is_among left q))
    → (q : Cell) → is_among cells q ≡ (is_among (cell ∷ done) q || is_among rest q)
done-next cells done left rest cell is all q =
    all q ∙ ap (λ ds. is_among done q || is_among ds q) is ∙ or_turned (is_among done q) (same_cell q cell) (is_among rest q)

or_none : (b : Bool) → (b || false) ≡ b
or_none true = refl
or_none false = refl

-- at the end all are done
pub done-all : (cells done left : List Cell) → left ≡ [] → ((q : Cell) → is_among cells q ≡ (is_among done q || is_among left q)) → (q : Cell) → is_among done q ≡ is_among cells q
done-all cells done left is all q = sym (all q ∙ ap (λ ds. is_among done q || is_among ds q) is ∙ or_none (is_among done q))

-- the marks of the cells that are done, where these are left
pub record MarksSoFar (table : List (Cell × List Area)) (cells left marks done : List Cell) : Type 0 where
  pub all : (q : Cell) → is_among cells q ≡ (is_among done q || is_among left q)
  pub marked : AreMarked table marks done
  pub readers : (q : Cell) → is_among marks q ≡ true → is_reader table q ≡ true

pub so_far-none : (table : List (Cell × List Area)) (cells left marks : List Cell) → left ≡ cells → marks ≡ [] → (done : List Cell) × MarksSoFar table cells left marks done
so_far-none table cells left marks all none = (
  [],
  record {
    all = λ q. ap (λ ds. is_among ds q) (sym all);
    marked = subst (λ ms. AreMarked table ms []) (sym none) (none-marked table);
    readers = λ q h. absurd (let e : false ≡ true = ap (λ ms. is_among ms q) (sym none) ∙ h in cc);
  },
)

pub so_far-next : (table : List (Cell × List Area)) (cells left rest old new : List Cell) (cell : Cell) → left ≡ cell ∷ rest → KeepsMarks old new
    → ((q : Cell) → is_among new q ≡ true → (is_among old q ≡ true) ⊎ IsDependent table cell q)
    → (IsClosedBut cell table old → (q : Cell) → IsDependent table cell q → is_among new q ≡ true)
    → (IsClosedBut cell table old → IsClosed table new)
    → ((done : List Cell) × MarksSoFar table cells left old done) → (done : List Cell) × MarksSoFar table cells rest new done
so_far-next table cells left rest old new cell is keeps only all closed before = (
  cell ∷ before.0,
  record {
    all = done-next cells before.0 left rest cell is before.1.all;
    marked = marked-next table old new before.0 cell before.1.marked keeps only all closed;
    readers = readers-next table old new cell only before.1.readers;
  },
)

pub so_far-all : (table : List (Cell × List Area)) (cells left marks : List Cell) → left ≡ [] → ((done : List Cell) × MarksSoFar table cells left marks done) → AreMarked table marks cells
so_far-all table cells left marks none far = marked-same table marks far.0 cells (done-all cells far.0 left none far.1.all) far.1.marked

-- ---- marks and stale cells
content_areas : (content : Option Content) (home : ℕ) → flat_map cells_of (unwrap_or (by_content {A = Option (List Area)} (λ v. None) (λ tree. Some (areas_named tree home)) content) []) ≡ content_precedents content home
content_areas None home = refl
content_areas (Some (contents.Num n)) home = refl
content_areas (Some (contents.Text t)) home = refl
content_areas (Some (contents.Bool b)) home = refl
content_areas (Some (contents.Error e)) home = refl
content_areas (Some (contents.Formula tree)) home = refl

content_reader : (content : Option Content) (home : ℕ) → is_some (by_content {A = Option (List Area)} (λ v. None) (λ tree. Some (areas_named tree home)) content) ≡ has_formula content
content_reader None home = refl
content_reader (Some (contents.Num n)) home = refl
content_reader (Some (contents.Text t)) home = refl
content_reader (Some (contents.Bool b)) home = refl
content_reader (Some (contents.Error e)) home = refl
content_reader (Some (contents.Formula tree)) home = refl

-- the areas of a cell by its formula
formula-areas : (content : Option Content) (home : ℕ) (areas : Option (List Area)) → option_map (λ tree. areas_named tree home) (formula_of content) ≡ areas
    → areas ≡ by_content (λ v. None) (λ tree. Some (areas_named tree home)) content
formula-areas None home areas is = sym is
formula-areas (Some (contents.Num n)) home areas is = sym is
formula-areas (Some (contents.Text t)) home areas is = sym is
formula-areas (Some (contents.Bool b)) home areas is = sym is
formula-areas (Some (contents.Error e)) home areas is = sym is
formula-areas (Some (contents.Formula tree)) home areas is = sym is

pub areas-formula : (content : Option Content) (home : ℕ) (tree : Node) → Some tree ≡ formula_of content → Some (areas_named tree home) ≡ by_content (λ v. None) (λ t. Some (areas_named t home)) content
areas-formula content home tree is = formula-areas content home (Some (areas_named tree home)) (ap (option_map (λ t. areas_named t home)) (sym is))

pub areas-constant : (content : Option Content) (home : ℕ) → None ≡ formula_of content → None ≡ by_content {A = Option (List Area)} (λ v. None) (λ t. Some (areas_named t home)) content
areas-constant content home is = formula-areas content home None (ap (option_map (λ t. areas_named t home)) (sym is))

-- a formula has no value by its content
pub formula_unvalued : (content : Option Content) → has_formula content ≡ true → present_by_content content ≡ Some None
formula_unvalued None h = absurd (cc)
formula_unvalued (Some (contents.Num n)) h = absurd (cc)
formula_unvalued (Some (contents.Text t)) h = absurd (cc)
formula_unvalued (Some (contents.Bool b)) h = absurd (cc)
formula_unvalued (Some (contents.Error e)) h = absurd (cc)
formula_unvalued (Some (contents.Formula tree)) h = refl

both_parts : (a b : Bool) → (a && b) ≡ true → (a ≡ true) × (b ≡ true)
both_parts true b h = (refl, h)
both_parts false b h = absurd (cc)

both_hold : (a b : Bool) → a ≡ true → b ≡ true → (a && b) ≡ true
both_hold true b h k = k
both_hold false b h k = cc

-- tests of which each leads to the other are the same
pub same_truth : (a b : Bool) → (a ≡ true → b ≡ true) → (b ≡ true → a ≡ true) → a ≡ b
same_truth true b there back = sym (there refl)
same_truth false true there back = back refl
same_truth false false there back = refl

-- a stale cell has a formula, and a changed cell is reached from it
pub stale-formula : (book : List (Cell × Content)) (changed : List Cell) (q : Cell) → is_stale book changed q ≡ true → is_formula book q ≡ true
stale-formula book changed q h = (both_parts (is_formula book q) _ h).0

pub stale-reaches : (book : List (Cell × Content)) (changed : List Cell) (q : Cell) → is_stale book changed q ≡ true → Reaches (cell_precedents book) changed q
stale-reaches book changed q h = (formula_count book, (both_parts (is_formula book q) _ h).1)

module _ (book : List (Cell × Content)) (table : List (Cell × List Area)) (follows : TableFollows book [] table) where
  -- a reader names what its formula names
  names_alike : (q : Cell) → precedents_at table q ≡ cell_precedents book q
  names_alike q = ap (λ found. flat_map cells_of (unwrap_or found [])) (follows q refl) ∙ content_areas (content_at book q) q.sheet

  -- the readers are the formula cells
  readers_alike : (q : Cell) → is_reader table q ≡ is_formula book q
  readers_alike q = ap is_some (follows q refl) ∙ content_reader (content_at book q) q.sheet

  -- the marked cells are the stale ones
  pub marked-stale : (marks changed : List Cell) → ((c : Cell) → is_among changed c ≡ true → IsInOrder book) → AreMarked table marks changed → ((q : Cell) → is_among marks q ≡ true → is_reader table q ≡ true)
      → (q : Cell) → is_among marks q ≡ is_stale book changed q
  marked-stale marks changed ordered marked readers q = same_truth (is_among marks q) (is_stale book changed q) forth back
    where
      reached : (n : ℕ) → reaches (precedents_at table) changed n q ≡ reaches (cell_precedents book) changed n q
      reached n = reaches-alike (precedents_at table) (cell_precedents book) changed changed names_alike (λ c. refl) n q

      target : Reaches (precedents_at table) changed q → (c : Cell) × (is_among changed c ≡ true)
      target r = reaches-some (precedents_at table) changed r.0 q r.1

      forth : is_among marks q ≡ true → is_stale book changed q ≡ true
      forth h =
          let r = (marked.marked q (readers q h)).0 h in
          both_hold (is_formula book q) _ (sym (readers_alike q) ∙ readers q h) (reaches-within book (ordered (target r).0 (target r).1) changed r.0 q (sym (reached r.0) ∙ r.1))

      back : is_stale book changed q ≡ true → is_among marks q ≡ true
      back h =
          let parts = both_parts (is_formula book q) _ h in
          (marked.marked q (readers_alike q ∙ parts.0)).1 (formula_count book, reached (formula_count book) ∙ parts.1)
