-- An edit that is noted keeps a table that follows the book.
use Rattle.std.proofs.Common.{◌≡◌, true, false, cond, List, Result, Ok, Err, OnOk, OnErr, None, Some, refl, ap, sym, ◌∙◌}
use Rattle.cell_refs.specs.declared.areas.Area.{Area}
use Rattle.cell_refs.specs.declared.grid.Cell.{Cell}
use Rattle.cell_refs.specs.Cell.{is_among, same_cell}
use Rattle.workbook.specs.declared.contents.Content.{Content}
use Rattle.workbook.specs.Book.{BookState, SetsContent, by_content, content_at}
use Rattle.formula_parse.specs.Tree.{areas_named}
use Rattle.book_sync.specs.Following.{TableFollows}

-- whether it was refused or not, each other cell has what it had
others-set : {E : Type 0} (r : Result (Unit {0}) E) (old new : BookState) (cell : Cell) (content : Content) → OnOk r (SetsContent old.contents new.contents cell content) → OnErr r (new ≡ old)
    → (q : Cell) → same_cell cell q ≡ false → content_at new.contents q ≡ content_at old.contents q
others-set (Ok done) old new cell content sets refused q apart = sets q ∙ ap (λ b. cond b (Some content) (content_at old.contents q)) apart
others-set (Err e) old new cell content sets refused q apart = ap (λ b. content_at b.contents q) refused

not_noted : (cell q : Cell) (old new : List Cell) → is_among new q ≡ cond (same_cell cell q) true (is_among old q) → is_among new q ≡ false → (same_cell cell q ≡ false) × (is_among old q ≡ false)
not_noted cell q old new is none = elim (same_cell cell q) as (λ b. same_cell cell q ≡ b → is_among new q ≡ cond b true (is_among old q) → (same_cell cell q ≡ false) × (is_among old q ≡ false)) [
  | true ↦ λ _ yes. absurd (let e : true ≡ false = sym yes ∙ none in cc)
  | false ↦ λ apart same. (apart, sym same ∙ none)
] refl is

pub set-followed : {E : Type 0} (r : Result (Unit {0}) E) (old new : BookState) (cell : Cell) (content : Content) (before after : List Cell) (table : List (Cell × List Area))
    → OnOk r (SetsContent old.contents new.contents cell content) → OnErr r (new ≡ old)
    → ((q : Cell) → is_among after q ≡ cond (same_cell cell q) true (is_among before q))
    → TableFollows old.contents before table → TableFollows new.contents after table
set-followed r old new cell content before after table sets refused notes follows q none =
    let parts = not_noted cell q before after (notes q) none in
    follows q parts.1 ∙ ap (λ o. by_content (λ v. None) (λ tree. Some (areas_named tree q.sheet)) o) (sym (others-set r old new cell content sets refused q parts.0))
