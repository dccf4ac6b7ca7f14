-- What is present where a store follows a book has its meaning, and what has no value yet is stale or circular.
use Rattle.std.proofs.Common.{◌≡◌, ℕ, zero, suc, Bool, true, false, not, cond, ◌||◌, List, [], Option, None, Some, flat_map, ⊎_elim, refl, ap, sym, subst, ◌∙◌}
use Rattle.std.specs.Option.{is_some, option_map, unwrap_or}
use Rattle.std.proofs.lemmas.Option.{none-some}
use Rattle.std.proofs.lemmas.Bool.{or_cases, or_left, or_right, and_parts, and_from}
use Rattle.book_sync.specs.Following.{FollowsChanged, ShowsWhereClean, TableFollows, present_by_content}
use Rattle.async_handles.specs.declared.open_calls.OpenCall.{OpenCall}
use Rattle.async_handles.specs.OpenCalls.{call_at}
use Rattle.calc_book.specs.Begun.{AreDue, names_itself}
use Rattle.calc_book.specs.Keeping.{shown_in}
use Rattle.calc_book.proofs.BeginningLists.{among-filter, unreached}
use Rattle.calc_round.specs.Rounds.{IsWorking, PresentMeans, has_call, is_unfinished}
use Rattle.cell_refs.specs.declared.areas.Area.{Area}
use Rattle.cell_refs.specs.declared.grid.Cell.{Cell}
use Rattle.cell_refs.specs.Area.{cells_of}
use Rattle.cell_refs.specs.Cell.{is_among, same_cell}
use Rattle.cell_refs.proofs.PublicLaws.{some_among}
use Rattle.cell_store.specs.Gathering.{has_no_value}
use Rattle.cell_store.specs.Store.{StoreState, is_touched, present_at, shown_at}
use Rattle.cell_values.specs.declared.values.Value.{Value}
use Rattle.cell_values.specs.declared.values.Value.TheVariants as values
use Rattle.dep_table.specs.Table.{is_reader, precedents_at}
use Rattle.dep_table.proofs.PublicLaws.{precedents-lies_in}
use Rattle.formula_parse.specs.Tree.{areas_named, precedents}
use Rattle.workbook.specs.declared.contents.Content.{Content}
use Rattle.workbook.specs.declared.contents.Content.TheVariants as contents
use Rattle.workbook.specs.Agreement.{IsAlikeBesideChanged}
use Rattle.workbook.specs.Book.{IsInOrder, by_content, cell_precedents, content_at, content_precedents, formula_count, has_formula, is_formula}
use Rattle.workbook.specs.Circular.{is_circular, walks_on}
use Rattle.workbook.specs.Evaluation as evaluation
use Rattle.workbook.specs.Evaluation.{answer_of}
use Rattle.workbook.specs.Meaning.{Setting, Meaning, Val, Circ, Asks, Open, asks_call, content_meaning, is_open, meaning, meaning_of_answer, shown_value, value_in, world_at}
use Rattle.workbook.specs.Stale.{is_stale}
use Rattle.workbook.proofs.PublicLaws.{all_closed, meaning-unfolds, meaning_between, reaches-among, walks-formula}
use Rattle.std.specs.List.{IsDistinct, filter, list_any}

not_both : (b : Bool) → b ≡ true → b ≡ false → ⊥
not_both b h k = let e : true ≡ false = sym h ∙ k in cc

-- a cell is stale, else changed, or neither
pub three : (P : Type 0) (stale changed : Bool) → (stale ≡ true → P) → (stale ≡ false → changed ≡ true → P) → (stale ≡ false → changed ≡ false → P) → P
three P true changed f g h = f refl
three P false true f g h = g refl refl
three P false false f g h = h refl refl

-- ---- what a content shows
pub shown-some : (m : Meaning) (o : Option Content) → is_some (option_map (λ content. shown_value m) o) ≡ is_some o
shown-some m None = refl
shown-some m (Some content) = refl

value-shown : (m : Meaning) (v : Value) → Some (shown_value m) ≡ Some (Some v) → m ≡ Val v
value-shown (Val w) v h = let same : w ≡ v = cc in ap Val same
value-shown Circ v h = cc
value-shown (Asks site name args) v h = cc
value-shown Open v h = cc

shown-value : (m : Meaning) (o : Option Content) (v : Value) → option_map (λ content. shown_value m) o ≡ Some (Some v) → m ≡ Val v
shown-value m None v h = cc
shown-value m (Some content) v h = value-shown m v h

shown-lacks : (m : Meaning) (o : Option Content) → has_no_value (option_map (λ content. shown_value m) o) ≡ true → (v : Value) → m ≡ Val v → ⊥
shown-lacks m None h v is = cc
shown-lacks m (Some content) h v is = let e : false ≡ true = ap (λ n. has_no_value (Some (shown_value n))) (sym is) ∙ h in cc

-- what is neither changed nor stale is shown as it means now
pub clean-shown : (earlier later : Setting) (completed book : List (Cell × Content)) (changed : List Cell) → IsInOrder completed → IsInOrder book
    → IsAlikeBesideChanged earlier later completed book changed → (store : StoreState) → ((q : Cell) → shown_at store q ≡ shown_in earlier completed q)
    → (q : Cell) → is_stale book changed q ≡ false → is_among changed q ≡ false → shown_at store q ≡ shown_in later book q
clean-shown earlier later completed book changed completed_ordered ordered alike store shown q fresh unchanged =
    shown q
    ∙ ap (λ m. option_map (λ content. shown_value m) (content_at completed q)) (meaning_between earlier later completed book changed completed_ordered ordered alike q unchanged fresh)
    ∙ ap (option_map (λ content. shown_value (meaning later book q))) (alike.contents q unchanged)

-- ---- what a content has present
content-some : (o : Option Content) → is_some (present_by_content o) ≡ is_some o
content-some None = refl
content-some (Some (contents.Num n)) = refl
content-some (Some (contents.Text t)) = refl
content-some (Some (contents.Bool b)) = refl
content-some (Some (contents.Error e)) = refl
content-some (Some (contents.Formula tree)) = refl

content-lacks : (o : Option Content) → has_no_value (present_by_content o) ≡ has_formula o
content-lacks None = refl
content-lacks (Some (contents.Num n)) = refl
content-lacks (Some (contents.Text t)) = refl
content-lacks (Some (contents.Bool b)) = refl
content-lacks (Some (contents.Error e)) = refl
content-lacks (Some (contents.Formula tree)) = refl

pub formula-some : (o : Option Content) → has_formula o ≡ true → is_some o ≡ true
formula-some None h = cc
formula-some (Some content) h = refl

-- ---- what a content means
constant-valued : (setting : Setting) (cell : Cell) (meanings : Cell → Meaning) (o : Option Content) → has_formula o ≡ false
    → (v : Value) × (content_meaning setting cell meanings o ≡ Val v)
constant-valued setting cell meanings None h = (values.Blank, refl)
constant-valued setting cell meanings (Some (contents.Num n)) h = (values.Num n, refl)
constant-valued setting cell meanings (Some (contents.Text t)) h = (values.Text t, refl)
constant-valued setting cell meanings (Some (contents.Bool b)) h = (values.Bool b, refl)
constant-valued setting cell meanings (Some (contents.Error e)) h = (values.Error e, refl)
constant-valued setting cell meanings (Some (contents.Formula tree)) h = absurd (cc)

constant-alike : (earlier later : Setting) (cell : Cell) (one other : Cell → Meaning) (o : Option Content) → has_formula o ≡ false
    → content_meaning earlier cell one o ≡ content_meaning later cell other o
constant-alike earlier later cell one other None h = refl
constant-alike earlier later cell one other (Some (contents.Num n)) h = refl
constant-alike earlier later cell one other (Some (contents.Text t)) h = refl
constant-alike earlier later cell one other (Some (contents.Bool b)) h = refl
constant-alike earlier later cell one other (Some (contents.Error e)) h = refl
constant-alike earlier later cell one other (Some (contents.Formula tree)) h = absurd (cc)

constant-present : (setting : Setting) (cell : Cell) (meanings : Cell → Meaning) (o : Option Content) (v : Value) → present_by_content o ≡ Some (Some v)
    → content_meaning setting cell meanings o ≡ Val v
constant-present setting cell meanings None v h = cc
constant-present setting cell meanings (Some (contents.Num n)) v h = let same : values.Num n ≡ v = cc in ap Val same
constant-present setting cell meanings (Some (contents.Text t)) v h = let same : values.Text t ≡ v = cc in ap Val same
constant-present setting cell meanings (Some (contents.Bool b)) v h = let same : values.Bool b ≡ v = cc in ap Val same
constant-present setting cell meanings (Some (contents.Error e)) v h = let same : values.Error e ≡ v = cc in ap Val same
constant-present setting cell meanings (Some (contents.Formula tree)) v h = cc

present-constant : (o : Option Content) (v : Value) → present_by_content o ≡ Some (Some v) → has_formula o ≡ false
present-constant None v h = refl
present-constant (Some (contents.Num n)) v h = refl
present-constant (Some (contents.Text t)) v h = refl
present-constant (Some (contents.Bool b)) v h = refl
present-constant (Some (contents.Error e)) v h = refl
present-constant (Some (contents.Formula tree)) v h = cc

answer-acyclic : (waits : Bool) (a : evaluation.Answer) → cond waits Open (meaning_of_answer a) ≡ Circ → ⊥
answer-acyclic true a h = cc
answer-acyclic false (evaluation.Val v) h = cc
answer-acyclic false (evaluation.Asks site name args) h = cc
answer-acyclic false (evaluation.Needs topic) h = cc

content-acyclic : (setting : Setting) (cell : Cell) (meanings : Cell → Meaning) (o : Option Content) → content_meaning setting cell meanings o ≡ Circ → ⊥
content-acyclic setting cell meanings None h = cc
content-acyclic setting cell meanings (Some (contents.Num n)) h = cc
content-acyclic setting cell meanings (Some (contents.Text t)) h = cc
content-acyclic setting cell meanings (Some (contents.Bool b)) h = cc
content-acyclic setting cell meanings (Some (contents.Error e)) h = cc
content-acyclic setting cell meanings (Some (contents.Formula tree)) h =
    answer-acyclic (list_any (λ d. is_open (meanings d)) (precedents tree cell.sheet)) (answer_of (world_at setting cell (λ d. value_in (meanings d))) tree) h

-- a meaning that doesn't wait is a value, or circular
valueless : (m : Meaning) → is_open m ≡ false → ((v : Value) → m ≡ Val v → ⊥) → (m ≡ Circ → ⊥) → ⊥
valueless (Val v) closed lacks acyclic = lacks v refl
valueless Circ closed lacks acyclic = acyclic refl
valueless (Asks site name args) closed lacks acyclic = let no : true ≡ false = closed in cc
valueless Open closed lacks acyclic = let no : true ≡ false = closed in cc

module _ (book : List (Cell × Content)) (ordered : IsInOrder book) where
  constant-walks : (cell : Cell) → is_formula book cell ≡ false → is_circular book cell ≡ false
  constant-walks cell constant = elim (is_circular book cell) as (λ b. is_circular book cell ≡ b → b ≡ false) [
    | true ↦ λ e. sym (walks-formula book (formula_count book) cell e) ∙ constant
    | false ↦ λ _. refl
  ] refl

  -- a constant means its value
  constant-means : (setting : Setting) (cell : Cell) → is_formula book cell ≡ false → meaning setting book cell ≡ content_meaning setting cell (meaning setting book) (content_at book cell)
  constant-means setting cell constant = meaning-unfolds setting book ordered cell (constant-walks cell constant)

  -- in any setting
  pub constant-same : (earlier later : Setting) (cell : Cell) → is_formula book cell ≡ false → (v : Value) → meaning earlier book cell ≡ Val v → meaning later book cell ≡ Val v
  constant-same earlier later cell constant v means =
      constant-means later cell constant
      ∙ constant-alike later earlier cell (meaning later book) (meaning earlier book) (content_at book cell) constant
      ∙ sym (constant-means earlier cell constant) ∙ means

  -- a cell that asks has a formula
  pub asks-formula : (setting : Setting) (cell : Cell) → asks_call (meaning setting book cell) ≡ true → is_formula book cell ≡ true
  asks-formula setting cell asks = elim (is_formula book cell) as (λ b. is_formula book cell ≡ b → b ≡ true) [
    | true ↦ λ _. refl
    | false ↦ λ constant.
        let valued = constant-valued setting cell (meaning setting book) (content_at book cell) constant in
        absurd (not_both (asks_call (meaning setting book cell)) asks (ap asks_call (constant-means setting cell constant ∙ valued.1)))
  ] refl

  -- a cell that means no value and doesn't wait is circular
  valueless-circular : (setting : Setting) (cell : Cell) → is_open (meaning setting book cell) ≡ false → ((v : Value) → meaning setting book cell ≡ Val v → ⊥) → is_circular book cell ≡ true
  valueless-circular setting cell closed lacks = elim (is_circular book cell) as (λ b. is_circular book cell ≡ b → b ≡ true) [
    | true ↦ λ _. refl
    | false ↦ λ acyclic. absurd (valueless (meaning setting book cell) closed lacks
        (λ circ. content-acyclic setting cell (meaning setting book) (content_at book cell) (sym (meaning-unfolds setting book ordered cell acyclic) ∙ circ)))
  ] refl

  -- ---- a store that follows the book
  module _
      (earlier later : Setting)
      (completed : List (Cell × Content))
      (changed : List Cell)
      (before now : StoreState)
      (completed_ordered : IsInOrder completed)
      (closed : (q : Cell) → asks_call (meaning earlier completed q) ≡ false)
      (shown : (q : Cell) → shown_at before q ≡ shown_in earlier completed q)
      (clean : ShowsWhereClean book changed before)
      (alike : IsAlikeBesideChanged earlier later completed book changed)
      (kept : (q : Cell) → is_among changed q ≡ false → is_stale book changed q ≡ false → present_at now q ≡ present_at before q)
      (follows : FollowsChanged book changed now)
      (stale : (q : Cell) → is_stale book changed q ≡ true → present_at now q ≡ Some None)
    where
      -- what is neither changed nor stale is present as it is shown, which is what it means now
      clean-present : (q : Cell) → is_stale book changed q ≡ false → is_among changed q ≡ false
          → present_at now q ≡ option_map (λ content. shown_value (meaning later book q)) (content_at book q)
      clean-present q fresh unchanged =
          kept q unchanged fresh
          ∙ ⊎_elim (λ same. same) (λ r. absurd (unreached book ordered changed q unchanged fresh r)) (clean q)
          ∙ clean-shown earlier later completed book changed completed_ordered ordered alike before shown q fresh unchanged

      stale-formula : (q : Cell) → is_stale book changed q ≡ true → is_formula book q ≡ true
      stale-formula q h = (and_parts (is_formula book q) _ h).0

      content-present : (q : Cell) → is_some (present_at now q) ≡ is_some (content_at book q)
      content-present q = three _ (is_stale book changed q) (is_among changed q)
          (λ h. ap is_some (stale q h) ∙ sym (formula-some (content_at book q) (stale-formula q h)))
          (λ fresh here. ap is_some (follows q here) ∙ content-some (content_at book q))
          (λ fresh unchanged. ap is_some (clean-present q fresh unchanged) ∙ shown-some _ (content_at book q))

      value-present : (q : Cell) (v : Value) → present_at now q ≡ Some (Some v) → meaning later book q ≡ Val v
      value-present q v is = three _ (is_stale book changed q) (is_among changed q)
          (λ h. let e : Some None ≡ Some (Some v) = sym (stale q h) ∙ is in cc)
          (λ fresh here.
          let by = sym (follows q here) ∙ is in
          constant-means later q (present-constant (content_at book q) v by) ∙ constant-present later q (meaning later book) (content_at book q) v by)
          (λ fresh unchanged. shown-value _ (content_at book q) v (sym (clean-present q fresh unchanged) ∙ is))

      -- what is clean and has no value yet means none
      clean-lacks : (q : Cell) → is_stale book changed q ≡ false → is_among changed q ≡ false → is_unfinished now q ≡ true
          → (v : Value) → meaning later book q ≡ Val v → ⊥
      clean-lacks q fresh unchanged h = shown-lacks _ (content_at book q) (ap has_no_value (sym (clean-present q fresh unchanged)) ∙ h)

      -- nor does it wait
      clean-closed : (q : Cell) → is_stale book changed q ≡ false → is_among changed q ≡ false → is_open (meaning later book q) ≡ false
      clean-closed q fresh unchanged =
          ap is_open (sym (meaning_between earlier later completed book changed completed_ordered ordered alike q unchanged fresh))
          ∙ all_closed earlier completed completed_ordered closed q

      changed-formula : (q : Cell) → is_among changed q ≡ true → is_unfinished now q ≡ true → is_formula book q ≡ true
      changed-formula q here h = sym (content-lacks (content_at book q)) ∙ ap has_no_value (sym (follows q here)) ∙ h

      formula-present : (q : Cell) → is_unfinished now q ≡ true → is_formula book q ≡ true
      formula-present q h = three _ (is_stale book changed q) (is_among changed q)
          (stale-formula q)
          (λ fresh here. changed-formula q here h)
          (λ fresh unchanged. elim (is_formula book q) as (λ b. is_formula book q ≡ b → b ≡ true) [
            | true ↦ λ _. refl
            | false ↦ λ constant.
                let valued = constant-valued later q (meaning later book) (content_at book q) constant in
                absurd (clean-lacks q fresh unchanged h valued.0 (constant-means later q constant ∙ valued.1))
          ] refl)

      pub followed-means : PresentMeans later book now
      followed-means = record { content = content-present; value = value-present; formula = formula-present }

      -- what has no value yet is circular or stale
      pub followed-left : (q : Cell) → is_unfinished now q ≡ true → (is_circular book q || is_stale book changed q) ≡ true
      followed-left q h = three _ (is_stale book changed q) (is_among changed q)
          (λ s. or_right (is_circular book q) _ s)
          (λ fresh here. or_right (is_circular book q) _ (and_from _ _ (changed-formula q here h) (reaches-among book ordered changed (formula_count book) q here)))
          (λ fresh unchanged. or_left _ (is_stale book changed q) (valueless-circular later q (clean-closed q fresh unchanged) (clean-lacks q fresh unchanged h)))

-- ---- a cell that names itself
walks-itself : (book : List (Cell × Content)) (cell : Cell) → is_formula book cell ≡ true → is_among (cell_precedents book cell) cell ≡ true → (n : ℕ) → walks_on book n cell ≡ true
walks-itself book cell formula named zero = formula
walks-itself book cell formula named (suc n) = some_among (walks_on book n) (cell_precedents book cell) cell named (walks-itself book cell formula named n)

content_areas : (content : Option Content) (home : ℕ) → flat_map cells_of (unwrap_or (by_content {A = Option (List Area)} (λ v. None) (λ tree. Some (areas_named tree home)) content) []) ≡ content_precedents content home
content_areas None home = refl
content_areas (Some (contents.Num n)) home = refl
content_areas (Some (contents.Text t)) home = refl
content_areas (Some (contents.Bool b)) home = refl
content_areas (Some (contents.Error e)) home = refl
content_areas (Some (contents.Formula tree)) home = refl

content_reader : (content : Option Content) (home : ℕ) → is_some (by_content {A = Option (List Area)} (λ v. None) (λ tree. Some (areas_named tree home)) content) ≡ has_formula content
content_reader None home = refl
content_reader (Some (contents.Num n)) home = refl
content_reader (Some (contents.Text t)) home = refl
content_reader (Some (contents.Bool b)) home = refl
content_reader (Some (contents.Error e)) home = refl
content_reader (Some (contents.Formula tree)) home = refl

-- the readers of a table that follows the book are the formula cells
pub table-readers : (book : List (Cell × Content)) (table : List (Cell × List Area)) → TableFollows book [] table → (cell : Cell) → is_reader table cell ≡ is_formula book cell
table-readers book table follows cell = ap is_some (follows cell refl) ∙ content_reader (content_at book cell) cell.sheet

itself-circular : (book : List (Cell × Content)) (table : List (Cell × List Area)) → TableFollows book [] table → (cell : Cell) → is_formula book cell ≡ true
    → names_itself table cell ≡ true → is_circular book cell ≡ true
itself-circular book table follows cell formula names =
    let alike : precedents_at table cell ≡ cell_precedents book cell = ap (λ found. flat_map cells_of (unwrap_or found [])) (follows cell refl) ∙ content_areas (content_at book cell) cell.sheet in
    walks-itself book cell formula (ap (λ cells. is_among cells cell) (sym alike) ∙ precedents-lies_in table cell cell ∙ names) (formula_count book)

-- ---- the recalculation of marked cells
-- the marked cells that don't name themselves are due
pub are-due : (table : List (Cell × List Area)) (marks due waiting : List Cell) → waiting ≡ due → due ≡ filter (λ c. not (names_itself table c)) marks → IsDistinct same_cell due
    → AreDue table marks waiting
are-due table marks due waiting same is once = record {
  once = subst (IsDistinct same_cell) (sym same) once;
  marked = λ q. ap (λ cells. is_among cells q) (same ∙ is) ∙ among-filter (λ c. not (names_itself table c)) marks q;
}

module _ (setting : Setting) (round : ℕ) (book : List (Cell × Content)) (store : StoreState) (table : List (Cell × List Area)) (marks entries due : List Cell) (calls : List OpenCall)
    (ordered : IsInOrder book) (follows : TableFollows book [] table) (means : PresentMeans setting book store) (once : IsDistinct same_cell entries) (are : AreDue table marks due)
    (none : calls ≡ [])
    (stand : (q : Cell) → is_among marks q ≡ true → is_among entries q ≡ true)
    (unfinished : (q : Cell) → is_among marks q ≡ true → is_unfinished store q ≡ true)
    (touched : (q : Cell) → is_among marks q ≡ true → is_touched store q ≡ true)
    (left : (q : Cell) → is_unfinished store q ≡ true → (is_circular book q || is_among marks q) ≡ true) where
  marked : (q : Cell) → is_among due q ≡ true → is_among marks q ≡ true
  marked q h = (and_parts (is_among marks q) _ (sym (are.marked q) ∙ h)).0

  no-call : (q : Cell) → call_at calls q ≡ None
  no-call q = ap (λ (es : List OpenCall). call_at es q) none

  due_or_circular : (q : Cell) → is_unfinished store q ≡ true → is_among marks q ≡ true → (is_circular book q || (is_among due q || has_call calls q)) ≡ true
  due_or_circular q h mark = elim (names_itself table q) as (λ b. names_itself table q ≡ b → (is_circular book q || (is_among due q || has_call calls q)) ≡ true) [
    | true ↦ λ names. or_left _ _ (itself-circular book table follows q (means.formula q h) names)
    | false ↦ λ others. or_right (is_circular book q) _ (or_left _ (has_call calls q) (are.marked q ∙ and_from _ _ mark (ap not others)))
  ] refl

  pub marked-working : IsWorking setting book store entries due calls round
  marked-working = record {
    means = means;
    ordered = ordered;
    entries_once = once;
    pending_once = are.once;
    pending_open = λ q h. and_from _ _ (stand q (marked q h)) (and_from _ _ (unfinished q (marked q h)) (ap (λ o. not (is_some o)) (no-call q)));
    touched = λ q h. touched q (marked q h);
    asked = λ q entry h. absurd (none-some entry (sym (no-call q) ∙ h));
    left = λ q h. ⊎_elim (λ circular. or_left _ _ circular) (due_or_circular q h) (or_cases (is_circular book q) (is_among marks q) (left q h));
  }
