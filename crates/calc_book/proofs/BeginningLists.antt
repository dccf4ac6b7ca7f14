-- Lists of cells with the same cells, and what is reached and followed over them.
use Rattle.std.proofs.Common.{◌≡◌, ℕ, zero, suc, Bool, true, false, cond, ◌||◌, ◌&&◌, List, [], ◌∷◌, ⊎_elim, inl, inr, refl, ap, sym, ◌∙◌}
use Rattle.std.specs.List.{AllByRecursion, IsDistinct, filter, list_any}
use Rattle.std.proofs.lemmas.Bool.{and_from, and_parts, false_from_ne_true, or_cases, or_left, or_right}
use Rattle.std.proofs.lemmas.Map.Keys.{IsDistinct-head, IsDistinct-tail, IsDistinct-cons}
use Rattle.book_sync.specs.Following.{ShowsWhereClean, TableFollows}
use Rattle.calc_book.specs.Begun.{AreBoth}
use Rattle.calc_book.specs.CalcState.{CalcState}
use Rattle.calc_book.specs.Keeping.{AtRest, Holds, InRound}
use Rattle.calc_book.specs.declared.calc_books.CalcBook.{CalcBook}
use Rattle.cell_chain.specs.CellOrder.{entries_among}
use Rattle.cell_refs.specs.declared.areas.Area.{Area}
use Rattle.cell_refs.specs.declared.grid.Cell.{Cell}
use Rattle.cell_refs.specs.Cell.{is_among, same_cell}
use Rattle.cell_refs.specs.Reaching.{Reaches, reaches}
use Rattle.cell_refs.proofs.PublicLaws.{same_cell_is}
use Rattle.cell_store.specs.Store.{StoreState}
use Rattle.workbook.specs.declared.contents.Content.{Content}
use Rattle.workbook.specs.Agreement.{IsAlikeBesideChanged}
use Rattle.workbook.specs.Book.{IsInOrder, cell_precedents, content_at, formula_count, is_formula}
use Rattle.workbook.specs.Meaning.{Setting}
use Rattle.workbook.specs.Stale.{is_stale}
use Rattle.workbook.proofs.PublicLaws.{any_alike, any_leads, reaches-among, reaches-constant, reaches-enough}

-- lists with the same cells
abbrev pub AreAlike : List Cell → List Cell → Type 0
AreAlike cells same = (q : Cell) → is_among cells q ≡ is_among same q

-- the cells of a list are among those of another
abbrev pub AreWithin : List Cell → List Cell → Type 0
AreWithin cells more = (q : Cell) → is_among cells q ≡ true → is_among more q ≡ true

-- ---- what is reached
pub reaches-alike : (names : Cell → List Cell) (targets same : List Cell) → AreAlike targets same → (n : ℕ) (q : Cell) → reaches names targets n q ≡ reaches names same n q
reaches-alike names targets same alike zero q = alike q
reaches-alike names targets same alike (suc n) q =
    ap (λ b. b || list_any (reaches names targets n) (names q)) (alike q)
    ∙ ap (λ b. is_among same q || b) (any_alike _ _ (reaches-alike names targets same alike n) (names q))

-- what is reached in any number of steps is reached in as many as there are formula cells
reaches-within : (book : List (Cell × Content)) → IsInOrder book → (changed : List Cell) (n : ℕ) (q : Cell)
    → reaches (cell_precedents book) changed n q ≡ true → reaches (cell_precedents book) changed (formula_count book) q ≡ true
reaches-within book ordered changed zero q h = reaches-among book ordered changed (formula_count book) q h
reaches-within book ordered changed (suc n) q h =
    sym (reaches-enough book ordered changed q)
    ∙ ⊎_elim (λ here. or_left (is_among changed q) _ here)
    (λ later. or_right (is_among changed q) _ (any_leads _ _ (reaches-within book ordered changed n) (cell_precedents book q) later))
    (or_cases (is_among changed q) _ h)

not_both : (b : Bool) → b ≡ true → b ≡ false → ⊥
not_both b h k = let e : true ≡ false = sym h ∙ k in cc

-- from a cell that is neither changed nor stale no changed cell is reached
pub unreached : (book : List (Cell × Content)) → IsInOrder book → (changed : List Cell) (q : Cell) → is_among changed q ≡ false → is_stale book changed q ≡ false
    → Reaches (cell_precedents book) changed q → ⊥
unreached book ordered changed q unchanged fresh r = elim (is_formula book q) as (λ b. is_formula book q ≡ b → ⊥) [
  | true ↦ λ formula. not_both (is_stale book changed q) (ap (λ b. b && reaches (cell_precedents book) changed (formula_count book) q) formula ∙ reaches-within book ordered changed r.0 q r.1) fresh
  | false ↦ λ constant. not_both (is_among changed q) (sym (reaches-constant book changed r.0 q constant) ∙ r.1) unchanged
] refl

-- where more is changed more is reached, and more is stale
pub reaches-more : (names : Cell → List Cell) (targets more : List Cell) → AreWithin targets more → (n : ℕ) (q : Cell) → reaches names targets n q ≡ true → reaches names more n q ≡ true
reaches-more names targets more within zero q h = within q h
reaches-more names targets more within (suc n) q h =
    ⊎_elim (λ here. or_left (is_among more q) _ (within q here))
    (λ later. or_right (is_among more q) _ (any_leads _ _ (reaches-more names targets more within n) (names q) later))
    (or_cases (is_among targets q) _ h)

stale-more : (book : List (Cell × Content)) (changed more : List Cell) → AreWithin changed more → (q : Cell) → is_stale book more q ≡ false → is_stale book changed q ≡ false
stale-more book changed more within q fresh = elim (is_stale book changed q) as (λ b. is_stale book changed q ≡ b → b ≡ false) [
  | true ↦ λ h.
      let parts = and_parts (is_formula book q) _ h in
      absurd (not_both (is_stale book more q) (and_from _ _ parts.0 (reaches-more (cell_precedents book) changed more within (formula_count book) q parts.1)) fresh)
  | false ↦ λ _. refl
] refl

-- a setting is alike to itself
pub alike-itself : (setting : Setting) (before now : List (Cell × Content)) (changed : List Cell) → ((q : Cell) → is_among changed q ≡ false → content_at before q ≡ content_at now q)
    → IsAlikeBesideChanged setting setting before now changed
alike-itself setting before now changed kept = record {
  contents = kept;
  answer = refl;
  formulas = λ q tree is fresh. record {
    registered = λ k d below. refl;
    accepted = λ site some within. refl;
    topics = λ topic reads. refl;
  };
}

-- what is alike beside what is changed is so where more is changed
pub alike-more : (earlier later : Setting) (before now : List (Cell × Content)) (changed more : List Cell) → AreWithin changed more
    → IsAlikeBesideChanged earlier later before now changed → IsAlikeBesideChanged earlier later before now more
alike-more earlier later before now changed more within alike = record {
  contents = λ q none. alike.contents q (false_from_ne_true (is_among changed q) (λ here. not_both (is_among more q) (within q here) none));
  answer = alike.answer;
  formulas = λ q tree is fresh. alike.formulas q tree is (stale-more now changed more within q fresh);
}

-- ---- what is stale, followed and shown
pub stale-alike : (book : List (Cell × Content)) (changed same : List Cell) → AreAlike changed same → (q : Cell) → is_stale book changed q ≡ is_stale book same q
stale-alike book changed same alike q = ap (λ b. is_formula book q && b) (reaches-alike (cell_precedents book) changed same alike (formula_count book) q)

pub table-alike : (book : List (Cell × Content)) (changed same : List Cell) (table : List (Cell × List Area)) → AreAlike changed same → TableFollows book changed table → TableFollows book same table
table-alike book changed same table alike follows q none = follows q (alike q ∙ none)

pub shows-alike : (book : List (Cell × Content)) (changed same : List Cell) (store : StoreState) → AreAlike changed same → ShowsWhereClean book changed store → ShowsWhereClean book same store
shows-alike book changed same store alike clean q =
    ⊎_elim (λ h. inl h) (λ r. inr (r.0, sym (reaches-alike (cell_precedents book) changed same alike r.0 q) ∙ r.1)) (clean q)

-- the stale and the changed cells, where the marks are the stale ones
pub forgotten-cells : (book same : List (Cell × Content)) (keys changed marks both : List Cell) → book ≡ same → AreAlike keys changed
    → ((q : Cell) → is_among marks q ≡ is_stale book keys q) → AreBoth marks keys both
    → (q : Cell) → is_among both q ≡ (is_stale same changed q || is_among changed q)
forgotten-cells book same keys changed marks both is alike marked are q =
    are q
    ∙ ap (λ b. b || is_among keys q) (marked q ∙ ap (λ es. is_stale es keys q) is ∙ stale-alike same keys changed alike q)
    ∙ ap (λ b. is_stale same changed q || b) (alike q)

-- ---- of the changed cells of a state it matters alone which they are
holds-alike : (b : CalcBook) (s : CalcState) (same : List Cell) → AreAlike s.changed same → Holds b s → Holds b (record s { changed = same })
holds-alike b s same alike holds = record {
  session = holds.session;
  book = holds.book;
  functions = holds.functions;
  ordered = holds.ordered;
  completed = holds.completed;
  changed = λ q. holds.changed q ∙ alike q;
  chain = holds.chain;
  shown = holds.shown;
  closed = holds.closed;
}

pub rest-alike : (b : CalcBook) (s : CalcState) (same : List Cell) → AreAlike s.changed same → AtRest b s → AtRest b (record s { changed = same })
rest-alike b s same alike rest = record {
  holds = holds-alike b s same alike rest.holds;
  table = table-alike s.book s.changed same b.table alike rest.table;
  clean = shows-alike s.book s.changed same b.store alike rest.clean;
  others = λ q none. rest.others q (alike q ∙ none);
  calls = rest.calls;
}

pub round-alike : (now : Setting) (round : ℕ) (b : CalcBook) (s : CalcState) (same : List Cell) → AreAlike s.changed same → InRound now round b s
    → InRound now round b (record s { changed = same })
round-alike now round b s same alike running = record {
  holds = holds-alike b s same alike running.holds;
  table = running.table;
  marked = λ q. running.marked q ∙ stale-alike s.book s.changed same alike q;
  working = running.working;
  idle = running.idle;
  room = running.room;
  clean = shows-alike s.book s.changed same b.store alike running.clean;
  alike = alike-more s.setting now s.completed s.book s.changed same (λ q h. sym (alike q) ∙ h) running.alike;
}

-- ---- cells that are filtered
taken : (a b t : Bool) → (a ≡ true → t ≡ true) → (a || (b && t)) ≡ ((a || b) && t)
taken true b t f = sym (f refl)
taken false b t f = refl

passed : (a b t : Bool) → (a ≡ true → t ≡ false) → (b && t) ≡ ((a || b) && t)
passed true true t f = refl
passed true false t f = sym (f refl)
passed false b t f = refl

-- the cells that pass
pub among-filter : (p : Cell → Bool) (cells : List Cell) (q : Cell) → is_among (filter p cells) q ≡ (is_among cells q && p q)
among-filter p [] q = refl
among-filter p (c ∷ cells) q = elim (p c) as (λ b. p c ≡ b → is_among (cond b (c ∷ filter p cells) (filter p cells)) q ≡ ((same_cell q c || is_among cells q) && p q)) [
  | true ↦ λ e. ap (λ b. same_cell q c || b) (among-filter p cells q) ∙ taken (same_cell q c) (is_among cells q) (p q) (λ same. ap p (same_cell_is q c same) ∙ e)
  | false ↦ λ e. among-filter p cells q ∙ passed (same_cell q c) (is_among cells q) (p q) (λ same. ap p (same_cell_is q c same) ∙ e)
] refl

all_filtered : (P : Cell → Type 0) (p : Cell → Bool) (xs : List Cell) → AllByRecursion P xs → AllByRecursion P (filter p xs)
all_filtered P p [] h = tt
all_filtered P p (x ∷ xs) h = elim (p x) as (λ b. AllByRecursion P (cond b (x ∷ filter p xs) (filter p xs))) [
  | true ↦ (h.0, all_filtered P p xs h.1)
  | false ↦ all_filtered P p xs h.1
]

-- each stands once
pub distinct-filter : (p : Cell → Bool) (xs : List Cell) → IsDistinct same_cell xs → IsDistinct same_cell (filter p xs)
distinct-filter p [] d = d
distinct-filter p (x ∷ xs) d =
    let rest = distinct-filter p xs (IsDistinct-tail same_cell x xs d) in
    elim (p x) as (λ b. IsDistinct same_cell (cond b (x ∷ filter p xs) (filter p xs))) [
      | true ↦ IsDistinct-cons same_cell x (filter p xs) (all_filtered (λ y. same_cell x y ≡ false) p xs (IsDistinct-head same_cell x xs d)) rest
      | false ↦ rest
    ]

-- ---- none
pub none-once : IsDistinct same_cell []
unfolding IsDistinct
none-once = tt

pub none-among : (entries : List Cell) → entries_among entries [] ≡ []
none-among [] = refl
none-among (entry ∷ entries) = none-among entries
