-- The walk over readers: what each step leaves, and what stands at its end.
use Rattle.std.proofs.Common.{◌≡◌, ℕ, zero, suc, ◌+◌, ◌<◌, ◌≤◌, Bool, true, false, cond, ◌||◌, List, [], ◌∷◌, ◌++◌, ◌⊎◌, Option, None, Some, Result, Ok, Err, OnOk, MatchResult, length, take, flat_map, ⊎_elim, inl, inr, refl, ap, sym, subst, ◌∙◌, append_assoc, arith}
use Rattle.std.specs.BTreeSet.{BTreeSet, IsOrdered}
use Rattle.std.specs.Cmp.{both_ways}
use Rattle.std.specs.List.{list_any, slice_index_or}
use Rattle.std.specs.Map.{lookup}
use Rattle.std.specs.Option.{IsSome, is_some, unwrap_or}
use Rattle.std.proofs.lemmas.Bool.{or_cases, or_left, or_right, or_from, or_parts}
use Rattle.std.proofs.lemmas.List.Folds.{list_any_more, list_any_at}
use Rattle.std.proofs.Common.{length-append}
use Rattle.std.proofs.lemmas.Map.Lookups.{btree_set_from_contains}
use Rattle.std.proofs.lemmas.Map.Steps.{length-le_from_keys}
use Rattle.cell_refs.specs.declared.areas.Area.{Area}
use Rattle.cell_refs.specs.declared.grid.Cell.{Cell}
use Rattle.cell_refs.specs.Area.{cells_of, lies_in}
use Rattle.cell_refs.specs.Cell.{cell_cmp, is_among, same_cell}
use Rattle.cell_refs.specs.Reaching.{Reaches, reaches}
use Rattle.cell_refs.proofs.PublicLaws.{cells_total, exact_cells, found_among, same_cell_is, same_cells, some_among}
use Rattle.dep_table.specs.Table.{IsInOrder, areas_at, is_reader, precedents_at, readers_of}
use Rattle.dep_table.proofs.PublicLaws.{precedents-lies_in, readers_of-among, reads-reader}
use Rattle.stale_marks.specs.Marks.{IsClosed, IsClosedBut}
use Rattle.stale_marks.specs.Spreading.{AreDependents, AreWalked, HasBegun, HasSpread, HasSpreadInPart}
use Rattle.stale_marks.specs.Marks.{IsDependent, KeepsMarks}

-- the one cell of a list
pub only-cell : (cell q : Cell) → is_among (cell ∷ []) q ≡ true → q ≡ cell
only-cell cell q h = ⊎_elim (λ same. same_cell_is q cell same) (λ none. absurd (cc)) (or_cases (same_cell q cell) false h)

pub the-cell : (cell : Cell) → is_among (cell ∷ []) cell ≡ true
the-cell cell = or_left (same_cell cell cell) false (same_cells.refl cell)

-- ---- one more cell of a list

pub all-next : (marks new cells : List Cell) (i : ℕ) (d : Cell) → i < length cells → KeepsMarks marks new
    → ((q : Cell) → is_among (take i cells) q ≡ true → is_among marks q ≡ true) → is_among new (slice_index_or cells i d) ≡ true
    → (q : Cell) → is_among (take (i + 1) cells) q ≡ true → is_among new q ≡ true
all-next marks new cells i d below keeps before here q among =
    ⊎_elim (λ b. keeps q (before q b)) (λ last. subst (λ e. is_among new e ≡ true) (sym (same_cell_is q _ last)) here)
    (or_cases _ _ (sym (list_any_more (same_cell q) cells i d below) ∙ among))

pub dependent-at : (table : List (Cell × List Area)) (origin : Cell) (cells : List Cell) (i : ℕ) (d : Cell) → i < length cells
    → AreDependents table origin cells → IsDependent table origin (slice_index_or cells i d)
dependent-at table origin cells i d below all =
    all (slice_index_or cells i d) (list_any_at (same_cell (slice_index_or cells i d)) cells i d below (same_cells.refl (slice_index_or cells i d)))

pub behind-more : (start middle new : List Cell) → ((more : List Cell) × (middle ≡ start ++ more)) → ((more : List Cell) × (new ≡ middle ++ more))
    → (more : List Cell) × (new ≡ start ++ more)
behind-more start middle new a b = (a.0 ++ b.0, b.1 ∙ ap (λ xs. xs ++ b.0) a.1 ∙ append_assoc start a.0 b.0)

-- ---- marks that are taken back

-- new lacks this cell, and has what else old has
abbrev pub Loses : List Cell → List Cell → Cell → Type 0
Loses old new cell = (q : Cell) → is_among new q ≡ cond (same_cell cell q) false (is_among old q)

loses-cases : (b m : Bool) → cond b false m ≡ true → (b ≡ false) × (m ≡ true)
loses-cases true m h = cc
loses-cases false m h = (refl, h)

loses-keeps : (b m : Bool) → b ≡ false → m ≡ true → cond b false m ≡ true
loses-keeps true m h k = cc
loses-keeps false m h k = k

pub left-next : (old marks new cells : List Cell) (i : ℕ) (d : Cell) → i < length cells → Loses marks new (slice_index_or cells i d)
    → ((q : Cell) → is_among marks q ≡ true → (is_among old q ≡ true) × (is_among (take i cells) q ≡ false))
    → (q : Cell) → is_among new q ≡ true → (is_among old q ≡ true) × (is_among (take (i + 1) cells) q ≡ false)
left-next old marks new cells i d below loses before q among =
    let cell = slice_index_or cells i d in
    let c = loses-cases (same_cell cell q) (is_among marks q) (sym (loses q) ∙ among) in
    let b = before q c.1 in
    (b.0, list_any_more (same_cell q) cells i d below ∙ or_from _ _ b.1 (same_cells.symm q cell ∙ c.0))

pub kept-next : (old marks new cells : List Cell) (i : ℕ) (d : Cell) → i < length cells → Loses marks new (slice_index_or cells i d)
    → ((q : Cell) → is_among old q ≡ true → is_among (take i cells) q ≡ false → is_among marks q ≡ true)
    → (q : Cell) → is_among old q ≡ true → is_among (take (i + 1) cells) q ≡ false → is_among new q ≡ true
kept-next old marks new cells i d below loses before q among apart =
    let cell = slice_index_or cells i d in
    let parts = or_parts _ _ (sym (list_any_more (same_cell q) cells i d below) ∙ apart) in
    loses q ∙ loses-keeps (same_cell cell q) (is_among marks q) (same_cells.symm cell q ∙ parts.1) (before q among parts.0)

not_both : (a b : Bool) → a ≡ true → (b ≡ true → a ≡ false) → b ≡ false
not_both a true h f = absurd (let e : true ≡ false = sym h ∙ f refl in cc)
not_both a false h f = refl

first_of : (a b : Bool) → (a || b) ≡ true → b ≡ false → a ≡ true
first_of true b h k = refl
first_of false b h k = cc

-- what had spread in part is gone when the listed cells are taken back
pub taken-back : (old middle new : BTreeSet Cell) (added : List Cell) → IsOrdered cell_cmp old → IsOrdered cell_cmp new
    → HasSpreadInPart old.keys middle.keys added
    → ((q : Cell) → is_among new.keys q ≡ true → (is_among middle.keys q ≡ true) × (is_among added q ≡ false))
    → ((q : Cell) → is_among middle.keys q ≡ true → is_among added q ≡ false → is_among new.keys q ≡ true)
    → new.keys ≡ old.keys
taken-back old middle new added ordered ordered' part left kept =
    btree_set_from_contains cells_total new old ordered' ordered (λ q. both_ways (is_among new.keys q) (is_among old.keys q)
    (λ among. let l = left q among in first_of (is_among old.keys q) (is_among added q) (part.made q l.0) l.1)
    (λ among. kept q (part.kept q among) (not_both (is_among old.keys q) (is_among added q) among (part.fresh q)))) exact_cells

-- ---- the readers of a cell

one_more : (table : List (Cell × List Area)) (origin cell reader : Cell) → Reaches (precedents_at table) (origin ∷ []) cell → lies_in (areas_at table reader) cell ≡ true
    → Reaches (precedents_at table) (origin ∷ []) reader
one_more table origin cell reader r reads =
    (suc r.0, or_right (is_among (origin ∷ []) reader) _ (some_among (reaches (precedents_at table) (origin ∷ []) r.0) (precedents_at table reader) cell (precedents-lies_in table reader cell ∙ reads) r.1))

-- the readers of a cell from which the origin is reached are readers from which it is reached
pub readers-dependent : (table : List (Cell × List Area)) → IsInOrder table → (origin cell : Cell) (readers : List Cell) → readers ≡ readers_of table cell
    → Reaches (precedents_at table) (origin ∷ []) cell → AreDependents table origin readers
readers-dependent table ordered origin cell readers is r q among =
    let reads : lies_in (areas_at table q) cell ≡ true = sym (readers_of-among table ordered cell q) ∙ ap (λ xs. is_among xs q) (sym is) ∙ among in
    record { reader = reads-reader table q cell reads; reaches = one_more table origin cell q r reads }

-- once its readers are marked the cell is walked
pub readers-walked : (table : List (Cell × List Area)) → IsInOrder table → (cell : Cell) (readers marks : List Cell) → readers ≡ readers_of table cell
    → ((q : Cell) → is_among readers q ≡ true → is_among marks q ≡ true) → AreWalked table marks (cell ∷ [])
readers-walked table ordered cell readers marks is all c reader one reads =
    let same : c ≡ cell = only-cell cell c one in
    all reader (ap (λ xs. is_among xs reader) is ∙ readers_of-among table ordered cell reader ∙ subst (λ e. lies_in (areas_at table reader) e ≡ true) same reads)

-- ---- the beginning

pub origin-dependent : (table : List (Cell × List Area)) (origin : Cell) → is_reader table origin ≡ true → IsDependent table origin origin
origin-dependent table origin reader = record { reader = reader; reaches = (0, the-cell origin) }

second_of : (a b : Bool) → (a || b) ≡ true → a ≡ false → b ≡ true
second_of true b h k = cc
second_of false b h k = h

-- a reader begins with itself
pub begun-itself : {E : Type 0} (r : Result (Unit {0}) E) (table : List (Cell × List Area)) (origin : Cell) (old new added : List Cell) (P : Type 0)
    → is_reader table origin ≡ true → is_among old origin ≡ false
    → MatchResult r (λ _. HasSpread table origin old new added) (λ _. P) → OnOk r (is_among new origin ≡ true) → OnOk r (HasBegun table origin new added)
begun-itself (Ok done) table origin old new added P reader absent spread here = record {
  itself = λ _. second_of (is_among old origin) (is_among added origin) (sym (spread.made origin) ∙ here) absent;
  readers = λ stranger. absurd (let e : true ≡ false = sym reader ∙ stranger in cc);
}
begun-itself (Err e) table origin old new added P reader absent spread here = tt

-- ---- a step

prefix_among : (xs more : List Cell) (q : Cell) → is_among xs q ≡ true → is_among (xs ++ more) q ≡ true
prefix_among [] more q h = absurd (cc)
prefix_among (x ∷ xs) more q h = ⊎_elim (λ here. or_left (same_cell q x) _ here) (λ later. or_right (same_cell q x) _ (prefix_among xs more q later)) (or_cases (same_cell q x) (is_among xs q) h)

walked-keeps : (table : List (Cell × List Area)) (marks new cells : List Cell) → KeepsMarks marks new → AreWalked table marks cells → AreWalked table new cells
walked-keeps table marks new cells keeps walked c reader among reads = keeps reader (walked c reader among reads)

pub begun-keeps : (table : List (Cell × List Area)) (origin : Cell) (marks new added more : List Cell) → KeepsMarks marks new
    → ((rest : List Cell) × (more ≡ added ++ rest)) → HasBegun table origin marks added → HasBegun table origin new more
begun-keeps table origin marks new added more keeps behind begun = record {
  itself = λ reader. subst (λ xs. is_among xs origin ≡ true) (sym behind.1) (prefix_among added behind.0 origin (begun.itself reader));
  readers = λ stranger. walked-keeps table marks new (origin ∷ []) keeps (begun.readers stranger);
}

take_front : (n : ℕ) (xs more : List Cell) → n ≤ length xs → take n (xs ++ more) ≡ take n xs
take_front zero xs more h = refl
take_front (suc n) [] more h = absurd (omega arith)
take_front (suc n) (x ∷ xs) more h = ap (λ ys. x ∷ ys) (take_front n xs more (omega arith))

-- the next of the listed cells is walked too
pub walked-next : (table : List (Cell × List Area)) (marks new added more : List Cell) (i : ℕ) (cell d : Cell) → i < length added
    → ((rest : List Cell) × (more ≡ added ++ rest)) → cell ≡ slice_index_or added i d → KeepsMarks marks new
    → AreWalked table marks (take i added) → AreWalked table new (cell ∷ []) → AreWalked table new (take (i + 1) more)
walked-next table marks new added more i cell d below behind is keeps before here c reader among reads =
    let prefix : take (i + 1) more ≡ take (i + 1) added = ap (take (i + 1)) behind.1 ∙ take_front (i + 1) added behind.0 (omega arith) in
    ⊎_elim (λ b. keeps reader (before c reader b reads))
    (λ last. here c reader (or_left (same_cell c cell) false (ap (same_cell c) is ∙ last)) reads)
    (or_cases _ _ (sym (list_any_more (same_cell c) added i d below) ∙ ap (λ xs. is_among xs c) (sym prefix) ∙ among))

pub longer : (added more : List Cell) (i : ℕ) → i < length added → ((rest : List Cell) × (more ≡ added ++ rest)) → i + 1 ≤ length more
longer added more i below behind = subst (λ xs. i + 1 ≤ length xs) (sym behind.1) (simp length-append (omega arith))

some_is : {X : Type 0} (o : Option X) → is_some o ≡ true → IsSome o
some_is None h = absurd (cc)
some_is (Some x) h = refl

-- the listed cells are no more than the readers of the table
pub few : (table : List (Cell × List Area)) (origin : Cell) (old marks added : List Cell) → HasSpread table origin old marks added → length added ≤ length table
few table origin old marks added spread = length-le_from_keys same_cells added table spread.distinct (λ q among. some_is (lookup (same_cell q) table) (spread.dependents q among).reader)

-- ---- the end

stranger_areas : (found : Option (List Area)) (p : Cell → Bool) → is_some found ≡ false → list_any p (flat_map cells_of (unwrap_or found [])) ≡ false
stranger_areas None p h = refl
stranger_areas (Some areas) p h = cc

-- from a cell that is no reader only itself is reached
stranger_reaches : (table : List (Cell × List Area)) (origin : Cell) (n : ℕ) (q : Cell) → is_reader table q ≡ false → reaches (precedents_at table) (origin ∷ []) n q ≡ true → q ≡ origin
stranger_reaches table origin zero q stranger h = only-cell origin q h
stranger_reaches table origin (suc n) q stranger h =
    ⊎_elim (λ here. only-cell origin q here)
    (λ later. absurd (let e : true ≡ false = sym later ∙ stranger_areas (lookup (same_cell q) table) (reaches (precedents_at table) (origin ∷ []) n) stranger in cc))
    (or_cases (is_among (origin ∷ []) q) _ h)

-- where marks are closed, all from which the origin is reached are marked
pub reached-marked : (table : List (Cell × List Area)) (origin : Cell) (marks : List Cell) → IsClosedBut origin table marks
    → (is_reader table origin ≡ true → is_among marks origin ≡ true) → AreWalked table marks (origin ∷ [])
    → (n : ℕ) (q : Cell) → is_reader table q ≡ true → reaches (precedents_at table) (origin ∷ []) n q ≡ true → is_among marks q ≡ true
reached-marked table origin marks closed itself walked zero q reader h =
    let is : q ≡ origin = only-cell origin q h in
    subst (λ e. is_among marks e ≡ true) (sym is) (itself (subst (λ e. is_reader table e ≡ true) is reader))
reached-marked table origin marks closed itself walked (suc n) q reader h =
    ⊎_elim
    (λ here. at_origin (only-cell origin q here))
    (λ later.
    let found = found_among (reaches (precedents_at table) (origin ∷ []) n) (precedents_at table q) later in
    let reads : lies_in (areas_at table q) found.0 ≡ true = sym (precedents-lies_in table q found.0) ∙ found.1 in
    elim (is_reader table found.0) as (λ b. is_reader table found.0 ≡ b → is_among marks q ≡ true) [
      | true ↦ λ e. ⊎_elim at_origin (λ marked. marked) (closed found.0 q (reached-marked table origin marks closed itself walked n found.0 e found.2) reads)
      | false ↦ λ e.
          let is : found.0 ≡ origin = stranger_reaches table origin n found.0 e found.2 in
          walked origin q (the-cell origin) (subst (λ c. lies_in (areas_at table q) c ≡ true) is reads)
    ] refl)
    (or_cases (is_among (origin ∷ []) q) _ h)
  where
    at_origin : q ≡ origin → is_among marks q ≡ true
    at_origin is = subst (λ e. is_among marks e ≡ true) (sym is) (itself (subst (λ e. is_reader table e ≡ true) is reader))

closed-but : (table : List (Cell × List Area)) (origin : Cell) (marks : List Cell) → IsClosed table marks → IsClosedBut origin table marks
closed-but table origin marks closed cell reader marked reads = inr (closed cell reader marked reads)

module _ (table : List (Cell × List Area)) (origin : Cell) (old marks added : List Cell)
    (spread : HasSpread table origin old marks added) (begun : HasBegun table origin marks added) (walked : AreWalked table marks added) where
  added_marked : (q : Cell) → is_among added q ≡ true → is_among marks q ≡ true
  added_marked q h = spread.made q ∙ or_right (is_among old q) _ h

  old_marked : (q : Cell) → is_among old q ≡ true → is_among marks q ≡ true
  old_marked q h = spread.made q ∙ or_left (is_among old q) _ h

  origin_walked : AreWalked table marks (origin ∷ [])
  origin_walked c reader one reads = elim (is_reader table origin) as (λ b. is_reader table origin ≡ b → is_among marks reader ≡ true) [
    | true ↦ λ e. walked origin reader (begun.itself e) (subst (λ d. lies_in (areas_at table reader) d ≡ true) (only-cell origin c one) reads)
    | false ↦ λ e. begun.readers e c reader one reads
  ] refl

  pub end-closed : IsClosedBut origin table old → IsClosed table marks
  end-closed closed cell reader marked reads =
      ⊎_elim
      (λ before. ⊎_elim
      (λ is. subst (λ e. is_among marks e ≡ true) (sym is) (added_marked origin (begun.itself (subst (λ e. is_reader table e ≡ true) is (reads-reader table reader cell reads)))))
      (λ kept. old_marked reader kept)
      (closed cell reader before reads))
      (λ new. walked cell reader new reads)
      (or_cases (is_among old cell) (is_among added cell) (sym (spread.made cell) ∙ marked))

  pub end-all : IsClosedBut origin table old → (q : Cell) → IsDependent table origin q → is_among marks q ≡ true
  end-all closed q d =
      reached-marked table origin marks (closed-but table origin marks (end-closed closed)) (λ e. added_marked origin (begun.itself e)) origin_walked d.reaches.0 q d.reader d.reaches.1

  pub end-only : (q : Cell) → is_among marks q ≡ true → (is_among old q ≡ true) ⊎ IsDependent table origin q
  end-only q h = ⊎_elim (λ before. inl before) (λ new. inr (spread.dependents q new)) (or_cases (is_among old q) (is_among added q) (sym (spread.made q) ∙ h))

-- where the cell is marked already
pub marked-all : (table : List (Cell × List Area)) (origin : Cell) (marks : List Cell) → is_among marks origin ≡ true → IsClosedBut origin table marks
    → (q : Cell) → IsDependent table origin q → is_among marks q ≡ true
marked-all table origin marks marked closed q d =
    reached-marked table origin marks closed (λ _. marked) walked d.reaches.0 q d.reader d.reaches.1
  where
    walked : AreWalked table marks (origin ∷ [])
    walked c reader one reads =
        let is : c ≡ origin = only-cell origin c one in
        ⊎_elim (λ itself. subst (λ e. is_among marks e ≡ true) (sym itself) marked) (λ kept. kept) (closed origin reader marked (subst (λ e. lies_in (areas_at table reader) e ≡ true) is reads))

pub marked-closed : (table : List (Cell × List Area)) (origin : Cell) (marks : List Cell) → is_among marks origin ≡ true → IsClosedBut origin table marks → IsClosed table marks
marked-closed table origin marks marked closed cell reader h reads =
    ⊎_elim (λ itself. subst (λ e. is_among marks e ≡ true) (sym itself) marked) (λ kept. kept) (closed cell reader h reads)
