-- An edit of one reader, followed by a mark of its cell.
use Rattle.std.proofs.Common.{◌≡◌, ℕ, zero, suc, Bool, true, false, cond, List, [], ◌∷◌, ◌⊎◌, flat_map, ⊎_elim, inl, inr, refl, ap, sym, subst, ◌∙◌}
use Rattle.std.specs.Option.{is_some, unwrap_or}
use Rattle.std.proofs.lemmas.Bool.{or_cases, or_left, or_right}
use Rattle.cell_refs.specs.declared.areas.Area.{Area}
use Rattle.cell_refs.specs.declared.grid.Cell.{Cell}
use Rattle.cell_refs.specs.Area.{cells_of, lies_in}
use Rattle.cell_refs.specs.Cell.{is_among, same_cell}
use Rattle.cell_refs.specs.Reaching.{Reaches, reaches}
use Rattle.cell_refs.proofs.PublicLaws.{found_among, same_cell_is, same_cells, some_among}
use Rattle.dep_table.specs.Table.{areas_at, is_reader, precedents_at}
use Rattle.dep_table.proofs.PublicLaws.{reads-reader}
use Rattle.stale_marks.specs.Marks.{AreMarked, ChangesOnly, IsClosed, IsClosedBut, IsDependent, KeepsMarks, LosesMark}
use Rattle.stale_marks.proofs.WalkLaws.{only-cell, the-cell}

-- a cell is the other one or it isn't
one_or_other : (q cell : Cell) → (q ≡ cell) ⊎ (same_cell q cell ≡ false)
one_or_other q cell = elim (same_cell q cell) as (λ b. same_cell q cell ≡ b → (q ≡ cell) ⊎ (same_cell q cell ≡ false)) [
  | true ↦ λ e. inl (same_cell_is q cell e)
  | false ↦ λ e. inr e
] refl

module _ (before now : List (Cell × List Area)) (cell : Cell) (only : ChangesOnly before now cell) where
  same_areas : (q : Cell) → same_cell q cell ≡ false → areas_at before q ≡ areas_at now q
  same_areas q apart = ap (λ found. unwrap_or found []) (only q apart)

  same_names : (q : Cell) → same_cell q cell ≡ false → precedents_at before q ≡ precedents_at now q
  same_names q apart = ap (λ areas. flat_map cells_of areas) (same_areas q apart)

  same_reader : (q : Cell) → same_cell q cell ≡ false → is_reader before q ≡ is_reader now q
  same_reader q apart = ap is_some (only q apart)

  -- each reader of a marked cell is marked but for that one
  pub edit-closed_but : (marks : List Cell) → IsClosed before marks → IsClosedBut cell now marks
  edit-closed_but marks closed c reader marked reads =
      ⊎_elim (λ is. inl is) (λ apart. inr (closed c reader marked (ap (λ areas. lies_in areas c) (same_areas reader apart) ∙ reads))) (one_or_other reader cell)

  -- what was reached before is reached now, or the cell is
  still_reaches : (changed : List Cell) (n : ℕ) (q : Cell) → reaches (precedents_at before) changed n q ≡ true → reaches (precedents_at now) (cell ∷ changed) n q ≡ true
  still_reaches changed zero q h = or_right (same_cell q cell) _ h
  still_reaches changed (suc n) q h =
      ⊎_elim
      (λ is. or_left _ _ (or_left (same_cell q cell) _ (subst (λ d. same_cell d cell ≡ true) (sym is) (same_cells.refl cell))))
      (λ apart. ⊎_elim
      (λ here. or_left _ _ (or_right (same_cell q cell) _ here))
      (λ later.
      let found = found_among (reaches (precedents_at before) changed n) (precedents_at before q) later in
      or_right (is_among (cell ∷ changed) q) _
      (some_among (reaches (precedents_at now) (cell ∷ changed) n) (precedents_at now q) found.0 (subst (λ cells. is_among cells found.0 ≡ true) (same_names q apart) found.1) (still_reaches changed n found.0 found.2)))
      (or_cases (is_among changed q) _ h))
      (one_or_other q cell)

  -- what is reached now is the cell, or was reached before
  reached_before : (changed : List Cell) (n : ℕ) (q : Cell) → reaches (precedents_at now) (cell ∷ changed) n q ≡ true
      → (reaches (precedents_at now) (cell ∷ []) n q ≡ true) ⊎ (reaches (precedents_at before) changed n q ≡ true)
  reached_before changed zero q h = ⊎_elim (λ is. inl (or_left _ _ is)) (λ other. inr other) (or_cases (same_cell q cell) (is_among changed q) h)
  reached_before changed (suc n) q h =
      ⊎_elim
      (λ is. inl (or_left _ _ (subst (λ d. is_among (cell ∷ []) d ≡ true) (sym is) (the-cell cell))))
      (λ apart. ⊎_elim
      (λ here. ⊎_elim (λ is. inl (or_left _ _ (or_left (same_cell q cell) false is))) (λ other. inr (or_left _ _ other)) (or_cases (same_cell q cell) (is_among changed q) here))
      (λ later.
      let found = found_among (reaches (precedents_at now) (cell ∷ changed) n) (precedents_at now q) later in
      ⊎_elim
      (λ reached. inl (or_right (is_among (cell ∷ []) q) _ (some_among (reaches (precedents_at now) (cell ∷ []) n) (precedents_at now q) found.0 found.1 reached)))
      (λ was. inr (or_right (is_among changed q) _ (some_among (reaches (precedents_at before) changed n) (precedents_at before q) found.0 (subst (λ cells. is_among cells found.0 ≡ true) (sym (same_names q apart)) found.1) was)))
      (reached_before changed n found.0 found.2))
      (or_cases (is_among (cell ∷ changed) q) _ h))
      (one_or_other q cell)

  -- more targets are reached
  more_targets : (changed : List Cell) (n : ℕ) (q : Cell) → reaches (precedents_at now) (cell ∷ []) n q ≡ true → reaches (precedents_at now) (cell ∷ changed) n q ≡ true
  more_targets changed zero q h = or_left (same_cell q cell) _ (same_as q h)
    where
      same_as : (c : Cell) → is_among (cell ∷ []) c ≡ true → same_cell c cell ≡ true
      same_as c k = subst (λ d. same_cell d cell ≡ true) (sym (only-cell cell c k)) (same_cells.refl cell)
  more_targets changed (suc n) q h =
      ⊎_elim
      (λ here. or_left _ _ (or_left (same_cell q cell) _ (subst (λ d. same_cell d cell ≡ true) (sym (only-cell cell q here)) (same_cells.refl cell))))
      (λ later.
      let found = found_among (reaches (precedents_at now) (cell ∷ []) n) (precedents_at now q) later in
      or_right (is_among (cell ∷ changed) q) _ (some_among (reaches (precedents_at now) (cell ∷ changed) n) (precedents_at now q) found.0 found.1 (more_targets changed n found.0 found.2)))
      (or_cases (is_among (cell ∷ []) q) _ h)

  pub edit-marked : (old new changed : List Cell) → AreMarked before old changed → KeepsMarks old new
      → ((q : Cell) → is_among new q ≡ true → (is_among old q ≡ true) ⊎ IsDependent now cell q)
      → ((q : Cell) → IsDependent now cell q → is_among new q ≡ true)
      → IsClosed now new → AreMarked now new (cell ∷ changed)
  edit-marked old new changed marks keeps more all closed = record {
    closed = closed;
    marked = λ q reader. (forth q reader, back q reader);
  }
    where
      forth : (q : Cell) → is_reader now q ≡ true → is_among new q ≡ true → Reaches (precedents_at now) (cell ∷ changed) q
      forth q reader h =
          ⊎_elim
          (λ is. (0, or_left (same_cell q cell) _ (subst (λ d. same_cell d cell ≡ true) (sym is) (same_cells.refl cell))))
          (λ apart. ⊎_elim
          (λ was. let r = (marks.marked q (same_reader q apart ∙ reader)).0 was in (r.0, still_reaches changed r.0 q r.1))
          (λ d. (d.reaches.0, more_targets changed d.reaches.0 q d.reaches.1))
          (more q h))
          (one_or_other q cell)

      back : (q : Cell) → is_reader now q ≡ true → Reaches (precedents_at now) (cell ∷ changed) q → is_among new q ≡ true
      back q reader r =
          ⊎_elim
          (λ is. all q (record { reader = reader; reaches = (0, subst (λ d. is_among (cell ∷ []) d ≡ true) (sym is) (the-cell cell)) }))
          (λ apart. ⊎_elim
          (λ now'. all q (record { reader = reader; reaches = (r.0, now') }))
          (λ was. keeps q ((marks.marked q (same_reader q apart ∙ reader)).1 (r.0, was)))
          (reached_before changed r.0 q r.1))
          (one_or_other q cell)

false_not_true : (b : Bool) → b ≡ true → b ≡ false → ⊥
false_not_true b h k = let e : true ≡ false = sym h ∙ k in cc

kept_apart : (b m : Bool) → b ≡ false → m ≡ true → cond b false m ≡ true
kept_apart true m h k = cc
kept_apart false m h k = k

was_there : (b m : Bool) → cond b false m ≡ true → m ≡ true
was_there true m h = cc
was_there false m h = h

-- the mark of a cell that is no reader can go
pub unmarked-constant : (table : List (Cell × List Area)) (cell : Cell) (old new changed : List Cell) → is_reader table cell ≡ false → AreMarked table old changed
    → LosesMark old new cell → AreMarked table new changed
unmarked-constant table cell old new changed stranger marks loses = record {
  closed = λ c reader h reads. keeps reader (reads-reader table reader c reads) (marks.closed c reader (was c h) reads);
  marked = λ q reader. (λ h. (marks.marked q reader).0 (was q h), λ r. keeps q reader ((marks.marked q reader).1 r));
}
  where
    was : (q : Cell) → is_among new q ≡ true → is_among old q ≡ true
    was q h = was_there (same_cell cell q) (is_among old q) (sym (loses q) ∙ h)

    apart : (q : Cell) → is_reader table q ≡ true → same_cell cell q ≡ false
    apart q reader = elim (same_cell cell q) as (λ b. same_cell cell q ≡ b → b ≡ false) [
      | true ↦ λ same. absurd (false_not_true (is_reader table q) reader (subst (λ d. is_reader table d ≡ false) (same_cell_is cell q same) stranger))
      | false ↦ λ _. refl
    ] refl

    keeps : (q : Cell) → is_reader table q ≡ true → is_among old q ≡ true → is_among new q ≡ true
    keeps q reader h = loses q ∙ kept_apart (same_cell cell q) (is_among old q) (apart q reader) h
