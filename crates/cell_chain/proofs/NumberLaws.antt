-- Cells with a number each: the map and the slots say the same after each call.
use Rattle.std.proofs.Common.{◌≡◌, ◌≢◌, ℕ, Bool, true, false, cond, Option, None, Some, List, [], refl, ap, sym, subst, ◌∙◌}
use Rattle.std.specs.BTreeMap.{BTreeMap, IsOrdered, get}
use Rattle.std.specs.Option.{is_some, unwrap_or}
use Rattle.std.specs.Prelude.{nat_eq}
use Rattle.cell_refs.specs.declared.grid.Cell.{Cell}
use Rattle.cell_refs.specs.Cell.{cell_cmp, same_cell}
use Rattle.cell_refs.proofs.PublicLaws.{same_cell_is, same_cells}
use Rattle.calc_chain.proofs.PublicLaws.{itself, same_number}
use Rattle.cell_chain.specs.Numbering.{AreInverse, IsOneToOne, cell_at, cell_of, is_used}

some_is : {X : Type 0} {a b : X} → Some a ≡ Some b → a ≡ b
some_is h = cc

no_some : {X : Type 0} {a : X} → None ≡ Some a → ⊥
no_some h = absurd (cc)

-- by the test of two cells, or of two numbers
by_cells : (P : Type 0) (a b : Cell) → (a ≡ b → P) → (same_cell a b ≡ false → P) → P
by_cells P a b same apart = elim (same_cell a b) as (λ t. same_cell a b ≡ t → P) [
  | true ↦ λ e. same (same_cell_is a b e)
  | false ↦ λ e. apart e
] refl

pub by_numbers : (P : Type 0) (x y : ℕ) → (x ≡ y → P) → (x ≢ y → P) → P
by_numbers P x y same apart = elim (nat_eq x y) as (λ t. nat_eq x y ≡ t → P) [
  | true ↦ λ e. same (same_number x y e)
  | false ↦ λ e. apart (λ is. false_true (nat_eq x y) e (ap (nat_eq x) (sym is) ∙ itself x))
] refl
  where
    false_true : (b : Bool) → b ≡ false → b ≡ true → ⊥
    false_true b h k = let e : true ≡ false = sym k ∙ h in cc

-- ---- a number and its cell

pub at_cell : (slots : List (Option Cell)) (number : ℕ) (cell : Cell) → cell_of slots number ≡ Some cell → cell_at slots number ≡ cell
at_cell slots number cell h = ap (λ o. unwrap_or o (record { sheet = 0; row = 0; col = 0 })) h

pub used_at : (slots : List (Option Cell)) (number : ℕ) (cell : Cell) → cell_of slots number ≡ Some cell → is_used slots number ≡ true
used_at slots number cell h = ap is_some h

pub used_cell : (slots : List (Option Cell)) (number : ℕ) → is_used slots number ≡ true → cell_of slots number ≡ Some (cell_at slots number)
used_cell slots number used = whole (cell_of slots number) used
  where
    whole : (o : Option Cell) → is_some o ≡ true → o ≡ Some (unwrap_or o (record { sheet = 0; row = 0; col = 0 }))
    whole None h = cc
    whole (Some cell) h = refl

-- ---- the map and the slots

pub one_to_one : (numbers : BTreeMap Cell ℕ) (slots : List (Option Cell)) → AreInverse numbers slots → IsOneToOne slots
one_to_one numbers slots inverse x y cell first second = some_is (sym (inverse.number cell x first) ∙ inverse.number cell y second)

-- the cells of the numbers but one
module _ (before after : List (Option Cell)) (number : ℕ) where
  pub record IsSetAt (slot : Option Cell) : Type 0 where
    pub changed : cell_of after number ≡ slot
    pub others : (other : ℕ) → other ≢ number → cell_of after other ≡ cell_of before other

pub inverse-added : (old new : BTreeMap Cell ℕ) (before after : List (Option Cell)) (cell : Cell) (number : ℕ)
    → AreInverse old before → ((other : ℕ) → cell_of before other ≢ Some cell) → cell_of before number ≡ None
    → IsOrdered cell_cmp new → ((q : Cell) → get cell_cmp new q ≡ cond (same_cell cell q) (Some number) (get cell_cmp old q))
    → IsSetAt before after number (Some cell) → AreInverse new after
inverse-added old new before after cell number inverse absent free ordered gives sets = record {
  ordered = ordered;
  cell = λ q m h. by_cells (cell_of after m ≡ Some q) cell q
      (λ same.
      let is : number ≡ m = some_is (sym (gives q ∙ ap (λ b. cond b (Some number) (get cell_cmp old q)) (here q same)) ∙ h) in
      ap (cell_of after) (sym is) ∙ sets.changed ∙ ap Some same)
      (λ apart.
      let there : cell_of before m ≡ Some q = inverse.cell q m (sym (gives q ∙ ap (λ b. cond b (Some number) (get cell_cmp old q)) apart) ∙ h) in
      sets.others m (λ is. no_some (sym free ∙ ap (cell_of before) (sym is) ∙ there)) ∙ there);
  number = λ q m h. by_numbers (get cell_cmp new q ≡ Some m) m number
      (λ is.
      let same : cell ≡ q = some_is (sym sets.changed ∙ ap (cell_of after) (sym is) ∙ h) in
      gives q ∙ ap (λ b. cond b (Some number) (get cell_cmp old q)) (here q same) ∙ ap Some (sym is))
      (λ other.
      let there : cell_of before m ≡ Some q = sym (sets.others m other) ∙ h in
      gives q ∙ ap (λ b. cond b (Some number) (get cell_cmp old q)) (apart q (λ same. absent m (there ∙ ap Some (sym same)))) ∙ inverse.number q m there);
}
  where
    here : (q : Cell) → cell ≡ q → same_cell cell q ≡ true
    here q same = subst (λ c. same_cell cell c ≡ true) same (same_cells.refl cell)

    apart : (q : Cell) → (cell ≡ q → ⊥) → same_cell cell q ≡ false
    apart q differ = by_cells (same_cell cell q ≡ false) cell q (λ same. absurd (differ same)) (λ e. e)

pub inverse-removed : (old new : BTreeMap Cell ℕ) (before after : List (Option Cell)) (cell : Cell) (number : ℕ)
    → AreInverse old before → get cell_cmp old cell ≡ Some number
    → IsOrdered cell_cmp new → ((q : Cell) → get cell_cmp new q ≡ cond (same_cell cell q) None (get cell_cmp old q))
    → IsSetAt before after number None → AreInverse new after
inverse-removed old new before after cell number inverse found ordered gives sets = record {
  ordered = ordered;
  cell = λ q m h. by_cells (cell_of after m ≡ Some q) cell q
      (λ same. absurd (no_some (sym (gives q ∙ ap (λ b. cond b None (get cell_cmp old q)) (here q same)) ∙ h)))
      (λ apart.
      let there : cell_of before m ≡ Some q = inverse.cell q m (sym (gives q ∙ ap (λ b. cond b None (get cell_cmp old q)) apart) ∙ h) in
      sets.others m (λ is. differ (same_cell cell q) apart (here q (some_is (sym (inverse.cell cell number found) ∙ ap (cell_of before) (sym is) ∙ there)))) ∙ there);
  number = λ q m h. by_numbers (get cell_cmp new q ≡ Some m) m number
      (λ is. absurd (no_some (sym sets.changed ∙ ap (cell_of after) (sym is) ∙ h)))
      (λ other.
      let there : cell_of before m ≡ Some q = sym (sets.others m other) ∙ h in
      let mine : get cell_cmp old q ≡ Some m = inverse.number q m there in
      gives q
      ∙ ap (λ b. cond b None (get cell_cmp old q)) (apart_by q (λ same. other (some_is (sym mine ∙ ap (get cell_cmp old) (sym same) ∙ found))))
      ∙ mine);
}
  where
    here : (q : Cell) → cell ≡ q → same_cell cell q ≡ true
    here q same = subst (λ c. same_cell cell c ≡ true) same (same_cells.refl cell)

    apart_by : (q : Cell) → (cell ≡ q → ⊥) → same_cell cell q ≡ false
    apart_by q unlike = by_cells (same_cell cell q ≡ false) cell q (λ same. absurd (unlike same)) (λ e. e)

    differ : (b : Bool) → b ≡ false → b ≡ true → ⊥
    differ b h k = let e : true ≡ false = sym k ∙ h in cc

-- ---- no cell with two numbers

pub one_to_one-same : (slots slots' : List (Option Cell)) → slots' ≡ slots → IsOneToOne slots → IsOneToOne slots'
one_to_one-same slots slots' same once = subst IsOneToOne (sym same) once

pub one_to_one-none : (slots : List (Option Cell)) → slots ≡ [] → IsOneToOne slots
one_to_one-none slots empty x y cell first second = absurd (no_some (sym (none_in x) ∙ ap (λ xs. cell_of xs x) (sym empty) ∙ first))
  where
    none_in : (number : ℕ) → cell_of [] number ≡ None
    none_in number = refl
