-- What cells mean: the meaning of a cell that isn't circular is that of its content over the meanings of the cells
-- that it names. What holds of each cell that isn't circular where it holds of the cells that it names, holds of each.
use Rattle.std.proofs.Common.{◌≡◌, ℕ, zero, suc, ◌+◌, Bool, true, false, cond, ◌||◌, List, [], ◌∷◌, Option, Some, None, refl, ap, sym, subst, ◌∙◌, arith}
use Rattle.std.specs.List.{list_any, AllByRecursion}
use Rattle.cell_refs.specs.declared.grid.Cell.{Cell}
use Rattle.cell_values.specs.declared.values.Value.TheVariants.{Blank}
use Rattle.formula_parse.specs.declared.nodes.Node.{Node}
use Rattle.formula_parse.specs.Tree.{precedents}
use Rattle.workbook.specs.declared.contents.Content.{Content}
use Rattle.workbook.specs.declared.contents.Content.TheVariants as contents
use Rattle.workbook.specs.Book.{IsInOrder, content_at, has_formula, content_precedents, cell_precedents, formula_count}
use Rattle.workbook.specs.Circular.{walks_on, is_circular}
use Rattle.workbook.specs.Evaluation.{answer_of}
use Rattle.workbook.specs.Meaning.{Setting, Meaning, Val, Circ, Open, world_at, meaning_of_answer, value_in, is_open, content_meaning, meaning_within, meaning}
use Rattle.workbook.proofs.Evaluations.{evaluated_alike}
use Rattle.workbook.proofs.Walking.{walks-shorter, circular-walks, circular-names}
use Rattle.workbook.proofs.Reaching.{or_false}

-- two tests that agree on each of a list
pub any_each : {X : Type 0} (p q : X → Bool) (xs : List X) → AllByRecursion (λ x. p x ≡ q x) xs → list_any p xs ≡ list_any q xs
any_each p q [] each = refl
any_each p q (x ∷ xs) each = ap (λ b. b || list_any p xs) each.0 ∙ ap (λ b. q x || b) (any_each p q xs each.1)

-- what is said of each of a list in one form, in another
pub each_leads : {X : Type 0} (P Q : X → Type 0) → ((x : X) → P x → Q x) → (xs : List X) → AllByRecursion P xs → AllByRecursion Q xs
each_leads P Q leads [] each = tt
each_leads P Q leads (x ∷ xs) each = (leads x each.0, each_leads P Q leads xs each.1)

-- the meaning of a formula depends on the meanings of the named cells alone
pub formula_alike : (setting : Setting) (cell : Cell) (f g : Cell → Meaning) (tree : Node) → AllByRecursion (λ d. f d ≡ g d) (precedents tree cell.sheet)
    → content_meaning setting cell f (Some (contents.Formula tree)) ≡ content_meaning setting cell g (Some (contents.Formula tree))
formula_alike setting cell f g tree each =
    let waits = any_each (λ d. is_open (f d)) (λ d. is_open (g d)) (precedents tree cell.sheet) (each_leads _ _ (λ d h. ap is_open h) (precedents tree cell.sheet) each) in
    let inputs = evaluated_alike (world_at setting cell (λ d. value_in (f d))) (λ d. value_in (f d)) (λ d. value_in (g d)) tree (each_leads _ _ (λ d h. ap value_in h) (precedents tree cell.sheet) each) in
    ap (λ b. cond b Open (meaning_of_answer (answer_of (world_at setting cell (λ d. value_in (f d))) tree))) waits
    ∙ ap (λ a. cond (list_any (λ d. is_open (g d)) (precedents tree cell.sheet)) Open (meaning_of_answer a)) inputs

pub content_alike : (setting : Setting) (cell : Cell) (content : Option Content) (f g : Cell → Meaning) → AllByRecursion (λ d. f d ≡ g d) (content_precedents content cell.sheet)
    → content_meaning setting cell f content ≡ content_meaning setting cell g content
content_alike setting cell None f g each = refl
content_alike setting cell (Some (contents.Num n)) f g each = refl
content_alike setting cell (Some (contents.Text t)) f g each = refl
content_alike setting cell (Some (contents.Bool b)) f g each = refl
content_alike setting cell (Some (contents.Error e)) f g each = refl
content_alike setting cell (Some (contents.Formula tree)) f g each = formula_alike setting cell f g tree each

pub constant_alike : (setting : Setting) (cell : Cell) (content : Option Content) (f g : Cell → Meaning) → has_formula content ≡ false → content_meaning setting cell f content ≡ content_meaning setting cell g content
constant_alike setting cell None f g h = refl
constant_alike setting cell (Some (contents.Num n)) f g h = refl
constant_alike setting cell (Some (contents.Text t)) f g h = refl
constant_alike setting cell (Some (contents.Bool b)) f g h = refl
constant_alike setting cell (Some (contents.Error e)) f g h = refl
constant_alike setting cell (Some (contents.Formula tree)) f g h = cc

-- no element passes
pub none_where : {X : Type 0} (p : X → Bool) (Q : X → Type 0) → ((x : X) → p x ≡ false → Q x) → (xs : List X) → list_any p xs ≡ false → AllByRecursion Q xs
none_where p Q leads [] h = tt
none_where p Q leads (x ∷ xs) h = let both = or_false (p x) (list_any p xs) h in (leads x both.0, none_where p Q leads xs both.1)

pub false_falls : (a b : Bool) → (b ≡ true → a ≡ true) → a ≡ false → b ≡ false
false_falls a true leads h = sym (leads refl) ∙ h
false_falls a false leads h = refl

module _ (setting : Setting) (book : List (Cell × Content)) where
  -- a cell without a walk of n steps has its meaning within n steps
  pub meaning-settles : (n : ℕ) (c : Cell) → walks_on book n c ≡ false → meaning_within setting book (suc n) c ≡ meaning_within setting book n c
  meaning-settles zero c h = constant_alike setting c (content_at book c) (meaning_within setting book zero) (λ d. Val Blank) h
  meaning-settles (suc n) c h = content_alike setting c (content_at book c) (meaning_within setting book (suc n)) (meaning_within setting book n) (none_where (walks_on book n) _ (meaning-settles n) (cell_precedents book c) h)

  meaning-stays : (n k : ℕ) (c : Cell) → walks_on book n c ≡ false → (walks_on book (k + n) c ≡ false) × (meaning_within setting book (k + n) c ≡ meaning_within setting book n c)
  meaning-stays n zero c h = subst (λ m. (walks_on book m c ≡ false) × (meaning_within setting book m c ≡ meaning_within setting book n c)) zeroed (h, refl)
    where
      zeroed : n ≡ 0 + n
      zeroed = omega arith
  meaning-stays n (suc k) c h =
      let before = meaning-stays n k c h in
      subst (λ m. (walks_on book m c ≡ false) × (meaning_within setting book m c ≡ meaning_within setting book n c)) stepped
      (false_falls _ _ (walks-shorter book (k + n) c) before.0, meaning-settles (k + n) c before.0 ∙ before.1)
    where
      stepped : suc (k + n) ≡ suc k + n
      stepped = omega arith

  -- two numbers of steps without such walks give one meaning
  meanings-agree : (m n : ℕ) (c : Cell) → walks_on book m c ≡ false → walks_on book n c ≡ false → meaning_within setting book m c ≡ meaning_within setting book n c
  meanings-agree m n c no_m no_n =
      sym ((meaning-stays m n c no_m).1) ∙ ap (λ k. meaning_within setting book k c) swapped ∙ (meaning-stays n m c no_n).1
    where
      swapped : n + m ≡ m + n
      swapped = omega arith

  pub shows_circle : (c : Cell) → is_circular book c ≡ true → meaning setting book c ≡ Circ
  shows_circle c h = ap (λ b. cond b Circ (meaning_within setting book (formula_count book) c)) h

  pub shows_within : (c : Cell) → is_circular book c ≡ false → meaning setting book c ≡ meaning_within setting book (formula_count book) c
  shows_within c h = ap (λ b. cond b Circ (meaning_within setting book (formula_count book) c)) h

  -- the meaning of a cell that isn't circular is that of its content over the meanings of the cells that it names
  pub meaning-unfolds : IsInOrder book → (c : Cell) → is_circular book c ≡ false → meaning setting book c ≡ content_meaning setting c (meaning setting book) (content_at book c)
  meaning-unfolds ordered c h =
      shows_within c h
      ∙ sym (meaning-settles (formula_count book) c h)
      ∙ sym (content_alike setting c (content_at book c) (meaning setting book) (meaning_within setting book (formula_count book))
      (none_where (is_circular book) _ shows_within (cell_precedents book c) (sym (circular-names book ordered c) ∙ h)))

-- a constant names no cell
constant_names : (P : Cell → Type 0) (content : Option Content) (home : ℕ) → has_formula content ≡ false → AllByRecursion P (content_precedents content home)
constant_names P None home h = tt
constant_names P (Some (contents.Num n)) home h = tt
constant_names P (Some (contents.Text t)) home h = tt
constant_names P (Some (contents.Bool b)) home h = tt
constant_names P (Some (contents.Error e)) home h = tt
constant_names P (Some (contents.Formula tree)) home h = cc

module _
    (book : List (Cell × Content))
    (ordered : IsInOrder book)
    (P : Cell → Type 0)
    (step : (cell : Cell) → is_circular book cell ≡ false → AllByRecursion P (cell_precedents book cell) → P cell)
  where
    -- a cell without a walk of n steps
    without_walk : (n : ℕ) (cell : Cell) → walks_on book n cell ≡ false → P cell
    without_walk zero cell h =
        step cell (false_falls _ _ (circular-walks book ordered 0 cell) h) (constant_names P (content_at book cell) cell.sheet h)
    without_walk (suc n) cell h =
        step cell (false_falls _ _ (circular-walks book ordered (suc n) cell) h) (none_where (walks_on book n) P (without_walk n) (cell_precedents book cell) h)

    -- an induction along the cells that cells name, over those that aren't circular
    pub along_precedents : (cell : Cell) → is_circular book cell ≡ false → P cell
    along_precedents = without_walk (formula_count book)
