-- The order of cells, by whether one is less than another.
use Rattle.std.proofs.Common.{◌≡◌, Bool, true, false, refl, ap, sym, ◌∙◌}
use Rattle.std.specs.declared.cmp.Ordering.{Ordering}
use Rattle.std.specs.declared.cmp.Ordering.TheVariants.{Less, Equal, Greater}
use Rattle.std.specs.Ordering.{is_lt, is_gt, is_eq, ordering_reverse}
use Rattle.std.specs.Cmp.{upto}
use Rattle.cell_refs.specs.declared.grid.Cell.{Cell}
use Rattle.cell_refs.specs.Cell.{cell_cmp, same_cell}
use Rattle.cell_refs.proofs.PublicLaws.{cells_total}
use Rattle.cell_store.specs.Gathering.{is_less}

-- an answer that is turned round is less where it was greater
reversed : (o : Ordering) → is_lt (ordering_reverse o) ≡ is_gt o
reversed Less = refl
reversed Equal = refl
reversed Greater = refl

-- where one test's failing leads to another's, the other's passing leads to the one's
less_or_not : (a b : Bool) → (a ≡ false → b ≡ false) → b ≡ true → a ≡ true
less_or_not true b leads h = refl
less_or_not false b leads h = let none : b ≡ false = leads refl in cc

-- that one cell is less than another is that the other is greater
pub turned : (a b : Cell) → is_less a b ≡ is_gt (cell_cmp b a)
turned a b = ap is_lt (cells_total.antisymm a b) ∙ reversed (cell_cmp b a)

-- a cell that isn't less than one that isn't less than a third isn't less than the third
pub not_less-trans : (a b c : Cell) → is_less b a ≡ false → is_less c b ≡ false → is_less c a ≡ false
not_less-trans a b c first second = turned c a ∙ upto cells_total a b c (sym (turned b a) ∙ first) (sym (turned c b) ∙ second)

-- what is less than a cell is less than each that isn't less than that cell
pub less-upto : (a b c : Cell) → is_less a b ≡ true → is_less c b ≡ false → is_less a c ≡ true
less-upto a b c less upto = less_or_not (is_less a c) (is_less a b) (λ not. not_less-trans b c a upto not) less

-- no answer is less and greater
one_way : (o : Ordering) → is_lt o ≡ true → is_gt o ≡ false
one_way Less h = refl
one_way Equal h = cc
one_way Greater h = cc

-- of two cells one alone is less than the other
pub less-one_way : (a b : Cell) → is_less a b ≡ true → is_less b a ≡ false
less-one_way a b less = turned b a ∙ one_way (cell_cmp a b) less

-- an answer that is neither equal nor greater is less
apart_less : (o : Ordering) → is_eq o ≡ false → is_gt o ≡ false → is_lt o ≡ true
apart_less Less h k = refl
apart_less Equal h k = cc
apart_less Greater h k = cc

-- a cell that isn't less than another and isn't that one is greater
pub apart-less : (a b : Cell) → same_cell a b ≡ false → is_less b a ≡ false → is_less a b ≡ true
apart-less a b apart upto = apart_less (cell_cmp a b) apart (sym (turned b a) ∙ upto)

-- a lesser cell is another
pub less-differs : (a b : Cell) → is_less a b ≡ true → same_cell a b ≡ false
less-differs a b h = other (cell_cmp a b) h
  where
    other : (o : Ordering) → is_lt o ≡ true → is_eq o ≡ false
    other Less h = refl
    other Equal h = cc
    other Greater h = cc

-- of two cells that aren't one, that one isn't less than the other means that the other is less
pub apart-greater : (a b : Cell) → same_cell a b ≡ false → is_less a b ≡ false → is_less b a ≡ true
apart-greater a b apart upto = turned b a ∙ greater (cell_cmp a b) apart upto
  where
    greater : (o : Ordering) → is_eq o ≡ false → is_lt o ≡ false → is_gt o ≡ true
    greater Less h k = cc
    greater Equal h k = cc
    greater Greater h k = refl

-- no cell is less than itself
pub less-not_itself : (a : Cell) → is_less a a ≡ false
less-not_itself a = by_test (is_less a a) refl
  where
    by_test : (b : Bool) → is_less a a ≡ b → b ≡ false
    by_test true less = let no : is_less a a ≡ false = less-one_way a a less in cc
    by_test false not = refl
