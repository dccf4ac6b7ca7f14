-- The order of values, and what the comparisons answer.
use Rattle.std.specs.Prelude.{ℕ, pos, Bool, false, List, []}
use Rattle.std.specs.Cmp.Lexicographic.{slice_cmp}
use Rattle.std.specs.declared.cmp.Ordering.{Ordering}
use Rattle.std.specs.Ordering.{nat_cmp, int_cmp, bool_cmp, is_eq, is_ne, is_lt, is_gt, is_le, is_ge}
use Rattle.cell_values.specs.declared.comparison.CompareOp.{CompareOp}
use Rattle.cell_values.specs.declared.comparison.CompareOp.TheVariants.{Eq, Ne, Lt, Gt, Le, Ge}
use Rattle.cell_values.specs.declared.values.Value.{Value}
use Rattle.cell_values.specs.declared.values.Value.TheVariants as values
use Rattle.cell_values.specs.Coercion.{lower_case_of}

-- texts are compared by their bytes, with no difference of case among ASCII letters
abbrev pub text_cmp : List ℕ → List ℕ → Ordering
text_cmp s t = slice_cmp nat_cmp (lower_case_of s) (lower_case_of t)

-- where the kinds of values stand: numbers before texts, texts before booleans; a Blank counts as 0
abbrev pub rank : Value → ℕ
rank (values.Num n) = 0
rank (values.Text t) = 1
rank (values.Bool b) = 2
rank (values.Error e) = 3
rank values.Blank = 0

-- the order of two values that are no errors and no Blanks
abbrev pub value_cmp : Value → Value → Ordering
value_cmp (values.Num m) (values.Num n) = int_cmp m n
value_cmp (values.Text s) (values.Text t) = text_cmp s t
value_cmp (values.Bool b) (values.Bool c) = bool_cmp b c
value_cmp a b = nat_cmp (rank a) (rank b)

-- what a value counts as beside another: a Blank is the empty text beside a text, FALSE beside a
-- boolean, and else 0
abbrev pub value_beside : Value → Value → Value
value_beside (values.Text t) values.Blank = values.Text []
value_beside (values.Bool b) values.Blank = values.Bool false
value_beside other values.Blank = values.Num (pos 0)
value_beside other v = v

-- the order of two values that are no errors
abbrev pub order_of : Value → Value → Ordering
order_of a b = value_cmp (value_beside b a) (value_beside a b)

-- whether a comparison holds of values in this order
abbrev pub holds : CompareOp → Ordering → Bool
holds Eq o = is_eq o
holds Ne o = is_ne o
holds Lt o = is_lt o
holds Gt o = is_gt o
holds Le o = is_le o
holds Ge o = is_ge o

-- what a comparison answers: the first error, or a boolean
abbrev pub comparison_of : CompareOp → Value → Value → Value
comparison_of op (values.Error e) b = values.Error e
comparison_of op a (values.Error e) = values.Error e
comparison_of op a b = values.Bool (holds op (order_of a b))
