-- Values that are no errors and no Blanks are in a total preorder, in which two values are level exactly
-- where they are equal up to the case of ASCII letters.
use Rattle.std.proofs.Common.{◌≡◌, ℕ, ℤ, pos, Bool, true, false, List, [], refl, sym, ap, ◌∙◌, Ordering}
use Rattle.std.specs.declared.cmp.Ordering.TheVariants.{Less, Equal, Greater}
use Rattle.std.specs.Cmp.{IsTotalOrder}
use Rattle.std.specs.Ordering.{nat_cmp, int_cmp, bool_cmp, on, then_cmp, ordering_then, ordering_reverse}
use Rattle.std.proofs.lemmas.Cmp.{nat_cmp_total, int_cmp_total, nat_list_cmp_total, on_total, then_total, tied_itself}
use Rattle.std.specs.Cmp.{bool_cmp_total}
use Rattle.std.specs.Cmp.Lexicographic.{slice_cmp}
use Rattle.std.proofs.lemmas.Map.Lookups.{exact_signed, exact_bytes}
use Rattle.cell_values.specs.declared.values.Value.{Value}
use Rattle.cell_values.specs.declared.values.Value.TheVariants.{Num, Text, Bool as Truth, Error, Blank}
use Rattle.cell_values.specs.Coercion.{lower_case_of}
use Rattle.cell_values.specs.Comparison.{text_cmp, rank, value_cmp}

-- neither an error nor a Blank
abbrev pub IsPlain : Value → Type 0
IsPlain (Num n) = Unit {0}
IsPlain (Text t) = Unit {0}
IsPlain (Truth b) = Unit {0}
IsPlain (Error e) = ⊥
IsPlain Blank = ⊥

-- the laws of a total preorder, on the values that have P
pub record IsTotalPreorder (P : Value → Type 0) (cmp : Value → Value → Ordering) : Type 0 where
  pub antisymm : (a b : Value) → P a → P b → cmp a b ≡ ordering_reverse (cmp b a)
  pub trans : (a b c : Value) → P a → P b → P c → cmp a b ≡ Less → cmp b c ≡ Less → cmp a c ≡ Less
  pub congr : (a b c : Value) → P a → P b → P c → cmp a b ≡ Equal → cmp a c ≡ cmp b c

number_part : Value → ℤ
number_part (Num n) = n
number_part (Text t) = pos 0
number_part (Truth b) = pos 0
number_part (Error e) = pos 0
number_part Blank = pos 0

text_part : Value → List ℕ
text_part (Num n) = []
text_part (Text t) = lower_case_of t
text_part (Truth b) = []
text_part (Error e) = []
text_part Blank = []

truth_part : Value → Bool
truth_part (Num n) = false
truth_part (Text t) = false
truth_part (Truth b) = b
truth_part (Error e) = false
truth_part Blank = false

-- by kind, then by number, then by text, then by boolean
by_parts : Value → Value → Ordering
by_parts = then_cmp (on rank nat_cmp) (then_cmp (on number_part int_cmp) (then_cmp (on text_part (slice_cmp nat_cmp)) (on truth_part bool_cmp)))

parts_total : IsTotalOrder by_parts
unfolding by_parts
parts_total = then_total (on_total rank nat_cmp_total) (then_total (on_total number_part int_cmp_total) (then_total (on_total text_part nat_list_cmp_total) (on_total truth_part bool_cmp_total)))

then_level : (o : Ordering) → ordering_then o Equal ≡ o
then_level Less = refl
then_level Equal = refl
then_level Greater = refl

by_parts_is : (a b : Value) → IsPlain a → IsPlain b → value_cmp a b ≡ by_parts a b
unfolding by_parts number_part text_part truth_part
by_parts_is (Num m) (Num n) p q = sym (then_level (int_cmp m n))
by_parts_is (Num m) (Text t) p q = refl
by_parts_is (Num m) (Truth c) p q = refl
by_parts_is (Text s) (Num n) p q = refl
by_parts_is (Text s) (Text t) p q = sym (then_level (text_cmp s t))
by_parts_is (Text s) (Truth c) p q = refl
by_parts_is (Truth b) (Num n) p q = refl
by_parts_is (Truth b) (Text t) p q = refl
by_parts_is (Truth b) (Truth c) p q = refl
by_parts_is (Error e) b p q = absurd p
by_parts_is Blank b p q = absurd p
by_parts_is (Num m) (Error e) p q = absurd q
by_parts_is (Num m) Blank p q = absurd q
by_parts_is (Text s) (Error e) p q = absurd q
by_parts_is (Text s) Blank p q = absurd q
by_parts_is (Truth b) (Error e) p q = absurd q
by_parts_is (Truth b) Blank p q = absurd q

pub preorder : IsTotalPreorder IsPlain value_cmp
preorder = record {
  antisymm = λ a b p q. by_parts_is a b p q ∙ parts_total.antisymm a b ∙ ap ordering_reverse (sym (by_parts_is b a q p));
  trans = λ a b c p q r e f. by_parts_is a c p r ∙ parts_total.trans a b c (sym (by_parts_is a b p q) ∙ e) (sym (by_parts_is b c q r) ∙ f);
  congr = λ a b c p q r e. by_parts_is a c p r ∙ parts_total.congr a b c (sym (by_parts_is a b p q) ∙ e) ∙ sym (by_parts_is b c q r);
}

-- a value with the ASCII letters of its text in lower case
abbrev pub lowered : Value → Value
lowered (Num n) = Num n
lowered (Text t) = Text (lower_case_of t)
lowered (Truth b) = Truth b
lowered (Error e) = Error e
lowered Blank = Blank

-- values that are level are equal up to the case of ASCII letters
pub equal_where_level : (a b : Value) → IsPlain a → IsPlain b → value_cmp a b ≡ Equal → lowered a ≡ lowered b
equal_where_level (Num m) (Num n) p q e = ap Num (exact_signed m n e)
equal_where_level (Text s) (Text t) p q e = ap Text (exact_bytes (lower_case_of s) (lower_case_of t) e)
equal_where_level (Truth true) (Truth true) p q e = refl
equal_where_level (Truth true) (Truth false) p q e = absurd (cc)
equal_where_level (Truth false) (Truth true) p q e = absurd (cc)
equal_where_level (Truth false) (Truth false) p q e = refl
equal_where_level (Num m) (Text t) p q e = absurd (cc)
equal_where_level (Num m) (Truth c) p q e = absurd (cc)
equal_where_level (Text s) (Num n) p q e = absurd (cc)
equal_where_level (Text s) (Truth c) p q e = absurd (cc)
equal_where_level (Truth b) (Num n) p q e = absurd (cc)
equal_where_level (Truth b) (Text t) p q e = absurd (cc)
equal_where_level (Error e) b p q h = absurd p
equal_where_level Blank b p q h = absurd p
equal_where_level (Num m) (Error e) p q h = absurd q
equal_where_level (Num m) Blank p q h = absurd q
equal_where_level (Text s) (Error e) p q h = absurd q
equal_where_level (Text s) Blank p q h = absurd q
equal_where_level (Truth b) (Error e) p q h = absurd q
equal_where_level (Truth b) Blank p q h = absurd q

-- and the other way
pub level_where_equal : (a b : Value) → IsPlain a → IsPlain b → lowered a ≡ lowered b → value_cmp a b ≡ Equal
level_where_equal (Num m) (Num n) p q e =
    let same : m ≡ n = cc in
    ap (λ k. int_cmp m k) (sym same) ∙ tied_itself int_cmp_total m
level_where_equal (Text s) (Text t) p q e =
    let same : lower_case_of s ≡ lower_case_of t = cc in
    ap (λ k. slice_cmp nat_cmp (lower_case_of s) k) (sym same) ∙ tied_itself nat_list_cmp_total (lower_case_of s)
level_where_equal (Truth true) (Truth true) p q e = refl
level_where_equal (Truth true) (Truth false) p q e = absurd (cc)
level_where_equal (Truth false) (Truth true) p q e = absurd (cc)
level_where_equal (Truth false) (Truth false) p q e = refl
level_where_equal (Num m) (Text t) p q e = absurd (cc)
level_where_equal (Num m) (Truth c) p q e = absurd (cc)
level_where_equal (Text s) (Num n) p q e = absurd (cc)
level_where_equal (Text s) (Truth c) p q e = absurd (cc)
level_where_equal (Truth b) (Num n) p q e = absurd (cc)
level_where_equal (Truth b) (Text t) p q e = absurd (cc)
level_where_equal (Error e) b p q h = absurd p
level_where_equal Blank b p q h = absurd p
level_where_equal (Num m) (Error e) p q h = absurd q
level_where_equal (Num m) Blank p q h = absurd q
level_where_equal (Text s) (Error e) p q h = absurd q
level_where_equal (Text s) Blank p q h = absurd q
level_where_equal (Truth b) (Error e) p q h = absurd q
level_where_equal (Truth b) Blank p q h = absurd q
