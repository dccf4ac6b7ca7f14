-- Values that are alike are one.
use Rattle.std.proofs.Common.{◌≡◌, ℕ, ◌==◌, Bool, true, false, cond, refl, ap, sym, ◌∙◌}
use Rattle.std.specs.Bool.{beq}
use Rattle.std.proofs.lemmas.Bool.{eqb-true}
use Rattle.std.proofs.lemmas.Bool.Decides.{Decides-int_eq}
use Rattle.std.proofs.lemmas.Slice.Eq.{bytes_eq-Decides}
use Rattle.cell_values.specs.declared.errors.ErrorKind.{ErrorKind}
use Rattle.cell_values.specs.declared.errors.ErrorKind.TheVariants as errors
use Rattle.cell_values.specs.declared.values.Value.{Value}
use Rattle.cell_values.specs.declared.values.Value.TheVariants as values
use Rattle.cell_values.specs.Error.{error_code}
use Rattle.cell_values.specs.SameValue.{same_value}

-- the error of a code
abbrev kind_of : ℕ → ErrorKind
kind_of n = cond (n == 0) errors.Null (cond (n == 7) errors.Div0 (cond (n == 15) errors.Value (cond (n == 23) errors.Ref (cond (n == 29) errors.Name (cond (n == 36) errors.Num errors.Na)))))

kind_again : (e : ErrorKind) → kind_of (error_code e) ≡ e
kind_again errors.Null = refl
kind_again errors.Div0 = refl
kind_again errors.Value = refl
kind_again errors.Ref = refl
kind_again errors.Name = refl
kind_again errors.Num = refl
kind_again errors.Na = refl

same_kind : (d e : ErrorKind) → (error_code d == error_code e) ≡ true → d ≡ e
same_kind d e h = sym (kind_again d) ∙ ap kind_of (eqb-true (error_code d) (error_code e) h) ∙ kind_again e

same_truth : (a b : Bool) → beq a b ≡ true → a ≡ b
same_truth true true h = refl
same_truth true false h = cc
same_truth false true h = cc
same_truth false false h = refl

-- values that are alike are one
pub same_value_is : (v w : Value) → same_value v w ≡ true → v ≡ w
same_value_is (values.Num m) (values.Num n) h = ap values.Num ((Decides-int_eq m n).0 h)
same_value_is (values.Text t) (values.Text u) h = ap values.Text ((bytes_eq-Decides t u).0 h)
same_value_is (values.Bool b) (values.Bool c) h = ap values.Bool (same_truth b c h)
same_value_is (values.Error d) (values.Error e) h = ap values.Error (same_kind d e h)
same_value_is values.Blank values.Blank h = refl
same_value_is v w h = cc
