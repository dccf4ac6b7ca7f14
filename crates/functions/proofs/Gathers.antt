-- What is gathered from a list of results, piece by piece.
use Rattle.std.proofs.Common.{◌≡◌, List, [], ◌∷◌, ◌++◌, Result, Ok, Err, refl, sym, ap, ◌∙◌}
use Rattle.cell_values.specs.declared.errors.ErrorKind.{ErrorKind}
use Rattle.functions.specs.Folds.{fold_of_values}
use Rattle.functions.specs.Inputs.{all_ok, with_first}

-- a fold takes the first value first
pub folded-first : {S A : Type 0} (f : S → A → S) (s : S) (x : A) (r : Result (List A) ErrorKind) → fold_of_values f s (with_first x r) ≡ fold_of_values f (f s x) r
folded-first f s x (Ok xs) = refl
folded-first f s x (Err e) = refl

-- where the front of a list gives a fold, the whole goes on from it
pub folded-append : {S A : Type 0} (f : S → A → S) (s t : S) (xs ys : List (Result A ErrorKind)) → fold_of_values f s (all_ok xs) ≡ Ok t
    → fold_of_values f s (all_ok (xs ++ ys)) ≡ fold_of_values f t (all_ok ys)
folded-append f s t [] ys e = let same : s ≡ t = cc in ap (λ u. fold_of_values f u (all_ok ys)) same
folded-append f s t (Ok x ∷ xs) ys e =
    folded-first f s x (all_ok (xs ++ ys)) ∙ folded-append f (f s x) t xs ys (sym (folded-first f s x (all_ok xs)) ∙ e)
folded-append f s t (Err k ∷ xs) ys e = absurd (cc)

-- where the front of a list gives an error, so does the whole
pub folded-append_err : {S A : Type 0} (f : S → A → S) (s : S) (k : ErrorKind) (xs ys : List (Result A ErrorKind)) → fold_of_values f s (all_ok xs) ≡ Err k
    → fold_of_values f s (all_ok (xs ++ ys)) ≡ Err k
folded-append_err f s k [] ys e = absurd (cc)
folded-append_err f s k (Ok x ∷ xs) ys e =
    folded-first f s x (all_ok (xs ++ ys)) ∙ folded-append_err f (f s x) k xs ys (sym (folded-first f s x (all_ok xs)) ∙ e)
folded-append_err f s k (Err j ∷ xs) ys e = e
