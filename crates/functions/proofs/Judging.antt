-- What AND and OR make of what was seen.
use Rattle.std.proofs.Common.{◌≡◌, Bool, true, false, ◌&&◌, ◌||◌, List, [], ◌∷◌, Result, Ok, Err, fold, refl, sym, ap, ◌∙◌}
use Rattle.std.proofs.Math.Bool.{and_assoc, or_assoc}
use Rattle.std.specs.List.{list_all, list_any}
use Rattle.cell_values.specs.declared.errors.ErrorKind.{ErrorKind}
use Rattle.cell_values.specs.declared.errors.ErrorKind.TheVariants as errors
use Rattle.cell_values.specs.declared.values.Value.TheVariants as values
use Rattle.functions.specs.Folds.{fold_of_values}
use Rattle.functions.specs.Logic.{verdict_of}
use Rattle.functions.specs.Truths.{with_truth, NO_TRUTHS}
use Rattle.functions.specs.declared.truths.Truths.{Truths}

apart : false ≡ true → ⊥
apart e = cc

and_true : (a : Bool) → a ≡ (a && true)
and_true true = refl
and_true false = refl

or_false : (a : Bool) → a ≡ (a || false)
or_false true = refl
or_false false = refl

all_of : (s : Truths) (bs : List Bool) → (fold with_truth s bs).all ≡ (s.all && list_all (λ b. b) bs)
all_of s [] = and_true s.all
all_of s (b ∷ bs) = all_of (with_truth s b) bs ∙ and_assoc s.all b (list_all (λ b. b) bs)

any_of : (s : Truths) (bs : List Bool) → (fold with_truth s bs).any ≡ (s.any || list_any (λ b. b) bs)
any_of s [] = or_false s.any
any_of s (b ∷ bs) = any_of (with_truth s b) bs ∙ or_assoc s.any b (list_any (λ b. b) bs)

some_of : (s : Truths) (bs : List Bool) → s.some ≡ true → (fold with_truth s bs).some ≡ true
some_of s [] e = e
some_of s (b ∷ bs) e = some_of (with_truth s b) bs refl

-- where a boolean was seen, AND is whether all that were seen are true
pub judged_all : (r : Result (List Bool) ErrorKind) (seen : Truths) → fold_of_values with_truth NO_TRUTHS r ≡ Ok seen → seen.some ≡ true
    → values.Bool seen.all ≡ verdict_of (λ bs. list_all (λ b. b) bs) r
judged_all (Err e) seen h some = absurd (cc)
judged_all (Ok []) seen h some = let same : NO_TRUTHS ≡ seen = cc in absurd (apart (ap (λ (t : Truths). t.some) same ∙ some))
judged_all (Ok (b ∷ bs)) seen h some =
    let same : fold with_truth NO_TRUTHS (b ∷ bs) ≡ seen = cc in
    ap values.Bool (ap (λ (t : Truths). t.all) (sym same) ∙ all_of NO_TRUTHS (b ∷ bs))

-- where a boolean was seen, OR is whether any that was seen is true
pub judged_any : (r : Result (List Bool) ErrorKind) (seen : Truths) → fold_of_values with_truth NO_TRUTHS r ≡ Ok seen → seen.some ≡ true
    → values.Bool seen.any ≡ verdict_of (λ bs. list_any (λ b. b) bs) r
judged_any (Err e) seen h some = absurd (cc)
judged_any (Ok []) seen h some = let same : NO_TRUTHS ≡ seen = cc in absurd (apart (ap (λ (t : Truths). t.some) same ∙ some))
judged_any (Ok (b ∷ bs)) seen h some =
    let same : fold with_truth NO_TRUTHS (b ∷ bs) ≡ seen = cc in
    ap values.Bool (ap (λ (t : Truths). t.any) (sym same) ∙ any_of NO_TRUTHS (b ∷ bs))

-- where no boolean was seen, there is nothing to judge
pub judged_none : (f : List Bool → Bool) (r : Result (List Bool) ErrorKind) (seen : Truths) → fold_of_values with_truth NO_TRUTHS r ≡ Ok seen → seen.some ≡ false
    → values.Error errors.Value ≡ verdict_of f r
judged_none f (Err e) seen h none = absurd (cc)
judged_none f (Ok []) seen h none = refl
judged_none f (Ok (b ∷ bs)) seen h none =
    let same : fold with_truth NO_TRUTHS (b ∷ bs) ≡ seen = cc in
    absurd (apart (sym none ∙ ap (λ (t : Truths). t.some) (sym same) ∙ some_of (with_truth NO_TRUTHS b) bs refl))

-- an error that was met is the answer
pub judged_error : (f : List Bool → Bool) (r : Result (List Bool) ErrorKind) (e : ErrorKind) → fold_of_values with_truth NO_TRUTHS r ≡ Err e → values.Error e ≡ verdict_of f r
judged_error f (Err k) e h = cc
judged_error f (Ok bs) e h = absurd (cc)
