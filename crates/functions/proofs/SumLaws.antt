-- The sum of arguments in two parts.
use Rattle.std.proofs.Common.{◌≡◌, List, [], ◌∷◌, ◌++◌, Result, Ok, Err, fold, ℤ, pos, ◌+ℤ◌, refl, sym, ap, ◌∙◌, arith}
use Rattle.std.proofs.lemmas.Grind.{flat_map-append}
use Rattle.std.proofs.lemmas.List.Sums.{fold-append}
use Rattle.std.proofs.lemmas.Int.{ints}
use Rattle.cell_values.specs.declared.errors.ErrorKind.{ErrorKind}
use Rattle.cell_values.specs.declared.values.Value.TheVariants as values
use Rattle.cell_values.specs.Value.{within_magnitude, add_of}
use Rattle.functions.specs.declared.arguments.Arg.{Arg}
use Rattle.functions.specs.Inputs.{all_ok, with_first}
use Rattle.functions.specs.Gathering.{of_numbers, total, numbers_or_error, numbers_of, numbers_in, sum_of}
use Rattle.functions.proofs.NumberLaws.{num_is}

shared_first : {A : Type 0} (x : A) (r : Result (List A) ErrorKind) (zs : List A) → with_first x r ≡ Ok zs → (ys : List A) × (r ≡ Ok ys) × (zs ≡ x ∷ ys)
shared_first x (Ok ys) zs e = (ys, refl, cc)
shared_first x (Err k) zs e = absurd (cc)

all_ok-append : {A : Type 0} (xs ys : List (Result A ErrorKind)) (ns ms : List A) → all_ok xs ≡ Ok ns → all_ok ys ≡ Ok ms → all_ok (xs ++ ys) ≡ Ok (ns ++ ms)
all_ok-append [] ys ns ms e f = let none : [] ≡ ns = cc in f ∙ ap (λ ls. Ok (ls ++ ms)) none
all_ok-append (Err k ∷ xs) ys ns ms e f = absurd (cc)
all_ok-append (Ok x ∷ xs) ys ns ms e f =
    let parts = shared_first x (all_ok xs) ns e in
    ap (with_first x) (all_ok-append xs ys parts.0 ms parts.1 f) ∙ ap (λ ls. Ok (ls ++ ms)) (sym parts.2)

total_from : (a : ℤ) (ns : List ℤ) → fold ◌+ℤ◌ a ns ≡ a +ℤ total ns
total_from a [] = omega (arith, ints)
total_from a (n ∷ ns) =
    let more = total_from (a +ℤ n) ns in
    let whole = total_from (pos 0 +ℤ n) ns in
    omega (arith, ints)

total-append : (ns ms : List ℤ) → total (ns ++ ms) ≡ total ns +ℤ total ms
total-append ns ms = fold-append ◌+ℤ◌ (pos 0) ns ms ∙ total_from (total ns) ms

numbers_of_sum : (r : Result (List ℤ) ErrorKind) (a : ℤ) → of_numbers (λ ns. within_magnitude (total ns)) r ≡ values.Num a
    → (ns : List ℤ) × (r ≡ Ok ns) × (total ns ≡ a)
numbers_of_sum (Err e) a h = absurd (cc)
numbers_of_sum (Ok ns) a h = (ns, refl, num_is (total ns) a h)

-- the sum of arguments in two parts is the sum of the parts' sums, where these are within the magnitude
pub sum_of-append : (xs ys : List Arg) (a b : ℤ) → sum_of xs ≡ values.Num a → sum_of ys ≡ values.Num b → sum_of (xs ++ ys) ≡ add_of (sum_of xs) (sum_of ys)
sum_of-append xs ys a b e f =
    let first = numbers_of_sum (numbers_or_error xs) a e in
    let second = numbers_of_sum (numbers_or_error ys) b f in
    let all : numbers_or_error (xs ++ ys) ≡ Ok (first.0 ++ second.0) =
    ap all_ok (flat_map-append numbers_of xs ys) ∙ all_ok-append (numbers_in xs) (numbers_in ys) first.0 second.0 first.1 second.1 in
    ap (λ r. of_numbers (λ ns. within_magnitude (total ns)) r) all
    ∙ ap within_magnitude (total-append first.0 second.0 ∙ ap (λ k. k +ℤ total second.0) first.2 ∙ ap (λ k. a +ℤ k) second.2)
    ∙ sym (ap (λ v. add_of v (sum_of ys)) e ∙ ap (λ v. add_of (values.Num a) v) f)
