-- What the tallies of gathered numbers come to.
use Rattle.std.proofs.Common.{◌≡◌, zero, suc, ◌<◌, false, cond, List, [], ◌∷◌, Result, Ok, Err, Some, None, fold, ℤ, pos, negsuc, ◌+ℤ◌, ◌*ℤ◌, unsigned_abs, unwrap_or, inl, inr, refl, sym, ap, ◌∙◌, arith}
use Rattle.std.proofs.Math.IntN.{*ℤ-zero}
use Rattle.std.proofs.Math.Nat.{le-mul_of_pos_right}
use Rattle.std.proofs.lemmas.Int.{unsigned_abs-mul}
use Rattle.std.proofs.lemmas.Map.Lookups.{exact_signed}
use Rattle.std.proofs.lemmas.Map.Views.{tells_apart}
use Rattle.std.specs.Int.{int_max, int_min}
use Rattle.std.specs.Ordering.{int_eq}
use Rattle.cell_values.specs.declared.errors.ErrorKind.{ErrorKind}
use Rattle.cell_values.specs.declared.errors.ErrorKind.TheVariants as errors
use Rattle.cell_values.specs.declared.values.Value.TheVariants as values
use Rattle.cell_values.specs.Value.{within_magnitude}
use Rattle.functions.specs.declared.tallies.Sum.{Sum}
use Rattle.functions.specs.declared.tallies.Least.{Least}
use Rattle.functions.specs.declared.tallies.Greatest.{Greatest}
use Rattle.functions.specs.declared.tallies.Product.{Product}
use Rattle.functions.specs.declared.tallies.Product.TheVariants.{Empty, Within, Beyond}
use Rattle.functions.specs.Folds.{fold_of_values}
use Rattle.cell_values.specs.Value.{is_in_magnitude}
use Rattle.functions.proofs.NumberLaws.{outside, far_from, choice}
use Rattle.functions.specs.Gathering.{of_numbers, total, least_of, greatest_of, product}
use Rattle.functions.specs.Tallies.{sum_step, least_step, greatest_step, product_step, product_so_far, product_value}

sum_is : (m : ℤ) (ns : List ℤ) → (fold sum_step (record { 0 = m }) ns).0 ≡ fold ◌+ℤ◌ m ns
sum_is m [] = refl
sum_is m (n ∷ ns) = sum_is (m +ℤ n) ns

-- a tally of sums is the total
pub summed : (r : Result (List ℤ) ErrorKind) (s : Sum) → fold_of_values sum_step (record { 0 = pos 0 }) r ≡ Ok s
    → within_magnitude s.0 ≡ of_numbers (λ ns. within_magnitude (total ns)) r
summed (Err e) s h = absurd (cc)
summed (Ok ns) s h =
    let same : fold sum_step (record { 0 = pos 0 }) ns ≡ s = cc in
    ap (λ (t : Sum). within_magnitude t.0) (sym same) ∙ ap within_magnitude (sum_is (pos 0) ns)

least_is : (m : ℤ) (ns : List ℤ) → (fold least_step (record { 0 = Some m }) ns).0 ≡ Some (fold int_min m ns)
least_is m [] = refl
least_is m (n ∷ ns) = least_is (int_min m n) ns

-- a tally of the least is the least
pub least_kept : (r : Result (List ℤ) ErrorKind) (s : Least) → fold_of_values least_step (record { 0 = None }) r ≡ Ok s
    → values.Num (unwrap_or s.0 (pos 0)) ≡ of_numbers (λ ns. values.Num (least_of ns)) r
least_kept (Err e) s h = absurd (cc)
least_kept (Ok []) s h =
    let same : record { 0 = None } ≡ s = cc in
    ap (λ (t : Least). values.Num (unwrap_or t.0 (pos 0))) (sym same)
least_kept (Ok (n ∷ ns)) s h =
    let same : fold least_step (record { 0 = Some n }) ns ≡ s = cc in
    ap (λ (t : Least). values.Num (unwrap_or t.0 (pos 0))) (sym same) ∙ ap (λ o. values.Num (unwrap_or o (pos 0))) (least_is n ns)

greatest_is : (m : ℤ) (ns : List ℤ) → (fold greatest_step (record { 0 = Some m }) ns).0 ≡ Some (fold int_max m ns)
greatest_is m [] = refl
greatest_is m (n ∷ ns) = greatest_is (int_max m n) ns

-- a tally of the greatest is the greatest
pub greatest_kept : (r : Result (List ℤ) ErrorKind) (s : Greatest) → fold_of_values greatest_step (record { 0 = None }) r ≡ Ok s
    → values.Num (unwrap_or s.0 (pos 0)) ≡ of_numbers (λ ns. values.Num (greatest_of ns)) r
greatest_kept (Err e) s h = absurd (cc)
greatest_kept (Ok []) s h =
    let same : record { 0 = None } ≡ s = cc in
    ap (λ (t : Greatest). values.Num (unwrap_or t.0 (pos 0))) (sym same)
greatest_kept (Ok (n ∷ ns)) s h =
    let same : fold greatest_step (record { 0 = Some n }) ns ≡ s = cc in
    ap (λ (t : Greatest). values.Num (unwrap_or t.0 (pos 0))) (sym same) ∙ ap (λ o. values.Num (unwrap_or o (pos 0))) (greatest_is n ns)

not_zero : (n : ℤ) → int_eq n (pos 0) ≡ false → 0 < unsigned_abs n
not_zero (pos zero) e = absurd (cc)
not_zero (pos (suc n)) e = omega arith
not_zero (negsuc n) e = omega arith

times_beyond : (p n : ℤ) → 999999999999999 < unsigned_abs p → 0 < unsigned_abs n → 999999999999999 < unsigned_abs (p *ℤ n)
times_beyond p n far some = omega (arith, unsigned_abs-mul p n, le-mul_of_pos_right (unsigned_abs p) some)

-- what is kept of a product that is outside the magnitude stays outside, but for a factor 0
beyond_times : (p n : ℤ) → 999999999999999 < unsigned_abs p → product_step Beyond n ≡ product_so_far (p *ℤ n)
beyond_times p n far = elim (choice (int_eq n (pos 0))) [
  | inl e ↦ (let none : n ≡ pos 0 = tells_apart exact_signed n (pos 0) e in
      ap (λ b. cond b (Within (pos 0)) Beyond) e ∙ ap product_so_far (sym (ap (λ k. p *ℤ k) none ∙ *ℤ-zero p)))
  | inr e ↦ ap (λ b. cond b (Within (pos 0)) Beyond) e
      ∙ sym (ap (λ b. cond b (Within (p *ℤ n)) Beyond) (outside (p *ℤ n) (times_beyond p n far (not_zero n e))))
]

known_times : (p n : ℤ) → product_step (product_so_far p) n ≡ product_so_far (p *ℤ n)
known_times p n = elim (choice (is_in_magnitude p)) [
  | inl e ↦ ap (λ b. product_step (cond b (Within p) Beyond) n) e
  | inr e ↦ ap (λ b. product_step (cond b (Within p) Beyond) n) e ∙ beyond_times p n (far_from p e)
]

product_is : (p : ℤ) (ns : List ℤ) → fold product_step (product_so_far p) ns ≡ product_so_far (fold ◌*ℤ◌ p ns)
product_is p [] = refl
product_is p (n ∷ ns) = ap (λ s. fold product_step s ns) (known_times p n) ∙ product_is (p *ℤ n) ns

shown_known : (p : ℤ) → product_value (product_so_far p) ≡ within_magnitude p
shown_known p = elim (choice (is_in_magnitude p)) [
  | inl e ↦ ap (λ b. product_value (cond b (Within p) Beyond)) e ∙ sym (ap (λ b. cond b (values.Num p) (values.Error errors.Num)) e)
  | inr e ↦ ap (λ b. product_value (cond b (Within p) Beyond)) e ∙ sym (ap (λ b. cond b (values.Num p) (values.Error errors.Num)) e)
]

-- a tally of products is the product
pub multiplied : (r : Result (List ℤ) ErrorKind) (s : Product) → fold_of_values product_step Empty r ≡ Ok s
    → product_value s ≡ of_numbers (λ ns. within_magnitude (product ns)) r
multiplied (Err e) s h = absurd (cc)
multiplied (Ok []) s h = let same : Empty ≡ s = cc in ap product_value (sym same)
multiplied (Ok (n ∷ ns)) s h =
    let same : fold product_step (product_so_far n) ns ≡ s = cc in
    ap product_value (sym same ∙ product_is n ns) ∙ shown_known (fold ◌*ℤ◌ n ns)
