-- Arguments, the first and the others.
use Rattle.std.proofs.Common.{ℕ, ◌≡◌, ◌-◌, ◌≤◌, List, [], ◌∷◌, ◌++◌, length, get_or, drop, take, map, sym, ap, ◌∙◌, arith}
use Rattle.std.proofs.lemmas.List.{append-nil, take_rest}
use Rattle.std.specs.List.{flat_map, join_with_byte}
use Rattle.cell_values.specs.declared.values.Value.{Value}
use Rattle.cell_values.specs.Word.{value_text}
use Rattle.sheet_print.specs.Replies.{arguments_text}

-- pieces with a byte between two are the first, and each other behind that byte
pub joined-first : {X : Type 0} (c : ℕ) (f : X → List ℕ) (x : X) (xs : List X) → join_with_byte c (map f (x ∷ xs)) ≡ f x ++ flat_map (λ y. c ∷ f y) xs
joined-first c f x [] = sym (append-nil (f x))
joined-first c f x (y ∷ ys) = ap (λ rest. f x ++ (c ∷ rest)) (joined-first c f y ys)

-- the value words of arguments, the first taken apart
pub arguments-first : (args : List Value) (first : Value) → 1 ≤ length args → first ≡ get_or args 0 first → arguments_text args ≡ value_text first ++ flat_map (λ v. 44 ∷ value_text v) (take (length args - 1) (drop 1 args))
arguments-first [] first some e = absurd (omega (arith, some))
arguments-first (x ∷ xs) first some e =
    joined-first 44 value_text x xs
    ∙ ap (λ others. value_text x ++ flat_map (λ w. 44 ∷ value_text w) others) (sym (take_rest (x ∷ xs) 1))
    ∙ ap (λ v. value_text v ++ flat_map (λ w. 44 ∷ value_text w) (take (length (x ∷ xs) - 1) xs)) (sym e)
