-- Strings with a comma between two are the first of them, and each other behind a comma.
use Rattle.std.proofs.Common.{ℕ, ◌≡◌, ◌-◌, ◌≤◌, List, [], ◌∷◌, ◌++◌, length, get_or, drop, take, map, sym, ap, ◌∙◌, arith}
use Rattle.std.proofs.lemmas.List.{append-nil, take_rest}
use Rattle.std.specs.List.{flat_map, join_with_byte}
use Rattle.cell_values.specs.Word.{quotation_of}
use Rattle.session_script.specs.Writing.{strings_text}

pub joined-first : {X : Type 0} (c : ℕ) (f : X → List ℕ) (x : X) (xs : List X) → join_with_byte c (map f (x ∷ xs)) ≡ f x ++ flat_map (λ y. c ∷ f y) xs
joined-first c f x [] = sym (append-nil (f x))
joined-first c f x (y ∷ ys) = ap (λ rest. f x ++ (c ∷ rest)) (joined-first c f y ys)

pub strings-first : (strings : List (List ℕ)) (first : List ℕ) → 1 ≤ length strings → first ≡ get_or strings 0 first → strings_text strings ≡ quotation_of first ++ flat_map (λ string. 44 ∷ quotation_of string) (take (length strings - 1) (drop 1 strings))
strings-first [] first some e = absurd (omega (arith, some))
strings-first (x ∷ xs) first some e =
    joined-first 44 quotation_of x xs
    ∙ ap (λ others. quotation_of x ++ flat_map (λ string. 44 ∷ quotation_of string) others) (sym (take_rest (x ∷ xs) 1))
    ∙ ap (λ string. quotation_of string ++ flat_map (λ string. 44 ∷ quotation_of string) (take (length (x ∷ xs) - 1) xs)) (sym e)
