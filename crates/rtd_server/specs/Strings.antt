-- The strings of a topic.
use Rattle.std.specs.Prelude.{◌≡◌, ℕ, Bool, true, false, ◌&&◌, IsTrue, List, [], ◌∷◌, nat_eq}
use Rattle.std.specs.Cmp.Lexicographic.{pointwise}
use Rattle.std.specs.Hash as fed
use Rattle.std.specs.List.{flat_map}
use Rattle.std.proofs.Common.{ap, refl}
use Rattle.std.proofs.lemmas.Bool.{eqb-true}

-- the strings of a topic, each by its bytes
abbrev pub Strings : Type 0
Strings = List (List ℕ)

-- whether two lists of strings are equal
abbrev pub same_strings : Strings → Strings → Bool
same_strings s t = pointwise (pointwise nat_eq) s t

-- what a hasher is fed of strings
abbrev pub strings_input : Strings → List (List ℕ)
strings_input s = flat_map fed.str s

-- the first of two tests that hold together
first_true : (b c : Bool) → (b && c) ≡ true → b ≡ true
first_true true c h = refl
first_true false c h = h

-- the second of two tests that hold together
second_true : (b c : Bool) → (b && c) ≡ true → c ≡ true
second_true true c h = h
second_true false true h = refl
second_true false false h = h

-- lists that a test finds equal, which finds only equal items equal, are equal
equal_lists : {X : Type 0} (same : X → X → Bool) → ((x y : X) → same x y ≡ true → x ≡ y) → (xs ys : List X) → pointwise same xs ys ≡ true → xs ≡ ys
equal_lists same equal [] [] h = refl
equal_lists same equal [] (y ∷ ys) h = cc
equal_lists same equal (x ∷ xs) [] h = cc
equal_lists same equal (x ∷ xs) (y ∷ ys) h = λ i. equal x y (first_true (same x y) (pointwise same xs ys) h) i ∷ equal_lists same equal xs ys (second_true (same x y) (pointwise same xs ys) h) i

-- the same strings are equal
pub same_strings_is : (s t : Strings) → same_strings s t ≡ true → s ≡ t
same_strings_is s t h = equal_lists (pointwise nat_eq) (equal_lists nat_eq eqb-true) s t h

-- the same strings are hashed alike
pub same_strings_input : (s t : Strings) → IsTrue (same_strings s t) → strings_input s ≡ strings_input t
same_strings_input s t h = ap strings_input (same_strings_is s t h)
