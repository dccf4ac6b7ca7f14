-- News that are sorted in, and taken out.
use Rattle.std.proofs.Common.{◌≡◌, ℕ, Bool, true, false, cond, List, [], ◌∷◌, ◌++◌, Option, None, Some, refl, ap, ◌∙◌, rules}
use Rattle.std.specs.Prelude.{nat_eq, not, filter}
use Rattle.std.specs.Map.{lookup}
use Rattle.std.proofs.lemmas.Bool.{eqb-true}
use Rattle.cell_values.specs.declared.values.Value.{Value}

pub nat_eq-symm : (a b : ℕ) → nat_eq a b ≡ nat_eq b a
nat_eq-symm a b = search (rules)

-- a look-up at a test and its turned form
turned : (a b : Bool) (v w : Option Value) → a ≡ b → cond a v w ≡ cond b v w
turned a b v w e = ap (λ t. cond t v w) e

-- the last of those that came goes to the sorted ones
pub sorted_in : (front old new : List (ℕ × Value)) (id : ℕ) (v : Value)
    → ((q : ℕ) → lookup (nat_eq q) new ≡ cond (nat_eq id q) (Some v) (lookup (nat_eq q) old))
    → (q : ℕ) → lookup (nat_eq q) (front ++ new) ≡ lookup (nat_eq q) ((front ++ (id, v) ∷ []) ++ old)
sorted_in [] old new id v put q = put q ∙ turned (nat_eq id q) (nat_eq q id) (Some v) (lookup (nat_eq q) old) (nat_eq-symm id q)
sorted_in (e ∷ front) old new id v put q = ap (cond (nat_eq q e.0) (Some e.1)) (sorted_in front old new id v put q)

-- a look-up among those that came, where the first of them may be left out
first_left_out : (test : ℕ → Bool) (p : Bool) (e : ℕ × Value) (es new : List (ℕ × Value))
    → lookup test (cond (not p) (e ∷ es) es ++ new) ≡ cond (not p) (cond (test e.0) (Some e.1) (lookup test (es ++ new))) (lookup test (es ++ new))
first_left_out test true e es new = refl
first_left_out test false e es new = refl

-- one that came is taken out where it is of the id
one_removed : (p a d : Bool) (v : Value) (kept all : Option Value) → kept ≡ cond d None all → (p ≡ true → a ≡ d) → (p ≡ false → a ≡ true → d ≡ false)
    → cond (not p) (cond a (Some v) kept) kept ≡ cond d None (cond a (Some v) all)
one_removed true true true v kept all h same other = h
one_removed true true false v kept all h same other = absurd (cc (same refl))
one_removed true false true v kept all h same other = h
one_removed true false false v kept all h same other = h
one_removed false true true v kept all h same other = absurd (cc (other refl refl))
one_removed false true false v kept all h same other = refl
one_removed false false d v kept all h same other = h

-- the news of an id are taken out of those that came and of the sorted ones
pub removed : (given old new : List (ℕ × Value)) (id : ℕ)
    → ((q : ℕ) → lookup (nat_eq q) new ≡ cond (nat_eq id q) None (lookup (nat_eq q) old))
    → (q : ℕ) → lookup (nat_eq q) (filter (λ (e : ℕ × Value). not (nat_eq e.0 id)) given ++ new) ≡ cond (nat_eq id q) None (lookup (nat_eq q) (given ++ old))
removed [] old new id out q = out q
removed (e ∷ given) old new id out q =
    first_left_out (nat_eq q) (nat_eq e.0 id) e (filter (λ (x : ℕ × Value). not (nat_eq x.0 id)) given) new
    ∙ one_removed (nat_eq e.0 id) (nat_eq q e.0) (nat_eq id q) e.1 (lookup (nat_eq q) (filter (λ (x : ℕ × Value). not (nat_eq x.0 id)) given ++ new)) (lookup (nat_eq q) (given ++ old))
    (removed given old new id out q)
    (λ same. ap (nat_eq q) (eqb-true e.0 id same) ∙ nat_eq-symm q id)
    (λ other here. ap (nat_eq id) (eqb-true q e.0 here) ∙ nat_eq-symm id e.0 ∙ other)
