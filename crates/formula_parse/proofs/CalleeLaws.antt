-- A callee is written by the name that it has.
use Rattle.std.proofs.Common.{◌≡◌, ℕ, Bool, true, false, cond, List, [], ◌∷◌, Option, Some, None, codes, refl, sym, ap, ◌∙◌, ⊎_elim}
use Rattle.std.proofs.lemmas.Bool.{and_parts, cases_Bool, cond-true, cond-false}
use Rattle.std.proofs.lemmas.Option.{same_Some}
use Rattle.std.proofs.lemmas.Slice.Eq.{bytes_eq-Decides}
use Rattle.std.specs.List.{find, list_all}
use Rattle.std.specs.Str.{bytes_eq}
use Rattle.cell_values.specs.Name.{is_name}
use Rattle.functions.specs.Functions.{all_functions, function_named, word_of}
use Rattle.functions.specs.declared.functions.Function.{Function}
use Rattle.formula_parse.specs.Callees.{callee_beside, callee_named, callee_text}
use Rattle.formula_parse.specs.declared.callees.Callee.{Callee}
use Rattle.formula_parse.specs.declared.callees.Callee.TheVariants as callees

-- what is found passes the test
found_passes : {A : Type 0} (test : A → Bool) (xs : List A) (x : A) → find test xs ≡ Some x → test x ≡ true
found_passes test [] x h = absurd (cc)
found_passes test (y ∷ ys) x h =
    ⊎_elim
    (λ t. ap test (sym (same_Some y x (sym (cond-true _ _ _ t) ∙ h))) ∙ t)
    (λ f. found_passes test ys x (sym (cond-false _ _ _ f) ∙ h))
    (cases_Bool (test y))

-- two texts that are equal by a test
same_bytes : (a b : List ℕ) → bytes_eq a b ≡ true → a ≡ b
same_bytes a b h = (bytes_eq-Decides a b).0 h

-- a function that a name has is written by that name
pub function_word : (name : List ℕ) (f : Function) → function_named name ≡ Some f → name ≡ word_of f
function_word name f h = same_bytes name (word_of f) (found_passes (λ g. bytes_eq name (word_of g)) all_functions f h)

-- what is found is one of the items
found_among : {A : Type 0} (test all : A → Bool) (xs : List A) (x : A) → find test xs ≡ Some x → list_all all xs ≡ true → all x ≡ true
found_among test all [] x h a = absurd (cc)
found_among test all (y ∷ ys) x h a =
    let parts = and_parts (all y) (list_all all ys) a in
    ⊎_elim
    (λ t. ap all (sym (same_Some y x (sym (cond-true _ _ _ t) ∙ h))) ∙ parts.0)
    (λ f. found_among test all ys x (sym (cond-false _ _ _ f) ∙ h) parts.1)
    (cases_Bool (test y))

-- a name that a function has is a name, and names that function
pub function_is_callee : (name : List ℕ) (f : Function) → function_named name ≡ Some f → Some (callees.BuiltIn f) ≡ cond (is_name name) (Some (callee_named name)) None
unfolding callee_named
function_is_callee name f h =
    let named : is_name name ≡ true = ap is_name (function_word name f h) ∙ found_among (λ g. bytes_eq name (word_of g)) (λ g. is_name (word_of g)) all_functions f h refl in
    let callee : callee_named name ≡ callees.BuiltIn f = ap (callee_beside name) h in
    ap (λ x. Some x) (sym callee) ∙ sym (cond-true _ _ _ named)

-- the text of the callee that a name has is the name
pub text_of_name : (name : List ℕ) → callee_text (callee_named name) ≡ name
unfolding callee_named
text_of_name name = by_function (function_named name) refl
  where
    by_word : (is_rtd : Bool) → bytes_eq name (codes "RTD") ≡ is_rtd → callee_text (cond is_rtd callees.Rtd (callees.Added name)) ≡ name
    by_word true e = sym (same_bytes name (codes "RTD") e)
    by_word false e = refl

    by_function : (found : Option Function) → function_named name ≡ found → callee_text (callee_beside name found) ≡ name
    by_function (Some f) e = sym (function_word name f e)
    by_function None e = by_word (bytes_eq name (codes "RTD")) refl

-- a callee of a name is written by the name
pub text_of_callee : (callee : Callee) (name : List ℕ) → callee ≡ callee_named name → callee_text callee ≡ name
text_of_callee callee name e = ap callee_text e ∙ text_of_name name
