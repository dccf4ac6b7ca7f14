-- The accepted values of a cell, one after the other along the links.
use Rattle.std.proofs.Common.{◌≡◌, ◌≤◌, ◌<◌, ℕ, zero, suc, true, false, List, [], ◌∷◌, ◌++◌, None, Some, refl, sym, ap, ◌∙◌, arith}
use Rattle.std.specs.Prelude.{◌||◌, is_some, nat_eq, option_to_list}
use Rattle.std.proofs.lemmas.Bool.{eqb-true, false_from_ne_true}
use Rattle.std.proofs.lemmas.Option.{none-some}
use Rattle.cell_values.specs.declared.values.Value.{Value}
use Rattle.workbook.specs.declared.history.Entry.{Entry}
use Rattle.command_log.specs.Log.{IsBehindReturn, has_site, link_at, link_before, result_before, results_from}
use Rattle.command_log.proofs.Linking.{results_in_steps}

-- the values are the first one and those along its link
pub first_and_rest : (entries : List Entry) (links : List ℕ) → ((place : ℕ) → link_at links place ≤ place) → (head : ℕ) (r : ℕ × Value)
    → Some r ≡ result_before entries head
    → results_from entries links head head ≡ r ∷ results_from entries links (link_before links head) (link_before links head)
first_and_rest entries links back zero r is = absurd (none-some r (sym is))
first_and_rest entries links back (suc place) r is =
    ap (λ o. option_to_list o ++ results_from entries links place (link_at links place)) (sym is)
    ∙ ap (λ rest. r ∷ rest) (results_in_steps entries links back place (link_at links place) (link_at links place) (back place) (omega arith))

-- where a place is behind a return and none is found, it is 0
pub none_left : (entries : List Entry) (links : List ℕ) (head : ℕ) → IsBehindReturn entries head → None ≡ result_before entries head → results_from entries links head head ≡ []
none_left entries links zero behind none = refl
none_left entries links (suc place) behind none = absurd (let no : false ≡ true = ap is_some none ∙ behind in cc)

-- a link leads back
pub falls : (entries : List Entry) (links : List ℕ) → ((place : ℕ) → link_at links place ≤ place) → (head : ℕ) (r : ℕ × Value) → Some r ≡ result_before entries head → link_before links head < head
falls entries links back zero r is = absurd (none-some r (sym is))
falls entries links back (suc place) r is = omega (arith, back place)

-- a link stands behind a return
pub behind_link : (entries : List Entry) (links : List ℕ) → ((place : ℕ) → IsBehindReturn entries (link_at links place)) → (head : ℕ) → IsBehindReturn entries (link_before links head)
behind_link entries links returns zero = tt
behind_link entries links returns (suc place) = returns place

-- a value of another site isn't one of this site
pub other_site : (r : ℕ × Value) (rest : List (ℕ × Value)) (site : ℕ) → (r.0 ≡ site → ⊥) → has_site (r ∷ rest) site ≡ has_site rest site
other_site r rest site apart = ap (λ b. b || has_site rest site) (false_from_ne_true (nat_eq site r.0) (λ e. apart (sym (eqb-true site r.0 e))))
