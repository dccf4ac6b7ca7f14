-- The links from an accepted value to the one before it, as entries are put at the end.
use Rattle.std.proofs.Common.{◌≡◌, ◌≤◌, ◌<◌, ◌+◌, ℕ, zero, suc, true, false, List, [], ◌∷◌, ◌++◌, length, refl, sym, ap, subst, ◌∙◌, arith}
use Rattle.std.specs.Prelude.{is_some, option_to_list}
use Rattle.cell_refs.specs.declared.grid.Cell.{Cell}
use Rattle.workbook.specs.declared.history.Entry.{Entry}
use Rattle.command_log.specs.Log.{AreLinked, IsBehindReturn, head_of, link_at, result_at, result_of_command, results_from}

-- one place more
pub length_with : {X : Type 0} (xs : List X) (x : X) → length (xs ++ x ∷ []) ≡ length xs + 1
length_with [] x = omega arith
length_with (y ∷ xs) x = omega (arith, length_with xs x)

-- what holds of the links, and of one at the end, holds of all
pub each_link : (links : List ℕ) (link : ℕ) (P : ℕ → ℕ → Type 0) → P (length links) link → ((place : ℕ) → P place (link_at links place))
    → (place : ℕ) → P place (link_at (links ++ link ∷ []) place)
each_link [] link P last all zero = last
each_link [] link P last all (suc place) = all (suc place)
each_link (l ∷ links) link P last all zero = all zero
each_link (l ∷ links) link P last all (suc place) =
    let one : length (l ∷ links) ≡ suc (length links) = omega arith in
    each_link links link (λ q k. P (suc q) k) (subst (λ n. P n link) one last) (λ q. all (suc q)) place

-- a link before the end stays
pub link_kept : (links : List ℕ) (link place : ℕ) → place < length links → link_at (links ++ link ∷ []) place ≡ link_at links place
link_kept [] link place within = omega (arith, within)
link_kept (l ∷ links) link zero within = refl
link_kept (l ∷ links) link (suc place) within = link_kept links link place (omega (arith, within))

-- a return that stands there stays
pub return_before : (entries : List Entry) (entry : Entry) (place : ℕ) → is_some (result_at entries place) ≡ true
    → result_at (entries ++ entry ∷ []) place ≡ result_at entries place
return_before [] entry place some = let no : false ≡ true = some in cc
return_before (e ∷ entries) entry zero some = refl
return_before (e ∷ entries) entry (suc place) some = return_before entries entry place some

-- the entry at the end stands there
pub return_at_end : (entries : List Entry) (entry : Entry) → result_at (entries ++ entry ∷ []) (length entries) ≡ result_of_command entry.command
return_at_end [] entry = refl
return_at_end (e ∷ entries) entry =
    let one : length (e ∷ entries) ≡ suc (length entries) = omega arith in
    ap (result_at (e ∷ entries ++ entry ∷ [])) one ∙ return_at_end entries entry

-- a place behind a return stays so
pub behind_before : (entries : List Entry) (entry : Entry) (place : ℕ) → IsBehindReturn entries place → IsBehindReturn (entries ++ entry ∷ []) place
behind_before entries entry zero behind = tt
behind_before entries entry (suc place) behind = ap is_some (return_before entries entry place behind) ∙ behind

-- from place 0 there are none
results_of_none : (entries : List Entry) (links : List ℕ) (steps : ℕ) → results_from entries links steps 0 ≡ []
results_of_none entries links zero = refl
results_of_none entries links (suc steps) = refl

-- with as many steps as places, the values are the same
pub results_in_steps : (entries : List Entry) (links : List ℕ) → ((place : ℕ) → link_at links place ≤ place)
    → (steps more head : ℕ) → head ≤ steps → head ≤ more → results_from entries links steps head ≡ results_from entries links more head
results_in_steps entries links back steps more zero few enough = results_of_none entries links steps ∙ sym (results_of_none entries links more)
results_in_steps entries links back zero more (suc place) few enough = absurd (omega (arith, few))
results_in_steps entries links back (suc steps) zero (suc place) few enough = absurd (omega (arith, enough))
results_in_steps entries links back (suc steps) (suc more) (suc place) few enough =
    ap (λ rest. option_to_list (result_at entries place) ++ rest)
    (results_in_steps entries links back steps more (link_at links place) (omega (arith, few, back place)) (omega (arith, enough, back place)))

-- the values along the links stay, where an entry is put at the end
pub results_before : (entries : List Entry) (links : List ℕ) (entry : Entry) (link : ℕ) → length links ≡ length entries
    → ((place : ℕ) → link_at links place ≤ place) → ((place : ℕ) → IsBehindReturn entries (link_at links place))
    → (steps head : ℕ) → head ≤ length entries → IsBehindReturn entries head
    → results_from (entries ++ entry ∷ []) (links ++ link ∷ []) steps head ≡ results_from entries links steps head
results_before entries links entry link lengths back returns zero head within behind = refl
results_before entries links entry link lengths back returns (suc steps) zero within behind = refl
results_before entries links entry link lengths back returns (suc steps) (suc place) within behind =
    let same : link_at (links ++ link ∷ []) place ≡ link_at links place = link_kept links link place (omega (arith, lengths, within)) in
    ap (λ r. option_to_list r ++ results_from (entries ++ entry ∷ []) (links ++ link ∷ []) steps (link_at (links ++ link ∷ []) place)) (return_before entries entry place behind)
    ∙ ap (λ l. option_to_list (result_at entries place) ++ results_from (entries ++ entry ∷ []) (links ++ link ∷ []) steps l) same
    ∙ ap (λ rest. option_to_list (result_at entries place) ++ rest)
    (results_before entries links entry link lengths back returns steps (link_at links place) (omega (arith, within, back place)) (returns place))

-- entries and links with one more each are linked, where its link leads back to a return
pub linked_with : (entries : List Entry) (links : List ℕ) (heads heads' : List (Cell × ℕ)) (entry : Entry) (link : ℕ) → AreLinked entries links heads
    → link ≤ length entries → IsBehindReturn entries link
    → ((cell : Cell) → head_of heads' cell ≤ length entries + 1) → ((cell : Cell) → IsBehindReturn (entries ++ entry ∷ []) (head_of heads' cell))
    → AreLinked (entries ++ entry ∷ []) (links ++ link ∷ []) heads'
linked_with entries links heads heads' entry link old back behind within newest = record {
  lengths = length_with links link ∙ ap (λ n. n + 1) old.lengths ∙ sym (length_with entries entry);
  back = each_link links link (λ place l. l ≤ place) (subst (λ n. link ≤ n) (sym old.lengths) back) old.back;
  returns = each_link links link (λ place l. IsBehindReturn (entries ++ entry ∷ []) l) (behind_before entries entry link behind) (λ place. behind_before entries entry (link_at links place) (old.returns place));
  within = λ cell. subst (λ n. head_of heads' cell ≤ n) (sym (length_with entries entry)) (within cell);
  newest = newest;
}
