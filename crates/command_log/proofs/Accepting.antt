-- An accepted value that is put at the end.
use Rattle.std.proofs.Common.{◌≡◌, ◌≤◌, ◌+◌, ℕ, suc, Bool, true, false, List, [], ◌∷◌, ◌++◌, Some, length, refl, sym, ap, subst, ◌∙◌, arith}
use Rattle.std.specs.Prelude.{if◌then◌else◌, is_some, option_to_list, unwrap_or}
use Rattle.std.specs.Map.{lookup}
use Rattle.cell_refs.specs.Cell.{same_cell}
use Rattle.cell_refs.specs.declared.grid.Cell.{Cell}
use Rattle.cell_refs.specs.declared.handles.Handle.{Handle}
use Rattle.cell_values.specs.declared.values.Value.{Value}
use Rattle.cell_refs.proofs.PublicLaws.{same_cell_is}
use Rattle.workbook.specs.declared.history.Entry.{Entry}
use Rattle.command_log.specs.Log.{AreLinked, IsBehindReturn, accepted_entry, head_of, link_at, result_at, results_from}
use Rattle.command_log.proofs.Linking.{behind_before, linked_with, results_before, results_in_steps, return_at_end}

module _ (entries : List Entry) (links : List ℕ) (heads heads' : List (Cell × ℕ)) (actor : ℕ) (handle : Handle) (value : Value)
    (old : AreLinked entries links heads)
    (set : (q : Cell) → lookup (same_cell q) heads' ≡ (if same_cell handle.cell q then Some (length entries + 1) else lookup (same_cell q) heads)) where
  abbrev entry : Entry
  entry = accepted_entry actor handle value

  -- the places behind the newest accepted values
  head_set : (q : Cell) → head_of heads' q ≡ (if same_cell handle.cell q then length entries + 1 else head_of heads q)
  head_set q = ap (λ o. unwrap_or o 0) (set q) ∙ by (same_cell handle.cell q)
    where
      by : (b : Bool) → unwrap_or (if b then Some (length entries + 1) else lookup (same_cell q) heads) 0 ≡ (if b then length entries + 1 else head_of heads q)
      by true = refl
      by false = refl

  -- what holds of the new place, and of each old one, holds of all
  each_head : (P : ℕ → Type 0) → P (length entries + 1) → ((q : Cell) → P (head_of heads q)) → (q : Cell) → P (head_of heads' q)
  each_head P new all q = subst P (sym (head_set q)) (by (same_cell handle.cell q))
    where
      by : (b : Bool) → P (if b then length entries + 1 else head_of heads q)
      by true = new
      by false = all q

  -- the new entry is a return
  is_return : is_some (result_at (entries ++ entry ∷ []) (length entries)) ≡ true
  is_return = ap is_some (return_at_end entries entry)

  behind_new : IsBehindReturn (entries ++ entry ∷ []) (length entries + 1)
  behind_new = subst (IsBehindReturn (entries ++ entry ∷ [])) (let e : suc (length entries) ≡ length entries + 1 = omega arith in e) is_return

  pub accepted_linked : AreLinked (entries ++ entry ∷ []) (links ++ head_of heads handle.cell ∷ []) heads'
  accepted_linked =
      linked_with entries links heads heads' entry (head_of heads handle.cell) old (old.within handle.cell) (old.newest handle.cell)
      (each_head (λ n. n ≤ length entries + 1) (omega arith) (λ q. omega (arith, old.within q)))
      (each_head (IsBehindReturn (entries ++ entry ∷ [])) behind_new (λ q. behind_before entries entry (head_of heads q) (old.newest q)))

  -- the accepted values of each cell
  pub accepted_results : (q : Cell) → results_from (entries ++ entry ∷ []) (links ++ head_of heads handle.cell ∷ []) (head_of heads' q) (head_of heads' q)
      ≡ (if same_cell handle.cell q then (handle.site, value) ∷ results_from entries links (head_of heads q) (head_of heads q)
      else results_from entries links (head_of heads q) (head_of heads q))
  accepted_results q = ap (λ n. results_from es ls n n) (head_set q) ∙ by (same_cell handle.cell q) refl
    where
      es : List Entry
      es = entries ++ entry ∷ []

      ls : List ℕ
      ls = links ++ head_of heads handle.cell ∷ []

      before : (steps head : ℕ) → head ≤ length entries → IsBehindReturn entries head → results_from es ls steps head ≡ results_from entries links steps head
      before = results_before entries links entry (head_of heads handle.cell) old.lengths old.back old.returns

      at_end : (ls' : List ℕ) (link : ℕ) → link_at (ls' ++ link ∷ []) (length ls') ≡ link
      at_end [] link = refl
      at_end (l ∷ ls') link = let one : length (l ∷ ls') ≡ suc (length ls') = omega arith in ap (link_at (l ∷ ls' ++ link ∷ [])) one ∙ at_end ls' link

      by : (b : Bool) → same_cell handle.cell q ≡ b → results_from es ls (if b then length entries + 1 else head_of heads q) (if b then length entries + 1 else head_of heads q)
          ≡ (if b then (handle.site, value) ∷ results_from entries links (head_of heads q) (head_of heads q) else results_from entries links (head_of heads q) (head_of heads q))
      by false apart = before (head_of heads q) (head_of heads q) (old.within q) (old.newest q)
      by true same =
          let n = length entries in
          let one : n + 1 ≡ suc n = omega arith in
          let link : link_at ls n ≡ head_of heads q = ap (link_at ls) (sym old.lengths) ∙ at_end links (head_of heads handle.cell) ∙ ap (head_of heads) (same_cell_is handle.cell q same) in
          ap (λ m. results_from es ls m m) one
          ∙ ap (λ r. option_to_list r ++ results_from es ls n (link_at ls n)) (return_at_end entries entry)
          ∙ ap (λ rest. (handle.site, value) ∷ rest)
          (ap (results_from es ls n) link ∙ before n (head_of heads q) (old.within q) (old.newest q)
          ∙ results_in_steps entries links old.back n (head_of heads q) (head_of heads q) (old.within q) (omega arith))
