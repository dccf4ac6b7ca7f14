use Rattle.std.proofs.Common.{◌≡◌, ◌+◌, ◌++◌, ◌∷◌, [], length, ap, sym, subst, ◌∙◌}
use Rattle.std.specs.Prelude.{Some, if◌then◌else◌}
use Rattle.std.specs.Map.{lookup}
use Rattle.cell_refs.specs.Cell.{same_cell}
use Rattle.cell_refs.specs.declared.grid.Cell.{Cell}
use Rattle.command_log.specs.Log.{AreLinked, accepted_entry, head_of, results_from, results_of}
use Rattle.command_log.proofs.Accepting.{accepted_linked, accepted_results}
use Rattle.command_log.proofs.Linking.{length_with}
use Rattle.command_log.proofs.logs.CommandLog.accept.Goals as goal

-- the new place of the cell
place_set : (c : goal.After-set) → (q : Cell) → lookup (same_cell q) c.set.new.self.places
    ≡ (if same_cell c.args.handle.cell q then Some (length c.self.inside.entries.items + 1) else lookup (same_cell q) c.self.inside.heads.places)
place_set c q =
    c.set.ensures.place q
    ∙ ap (λ n. if same_cell c.args.handle.cell q then Some n else lookup (same_cell q) c.self.inside.heads.places)
    (c.len.ensures ∙ c.push_reserved.new.items.ok.0 ∙ ap length c.push_reserved.ensures.items ∙ length_with c.self.inside.entries.items (accepted_entry c.args.actor c.args.handle c.args.value))

-- the new links
links_with : (c : goal.After-set) → c.push_reserved-2.new.items.items ≡ c.self.inside.links.items ++ head_of c.self.inside.heads.places c.args.handle.cell ∷ []
links_with c = c.push_reserved-2.ensures.items ∙ ap (λ link. c.self.inside.links.items ++ link ∷ []) c.get-link.ensures

pub invariant_of-self : goal.invariant_of-self
invariant_of-self c =
    subst (λ entries. AreLinked entries c.push_reserved-2.new.items.items c.set.new.self.places) (sym c.push_reserved.ensures.items)
    (subst (λ links. AreLinked (c.self.inside.entries.items ++ accepted_entry c.args.actor c.args.handle c.args.value ∷ []) links c.set.new.self.places) (sym (links_with c))
    (accepted_linked c.self.inside.entries.items c.self.inside.links.items c.self.inside.heads.places c.set.new.self.places c.args.actor c.args.handle c.args.value c.self.invariant (place_set c)))

pub returns-clause-results : goal.returns-clause-results
returns-clause-results c cell =
    let head = head_of c.set.new.self.places cell in
    let new = accepted_entry c.args.actor c.args.handle c.args.value in
    ap (λ entries. results_from entries c.push_reserved-2.new.items.items head head) c.push_reserved.ensures.items
    ∙ ap (λ links. results_from (c.self.inside.entries.items ++ new ∷ []) links head head) (links_with c)
    ∙ accepted_results c.self.inside.entries.items c.self.inside.links.items c.self.inside.heads.places c.set.new.self.places c.args.actor c.args.handle c.args.value c.self.invariant (place_set c) cell
    ∙ ap (λ v. if same_cell c.args.handle.cell cell then (c.args.handle.site, c.args.value) ∷ results_of v cell else results_of v cell) c.self.view_is
