use Rattle.std.proofs.Common.{refl, sym, ◌∙◌}
use Rattle.cell_refs.proofs.Front.{nothing_read, nothing_stands, something_read, stands_from_read, stands_long}
use Rattle.cell_refs.proofs.reading.read_ref.Goals as goal

pub returns-in_err-reference-clause-none : goal.returns-in_err-reference-clause-none
returns-in_err-reference-clause-none c =
    rw c.from_residual.ensures (nothing_stands c.args.text.now (nothing_read c.args.text.now (sym c.in_err-reference.ensures.value)))

pub returns-in_err-reference-clause-exact : goal.returns-in_err-reference-clause-exact
returns-in_err-reference-clause-exact c = c.from_residual.ensures ∙ sym (nothing_read c.args.text.now (sym c.in_err-reference.ensures.value))

pub returns-clause-found : goal.returns-clause-found
returns-clause-found c =
    stands_from_read c.args.text.now _ _ (something_read c.args.text.now c.in_ok-reference.rest.now _ _ (sym c.in_ok-reference.ensures.value) refl)

pub returns-clause-exact : goal.returns-clause-exact
returns-clause-exact c = sym (something_read c.args.text.now c.in_ok-reference.rest.now _ _ (sym c.in_ok-reference.ensures.value) refl)

pub returns-clause-length : goal.returns-clause-length
returns-clause-length c =
    let stands = stands_from_read c.args.text.now c.in_ok-reference.reference _ (something_read c.args.text.now c.in_ok-reference.rest.now _ _ (sym c.in_ok-reference.ensures.value) refl) in
    (stands_long _ _ _ stands, stands.within)
