use Rattle.std.proofs.Common.{◌≡◌, None, sym, subst, ap, ◌∙◌}
use Rattle.std.proofs.lemmas.Result.{IfOk-weaker}
use Rattle.cell_refs.specs.declared.grid.Cell.{Cell as OneCell}
use Rattle.cell_store.specs.Listing.{sheet_from}
use Rattle.cell_store.specs.Store.{AreInOrder, entry_at, shown_at}
use Rattle.cell_store.proofs.Listed.{listed-in_order, listed-shown}
use Rattle.cell_store.proofs.stores.CellStore.sheet.Goals as goal

pub returns-clause-ordered : goal.returns-clause-ordered
returns-clause-ordered c =
    IfOk-weaker c.sheet.result (λ sheet. sheet.items ≡ sheet_from c.self.inside.present.entries None c.self.inside.before.entries) (λ sheet. AreInOrder sheet.items)
    (λ sheet is. subst (λ es. AreInOrder es) (sym is) (listed-in_order _ c.self.invariant.0 None _ c.self.invariant.1)) c.sheet.ensures

pub returns-clause-shown : goal.returns-clause-shown
returns-clause-shown c =
    IfOk-weaker c.sheet.result (λ sheet. sheet.items ≡ sheet_from c.self.inside.present.entries None c.self.inside.before.entries) (λ sheet. (q : OneCell) → entry_at sheet.items q ≡ shown_at c.args.self.now q)
    (λ sheet is q. ap (λ es. entry_at es q) is ∙ listed-shown c.self.inside.present.entries c.self.inside.before.entries c.self.invariant.1 q ∙ ap (λ store. shown_at store q) c.self.view_is) c.sheet.ensures
