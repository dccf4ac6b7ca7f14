use Rattle.std.proofs.Common.{sym, ◌*◌, ◌≡◌, ◌∙◌}
use Rattle.cell_refs.specs.Area.{size_of}
use Rattle.cell_refs.proofs.Listing.{count_cells}
use Rattle.cell_refs.proofs.areas.Area.size.Goals as goal

pub returns-clause-cells : goal.returns-clause-cells
returns-clause-cells c =
    let product : c.saturating_sub-rows.result * c.saturating_sub-columns.result ≡ size_of c.args.self.now = cc in
    product ∙ sym (count_cells c.args.self.now)
