use Rattle.std.proofs.Common.{ap, ◌==◌}
use Rattle.cell_refs.proofs.Listing.{begins}
use Rattle.cell_refs.proofs.areas.Area.cells.Goals as goal

pub returns : goal.returns
returns c = begins c.args.self.now _ (ap (λ n. n == 0) c.size.ensures.product)
