use Rattle.area_index.proofs.Readers.{are_readers}
use Rattle.area_index.proofs.area_indexes.AreaIndex.readers.Goals as goal

pub returns-clause-readers : goal.returns-clause-readers
returns-clause-readers g c = are_readers c.args.self.now c.args.cell c.in_ok-readers.readers.items c.put_in_order.new.cells.items c.in_ok-readers.ensures.found c.put_in_order.ensures.same c.put_in_order.ensures.sorted
