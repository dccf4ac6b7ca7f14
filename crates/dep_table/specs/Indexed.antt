-- For the crate's own functions: the index has the pairs of the readers and their areas.
use Rattle.std.specs.Prelude.{◌≡◌, List}
use Rattle.cell_refs.specs.declared.areas.Area.{Area}
use Rattle.cell_refs.specs.declared.grid.Cell.{Cell}
use Rattle.area_index.specs.declared.pairs.Pair.{Pair}
use Rattle.area_index.specs.Forests.{Forest, has_pair, names}
use Rattle.dep_table.specs.Table.{IsInOrder, areas_at}

-- the table is in order, and the index has a pair exactly where its reader names its area
pub record IsIndexed (index : Forest) (table : List (Cell × List Area)) : Type 0 where
  pub ordered : IsInOrder table
  pub pairs : (p : Pair) → has_pair index p ≡ names p.reader (areas_at table p.reader) p
